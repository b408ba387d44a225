-- The number that a tick draws is its proxy's, and new.
use Rattle.std.proofs.Common.{◌≡◌, ℕ, ◌+◌, ◌-◌, ◌<◌, nat_le, Bool, true, false, refl, ◌∙◌, ap, subst, arith}
use Rattle.std.proofs.Math.Nat.{mod-eq_of_lt}
use Rattle.std.proofs.lemmas.Bool.Decides.{nat_tests}
use Rattle.proxy_model.specs.declared.session.TheConstants.{FIRST_SESSION}
use Rattle.proxy_model.specs.RequestRefusals.{is_session}
use Rattle.core_model.specs.Sessions.{drawn_session}
use Rattle.world_model.specs.Places.{nth}
use Rattle.world_model.specs.State.{word}
use Rattle.bridge_laws.specs.Holder.{ticked_by, TicksDraw}

behind : (a k : ℕ) → (a + k) - a ≡ k
behind a k = omega arith

no_less : (a k : ℕ) → nat_le a (a + k) ≡ true
no_less a k = grind (arith, nat_tests)

not_below : {A : Type 0} (a k : ℕ) → a + k < a + k → A
not_below a k l = absurd (omega (arith, l))

drawn_word : (k : ℕ) → k < FIRST_SESSION → drawn_session k ≡ FIRST_SESSION + k
drawn_word k small = ap (λ (n : ℕ). FIRST_SESSION + n) (mod-eq_of_lt small)

pub ticks_draw : TicksDraw
ticks_draw lines w p h at small =
    record {
      by = ap (λ (n : ℕ). ticked_by (nth lines (n - FIRST_SESSION))) is ∙ ap (λ (n : ℕ). ticked_by (nth lines n)) (behind FIRST_SESSION (word w)) ∙ ap ticked_by at;
      reserved = ap is_session is ∙ no_less FIRST_SESSION (word w);
      new = fresh (h.view.drawn (drawn_session (word w))) refl;
    }
  where
    is : drawn_session (word w) ≡ FIRST_SESSION + word w
    is = drawn_word (word w) small

    fresh : (b : Bool) → h.view.drawn (drawn_session (word w)) ≡ b → h.view.drawn (drawn_session (word w)) ≡ false
    fresh true e = not_below FIRST_SESSION (word w) (subst (λ (n : ℕ). n < FIRST_SESSION + word w) is (h.drawn (drawn_session (word w)) e))
    fresh false e = e
