-- What the view's invariant says of keys that are held.
use Rattle.std.proofs.Common.{◌≡◌, ◌≢◌, ◌<◌, nat_lt, Bool, true, false, cond, refl, sym, ◌∙◌, ap, arith}
use Rattle.std.proofs.lemmas.Bool.Decides.{nat_tests}
use Rattle.cache_laws.specs.Moves.Truth.{OpeningIsTrue, HeldIsTrue, HeldIsOwned, HeldByOne, LiveSessionsStand}
use Rattle.cache_laws.proofs.Moves.SlotTurns.{slot_new}
use Rattle.cache_laws.proofs.Moves.StoreProofs.{nobody_ok}
use Rattle.cache_laws.proofs.Moves.SendProofs.{live_drew}
use Rattle.cache_laws.proofs.Moves.SessionProofs.{no_term_ok}

pub opening_is_true : OpeningIsTrue
opening_is_true holder =
    record {
      unsent = λ i l. record { covers = λ k. refl; done = refl; still = refl; untimed = refl };
      owners = λ k. nobody_ok 1 (λ create. 0);
      told = λ rev k l. nobody_ok 1 (λ create. 0);
      calls = λ i k. record { past = λ e. absurd (cc); own = λ e. absurd (cc) };
      acquires = λ i. record { under = λ a. absurd (cc); uncovered = λ a. absurd (cc) };
      outcomes = λ i. record { owners = λ k. nobody_ok 1 (λ create. 0); created = λ a. absurd (cc); past = λ a. absurd (cc); maker = λ a. absurd (cc); floor = λ n. absurd (n refl) };
      terms = λ p. no_term_ok holder (λ number. false) (λ number. 0) _ p;
      leases = λ number s l. absurd (omega arith);
      slots = λ p k. slot_new;
    }

pub held_is_true : HeldIsTrue
held_is_true holder v p k h lives held = sym ((h.slots p k).held lives held).same

pub held_is_owned : HeldIsOwned
held_is_owned holder v p k h lives held =
    let w = (h.slots p k).held lives held in
    λ i. record { create = w.created i; session = w.under i }

pub held_by_one : HeldByOne
held_by_one holder v p q k h lives_p lives_q held_p held_q =
    let of_p = ((h.slots p k).held lives_p held_p).under in
    let of_q = ((h.slots q k).held lives_q held_q).under in
    sym (live_drew p h lives_p) ∙ ap holder (sym of_p ∙ of_q) ∙ live_drew q h lives_q

pub live_sessions_stand : LiveSessionsStand
live_sessions_stand holder v p h = by_live (nat_lt (v.clocks p) (v.terms p).deadline) refl
  where
    by_live : (t : Bool) → nat_lt (v.clocks p) (v.terms p).deadline ≡ t → cond t (v.terms p).number 0 ≢ 0 → v.leases (cond t (v.terms p).number 0) ≡ true
    by_live true e n =
        let s = (h.terms p).standing n in
        h.leases (v.terms p).number s.reserved
        (let f = (h.terms p).floor n in let is = ap v.clocks s.by in let l : (v.clocks p) < (v.terms p).deadline = grind (arith, nat_tests) in omega arith)
    by_live false e n = absurd (n refl)
