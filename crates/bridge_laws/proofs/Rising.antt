-- Floors rise in the world as in the view.
use Rattle.std.proofs.Common.{◌≡◌, ℕ, ◌≤◌, ◌==◌, max, Bool, true, false, Option, None, Some, refl, sym, ◌∙◌, ap, subst, arith}
use Rattle.proxy_model.specs.RequestRefusals.{is_session}
use Rattle.cache_laws.specs.Moves.View.{put}
use Rattle.cache_laws.proofs.Moves.Numbers.{itself, put_here, put_other}
use Rattle.world_model.specs.declared.floor.Floor.{Floor}
use Rattle.world_model.specs.Floors.{later}
use Rattle.world_model.specs.Places.{kept_at, with_kept}
use Rattle.held_laws.proofs.Kept.{kept_itself, kept_other}
use Rattle.held_laws.proofs.Worlds.{equal}
use Rattle.bridge_laws.specs.Floors.{FloorOk, FloorsRise}

none_more : (a until : ℕ) → a ≡ 0 → max a until ≤ until
none_more a until e = omega (arith, e)

both_more : (a b until : ℕ) → a ≤ b → max a until ≤ max b until
both_more a b until l = omega (arith, l)

one_floor : (f g : Floor) → Some f ≡ Some g → f ≡ g
one_floor f g e = cc

no_floor : {A : Type 0} (f : Floor) → Some f ≡ None → A
no_floor f e = absurd (cc)

pub floors_rise : FloorsRise
floors_rise holder floors leases all places number until proxy x by at h session = record {
  kept = λ n s f e. kept_by n s f e (n == number) refl;
  there = λ n s e. there_by n s e (n == number) refl;
  none = λ n s e. none_by n s e (n == number) refl;
}
  where
    new : Floor
    new = record { proxy = proxy; floor = later until (kept_at all number) }

    above : (o : Option Floor) → kept_at all number ≡ o → max (floors number) until ≤ later until o
    above None e = none_more (floors number) until (h.none number session e)
    above (Some g) e = both_more (floors number) g.floor until (h.kept number session g e).above

    newly : FloorOk holder (put floors number (max (floors number) until)) places number new
    newly = record {
      by = by;
      above = subst (λ (a : ℕ). a ≤ new.floor) (sym (put_here floors number number (max (floors number) until) (itself number))) (above (kept_at all number) refl);
      place = x;
      at = at;
    }

    kept_by : (n : ℕ) → is_session n ≡ true → (f : Floor) → kept_at (with_kept all number new) n ≡ Some f → (b : Bool) → (n == number) ≡ b → FloorOk holder (put floors number (max (floors number) until)) places n f
    kept_by n s f e true c =
        let here : n ≡ number = equal n number c in
        let same : new ≡ f = one_floor new f (sym (kept_itself all number new) ∙ ap (kept_at (with_kept all number new)) (sym here) ∙ e) in
        subst (λ (m : ℕ). FloorOk holder (put floors number (max (floors number) until)) places m f) (sym here) (subst (FloorOk holder (put floors number (max (floors number) until)) places number) same newly)
    kept_by n s f e false c =
        let o = h.kept n s f (sym (kept_other all n number new c) ∙ e) in
        record { by = o.by; above = subst (λ (a : ℕ). a ≤ f.floor) (sym (put_other floors number n (max (floors number) until) c)) o.above; place = o.place; at = o.at }

    there_by : (n : ℕ) → is_session n ≡ true → put leases number true n ≡ true → (b : Bool) → (n == number) ≡ b → (f : Floor) × (kept_at (with_kept all number new) n ≡ Some f)
    there_by n s e true c = (new, ap (kept_at (with_kept all number new)) (equal n number c) ∙ kept_itself all number new)
    there_by n s e false c =
        let t = h.there n s (sym (put_other leases number n true c) ∙ e) in
        (t.0, kept_other all n number new c ∙ t.1)

    none_by : (n : ℕ) → is_session n ≡ true → kept_at (with_kept all number new) n ≡ None → (b : Bool) → (n == number) ≡ b → put floors number (max (floors number) until) n ≡ 0
    none_by n s e true c = no_floor new (sym (kept_itself all number new) ∙ ap (kept_at (with_kept all number new)) (sym (equal n number c)) ∙ e)
    none_by n s e false c = put_other floors number n (max (floors number) until) c ∙ h.none n s (sym (kept_other all n number new c) ∙ e)
