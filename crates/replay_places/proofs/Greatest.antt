-- No ticket is greater than the greatest that was used.
use Rattle.std.proofs.Common.{◌≡◌, ℕ, ◌<◌, ◌≤◌, ◌==◌, false, List, get_or, All, refl, sym, subst, arith}
use Rattle.std.specs.Prelude.{nat_lt, max}
use Rattle.std.specs.Ordering.{nat_cmp, is_eq}
use Rattle.std.specs.BTreeSet.{BTreeSet, insert_key}
use Rattle.std.proofs.lemmas.Bool.Decides.{nat_tests}
use Rattle.std.proofs.lemmas.List.Elements.{All-from_get_or}
use Rattle.std.proofs.lemmas.List.Folds.{list_any_none}
use Rattle.std.proofs.lemmas.Map.Views.{All-insert_key}
use Rattle.world_model.specs.Places.{is_among}

abbrev pub NoneGreater : ℕ → List ℕ → Type 0
NoneGreater most tickets = All (λ ticket. ticket ≤ most) tickets

differs : (t k : ℕ) → k < t → is_eq (nat_cmp t k) ≡ false
differs t k less =
    let before : nat_lt t k ≡ false = grind (arith, nat_tests) in
    let same : (t == k) ≡ false = grind (arith, nat_tests) in
    rw (before, same) refl

pub not_among : (tickets : BTreeSet ℕ) (most t : ℕ) → NoneGreater most tickets.keys → most < t → is_among tickets t ≡ false
not_among tickets most t all less =
    list_any_none (λ k. is_eq (nat_cmp t k)) tickets.keys (All-from_get_or (λ k. is_eq (nat_cmp t k) ≡ false) tickets.keys 0 (λ i within.
    differs t (get_or tickets.keys i 0) (omega (arith, all i 0 within, less))))

pub none_greater : (before after : List ℕ) (most most' t : ℕ) → NoneGreater most before → after ≡ insert_key nat_cmp before t → most' ≡ max most t → NoneGreater most' after
none_greater before after most most' t all is greatest =
    subst (NoneGreater most') (sym is)
    (All-insert_key nat_cmp t (λ ticket. ticket ≤ most') before (λ i d within. omega (arith, all i d within, greatest)) (omega (arith, greatest)))
