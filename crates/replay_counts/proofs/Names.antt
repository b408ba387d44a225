-- Which proxies and tickets are in a set, once another is put into it.
use Rattle.std.proofs.Common.{◌≡◌, ℕ, ◌==◌, Bool, true, false, ◌&&◌, ◌||◌, List, [], ◌∷◌, refl, sym, ◌∙◌, ap, arith}
use Rattle.std.specs.declared.cmp.Ordering.{Ordering}
use Rattle.std.specs.declared.cmp.Ordering.TheVariants.{Less, Equal, Greater}
use Rattle.std.specs.BTreeSet.{BTreeSet, insert_key}
use Rattle.std.specs.Ordering.{nat_cmp, ordering_then, is_eq, match_ordering}
use Rattle.std.proofs.lemmas.Bool.Decides.{nat_tests}
use Rattle.std.proofs.lemmas.Map.Lookups.{exact_pairs, exact_unsigned}
use Rattle.std.specs.List.{list_any}
use Rattle.replay_counts.specs.Tallies.{Named, named_cmp, is_in, with_name}

exact : (x y : Named) → named_cmp x y ≡ Equal → x ≡ y
exact = exact_pairs nat_cmp nat_cmp exact_unsigned exact_unsigned

swapped : (a b c : Bool) → (a || (b || c)) ≡ (b || (a || c))
swapped true true c = refl
swapped true false c = refl
swapped false b c = refl

twice : (a c : Bool) → (a || c) ≡ (a || (a || c))
twice true c = refl
twice false c = refl

-- is it this one
abbrev pub is_it : Named → Named → Bool
is_it q k = is_eq (named_cmp q k)

among : Named → List Named → Bool
among q ks = list_any (λ k. is_it q k) ks

put_among : (q k : Named) (ks : List Named) → list_any (λ y. is_it q y) (insert_key named_cmp ks k) ≡ (is_it q k || list_any (λ y. is_it q y) ks)
put_among q k [] = refl
put_among q k (x ∷ ks) =
    elim (named_cmp k x) as (λ o. named_cmp k x ≡ o → list_any (λ y. is_it q y) (match_ordering o (k ∷ x ∷ ks) (x ∷ ks) (x ∷ insert_key named_cmp ks k)) ≡ (is_it q k || list_any (λ y. is_it q y) (x ∷ ks))) [
      | Less ↦ λ e. refl
      | Equal ↦ λ e. twice (is_it q x) (list_any (λ y. is_it q y) ks) ∙ ap (λ (y : Named). is_it q y || list_any (λ y. is_it q y) (x ∷ ks)) (sym (exact k x e))
      | Greater ↦ λ e. ap (λ (b : Bool). is_it q x || b) (put_among q k ks) ∙ swapped (is_it q x) (is_it q k) (list_any (λ y. is_it q y) ks)
    ] refl

pub is_in-with_name : (names : BTreeSet Named) (q k : Named) → is_in (with_name names k) q ≡ (is_it q k || is_in names q)
is_in-with_name names q k = put_among q k names.keys

pub is_it-is : (p t q s : ℕ) → is_it (p, t) (q, s) ≡ (q == p && s == t)
is_it-is p t q s = grind (arith, nat_tests)
