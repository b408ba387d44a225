-- What is told of calls and of parts, one after the other.
use Rattle.std.proofs.Common.{◌≡◌, ℕ, Bool, List, [], ◌∷◌, ◌++◌, map, Option, None, Some, refl, sym, ap, ◌∙◌, subst, append_assoc, append-nil}
use Rattle.std.proofs.lemmas.List.{map-append}
use Rattle.outside.specs.Calls.{Adds, Handed}
use Rattle.outside.specs.declared.parts.Part.{Part}
use Rattle.proxy_service.specs.Parts.{at_home, handed_at}
use Rattle.proxy_service.specs.Told.{Hands}

pub adds_then : {A : Type 0} (a b c : Option (List A)) (xs ys : List A) → Adds a b xs → Adds b c ys → Adds a c (xs ++ ys)
adds_then a b None xs ys p q = tt
adds_then a None (Some c) xs ys p q = absurd q
adds_then None (Some b) (Some c) xs ys p q = absurd p
adds_then {A} (Some a) (Some b) (Some c) xs ys p q = q ∙ ap (λ (l : List A). l ++ ys) p ∙ append_assoc a xs ys

pub adds_none : {A : Type 0} (a : Option (List A)) → Adds a a []
adds_none None = tt
adds_none (Some a) = sym (append-nil a)

pub hands_none : {P H C : Type 0} (home_of : P → H) (a : Option (List (Handed (Part P C)))) → Hands {C = C} home_of a a []
hands_none home_of a = record { whole = []; placed = refl; told = adds_none a }

pub hands_then : {P H C : Type 0} (home_of : P → H) (a b c : Option (List (Handed (Part P C)))) (xs ys : List (Handed (Part H C)))
    → Hands home_of a b xs → Hands home_of b c ys → Hands home_of a c (xs ++ ys)
hands_then {P} {H} {C} home_of a b c xs ys p q = record {
  whole = p.whole ++ q.whole;
  placed = map-append (handed_at {C = C} home_of) p.whole q.whole ∙ (λ i. p.placed i ++ q.placed i);
  told = adds_then a b c p.whole q.whole p.told q.told;
}

-- one part, seen by its home
pub hands_one : {P H C : Type 0} (home_of : P → H) (part : Part P C) (seen : Part H C) (started : Bool) (a b : Option (List (Handed (Part P C))))
    → at_home home_of part ≡ seen → Adds a b (record { part = part; started = started } ∷ []) → Hands home_of a b (record { part = seen; started = started } ∷ [])
hands_one {P} {H} {C} home_of part seen started a b e t = record {
  whole = record { part = part; started = started } ∷ [];
  placed = ap (λ (p : Part H C). record { part = p; started = started } ∷ []) e;
  told = t;
}
