-- A batch of which all events are chosen is given whole.
use Rattle.std.proofs.Common.{◌≡◌, ◌≤◌, Bool, true, false, cond, List, [], ◌∷◌, length, filter, refl, ap, arith}
use Rattle.etcd_types.specs.declared.watch.Event.{Event}

at_most : (b : Bool) (x : Event) (xs ys : List Event) → length ys ≤ length xs → length (cond b (x ∷ ys) ys) ≤ length (x ∷ xs)
at_most true x xs ys l = omega (arith, l)
at_most false x xs ys l = omega (arith, l)

shorter : (p : Event → Bool) (xs : List Event) → length (filter p xs) ≤ length xs
shorter p [] = omega arith
shorter p (x ∷ xs) = at_most (p x) x xs (filter p xs) (shorter p xs)

all_of : (b : Bool) (x : Event) (xs ys : List Event) → (length ys ≡ length xs → ys ≡ xs) → length ys ≤ length xs → length (cond b (x ∷ ys) ys) ≡ length (x ∷ xs) → cond b (x ∷ ys) ys ≡ x ∷ xs
all_of true x xs ys h l e = ap (λ (zs : List Event). x ∷ zs) (h (omega (arith, e)))
all_of false x xs ys h l e = absurd (omega (arith, l, e))

pub all_chosen : (p : Event → Bool) (xs : List Event) → length (filter p xs) ≡ length xs → filter p xs ≡ xs
all_chosen p [] e = refl
all_chosen p (x ∷ xs) e = all_of (p x) x xs (filter p xs) (all_chosen p xs) (shorter p xs) e
