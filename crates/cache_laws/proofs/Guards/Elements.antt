-- What holds of each element of a list.
use Rattle.std.proofs.Common.{◌≡◌, List, [], ◌∷◌, ◌++◌, Contains, ◌⊎◌, inl, inr, subst, arith}
use Rattle.std.proofs.lemmas.List.Elements.{Contains-append_left, Contains-append_right, Contains-append_cases, Contains-push, Contains-push_cases}

unfoldable pub Each : {A : Type 0} → (A → Type 0) → List A → Type 0
Each P [] = Unit {0}
Each P (x ∷ xs) = P x × Each P xs

pub each_append : {A : Type 0} (P : A → Type 0) (xs ys : List A) → Each P xs → Each P ys → Each P (xs ++ ys)
unfolding Each
each_append P [] ys a b = b
each_append P (x ∷ xs) ys a b = (a.0, each_append P xs ys a.1 b)

pub each_of : {A : Type 0} (P : A → Type 0) (xs : List A) → ((x : A) → Contains xs x → P x) → Each P xs
unfolding Each
each_of P [] f = tt
each_of P (x ∷ xs) f = (f x (Contains-append_left (x ∷ []) xs x (Contains-push [] x)), each_of P xs (λ y c. f y (Contains-append_right (x ∷ []) xs y c)))

nothing_in : {A : Type 0} (x : A) → Contains [] x → ⊥
nothing_in x c = omega arith

first_or_later : {A : Type 0} (x y : A) (xs : List A) → Contains (x ∷ xs) y → (x ≡ y) ⊎ Contains xs y
first_or_later x y xs c =
    elim (Contains-append_cases (x ∷ []) xs y c) [
      | inl one ↦ elim (Contains-push_cases [] x y one) [ inl none ↦ absurd (nothing_in y none) | inr e ↦ inl e ]
      | inr d ↦ inr d
    ]

pub of_each : {A : Type 0} (P : A → Type 0) (xs : List A) (y : A) → Each P xs → Contains xs y → P y
unfolding Each
of_each P [] y a c = absurd (nothing_in y c)
of_each P (x ∷ xs) y a c =
    elim (first_or_later x y xs c) [
      | inl e ↦ subst P e a.0
      | inr d ↦ of_each P xs y a.1 d
    ]
