-- Keys that are bytes, and tests of all elements of parts.
use Rattle.std.proofs.Common.{◌≡◌, ℕ, ◌<◌, ◌≤◌, Bool, true, List, [], ◌∷◌, length, take, refl, sym, ap, ◌∙◌, All}
use Rattle.std.proofs.lemmas.Bool.{and_from, lt-ltb}
use Rattle.std.proofs.lemmas.List.{take_all}
use Rattle.std.proofs.lemmas.List.Elements.{All-head, All-tail}
use Rattle.std.proofs.lemmas.List.Folds.{list_all-append}
use Rattle.std.specs.List.{list_all, flat_map}
use Rattle.etcd_types.proofs.Bools.{and_first, and_second, and_both}
use Rattle.proxy_model.specs.Prefixes.{are_bytes}

pub bytes_seen : (bs : List ℕ) → All (λ b. b < 256) bs → are_bytes bs ≡ true
bytes_seen [] all = refl
bytes_seen (b ∷ bs) all = and_from _ _ (lt-ltb b 256 (All-head (λ b. b < 256) b bs all)) (bytes_seen bs (All-tail (λ b. b < 256) b bs all))

-- of all parts' elements
all_parts : {A B : Type 0} (p : B → Bool) (f : A → List B) (xs : List A) → list_all (λ x. list_all p (f x)) xs ≡ true → list_all p (flat_map f xs) ≡ true
all_parts p f [] e = refl
all_parts p f (x ∷ xs) e =
    list_all-append p (f x) (flat_map f xs)
    ∙ and_both (list_all p (f x)) (list_all p (flat_map f xs)) (and_first (list_all p (f x)) (list_all (λ y. list_all p (f y)) xs) e)
    (all_parts p f xs (and_second (list_all p (f x)) (list_all (λ y. list_all p (f y)) xs) e))

pub all_of_parts : {A B : Type 0} (p : B → Bool) (f : A → List B) (xs : List A) (i : ℕ) → length xs ≤ i → list_all (λ x. list_all p (f x)) (take i xs) ≡ true → list_all p (flat_map f xs) ≡ true
all_of_parts p f xs i h e = all_parts p f xs (ap (list_all (λ x. list_all p (f x))) (sym (take_all i xs h)) ∙ e)
