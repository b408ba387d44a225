-- The end of a prefix's range, from the prefix's last byte.
use Rattle.std.proofs.Common.{◌≡◌, ℕ, ◌+◌, ◌<◌, List, [], ◌∷◌, ◌++◌, Some, refl, ap, arith}
use Rattle.std.proofs.lemmas.Bool.Decides.{nat_tests}
use Rattle.proxy_model.specs.Prefixes.{raised, raised_last}

pub raised-full : (xs : List ℕ) → raised (xs ++ 255 ∷ []) ≡ raised xs
raised-full [] = refl
raised-full (x ∷ xs) = ap (raised_last x) (raised-full xs)

last_below : (b : ℕ) → b < 255 → raised (b ∷ []) ≡ Some ((b + 1) ∷ [])
last_below b l = grind (arith, nat_tests)

pub raised-below : (xs : List ℕ) (b : ℕ) → b < 255 → raised (xs ++ b ∷ []) ≡ Some (xs ++ (b + 1) ∷ [])
raised-below [] b l = last_below b l
raised-below (x ∷ xs) b l = ap (raised_last x) (raised-below xs b l)

pub ruleset of_prefixes = (raised-full, raised-below)
