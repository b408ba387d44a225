-- The first of due jobs, part by part.
use Rattle.std.proofs.Common.{◌≡◌, List, [], ◌∷◌, ◌++◌, Option, Some, refl}
use Rattle.core_model.specs.DueJobs.{Placed, earlier, earliest}

pub earliest_append : (first : Option Placed) (xs ys : List Placed) → earliest first (xs ++ ys) ≡ earliest (earliest first xs) ys
earliest_append first [] ys = refl
earliest_append first (x ∷ xs) ys = earliest_append (Some (earlier first x)) xs ys
