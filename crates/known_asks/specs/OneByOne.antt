-- A rule for those that pass a test alone, after which none of them passes: done to one after the other it is done to all.
use Rattle.std.specs.Prelude.{◌≡◌, ℕ, suc, Bool, false, if◌then◌else◌, List, [], ◌∷◌, Option, None, Some}
use Rattle.read_model.specs.declared.asked.Asked.{Asked}

pub record Settles (p : Asked → Bool) (f : Asked → Asked) : Type 0 where
  -- all others stay
  pub stays : (a : Asked) → p a ≡ false → f a ≡ a
  pub done : (a : Asked) → p (f a) ≡ false

abbrev pub how_many : (Asked → Bool) → List Asked → ℕ
how_many p [] = 0
how_many p (a ∷ asks) = if p a then suc (how_many p asks) else how_many p asks

-- the first that passes, in the order of asking
abbrev pub first_of : (Asked → Bool) → List Asked → Option Asked
first_of p [] = None
first_of p (a ∷ asks) = if p a then Some a else first_of p asks
