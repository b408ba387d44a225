-- The order in which deadlines are kept, and when the first one comes.
use Rattle.std.specs.Prelude.{ℕ, nat_le, ◌&&◌, Bool, true, List, [], ◌∷◌}
use Rattle.shop_model.specs.declared.deadline.Deadline.{Deadline}
use Rattle.shop_model.specs.Deadlines.{deadline_number}

abbrev pub reading_of : Deadline → ℕ
reading_of d = d.at

-- none has a lower number
abbrev pub are_above : (Deadline → ℕ) → ℕ → List Deadline → Bool
are_above number n [] = true
are_above number n (d ∷ ds) = nat_le n (number d) && are_above number n ds

-- none comes before this reading of the clock
abbrev pub are_from : ℕ → List Deadline → Bool
are_from at ds = are_above reading_of at ds

-- the number of each is at least those before it
abbrev pub are_rising : List Deadline → Bool
are_rising [] = true
are_rising (d ∷ ds) = are_above deadline_number d.number ds && are_rising ds
