-- The members of a stream, by their tickets.
use Rattle.std.specs.Prelude.{ℕ, nat_le, if◌then◌else◌, List, [], ◌∷◌, Option, None, Some}
use Rattle.watch_model.specs.State.{Watch}
use Rattle.watch_model.specs.Lookups.{is_in}

-- the tickets of the watches that belong to the stream of this number, in their order
abbrev pub members_of : ℕ → List Watch → List ℕ
members_of n [] = []
members_of n (w ∷ ws) = if is_in n w.place then w.ticket ∷ members_of n ws else members_of n ws

-- the first one that isn't below
abbrev pub first_from : ℕ → List ℕ → Option ℕ
first_from low [] = None
first_from low (t ∷ ts) = if nat_le low t then Some t else first_from low ts
