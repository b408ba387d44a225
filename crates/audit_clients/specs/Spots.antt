-- Where a watch stands in the history: at a revision, behind so many of its events of that revision.
use Rattle.std.specs.Prelude.{ℕ, ◌+◌, Bool, true, ◌==◌, ◌&&◌, ◌||◌, nat_le, nat_lt, if◌then◌else◌, List, [], ◌∷◌}
use Rattle.etcd_types.specs.declared.watch.Event.{Event}
use Rattle.store_model.specs.Events.{event_revision}

-- behind one event more, of this revision
abbrev pub next_spot : ℕ × ℕ → ℕ → ℕ × ℕ
next_spot spot revision = if revision == spot.0 then (spot.0, spot.1 + 1) else (revision, 1)

abbrev pub spot_behind : ℕ × ℕ → List Event → ℕ × ℕ
spot_behind spot [] = spot
spot_behind spot (e ∷ es) = spot_behind (next_spot spot (event_revision e)) es

-- none of these is of this revision or of one before, where their revisions don't fall
abbrev pub are_behind : ℕ → List Event → Bool
are_behind revision [] = true
are_behind revision (e ∷ es) = nat_lt revision (event_revision e)

-- what was taken is all up to the revision, where the rest comes next
abbrev pub has_come : ℕ × ℕ → ℕ → List Event → Bool
has_come spot revision rest = (spot.1 == 0 || nat_le spot.0 revision) && are_behind revision rest
