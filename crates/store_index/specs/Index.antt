-- What an index of a history holds: of each key the versions that a compaction keeps, and which keys each revision from the
-- compaction on changed (etcd API reference, `CompactionRequest`).
use Rattle.store_model.specs.History.{History}
use Rattle.store_index.specs.declared.index.Index.{Index}
use Rattle.store_index.specs.Kept.{Keeps, KeepsSome}

-- it holds exactly what is kept of this history
abbrev pub HoldsKept : Index → History → Type 0
HoldsKept i h = Keeps i.newest i.compacted i.versions i.places h

-- each index holds what is kept of some history
abbrev pub HoldSome : Type 0
HoldSome = (i : Index) → KeepsSome i.newest i.compacted i.versions i.places
