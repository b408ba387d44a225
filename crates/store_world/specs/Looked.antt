-- How far a watch was looked through without anything to tell it.
use Rattle.std.specs.Prelude.{◌≡◌, ◌≤◌, ◌<◌, ◌+◌, ◌&&◌, ℕ, Bool, nat_le, length}
use Rattle.etcd_types.specs.declared.request.WatchAsk.{WatchAsk}
use Rattle.store_model.specs.History.{History}
use Rattle.store_index.specs.declared.index.Index.{Index}
use Rattle.store_index.specs.Index.{HoldsKept}
use Rattle.store_reads.specs.Told.{left_to_tell}
use Rattle.store_world.specs.declared.followed.Looked.{Looked}

-- the watch is told nothing of the revisions from this one to below that one
abbrev pub IsSilent : WatchAsk → History → ℕ → ℕ → Type 0
IsSilent ask h from to = (r : ℕ) → from ≤ r → r < to → length (left_to_tell 0 ask h r 0) ≡ 0

-- what is noted holds of each history of which the index holds what is kept, unless it was compacted since
pub record IsLooked (i : Index) (l : Looked) : Type 0 where
  pub two : 2 ≤ l.from
  pub within : l.to ≤ i.newest + 1
  pub silent : i.compacted ≤ l.from → (h : History) → HoldsKept i h → IsSilent l.ask h l.from l.to

-- what is noted tells something of a read from this revision on
abbrev pub tells_of : Looked → ℕ → ℕ → Bool
tells_of l compacted from = (nat_le compacted l.from && nat_le l.from from) && nat_le from l.to
