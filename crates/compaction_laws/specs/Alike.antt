-- Two states that differ at most in what a compaction let a store drop (etcd API reference, `CompactionRequest`).
use Rattle.std.specs.Prelude.{◌≡◌, ◌≤◌, ℕ, List}
use Rattle.store_model.specs.History.{History, newest}
use Rattle.store_model.specs.State.{State}
use Rattle.compaction_model.specs.Versions.{kept_versions}
use Rattle.compaction_model.specs.Places.{kept_places}

-- two histories of which a store that was compacted there keeps the same
pub record KeepSame (c : ℕ) (h g : History) : Type 0 where
  pub past : c ≤ newest h
  pub newest : newest h ≡ newest g
  pub versions : (k : List ℕ) → kept_versions h c k ≡ kept_versions g c k
  pub places : kept_places h c ≡ kept_places g c

-- all but the history is the same, and of the histories what is kept
pub record Alike (s t : State) : Type 0 where
  pub history : KeepSame s.compacted s.history t.history
  pub rest : record s { history = t.history } ≡ t
