-- What holds of the watches and streams: each list in its order, and the index of the streams by range.
use Rattle.std.specs.Prelude.{ℕ, ◌≡◌, Bool, true, List}
use Rattle.watch_model.specs.State.{Stream, Watch}
use Rattle.watch_model.specs.Lookups.{numbered, tickets_from}
use Rattle.watch_streams.specs.declared.index.RangeIndex.{RangeIndex}
use Rattle.watch_streams.specs.Idle.{IsIdle}
use Rattle.watch_streams.specs.Rows.{Backed}

-- streams stand by rising numbers, of those given, and watches by rising tickets; the index, where it stands, is that of the streams, and where
-- it is known that none is due, none is
pub record Stands (given : ℕ) (ss : List Stream) (ws : List Watch) (by_range : RangeIndex) (rests : Bool) : Type 0 where
  pub numbers : numbered 0 given ss ≡ true
  pub tickets : tickets_from 0 ws ≡ true
  pub index : Backed by_range ss
  pub idle : IsIdle rests ss
