-- A piece of a script is read only where no line of the bytes before it is refused: so behind a refused line nothing is read, however short the pieces
-- are that the input gives.
use Rattle.std.specs.Prelude.{ℕ, List, Option, None, Some, Result, Ok, Err}
use Rattle.std.specs.Io.KnownBytes.{Consumes}
use Rattle.outside.specs.Reads.{ReadsWhile}
use Rattle.replay_model.specs.declared.ending.Ending.{Ending}
use Rattle.replay_input.specs.Replays.{Has, NoneIsRefused, most_at_once}
use Rattle.replay_input.specs.declared.replay.Replay.{Replay}
use Rattle.replay_input.specs.declared.stop.Stop.{Stop}

module _ {S E : Type 0} (reads : S → ℕ → Result (List ℕ) E → S → Type 0) (left : S → Option (List ℕ)) where
  -- from one state of the input to a later one by such reads alone, which brought the bytes that it gave meanwhile
  pub record ReadsInTurn (old new : S) : Type 0 where
    pub read : List ℕ
    pub in_turn : ReadsWhile reads most_at_once NoneIsRefused old new read
    pub consumed : Consumes (left old) (left new) read

  -- what a turn leaves of an input that was `from` at first: the replay goes on behind such reads, or they are all
  abbrev pub LeavesRead : {C : _} {g : _} → S → S → Option (List ℕ) → Option (List ℕ) → Replay C g → Result (Option Ending) Stop → Type 0
  LeavesRead from new start written replay (Ok None) =
      (read : List ℕ) × (Has (left from) start (left new) written replay read × ReadsWhile reads most_at_once NoneIsRefused from new read)
  LeavesRead from new start written replay (Ok (Some ending)) = ReadsInTurn from new
  LeavesRead from new start written replay (Err stop) = ReadsInTurn from new
