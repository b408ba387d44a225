-- The reads of a turn come behind those before it.
use Rattle.std.proofs.Common.{◌≤◌, ℕ, List, ◌++◌, Result, Ok, Err}
use Rattle.std.specs.Prelude.{Option}
use Rattle.std.specs.Io.KnownBytes.{Consumes, Keeps}
use Rattle.std.proofs.KnownBytes.{Consumes-trans, Consumes-kept}
use Rattle.outside.specs.Reads.{ReadsWhile, more, failed}
use Rattle.replay_input.specs.Reads.{ReadsInTurn}
use Rattle.replay_input.specs.Replays.{Has, NoneIsRefused, most_at_once}
use Rattle.replay_input.specs.declared.replay.Replay.{Replay}
use Rattle.replay_input.proofs.Turns.{none_refused}

module _ {S E : Type 0} (reads : S → ℕ → Result (List ℕ) E → S → Type 0) (left : S → Option (List ℕ)) {C : _} {g : _} (from old new : S) (start written : Option (List ℕ)) (replay : Replay C g) (read : List ℕ) (h : Has (left from) start (left old) written replay read) (r : ReadsWhile reads most_at_once NoneIsRefused from old read) where
  -- a piece came
  pub one_more : (size : ℕ) (piece : List ℕ) → size ≤ most_at_once → reads old size (Ok piece) new → ReadsWhile reads most_at_once NoneIsRefused from new (read ++ piece)
  one_more size piece small made = more piece size r (none_refused h) small made

  pub all_with : (size : ℕ) (piece : List ℕ) → size ≤ most_at_once → reads old size (Ok piece) new → Consumes (left old) (left new) piece → ReadsInTurn reads left from new
  all_with size piece small made c = record {
    read = read ++ piece;
    in_turn = one_more size piece small made;
    consumed = Consumes-trans (left from) (left old) (left new) read piece h.consumed c;
  }

  -- none came, since the input failed
  pub all_but : (size : ℕ) (why : E) → size ≤ most_at_once → reads old size (Err why) new → Keeps (left old) (left new) → ReadsInTurn reads left from new
  all_but size why small made kept = record {
    read = read;
    in_turn = failed why size r (none_refused h) small made;
    consumed = Consumes-kept (left from) (left old) (left new) read h.consumed kept;
  }
