-- What is written, with the texts of what is left, is the text of all.
use Rattle.std.proofs.Common.{◌≡◌, ◌++◌, drop}
use Rattle.std.specs.Prelude.{string_bytes}
use Rattle.replay_model.specs.Transcript.{transcript_text}
use Rattle.replay_input.proofs.script.write_items.Given as goal

abbrev pub invariant-loop-item : goal.invariant-loop-item
invariant-loop-item l =
    string_bytes l.out ++ transcript_text (drop l.item-index l.items) ≡ string_bytes l.fn.out ++ transcript_text l.items
