-- What is left, behind what was taken, is the whole.
use Rattle.std.proofs.Common.{◌≡◌, ◌+◌, length}
use Rattle.start_words.specs.Start.{each_endpoint}
use Rattle.start_words.proofs.ValueLemmas.{behind}
use Rattle.start_words.proofs.values.each_endpoint.Given as goal

abbrev pub decreases-loop-part : goal.decreases-loop-part
decreases-loop-part l = length l.parts

abbrev pub invariant-loop-part : goal.invariant-loop-part
invariant-loop-part l =
    record {
      count : length l.endpoints + length l.parts ≡ length l.initial.parts;
      value : behind l.endpoints (each_endpoint l.parts) ≡ each_endpoint l.initial.parts;
    }
