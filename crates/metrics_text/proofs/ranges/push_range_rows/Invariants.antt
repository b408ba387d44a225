-- So many ranges stand there.
use Rattle.std.proofs.Common.{◌≡◌, ◌++◌, flat_map, take}
use Rattle.metrics_text.specs.Page as spec
use Rattle.metrics_text.proofs.ranges.push_range_rows.Given as goal

abbrev pub invariant-loop-figure : goal.invariant-loop-figure
invariant-loop-figure l = l.text.items ≡ l.initial.text.items ++ flat_map spec.range (take l.figure-index l.all)
