-- So many figures stand there.
use Rattle.std.proofs.Common.{◌≡◌, ◌++◌, flat_map, take}
use Rattle.metrics_text.specs.Series as spec
use Rattle.metrics_text.proofs.families.push_each_reply.Given as goal

abbrev pub invariant-loop-figure : goal.invariant-loop-figure
invariant-loop-figure l = l.text.items ≡ l.initial.text.items ++ flat_map spec.reply (take l.figure-index l.all)
