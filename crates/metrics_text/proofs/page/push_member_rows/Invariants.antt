-- So many members stand there.
use Rattle.std.proofs.Common.{◌≡◌, ◌++◌, flat_map, take}
use Rattle.metrics_text.specs.Page as spec
use Rattle.metrics_text.proofs.page.push_member_rows.Given as goal

abbrev pub invariant-loop-member : goal.invariant-loop-member
invariant-loop-member l = l.text.items ≡ l.initial.text.items ++ flat_map spec.member (take l.member-index l.all)
