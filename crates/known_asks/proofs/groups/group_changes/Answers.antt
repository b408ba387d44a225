-- They have one rank and one number.
use Rattle.known_asks.proofs.GroupMarks.{out_alike}
use Rattle.known_asks.proofs.groups.group_changes.Goals as goal

pub alike_changes-requires : goal.alike_changes-requires
alike_changes-requires g c = λ a e. c.requires a (out_alike c.args.call a e)
