-- They have one rank and one number.
use Rattle.known_asks.proofs.GroupMarks.{out_alike}
use Rattle.known_asks.proofs.groups.change_group.Goals as goal

pub change_alike-requires : goal.change_alike-requires
change_alike-requires g c = λ a e. c.requires a (out_alike c.args.call a e)
