use Rattle.std.proofs.Common.{ap, ◌∙◌}
use Rattle.watch_queue.specs.Watching.{shown}
use Rattle.watch_queue.proofs.Leavers.{entered_again}
use Rattle.watch_queue.proofs.leaving.enter_again.Goals as goal

pub returns : goal.returns
returns c = λ last h z. ap shown c.enter.ensures ∙ entered_again c.args.number c.args.next c.args.created last c.args.watch.now h z
