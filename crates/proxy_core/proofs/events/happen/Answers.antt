-- There is a further number for a call.
use Rattle.proxy_core.proofs.LastCall.{can_send}
use Rattle.proxy_core.proofs.events.happen.Goals as goal

pub on_work-requires : goal.on_work-requires
on_work-requires c = can_send c.args.machine.now.core c.requires.ok c.requires.steps
