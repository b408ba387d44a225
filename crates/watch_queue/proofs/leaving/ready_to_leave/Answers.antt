use Rattle.std.proofs.Common.{List, sym, subst}
use Rattle.watch_queue.specs.declared.watching.Watching.{Watching}
use Rattle.watch_queue.specs.Leaving.{AllReady}
use Rattle.watch_queue.proofs.Leavers.{all_ready}
use Rattle.watch_queue.proofs.leaving.ready_to_leave.Goals as goal

pub returns-clause-ready : goal.returns-clause-ready
returns-clause-ready c = subst (λ (ws : List Watching). AllReady c.args.cancellation ws) (sym c.in_ok-ready_all.ensures.ok) (all_ready c.args.cancellation c.args.watches.now.items)
