use Rattle.std.proofs.Common.{◌≡◌, ◌<◌, subst, arith, nat_lt}
use Rattle.watch_queue.specs.Queued.{Queued}
use Rattle.watch_model.specs.Queues.{would_pass}
use Rattle.watch_queue.specs.Shared.{values}
use Rattle.watch_queue.proofs.Heads as heads
use Rattle.watch_queue.proofs.queue.Queue.would_pass.Goals as goal

pub returns-then-self-ne0 : goal.returns-then-self-ne0
returns-then-self-ne0 c =
    let v = c.self.view_is in
    let pos : 0 < c.self.inside.shown = let t = c.if-self-ne0.true in omega (arith, t) in
    subst (λ (q : Queued). nat_lt 1024 c.saturating_add-then-self-ne0.result ≡ would_pass q.items c.args.more) v
    (heads.passes-limit c.self.inside.heads.items (values c.self.inside.events.items) c.self.inside.shown c.self.inside.within c.self.inside.shared c.self.inside.ready c.args.more c.self.invariant.0 c.self.invariant.1 pos
    c.saturating_add.result c.saturating_add-then-self-ne0.result c.saturating_add.ensures c.saturating_add-then-self-ne0.ensures)
