use Rattle.std.proofs.Common.{sym, ap, ◌∙◌}
use Rattle.watch_model.specs.Due.{first_due}
use Rattle.watch_model.specs.State.{Broadcasts}
use Rattle.watch_streams.proofs.Idle.{idle_first}
use Rattle.watch_merge.proofs.broadcasts.Broadcasts.first_due.Goals as goal

pub returns-then-self-clause-due : goal.returns-then-self-clause-due
returns-then-self-clause-due c =
    sym (idle_first c.self.inside.idle c.self.inside.streams.items c.self.invariant.idle c.if-self.true) ∙ ap (λ (b : Broadcasts). first_due b.streams) c.self.view_is
