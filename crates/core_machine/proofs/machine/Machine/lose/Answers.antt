-- The requests are as they were, and so is what they wait for.
use Rattle.std.proofs.Common.{sym, subst}
use Rattle.core_model.specs.Lookups.{reads_of}
use Rattle.read_steps.specs.Steps.{FitTogether}
use Rattle.core_machine.specs.Callers.{OneCaller}
use Rattle.core_machine.specs.Keeping.{Kept}
use Rattle.core_machine.proofs.machine.Machine.lose.Goals as goal

pub lose_job-requires-clause-caller : goal.lose_job-requires-clause-caller
lose_job-requires-clause-caller c = subst (λ (k : Kept). OneCaller k.core.asks) (sym c.self.view_is) c.requires.caller

pub lose_job-requires-clause-fit : goal.lose_job-requires-clause-fit
lose_job-requires-clause-fit c = subst (λ (k : Kept). FitTogether (reads_of k.core)) (sym c.self.view_is) c.requires.fit
