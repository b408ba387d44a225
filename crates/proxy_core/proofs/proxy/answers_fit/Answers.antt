-- By the cases of what each event gives.
use Rattle.proxy_core.proofs.Faults as faults
use Rattle.proxy_core.proofs.proxy.answers_fit.Goals as goal

pub returns : goal.returns
returns c = faults.answers_fit
