-- Memory was wanting for the status's text alone; and a script whose lines can all be taken is not refused.
use Rattle.std.proofs.Common.{refl, sym, ◌∙◌, Err}
use Rattle.replay_input.specs.declared.stop.Stop.TheVariants.{NoMemory}
use Rattle.replay_input.proofs.Turns.{left_off}
use Rattle.etcd_proxy.proofs.Complete.{never_refused}
use Rattle.etcd_proxy.proofs.ending.replay.Goals as goal

pub returns-in-Err-clause-runs : goal.returns-in-Err-clause-runs
returns-in-Err-clause-runs g c = record {
  outcome = Err NoMemory;
  status_is = refl;
  leaves = left_off _ _ _ _ c.replay_script-outcome.result c.replay_script-outcome.ensures.ended c.replay_script-outcome.ensures.stopped;
  tells = c.tell-in-Err.ensures;
}

pub returns-in-Ok-clause-complete : goal.returns-in-Ok-clause-complete
returns-in-Ok-clause-complete g c = λ s.
    let never = never_refused _ _ _ _ c.replay_script-outcome.result c.replay_script-outcome.ensures.ended s in
    (λ e. never.0 (sym c.status_of.ensures ∙ e), λ e. never.1 (sym c.status_of.ensures ∙ e))
