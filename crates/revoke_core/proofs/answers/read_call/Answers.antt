-- Nothing is about the call, or what its number is found at.
use Rattle.std.proofs.Common.{Option, sym, ap, subst}
use Rattle.lease_txn.specs.Results.{Reads}
use Rattle.wait_model.specs.declared.wait.WaitJob.{WaitJob}
use Rattle.revoke_core.specs.Readings.{job_read}
use Rattle.revoke_core.proofs.Searches.{found_call}
use Rattle.revoke_core.proofs.answers.read_call.Goals as goal

pub returns-in-None : goal.returns-in-None
returns-in-None c = ap (λ j. job_read c.args.prefix.now c.args.call c.args.answer j c.args.writes.now c.args.table.now.entries) c.in-None.ensures.none

pub returns-in-Some : goal.returns-in-Some
returns-in-Some c =
    let found = found_call c.args.call c.args.out.now c.in-Some.at c.index-out-at.result c.in-Some.ensures.found in
    subst (λ (j : Option WaitJob). Reads c.read_job.result (job_read c.args.prefix.now c.args.call c.args.answer j c.args.writes.now c.args.table.now.entries)) (sym found) c.read_job.ensures
