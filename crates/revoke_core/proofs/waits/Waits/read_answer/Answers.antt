-- What was read does what the answer does.
use Rattle.std.proofs.Common.{List, subst}
use Rattle.lease_txn.specs.Results.{Reads}
use Rattle.wait_model.specs.declared.wait.WaitCall.{WaitCall}
use Rattle.wait_model.specs.declared.write.Write.{Write}
use Rattle.wait_model.specs.Endings.{answered}
use Rattle.wait_model.specs.State.{Waits, owned}
use Rattle.wait_model.specs.Writes.{job_of}
use Rattle.revoke_core.specs.contracts.waits.Waits.{the_view}
use Rattle.revoke_core.specs.Readings.{IsRead, job_read, taken}
use Rattle.revoke_core.proofs.ReadParts.{answered_is_read, is_read}
use Rattle.revoke_core.proofs.waits.Waits.read_answer.Goals as goal

pub returns : goal.returns
returns c = λ session now.
    let w : Waits = the_view c.self.inside in
    let es = c.args.table.now.entries in
    let does = answered_is_read c.args.call c.args.answer session now (owned es w) c.self.invariant.proper c.len-count.ensures.in_order in
    let here = subst (λ (cs : List WaitCall). Reads c.read_call.result (job_read w.prefix c.args.call c.args.answer (job_of c.args.call cs) w.writes es)) c.deref-2.ensures.value (subst (λ (ws : List Write). Reads c.read_call.result (job_read w.prefix c.args.call c.args.answer (job_of c.args.call c.deref-2.result.now) ws es)) c.deref.ensures.value c.read_call.ensures) in
    subst (λ (v : Waits). IsRead c.read_call.result (λ r. taken c.args.call r session now (owned es v)) (answered c.args.call c.args.answer session now (owned es v))) c.self.view_is (is_read c.read_call.result _ (λ r. taken c.args.call r session now (owned es w)) _ here does)
