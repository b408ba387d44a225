-- No write asks by this call, or the first that does.
use Rattle.std.proofs.Common.{Option, sym, ap, subst}
use Rattle.lease_txn.specs.Results.{Reads}
use Rattle.wait_model.specs.declared.write.Write.{Write}
use Rattle.wait_model.specs.Writes.{asks}
use Rattle.revoke_core.specs.Readings.{revoke_read}
use Rattle.revoke_core.proofs.AnswerParts.{first_is}
use Rattle.revoke_core.proofs.answers.read_revoke.Goals as goal

pub returns-in-None : goal.returns-in-None
returns-in-None c = ap (λ o. revoke_read c.args.answer o) c.in-None.ensures.none

pub returns-in-Some : goal.returns-in-Some
returns-in-Some c =
    let first = first_is (asks c.args.call) c.args.writes.now c.in-Some.field-0 c.in-Some.ensures.found in
    subst (λ (o : Option Write). Reads c.read_asked.result (revoke_read c.args.answer o)) (sym first.1) c.read_asked.ensures
