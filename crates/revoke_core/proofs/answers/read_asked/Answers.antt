-- What the guard says.
use Rattle.std.proofs.Common.{Err, sym, subst}
use Rattle.etcd_types.specs.declared.answer.Answer.{Answer}
use Rattle.lease_txn.specs.Results.{Reads}
use Rattle.proxy_model.specs.Leaving.{guard_held}
use Rattle.revoke_core.specs.declared.answers.ReadAnswer.{ReadAnswer}
use Rattle.revoke_core.specs.declared.answers.ReadAnswer.TheVariants as read
use Rattle.revoke_core.specs.Readings.{asked_read}
use Rattle.revoke_core.proofs.ReadParts.{mapped_err}
use Rattle.revoke_core.proofs.answers.read_asked.Goals as goal

pub returns-in-Err : goal.returns-in-Err
returns-in-Err c =
    subst (λ (a : Answer). Reads {A = ReadAnswer} (Err c.in-Err.fault) (asked_read a)) (sym c.in-Done.is) (mapped_err c.in-Err.fault (λ held. read.Asked held) (guard_held c.in-Done.reply.body) c.in-Err.ensures)
