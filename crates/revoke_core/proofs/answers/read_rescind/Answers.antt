-- Nothing is read, or what is doesn't matter.
use Rattle.revoke_core.specs.declared.answers.ReadAnswer.TheVariants as read
use Rattle.revoke_core.specs.Answers.{guard_told}
use Rattle.revoke_core.proofs.ReadParts.{mapped_err}
use Rattle.revoke_core.proofs.answers.read_rescind.Goals as goal

pub returns-in-Err : goal.returns-in-Err
returns-in-Err c = mapped_err c.in-Err.fault (λ held. read.Rescinded c.args.key.now c.args.create) (guard_told c.args.answer.now) c.in-Err.ensures
