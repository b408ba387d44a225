-- It is that of what the first item tells that tells it.
use Rattle.std.proofs.Common.{◌∙◌, ap}
use Rattle.std.specs.Option.{option_map}
use Rattle.world_model.specs.Received.{or_zero}
use Rattle.audit_lives.specs.Finds.{told_by}
use Rattle.audit_lives.specs.Given.{executed_in, reply_revision}
use Rattle.audit_lives.proofs.Keeping.{answer_revision_is}
use Rattle.audit_lives.proofs.LookUps.{answer_is}
use Rattle.audit_lives.proofs.calls_told.CallsTold.answer_revision.Goals as goal

pub returns : goal.returns
returns c = λ items k t.
    c.or_zero.ensures
    ∙ ap or_zero
    (c.answer_by.ensures
    ∙ answer_revision_is c.args.call c.args.kept.now items c.first.result k
    ∙ ap (option_map reply_revision) (ap (told_by (executed_in c.args.call) items) c.first.ensures ∙ answer_is c.args.self.now items c.args.call t))
