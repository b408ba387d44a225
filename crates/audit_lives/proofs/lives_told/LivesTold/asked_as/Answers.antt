-- It is what the first item of the life tells that tells it.
use Rattle.std.proofs.Common.{◌∙◌, ap}
use Rattle.audit_lives.specs.Finds.{asked_in, told_by}
use Rattle.audit_lives.proofs.Keeping.{request_is}
use Rattle.audit_lives.proofs.LookUps.{asked_is}
use Rattle.audit_lives.proofs.lives_told.LivesTold.asked_as.Goals as goal

pub returns : goal.returns
returns c = λ items k t.
    c.request_by.ensures
    ∙ request_is c.args.proxy c.args.ticket c.args.kept.now items c.first-place.result k
    ∙ ap (told_by (asked_in c.args.proxy c.args.ticket) items) c.first-place.ensures
    ∙ asked_is c.args.self.now items c.args.proxy c.args.ticket t
