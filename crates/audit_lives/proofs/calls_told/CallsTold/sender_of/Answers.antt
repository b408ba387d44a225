-- It is what the first item tells that tells it.
use Rattle.std.proofs.Common.{◌∙◌, ap}
use Rattle.audit_lives.specs.Finds.{told_by}
use Rattle.audit_lives.specs.Finds.{sender_in}
use Rattle.audit_lives.proofs.Keeping.{kept_sender_is}
use Rattle.audit_lives.proofs.LookUps.{sender_is}
use Rattle.audit_lives.proofs.calls_told.CallsTold.sender_of.Goals as goal

pub returns : goal.returns
returns c = λ items k t.
    c.sender_by.ensures
    ∙ kept_sender_is c.args.call c.args.kept.now items c.first.result k
    ∙ ap (told_by (sender_in c.args.call) items) c.first.ensures
    ∙ sender_is c.args.self.now items c.args.call t
