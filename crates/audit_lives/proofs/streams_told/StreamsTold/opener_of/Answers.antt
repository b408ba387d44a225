-- It is what the first item tells that tells it.
use Rattle.std.proofs.Common.{◌∙◌, ap}
use Rattle.audit_lives.specs.Finds.{opener_in, told_by}
use Rattle.audit_lives.proofs.Keeping.{kept_opener_is}
use Rattle.audit_lives.proofs.LookUps.{opener_is}
use Rattle.audit_lives.proofs.streams_told.StreamsTold.opener_of.Goals as goal

pub returns : goal.returns
returns c = λ items k t.
    c.opener_by.ensures
    ∙ kept_opener_is c.args.stream c.args.kept.now items c.first.result k
    ∙ ap (told_by (opener_in c.args.stream) items) c.first.ensures
    ∙ opener_is c.args.self.now items c.args.stream t
