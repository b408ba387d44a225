-- It is that of the message behind as many as were delivered.
use Rattle.std.proofs.Common.{◌∙◌, ap}
use Rattle.std.specs.Option.{option_map}
use Rattle.world_model.specs.Received.{or_zero}
use Rattle.audit_lives.specs.Finds.{told_by}
use Rattle.audit_lives.specs.Given.{message_revision, pushed_in}
use Rattle.audit_lives.proofs.GivenItems.{next_by}
use Rattle.audit_lives.proofs.Keeping.{message_revision_is}
use Rattle.audit_lives.proofs.streams_told.StreamsTold.message_revision.Goals as goal

pub returns : goal.returns
returns c = λ items k t.
    c.or_zero.ensures
    ∙ ap or_zero
    (c.message_by.ensures
    ∙ message_revision_is c.args.stream c.args.kept.now items c.of-place.result k
    ∙ ap (option_map message_revision)
    (ap (told_by (pushed_in c.args.stream) items) c.of-place.ensures ∙ t.messages.found c.args.stream c.of.result ∙ next_by c.args.stream items c.of.result (c.of.ensures ∙ t.delivered c.args.stream)))
