-- It is what the item at the call's place tells.
use Rattle.std.proofs.Common.{◌∙◌, ap}
use Rattle.audit_lives.specs.Finds.{call_in, told_by}
use Rattle.audit_lives.proofs.Keeping.{call_is}
use Rattle.audit_lives.proofs.Orders.{call_of}
use Rattle.audit_lives.proofs.calls_told.CallsTold.sent_call.Goals as goal

pub returns : goal.returns
returns c = λ items k t.
    c.call_by.ensures
    ∙ call_is c.args.kept.now items c.place_of.result k
    ∙ ap (told_by call_in items) c.place_of.ensures
    ∙ call_of c.args.self.now.order items c.args.call t.order
