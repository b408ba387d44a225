-- The call was made, and its answer given back; or it wasn't made.
use Rattle.std.proofs.Common.{◌∙◌}
use Rattle.server_model.proofs.Hears.{not_called, unanswered, exchanged}
use Rattle.proxy_calls.proofs.call.make_call.Goals as goal

pub returns-in_default : goal.returns-in_default
returns-in_default g c = not_called c.args.host.now c.args.member c.args.kind c.args.request.now _ _

pub returns-in-Ok-begin : goal.returns-in-Ok-begin
returns-in-Ok-begin g c =
    exchanged c.args.host.now c.as_slice.result.now c.args.member c.args.kind c.args.request.now _ _ _ _ _ _ _ _ _ c.hear-said.result.1 c.hear-said.result.0 (c.as_slice.ensures ∙ c.in-Ok.ensures)
    c.in-Ok-begin.ensures.made c.end.ensures.made c.in-Ok-begin.ensures.cause.kept c.end.ensures.kept c.hear-said.ensures

pub returns : goal.returns
returns g c =
    unanswered c.args.host.now c.as_slice.result.now c.args.member c.args.kind c.args.request.now _ _ _ _ c.in-Err.fault c.lost_on.result (c.as_slice.ensures ∙ c.in-Ok.ensures) c.lost_on.ensures
    c.in-Err.ensures.made c.in-Err.ensures.cause
