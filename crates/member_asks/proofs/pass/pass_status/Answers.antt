-- The call was made, and its answer given back; or it wasn't made.
use Rattle.std.proofs.Common.{◌∙◌}
use Rattle.member_asks.proofs.Passing.{not_passed, unanswered, passed_on}
use Rattle.member_asks.proofs.pass.pass_status.Goals as goal

pub returns-in_default : goal.returns-in_default
returns-in_default g c = not_passed c.args.host.now c.args.body.now c.args.member _

pub returns-in-Ok-begin : goal.returns-in-Ok-begin
returns-in-Ok-begin g c =
    passed_on c.args.host.now c.args.body.now c.as_slice.result.now c.args.member _ _ _ _ _ _ c.read-passed.result (c.as_slice.ensures ∙ c.in-Ok.ensures)
    c.in-Ok-begin.ensures.made c.end.ensures.made c.read-passed.ensures

pub returns-in-Err-Failed : goal.returns-in-Err-Failed
returns-in-Err-Failed g c =
    unanswered c.args.host.now c.args.body.now c.as_slice.result.now c.args.member _ _ c.in-Err-Failed.field-0 _ (c.as_slice.ensures ∙ c.in-Ok.ensures) c.in-Err-Failed.ensures.made

pub returns : goal.returns
returns g c =
    unanswered c.args.host.now c.args.body.now c.as_slice.result.now c.args.member _ _ c.in-Err-NoMemory.field-0 _ (c.as_slice.ensures ∙ c.in-Ok.ensures) c.in-Err-NoMemory.ensures.made
