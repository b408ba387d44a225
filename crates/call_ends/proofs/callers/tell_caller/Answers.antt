-- By the index none calls so, or one alone.
use Rattle.std.proofs.Common.{sym, ◌∙◌}
use Rattle.read_model.specs.PlainRead.{in_stage}
use Rattle.read_model.specs.declared.asked.Stage.TheVariants as stage
use Rattle.call_ends.proofs.Alone.{one_calls, nobody_changed, caller_is}
use Rattle.call_ends.proofs.callers.tell_caller.Goals as goal

pub returns-in-Nobody : goal.returns-in-Nobody
returns-in-Nobody c =
    nobody_changed c.args.call (in_stage (stage.Replied c.args.verdict)) c.args.asks.now c.in-Nobody.ensures.callers

pub returns-in-One : goal.returns-in-One
returns-in-One c =
    c.set_stage.ensures ∙
    one_calls c.args.call c.in-One.ticket (in_stage (stage.Replied c.args.verdict)) c.args.asks.now c.callers.ensures.once c.requires (caller_is c.args.call c.in-One.ticket c.args.asks.now c.in-One.ensures.callers)
