-- The request's ticket is its alone, and where none calls so all stay.
use Rattle.std.proofs.Common.{sym, ap, ◌∙◌}
use Rattle.read_model.specs.PlainRead.{in_stage}
use Rattle.read_model.specs.declared.asked.Stage.TheVariants as stage
use Rattle.call_ends.specs.Callers.{caller_of}
use Rattle.call_ends.proofs.Alone.{one_calls, none_calls}
use Rattle.call_ends.proofs.callers.tell_first.Goals as goal

pub returns-in-Some : goal.returns-in-Some
returns-in-Some c =
    c.set_stage.ensures ∙
    one_calls c.args.call c.in-Some.ticket (in_stage (stage.Replied c.args.verdict)) c.args.asks.now c.rows.ensures.once c.requires (sym (c.in-Some.ensures ∙ ap (caller_of c.args.call) c.rows.ensures.all))

pub returns-in_default : goal.returns-in_default
returns-in_default c =
    sym (none_calls c.args.call (in_stage (stage.Replied c.args.verdict)) c.args.asks.now (sym (c.in_default.ensures ∙ ap (caller_of c.args.call) c.rows.ensures.all)))
