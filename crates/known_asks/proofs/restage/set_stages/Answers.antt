-- One more is in its stage.
use Rattle.std.proofs.Common.{◌∙◌, ap, sym}
use Rattle.read_model.specs.PlainRead.{in_stage}
use Rattle.known_asks.specs.Asks.{one_changed}
use Rattle.known_asks.proofs.Changes.{restaged-append}
use Rattle.known_asks.proofs.restage.set_stages.Goals as goal

pub loop-ticket-preserved : goal.loop-ticket-preserved
loop-ticket-preserved c =
    c.set_stage.ensures ∙ ap (one_changed c.in-Some.ticket (in_stage c.in-Some.stage)) c.loop-ticket.invariant ∙
    sym (restaged-append c.loop-ticket.yielded (c.in-Some.ticket, c.in-Some.stage) c.args.asks.now)
