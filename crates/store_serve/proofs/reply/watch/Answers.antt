-- The watch was told up to its cancellation, or no more of it was, or it wasn't opened.
use Rattle.std.proofs.Common.{sym, ap, ◌∙◌, subst}
use Rattle.turn_hub.specs.Known.{made}
use Rattle.turn_hub.specs.Steps.{IsAllowed}
use Rattle.store_machine.specs.Standing.{Steps}
use Rattle.shop_dialog.proofs.Replying.{watched}
use Rattle.store_serve.proofs.Fitting.{Seen}
use Rattle.store_serve.proofs.Missed.{open_missed, unwatched_as}
use Rattle.store_serve.proofs.reply.watch.Goals as goal

pub returns-in-Ok-follow-clause-asks : goal.returns-in-Ok-follow-clause-asks
returns-in-Ok-follow-clause-asks g c =
    watched ⊥ c.args.ask c.in-Ok.number _ _ _ _ _ _ (ap (λ (k : Seen). made k) c.rest_in_lot.ensures ∙ c.in-Ok.ensures.number) c.in-Ok-follow.ensures.follows

pub returns-in-Ok-follow-clause-allowed : goal.returns-in-Ok-follow-clause-allowed
returns-in-Ok-follow-clause-allowed g c =
    c.in-Ok-follow.ensures.allowed (subst (λ (k : Seen). IsAllowed Steps k) (sym c.rest_in_lot.ensures) c.in-Ok.ensures.allowed)

pub returns-in-Err-follow-clause-asks : goal.returns-in-Err-follow-clause-asks
returns-in-Err-follow-clause-asks g c =
    unwatched_as _ c.args.ask c.in-Ok.number _ _ _ _ _ _ c.in-Err-follow.why c.end_in.result c.end_in.ensures
    (ap (λ (k : Seen). made k) c.rest_in_lot.ensures ∙ c.in-Ok.ensures.number) c.in-Err-follow.ensures.follows

pub returns-in-Err-follow-clause-allowed : goal.returns-in-Err-follow-clause-allowed
returns-in-Err-follow-clause-allowed g c =
    c.in-Err-follow.ensures.allowed (subst (λ (k : Seen). IsAllowed Steps k) (sym c.rest_in_lot.ensures) c.in-Ok.ensures.allowed)

pub returns-in-Err-clause-asks : goal.returns-in-Err-clause-asks
returns-in-Err-clause-asks g c = open_missed c.args.pass.now c.open_watch.new.pass c.args.ask _ _ c.in-Err.fault c.end_of.result c.end_of.ensures.is c.in-Err.ensures.fault
