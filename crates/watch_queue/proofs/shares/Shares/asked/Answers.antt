use Rattle.std.proofs.Common.{rules, ◌≡◌, IfSome, map, ap, sym, subst, ◌∙◌, List}
use Rattle.etcd_types.specs.declared.watch.Event.{Event}
use Rattle.etcd_types.specs.declared.watch.WatchItem.TheVariants.{Events}
use Rattle.watch_model.specs.Delivery.{shown_event, shown_events}
use Rattle.watch_queue.proofs.Fates.{all_shown}
use Rattle.watch_queue.proofs.shares.Shares.asked.Goals as goal

pub returns-then-ask : goal.returns-then-ask
returns-then-ask c =
    let es : List Event = c.args.batch.now in
    let all : shown_events c.args.ask.now es ≡ es = ap (λ b. map (shown_event b) es) c.if-ask.true ∙ all_shown es in
    let here : IfSome c.as_ref.result (λ t. t.now ≡ Events c.args.header es) = search rules in
    subst (λ (xs : List Event). IfSome c.as_ref.result (λ t. t.now ≡ Events c.args.header xs)) (sym all) here
