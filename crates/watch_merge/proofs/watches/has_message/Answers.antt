use Rattle.std.proofs.Common.{Some, ap, sym, ◌∙◌, not}
use Rattle.std.proofs.Math.ListN.{get_or-map}
use Rattle.watch_model.specs.State.{Watch}
use Rattle.watch_queue.specs.Watching.{shown}
use Rattle.watch_merge.specs.Watches.{has_message}
use Rattle.watch_merge.proofs.watches.has_message.Goals as goal

pub returns-in-Some : goal.returns-in-Some
returns-in-Some c =
    let y = c.index-watches-at.result in
    ap not c.is_empty.ensures ∙ sym (ap has_message (c.in-Some.ensures.found.is (shown y) ∙ ap (λ (w : Watch). Some w) (get_or-map shown c.args.watches.now c.in-Some.at y)))
