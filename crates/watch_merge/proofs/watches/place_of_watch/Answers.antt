use Rattle.std.proofs.Common.{Some, ap, sym, ◌∙◌}
use Rattle.std.proofs.Math.ListN.{get_or-map}
use Rattle.watch_model.specs.State.{Watch}
use Rattle.watch_queue.specs.Watching.{shown}
use Rattle.watch_merge.specs.Watches.{place_at}
use Rattle.watch_merge.proofs.watches.place_of_watch.Goals as goal

pub returns : goal.returns
returns c =
    let y = c.index-watches-at.result in
    sym (ap place_at (c.in_ok-at.ensures.found.is (shown y) ∙ ap (λ (w : Watch). Some w) (get_or-map shown c.args.watches.now c.in_ok-at.at y)))
