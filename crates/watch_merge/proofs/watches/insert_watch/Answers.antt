use Rattle.std.proofs.Common.{ℕ, map, ap, ◌∙◌}
use Rattle.std.specs.List.{insert}
use Rattle.watch_queue.specs.Watching.{shown}
use Rattle.watch_merge.specs.Watches.{gap}
use Rattle.watch_merge.proofs.Ticketed.{inserted}
use Rattle.watch_merge.proofs.watches.insert_watch.Goals as goal

pub returns : goal.returns
returns c =
    let put = rw c.unwrap.ensures at c.insert.ensures.items in
    ap (map shown) (put ∙ ap (λ (k : ℕ). insert c.args.watches.now.items k c.args.watch) (c.gap-at.ensures.gap ∙ ap (gap c.args.watch.ticket) c.deref.ensures.value)) ∙ inserted c.args.watch c.args.watches.now.items
