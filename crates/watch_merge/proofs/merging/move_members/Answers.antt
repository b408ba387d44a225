use Rattle.std.proofs.Common.{◌≡◌, map, ap, ◌∙◌, refl, List, [], ◌∷◌}
use Rattle.watch_queue.specs.declared.watching.Watching.{Watching}
use Rattle.watch_queue.specs.Watching.{shown, moved_as}
use Rattle.watch_model.specs.Merging.{merged_watch}
use Rattle.watch_merge.proofs.merging.move_members.Goals as goal

pub returns : goal.returns
returns c = ap (map shown) c.move_all.ensures ∙ each c.args.watches.now.items
  where
    each : (ws : List Watching) → map shown (map (moved_as c.args.range.now c.args.streams.now) ws) ≡ map (merged_watch c.args.range.now c.args.streams.now) (map shown ws)
    each [] = refl
    each (w ∷ ws) = ap (λ l. shown (moved_as c.args.range.now c.args.streams.now w) ∷ l) (each ws)
