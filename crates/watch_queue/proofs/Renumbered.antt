-- Watches that are renumbered, as the definitions see them.
use Rattle.std.proofs.Common.{◌≡◌, ℕ, Bool, true, false, cond, List, [], ◌∷◌, map, refl}
use Rattle.watch_model.specs.declared.place.WatchPlace.TheVariants as place
use Rattle.watch_model.specs.Lookups.{is_in}
use Rattle.watch_model.specs.Cuts.{renumbered}
use Rattle.watch_queue.specs.declared.watching.Watching.{Watching}
use Rattle.watch_queue.specs.Watching.{shown, renumbered_as}

pub renumbered_shown : (n m : ℕ) (ws : List Watching) → map shown (map (renumbered_as n m) ws) ≡ map (renumbered n m) (map shown ws)
renumbered_shown n m [] = refl
renumbered_shown n m (w ∷ ws) = λ i. one (is_in n w.place) i ∷ renumbered_shown n m ws i
  where
    one : (b : Bool) → shown (cond b (record w { place = place.In m }) w) ≡ cond b (record (shown w) { place = place.In m }) (shown w)
    one true = refl
    one false = refl
