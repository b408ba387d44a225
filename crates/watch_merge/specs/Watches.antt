-- The watch of a ticket: where it stands, all others, and it split off.
use Rattle.std.specs.Prelude.{ℕ, suc, ◌≡◌, ◌<◌, Bool, false, not, ◌==◌, nat_lt, if◌then◌else◌, List, [], ◌∷◌, filter, length, get_or, Option, None, Some}
use Rattle.watch_model.specs.declared.place.WatchPlace.{WatchPlace}
use Rattle.watch_model.specs.declared.place.WatchPlace.TheVariants as place
use Rattle.watch_model.specs.State.{Watch}
use Rattle.watch_model.specs.Lookups.{watch_at}
use Rattle.watch_model.specs.Queues.{is_nil}
use Rattle.watch_queue.specs.declared.watching.Watching.{Watching}

abbrev pub place_at : Option Watch → Option WatchPlace
place_at None = None
place_at (Some w) = Some w.place

-- whether it has a message that wasn't taken yet
abbrev pub has_message : Option Watch → Bool
has_message None = false
has_message (Some w) = not (is_nil w.queue)

abbrev pub is_other_watch : ℕ → Watching → Bool
is_other_watch ticket w = not (w.ticket == ticket)

abbrev pub others : ℕ → List Watching → List Watching
others ticket ws = filter (is_other_watch ticket) ws

abbrev pub split_to : ℕ → ℕ → Watching → Watching
split_to ticket next w = if w.ticket == ticket then record w { next = next; place = place.Split } else w

-- how many watches stand before one of this ticket
abbrev pub gap : ℕ → List Watching → ℕ
gap ticket [] = 0
gap ticket (w ∷ ws) = if nat_lt w.ticket ticket then suc (gap ticket ws) else 0

-- the place of the first watch with this ticket
pub record IsWatchAt (ticket : ℕ) (ws : List Watch) (i : ℕ) : Type 0 where
  pub bound : i < length ws
  pub is : (d : Watch) → watch_at ticket ws ≡ Some (get_or ws i d)
