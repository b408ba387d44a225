-- Each world behind a script is seen by the view of true caches that shows it.
use Rattle.std.proofs.Common.{◌≡◌, ℕ, Some}
use Rattle.world_model.specs.Places.{place_at}
use Rattle.world_model.specs.State.{Place, World}
use Rattle.bridge_laws.specs.Holder.{holder_of}
use Rattle.bridge_laws.specs.Shown.{numbers, Shown}
use Rattle.shown_laws.proofs.Worlds.{each_world_is_shown}
use Rattle.turn_laws.proofs.Answering.{view_answered}
use Rattle.truth_laws.proofs.Showing.{PlaceSeen, WorldSeen, EachWorldIsSeen}

place_seen : (holder : ℕ → ℕ) (w : World) (h : Shown holder w) (p : ℕ) (x : Place) → place_at w p ≡ Some x → PlaceSeen holder w.leasing h.view w p x
place_seen holder w h p x at =
    let k = h.places p x at in
    record {
      own = numbers x.calls;
      sees = k.sees;
      owners = k.may.owners;
      prefix = k.prefix;
      answered = λ unworn number call a there is own o y f e. view_answered holder w h p x at number call a there is own unworn o y f e;
    }

seen_by : (holder : ℕ → ℕ) (w : World) → Shown holder w → WorldSeen w
seen_by holder w h = record { holder = holder; bare = h.bare; store = h.store; view = h.view; stands = h.stands; places = place_seen holder w h }

pub each_world_is_seen : EachWorldIsSeen
each_world_is_seen lines w few shows behind leases = seen_by (holder_of lines) w (each_world_is_shown lines w few shows behind leases)
