-- What lines do to a world that is shown: each of these leaves one that is shown, taken or not.
use Rattle.std.specs.Prelude.{◌≡◌, ◌⊎◌, ℕ, ◌≤◌, false, List, Some, Ok}
use Rattle.etcd_types.specs.Keys.{is_empty}
use Rattle.etcd_types.specs.declared.watch.WatchItem.{WatchItem}
use Rattle.store_model.specs.State.{State}
use Rattle.store_model.specs.Watches.{pushed, progressed}
use Rattle.world_model.specs.Places.{nth, with_nth, place_at, with_place, with_posted}
use Rattle.world_model.specs.Starts.{started, clock_set}
use Rattle.world_model.specs.State.{Place, OpenedStream, World, starting_world}
use Rattle.world_model.specs.StoreLines.{lease_expired, member_applied}
use Rattle.world_model.specs.Streams.{with_message}
use Rattle.bridge_laws.specs.Shown.{Shown}

abbrev pub BeginsShown : Type 0
BeginsShown = (holder : ℕ → ℕ) (members : ℕ) (namespace leasing : List ℕ) → is_empty leasing ≡ false → Shown holder (starting_world members namespace leasing)

-- a world of which more lines were counted
abbrev pub CountsStayShown : Type 0
CountsStayShown = (holder : ℕ → ℕ) (w : World) (lines : ℕ) → w.lines ≤ lines → Shown holder w → Shown holder (record w { lines = lines })

abbrev pub StartsStayShown : Type 0
StartsStayShown = (holder : ℕ → ℕ) (w : World) (p : ℕ) → Shown holder w → Shown holder (started w p).world

abbrev pub ClocksStayShown : Type 0
ClocksStayShown = (holder : ℕ → ℕ) (w : World) (p millis : ℕ) → Shown holder w → Shown holder (clock_set w p millis).world

abbrev pub ExpiriesStayShown : Type 0
ExpiriesStayShown = (holder : ℕ → ℕ) (w : World) (lease : ℕ) → Shown holder w → Shown holder (lease_expired w lease).world

abbrev pub AppliesStayShown : Type 0
AppliesStayShown = (holder : ℕ → ℕ) (w : World) (member revision : ℕ) → Shown holder w → Shown holder (member_applied w member revision).world

-- the body of a post can't be read
abbrev pub RefusedPostsStayShown : Type 0
RefusedPostsStayShown = (holder : ℕ → ℕ) (w : World) (p ticket : ℕ) (x : Place) → place_at w p ≡ Some x → Shown holder w → Shown holder (with_place w p (with_posted ticket x))

-- the store's message for a stream
abbrev pub PushesStayShown : Type 0
PushesStayShown =
    (holder : ℕ → ℕ) (w : World) (number : ℕ) (s : OpenedStream) (t : State) (i : WatchItem) → nth w.streams number ≡ Some s → (pushed w.store number ≡ Ok (t, i)) ⊎ (progressed w.store number ≡ Ok (t, i)) → Shown holder w
    → Shown holder (record w { streams = with_nth w.streams number (with_message i s); store = t })
