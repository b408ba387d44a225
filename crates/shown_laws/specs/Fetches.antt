-- The replies that stand ready behind a proxy's step are fetched one by one, each by a step of its own: the world stays shown.
use Rattle.std.specs.Prelude.{ℕ}
use Rattle.world_model.specs.Gains.{Replies, all_fetched}
use Rattle.world_model.specs.Places.{with_place}
use Rattle.world_model.specs.State.{Place, World}
use Rattle.bridge_laws.specs.Shown.{Shown}

abbrev pub FetchesStayShown : Type 0
FetchesStayShown = (holder : ℕ → ℕ) (w : World) (p : ℕ) (x : Place) (told : Replies) → Shown holder (with_place w p x) → Shown holder (with_place w p (all_fetched x told).place)
