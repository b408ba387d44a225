-- What a world can be asked, without a step.
use Rattle.std.specs.Prelude.{ℕ, Bool, true, false, length, Option, None, Some, is_ok}
use Rattle.core_model.specs.DueJobs.{has_job}
use Rattle.store_model.specs.Watches.{pushed}
use Rattle.world_model.specs.Places.{nth, place_at}
use Rattle.world_model.specs.State.{Place, OpenedStream, World}
use Rattle.world_model.specs.Streams.{open_place}

abbrev pub place_has_job : Option Place → Bool
place_has_job None = false
place_has_job (Some x) = has_job x.core

-- something of the proxy is due to be sent
abbrev pub has_due : World → ℕ → Bool
has_due w p = place_has_job (place_at w p)

-- so many streams were opened
abbrev pub streams : World → ℕ
streams w = length w.streams

abbrev pub is_there : {A : Type 0} → Option A → Bool
is_there None = false
is_there (Some x) = true

abbrev pub pushes_if : World → ℕ → Bool → Bool
pushes_if w number false = false
pushes_if w number true = is_ok (pushed w.store number)

abbrev pub can_push_of : World → ℕ → Option OpenedStream → Bool
can_push_of w number None = false
can_push_of w number (Some s) = pushes_if w number (is_there (open_place w s))

-- the store has a message for the stream, which isn't cut, closed or cancelled
abbrev pub can_push : World → ℕ → Bool
can_push w number = can_push_of w number (nth w.streams number)
