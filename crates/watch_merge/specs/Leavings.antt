-- A cancellation as one value.
use Rattle.std.specs.Prelude.{ℕ, Bool, not, ◌&&◌, if◌then◌else◌, List}
use Rattle.std.specs.List.{sum_by}
use Rattle.watch_model.specs.Lookups.{is_in}
use Rattle.watch_model.specs.State.{Stream, Watch}
use Rattle.watch_model.specs.Joining.{Seated}
use Rattle.watch_model.specs.Cuts.{Left, left_by, left_over}
use Rattle.watch_queue.specs.declared.leaving.Cancellation.{Cancellation}
use Rattle.watch_queue.specs.declared.watching.Watching.{Watching}
use Rattle.watch_queue.specs.Leaving.{is_behind}

abbrev pub watch_left : Cancellation → ℕ → List Stream → ℕ → Watch → Seated
watch_left c step ss given w = left_by c.stream c.next c.header c.compact step c.last ss given w

abbrev pub watches_left : Cancellation → ℕ → List Stream → ℕ → List Watch → Left
watches_left c step ss given ws = left_over c.stream c.next c.header c.compact step c.last ss given ws

-- a member that isn't behind the compaction joins again, which may take a stream
abbrev pub joins : Cancellation → Watching → Bool
joins c w = is_in c.stream w.place && not (is_behind c w)

abbrev pub seats_for : Cancellation → Watching → ℕ
seats_for c w = if joins c w then 1 else 0

abbrev pub seats : Cancellation → List Watching → ℕ
seats c ws = sum_by (seats_for c) ws
