-- A proxy's first due job is done: a call is sent, a stream is opened at the store, or closed.
use Rattle.std.specs.Prelude.{ℕ, ◌+◌, false, [], ◌∷◌, ◌++◌, length, Option, None, Some}
use Rattle.etcd_types.specs.declared.request.Request.{Request}
use Rattle.etcd_types.specs.declared.request.Request.TheVariants as request
use Rattle.etcd_types.specs.declared.request.WatchAsk.{WatchAsk}
use Rattle.store_model.specs.State.{State}
use Rattle.store_model.specs.Watches.{opened}
use Rattle.core_model.specs.declared.event.CoreEvent.TheVariants as event
use Rattle.core_model.specs.declared.event.Job.{Job}
use Rattle.core_model.specs.declared.event.Job.TheVariants as job
use Rattle.core_model.specs.declared.event.Outcome.{Outcome}
use Rattle.core_model.specs.declared.event.Outcome.TheVariants as outcome
use Rattle.script_text.specs.declared.item.Item.TheVariants as item
use Rattle.world_model.specs.declared.fault.WorldFault.TheVariants as fault
use Rattle.world_model.specs.declared.sent_call.SentCall.{SentCall}
use Rattle.world_model.specs.Gains.{gained}
use Rattle.world_model.specs.Places.{kept_at, with_kept, nth, with_place, with_stream, ended}
use Rattle.world_model.specs.State.{Place, OpenedStream, World}
use Rattle.world_model.specs.Steps.{Step, refuses, at_place, steps}

-- nothing is due
abbrev pub sends_nothing : World → ℕ → Place → Step
sends_nothing w p x = refuses (with_place w p x) (fault.NothingToSend p)

-- Calls.

abbrev pub next_call : World → ℕ
next_call w = length w.calls + 1

abbrev pub new_call : ℕ → Place → ℕ → ℕ → Request → SentCall
new_call p x own member q =
    record { proxy = p; life = x.life; own = own; member = member; request = q; clock = x.clock; executed = None; settled = false }

abbrev pub call_sent : World → ℕ → Place → ℕ → ℕ → ℕ → Request → Step
call_sent w p x own member ticket q =
    gained
    (record w { calls = w.calls ++ new_call p x own member q ∷ [] })
    p
    (record x { calls = x.calls ++ next_call w ∷ [] })
    (item.Sent p (next_call w) member ticket q ∷ [])
    []

-- Openings.

abbrev pub next_stream : World → ℕ
next_stream w = length w.streams + 1

abbrev pub new_stream : ℕ → Place → ℕ → OpenedStream
new_stream p x own =
    record { proxy = p; life = x.life; own = own; waiting = []; ended = false; cancelled = false }

abbrev pub stream_begun : World → ℕ → Place → ℕ → ℕ → WatchAsk → State × ℕ → Step
stream_begun w p x own member ask at_store =
    gained
    (record w { streams = w.streams ++ new_stream p x own ∷ []; store = at_store.0 })
    p
    (record x { streams = with_kept x.streams own (next_stream w) })
    (item.Opened p (next_stream w) member (request.Watch ask) ∷ [])
    []

-- only watches are opened
abbrev pub stream_opened : World → ℕ → Place → ℕ → ℕ → Request → Step
stream_opened w p x own member (request.Watch ask) = stream_begun w p x own member ask (opened w.store member ask)
stream_opened w p x own member _ = sends_nothing w p x

-- Closings.

abbrev pub closed_in : World → ℕ → Option OpenedStream → World
closed_in w number None = w
closed_in w number (Some s) = with_stream w number (ended s)

-- only streams that were opened are closed
abbrev pub stream_closed : World → ℕ → Place → Option ℕ → Step
stream_closed w p x None = sends_nothing w p x
stream_closed w p x (Some number) =
    gained (closed_in w number (nth w.streams number)) p x (item.Closed p number ∷ []) []

abbrev pub job_done : World → ℕ → Place → Job → Step
job_done w p x (job.Call own member ticket q) = call_sent w p x own member ticket q
job_done w p x (job.Begin own member q) = stream_opened w p x own member q
job_done w p x (job.Close own) = stream_closed w p x (kept_at x.streams own)

abbrev pub worked : World → ℕ → Place → Outcome → Step
worked w p x (outcome.Job (Some j)) = job_done w p x j
worked w p x _ = sends_nothing w p x

abbrev pub sent_at : World → ℕ → Place → Step
sent_at w p x = steps w p x event.Work (fault.NothingToSend p) (worked w p)

abbrev pub sent : World → ℕ → Step
sent w p = at_place w p (sent_at w p)
