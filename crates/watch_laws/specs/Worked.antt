-- Worked rows: what a script of the proxy's calls on its watches gives, line by line.
use Rattle.std.specs.Prelude.{ℕ, ◌+◌, ◌≡◌, Bool, true, false, codes, List, [], ◌∷◌, ◌++◌, map, replicate, Option, None, Some}
use Rattle.etcd_types.specs.declared.key_range.KeyRange.{KeyRange}
use Rattle.etcd_types.specs.declared.record.Header.{Header}
use Rattle.etcd_types.specs.declared.record.Kv.{Kv}
use Rattle.etcd_types.specs.declared.request.WatchAsk.{WatchAsk}
use Rattle.etcd_types.specs.declared.watch.Change.TheVariants as event
use Rattle.etcd_types.specs.declared.watch.Event.{Event}
use Rattle.etcd_types.specs.declared.watch.WatchItem.{WatchItem}
use Rattle.etcd_types.specs.declared.watch.WatchItem.TheVariants as item
use Rattle.watch_model.specs.declared.stream.StreamJob.{StreamJob}
use Rattle.watch_model.specs.declared.stream.StreamJob.TheVariants as job
use Rattle.watch_model.specs.State.{Stream, Watch, Broadcasts, first_broadcasts}
use Rattle.watch_model.specs.Lookups.{stream_at, watch_at}
use Rattle.watch_model.specs.Joining.{joined}
use Rattle.watch_model.specs.Delivery.{delivered_stream, stands_created}
use Rattle.watch_model.specs.Cuts.{cancelled_stream, cut_at}
use Rattle.watch_model.specs.Leaving.{removed}
use Rattle.watch_model.specs.Takes.{taken_from}
use Rattle.watch_model.specs.Due.{next_job, first_due}

abbrev header : ℕ → Header
header revision = record { cluster = 1; member = 1; revision = revision; term = 1 }

abbrev a : KeyRange
a = record { key = codes "a"; end = [] }

abbrev watch_a : ℕ → Bool → WatchAsk
watch_a start progress = record { range = a; start = start; no_put = false; no_delete = false; prev_kv = false; progress = progress }

abbrev kv : List ℕ → ℕ → ℕ → Kv
kv value modified version = record { key = codes "a"; value = value; create = 2; modified = modified; version = version; lease = 0 }

abbrev put : Kv → Option Kv → Event
put new old = record { change = event.Put new; prev = old }

pub data Act : Type 0 where
  Asks : ℕ → WatchAsk → Act
  Sends : Act
  Created : ℕ → ℕ → Act
  Events : ℕ → ℕ → List Event → Act
  Canceled : ℕ → ℕ → ℕ → Act
  Cuts : ℕ → Act
  Takes : ℕ → Act
  Leaves : ℕ → Act

pub data Seen : Type 0 where
  Job : Option StreamJob → Seen
  Taken : Option WatchItem → Seen

pub record Run : Type 0 where
  pub state : Broadcasts
  pub last : Header
  pub seen : List Seen

abbrev on : Option Stream → Broadcasts → (Stream → Broadcasts) → Broadcasts
on None b f = b
on (Some s) b f = f s

abbrev sees_job : Run → Broadcasts × Option StreamJob → Run
sees_job r x = record r { state = x.0; seen = r.seen ++ Job x.1 ∷ [] }

abbrev sees_item : Run → Broadcasts × Option WatchItem → Run
sees_item r x = record r { state = x.0; seen = r.seen ++ Taken x.1 ∷ [] }

abbrev takes : Run → Option Watch → Run
takes r None = r
takes r (Some w) = sees_item r (taken_from r.state r.last w w.queue)

abbrev acts : Run → Act → Run
acts r (Asks ticket ask) = record r { state = joined r.state ticket ask r.last }
acts r Sends = sees_job r (next_job r.state (first_due r.state.streams))
acts r (Created n revision) =
    record r { state = on (stream_at n r.state.streams) r.state (λ s. stands_created r.state s (header revision) (header revision)); last = header revision }
acts r (Events n revision es) =
    record r { state = on (stream_at n r.state.streams) r.state (λ s. delivered_stream r.state s (header revision) es); last = header revision }
acts r (Canceled n revision compact) =
    record r { state = on (stream_at n r.state.streams) r.state (λ s. cancelled_stream r.state s (header revision) compact (header revision)); last = header revision }
acts r (Cuts n) = record r { state = cut_at r.state (stream_at n r.state.streams) }
acts r (Takes ticket) = takes r (watch_at ticket r.state.watches)
acts r (Leaves ticket) = record r { state = removed r.state ticket (watch_at ticket r.state.watches) }

abbrev run : Run → List Act → Run
run r [] = r
run r (x ∷ xs) = run (acts r x) xs

abbrev seen_from : ℕ → List Act → List Seen
seen_from revision xs = (run (record { state = first_broadcasts; last = header revision; seen = [] }) xs).seen

-- a second watch, behind the first, catches up and is merged into its stream
abbrev pub Merges : Type 0
Merges =
    seen_from 3 (Asks 3 (watch_a 0 false) ∷ Sends ∷ Created 1 3 ∷ Asks 4 (watch_a 3 false) ∷ Sends ∷ Created 2 3
    ∷ Events 2 3 (put (kv (codes "y") 3 2) (Some (kv (codes "x") 2 1)) ∷ []) ∷ Sends ∷ Takes 3 ∷ Takes 3 ∷ Takes 4 ∷ Takes 4
    ∷ Events 1 4 (put (kv (codes "z") 4 3) (Some (kv (codes "y") 3 2)) ∷ []) ∷ Takes 3 ∷ Takes 4 ∷ [])
    ≡ Job (Some (job.Open 1 a 0)) ∷ Job (Some (job.Open 2 a 3)) ∷ Job (Some (job.Close 2))
    ∷ Taken (Some (item.Created (header 3))) ∷ Taken None
    ∷ Taken (Some (item.Created (header 3))) ∷ Taken (Some (item.Events (header 3) (put (kv (codes "y") 3 2) None ∷ [])))
    ∷ Taken (Some (item.Events (header 4) (put (kv (codes "z") 4 3) None ∷ []))) ∷ Taken (Some (item.Events (header 4) (put (kv (codes "z") 4 3) None ∷ []))) ∷ []

-- a cancellation after a cut: the watch behind the compaction ends, the other joins a new stream
abbrev pub Cancels : Type 0
Cancels =
    seen_from 2 (Asks 2 (watch_a 2 false) ∷ Sends ∷ Created 1 2 ∷ Asks 3 (watch_a 9 false) ∷ Sends ∷ Cuts 1 ∷ Sends ∷ Created 2 5 ∷ Canceled 2 5 4
    ∷ Sends ∷ Takes 2 ∷ Takes 2 ∷ Takes 3 ∷ Takes 3 ∷ [])
    ≡ Job (Some (job.Open 1 a 2)) ∷ Job None ∷ Job (Some (job.Open 2 a 2)) ∷ Job (Some (job.Open 3 a 9))
    ∷ Taken (Some (item.Created (header 2))) ∷ Taken (Some (item.Canceled (header 5) 4))
    ∷ Taken (Some (item.Created (header 2))) ∷ Taken None ∷ []

-- a due stream that is left is removed
abbrev pub Removes : Type 0
Removes = seen_from 1 (Asks 1 (watch_a 0 false) ∷ Leaves 1 ∷ Sends ∷ []) ≡ Job None ∷ []

-- a stream ahead of the revision seen isn't joined by a watch from now
abbrev pub OpensFromNow : Type 0
OpensFromNow =
    seen_from 1 (Asks 1 (watch_a 9 false) ∷ Sends ∷ Created 1 1 ∷ Asks 2 (watch_a 0 false) ∷ Sends ∷ [])
    ≡ Job (Some (job.Open 1 a 9)) ∷ Job (Some (job.Open 2 a 0)) ∷ []

-- a progress message is told, and a cut stream begins behind it
abbrev pub Progresses : Type 0
Progresses =
    seen_from 1 (Asks 1 (watch_a 0 true) ∷ Sends ∷ Created 1 1 ∷ Events 1 2 [] ∷ Takes 1 ∷ Takes 1 ∷ Cuts 1 ∷ Sends ∷ [])
    ≡ Job (Some (job.Open 1 a 0)) ∷ Taken (Some (item.Created (header 1))) ∷ Taken (Some (item.Events (header 2) [])) ∷ Job (Some (job.Open 2 a 3)) ∷ []

abbrev puts_from : ℕ → List ℕ → List Act
puts_from revision [] = []
puts_from revision (x ∷ xs) = Events 1 revision (put (kv [] revision revision) None ∷ []) ∷ puts_from (revision + 1) xs

abbrev takes_for : List ℕ → List Act
takes_for xs = map (λ x. Takes 1) xs

abbrev jobs_of : List Seen → List Seen
jobs_of [] = []
jobs_of (Job j ∷ xs) = Job j ∷ jobs_of xs
jobs_of (Taken t ∷ xs) = jobs_of xs

-- a queue of 1,024 events refuses the next, and the watch joins again behind them when it is empty
abbrev pub Splits : Type 0
Splits =
    jobs_of (seen_from 1 (Asks 1 (watch_a 0 false) ∷ Sends ∷ Created 1 1 ∷ Takes 1 ∷ puts_from 2 (replicate 1025 0) ++ Sends ∷ takes_for (replicate 1024 0) ++ Sends ∷ []))
    ≡ Job (Some (job.Open 1 a 0)) ∷ Job (Some (job.Close 1)) ∷ Job (Some (job.Open 2 a 1026)) ∷ []
