-- The first due job by the parts of a proxy that have due jobs (the machine's definition, without the rest of its state).
use Rattle.std.specs.Prelude.{ℕ, List, ◌++◌, Option, None, Some, is_some}
use Rattle.std.specs.List.{flat_map}
use Rattle.proxy_model.specs.declared.lease.Entry.{Entry}
use Rattle.proxy_model.specs.Keyed.{Keyed}
use Rattle.wait_model.specs.declared.due.Place.{Place}
use Rattle.wait_model.specs.DueOrder.{first_rescind}
use Rattle.read_model.specs.declared.acquire.Acquire.{Acquire}
use Rattle.read_model.specs.declared.asked.Asked.{Asked}
use Rattle.watch_model.specs.State.{Stream}
use Rattle.core_model.specs.DueJobs.{DueJob, Placed, due_writes, due_acquire, due_ask, due_opening, due_stream, earliest, job_of, session_job, rescind_or, or_else}
use Rattle.core_model.specs.State.{Seat, Opening}

-- all that is due beside the session's call and rescinds; of the writes it is where their first due call stands
abbrev pub due_of : Option Place → Keyed Acquire → List Asked → Option Opening → List Stream → List Placed
due_of writes acquires asks leasing streams =
    due_writes writes ++ flat_map due_acquire acquires ++ flat_map due_ask asks ++ due_opening leasing ++ flat_map due_stream streams

abbrev pub first_job_of : Option Seat → Keyed Entry → Option Place → Keyed Acquire → List Asked → Option Opening → List Stream → Option DueJob
first_job_of seat entries writes acquires asks leasing streams =
    or_else (session_job seat) (rescind_or (is_some (first_rescind entries)) (job_of (earliest None (due_of writes acquires asks leasing streams))))

-- the first one, or what is due of the stream that comes first among streams
abbrev pub with_first_stream : Option Placed → Option Stream → Option Placed
with_first_stream first None = first
with_first_stream first (Some s) = earliest first (due_stream s)

-- the first one, or the acquire that comes first among acquires
abbrev pub with_first_acquire : Option Placed → Option (List ℕ × Acquire) → Option Placed
with_first_acquire first None = first
with_first_acquire first (Some e) = earliest first (due_acquire e)

-- the first one, or what is due of the request that comes first among requests
abbrev pub with_first_ask : Option Placed → Option Asked → Option Placed
with_first_ask first None = first
with_first_ask first (Some a) = earliest first (due_ask a)
