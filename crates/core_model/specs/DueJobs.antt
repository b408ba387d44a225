-- The order of due jobs: the session's call comes first, then rescinds by key. The others come in the order of the steps in which
-- they became due; of one step, calls that ask owners by key, the calls of requests by ticket, closings and then openings by stream.
use Rattle.std.specs.Prelude.{ℕ, Bool, true, false, if◌then◌else◌, List, [], ◌∷◌, ◌++◌, Option, None, Some, is_some}
use Rattle.std.specs.List.{flat_map}
use Rattle.etcd_types.specs.declared.request.Request.{Request}
use Rattle.etcd_types.specs.declared.request.Request.TheVariants as request
use Rattle.proxy_model.specs.Session.{Session}
use Rattle.wait_model.specs.declared.due.JobKind.TheVariants.{Call, Close, Open}
use Rattle.wait_model.specs.declared.due.Place.{Place}
use Rattle.wait_model.specs.declared.sending.Sending.{Sending}
use Rattle.wait_model.specs.declared.sending.Sending.TheVariants as sending
use Rattle.wait_model.specs.DueOrder.{place_at, is_earlier, first_place, first_rescind}
use Rattle.read_model.specs.declared.acquire.Acquire.{Acquire}
use Rattle.read_model.specs.declared.asked.Asked.{Asked}
use Rattle.read_model.specs.declared.asked.Stage.{Stage}
use Rattle.read_model.specs.declared.asked.Stage.TheVariants as stage
use Rattle.watch_model.specs.declared.stream.StreamPhase.{StreamPhase}
use Rattle.watch_model.specs.declared.stream.StreamPhase.TheVariants as phase
use Rattle.watch_model.specs.State.{Stream}
use Rattle.core_model.specs.State.{Seat, Opening, Core}

pub data DueJob : Type 0 where
  -- a grant or a keepalive of the session
  ForSession : Session → DueJob
  -- a rescind, a call that asks an owner, or a write's own
  ForWrites : DueJob
  ForAcquire : List ℕ → Acquire → DueJob
  ForAsk : Asked → DueJob
  -- the keepalives of this lease, for the one of least ticket
  ForGroup : ℕ → ℕ → DueJob
  ToOpen : Opening → DueJob
  -- of a client stream: its opening or its closing
  ForStream : Stream → DueJob

pub record Placed : Type 0 where
  pub place : Place
  pub job : DueJob

abbrev pub placed : Place → DueJob → Placed
placed p j = record { place = p; job = j }

-- What is due, part by part.

abbrev pub due_writes : Option Place → List Placed
due_writes None = []
due_writes (Some p) = placed p ForWrites ∷ []

abbrev pub if_due : Sending → (ℕ → Placed) → List Placed
if_due (sending.Due since) f = f since ∷ []
if_due (sending.Out call) f = []

abbrev pub due_acquire : List ℕ × Acquire → List Placed
due_acquire x = if_due x.1.sending (λ since. placed (place_at since Call x.1.ticket) (ForAcquire x.0 x.1))

abbrev pub lease_of : Request → ℕ
lease_of (request.KeepAlive lease) = lease
lease_of _ = 0

abbrev pub due_stage : Asked → Stage → List Placed
due_stage a (stage.Calling s) = if_due s (λ since. placed (place_at since Call a.ticket) (ForAsk a))
due_stage a (stage.Grouped (Some s)) = if_due s (λ since. placed (place_at since Call a.ticket) (ForGroup (lease_of a.request) a.ticket))
due_stage a _ = []

abbrev pub due_ask : Asked → List Placed
due_ask a = due_stage a a.stage

abbrev pub due_at : Opening → Option ℕ → List Placed
due_at o None = []
due_at o (Some since) = placed (place_at since Open o.number) (ToOpen o) ∷ []

abbrev pub due_opening : Option Opening → List Placed
due_opening None = []
due_opening (Some o) = due_at o o.due

abbrev pub due_phase : Stream → StreamPhase → List Placed
due_phase s (phase.Due since) = placed (place_at since Open s.number) (ForStream s) ∷ []
due_phase s (phase.Closing since) = placed (place_at since Close s.number) (ForStream s) ∷ []
due_phase s phase.Begun = []

abbrev pub due_stream : Stream → List Placed
due_stream s = due_phase s s.phase

abbrev pub due_jobs : Core → List Placed
due_jobs c =
    due_writes (first_place c.own.waits.writes) ++ flat_map due_acquire c.acquires ++ flat_map due_ask c.asks ++ due_opening c.leasing ++ flat_map due_stream c.watches.streams

-- The first one.

abbrev pub earlier : Option Placed → Placed → Placed
earlier None p = p
earlier (Some q) p = if is_earlier p.place q.place then p else q

abbrev pub earliest : Option Placed → List Placed → Option Placed
earliest first [] = first
earliest first (p ∷ ps) = earliest (Some (earlier first p)) ps

abbrev pub job_of : Option Placed → Option DueJob
job_of None = None
job_of (Some p) = Some p.job

abbrev pub session_job_of : Session → Option Sending → Option DueJob
session_job_of s (Some (sending.Due since)) = Some (ForSession s)
session_job_of s _ = None

abbrev pub session_job : Option Seat → Option DueJob
session_job None = None
session_job (Some s) = session_job_of s.session s.call

abbrev pub rescind_or : Bool → Option DueJob → Option DueJob
rescind_or true other = Some ForWrites
rescind_or false other = other

abbrev pub or_else : Option DueJob → Option DueJob → Option DueJob
or_else None other = other
or_else (Some j) other = Some j

abbrev pub first_job : Core → Option DueJob
first_job c = or_else (session_job c.seat) (rescind_or (is_some (first_rescind c.own.entries)) (job_of (earliest None (due_jobs c))))

abbrev pub has_job : Core → Bool
has_job c = is_some (first_job c)
