-- What holds of a proxy by itself, after every step: its parts agree on what is asked, owned, due and out.
use Rattle.std.specs.Prelude.{◌≡◌, ℕ, Bool, true, false, not, ◌&&◌, ◌||◌, ◌==◌, nat_le, if◌then◌else◌, List, [], ◌∷◌, map, filter, Option, None, Some, is_some}
use Rattle.std.specs.List.{list_any, list_all}
use Rattle.etcd_types.specs.declared.request.Request.{Request}
use Rattle.etcd_types.specs.declared.request.Request.TheVariants as request
use Rattle.etcd_types.specs.Keys.{same}
use Rattle.proxy_model.specs.declared.session.Standing.{Standing}
use Rattle.proxy_model.specs.Keyed.{Keyed, at, is_in_order}
use Rattle.proxy_model.specs.SeveralKeys.{written_ranges}
use Rattle.wait_model.specs.declared.found.Asking.{Asking}
use Rattle.wait_model.specs.declared.found.Asking.TheVariants as asking
use Rattle.wait_model.specs.declared.found.Found.{Found}
use Rattle.wait_model.specs.declared.sending.Sending.{Sending}
use Rattle.wait_model.specs.declared.sending.Sending.TheVariants as sending
use Rattle.wait_model.specs.declared.wait.WaitCall.{WaitCall}
use Rattle.wait_model.specs.declared.wait.WaitJob.{WaitJob}
use Rattle.wait_model.specs.declared.wait.WaitJob.TheVariants as wait
use Rattle.wait_model.specs.declared.write.Write.{Write}
use Rattle.wait_model.specs.declared.write.WriteStage.{WriteStage}
use Rattle.wait_model.specs.declared.write.WriteStage.TheVariants.{Waiting, Sends, Finds}
use Rattle.wait_model.specs.Fits.{IsSettled, are_proper}
use Rattle.wait_model.specs.Stages.{is_found_over}
use Rattle.wait_model.specs.Writes.{sends, asks, job_of}
use Rattle.read_model.specs.declared.acquire.Acquire.{Acquire}
use Rattle.read_model.specs.declared.asked.Asked.{Asked}
use Rattle.read_model.specs.declared.asked.Stage.{Stage}
use Rattle.read_model.specs.declared.asked.Stage.TheVariants as stage
use Rattle.read_model.specs.Acquires.{acquires_at}
use Rattle.read_model.specs.Fits.{ReadsOk}
use Rattle.read_model.specs.TakingOff.{is_writes}
use Rattle.core_model.specs.declared.out_call.OutCall.{OutCall}
use Rattle.core_model.specs.declared.out_call.OutJob.{OutJob}
use Rattle.core_model.specs.declared.out_call.OutJob.TheVariants as job
use Rattle.core_model.specs.DueJobs.{lease_of}
use Rattle.core_model.specs.Groups.{is_group_of, is_out_for}
use Rattle.core_model.specs.Lookups.{reads_of, has_ticket, calls_as}
use Rattle.core_model.specs.Kinds.{has_some}
use Rattle.watch_model.specs.Lookups.{InOrder, stream_at, watch_at}
use Rattle.watch_model.specs.State.{Stream, Watch}
use Rattle.core_model.specs.State.{Seat, Opening, Core}

-- The session.

abbrev pub has_standing : Option Standing → Bool
has_standing None = false
has_standing (Some x) = true

-- it was granted, and hasn't ended
abbrev pub is_standing : Option Seat → Bool
is_standing None = false
is_standing (Some s) = has_standing s.session.standing

-- its grant is due or out where it doesn't stand yet
abbrev pub is_seated : Option Seat → Bool
is_seated None = true
is_seated (Some s) = has_standing s.session.standing || is_some s.call

-- Numbers that stand once, and what stands once at most.

abbrev pub has_number : List ℕ → ℕ → Bool
has_number ns n = list_any (λ m. m == n) ns

abbrev pub once : List ℕ → Bool
once [] = true
once (n ∷ ns) = not (has_number ns n) && once ns

abbrev pub at_most_one : {A : Type 0} → List A → Bool
at_most_one [] = true
at_most_one (x ∷ xs) = not (has_some xs)

-- What stands as out is out, and for it.

-- what the call of this number is for
abbrev pub job_at : ℕ → List OutCall → Option OutJob
job_at call [] = None
job_at call (o ∷ rest) = if o.call == call then Some o.job else job_at call rest

abbrev pub passes : {A : Type 0} → (A → Bool) → Option A → Bool
passes p None = false
passes p (Some j) = p j

abbrev pub is_out_to : (OutJob → Bool) → List OutCall → Sending → Bool
is_out_to p out (sending.Due since) = true
is_out_to p out (sending.Out call) = passes p (job_at call out)

-- its grant where it doesn't stand yet, or else its keepalive
abbrev pub is_session_job : Option Standing → OutJob → Bool
is_session_job None (job.Grant lease) = true
is_session_job (Some x) (job.Keep lease) = true
is_session_job _ _ = false

abbrev pub is_call_out : Option Standing → List OutCall → Option Sending → Bool
is_call_out standing out None = true
is_call_out standing out (Some s) = is_out_to (is_session_job standing) out s

abbrev pub is_seat_out : List OutCall → Option Seat → Bool
is_seat_out out None = true
is_seat_out out (Some s) = is_call_out s.session.standing out s.call

abbrev pub is_acquire_of : List ℕ → OutJob → Bool
is_acquire_of k (job.Acquire j) = same j k
is_acquire_of k _ = false

abbrev pub is_acquire_out : List OutCall → List ℕ → Option Acquire → Bool
is_acquire_out out k None = true
is_acquire_out out k (Some x) = is_out_to (is_acquire_of k) out x.sending

abbrev pub is_ask_job : OutJob → Bool
is_ask_job (job.Ask kind) = true
is_ask_job _ = false

abbrev pub is_stage_out : List OutCall → Stage → Bool
is_stage_out out (stage.Calling s) = is_out_to is_ask_job out s
is_stage_out out _ = true

-- of the session, the acquires and the requests by themselves
pub record OutOk (session : Option Seat) (due : Keyed Acquire) (asked : List Asked) (out : List OutCall) : Type 0 where
  pub seat : is_seat_out out session ≡ true
  pub acquires : (k : List ℕ) → is_acquire_out out k (at due k) ≡ true
  pub asks : list_all (λ a. is_stage_out out a.stage) asked ≡ true

-- The calls that are out: each number stands once, and was given.

abbrev pub numbers_of : List OutCall → List ℕ
numbers_of out = map (λ o. o.call) out

abbrev pub is_wait : OutJob → Bool
is_wait job.Wait = true
is_wait _ = false

abbrev pub wait_numbers : List OutCall → List ℕ
wait_numbers out = map (λ o. o.call) (filter (λ o. is_wait o.job) out)

abbrev pub calls_of : List WaitCall → List ℕ
calls_of waiting = map (λ o. o.call) waiting

pub record NumbersOk (calls : ℕ) (out : List OutCall) (waiting : List WaitCall) : Type 0 where
  pub once : once (numbers_of out) ≡ true
  pub given : list_all (λ n. nat_le n calls) (numbers_of out) ≡ true
  -- calls of writes and entries stand in both lists
  pub waits : calls_of waiting ≡ wait_numbers out

-- Writes: what stands as out of each is out, and no call is of two.

abbrev pub is_write_job : WaitJob → Bool
is_write_job wait.Write = true
is_write_job _ = false

abbrev pub is_revoke_of : List ℕ → WaitJob → Bool
is_revoke_of k (wait.Revoke j) = same j k
is_revoke_of k _ = false

abbrev pub is_sending_out : List WaitCall → Sending → Bool
is_sending_out waiting (sending.Due since) = true
is_sending_out waiting (sending.Out call) = passes is_write_job (job_of call waiting)

abbrev pub is_asking_out : List WaitCall → List ℕ → Asking → Bool
is_asking_out waiting k (asking.Due since) = true
is_asking_out waiting k (asking.Out call) = passes (is_revoke_of k) (job_of call waiting)
is_asking_out waiting k asking.Done = true

abbrev pub is_found_out : List WaitCall → Found → Bool
is_found_out waiting f = is_asking_out waiting f.key f.revoke

abbrev pub is_write_out : List WaitCall → WriteStage → Bool
is_write_out waiting Waiting = true
is_write_out waiting (Sends owner s) = is_sending_out waiting s
is_write_out waiting (Finds found) = list_all (is_found_out waiting) found

abbrev pub HaveRanges : List Write → Type 0
HaveRanges [] = Unit {0}
HaveRanges (w ∷ ws) = (w.ranges ≡ written_ranges w.request) × HaveRanges ws

pub record WritesOk (ws : List Write) (waiting : List WaitCall) : Type 0 where
  pub proper : are_proper ws ≡ true
  pub ranges : HaveRanges ws
  pub out : list_all (λ w. is_write_out waiting w.stage) ws ≡ true
  pub sends_once : (call : ℕ) → at_most_one (filter (sends call) ws) ≡ true
  pub asks_once : (call : ℕ) → at_most_one (filter (asks call) ws) ≡ true

-- it doesn't wait for owners that are all gone
abbrev pub goes_on : Write → Bool
goes_on w = not (is_found_over w.stage)

-- Requests: tickets stand once, the writes are the requests at that stage, in the same order, and no call is of two.

abbrev pub ask_tickets : List Asked → List ℕ
ask_tickets xs = map (λ a. a.ticket) xs

abbrev pub writing_tickets : List Asked → List ℕ
writing_tickets xs = map (λ a. a.ticket) (filter (λ a. is_writes a.stage) xs)

abbrev pub write_tickets : List Write → List ℕ
write_tickets ws = map (λ w. w.ticket) ws

pub record AsksOk (asked : List Asked) (ws : List Write) : Type 0 where
  pub once : once (ask_tickets asked) ≡ true
  pub writes : write_tickets ws ≡ writing_tickets asked
  pub calls_once : (call : ℕ) → at_most_one (filter (calls_as call) asked) ≡ true

-- an acquire that is due is for a read that waits for it
abbrev pub awaits : ℕ → List ℕ → List Asked → Sending → Bool
awaits ticket k asked (sending.Due since) = list_any (λ a. has_ticket ticket a && acquires_at k a) asked
awaits ticket k asked (sending.Out call) = true

abbrev pub is_awaited : List Asked → List ℕ → Option Acquire → Bool
is_awaited asked k None = true
is_awaited asked k (Some x) = awaits x.ticket k asked x.sending

abbrev pub AreAwaited : List Asked → Keyed Acquire → Type 0
AreAwaited asked acquires = (k : List ℕ) → is_awaited asked k (at acquires k) ≡ true

-- Keepalives of one lease.

abbrev pub groups_out : ℕ → List OutCall → List OutCall
groups_out lease out = filter (λ o. is_group_of lease o.job) out

abbrev pub is_keepalive : Request → Bool
is_keepalive (request.KeepAlive lease) = true
is_keepalive _ = false

-- where none is out, none of the lease's keepalives waits for one that is
abbrev pub group_sending : List OutCall → ℕ → Option Sending → Bool
group_sending out lease None = is_out_for lease out
group_sending out lease (Some (sending.Due since)) = not (is_out_for lease out)
group_sending out lease (Some (sending.Out call)) = passes (is_group_of lease) (job_at call out)

abbrev pub group_stands : List OutCall → Request → Stage → Bool
group_stands out q (stage.Grouped s) = is_keepalive q && group_sending out (lease_of q) s
group_stands out q _ = true

pub record GroupsOk (out : List OutCall) (asked : List Asked) : Type 0 where
  -- for each lease one keepalive is out at most, and none is due beside it
  pub one : (lease : ℕ) → at_most_one (groups_out lease out) ≡ true
  pub stand : list_all (λ a. group_stands out a.request a.stage) asked ≡ true

-- all of these agree
pub record Agrees (c : Core) : Type 0 where
  pub writes : WritesOk c.own.waits.writes c.own.waits.out
  pub asks : AsksOk c.asks c.own.waits.writes
  pub awaited : AreAwaited c.asks c.acquires
  pub out : OutOk c.seat c.acquires c.asks c.out
  pub numbers : NumbersOk c.calls c.out c.own.waits.out
  pub groups : GroupsOk c.out c.asks
  pub seated : is_seated c.seat ≡ true

-- Client streams and watches.

-- the leasing stream's number was given, and no client stream has it
abbrev pub is_numbered : Option Opening → ℕ → List Stream → Bool
is_numbered None given streams = true
is_numbered (Some o) given streams = nat_le o.number given && not (is_some (stream_at o.number streams))

-- no request has the ticket of a watch
abbrev pub are_apart : List Asked → List Watch → Bool
are_apart asked ws = list_all (λ a. not (is_some (watch_at a.ticket ws))) asked

-- streams by rising numbers and watches by rising tickets; the leasing stream has a number of its own
pub record WatchesOk (c : Core) : Type 0 where
  pub in_order : InOrder c.watches.given c.watches.streams c.watches.watches
  pub numbered : is_numbered c.leasing c.watches.given c.watches.streams ≡ true
  pub apart : are_apart c.asks c.watches.watches ≡ true

-- what is kept by key is in the order of the keys
pub record SortedOk (c : Core) : Type 0 where
  pub entries : is_in_order c.own.entries ≡ true
  pub acquires : is_in_order c.acquires ≡ true

pub record CoreOk (c : Core) : Type 0 where
  -- what is kept by key, and the reads, fit one another; without a session nothing is owned
  pub reads : ReadsOk (is_standing c.seat) (reads_of c)
  -- each waiting write has a cause, and none waits for owners that are gone
  pub settled : IsSettled c.own
  pub unfinished : list_all goes_on c.own.waits.writes ≡ true
  pub agrees : Agrees c
  -- no more calls than steps
  pub given_steps : nat_le c.calls c.steps ≡ true
