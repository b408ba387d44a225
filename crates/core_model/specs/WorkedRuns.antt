-- Worked runs: what a proxy of one member answers to a list of events, each at its reading of the clock. Leasing is by the prefix L/.
use Rattle.std.specs.Prelude.{ℕ, true, false, codes, List, [], ◌∷◌, ◌++◌, None, Some, Result, Ok}
use Rattle.etcd_types.specs.declared.answer.Answer.{Answer}
use Rattle.etcd_types.specs.declared.answer.Answer.TheVariants as answer
use Rattle.etcd_types.specs.declared.answer.Body.{Body}
use Rattle.etcd_types.specs.declared.answer.Body.TheVariants as body
use Rattle.etcd_types.specs.declared.record.Header.{Header}
use Rattle.etcd_types.specs.declared.record.Kv.{Kv}
use Rattle.etcd_types.specs.declared.request.Request.{Request}
use Rattle.etcd_types.specs.declared.request.Request.TheVariants as request
use Rattle.etcd_types.specs.declared.watch.Change.TheVariants as change
use Rattle.etcd_types.specs.declared.watch.Event.{Event}
use Rattle.etcd_types.specs.declared.watch.WatchItem.TheVariants as item
use Rattle.proxy_model.specs.Asks.{range_ask, created_at, put_op, read_op}
use Rattle.proxy_model.specs.Acquire.{acquire}
use Rattle.proxy_model.specs.Foreign.{ask_revoke}
use Rattle.proxy_model.specs.Leaving.{rescind}
use Rattle.proxy_model.specs.Prefixes.{only, leasing_range}
use Rattle.core_model.specs.declared.event.CoreEvent.{CoreEvent}
use Rattle.core_model.specs.declared.event.CoreEvent.TheVariants as event
use Rattle.core_model.specs.declared.event.Job.TheVariants as job
use Rattle.core_model.specs.declared.event.Outcome.{Outcome}
use Rattle.core_model.specs.declared.event.Outcome.TheVariants as outcome
use Rattle.core_model.specs.declared.event.StepFault.{StepFault}
use Rattle.core_model.specs.Sessions.{drawn_session}
use Rattle.core_model.specs.State.{Core, first_core}
use Rattle.core_model.specs.Step.{stepped}
use Rattle.core_model.specs.Stepped.{Stepped}

-- An event, and the clock's reading at its step.
pub record Timed : Type 0 where
  pub now : ℕ
  pub event : CoreEvent

-- What was given so far, and what stands then.
pub record Ran : Type 0 where
  pub core : Core
  pub outcomes : List (Result Outcome StepFault)

abbrev pub ran_on : Ran → Stepped → Ran
ran_on r s = record { core = s.core; outcomes = r.outcomes ++ s.outcome ∷ [] }

abbrev pub ran_one : Ran → Timed → Ran
ran_one r t = ran_on r (stepped r.core t.event t.now)

abbrev pub ran_from : Ran → List Timed → Ran
ran_from r [] = r
ran_from r (t ∷ rest) = ran_from (ran_one r t) rest

abbrev pub ran : Core → List Timed → Ran
ran c events = ran_from (record { core = c; outcomes = [] }) events

abbrev pub outcomes : Core → List Timed → List (Result Outcome StepFault)
outcomes c events = (ran c events).outcomes

abbrev pub at_time : ℕ → CoreEvent → Timed
at_time now e = record { now = now; event = e }

-- at the clock's beginning
abbrev pub at_first : CoreEvent → Timed
at_first e = at_time 0 e

-- Proxies at their start.

abbrev pub proxy_of : ℕ → List ℕ → Core
proxy_of members leasing =
    first_core (record { members = members; namespace = []; leasing = leasing; ttl = 60 })

abbrev pub plain_proxy : Core
plain_proxy = proxy_of 1 []

abbrev pub leasing_proxy : Core
leasing_proxy = proxy_of 1 (codes "L/")

-- Events.

abbrev pub head : ℕ → Header
head n = record { cluster = 1; member = 1; revision = n; term = 1 }

abbrev pub asks_at : ℕ → ℕ → Request → Timed
asks_at now ticket q = at_time now (event.Ask ticket q 3)

abbrev pub asks : ℕ → Request → Timed
asks ticket q = asks_at 0 ticket q

abbrev pub works_at : ℕ → Timed
works_at now = at_time now event.Work

abbrev pub answers_at : ℕ → ℕ → ℕ → Body → Timed
answers_at now call revision b =
    at_time now (event.Answer call (answer.Done (record { header = head revision; body = b })))

abbrev pub takes_at : ℕ → ℕ → Timed
takes_at now ticket = at_time now (event.Take ticket)

abbrev pub works : Timed
works = at_first event.Work

abbrev pub takes : ℕ → Timed
takes ticket = at_first (event.Take ticket)

abbrev pub done : ℕ → Body → Answer
done revision b = answer.Done (record { header = head revision; body = b })

abbrev pub answers : ℕ → ℕ → Body → Timed
answers call revision b = at_first (event.Answer call (done revision b))

abbrev pub loses : ℕ → Timed
loses call = at_first (event.Lost call)

abbrev pub tells : ℕ → List Event → Timed
tells revision events = at_first (event.Item 1 (item.Events (head revision) events))

-- Outcomes.

abbrev pub notes : Result Outcome StepFault
notes = Ok outcome.Noted

abbrev pub waits : Result Outcome StepFault
waits = Ok outcome.Waiting

abbrev pub pends : Result Outcome StepFault
pends = Ok outcome.Pending

abbrev pub replies : Answer → Result Outcome StepFault
replies a = Ok (outcome.Replied a)

abbrev pub sends : ℕ → ℕ → Request → Result Outcome StepFault
sends call ticket q = Ok (outcome.Job (Some (job.Call call 1 ticket q)))

abbrev pub sends_nothing : Result Outcome StepFault
sends_nothing = Ok (outcome.Job None)

-- Requests and answers on `a`.

abbrev pub get_a : Request
get_a = request.Range (range_ask (only (codes "a")))

abbrev pub put_a : List ℕ → Request
put_a value = request.Put (record { key = codes "a"; value = value; lease = 0; prev_kv = false; ignore_lease = false })

abbrev pub none_there : Body
none_there = body.Range 0 false []

abbrev pub record_a : List ℕ → ℕ → ℕ → Kv
record_a value modified version =
    record { key = codes "a"; value = value; create = 3; modified = modified; version = version; lease = 0 }

abbrev pub one_there : Kv → Body
one_there kv = body.Range 1 false (kv ∷ [])

abbrev pub taken_at : Body → Body
taken_at b = body.Txn true (b ∷ body.Put None ∷ [])

abbrev pub session : ℕ
session = drawn_session 4

abbrev pub acquire_of_a : Request
acquire_of_a = request.Txn (acquire (codes "L/") (codes "a") session)

-- a put of `a` behind its ownership key, which was created at this revision
abbrev pub guarded_put : List ℕ → ℕ → Request
guarded_put value create =
    request.Txn (record { compare = created_at (only (codes "L/a")) create ∷ []; success = put_op (codes "a") value 0 false ∷ []; failure = read_op (only (codes "L/a")) ∷ [] })

abbrev pub put_done : Body
put_done = body.Txn true (body.Put None ∷ [])

abbrev pub rescind_of_a : Request
rescind_of_a = request.Txn (rescind (codes "L/") (codes "a") 2)

abbrev pub rescind_done : Body
rescind_done = body.Txn true (body.Delete 1 [] ∷ [])

abbrev pub ask_of_a : Request
ask_of_a = request.Txn (ask_revoke (codes "L/") (codes "a") 2)

-- The ownership key of `a` under a lease, as it is put and as its owner is asked; and its deletion.

abbrev pub owner_record : ℕ → List ℕ → ℕ → ℕ → Kv
owner_record lease value modified version =
    record { key = codes "L/a"; value = value; create = 2; modified = modified; version = version; lease = lease }

abbrev pub is_asked : ℕ → Event
is_asked lease = record { change = change.Put (owner_record lease (codes "REVOKE") 3 2); prev = None }

abbrev pub is_deleted : ℕ → Event
is_deleted revision = record { change = change.Delete (codes "L/a") revision; prev = None }

-- another proxy's session
abbrev pub other_session : ℕ
other_session = drawn_session 5

-- a write that failed, since `a` is owned
abbrev pub owned_by_other : Body
owned_by_other = body.Txn false (body.Range 1 false (owner_record other_session [] 2 1 ∷ []) ∷ [])

-- The opening: a session is granted, and the leasing stream stands created.

abbrev pub opening : List Timed
opening =
    at_first (event.Tick 4)
    ∷ works
    ∷ answers 1 1 (body.Grant session 60)
    ∷ works
    ∷ at_first (event.Item 1 (item.Created (head 1)))
    ∷ []

abbrev pub watch_of_owners : Request
watch_of_owners =
    request.Watch (record { range = leasing_range (codes "L/"); start = 0; no_put = false; no_delete = false; prev_kv = false; progress = false })

abbrev pub opened : List (Result Outcome StepFault)
opened =
    notes
    ∷ sends 1 0 (request.Grant 60 session)
    ∷ notes
    ∷ Ok (outcome.Job (Some (job.Begin 1 1 watch_of_owners)))
    ∷ notes
    ∷ []

-- what a proxy gives behind the opening
abbrev pub opened_core : Core
opened_core = (ran leasing_proxy opening).core

-- `a` is read, and acquired as absent
abbrev pub acquiring_a : List Timed
acquiring_a = asks 1 get_a ∷ works ∷ answers 2 2 (taken_at none_there) ∷ takes 1 ∷ []

abbrev pub acquired_a : List (Result Outcome StepFault)
acquired_a = waits ∷ sends 2 1 acquire_of_a ∷ notes ∷ replies (done 2 none_there) ∷ []

-- `a` is held
abbrev pub holding_core : Core
holding_core = (ran opened_core acquiring_a).core
