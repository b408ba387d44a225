-- Worked runs of sessions and of the leasing stream. `a` is held as absent at the start.
use Rattle.std.specs.Prelude.{◌≡◌, ℕ, true, false, codes, [], ◌∷◌, None, Some, Result, Ok}
use Rattle.etcd_types.specs.declared.answer.Answer.TheVariants as answer
use Rattle.etcd_types.specs.declared.answer.Body.TheVariants as body
use Rattle.etcd_types.specs.declared.request.Request.{Request}
use Rattle.etcd_types.specs.declared.request.Request.TheVariants as request
use Rattle.etcd_types.specs.declared.request.WatchAsk.{WatchAsk}
use Rattle.etcd_types.specs.declared.watch.WatchItem.TheVariants as item
use Rattle.store_model.specs.Refusals.{lease_not_found}
use Rattle.core_model.specs.declared.event.CoreEvent.TheVariants as event
use Rattle.core_model.specs.declared.event.Job.TheVariants as job
use Rattle.core_model.specs.declared.event.Outcome.{Outcome}
use Rattle.core_model.specs.declared.event.Outcome.TheVariants as outcome
use Rattle.core_model.specs.declared.event.StepFault.{StepFault}
use Rattle.core_model.specs.Takes.{peek, ready}
use Rattle.core_model.specs.WorkedRuns.{Timed, outcomes, ran, at_time, at_first, opened_core, holding_core, asks, asks_at, works, works_at, answers_at, done, head, waits, notes, replies, sends, get_a, put_a, none_there, acquire_of_a, guarded_put, put_done, rescind_of_a, owned_by_other, ask_of_a, record_a, answers, session}
use Rattle.proxy_model.specs.Prefixes.{leasing_range}

abbrev ticks_at : ℕ → Timed
ticks_at now = at_time now (event.Tick 6)

abbrev keepalive : Request
keepalive = request.KeepAlive session

-- a keepalive is due after a third of the time to live, and counts from its sending
abbrev pub KeepaliveRenews : Type 0
KeepaliveRenews =
    outcomes
    holding_core
    (ticks_at 19999
    ∷ works_at 19999
    ∷ ticks_at 20000
    ∷ works_at 20000
    ∷ answers_at 59999 3 2 (body.KeepAlive session 60)
    ∷ asks_at 79999 2 get_a
    ∷ asks_at 80000 3 get_a
    ∷ works_at 80000
    ∷ [])
    ≡ notes
    ∷ Ok (outcome.Job None)
    ∷ notes
    ∷ sends 3 0 keepalive
    ∷ notes
    ∷ replies (done 2 none_there)
    ∷ waits
    ∷ sends 4 3 get_a
    ∷ []

-- one that is answered at the deadline is too late
abbrev pub KeepaliveTooLate : Type 0
KeepaliveTooLate =
    outcomes
    holding_core
    (ticks_at 20000
    ∷ works_at 20000
    ∷ answers_at 60000 3 2 (body.KeepAlive session 60)
    ∷ asks_at 60000 2 get_a
    ∷ works_at 60000
    ∷ [])
    ≡ notes ∷ sends 3 0 keepalive ∷ notes ∷ waits ∷ sends 4 2 get_a ∷ []

-- one that is answered with time to live 0 ends the session
abbrev pub KeepaliveEnds : Type 0
KeepaliveEnds =
    outcomes
    holding_core
    (ticks_at 20000
    ∷ works_at 20000
    ∷ answers_at 20000 3 2 (body.KeepAlive session 0)
    ∷ asks_at 20000 2 get_a
    ∷ works_at 20000
    ∷ [])
    ≡ notes ∷ sends 3 0 keepalive ∷ notes ∷ waits ∷ sends 4 2 get_a ∷ []

-- the session's lease isn't there any more when a key is acquired: its reader has a call of its own
abbrev pub AcquireEndsSession : Type 0
AcquireEndsSession =
    outcomes
    opened_core
    (asks 1 get_a ∷ works ∷ at_first (event.Answer 2 (answer.Refused lease_not_found)) ∷ works ∷ asks 2 get_a ∷ works ∷ [])
    ≡ waits ∷ sends 2 1 acquire_of_a ∷ notes ∷ sends 3 1 get_a ∷ waits ∷ sends 4 2 get_a ∷ []

-- at its deadline a due owner write becomes a guest write, and it keeps its place
abbrev pub DueOwnerIsGuest : Type 0
DueOwnerIsGuest =
    outcomes holding_core (asks_at 59999 2 (put_a (codes "x")) ∷ asks_at 59999 3 get_a ∷ works_at 60000 ∷ works_at 60000 ∷ [])
    ≡ waits ∷ waits ∷ sends 3 2 (guarded_put (codes "x") 0) ∷ sends 4 3 get_a ∷ []

-- The leasing stream.

abbrev owners_from : ℕ → WatchAsk
owners_from start =
    record { range = leasing_range (codes "L/"); start = start; no_put = false; no_delete = false; prev_kv = false; progress = false }

abbrev begins : ℕ → ℕ → Result Outcome StepFault
begins number start = Ok (outcome.Job (Some (job.Begin number 1 (request.Watch (owners_from start)))))

-- a cut stream goes on from its next revision, under the next number; what is held stays so
abbrev pub CutGoesOn : Type 0
CutGoesOn =
    outcomes holding_core (at_first (event.Cut 1) ∷ works ∷ asks 2 get_a ∷ []) ≡ notes ∷ begins 2 2 ∷ replies (done 2 none_there) ∷ []

-- while it isn't created anew, no key is acquired
abbrev pub NoAcquireWhileCut : Type 0
NoAcquireWhileCut =
    outcomes opened_core (at_first (event.Cut 1) ∷ works ∷ asks 2 get_a ∷ works ∷ []) ≡ notes ∷ begins 2 2 ∷ waits ∷ sends 2 2 get_a ∷ []

-- what a compaction took can't be told: all is given up, and it begins anew
abbrev pub CompactionGivesUp : Type 0
CompactionGivesUp =
    outcomes holding_core (at_first (event.Item 1 (item.Canceled (head 9) 5)) ∷ works ∷ works ∷ [])
    ≡ notes ∷ sends 3 0 rescind_of_a ∷ begins 2 0 ∷ []

-- what a write found counts as deleted when the stream has begun anew
abbrev pub AnewFrees : Type 0
AnewFrees =
    outcomes
    opened_core
    (asks 1 (put_a (codes "z"))
    ∷ works
    ∷ answers 2 4 owned_by_other
    ∷ works
    ∷ answers 3 5 put_done
    ∷ at_first (event.Item 1 (item.Canceled (head 9) 5))
    ∷ works
    ∷ at_first (event.Item 2 (item.Created (head 9)))
    ∷ works
    ∷ [])
    ≡ waits
    ∷ sends 2 1 (guarded_put (codes "z") 0)
    ∷ notes
    ∷ sends 3 1 ask_of_a
    ∷ notes
    ∷ notes
    ∷ begins 2 0
    ∷ notes
    ∷ sends 4 1 (guarded_put (codes "z") 0)
    ∷ []

-- What is seen from outside.

-- a record that is held, below the deadline
abbrev pub PeeksAtHeld : Type 0
PeeksAtHeld = peek (ran holding_core (asks 3 (put_a (codes "x")) ∷ works ∷ answers 3 3 put_done ∷ [])).core (codes "a") 59999 ≡ Some (record_a (codes "x") 3 1)

abbrev pub PeeksAtNone : Type 0
PeeksAtNone = peek (ran holding_core (asks 3 (put_a (codes "x")) ∷ works ∷ answers 3 3 put_done ∷ [])).core (codes "a") 60000 ≡ None

-- the least ticket whose reply stands
abbrev pub LeastIsReady : Type 0
LeastIsReady = ready (ran opened_core (asks 8 get_a ∷ asks 4 get_a ∷ works ∷ answers 2 2 (body.Txn true (none_there ∷ body.Put None ∷ [])) ∷ [])).core ≡ Some 4
