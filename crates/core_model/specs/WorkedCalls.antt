-- Worked runs of requests that are refused, passed on, answered from held records, or share a call; of stale and late answers; and
-- of numbers that nothing has.
use Rattle.std.specs.Prelude.{◌≡◌, ℕ, ◌^◌, true, false, codes, List, [], ◌∷◌, None, Some, Ok, Err}
use Rattle.etcd_types.specs.declared.answer.Answer.{Answer}
use Rattle.etcd_types.specs.declared.answer.Answer.TheVariants as answer
use Rattle.etcd_types.specs.declared.answer.Body.TheVariants as body
use Rattle.etcd_types.specs.declared.operation.Relation.TheVariants as relation
use Rattle.etcd_types.specs.declared.operation.Target.TheVariants as target
use Rattle.etcd_types.specs.declared.request.Request.{Request}
use Rattle.etcd_types.specs.declared.request.Request.TheVariants as request
use Rattle.store_model.specs.Refusals.{key_not_provided}
use Rattle.proxy_model.specs.declared.unserved.Unserved.TheVariants.{IgnoreLease}
use Rattle.proxy_model.specs.Asks.{range_ask, read_op}
use Rattle.proxy_model.specs.PassingOn.{call_lost}
use Rattle.proxy_model.specs.Prefixes.{only}
use Rattle.proxy_model.specs.RequestRefusals.{unsupported, reserved_lease}
use Rattle.core_model.specs.declared.event.CoreEvent.TheVariants as event
use Rattle.core_model.specs.declared.event.Job.TheVariants as job
use Rattle.core_model.specs.declared.event.Outcome.TheVariants as outcome
use Rattle.core_model.specs.declared.event.StepFault.TheVariants as fault
use Rattle.core_model.specs.Refusals.{reserved_range}
use Rattle.core_model.specs.Step.{stepped}
use Rattle.core_model.specs.Stepped.{faults}
use Rattle.core_model.specs.Verdicts.{timed_out, no_greater_revision}
use Rattle.core_model.specs.WorkedRuns.{Timed, outcomes, at_first, proxy_of, plain_proxy, leasing_proxy, holding_core, asks, works, takes, takes_at, answers, answers_at, loses, done, waits, pends, notes, replies, sends, sends_nothing, get_a, put_a, none_there}

abbrev put_at : List ℕ → ℕ → Request
put_at k lease = request.Put (record { key = k; value = codes "x"; lease = lease; prev_kv = false; ignore_lease = false })

-- the leasing range is named before a reserved lease number
abbrev pub AreRefused : Type 0
AreRefused =
    outcomes
    leasing_proxy
    (asks 1 (put_at (codes "L/a") (2 ^ 62))
    ∷ asks 2 (request.Range (range_ask (only [])))
    ∷ asks 3 (request.Put (record { key = codes "a"; value = codes "x"; lease = 0; prev_kv = false; ignore_lease = true }))
    ∷ asks 4 (request.Revoke (2 ^ 62))
    ∷ asks 5 (put_at (codes "L/a") 0)
    ∷ [])
    ≡ replies (answer.Refused reserved_range)
    ∷ replies (answer.Refused key_not_provided)
    ∷ replies (answer.Refused (unsupported IgnoreLease))
    ∷ replies (answer.Refused reserved_lease)
    ∷ replies (answer.Refused reserved_range)
    ∷ []

-- a grant that leaves its number open is sent with one that is drawn
abbrev pub GrantIsNumbered : Type 0
GrantIsNumbered = outcomes plain_proxy (asks 1 (request.Grant 10 0) ∷ works ∷ []) ≡ waits ∷ sends 1 1 (request.Grant 10 4) ∷ []

-- A read that a member may answer from an older revision.

abbrev read_anyhow : Request
read_anyhow = request.Range (record (range_ask (only (codes "a"))) { serializable = true })

abbrev stale_from : ℕ → List Timed → List Timed
stale_from call rest = works ∷ answers call 1 none_there ∷ rest

-- a member that is behind for good: five times, and then there is a reply
abbrev pub StaleIsRefused : Type 0
StaleIsRefused =
    outcomes
    plain_proxy
    (asks 1 (put_a (codes "x"))
    ∷ works
    ∷ answers 1 2 (body.Put None)
    ∷ takes 1
    ∷ asks 2 read_anyhow
    ∷ stale_from 2 (stale_from 3 (stale_from 4 (stale_from 5 (stale_from 6 (takes 2 ∷ []))))))
    ≡ waits
    ∷ sends 1 1 (put_a (codes "x"))
    ∷ notes
    ∷ replies (done 2 (body.Put None))
    ∷ waits
    ∷ sends 2 2 read_anyhow
    ∷ notes
    ∷ sends 3 2 read_anyhow
    ∷ notes
    ∷ sends 4 2 read_anyhow
    ∷ notes
    ∷ sends 5 2 read_anyhow
    ∷ notes
    ∷ sends 6 2 read_anyhow
    ∷ notes
    ∷ replies (answer.Refused no_greater_revision)
    ∷ []

-- of two members the second is asked where the first one's call was lost, and then there is no other
abbrev pub NextMemberIsAsked : Type 0
NextMemberIsAsked =
    outcomes (proxy_of 2 []) (asks 1 get_a ∷ works ∷ loses 1 ∷ works ∷ loses 2 ∷ takes 1 ∷ [])
    ≡ waits
    ∷ sends 1 1 get_a
    ∷ notes
    ∷ Ok (outcome.Job (Some (job.Call 2 2 1 get_a)))
    ∷ notes
    ∷ replies (answer.Refused call_lost)
    ∷ []

-- a lost put isn't tried again: it may have been done
abbrev pub LostPutIsLost : Type 0
LostPutIsLost =
    outcomes (proxy_of 2 []) (asks 1 (put_a (codes "x")) ∷ works ∷ loses 1 ∷ takes 1 ∷ works ∷ [])
    ≡ waits ∷ sends 1 1 (put_a (codes "x")) ∷ notes ∷ replies (answer.Refused call_lost) ∷ sends_nothing ∷ []

-- a ticket that is used again has nothing of the request that had it before
abbrev pub LateAnswerIsNothing : Type 0
LateAnswerIsNothing =
    outcomes
    plain_proxy
    (asks 1 (put_a (codes "x"))
    ∷ works
    ∷ takes_at 5000 1
    ∷ (record { now = 5000; event = event.Ask 1 get_a 3 })
    ∷ (record { now = 5000; event = event.Work })
    ∷ answers_at 5000 1 2 (body.Put None)
    ∷ takes_at 5000 1
    ∷ [])
    ≡ waits
    ∷ sends 1 1 (put_a (codes "x"))
    ∷ replies (answer.Refused timed_out)
    ∷ waits
    ∷ sends 2 1 get_a
    ∷ notes
    ∷ pends
    ∷ []

-- Keepalives of one lease.

abbrev keep : Request
keep = request.KeepAlive 7

abbrev kept : Answer
kept = done 1 (body.KeepAlive 7 30)

-- two share a call; a third, that is asked while it is out, has the next one
abbrev pub KeepalivesShare : Type 0
KeepalivesShare =
    outcomes
    plain_proxy
    (asks 2 keep ∷ asks 3 keep ∷ works ∷ asks 4 keep ∷ works ∷ answers 1 1 (body.KeepAlive 7 30) ∷ takes 2 ∷ takes 3 ∷ takes 4 ∷ works ∷ [])
    ≡ waits
    ∷ waits
    ∷ sends 1 2 keep
    ∷ waits
    ∷ sends_nothing
    ∷ notes
    ∷ replies kept
    ∷ replies kept
    ∷ pends
    ∷ sends 2 4 keep
    ∷ []

abbrev pub LostKeepalivesAreLost : Type 0
LostKeepalivesAreLost =
    outcomes plain_proxy (asks 2 keep ∷ asks 3 keep ∷ works ∷ asks 4 keep ∷ loses 1 ∷ takes 2 ∷ takes 3 ∷ works ∷ [])
    ≡ waits
    ∷ waits
    ∷ sends 1 2 keep
    ∷ waits
    ∷ notes
    ∷ replies (answer.Refused call_lost)
    ∷ replies (answer.Refused call_lost)
    ∷ sends 2 4 keep
    ∷ []

-- Transactions that only read, where `a` is held as absent.

abbrev read_if_new : List ℕ → Request
read_if_new k =
    request.Txn (record {
      compare = (record { range = only (codes "a"); target = target.Version; relation = relation.Equal; number = 0; value = [] }) ∷ [];
      success = read_op (only k) ∷ [];
      failure = [];
    })

abbrev pub SnapshotIsCached : Type 0
SnapshotIsCached =
    outcomes holding_core (asks 6 (read_if_new (codes "a")) ∷ []) ≡ replies (done 2 (body.Txn true (none_there ∷ []))) ∷ []

-- one that names a key which isn't held is passed on
abbrev pub OthersArePassedOn : Type 0
OthersArePassedOn =
    outcomes holding_core (asks 7 (read_if_new (codes "b")) ∷ works ∷ []) ≡ waits ∷ sends 3 7 (read_if_new (codes "b")) ∷ []

-- Faults.

abbrev pub NumbersAreUnknown : Type 0
NumbersAreUnknown =
    outcomes
    plain_proxy
    (asks 1 get_a
    ∷ asks 1 get_a
    ∷ takes 2
    ∷ at_first (event.Leave 2)
    ∷ loses 1
    ∷ answers 1 1 none_there
    ∷ at_first (event.Cut 1)
    ∷ at_first (event.Leave 1)
    ∷ takes 1
    ∷ [])
    ≡ waits
    ∷ Err (fault.TicketUsed 1)
    ∷ Err (fault.NoSuchTicket 2)
    ∷ Err (fault.NoSuchTicket 2)
    ∷ Err (fault.NoSuchCall 1)
    ∷ Err (fault.NoSuchCall 1)
    ∷ Err (fault.NoSuchStream 1)
    ∷ notes
    ∷ Err (fault.NoSuchTicket 1)
    ∷ []

-- after 2^62 steps nothing is done, and no other fault is looked for
abbrev pub WornDoesNothing : Type 0
WornDoesNothing =
    stepped (record plain_proxy { steps = 2 ^ 62 }) (event.Take 9) 70000 ≡ faults (record plain_proxy { steps = 2 ^ 62 }) fault.Worn
