-- One step of the server's machine: what the event does to the shop as it finds it, and what it answers.
use Rattle.std.specs.Prelude.{◌≡◌, ℕ, Bool, true, false, ◌==◌, ◌+◌, ◌^◌, nat_le, if◌then◌else◌, List, ◌++◌, ◌⊎◌, length, map, Result, Ok, Err, ⊤}
use Rattle.etcd_types.specs.declared.request.Request.{Request}
use Rattle.etcd_types.specs.declared.request.Request.TheVariants as request
use Rattle.etcd_types.specs.declared.answer.Answer.{Answer}
use Rattle.etcd_types.specs.declared.answer.Answer.TheVariants as answer
use Rattle.etcd_types.specs.declared.answer.Body.{Body}
use Rattle.etcd_types.specs.declared.answer.Body.TheVariants as body
use Rattle.store_model.specs.declared.store_fault.StoreFault.TheVariants as fault
use Rattle.store_model.specs.History.{newest}
use Rattle.store_model.specs.State.{State}
use Rattle.store_model.specs.Step.{Step, exec, IsExecuted}
use Rattle.store_model.specs.Watches.{Pushed, opened, pushed}
use Rattle.shop_model.specs.declared.deadline.Deadline.{Deadline}
use Rattle.shop_model.specs.declared.event.StoreEvent.{StoreEvent}
use Rattle.shop_model.specs.declared.event.StoreEvent.TheVariants.{Exec, Open, Push}
use Rattle.shop_model.specs.declared.event.StoreOutcome.{StoreOutcome}
use Rattle.shop_model.specs.declared.event.StoreOutcome.TheVariants as outcome
use Rattle.shop_model.specs.declared.event.StoreStepFault.{StoreStepFault}
use Rattle.shop_model.specs.declared.event.StoreStepFault.TheVariants as step
use Rattle.shop_model.specs.Deadlines.{ends_at, with_deadline, without_deadline, put_off, due}
use Rattle.shop_model.specs.Shop.{Shop, all_ended, settled}

-- a lease that was granted expires so many seconds from now
abbrev pub after_grant : ℕ → Body → List Deadline → List Deadline
after_grant now (body.Grant lease ttl) ds = with_deadline (record { number = lease; at = ends_at now ttl }) ds
after_grant now _ ds = ds

-- one that was kept alive doesn't before so many seconds from now, where there is such a lease
abbrev pub after_keepalive : ℕ → Body → List Deadline → List Deadline
after_keepalive now (body.KeepAlive lease ttl) ds = if ttl == 0 then ds else map (put_off lease (ends_at now ttl)) ds
after_keepalive now _ ds = ds

-- what a request that was done leaves of the deadlines; one that is revoked has none
abbrev pub deadlines_by : ℕ → Request → Body → List Deadline → List Deadline
deadlines_by now (request.Grant ttl lease) b ds = after_grant now b ds
deadlines_by now (request.KeepAlive lease) b ds = after_keepalive now b ds
deadlines_by now (request.Revoke lease) b ds = without_deadline lease ds
deadlines_by now _ b ds = ds

-- one that was refused leaves all
abbrev pub deadlines_after : ℕ → Request → Answer → List Deadline → List Deadline
deadlines_after now q (answer.Done reply) ds = deadlines_by now q reply.body ds
deadlines_after now q (answer.Refused refusal) ds = ds

-- what the shop then is, and what was answered
abbrev pub Stepped : Type 0
Stepped = Shop × Result StoreOutcome StoreStepFault

abbrev pub with_answer : ℕ → Request → Shop → Step → Stepped
with_answer now q s a =
    (record { store = a.0; deadlines = deadlines_after now q a.1 s.deadlines }, Ok (outcome.Answer a.1))

abbrev pub with_opened : Shop → State × ℕ → Stepped
with_opened s o = (record { store = o.0; deadlines = s.deadlines }, Ok (outcome.Opened o.1))

abbrev pub with_pushed : ℕ → Shop → Pushed → Stepped
with_pushed number s (Ok p) = (record { store = p.0; deadlines = s.deadlines }, Ok (outcome.Item p.1))
with_pushed number s (Err (fault.NothingToPush watch)) = (s, Ok outcome.Nothing)
with_pushed number s (Err _) = (s, Err (step.NoSuchWatch number))

-- what an event does to the shop that it finds
abbrev pub does : ℕ → StoreEvent → Shop → Stepped
does now (Exec q) s = with_answer now q s (exec s.store 1 q)
does now (Open ask) s = with_opened s (opened s.store 1 ask)
does now (Push number) s = with_pushed number s (pushed s.store number)

-- how many revisions and leases there are together
abbrev pub spent : State → ℕ
spent s = newest s.history + length s.leases

-- they are used up
abbrev pub is_worn : Shop → Bool
is_worn s = nat_le (2 ^ 62) (spent s.store)

-- A step for which memory was wanting has ended some of the leases that were due, the lowest numbers first, none and all among them, or
-- has come as far as its event, which it didn't do.
abbrev pub Begun : ℕ → Shop → Shop → Type 0
Begun now s t =
    ((front : List ℕ) × (back : List ℕ) × (due now s.deadlines ≡ front ++ back) × (t ≡ all_ended front s)) ⊎ (t ≡ settled now s)

-- A step at this reading of the clock. It is worn before any lease ends.
abbrev pub StepsTo : Shop → StoreEvent → ℕ → Result StoreOutcome StoreStepFault → Shop → Type 0
StepsTo s e now (Err step.Worn) t = (is_worn s ≡ true) × (t ≡ s)
StepsTo s e now (Err step.NoMemory) t = (is_worn s ≡ false) × Begun now s t
StepsTo s e now a t = (is_worn s ≡ false) × ((t, a) ≡ does now e (settled now s))

-- which events a step takes: a watch is opened, not executed
abbrev pub May : StoreEvent → Type 0
May (Exec q) = IsExecuted q
May _ = ⊤
