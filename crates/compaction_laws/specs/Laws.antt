-- What a store keeps is enough: no read, no step and no message depends on anything else.
use Rattle.std.specs.Prelude.{◌≡◌, ◌≤◌, ℕ, List, Result, Ok, Err}
use Rattle.etcd_types.specs.declared.key_range.KeyRange.{KeyRange}
use Rattle.etcd_types.specs.declared.operation.Op.{Op}
use Rattle.etcd_types.specs.declared.request.Request.{Request}
use Rattle.etcd_types.specs.declared.request.WatchAsk.{WatchAsk}
use Rattle.store_model.specs.declared.history.KeyChange.{KeyChange}
use Rattle.store_model.specs.declared.store_fault.StoreFault.{StoreFault}
use Rattle.store_model.specs.History.{History}
use Rattle.store_model.specs.State.{State}
use Rattle.store_model.specs.Ranges.{records_now, records_in}
use Rattle.store_model.specs.Events.{watch_events}
use Rattle.store_model.specs.Transactions.{run}
use Rattle.store_model.specs.Leases.{attached, expired}
use Rattle.store_model.specs.Members.{applied}
use Rattle.store_model.specs.Watches.{Pushed, opened, pushed, progressed}
use Rattle.store_model.specs.Step.{Step, exec}
use Rattle.compaction_laws.specs.Alike.{KeepSame, Alike}

-- the records of a range, now
abbrev pub RangesByKept : Type 0
RangesByKept = (c : ℕ) (h g : History) → KeepSame c h g → (range : KeyRange) → records_now h range ≡ records_now g range

-- and at every revision from the compaction on
abbrev pub EarlierRangesByKept : Type 0
EarlierRangesByKept = (c : ℕ) (h g : History) → KeepSame c h g → (r : ℕ) (range : KeyRange) → c ≤ r → records_in h r range ≡ records_in g r range

-- the keys of a lease
abbrev pub AttachedByKept : Type 0
AttachedByKept = (c : ℕ) (h g : History) → KeepSame c h g → (lease : ℕ) → attached h lease ≡ attached g lease

-- every operation, with transactions within transactions, on whatever its request has changed so far
abbrev pub OperationsByKept : Type 0
OperationsByKept = (s t : State) → Alike s t → (op : Op) (made : List KeyChange) → run s op made ≡ run t op made

-- what a watch is told from a revision that can still be read on, the records before its events too
abbrev pub EventsByKept : Type 0
EventsByKept = (c : ℕ) (h g : History) → KeepSame c h g → (ask : WatchAsk) (from : ℕ) → c ≤ from → watch_events h c ask from ≡ watch_events g c ask from

-- alike states after the step, and the same answer
pub record SameStep (x y : Step) : Type 0 where
  pub state : Alike x.0 y.0
  pub answer : x.1 ≡ y.1

abbrev pub RequestsByKept : Type 0
RequestsByKept = (s t : State) → Alike s t → (member : ℕ) (q : Request) → SameStep (exec s member q) (exec t member q)

-- alike states, or the same fault
abbrev pub SameOutcome : Result State StoreFault → Result State StoreFault → Type 0
SameOutcome (Ok s) (Ok t) = Alike s t
SameOutcome (Ok s) (Err f) = ⊥
SameOutcome (Err e) (Ok t) = ⊥
SameOutcome (Err e) (Err f) = e ≡ f

abbrev pub ExpiriesByKept : Type 0
ExpiriesByKept = (s t : State) → Alike s t → (lease : ℕ) → SameOutcome (expired s lease) (expired t lease)

abbrev pub AppliesByKept : Type 0
AppliesByKept = (s t : State) → Alike s t → (member revision : ℕ) → SameOutcome (applied s member revision) (applied t member revision)

abbrev pub OpeningsByKept : Type 0
OpeningsByKept =
    (s t : State) → Alike s t → (member : ℕ) (ask : WatchAsk)
    → Alike (opened s member ask).0 (opened t member ask).0 × ((opened s member ask).1 ≡ (opened t member ask).1)

-- alike states and the same message, or the same fault
abbrev pub SamePush : Pushed → Pushed → Type 0
SamePush (Ok x) (Ok y) = Alike x.0 y.0 × (x.1 ≡ y.1)
SamePush (Ok x) (Err f) = ⊥
SamePush (Err e) (Ok y) = ⊥
SamePush (Err e) (Err f) = e ≡ f

abbrev pub MessagesByKept : Type 0
MessagesByKept = (s t : State) → Alike s t → (number : ℕ) → SamePush (pushed s number) (pushed t number)

abbrev pub ProgressByKept : Type 0
ProgressByKept = (s t : State) → Alike s t → (number : ℕ) → SamePush (progressed s number) (progressed t number)
