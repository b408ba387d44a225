-- Which of a proxy's own transactions the store answers whatever it holds, and the one refusal that the others can meet.
use Rattle.std.specs.Prelude.{◌≡◌, ◌≢◌, ℕ, true, false, List}
use Rattle.etcd_types.specs.declared.answer.Refusal.{Refusal}
use Rattle.etcd_types.specs.declared.answer.Reply.{Reply}
use Rattle.etcd_types.specs.declared.answer.Answer.TheVariants as answer
use Rattle.etcd_types.specs.declared.operation.PutAsk.{PutAsk}
use Rattle.etcd_types.specs.declared.operation.DeleteAsk.{DeleteAsk}
use Rattle.etcd_types.specs.declared.operation.TxnAsk.{TxnAsk}
use Rattle.etcd_types.specs.declared.request.Request.TheVariants as request
use Rattle.etcd_types.specs.Keys.{is_empty}
use Rattle.store_model.specs.FirstRefusals.{txn_lacks_key}
use Rattle.store_model.specs.Refusals.{lease_not_found}
use Rattle.store_model.specs.State.{State}
use Rattle.store_model.specs.Step.{exec}
use Rattle.proxy_model.specs.Acquire.{acquire}
use Rattle.proxy_model.specs.Foreign.{ask_revoke}
use Rattle.proxy_model.specs.Guarded.{guarded}
use Rattle.proxy_model.specs.Leaving.{rescind}
use Rattle.proxy_model.specs.Snapshot.{is_snapshot}
use Rattle.store_laws.specs.Requests.Branches.{Answers}
use Rattle.store_laws.specs.Lives.Sound.{is_granted}

abbrev pub IsAnswered : State → ℕ → TxnAsk → Type 0
IsAnswered s member t = (reply : Reply) × Answers s member t reply

-- plain reads and compares of single keys, with no empty key
abbrev pub SnapshotsAreAnswered : Type 0
SnapshotsAreAnswered = (s : State) (member : ℕ) (t : TxnAsk) → is_snapshot t ≡ true → txn_lacks_key t ≡ false → IsAnswered s member t

abbrev pub AcquiresAreAnswered : Type 0
AcquiresAreAnswered =
    (s : State) (member : ℕ) (p k : List ℕ) (lease : ℕ) → is_empty p ≡ false → is_empty k ≡ false → is_granted s.leases lease ≡ true → IsAnswered s member (acquire p k lease)

abbrev pub RescindsAreAnswered : Type 0
RescindsAreAnswered = (s : State) (member : ℕ) (p k : List ℕ) (create : ℕ) → is_empty p ≡ false → IsAnswered s member (rescind p k create)

-- the one refusal that an acquire can meet
abbrev pub AcquiresLackLease : Type 0
AcquiresLackLease =
    (s : State) (member : ℕ) (p k : List ℕ) (lease : ℕ) (refusal : Refusal) → is_empty p ≡ false → is_empty k ≡ false → (exec s member (request.Txn (acquire p k lease))).1 ≡ answer.Refused refusal → refusal ≡ lease_not_found

-- a revoke call of an ownership key that was found
abbrev pub RevokesAreAnswered : Type 0
RevokesAreAnswered = (s : State) (member : ℕ) (p k : List ℕ) (create : ℕ) → is_empty p ≡ false → create ≢ 0 → IsAnswered s member (ask_revoke p k create)

-- a guarded put under a lease that is there, or none
abbrev pub PutsAreAnswered : Type 0
PutsAreAnswered =
    (s : State) (member : ℕ) (p : List ℕ) (ask : PutAsk) (created : List ℕ → ℕ) → is_empty p ≡ false → is_empty ask.key ≡ false → is_granted s.leases ask.lease ≡ true → ask.ignore_lease ≡ false
    → IsAnswered s member (guarded p (request.Put ask) created)

-- the one refusal that it can meet
abbrev pub PutsLackLease : Type 0
PutsLackLease =
    (s : State) (member : ℕ) (p : List ℕ) (ask : PutAsk) (created : List ℕ → ℕ) (refusal : Refusal) → is_empty p ≡ false → is_empty ask.key ≡ false → ask.ignore_lease ≡ false
    → (exec s member (request.Txn (guarded p (request.Put ask) created))).1 ≡ answer.Refused refusal → refusal ≡ lease_not_found

-- a guarded delete, of one key or of a range, which may be in two parts
abbrev pub DeletesAreAnswered : Type 0
DeletesAreAnswered =
    (s : State) (member : ℕ) (p : List ℕ) (ask : DeleteAsk) (created : List ℕ → ℕ) → is_empty p ≡ false → is_empty ask.range.key ≡ false
    → IsAnswered s member (guarded p (request.Delete ask) created)
