-- The guard law: what each of a proxy's own transactions changes. A key's record changes only where its ownership key had the create
-- revision that was compared, and an ownership key only by an acquire that found none, a rescind or a revoke call of that very one.
use Rattle.std.specs.Prelude.{◌≡◌, ℕ, ◌+◌, Bool, true, false, ◌&&◌, List, [], ◌++◌, Option, None, Some}
use Rattle.std.specs.List.{list_all}
use Rattle.etcd_types.specs.declared.record.Kv.{Kv}
use Rattle.etcd_types.specs.declared.operation.TxnAsk.{TxnAsk}
use Rattle.etcd_types.specs.declared.operation.Op.{Op}
use Rattle.etcd_types.specs.declared.answer.Reply.{Reply}
use Rattle.etcd_types.specs.declared.request.Request.{Request}
use Rattle.etcd_types.specs.declared.request.Request.TheVariants as request
use Rattle.etcd_types.specs.Keys.{is_empty}
use Rattle.etcd_types.specs.Records.{after_put}
use Rattle.store_model.specs.History.{newest}
use Rattle.store_model.specs.Records.{record_now}
use Rattle.store_model.specs.State.{State}
use Rattle.store_laws.specs.Requests.NamedKeys.{KeepsRecord}
use Rattle.proxy_model.specs.Acquire.{acquire}
use Rattle.proxy_model.specs.Foreign.{ask_revoke, revoke_word}
use Rattle.proxy_model.specs.Guarded.{guarded, write_ops, IsWrite}
use Rattle.proxy_model.specs.Leaving.{rescind}
use Rattle.store_laws.specs.Requests.Branches.{Answers, holds_now, branch_now, after_txn}
use Rattle.store_model.specs.LeftRecords.{lease_of, left_by, is_flat}
use Rattle.cache_laws.specs.Guards.Covers.{covers, stays_out, AreGuards}

-- the create revision of a key's record, 0 where there is none
abbrev pub create_of : Option Kv → ℕ
create_of None = 0
create_of (Some kv) = kv.create

abbrev pub create_now : State → List ℕ → ℕ
create_now s k = create_of (record_now s.history k)

-- the store before and after a guarded write
pub record IsGuarded (p : List ℕ) (write : Request) (created : List ℕ → ℕ) (s t : State) : Type 0 where
  -- where a compare doesn't hold, no record changes
  pub failed : holds_now s (guarded p write created) ≡ false → (k : List ℕ) → KeepsRecord s t k
  -- where all hold, each key that is written had the ownership key that was compared
  pub guards : holds_now s (guarded p write created) ≡ true → (k : List ℕ) → is_empty k ≡ false → covers write k ≡ true → create_now s (p ++ k) ≡ created k
  -- a key that isn't written stays
  pub others : (k : List ℕ) → is_empty k ≡ false → covers write k ≡ false → KeepsRecord s t k
  -- and so does every ownership key
  pub owners : (k : List ℕ) → is_empty k ≡ false → KeepsRecord s t (p ++ k)

abbrev pub WritesAreGuarded : Type 0
WritesAreGuarded =
    (s : State) (member : ℕ) (p : List ℕ) (write : Request) (created : List ℕ → ℕ) → IsWrite write → is_empty p ≡ false → stays_out p write ≡ true → AreGuards write created
    → IsGuarded p write created s (after_txn s member (guarded p write created))

-- the operations of a write that run: of a transaction those of its branch
abbrev pub running_ops : State → List ℕ → Request → List Op
running_ops s p (request.Txn t) = branch_now s t
running_ops s p write = write_ops p write

-- no transaction within a client's transaction
abbrev pub is_flat_write : Request → Bool
is_flat_write (request.Txn t) = list_all is_flat t.success && list_all is_flat t.failure
is_flat_write write = true

-- an answered write whose compares held leaves at each key what its operations leave there, at the answer's revision
abbrev pub WritesLeave : Type 0
WritesLeave =
    (s : State) (member : ℕ) (p : List ℕ) (write : Request) (created : List ℕ → ℕ) (reply : Reply) → IsWrite write → is_flat_write write ≡ true
    → Answers s member (guarded p write created) reply → holds_now s (guarded p write created) ≡ true
    → (k : List ℕ) → record_now (after_txn s member (guarded p write created)).history k ≡ left_by (newest (after_txn s member (guarded p write created)).history) k (running_ops s p write) (record_now s.history k)

-- an acquire that was answered: where its compares hold, nobody owned the key and its record has no lease; then the key is owned under
-- the lease by a revision of its own, and no other record changes
pub record IsAcquired (p k : List ℕ) (lease : ℕ) (s t : State) : Type 0 where
  pub failed : holds_now s (acquire p k lease) ≡ false → (j : List ℕ) → KeepsRecord s t j
  pub free : holds_now s (acquire p k lease) ≡ true → record_now s.history (p ++ k) ≡ None
  pub unleased : holds_now s (acquire p k lease) ≡ true → lease_of (record_now s.history k) ≡ 0
  pub newer : holds_now s (acquire p k lease) ≡ true → newest t.history ≡ newest s.history + 1
  pub owned : holds_now s (acquire p k lease) ≡ true → record_now t.history (p ++ k) ≡ Some (after_put None (p ++ k) [] lease (newest t.history))
  pub others : (j : List ℕ) → (j ≡ p ++ k → ⊥) → KeepsRecord s t j

abbrev pub AcquiresClaim : Type 0
AcquiresClaim =
    (s : State) (member : ℕ) (p k : List ℕ) (lease : ℕ) (reply : Reply) → Answers s member (acquire p k lease) reply → IsAcquired p k lease s (after_txn s member (acquire p k lease))

-- a rescind or a revoke call changes the ownership key alone, and that where its create revision is the one compared
pub record IsOnOwner (p k : List ℕ) (create : ℕ) (s t : State) (u : TxnAsk) (leaves : Option Kv → Option Kv) : Type 0 where
  pub failed : holds_now s u ≡ false → (j : List ℕ) → KeepsRecord s t j
  pub guard : holds_now s u ≡ true → create_now s (p ++ k) ≡ create
  pub left : holds_now s u ≡ true → record_now t.history (p ++ k) ≡ leaves (record_now s.history (p ++ k))
  pub others : (j : List ℕ) → (j ≡ p ++ k → ⊥) → KeepsRecord s t j

abbrev pub RescindsDelete : Type 0
RescindsDelete =
    (s : State) (member : ℕ) (p k : List ℕ) (create : ℕ) (reply : Reply) → Answers s member (rescind p k create) reply
    → IsOnOwner p k create s (after_txn s member (rescind p k create)) (rescind p k create) (λ old. None)

abbrev pub RevokesMark : Type 0
RevokesMark =
    (s : State) (member : ℕ) (p k : List ℕ) (create : ℕ) (reply : Reply) → Answers s member (ask_revoke p k create) reply
    → IsOnOwner p k create s (after_txn s member (ask_revoke p k create)) (ask_revoke p k create) (λ old. Some (after_put old (p ++ k) revoke_word (lease_of old) (newest (after_txn s member (ask_revoke p k create)).history)))
