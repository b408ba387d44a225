-- A proxy's calls, executed by the store, are moves of the view: whatever was sent, the view of the store before becomes the view of
-- the store after it. What each call asks for is read off the call itself.
use Rattle.std.specs.Prelude.{◌≡◌, ◌≢◌, ℕ, ◌≤◌, ◌==◌, Bool, true, false, not, ◌&&◌, ◌||◌, List}
use Rattle.std.specs.List.{list_all}
use Rattle.etcd_types.specs.declared.operation.Op.{Op}
use Rattle.etcd_types.specs.declared.operation.Op.TheVariants as op
use Rattle.etcd_types.specs.declared.answer.Answer.TheVariants as answer
use Rattle.etcd_types.specs.declared.answer.Refusal.{Refusal}
use Rattle.etcd_types.specs.declared.answer.Reply.{Reply}
use Rattle.etcd_types.specs.declared.request.Request.{Request}
use Rattle.etcd_types.specs.declared.request.Request.TheVariants as request
use Rattle.etcd_types.specs.Keys.{is_empty, same}
use Rattle.store_model.specs.History.{newest}
use Rattle.store_model.specs.State.{State, starting}
use Rattle.store_model.specs.Step.{exec}
use Rattle.store_laws.specs.Requests.NamedKeys.{names}
use Rattle.proxy_model.specs.Acquire.{acquire}
use Rattle.proxy_model.specs.Foreign.{ask_revoke}
use Rattle.proxy_model.specs.Guarded.{guarded, IsWrite}
use Rattle.proxy_model.specs.Leaving.{rescind}
use Rattle.cache_laws.specs.Moves.View.{Acquires, Writes, Rescinds, Call, Outcome, View, opening}
use Rattle.cache_laws.specs.Moves.StoreMoves.{executed, acquired}
use Rattle.cache_laws.specs.Store.StoreView.{is_client, owner_at, kv_at, Stands}
use Rattle.store_laws.specs.Requests.Branches.{Answers, holds_now, after_txn}
use Rattle.store_model.specs.LeftRecords.{left_by}
use Rattle.cache_laws.specs.Guards.Covers.{covers, stays_out, AreGuards}
use Rattle.cache_laws.specs.Guards.GuardLaw.{running_ops, is_flat_write}
use Rattle.store_laws.specs.Lives.Sound.{Sound}

-- a call that was sent and wasn't executed before
pub record IsOut (v : View) (i : ℕ) : Type 0 where
  pub sent : i ≤ v.sent
  pub fresh : (v.outcomes i).done ≡ false

-- what was executed, where the store is this one then
abbrev pub outcome : State → List ℕ → Bool → Outcome
outcome t p ok =
    record { done = true; ok = ok; create = newest t.history; ttl = 0; kvs = kv_at t.history p; owners = owner_at t.history p; leaves = λ k old. old }

-- Writes.

-- the call in the view is this write, which compares these create revisions
pub record IsWriteOf (p : List ℕ) (write : Request) (created : List ℕ → ℕ) (c : Call) : Type 0 where
  pub kind : c.kind ≡ Writes
  pub covers : (k : List ℕ) → c.covers k ≡ is_client p k && covers write k
  pub guards : (k : List ℕ) → c.guards k ≡ created k

-- no put of the key names a lease, or keeps one
abbrev pub op_unleased : List ℕ → Op → Bool
op_unleased k (op.Range ask) = true
op_unleased k (op.Put ask) = not (same ask.key k) || ask.lease == 0
op_unleased k (op.Delete ask) = true
op_unleased k (op.Txn' compare m success n failure) = true

abbrev pub is_unleased : List ℕ → Request → Bool
is_unleased k (request.Put ask) = op_unleased k (op.Put ask)
is_unleased k (request.Txn t) = list_all (op_unleased k) t.success && list_all (op_unleased k) t.failure
is_unleased k write = true

abbrev pub write_outcome : State → State → List ℕ → Request → Bool → Outcome
write_outcome s t p write ok = record (outcome t p ok) { leaves = λ k old. left_by (newest t.history) k (running_ops s p write) old }

-- a guest or an owner write, of one key or of several, that the store answers
abbrev pub WritesStep : Type 0
WritesStep =
    (holder : ℕ → ℕ) (s : State) (member : ℕ) (p : List ℕ) (write : Request) (created : List ℕ → ℕ) (reply : Reply) (v : View) (i : ℕ)
    → IsWrite write → is_empty p ≡ false → stays_out p write ≡ true → is_flat_write write ≡ true → AreGuards write created
    → ((k : List ℕ) → created k ≢ 0 → is_unleased k write ≡ true)
    → Answers s member (guarded p write created) reply → IsOut v i → IsWriteOf p write created (v.calls i) → Stands holder p s v
    → let t = after_txn s member (guarded p write created) in
    Stands holder p t (executed v i (write_outcome s t p write (holds_now s (guarded p write created))) (newest t.history))

-- Acquires.

pub record IsAcquireOf (k : List ℕ) (lease : ℕ) (c : Call) : Type 0 where
  pub kind : c.kind ≡ Acquires
  pub key : c.key ≡ k
  pub session : c.session ≡ lease

abbrev pub AcquiresStep : Type 0
AcquiresStep =
    (holder : ℕ → ℕ) (s : State) (member : ℕ) (p k : List ℕ) (lease : ℕ) (reply : Reply) (v : View) (i : ℕ) → is_client p k ≡ true
    → Answers s member (acquire p k lease) reply → IsOut v i → IsAcquireOf k lease (v.calls i) → Stands holder p s v
    → let t = after_txn s member (acquire p k lease) in
    Stands holder p t (acquired v i (outcome t p (holds_now s (acquire p k lease))) (newest t.history))

-- Rescinds and revoke calls, of any key but the empty one.

pub record IsRescindOf (k : List ℕ) (create : ℕ) (c : Call) : Type 0 where
  pub kind : c.kind ≡ Rescinds
  pub covers : (j : List ℕ) → c.covers j ≡ same k j
  pub guards : (j : List ℕ) → c.guards j ≡ create

abbrev pub RescindsStep : Type 0
RescindsStep =
    (holder : ℕ → ℕ) (s : State) (member : ℕ) (p k : List ℕ) (create : ℕ) (reply : Reply) (v : View) (i : ℕ) → is_empty k ≡ false
    → Answers s member (rescind p k create) reply → IsOut v i → IsRescindOf k create (v.calls i) → Stands holder p s v
    → let t = after_txn s member (rescind p k create) in
    Stands holder p t (executed v i (outcome t p (holds_now s (rescind p k create))) (newest t.history))

-- a call that is no acquire and covers no key
pub record IsOther (c : Call) : Type 0 where
  pub kind : c.kind ≢ Acquires
  pub uncovered : (k : List ℕ) → c.covers k ≡ false

-- a revoke call marks an ownership key, and leaves its create revision and its lease
abbrev pub RevokeCallsStep : Type 0
RevokeCallsStep =
    (holder : ℕ → ℕ) (s : State) (member : ℕ) (p k : List ℕ) (create : ℕ) (reply : Reply) (v : View) (i : ℕ) → is_empty k ≡ false → create ≢ 0
    → Answers s member (ask_revoke p k create) reply → IsOut v i → IsOther (v.calls i) → Stands holder p s v
    → let t = after_txn s member (ask_revoke p k create) in
    Stands holder p t (executed v i (outcome t p (holds_now s (ask_revoke p k create))) (newest t.history))

-- All other calls.

-- a request that names no key to change and grants or ends no lease
abbrev pub IsRead : Request → Type 0
IsRead (request.Range ask) = Unit {0}
IsRead (request.Txn t) = (k : List ℕ) → names k (op.Txn t) ≡ false
IsRead (request.Compact revision physical) = Unit {0}
IsRead (request.TimeToLive lease keys) = Unit {0}
IsRead request.Leases = Unit {0}
IsRead _ = ⊥

abbrev pub ReadsStep : Type 0
ReadsStep =
    (holder : ℕ → ℕ) (s : State) (member : ℕ) (p : List ℕ) (q : Request) (v : View) (i : ℕ) → IsRead q → IsOut v i → IsOther (v.calls i) → Stands holder p s v
    → let t = (exec s member q).0 in
    Stands holder p t (executed v i (outcome t p false) (newest t.history))

-- a call that the store refuses, whatever it was
abbrev pub RefusalsStep : Type 0
RefusalsStep =
    (holder : ℕ → ℕ) (s : State) (member : ℕ) (p : List ℕ) (q : Request) (refusal : Refusal) (v : View) (i : ℕ) → (exec s member q).1 ≡ answer.Refused refusal
    → IsOut v i → Stands holder p s v → Stands holder p (exec s member q).0 (executed v i (outcome s p false) (newest s.history))

-- Steps that the view doesn't see: a member applies a revision, a watch is opened, a message is pushed.
abbrev pub UnseenStep : Type 0
UnseenStep = (holder : ℕ → ℕ) (p : List ℕ) (s t : State) (v : View) → t.history ≡ s.history → t.leases ≡ s.leases → Sound t → Stands holder p s v → Stands holder p t v

-- and the start of all
abbrev pub StartStands : Type 0
StartStands = (holder : ℕ → ℕ) (p : List ℕ) (members : ℕ) → Stands holder p (starting members) opening
