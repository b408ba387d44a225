-- What a proxy reads from the answers to its calls, and from the events of its leasing stream, is what the view has of them: so a move
-- of the view begins with what was read.
use Rattle.std.specs.Prelude.{◌≡◌, ℕ, Bool, true, false, if◌then◌else◌, List, [], ◌∷◌, Option, None, Some, ◌≤◌, ◌++◌}
use Rattle.std.specs.List.{list_any, Contains}
use Rattle.etcd_types.specs.declared.record.Kv.{Kv}
use Rattle.etcd_types.specs.declared.key_range.KeyRange.{KeyRange}
use Rattle.etcd_types.specs.declared.operation.Op.{Op}
use Rattle.etcd_types.specs.declared.operation.TxnAsk.{TxnAsk}
use Rattle.etcd_types.specs.declared.answer.Body.{Body}
use Rattle.etcd_types.specs.declared.answer.Reply.{Reply}
use Rattle.etcd_types.specs.declared.request.Request.{Request}
use Rattle.etcd_types.specs.declared.request.Request.TheVariants as request
use Rattle.etcd_types.specs.Keys.{is_empty}
use Rattle.store_model.specs.State.{State}
use Rattle.proxy_model.specs.declared.ownership.Claim.{Claim}
use Rattle.proxy_model.specs.declared.ownership.Claim.TheVariants.{Acquired, OwnedBy}
use Rattle.proxy_model.specs.declared.ownership.Owner as found
use Rattle.proxy_model.specs.declared.ownership.Written.{Written}
use Rattle.proxy_model.specs.declared.ownership.Written.TheVariants.{Wrote, Blocked}
use Rattle.proxy_model.specs.Acquire.{acquire, claimed}
use Rattle.proxy_model.specs.Fits.{branch_of}
use Rattle.proxy_model.specs.Guarded.{guarded, write_ops, written, IsWrite}
use Rattle.proxy_model.specs.SeveralKeys.{written_ranges}
use Rattle.cache_laws.specs.Moves.View.{nobody, Outcome, View}
use Rattle.cache_laws.specs.Store.StoreView.{is_client, Stands}
use Rattle.cache_laws.specs.Store.CallSteps.{outcome, write_outcome}
use Rattle.store_laws.specs.Requests.Branches.{Answers, holds_now, after_txn}
use Rattle.store_model.specs.LeftRecords.{left_by}
use Rattle.etcd_types.specs.declared.watch.Change.{Change}
use Rattle.etcd_types.specs.declared.watch.Change.TheVariants as event
use Rattle.etcd_types.specs.declared.watch.Event.{Event}
use Rattle.store_model.specs.Events.{events}
use Rattle.proxy_model.specs.Prefixes.{leasing_range}

-- the owner that was found of a key is the one that the view has in the answer
abbrev pub TellsOwner : Outcome → List ℕ → Option found.Owner → Type 0
TellsOwner o k None = o.owners k ≡ nobody
TellsOwner o k (Some w) = o.owners k ≡ record { create = w.create; session = w.lease }

-- an acquire's answer: whether it succeeded, its create revision, the record, and the owner where it didn't
abbrev pub TellsClaim : Outcome → List ℕ → Option Claim → Type 0
TellsClaim o k None = ⊥
TellsClaim o k (Some (Acquired create kv)) = (o.ok ≡ true) × (create ≡ o.create) × (kv ≡ o.kvs k)
TellsClaim o k (Some (OwnedBy kv owner)) = (o.ok ≡ false) × (kv ≡ o.kvs k) × TellsOwner o k owner

abbrev pub ClaimsTell : Type 0
ClaimsTell =
    (s : State) (member : ℕ) (p k : List ℕ) (lease : ℕ) (reply : Reply) → is_client p k ≡ true → Answers s member (acquire p k lease) reply
    → TellsClaim (outcome (after_txn s member (acquire p k lease)) p (holds_now s (acquire p k lease))) k (claimed p k reply)

-- each owner that was found, by its own key, which isn't empty
abbrev pub TellsOwners : Outcome → List found.Owner → Type 0
TellsOwners o [] = Unit {0}
TellsOwners o (w ∷ ws) = (is_empty w.key ≡ false) × TellsOwner o w.key (Some w) × TellsOwners o ws

-- the operations that ran, of a client's transaction by the branch that its answer tells
abbrev pub told_branch : TxnAsk → Option (Bool × List Body) → List Op
told_branch t None = []
told_branch t (Some (succeeded, bodies)) = if succeeded then t.success else t.failure

abbrev pub told_ops : List ℕ → Request → Body → List Op
told_ops p (request.Txn t) b = told_branch t (branch_of b)
told_ops p write b = write_ops p write

-- a guarded write's answer: whether it was done, what it leaves at the answer's revision, and the owners where it wasn't
abbrev pub TellsWritten : List ℕ → Request → Outcome → Option Written → Type 0
TellsWritten p write o None = ⊥
TellsWritten p write o (Some (Wrote reply)) = (o.ok ≡ true) × ((k : List ℕ) (old : Option Kv) → o.leaves k old ≡ left_by reply.header.revision k (told_ops p write reply.body) old)
TellsWritten p write o (Some (Blocked owners)) = (o.ok ≡ false) × TellsOwners o owners

abbrev pub begins_empty : KeyRange → Bool
begins_empty r = is_empty r.key

-- where no key or range of the write is empty
abbrev pub WritesTell : Type 0
WritesTell =
    (holder : ℕ → ℕ) (s : State) (member : ℕ) (p : List ℕ) (write : Request) (created : List ℕ → ℕ) (reply : Reply) (v : View) → Stands holder p s v → IsWrite write → is_empty p ≡ false
    → list_any begins_empty (written_ranges write) ≡ false → Answers s member (guarded p write created) reply
    → TellsWritten p write (write_outcome s (after_txn s member (guarded p write created)) p write (holds_now s (guarded p write created))) (written p write reply)

-- an event of the leasing range that tells a put: the owner that the view has of the key at that revision
abbrev pub TellsEvent : List ℕ → View → Change → Type 0
TellsEvent p v (event.Put kv) =
    (k : List ℕ) → is_empty k ≡ false → kv.key ≡ p ++ k → (kv.modified ≤ v.rev) × (v.told kv.modified k ≡ record { create = kv.create; session = kv.lease })
TellsEvent p v (event.Delete key modified) = Unit {0}

abbrev pub EventsTell : Type 0
EventsTell =
    (holder : ℕ → ℕ) (p : List ℕ) (s : State) (v : View) (from : ℕ) (e : Event) → Stands holder p s v → Contains (events s.history (leasing_range p) from) e → TellsEvent p v e.change
