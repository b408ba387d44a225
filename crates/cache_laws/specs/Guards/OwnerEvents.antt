-- A put of an ownership key makes a revision of its own; so the event that tells it tells the record of the key at that revision.
use Rattle.std.specs.Prelude.{◌≡◌, ◌≤◌, ◌==◌, ℕ, Bool, true, false, not, ◌||◌, List, length, Some, Ok}
use Rattle.std.specs.List.{list_all, Contains}
use Rattle.etcd_types.specs.declared.operation.Op.TheVariants as op
use Rattle.etcd_types.specs.declared.operation.TxnAsk.{TxnAsk}
use Rattle.etcd_types.specs.declared.request.Request.{Request}
use Rattle.etcd_types.specs.declared.watch.Change.{Change}
use Rattle.etcd_types.specs.declared.watch.Change.TheVariants as event
use Rattle.etcd_types.specs.declared.watch.Event.{Event}
use Rattle.etcd_types.specs.Ranges.{contains}
use Rattle.store_model.specs.declared.history.KeyChange.{KeyChange}
use Rattle.store_model.specs.declared.history.KeyChange.TheVariants as change
use Rattle.store_model.specs.Events.{events}
use Rattle.store_model.specs.History.{History, newest}
use Rattle.store_model.specs.Leases.{expired}
use Rattle.store_model.specs.Records.{record_at}
use Rattle.store_model.specs.State.{State}
use Rattle.store_laws.specs.Requests.Branches.{after_txn}
use Rattle.store_laws.specs.Requests.NamedKeys.{names}
use Rattle.proxy_model.specs.Acquire.{acquire}
use Rattle.proxy_model.specs.Foreign.{ask_revoke}
use Rattle.proxy_model.specs.Guarded.{guarded, IsWrite}
use Rattle.proxy_model.specs.Leaving.{rescind}
use Rattle.proxy_model.specs.Prefixes.{leasing_range}
use Rattle.cache_laws.specs.Guards.Covers.{stays_out}

-- a change that puts no ownership key
abbrev pub puts_no_owner : List ℕ → KeyChange → Bool
puts_no_owner p (change.Put key value lease) = not (contains (leasing_range p) key)
puts_no_owner p (change.Delete key) = true

-- a revision that puts no ownership key, or does nothing else
abbrev pub puts_alone : List ℕ → List KeyChange → Bool
puts_alone p cs = list_all (puts_no_owner p) cs || length cs == 1

abbrev pub PutAlone : List ℕ → History → Type 0
PutAlone p h = list_all (puts_alone p) h ≡ true

-- so it is after each call of a proxy, and after a lease has ended
abbrev pub WritesPutAlone : Type 0
WritesPutAlone =
    (s : State) (member : ℕ) (p : List ℕ) (write : Request) (created : List ℕ → ℕ) → IsWrite write → stays_out p write ≡ true → PutAlone p s.history
    → PutAlone p (after_txn s member (guarded p write created)).history

abbrev pub OwnersPutAlone : Type 0
OwnersPutAlone =
    (s : State) (member : ℕ) (p k : List ℕ) (n : ℕ) → PutAlone p s.history
    → PutAlone p (after_txn s member (acquire p k n)).history
    × PutAlone p (after_txn s member (rescind p k n)).history
    × PutAlone p (after_txn s member (ask_revoke p k n)).history

abbrev pub ReadsPutAlone : Type 0
ReadsPutAlone =
    (s : State) (member : ℕ) (p : List ℕ) (t : TxnAsk) → ((k : List ℕ) → names k (op.Txn t) ≡ false) → PutAlone p s.history → PutAlone p (after_txn s member t).history

abbrev pub EndsPutAlone : Type 0
EndsPutAlone = (s t : State) (p : List ℕ) (lease : ℕ) → expired s lease ≡ Ok t → PutAlone p s.history → PutAlone p t.history

-- an event that tells a put of an ownership key tells the key's record at its revision
abbrev pub TellsRecord : History → Change → Type 0
TellsRecord h (event.Put kv) = (kv.modified ≤ newest h) × (record_at h kv.modified kv.key ≡ Some kv)
TellsRecord h (event.Delete key modified) = Unit {0}

abbrev pub OwnerEventsTell : Type 0
OwnerEventsTell = (p : List ℕ) (h : History) (from : ℕ) (e : Event) → PutAlone p h → Contains (events h (leasing_range p) from) e → TellsRecord h e.change
