-- What the store does, as moves of the view: what they ask for is what the guard law says of each call.
use Rattle.std.specs.Prelude.{◌≡◌, ◌≢◌, ◌+◌, ◌*◌, ℕ, ◌<◌, ◌≤◌, ◌==◌, max, Bool, true, false, if◌then◌else◌, ◌⊎◌, List, Option}
use Rattle.etcd_types.specs.declared.record.Kv.{Kv}
use Rattle.proxy_model.specs.RequestRefusals.{is_session}
use Rattle.cache_laws.specs.Moves.View.{Acquires, Writes, Owner, nobody, Outcome, View, put}
use Rattle.cache_laws.specs.Moves.Invariant.{Inv}
use Rattle.store_model.specs.LeftRecords.{lease_of}

-- the store has these owners and records at this revision
abbrev pub revised : View → ℕ → (List ℕ → Owner) → (List ℕ → Option Kv) → View
revised v rev owners kvs = record v { rev = rev; owners = owners; kvs = kvs; told = put v.told rev owners }

-- and a call was executed
abbrev pub executed : View → ℕ → Outcome → ℕ → View
executed v i o rev = record (revised v rev o.owners o.kvs) { outcomes = put v.outcomes i o }

-- a call that was sent and wasn't executed before; it makes at most one revision
pub record Ran (v : View) (i : ℕ) (o : Outcome) (rev : ℕ) : Type 0 where
  pub sent : i ≤ v.sent
  pub fresh : (v.outcomes i).done ≡ false
  pub done : o.done ≡ true
  pub past : v.rev ≤ rev
  pub next : rev ≤ v.rev + 1

-- a call that is no acquire: a write or a rescind, whether its compares held or not and also where it was refused, or another one,
-- which covers no key and so changes nothing that the view shows
pub record CallRan (v : View) (i : ℕ) (o : Outcome) (rev : ℕ) : Type 0 where
  pub ran : Ran v i o rev
  pub kind : (v.calls i).kind ≢ Acquires
  pub untimed : o.ttl ≡ 0
  -- where its compares held, each key that it covers had the owner that it compared
  pub guarded : o.ok ≡ true → (k : List ℕ) → (v.calls i).covers k ≡ true → (v.owners k).create ≡ (v.calls i).guards k
  -- a key that it doesn't cover stays
  pub others : (k : List ℕ) → (v.calls i).covers k ≡ false → o.owners k ≡ v.owners k
  pub others_kv : (k : List ℕ) → (v.calls i).covers k ≡ false → o.kvs k ≡ v.kvs k
  -- where they didn't hold, every key stays
  pub failed : o.ok ≡ false → (k : List ℕ) → o.owners k ≡ v.owners k
  pub failed_kv : o.ok ≡ false → (k : List ℕ) → o.kvs k ≡ v.kvs k
  -- a write leaves the owners; of the keys that it owns, its operations make the new records, and none of them gets a lease
  pub kept : (v.calls i).kind ≡ Writes → (k : List ℕ) → o.owners k ≡ v.owners k
  pub left : o.ok ≡ true → (v.calls i).kind ≡ Writes → (k : List ℕ) → (v.calls i).covers k ≡ true → (v.calls i).guards k ≢ 0 → o.kvs k ≡ o.leaves k (v.kvs k)
  pub unleased : o.ok ≡ true → (v.calls i).kind ≡ Writes → (k : List ℕ) → (v.calls i).covers k ≡ true → (v.calls i).guards k ≢ 0 → lease_of (v.kvs k) ≡ 0 → lease_of (o.kvs k) ≡ 0
  -- a rescind takes the owner away
  pub gone : (v.calls i).kind ≢ Writes → (k : List ℕ) → (v.calls i).covers k ≡ true → o.ok ≡ true → o.owners k ≡ nobody

abbrev pub CallsKeep : Type 0
CallsKeep = (holder : ℕ → ℕ) (v : View) (i : ℕ) (o : Outcome) (rev : ℕ) → CallRan v i o rev → Inv holder v → Inv holder (executed v i o rev)

-- an acquire: no record changes, and where it succeeds its key gets an owner, which nobody was before, and its record has no lease
pub record AcquireRan (v : View) (i : ℕ) (o : Outcome) (rev : ℕ) : Type 0 where
  pub ran : Ran v i o rev
  pub kind : (v.calls i).kind ≡ Acquires
  pub untimed : o.ttl ≡ 0
  pub same : (k : List ℕ) → o.kvs k ≡ v.kvs k
  pub others : (k : List ℕ) → (v.calls i).key ≢ k → o.owners k ≡ v.owners k
  pub failed : o.ok ≡ false → (k : List ℕ) → o.owners k ≡ v.owners k
  pub newer : o.ok ≡ true → v.rev < rev
  pub created : o.ok ≡ true → o.create ≡ rev
  pub free : o.ok ≡ true → (k : List ℕ) → (v.calls i).key ≡ k → (v.owners k).create ≡ 0
  pub unleased : o.ok ≡ true → (k : List ℕ) → (v.calls i).key ≡ k → lease_of (v.kvs k) ≡ 0
  pub owned : o.ok ≡ true → (k : List ℕ) → (v.calls i).key ≡ k → o.owners k ≡ record { create = rev; session = (v.calls i).session }

-- the sessions that made create revisions, with the new one
abbrev pub made_with : View → ℕ → Outcome → ℕ → ℕ → ℕ
made_with v i o rev = if o.ok then put v.made rev (v.calls i).session else v.made

abbrev pub acquired : View → ℕ → Outcome → ℕ → View
acquired v i o rev = record (executed v i o rev) { made = made_with v i o rev }

abbrev pub AcquiresKeep : Type 0
AcquiresKeep = (holder : ℕ → ℕ) (v : View) (i : ℕ) (o : Outcome) (rev : ℕ) → AcquireRan v i o rev → Inv holder v → Inv holder (acquired v i o rev)

-- a grant or a keepalive, of a session or of a client's lease: no record and no owner changes
pub record TermRan (v : View) (i : ℕ) (o : Outcome) : Type 0 where
  pub ran : Ran v i o v.rev
  pub kind : (v.calls i).kind ≢ Acquires
  pub uncovered : (k : List ℕ) → (v.calls i).covers k ≡ false
  pub owners : (k : List ℕ) → o.owners k ≡ v.owners k
  pub kvs : (k : List ℕ) → o.kvs k ≡ v.kvs k

-- where it was answered a time to live above 0 the lease is there, and its floor is no less than what the sender counts on
abbrev pub floor_with : View → ℕ → Outcome → ℕ
floor_with v i o =
    if o.ttl == 0 then v.floors (v.calls i).session else max (v.floors (v.calls i).session) ((v.calls i).at + 1000 * o.ttl)

abbrev pub leases_with : View → ℕ → Outcome → ℕ → Bool
leases_with v i o = if o.ttl == 0 then v.leases else put v.leases (v.calls i).session true

abbrev pub termed : View → ℕ → Outcome → View
termed v i o =
    record (executed v i o v.rev) { leases = leases_with v i o; floors = put v.floors (v.calls i).session (floor_with v i o) }

abbrev pub TermsKeep : Type 0
TermsKeep = (holder : ℕ → ℕ) (v : View) (i : ℕ) (o : Outcome) → TermRan v i o → Inv holder v → Inv holder (termed v i o)

-- a lease ends, by its revocation or its expiry, and its keys and ownership keys go: a client's at any time, and a session only
-- where its holder's clock has reached its floor
pub record Ended (holder : ℕ → ℕ) (v : View) (lease rev : ℕ) (owners : List ℕ → Owner) (kvs : List ℕ → Option Kv) : Type 0 where
  pub some : lease ≢ 0
  pub due : (is_session lease ≡ false) ⊎ (v.floors lease ≤ v.clocks (holder lease))
  pub past : v.rev ≤ rev
  pub next : rev ≤ v.rev + 1
  pub owner_gone : (k : List ℕ) → (v.owners k).session ≡ lease → owners k ≡ nobody
  pub owner_kept : (k : List ℕ) → (v.owners k).session ≢ lease → owners k ≡ v.owners k
  pub kept : (k : List ℕ) → lease_of (v.kvs k) ≢ lease → kvs k ≡ v.kvs k

abbrev pub lease_ended : View → ℕ → ℕ → (List ℕ → Owner) → (List ℕ → Option Kv) → View
lease_ended v lease rev owners kvs = record (revised v rev owners kvs) { leases = put v.leases lease false }

abbrev pub EndsKeep : Type 0
EndsKeep =
    (holder : ℕ → ℕ) (v : View) (lease rev : ℕ) (owners : List ℕ → Owner) (kvs : List ℕ → Option Kv) → Ended holder v lease rev owners kvs → Inv holder v
    → Inv holder (lease_ended v lease rev owners kvs)
