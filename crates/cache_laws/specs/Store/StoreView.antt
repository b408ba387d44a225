-- What the view of true caches shows of a store of bare keys, where `p` is the leasing prefix: the ownership keys by their create
-- revision and lease, and the records of client keys.
use Rattle.std.specs.Prelude.{◌≡◌, ℕ, ◌≤◌, Bool, not, ◌&&◌, if◌then◌else◌, List, ◌++◌, Option, None, true}
use Rattle.etcd_types.specs.declared.record.Kv.{Kv}
use Rattle.etcd_types.specs.Keys.{is_empty}
use Rattle.etcd_types.specs.Ranges.{contains}
use Rattle.store_model.specs.History.{History, newest, up_to_revision}
use Rattle.store_model.specs.Records.{record_now}
use Rattle.store_model.specs.State.{State}
use Rattle.store_model.specs.Transactions.{has_lease}
use Rattle.proxy_model.specs.Prefixes.{leasing_range}
use Rattle.cache_laws.specs.Moves.View.{Owner, nobody, View}
use Rattle.cache_laws.specs.Moves.Invariant.{Inv}
use Rattle.store_model.specs.LeftRecords.{lease_of}
use Rattle.cache_laws.specs.Guards.GuardLaw.{create_of}
use Rattle.store_laws.specs.Lives.Sound.{Sound}
use Rattle.store_laws.specs.Lives.TestedKeys.{keys_pass}
use Rattle.cache_laws.specs.Guards.OwnershipKeys.{has_owner}
use Rattle.std.specs.List.{list_all}
use Rattle.cache_laws.specs.Guards.OwnerEvents.{PutAlone}

-- a key of clients: not empty, and outside the leasing range
abbrev pub is_client : List ℕ → List ℕ → Bool
is_client p k = not (is_empty k) && not (contains (leasing_range p) k)

abbrev pub owner_in : Option Kv → Owner
owner_in o = record { create = create_of o; session = lease_of o }

-- the empty key has no owner
abbrev pub owner_at : History → List ℕ → List ℕ → Owner
owner_at h p k = if is_empty k then nobody else owner_in (record_now h (p ++ k))

abbrev pub kv_at : History → List ℕ → List ℕ → Option Kv
kv_at h p k = if is_client p k then record_now h k else None

pub record Shows (p : List ℕ) (s : State) (v : View) : Type 0 where
  pub rev : v.rev ≡ newest s.history
  pub owners : (k : List ℕ) → v.owners k ≡ owner_at s.history p k
  pub kvs : (k : List ℕ) → v.kvs k ≡ kv_at s.history p k
  pub told : (r : ℕ) (k : List ℕ) → r ≤ newest s.history → v.told r k ≡ owner_at (up_to_revision s.history r) p k
  pub leases : (number : ℕ) → v.leases number ≡ has_lease s.leases number

-- a store that only proxies with this prefix write: it is sound, only ownership keys stand in the leasing range, and each of them
-- was put by a revision of its own
pub record IsOrderly (p : List ℕ) (s : State) : Type 0 where
  pub sound : Sound s
  pub owned : list_all (keys_pass (has_owner p)) s.history ≡ true
  pub alone : PutAlone p s.history

-- what every step keeps: the view shows the store, its invariant holds, and the store is orderly
pub record Stands (holder : ℕ → ℕ) (p : List ℕ) (s : State) (v : View) : Type 0 where
  pub shows : Shows p s v
  pub inv : Inv holder v
  pub orderly : IsOrderly p s
