-- What holds of every store that began empty, whatever is asked of it (etcd API reference: keys are not empty, a lease's number is
-- not 0, a key is attached to a lease that is there, a compaction is of a past revision).
use Rattle.std.specs.Prelude.{◌≡◌, ◌⊎◌, ℕ, Bool, true, false, ◌≤◌, ◌==◌, ◌&&◌, ◌||◌, nat_lt, nat_le, List, [], ◌∷◌, Some, Ok}
use Rattle.std.specs.List.{list_all}
use Rattle.etcd_types.specs.declared.record.Kv.{Kv}
use Rattle.etcd_types.specs.declared.request.Request.{Request}
use Rattle.etcd_types.specs.declared.request.WatchAsk.{WatchAsk}
use Rattle.etcd_types.specs.declared.watch.WatchItem.{WatchItem}
use Rattle.store_model.specs.declared.history.KeyChange.{KeyChange}
use Rattle.store_model.specs.declared.lease.Lease.{Lease}
use Rattle.store_model.specs.History.{History, newest}
use Rattle.store_model.specs.Records.{record_now}
use Rattle.store_model.specs.State.{State, starting}
use Rattle.store_model.specs.Transactions.{has_lease}
use Rattle.store_model.specs.Leases.{expired}
use Rattle.store_model.specs.Members.{applied}
use Rattle.store_model.specs.Watches.{opened, pushed, progressed}
use Rattle.store_model.specs.Step.{exec}
use Rattle.store_laws.specs.Lives.TestedKeys.{have_keys}

-- no lease, or one of these
abbrev pub is_granted : List Lease → ℕ → Bool
is_granted leases number = number == 0 || has_lease leases number

-- the numbers rise from above `low`, and each lives at least a second
abbrev pub rise_above : ℕ → List Lease → Bool
rise_above low [] = true
rise_above low (lease ∷ leases) = nat_lt low lease.number && (nat_le 1 lease.ttl && rise_above lease.number leases)

-- a revision has changes
abbrev pub is_revision : List KeyChange → Bool
is_revision [] = false
is_revision (c ∷ cs) = true

-- every record's lease is there
abbrev pub AreAttached : List Lease → History → Type 0
AreAttached leases h = (k : List ℕ) (kv : Kv) → record_now h k ≡ Some kv → is_granted leases kv.lease ≡ true

-- a revision that the history has
abbrev pub is_reached : History → ℕ → Bool
is_reached h revision = nat_le revision (newest h)

pub record Sound (s : State) : Type 0 where
  pub revisions : list_all is_revision s.history ≡ true
  pub keys : list_all have_keys s.history ≡ true
  pub leases : rise_above 0 s.leases ≡ true
  pub compacted : s.compacted ≤ newest s.history
  pub applied : list_all (is_reached s.history) s.applied ≡ true
  pub attached : AreAttached s.leases s.history

abbrev pub StartsSound : Type 0
StartsSound = (members : ℕ) → Sound (starting members)

-- whatever the request
abbrev pub RequestsKeepSound : Type 0
RequestsKeepSound = (s : State) (member : ℕ) (q : Request) → Sound s → Sound (exec s member q).0

abbrev pub ExpiriesKeepSound : Type 0
ExpiriesKeepSound = (s t : State) (lease : ℕ) → expired s lease ≡ Ok t → Sound s → Sound t

abbrev pub AppliesKeepSound : Type 0
AppliesKeepSound = (s t : State) (member revision : ℕ) → applied s member revision ≡ Ok t → Sound s → Sound t

abbrev pub OpeningsKeepSound : Type 0
OpeningsKeepSound = (s : State) (member : ℕ) (ask : WatchAsk) → Sound s → Sound (opened s member ask).0

abbrev pub MessagesKeepSound : Type 0
MessagesKeepSound = (s t : State) (i : WatchItem) (number : ℕ) → (pushed s number ≡ Ok (t, i)) ⊎ (progressed s number ≡ Ok (t, i)) → Sound s → Sound t
