-- What becomes of leases and of the keys on them (etcd API reference, `LeaseGrant`, `LeaseRevoke`, `LeaseKeepAlive`, and
-- `PutRequest.lease`).
use Rattle.std.specs.Prelude.{◌≡◌, IsTrue, ◌↔◌, ◌⊎◌, ℕ, ◌<◌, ◌≤◌, Bool, true, false, not, ◌==◌, ◌&&◌, ◌||◌, List, [], ◌∷◌, None, Some, Ok}
use Rattle.std.specs.List.{list_any}
use Rattle.etcd_types.specs.declared.record.Kv.{Kv}
use Rattle.etcd_types.specs.declared.operation.Op.{Op, Row_of-Op, end_of-Op, more_of-Op}
use Rattle.etcd_types.specs.declared.operation.Op.TheVariants.{Range, Put, Delete, Txn'}
use Rattle.etcd_types.specs.declared.request.Request.{Request}
use Rattle.etcd_types.specs.declared.request.Request.TheVariants as request
use Rattle.etcd_types.specs.declared.answer.Answer.TheVariants as answer
use Rattle.etcd_types.specs.declared.answer.Body.TheVariants as body
use Rattle.etcd_types.specs.declared.answer.Reply.{Reply}
use Rattle.etcd_types.specs.Keys.{same}
use Rattle.store_model.specs.Records.{record_now}
use Rattle.store_model.specs.State.{State}
use Rattle.store_model.specs.Transactions.{has_lease}
use Rattle.store_model.specs.Leases.{granted, expired}
use Rattle.store_model.specs.Step.{exec}
use Rattle.store_laws.specs.Requests.Branches.{branch_now}
use Rattle.store_laws.specs.Requests.NamedKeys.{is_on_lease}
use Rattle.store_laws.specs.Lives.Sound.{Sound}

-- the lease is there, and lives as long as it did
abbrev pub KeepsLease : State → State → ℕ → Type 0
KeepsLease s t lease = (has_lease t.leases lease ≡ true) × (granted t.leases lease ≡ granted s.leases lease)

abbrev pub revokes : ℕ → Request → Bool
revokes lease (request.Revoke number) = number == lease
revokes lease _ = false

-- a lease goes only by its own revocation or expiry
abbrev pub LeasesStay : Type 0
LeasesStay =
    (s : State) (member : ℕ) (q : Request) (lease : ℕ) → Sound s → has_lease s.leases lease ≡ true → revokes lease q ≡ false
    → KeepsLease s (exec s member q).0 lease

abbrev pub OtherLeasesStay : Type 0
OtherLeasesStay =
    (s t : State) (number lease : ℕ) → expired s number ≡ Ok t → has_lease s.leases lease ≡ true → (number == lease) ≡ false → KeepsLease s t lease

-- and then it is gone
abbrev pub ExpiredLeasesGo : Type 0
ExpiredLeasesGo = (s t : State) (lease : ℕ) → Sound s → expired s lease ≡ Ok t → has_lease t.leases lease ≡ false

abbrev pub RevokedLeasesGo : Type 0
RevokedLeasesGo =
    (s : State) (member lease : ℕ) (reply : Reply) → Sound s → (exec s member (request.Revoke lease)).1 ≡ answer.Done reply
    → has_lease (exec s member (request.Revoke lease)).0.leases lease ≡ false

-- a key on a lease goes with it
abbrev pub AttachedKeysGo : Type 0
AttachedKeysGo =
    (s t : State) (lease : ℕ) (k : List ℕ) → expired s lease ≡ Ok t → IsTrue (is_on_lease lease (record_now s.history k)) → record_now t.history k ≡ None

-- a grant that was answered gave a lease that wasn't there, and now is, with the time to live that the answer tells
pub record IsGrant (s t : State) (lease ttl : ℕ) : Type 0 where
  pub new : has_lease s.leases lease ≡ false
  pub there : has_lease t.leases lease ≡ true
  pub lives : granted t.leases lease ≡ ttl
  pub positive : 1 ≤ ttl

abbrev pub GrantsAreThere : Type 0
GrantsAreThere =
    (s : State) (member asked number lease ttl : ℕ) (reply : Reply) → Sound s → (exec s member (request.Grant asked number)).1 ≡ answer.Done reply
    → reply.body ≡ body.Grant lease ttl → IsGrant s (exec s member (request.Grant asked number)).0 lease ttl

-- a keepalive tells a time above 0 exactly where its lease is there
abbrev pub KeepAlivesTell : Type 0
KeepAlivesTell =
    (s : State) (member number lease ttl : ℕ) (reply : Reply) → Sound s → (exec s member (request.KeepAlive number)).1 ≡ answer.Done reply
    → reply.body ≡ body.KeepAlive lease ttl → (lease ≡ number) × ((0 < ttl) ↔ (has_lease s.leases number ≡ true))

-- some put of the key names the lease; one that ignores its lease names none
abbrev mutual
  pub names_lease : List ℕ → ℕ → Op → Bool
  names_lease k lease (Range ask) = false
  names_lease k lease (Put ask) = same ask.key k && (not ask.ignore_lease && ask.lease == lease)
  names_lease k lease (Delete ask) = false
  names_lease k lease (Txn' compare m success n failure) = names_lease_row k lease success || names_lease_row k lease failure

  pub names_lease_row : {m : _} → List ℕ → ℕ → Row_of-Op m → Bool
  names_lease_row k lease end_of-Op = false
  names_lease_row k lease (more_of-Op op rest) = names_lease k lease op || names_lease_row k lease rest

-- the operations of a request that run: of a transaction those of one list
abbrev pub running : State → Request → List Op
running s (request.Range ask) = Range ask ∷ []
running s (request.Put ask) = Put ask ∷ []
running s (request.Delete ask) = Delete ask ∷ []
running s (request.Txn t) = branch_now s t
running s _ = []

-- a record's lease is the one that it had, or one that a put of its key named
abbrev pub RecordsKeepLeases : Type 0
RecordsKeepLeases =
    (s : State) (member : ℕ) (q : Request) (k : List ℕ) (kv : Kv) → record_now (exec s member q).0.history k ≡ Some kv
    → (is_on_lease kv.lease (record_now s.history k) ≡ true) ⊎ (list_any (names_lease k kv.lease) (running s q) ≡ true)
