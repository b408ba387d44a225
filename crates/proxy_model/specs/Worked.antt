-- Worked transactions, under the leasing prefix L/ and session 4611686018427387908, written out operation by operation.
use Rattle.std.specs.Prelude.{◌≡◌, ℕ, Bool, true, false, codes, List, [], ◌∷◌, ◌++◌, None, Some}
use Rattle.etcd_types.specs.declared.record.Kv.{Kv}
use Rattle.etcd_types.specs.declared.operation.Compare.{Compare}
use Rattle.etcd_types.specs.declared.operation.Target.{Target}
use Rattle.etcd_types.specs.declared.operation.Target.TheVariants as target
use Rattle.etcd_types.specs.declared.operation.Relation.TheVariants as relation
use Rattle.etcd_types.specs.declared.operation.TxnAsk.{TxnAsk}
use Rattle.etcd_types.specs.declared.operation.Op.{Op}
use Rattle.etcd_types.specs.declared.operation.Op.TheVariants as op
use Rattle.etcd_types.specs.declared.request.Request.{Request}
use Rattle.etcd_types.specs.declared.request.Request.TheVariants as request
use Rattle.etcd_types.specs.declared.answer.Body.{Body}
use Rattle.etcd_types.specs.declared.answer.Body.TheVariants as body
use Rattle.etcd_types.specs.declared.answer.Reply.{Reply}
use Rattle.proxy_model.specs.declared.ownership.Claim.TheVariants as claim
use Rattle.proxy_model.specs.declared.ownership.Written.TheVariants as written_as
use Rattle.proxy_model.specs.Acquire.{acquire, claimed}
use Rattle.proxy_model.specs.Foreign.{ask_revoke}
use Rattle.proxy_model.specs.Guarded.{guarded, create_or, written}
use Rattle.proxy_model.specs.Leaving.{rescind, guard_held}
use Rattle.proxy_model.specs.Prefixes.{prefix_end}

abbrev session : ℕ
session = 4611686018427387908

abbrev eq : Target → List ℕ → List ℕ → ℕ → Compare
eq t key end number =
    record { range = record { key = key; end = end }; target = t; relation = relation.Equal; number = number; value = [] }

abbrev create : List ℕ → List ℕ → ℕ → Compare
create key end number = eq target.Create key end number

abbrev range : List ℕ → List ℕ → Op
range key end =
    op.Range (record {
      range = record { key = key; end = end };
      revision = 0;
      limit = 0;
      serializable = false;
      keys_only = false;
      count_only = false;
      sort = record { order = 0; target = 0; min_mod = 0; max_mod = 0; min_create = 0; max_create = 0 };
    })

abbrev put : List ℕ → List ℕ → ℕ → Bool → Op
put key value lease ignore_lease =
    op.Put (record { key = key; value = value; lease = lease; prev_kv = false; ignore_lease = ignore_lease })

abbrev delete : List ℕ → List ℕ → Op
delete key end = op.Delete (record { range = record { key = key; end = end }; prev_kv = false })

abbrev put_of : List ℕ → List ℕ → Request
put_of key value =
    request.Put (record { key = key; value = value; lease = 0; prev_kv = false; ignore_lease = false })

abbrev delete_of : List ℕ → List ℕ → Request
delete_of key end = request.Delete (record { range = record { key = key; end = end }; prev_kv = false })

abbrev nobody : List ℕ → ℕ
nobody k = 0

abbrev pub Acquires : Type 0
Acquires =
    acquire (codes "L/") (codes "a") session
    ≡ record {
      compare = create (codes "L/a") [] 0 ∷ eq target.Lease (codes "a") [] 0 ∷ [];
      success = range (codes "a") [] ∷ put (codes "L/a") [] session false ∷ [];
      failure = range (codes "a") [] ∷ range (codes "L/a") [] ∷ [];
    }

abbrev pub WritesAsGuest : Type 0
WritesAsGuest =
    guarded (codes "L/") (put_of (codes "a") (codes "z")) nobody
    ≡ record {
      compare = create (codes "L/a") [] 0 ∷ [];
      success = put (codes "a") (codes "z") 0 false ∷ [];
      failure = range (codes "L/a") [] ∷ [];
    }

abbrev pub WritesAsOwner : Type 0
WritesAsOwner =
    guarded (codes "L/") (put_of (codes "a") (codes "x")) (λ k. 2)
    ≡ record {
      compare = create (codes "L/a") [] 2 ∷ [];
      success = put (codes "a") (codes "x") 0 false ∷ [];
      failure = range (codes "L/a") [] ∷ [];
    }

abbrev pub AsksRevoke : Type 0
AsksRevoke =
    ask_revoke (codes "L/") (codes "a") 2
    ≡ record { compare = create (codes "L/a") [] 2 ∷ []; success = put (codes "L/a") (codes "REVOKE") 0 true ∷ []; failure = [] }

abbrev pub Rescinds : Type 0
Rescinds =
    rescind (codes "L/") (codes "a") 2
    ≡ record { compare = create (codes "L/a") [] 2 ∷ []; success = delete (codes "L/a") [] ∷ []; failure = [] }

-- a range delete goes round the leasing range
abbrev pub DeletesRound : Type 0
DeletesRound =
    guarded (codes "L/") (delete_of (codes "A") (codes "Z")) nobody
    ≡ record {
      compare = create (codes "L/A") (codes "L/Z") 0 ∷ [];
      success = delete (codes "A") (codes "L/") ∷ delete (codes "L0") (codes "Z") ∷ [];
      failure = range (codes "L/A") (codes "L/Z") ∷ [];
    }

abbrev pub DeletesAll : Type 0
DeletesAll =
    guarded (codes "L/") (delete_of (0 ∷ []) (0 ∷ [])) nobody
    ≡ record {
      compare = create (codes "L/" ++ 0 ∷ []) (codes "L0") 0 ∷ [];
      success = delete (0 ∷ []) (codes "L/") ∷ delete (codes "L0") (0 ∷ []) ∷ [];
      failure = range (codes "L/" ++ 0 ∷ []) (codes "L0") ∷ [];
    }

-- one of a prefix of one zero byte has nothing before it
abbrev pub DeletesBehindZero : Type 0
DeletesBehindZero =
    guarded (0 ∷ []) (delete_of (0 ∷ []) (0 ∷ [])) nobody
    ≡ record {
      compare = create (0 ∷ 0 ∷ []) (1 ∷ []) 0 ∷ [];
      success = delete (1 ∷ []) (0 ∷ []) ∷ [];
      failure = range (0 ∷ 0 ∷ []) (1 ∷ []) ∷ [];
    }

-- one that doesn't meet the leasing range stays one
abbrev pub DeletesInOne : Type 0
DeletesInOne =
    guarded (codes "L/") (delete_of (codes "a") (codes "c")) nobody
    ≡ record {
      compare = create (codes "L/a") (codes "L/c") 0 ∷ [];
      success = delete (codes "a") (codes "c") ∷ [];
      failure = range (codes "L/a") (codes "L/c") ∷ [];
    }

abbrev client : TxnAsk
client =
    record {
      compare = eq target.Version (codes "a") [] 0 ∷ [];
      success = put (codes "a") (codes "x") 0 false ∷ [];
      failure = range (codes "a") [] ∷ [];
    }

-- a client's transaction is sent within
abbrev pub WritesTransaction : Type 0
WritesTransaction =
    guarded (codes "L/") (request.Txn client) nobody
    ≡ record {
      compare = create (codes "L/a") [] 0 ∷ [];
      success = op.Txn client ∷ [];
      failure = range (codes "L/a") [] ∷ [];
    }

abbrev both : TxnAsk
both =
    record {
      compare = eq target.Version (codes "a") [] 0 ∷ [];
      success = put (codes "a") (codes "x") 0 false ∷ [];
      failure = put (codes "b") (codes "y") 0 false ∷ [];
    }

-- of the keys written, a is owned
abbrev pub WritesShared : Type 0
WritesShared =
    guarded (codes "L/") (request.Txn both) (create_or 0 (record { key = codes "a"; create = 2 } ∷ []))
    ≡ record {
      compare = create (codes "L/a") [] 2 ∷ create (codes "L/b") [] 0 ∷ [];
      success = op.Txn both ∷ [];
      failure = range (codes "L/a") [] ∷ range (codes "L/b") [] ∷ [];
    }

-- Answers.

abbrev reply : ℕ → Body → Reply
reply revision b = record { header = record { cluster = 1; member = 1; revision = revision; term = 1 }; body = b }

abbrev own : ℕ → ℕ → ℕ → List ℕ → Kv
own created modified version value =
    record { key = codes "L/a"; value = value; create = created; modified = modified; version = version; lease = session }

abbrev pub ReadsAcquired : Type 0
ReadsAcquired =
    claimed (codes "L/") (codes "a") (reply 2 (body.Txn true (body.Range 0 false [] ∷ body.Put None ∷ [])))
    ≡ Some (claim.Acquired 2 None)

abbrev pub ReadsBlocked : Type 0
ReadsBlocked =
    written (codes "L/") (put_of (codes "a") (codes "z")) (reply 4 (body.Txn false (body.Range 1 false (own 2 2 1 [] ∷ []) ∷ [])))
    ≡ Some (written_as.Blocked (record { key = codes "a"; lease = session; create = 2; revoked = false } ∷ []))

abbrev pub ReadsRevoked : Type 0
ReadsRevoked =
    claimed (codes "L/") (codes "a") (reply 5 (body.Txn false (body.Range 0 false [] ∷ body.Range 1 false (own 2 5 2 (codes "REVOKE") ∷ []) ∷ [])))
    ≡ Some (claim.OwnedBy None (Some (record { key = codes "a"; lease = session; create = 2; revoked = true })))

-- the numbers of the parts are added
abbrev pub ReadsParts : Type 0
ReadsParts =
    written (codes "L/") (delete_of (codes "A") (codes "Z")) (reply 4 (body.Txn true (body.Delete 1 [] ∷ body.Delete 0 [] ∷ [])))
    ≡ Some (written_as.Wrote (reply 4 (body.Delete 1 [])))

abbrev pub ReadsNested : Type 0
ReadsNested =
    written (codes "L/") (request.Txn client) (reply 2 (body.Txn true (body.Txn true (body.Put None ∷ []) ∷ [])))
    ≡ Some (written_as.Wrote (reply 2 (body.Txn true (body.Put None ∷ []))))

-- a record of another key, and a body too few
abbrev pub RefusesOthers : Type 0
RefusesOthers =
    claimed (codes "L/") (codes "b") (reply 5 (body.Txn false (body.Range 0 false [] ∷ body.Range 1 false (own 2 2 1 [] ∷ []) ∷ []))) ≡ None

abbrev pub RefusesFew : Type 0
RefusesFew = claimed (codes "L/") (codes "a") (reply 2 (body.Txn true (body.Range 0 false [] ∷ []))) ≡ None

abbrev pub ReadsGuards : Type 0
ReadsGuards = guard_held (body.Txn true (body.Delete 1 [] ∷ [])) ≡ Some true

abbrev pub RefusesGuards : Type 0
RefusesGuards = guard_held (body.Txn true []) ≡ None

-- 61 FF ends at 62, and FF above every key
abbrev pub EndsPrefixes : Type 0
EndsPrefixes = prefix_end (0x61 ∷ 0xff ∷ []) ≡ 0x62 ∷ []

abbrev pub EndsFullPrefixes : Type 0
EndsFullPrefixes = prefix_end (0xff ∷ []) ≡ 0 ∷ []
