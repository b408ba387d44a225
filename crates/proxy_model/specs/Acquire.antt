-- Acquire: a proxy takes the ownership of a key, and reads its record with it.
use Rattle.std.specs.Prelude.{ℕ, Bool, false, List, [], ◌∷◌, ◌++◌, Option, if◌then◌else◌}
use Rattle.std.specs.Option.{option_map}
use Rattle.etcd_types.specs.declared.operation.Target.TheVariants as target
use Rattle.etcd_types.specs.declared.operation.TxnAsk.{TxnAsk}
use Rattle.etcd_types.specs.declared.answer.Body.{Body}
use Rattle.etcd_types.specs.declared.answer.Reply.{Reply}
use Rattle.proxy_model.specs.declared.ownership.Claim.{Claim}
use Rattle.proxy_model.specs.declared.ownership.Claim.TheVariants.{Acquired, OwnedBy}
use Rattle.proxy_model.specs.Prefixes.{only}
use Rattle.proxy_model.specs.Asks.{read_op, put_op, equals, created_at}
use Rattle.proxy_model.specs.Fits.{branch_of, fits_txn}
use Rattle.proxy_model.specs.Foreign.{owner_of}
use Rattle.proxy_model.specs.Readings.{record_of, reading}

-- where nobody owns the key and no lease holds its record, it is read and the ownership key is put under the session; else
-- it is read with the ownership key
abbrev pub acquire : List ℕ → List ℕ → ℕ → TxnAsk
acquire p k lease =
    record {
      compare = created_at (only (p ++ k)) 0 ∷ equals target.Lease (only k) 0 ∷ [];
      success = read_op (only k) ∷ put_op (p ++ k) [] lease false ∷ [];
      failure = read_op (only k) ∷ read_op (only (p ++ k)) ∷ [];
    }

abbrev pub claim_of : List ℕ → ℕ → Bool → List Body → Claim
claim_of p revision succeeded bs =
    if succeeded then Acquired revision (record_of bs 0)
    else OwnedBy (record_of bs 0) (option_map (owner_of p) (record_of bs 1))

-- what the answer says, or nothing where it can't be one to an acquire; the lease has no part in that
abbrev pub claimed : List ℕ → List ℕ → Reply → Option Claim
claimed p k reply =
    reading (fits_txn (acquire p k 0) reply.body) (branch_of reply.body) (claim_of p reply.header.revision)
