-- Foreign ownership: the ownership key that stands in a write's way, and how its owner is asked to give the key up.
use Rattle.std.specs.Prelude.{ℕ, true, List, [], ◌∷◌, ◌++◌, length, drop, codes}
use Rattle.etcd_types.specs.declared.record.Kv.{Kv}
use Rattle.etcd_types.specs.declared.operation.TxnAsk.{TxnAsk}
use Rattle.etcd_types.specs.Keys.{same}
use Rattle.proxy_model.specs.declared.ownership.Owner.{Owner}
use Rattle.proxy_model.specs.Prefixes.{only}
use Rattle.proxy_model.specs.Asks.{created_at, put_op}

-- what an ownership key has as its value once its owner was asked
abbrev pub revoke_word : List ℕ
revoke_word = codes "REVOKE"

-- an ownership key's record, by the key that is owned
abbrev pub owner_of : List ℕ → Kv → Owner
owner_of p kv =
    record { key = drop (length p) kv.key; lease = kv.lease; create = kv.create; revoked = same kv.value revoke_word }

-- the ownership key that was found gets the word and keeps its lease; where it isn't that one any more, nothing is done
abbrev pub ask_revoke : List ℕ → List ℕ → ℕ → TxnAsk
ask_revoke p k create =
    record { compare = created_at (only (p ++ k)) create ∷ []; success = put_op (p ++ k) revoke_word 0 true ∷ []; failure = [] }
