-- Worked runs of writes: as a guest, as the owner, with a lease, and of several keys.
use Rattle.std.specs.Prelude.{◌≡◌, true, false, codes, List, [], ◌∷◌, None}
use Rattle.etcd_types.specs.declared.answer.Body.TheVariants as body
use Rattle.etcd_types.specs.declared.operation.Op.{Op}
use Rattle.etcd_types.specs.declared.operation.Op.TheVariants as op
use Rattle.etcd_types.specs.declared.operation.Target.TheVariants as target
use Rattle.etcd_types.specs.declared.operation.TxnAsk.{TxnAsk}
use Rattle.etcd_types.specs.declared.request.Request.{Request}
use Rattle.etcd_types.specs.declared.request.Request.TheVariants as request
use Rattle.etcd_types.specs.declared.answer.Body.{Body}
use Rattle.proxy_model.specs.Asks.{created_at, equals, put_op, read_op}
use Rattle.proxy_model.specs.Prefixes.{only}
use Rattle.core_model.specs.WorkedRuns.{outcomes, opened_core, holding_core, asks, works, takes, answers, tells, done, waits, notes, replies, sends, sends_nothing, get_a, put_a, one_there, record_a, guarded_put, put_done, rescind_of_a, rescind_done, ask_of_a, is_asked, is_deleted, owned_by_other, session}

-- a guest finds an owner, asks it, and goes on when it is told of the deletion
abbrev pub GuestAsksOwner : Type 0
GuestAsksOwner =
    outcomes
    opened_core
    (asks 1 (put_a (codes "z"))
    ∷ works
    ∷ answers 2 4 owned_by_other
    ∷ works
    ∷ answers 3 5 put_done
    ∷ works
    ∷ tells 6 (is_deleted 6 ∷ [])
    ∷ works
    ∷ answers 4 7 put_done
    ∷ takes 1
    ∷ [])
    ≡ waits
    ∷ sends 2 1 (guarded_put (codes "z") 0)
    ∷ notes
    ∷ sends 3 1 ask_of_a
    ∷ notes
    ∷ sends_nothing
    ∷ notes
    ∷ sends 4 1 (guarded_put (codes "z") 0)
    ∷ notes
    ∷ replies (done 7 (body.Put None))
    ∷ []

-- the owner gives its key up when it is asked
abbrev pub OwnerGivesUp : Type 0
OwnerGivesUp = outcomes holding_core (tells 3 (is_asked session ∷ []) ∷ works ∷ []) ≡ notes ∷ sends 3 0 rescind_of_a ∷ []

abbrev pub leased_put : Request
leased_put = request.Put (record { key = codes "a"; value = codes "x"; lease = 7; prev_kv = false; ignore_lease = false })

abbrev pub guarded_leased_put : Request
guarded_leased_put =
    request.Txn (record { compare = created_at (only (codes "L/a")) 0 ∷ []; success = put_op (codes "a") (codes "x") 7 false ∷ []; failure = read_op (only (codes "L/a")) ∷ [] })

-- what is put with a lease isn't kept
abbrev pub LeasedGivesUp : Type 0
LeasedGivesUp =
    outcomes holding_core (asks 3 leased_put ∷ works ∷ answers 3 3 rescind_done ∷ works ∷ [])
    ≡ waits ∷ sends 3 0 rescind_of_a ∷ notes ∷ sends 4 3 guarded_leased_put ∷ []

-- A client's transaction: it puts `a` where that is new, and else reads it or puts `b`.

abbrev pub put_if_new : List Op → TxnAsk
put_if_new otherwise =
    record { compare = equals target.Version (only (codes "a")) 0 ∷ []; success = put_op (codes "a") (codes "x") 0 false ∷ []; failure = otherwise }

abbrev pub ran_nested : Body → Body
ran_nested b = body.Txn true (b ∷ [])

abbrev pub guest_txn : Request
guest_txn =
    request.Txn (record { compare = created_at (only (codes "L/a")) 0 ∷ []; success = op.Txn (put_if_new (read_op (only (codes "a")) ∷ [])) ∷ []; failure = read_op (only (codes "L/a")) ∷ [] })

-- as a guest, its own body is the reply
abbrev pub TransactionIsNested : Type 0
TransactionIsNested =
    outcomes
    opened_core
    (asks 1 (request.Txn (put_if_new (read_op (only (codes "a")) ∷ []))) ∷ works ∷ answers 2 2 (ran_nested put_done) ∷ takes 1 ∷ [])
    ≡ waits ∷ sends 2 1 guest_txn ∷ notes ∷ replies (done 2 put_done) ∷ []

abbrev pub put_one : Request
put_one = request.Txn (put_if_new (put_op (codes "b") (codes "y") 0 false ∷ []))

abbrev pub owner_txn : Request
owner_txn =
    request.Txn (record {
      compare = created_at (only (codes "L/a")) 2 ∷ created_at (only (codes "L/b")) 0 ∷ [];
      success = op.Txn (put_if_new (put_op (codes "b") (codes "y") 0 false ∷ [])) ∷ [];
      failure = read_op (only (codes "L/a")) ∷ read_op (only (codes "L/b")) ∷ [];
    })

-- as the owner it keeps what it owns, with what the branch that ran left of it
abbrev pub TransactionWritesThrough : Type 0
TransactionWritesThrough =
    outcomes
    holding_core
    (asks 3 put_one
    ∷ works
    ∷ answers 3 3 (ran_nested put_done)
    ∷ takes 3
    ∷ asks 4 get_a
    ∷ asks 5 put_one
    ∷ works
    ∷ answers 4 4 (ran_nested (body.Txn false (body.Put None ∷ [])))
    ∷ takes 5
    ∷ asks 6 get_a
    ∷ [])
    ≡ waits
    ∷ sends 3 3 owner_txn
    ∷ notes
    ∷ replies (done 3 put_done)
    ∷ replies (done 3 (one_there (record_a (codes "x") 3 1)))
    ∷ waits
    ∷ sends 4 5 owner_txn
    ∷ notes
    ∷ replies (done 4 (body.Txn false (body.Put None ∷ [])))
    ∷ replies (done 4 (one_there (record_a (codes "x") 3 1)))
    ∷ []

abbrev pub delete_all : Request
delete_all = request.Delete (record { range = record { key = codes "A"; end = codes "Z" }; prev_kv = false })

-- a delete of a range goes round the leasing range, behind all ownership keys of the range
abbrev pub guarded_delete : Request
guarded_delete =
    request.Txn (record {
      compare = created_at (record { key = codes "L/A"; end = codes "L/Z" }) 0 ∷ [];
      success = op.Delete (record { range = record { key = codes "A"; end = codes "L/" }; prev_kv = false }) ∷ op.Delete (record { range = record { key = codes "L0"; end = codes "Z" }; prev_kv = false }) ∷ [];
      failure = read_op (record { key = codes "L/A"; end = codes "L/Z" }) ∷ [];
    })

abbrev pub RangeIsDeleted : Type 0
RangeIsDeleted =
    outcomes opened_core (asks 1 delete_all ∷ works ∷ answers 2 4 (body.Txn true (body.Delete 1 [] ∷ body.Delete 0 [] ∷ [])) ∷ takes 1 ∷ [])
    ≡ waits ∷ sends 2 1 guarded_delete ∷ notes ∷ replies (done 4 (body.Delete 1 [])) ∷ []
