-- How the operations of a request run: in order, each on what the earlier ones made of the history.
use Rattle.std.specs.Prelude.{ℕ, Bool, true, false, not, ◌==◌, ◌&&◌, if◌then◌else◌, List, [], ◌∷◌, ◌++◌, length, map, Option, None, Some, Result, Ok, Err}
use Rattle.std.specs.List.{list_any}
use Rattle.etcd_types.specs.declared.record.Kv.{Kv}
use Rattle.etcd_types.specs.declared.operation.PutAsk.{PutAsk}
use Rattle.etcd_types.specs.declared.operation.DeleteAsk.{DeleteAsk}
use Rattle.etcd_types.specs.declared.operation.RangeAsk.{RangeAsk}
use Rattle.etcd_types.specs.declared.operation.TxnAsk.{TxnAsk}
use Rattle.etcd_types.specs.declared.operation.Op.{Op, Row_of-Op, end_of-Op, more_of-Op}
use Rattle.etcd_types.specs.declared.operation.Op.TheVariants.{Range, Put, Delete, Txn'}
use Rattle.etcd_types.specs.declared.answer.Body.{Body}
use Rattle.etcd_types.specs.declared.answer.Body.TheVariants as body
use Rattle.etcd_types.specs.declared.answer.Refusal.{Refusal}
use Rattle.store_model.specs.declared.history.KeyChange.{KeyChange}
use Rattle.store_model.specs.declared.history.KeyChange.TheVariants as change
use Rattle.store_model.specs.declared.lease.Lease.{Lease}
use Rattle.store_model.specs.History.{History, newest, with_revision}
use Rattle.store_model.specs.Records.{record_now}
use Rattle.store_model.specs.Ranges.{records_now}
use Rattle.store_model.specs.Refusals.{key_not_found, lease_not_found}
use Rattle.store_model.specs.State.{State}
use Rattle.store_model.specs.Reads.{read}
use Rattle.store_model.specs.Compares.{all_hold}

-- the changes that a request has made so far, and what its operations answered; a refusal refuses the whole request
abbrev pub Ran : Type 0
Ran = Result (List KeyChange × Body) Refusal

abbrev pub RanAll : Type 0
RanAll = Result (List KeyChange × List Body) Refusal

-- the history as an operation sees it: what the request changed so far stands as a revision of its own
abbrev pub seen : State → List KeyChange → History
seen s made = with_revision s.history made

abbrev pub unchanged : List KeyChange → Result Body Refusal → Ran
unchanged made (Ok body) = Ok (made, body)
unchanged made (Err refusal) = Err refusal

abbrev pub run_range : State → RangeAsk → List KeyChange → Ran
run_range s ask made = unchanged made (read (seen s made) (newest (seen s made)) s.compacted ask)

abbrev pub has_lease : List Lease → ℕ → Bool
has_lease leases number = list_any (λ lease. lease.number == number) leases

abbrev pub asked_prev : Bool → Option Kv → Option Kv
asked_prev prev_kv old = if prev_kv then old else None

-- the lease that is named, which may be none; a put that ignores it keeps the present one
abbrev pub put_on : PutAsk → List KeyChange → Option Kv → Ran
put_on ask made None =
    if ask.ignore_lease then Err key_not_found
    else Ok (made ++ change.Put ask.key ask.value ask.lease ∷ [], body.Put None)
put_on ask made (Some old) =
    Ok (made ++ change.Put ask.key ask.value (if ask.ignore_lease then old.lease else ask.lease) ∷ [], body.Put (asked_prev ask.prev_kv (Some old)))

abbrev pub run_put : State → PutAsk → List KeyChange → Ran
run_put s ask made =
    if not (ask.lease == 0) && not (has_lease s.leases ask.lease) then Err lease_not_found
    else put_on ask made (record_now (seen s made) ask.key)

abbrev pub deletion : Kv → KeyChange
deletion kv = change.Delete kv.key

abbrev pub delete_all : DeleteAsk → List KeyChange → List Kv → Ran
delete_all ask made gone =
    Ok (made ++ map deletion gone, body.Delete (length gone) (if ask.prev_kv then gone else []))

abbrev pub run_delete : State → DeleteAsk → List KeyChange → Ran
run_delete s ask made = delete_all ask made (records_now (seen s made) ask.range)

abbrev pub answered : Bool → RanAll → Ran
answered succeeded (Ok ran) = Ok (ran.0, body.Txn succeeded ran.1)
answered succeeded (Err refusal) = Err refusal

abbrev pub with_body : Body → RanAll → RanAll
with_body body (Ok ran) = Ok (ran.0, body ∷ ran.1)
with_body body (Err refusal) = Err refusal

abbrev pub first_then : Ran → (List KeyChange → RanAll) → RanAll
first_then (Ok ran) rest = with_body ran.1 (rest ran.0)
first_then (Err refusal) rest = Err refusal

-- a transaction lies in its parent as the compares and the two rows of its operations
abbrev mutual
  pub run : State → Op → List KeyChange → Ran
  run s (Range ask) made = run_range s ask made
  run s (Put ask) made = run_put s ask made
  run s (Delete ask) made = run_delete s ask made
  run s (Txn' compare m success n failure) made =
      if all_hold (seen s made) compare then answered true (run_row s success made) else answered false (run_row s failure made)

  pub run_row : {m : _} → State → Row_of-Op m → List KeyChange → RanAll
  run_row s end_of-Op made = Ok (made, [])
  run_row s (more_of-Op op rest) made = first_then (run s op made) (λ next. run_row s rest next)

abbrev pub run_all : State → List Op → List KeyChange → RanAll
run_all s [] made = Ok (made, [])
run_all s (op ∷ ops) made = first_then (run s op made) (λ next. run_all s ops next)

-- where all compares hold, `success` runs, else `failure`
abbrev pub run_txn : State → TxnAsk → List KeyChange → Ran
run_txn s txn made =
    if all_hold (seen s made) txn.compare then answered true (run_all s txn.success made) else answered false (run_all s txn.failure made)
