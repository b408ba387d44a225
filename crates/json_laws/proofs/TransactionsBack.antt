-- A transaction is read back as it is written, with those within it.
use Rattle.std.proofs.Common.{◌≡◌, ℕ, zero, suc, ◌≤◌, List, [], ◌∷◌, Some, Result, Ok, refl, sym, ap, ◌∙◌, arith}
use Rattle.std.specs.List.{AllByRecursion}
use Rattle.serde_json.specs.Data.{Items, Members, depth, items_depth, members_depth}
use Rattle.etcd_types.specs.declared.operation.RangeAsk.{RangeAsk}
use Rattle.etcd_types.specs.declared.operation.PutAsk.{PutAsk}
use Rattle.etcd_types.specs.declared.operation.DeleteAsk.{DeleteAsk}
use Rattle.etcd_types.specs.declared.operation.Compare.{Compare}
use Rattle.etcd_types.specs.declared.operation.TxnAsk.{TxnAsk}
use Rattle.etcd_types.specs.declared.operation.Op.{Op, Row_of-Op, end_of-Op, more_of-Op, roll-Op, roll-out-Op, items-the_row-Op, items_shown-the_row-Op-0}
use Rattle.etcd_types.specs.declared.operation.Op.TheOpen as layer
use Rattle.etcd_types.specs.declared.operation.Op.TheVariants.{Range, Put, Delete, Txn, Txn', rolls-Txn, outs-Txn'}
use Rattle.json_model.specs.declared.fault.FieldFault.{FieldFault}
use Rattle.json_model.specs.FieldNames as names
use Rattle.json_model.specs.Tables.{txn_fields, operation_fields}
use Rattle.json_model.specs.Fields.{each}
use Rattle.json_model.specs.Written.{Field, members_of, object_of, items_of}
use Rattle.json_model.specs.WrittenRequests.{range_written, put_written, delete_written, compare_value, lists_written, operation_written, operation_value, row_values, txn_written}
use Rattle.json_model.specs.Compares.{compare_in}
use Rattle.json_model.specs.Transactions.{operation_by, txn_by, txn_in}
use Rattle.json_model.specs.Fits.{RangeFits, PutFits, DeleteFits, CompareFits, OperationFits, RowFits, TxnFits}
use Rattle.json_model.proofs.WrittenObjects.{one_name, get_written, only_written}
use Rattle.json_model.proofs.WrittenValues.{each_back, list_back}
use Rattle.json_laws.proofs.RequestsBack.{range_back, put_back, delete_back}
use Rattle.json_laws.proofs.Depths.{left_of, right_of, list_depth}
use Rattle.json_laws.proofs.ComparesBack.{compare_back}

-- ---- how deep

success_depth : (compare success failure : Items) (n : ℕ) → members_depth (members_of (lists_written compare success failure)) ≤ n → items_depth success ≤ n
unfolding lists_written
success_depth compare success failure n h = list_depth names.success.0 (lists_written compare success failure) success n (get_written names.success.0 (lists_written compare success failure) refl) h

failure_depth : (compare success failure : Items) (n : ℕ) → members_depth (members_of (lists_written compare success failure)) ≤ n → items_depth failure ≤ n
unfolding lists_written
failure_depth compare success failure n h = list_depth names.failure.0 (lists_written compare success failure) failure n (get_written names.failure.0 (lists_written compare success failure) refl) h

-- ---- one operation of each kind

range_operation_back : (inner : Members → Result TxnAsk FieldFault) (name : List ℕ) (a : RangeAsk) → RangeFits a → operation_by inner name (operation_written names.request_range (range_written a)) ≡ Ok (Range a)
unfolding operation_by operation_written operation_fields
range_operation_back inner name a h = rw (only_written operation_fields ((names.request_range.0, Some (object_of (range_written a))) ∷ []) refl, range_back a h) refl

put_operation_back : (inner : Members → Result TxnAsk FieldFault) (name : List ℕ) (a : PutAsk) → PutFits a → operation_by inner name (operation_written names.request_put (put_written a)) ≡ Ok (Put a)
unfolding operation_by operation_written operation_fields
put_operation_back inner name a h = rw (only_written operation_fields ((names.request_put.0, Some (object_of (put_written a))) ∷ []) refl, put_back a h) refl

delete_operation_back : (inner : Members → Result TxnAsk FieldFault) (name : List ℕ) (a : DeleteAsk) → DeleteFits a → operation_by inner name (operation_written names.request_delete_range (delete_written a)) ≡ Ok (Delete a)
unfolding operation_by operation_written operation_fields
delete_operation_back inner name a h = rw (only_written operation_fields ((names.request_delete_range.0, Some (object_of (delete_written a))) ∷ []) refl, delete_back a h) refl

txn_operation_back : (inner : Members → Result TxnAsk FieldFault) (name : List ℕ) (fs : List Field) (t : TxnAsk) → inner (members_of fs) ≡ Ok t → operation_by inner name (operation_written names.request_txn fs) ≡ Ok (Txn t)
unfolding operation_by operation_written operation_fields
txn_operation_back inner name fs t h = rw (only_written operation_fields ((names.request_txn.0, Some (object_of fs)) ∷ []) refl, h) refl

-- ---- a transaction by its lists

compares_back : (compares : List Compare) → AllByRecursion CompareFits compares → AllByRecursion (λ c. compare_in (compare_value c) ≡ Ok c) compares
compares_back [] h = tt
compares_back (c ∷ compares) h = (compare_back c h.0, compares_back compares h.1)

lists_back : (inner : Members → Result TxnAsk FieldFault) (compares : List Compare) (success failure : Items) (xs ys : List Op) → AllByRecursion CompareFits compares
    → each (operation_by inner names.success.0) success ≡ Ok xs → each (operation_by inner names.failure.0) failure ≡ Ok ys
    → txn_by inner (members_of (lists_written (items_of compare_value compares) success failure)) ≡ Ok (record { compare = compares; success = xs; failure = ys })
unfolding txn_by lists_written txn_fields
lists_back inner compares success failure xs ys h s f =
    let fs = lists_written (items_of compare_value compares) success failure in
    rw (
      only_written txn_fields fs refl,
      list_back names.compare fs compare_in (items_of compare_value compares) compares refl (one_name _) (each_back compare_in compare_value compares (compares_back compares h)),
      list_back names.success fs (operation_by inner names.success.0) success xs refl (one_name _) s,
      list_back names.failure fs (operation_by inner names.failure.0) failure ys refl (one_name _) f,
    ) refl

-- ---- transactions within transactions

-- how deep the fields of a transaction nest within an operation
within_depth : (fs : List Field) (n : ℕ) → depth (operation_written names.request_txn fs) ≤ suc n → members_depth (members_of fs) ≤ n
unfolding operation_written
within_depth fs n h = omega arith

no_depth : (fs : List Field) → depth (operation_written names.request_txn fs) ≤ 0 → ⊥
unfolding operation_written
no_depth fs h = omega arith

inner_back : (n : ℕ) (name : List ℕ) (compares : List Compare) (success failure : Items) (xs ys : List Op) → AllByRecursion CompareFits compares
    → ((m : ℕ) → items_depth success ≤ m → each (operation_by (txn_in m) names.success.0) success ≡ Ok xs)
    → ((m : ℕ) → items_depth failure ≤ m → each (operation_by (txn_in m) names.failure.0) failure ≡ Ok ys)
    → depth (operation_written names.request_txn (lists_written (items_of compare_value compares) success failure)) ≤ n
    → operation_by (txn_in n) name (operation_written names.request_txn (lists_written (items_of compare_value compares) success failure)) ≡ Ok (Txn (record { compare = compares; success = xs; failure = ys }))
unfolding txn_in
inner_back zero name compares success failure xs ys h s f d = absurd (no_depth _ d)
inner_back (suc n) name compares success failure xs ys h s f d =
    let deep = within_depth (lists_written (items_of compare_value compares) success failure) n d in
    txn_operation_back (txn_in (suc n)) name (lists_written (items_of compare_value compares) success failure) (record { compare = compares; success = xs; failure = ys })
    (lists_back (txn_in n) compares success failure xs ys h (s n (success_depth _ success failure n deep)) (f n (failure_depth _ success failure n deep)))

-- a transaction by the rows of its operations
rolled : (compare : List Compare) (k : _) (success : _) (l : _) (failure : _)
    → Txn' compare k success l failure ≡ Txn (record { compare = compare; success = items-the_row-Op _ success; failure = items-the_row-Op _ failure })
rolled compare k success l failure =
    sym (roll-out-Op (Txn' compare k success l failure))
    ∙ ap roll-Op (outs-Txn' compare k success l failure)
    ∙ (λ i. roll-Op (layer.Txn (record { compare = compare; success = items_shown-the_row-Op-0 k success i; failure = items_shown-the_row-Op-0 l failure i })))
    ∙ rolls-Txn (record { compare = compare; success = items-the_row-Op _ success; failure = items-the_row-Op _ failure })

mutual
  operation_back : (n : ℕ) (name : List ℕ) (op : Op) → OperationFits op → depth (operation_value op) ≤ n → operation_by (txn_in n) name (operation_value op) ≡ Ok op
  operation_back n name (Range a) h d = range_operation_back (txn_in n) name a h
  operation_back n name (Put a) h d = put_operation_back (txn_in n) name a h
  operation_back n name (Delete a) h d = delete_operation_back (txn_in n) name a h
  operation_back n name (Txn' compare k success l failure) h d =
      inner_back n name compare (row_values success) (row_values failure) (items-the_row-Op _ success) (items-the_row-Op _ failure) h.0
      (λ m e. row_back m names.success.0 success h.1 e) (λ m e. row_back m names.failure.0 failure h.2 e) d
      ∙ ap (λ (op : Op). Ok op) (sym (rolled compare k success l failure))

  row_back : {k : _} (n : ℕ) (name : List ℕ) (row : Row_of-Op k) → RowFits row → items_depth (row_values row) ≤ n → each (operation_by (txn_in n) name) (row_values row) ≡ Ok (items-the_row-Op k row)
  row_back n name end_of-Op h d = refl
  row_back n name (more_of-Op op rest) h d =
      rw (operation_back n name op h.0 (left_of _ _ n d), row_back n name rest h.1 (right_of _ _ n d)) refl

operations_back : (n : ℕ) (name : List ℕ) (ops : List Op) → AllByRecursion OperationFits ops → items_depth (items_of operation_value ops) ≤ n → each (operation_by (txn_in n) name) (items_of operation_value ops) ≡ Ok ops
operations_back n name [] h d = refl
operations_back n name (op ∷ ops) h d =
    rw (operation_back n name op h.0 (left_of _ _ n d), operations_back n name ops h.1 (right_of _ _ n d)) refl

pub txn_back : (n : ℕ) (t : TxnAsk) → TxnFits t → members_depth (members_of (txn_written t)) ≤ n → txn_in (suc n) (members_of (txn_written t)) ≡ Ok t
unfolding txn_in
txn_back n t h d =
    let compares = items_of compare_value t.compare in
    let success = items_of operation_value t.success in
    let failure = items_of operation_value t.failure in
    lists_back (txn_in n) t.compare success failure t.success t.failure h.0
    (operations_back n names.success.0 t.success h.1 (success_depth compares success failure n d))
    (operations_back n names.failure.0 t.failure h.2 (failure_depth compares success failure n d))
