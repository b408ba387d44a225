-- A transaction's reply is read back as it is written, with those within it.
use Rattle.std.proofs.Common.{◌≡◌, ℕ, zero, suc, ◌≤◌, Bool, true, List, [], ◌∷◌, Option, Some, None, Result, Ok, refl, sym, ap, ◌∙◌, arith}
use Rattle.std.specs.List.{AllByRecursion}
use Rattle.serde_json.specs.Data.{Items, Members, no_members, depth, items_depth, members_depth}
use Rattle.etcd_types.specs.declared.record.Header.{Header}
use Rattle.etcd_types.specs.declared.record.Kv.{Kv}
use Rattle.etcd_types.specs.declared.answer.Body.{Body, Row_of-Body, end_of-Body, more_of-Body, roll-Body, roll-out-Body, items-the_row-Body, items_shown-the_row-Body-0}
use Rattle.etcd_types.specs.declared.answer.Body.TheOpen as layer
use Rattle.etcd_types.specs.declared.answer.Body.TheVariants.{Range, Put, Delete, Txn, Txn', Compact, Grant, Revoke, KeepAlive, TimeToLive, Leases, rolls-Txn, outs-Txn'}
use Rattle.json_model.specs.declared.fault.FieldFault.{FieldFault}
use Rattle.json_model.specs.FieldNames as names
use Rattle.json_model.specs.Tables.{header_fields, put_reply_fields, delete_reply_fields, response_fields}
use Rattle.json_model.specs.Known.{once}
use Rattle.json_model.specs.Fields.{each}
use Rattle.json_model.specs.Written.{Field, members_of, object_of, flag_value, list_value}
use Rattle.json_model.specs.WrittenReplies.{range_fields_of, put_fields_of, delete_fields_of, txn_fields_of, response_written, response_value, row_responses}
use Rattle.json_model.specs.Replies.{numbers_in, header_from, header_in, within_response, response_by, txn_body_by, txn_body}
use Rattle.json_model.specs.Fits.{IsNumber}
use Rattle.json_model.specs.FitReplies.{RecordFits, PrevFits, ResponseFits, ResponsesFit}
use Rattle.json_model.proofs.WrittenObjects.{lookup, distinct, one_name, two_names, get_written, once_written}
use Rattle.json_model.proofs.WrittenValues.{Found, flag_back, no_child, list_back}
use Rattle.json_laws.proofs.Depths.{left_of, right_of, list_depth}
use Rattle.json_laws.proofs.RepliesBack.{range_body_back, put_body_back, delete_body_back}

-- ---- how deep

responses_depth : (fs : List Field) (responses : Items) (n : ℕ) → distinct fs ≡ true → lookup names.responses.0 fs ≡ list_value responses → members_depth (members_of fs) ≤ n → items_depth responses ≤ n
responses_depth fs responses n e is h = list_depth names.responses.0 fs responses n (get_written names.responses.0 fs e ∙ is) h

-- how deep the fields of a reply nest within a response
within_depth : (fs : List Field) (n : ℕ) → depth (response_written names.response_txn fs) ≤ suc n → members_depth (members_of fs) ≤ n
unfolding response_written
within_depth fs n h = omega arith

no_depth : (fs : List Field) → depth (response_written names.response_txn fs) ≤ 0 → ⊥
unfolding response_written
no_depth fs h = omega arith

-- ---- one response of each kind, which has no header

no_numbers : Header
no_numbers = record { cluster = 0; member = 0; revision = 0; term = 0 }

empty_header : header_from no_members ≡ Ok no_numbers
unfolding no_numbers header_from numbers_in header_fields once
empty_header = refl

no_header : (fs : List Field) → distinct fs ≡ true → Found names.header fs None → header_in (members_of fs) ≡ Ok no_numbers
unfolding header_in
no_header fs e is = rw (no_child names.header fs e is) empty_header

range_response_back : (inner : Members → Result Body FieldFault) (count : ℕ) (more : Bool) (kvs : List Kv) → IsNumber count → AllByRecursion RecordFits kvs
    → response_by inner (response_written names.response_range (range_fields_of count more kvs)) ≡ Ok (Range count more kvs)
unfolding response_by response_written response_fields within_response range_fields_of
range_response_back inner count more kvs f g =
    let fs = range_fields_of count more kvs in
    rw (
      once_written response_fields ((names.response_range.0, Some (object_of fs)) ∷ []) refl,
      no_header fs refl refl,
      range_body_back fs count more kvs refl (one_name _, one_name _, one_name _) f g,
    ) refl

put_response_back : (inner : Members → Result Body FieldFault) (prev : Option Kv) → PrevFits prev → response_by inner (response_written names.response_put (put_fields_of prev)) ≡ Ok (Put prev)
unfolding response_by response_written response_fields within_response put_fields_of put_reply_fields
put_response_back inner prev f =
    let fs = put_fields_of prev in
    rw (
      once_written response_fields ((names.response_put.0, Some (object_of fs)) ∷ []) refl,
      no_header fs refl refl,
      put_body_back fs prev refl (once_written put_reply_fields fs refl) (two_names _) f,
    ) refl

delete_response_back : (inner : Members → Result Body FieldFault) (deleted : ℕ) (prevs : List Kv) → IsNumber deleted → AllByRecursion RecordFits prevs
    → response_by inner (response_written names.response_delete_range (delete_fields_of deleted prevs)) ≡ Ok (Delete deleted prevs)
unfolding response_by response_written response_fields within_response delete_fields_of delete_reply_fields
delete_response_back inner deleted prevs f g =
    let fs = delete_fields_of deleted prevs in
    rw (
      once_written response_fields ((names.response_delete_range.0, Some (object_of fs)) ∷ []) refl,
      no_header fs refl refl,
      delete_body_back fs deleted prevs refl (once_written delete_reply_fields fs refl) (one_name _) (two_names _) f g,
    ) refl

txn_response_back : (inner : Members → Result Body FieldFault) (fs : List Field) (b : Body) → distinct fs ≡ true → Found names.header fs None → inner (members_of fs) ≡ Ok b
    → response_by inner (response_written names.response_txn fs) ≡ Ok b
unfolding response_by response_written response_fields within_response
txn_response_back inner fs b e is h = rw (once_written response_fields ((names.response_txn.0, Some (object_of fs)) ∷ []) refl, no_header fs e is, h) refl

-- ---- transactions within transactions

txn_fields_back : (inner : Members → Result Body FieldFault) (fs : List Field) (succeeded : Bool) (responses : Items) (bodies : List Body) → distinct fs ≡ true
    → Found names.succeeded fs (flag_value succeeded) → Found names.responses fs (list_value responses) → each (response_by inner) responses ≡ Ok bodies
    → txn_body_by inner (members_of fs) ≡ Ok (Txn succeeded bodies)
unfolding txn_body_by
txn_fields_back inner fs succeeded responses bodies e is at h =
    rw (flag_back names.succeeded fs succeeded e is, list_back names.responses fs (response_by inner) responses bodies e at h) refl

inner_back : (n : ℕ) (succeeded : Bool) (responses : Items) (bodies : List Body) → ((m : ℕ) → items_depth responses ≤ m → each (response_by (txn_body m)) responses ≡ Ok bodies)
    → depth (response_written names.response_txn (txn_fields_of succeeded responses)) ≤ n → response_by (txn_body n) (response_written names.response_txn (txn_fields_of succeeded responses)) ≡ Ok (Txn succeeded bodies)
unfolding txn_body txn_fields_of
inner_back zero succeeded responses bodies h d = absurd (no_depth _ d)
inner_back (suc n) succeeded responses bodies h d =
    let fs = txn_fields_of succeeded responses in
    let deep = responses_depth fs responses n refl refl (within_depth fs n d) in
    txn_response_back (txn_body (suc n)) fs (Txn succeeded bodies) refl refl (txn_fields_back (txn_body n) fs succeeded responses bodies refl (one_name _) (one_name _) (h n deep))

-- a transaction's reply by the row of its responses
rolled : (succeeded : Bool) (m : _) (row : _) → Txn' succeeded m row ≡ Txn succeeded (items-the_row-Body _ row)
rolled succeeded m row =
    sym (roll-out-Body (Txn' succeeded m row))
    ∙ ap roll-Body (outs-Txn' succeeded m row)
    ∙ (λ i. roll-Body (layer.Txn succeeded (items_shown-the_row-Body-0 m row i)))
    ∙ rolls-Txn succeeded (items-the_row-Body _ row)

mutual
  response_back : (n : ℕ) (b : Body) → ResponseFits b → depth (response_value b) ≤ n → response_by (txn_body n) (response_value b) ≡ Ok b
  response_back n (Range count more kvs) f d = range_response_back (txn_body n) count more kvs f.0 f.1
  response_back n (Put prev) f d = put_response_back (txn_body n) prev f
  response_back n (Delete deleted prevs) f d = delete_response_back (txn_body n) deleted prevs f.0 f.1
  response_back n (Txn' succeeded m row) f d =
      inner_back n succeeded (row_responses row) (items-the_row-Body _ row) (λ k e. rows_back k row f e) d ∙ ap (λ (b : Body). Ok b) (sym (rolled succeeded m row))
  response_back n Compact f d = absurd f
  response_back n (Grant lease ttl) f d = absurd f
  response_back n Revoke f d = absurd f
  response_back n (KeepAlive lease ttl) f d = absurd f
  response_back n (TimeToLive lease ttl granted keys) f d = absurd f
  response_back n (Leases leases) f d = absurd f

  rows_back : {m : _} (n : ℕ) (row : Row_of-Body m) → ResponsesFit row → items_depth (row_responses row) ≤ n → each (response_by (txn_body n)) (row_responses row) ≡ Ok (items-the_row-Body m row)
  rows_back n end_of-Body f d = refl
  rows_back n (more_of-Body first rest) f d = rw (response_back n first f.0 (left_of _ _ n d), rows_back n rest f.1 (right_of _ _ n d)) refl

-- the whole reply to a transaction, among other fields
abbrev pub HasTxn : {m : _} → List Field → Bool → Row_of-Body m → Type 0
HasTxn fs succeeded row =
    Found names.succeeded fs (flag_value succeeded) × Found names.responses fs (list_value (row_responses row)) × (lookup names.responses.0 fs ≡ list_value (row_responses row))

pub txn_body_back : (n : ℕ) (fs : List Field) (succeeded : Bool) (m : _) (row : _) → distinct fs ≡ true → HasTxn fs succeeded row → ResponsesFit row → members_depth (members_of fs) ≤ n
    → txn_body (suc n) (members_of fs) ≡ Ok (Txn' succeeded m row)
unfolding txn_body
txn_body_back n fs succeeded m row e is f d =
    txn_fields_back (txn_body n) fs succeeded (row_responses row) (items-the_row-Body _ row) e is.0 is.1 (rows_back n row f (responses_depth fs (row_responses row) n e is.2 d))
    ∙ ap (λ (b : Body). Ok b) (sym (rolled succeeded m row))
