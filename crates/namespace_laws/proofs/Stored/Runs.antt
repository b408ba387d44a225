-- Operations under a namespace make the stored changes and answer the stored bodies.
use Rattle.std.proofs.Common.{◌≡◌, ℕ, Bool, true, false, cond, not, ◌&&◌, ◌==◌, List, [], ◌∷◌, ◌++◌, map, Option, None, Some, Result, Ok, Err, refl, sym, ◌∙◌, ap}
use Rattle.std.specs.List.{list_all}
use Rattle.std.proofs.lemmas.List.{length-map, map-append}
use Rattle.etcd_types.specs.declared.record.Kv.{Kv}
use Rattle.etcd_types.specs.declared.operation.RangeAsk.{RangeAsk}
use Rattle.etcd_types.specs.declared.operation.PutAsk.{PutAsk}
use Rattle.etcd_types.specs.declared.operation.DeleteAsk.{DeleteAsk}
use Rattle.etcd_types.specs.declared.operation.TxnAsk.{TxnAsk}
use Rattle.etcd_types.specs.declared.operation.Op.{Op, Row_of-Op, end_of-Op, more_of-Op}
use Rattle.etcd_types.specs.declared.operation.Op.TheVariants.{Range, Put, Delete, Txn'}
use Rattle.etcd_types.specs.declared.answer.Body.{Body, Row_of-Body, end_of-Body, more_of-Body}
use Rattle.etcd_types.specs.declared.answer.Body.TheVariants as body
use Rattle.etcd_types.specs.declared.answer.Body.TheBlock.{hidden-the_row-Body-0, items-the_row-Body, items_hidden-the_row-Body-0}
use Rattle.etcd_types.specs.declared.answer.Refusal.{Refusal}
use Rattle.etcd_types.proofs.Bools.{or_first, or_second}
use Rattle.store_model.specs.declared.history.KeyChange.{KeyChange}
use Rattle.store_model.specs.declared.history.KeyChange.TheVariants as change
use Rattle.store_model.specs.History.{History, newest}
use Rattle.store_model.specs.Records.{record_now}
use Rattle.store_model.specs.Ranges.{records_now}
use Rattle.store_model.specs.Refusals.{key_not_found, lease_not_found}
use Rattle.store_model.specs.Reads.{read}
use Rattle.store_model.specs.State.{State}
use Rattle.store_model.specs.Compares.{all_hold}
use Rattle.store_model.specs.FirstRefusals.{lacks_key, lacks_key_row}
use Rattle.store_model.specs.Transactions.{Ran, RanAll, seen, unchanged, run_range, run_put, put_on, run_delete, delete_all, deletion, has_lease, run, run_row, run_all, answered, with_body, first_then}
use Rattle.store_model.proofs.TransactionLemmas.{run_is_txn}
use Rattle.proxy_model.specs.Wrapped.{range_under, put_under, delete_under, compare_under, operation_under, row_under}
use Rattle.store_laws.specs.Lives.TestedKeys.{have_keys, is_named, puts_pass, any_delete}
use Rattle.store_laws.proofs.Requests.Lifted.{lifted}
use Rattle.store_laws.proofs.Lives.TestedProofs.{keys_are_there, keep_keys, seen-keys}
use Rattle.namespace_laws.specs.Stored.Stored.{stored, stored_change, stored_changes, stored_history, stored_record, stored_prev, stored_records, stored_body, stored_bodies, stored_row, stored_told}
use Rattle.namespace_laws.proofs.Stored.Keys.{pushed, like_under}
use Rattle.namespace_laws.proofs.Stored.Records.{records_are_stored, records_now-under, read-under, all_hold-under, with_revision-under, newest-under}

abbrev pub stored_ran : List ℕ → Ran → Ran
stored_ran ns (Ok ran) = Ok (stored_changes ns ran.0, stored_body ns ran.1)
stored_ran ns (Err refusal) = Err refusal

abbrev pub stored_all : List ℕ → RanAll → RanAll
stored_all ns (Ok ran) = Ok (stored_changes ns ran.0, stored_bodies ns ran.1)
stored_all ns (Err refusal) = Err refusal

pub seen-under : (ns : List ℕ) (s : State) (made : List KeyChange) → seen (stored ns s) (stored_changes ns made) ≡ stored_history ns (seen s made)
seen-under ns s made = with_revision-under ns s.history made

unchanged_under : (ns : List ℕ) (made : List KeyChange) (r : Result Body Refusal) → unchanged (stored_changes ns made) (stored_told ns r) ≡ stored_ran ns (unchanged made r)
unchanged_under ns made (Ok b) = refl
unchanged_under ns made (Err refusal) = refl

ranges : (ns : List ℕ) (s : State) (ask : RangeAsk) (made : List KeyChange) → list_all have_keys (seen s made) ≡ true
    → run_range (stored ns s) (range_under ns ask) (stored_changes ns made) ≡ stored_ran ns (run_range s ask made)
ranges ns s ask made k =
    ap (λ (h : History). unchanged (stored_changes ns made) (read h (newest h) s.compacted (range_under ns ask))) (seen-under ns s made)
    ∙ ap (λ (n : ℕ). unchanged (stored_changes ns made) (read (stored_history ns (seen s made)) n s.compacted (range_under ns ask))) (newest-under ns (seen s made))
    ∙ ap (unchanged (stored_changes ns made)) (read-under ns (seen s made) (newest (seen s made)) s.compacted ask k)
    ∙ unchanged_under ns made (read (seen s made) (newest (seen s made)) s.compacted ask)

joined : (ns : List ℕ) (made more : List KeyChange) → stored_changes ns made ++ stored_changes ns more ≡ stored_changes ns (made ++ more)
joined ns made more = sym (map-append (stored_change ns) made more)

put_on_under : (ns : List ℕ) (ask : PutAsk) (made : List KeyChange) (old : Option Kv) → put_on (put_under ns ask) (stored_changes ns made) (stored_prev ns old) ≡ stored_ran ns (put_on ask made old)
put_on_under ns ask made None =
    (λ i. cond ask.ignore_lease (Err key_not_found) (Ok (joined ns made (change.Put ask.key ask.value ask.lease ∷ []) i, body.Put None)))
    ∙ pushed (stored_ran ns) ask.ignore_lease (Err key_not_found) (Ok (made ++ change.Put ask.key ask.value ask.lease ∷ [], body.Put None))
put_on_under ns ask made (Some kv) =
    λ i. Ok (joined ns made (change.Put ask.key ask.value (cond ask.ignore_lease kv.lease ask.lease) ∷ []) i, body.Put (pushed (stored_prev ns) ask.prev_kv (Some kv) None i))

puts : (ns : List ℕ) (s : State) (ask : PutAsk) (made : List KeyChange) → run_put (stored ns s) (put_under ns ask) (stored_changes ns made) ≡ stored_ran ns (run_put s ask made)
puts ns s ask made =
    let unknown = not (ask.lease == 0) && not (has_lease s.leases ask.lease) in
    ap (λ (h : History). cond unknown (Err lease_not_found) (put_on (put_under ns ask) (stored_changes ns made) (record_now h (ns ++ ask.key)))) (seen-under ns s made)
    ∙ ap (λ (o : Option Kv). cond unknown (Err lease_not_found) (put_on (put_under ns ask) (stored_changes ns made) o)) (records_are_stored ns (seen s made) ask.key)
    ∙ ap (cond unknown (Err lease_not_found)) (put_on_under ns ask made (record_now (seen s made) ask.key))
    ∙ pushed (stored_ran ns) unknown (Err lease_not_found) (put_on ask made (record_now (seen s made) ask.key))

pub deletions-under : (ns : List ℕ) (kvs : List Kv) → map deletion (stored_records ns kvs) ≡ stored_changes ns (map deletion kvs)
deletions-under ns [] = refl
deletions-under ns (kv ∷ kvs) = λ i. change.Delete (ns ++ kv.key) ∷ deletions-under ns kvs i

delete_all_under : (ns : List ℕ) (ask : DeleteAsk) (made : List KeyChange) (gone : List Kv) → delete_all (delete_under ns ask) (stored_changes ns made) (stored_records ns gone) ≡ stored_ran ns (delete_all ask made gone)
delete_all_under ns ask made gone =
    let changes : stored_changes ns made ++ map deletion (stored_records ns gone) ≡ stored_changes ns (made ++ map deletion gone) =
    ap (λ (cs : List KeyChange). stored_changes ns made ++ cs) (deletions-under ns gone) ∙ joined ns made (map deletion gone) in
    λ i. Ok (changes i, body.Delete (length-map gone (stored_record ns) i) (pushed (stored_records ns) ask.prev_kv gone [] i))

deletes : (ns : List ℕ) (s : State) (ask : DeleteAsk) (made : List KeyChange) → list_all have_keys (seen s made) ≡ true
    → run_delete (stored ns s) (delete_under ns ask) (stored_changes ns made) ≡ stored_ran ns (run_delete s ask made)
deletes ns s ask made k =
    ap (λ (h : History). delete_all (delete_under ns ask) (stored_changes ns made) (records_now h (delete_under ns ask).range)) (seen-under ns s made)
    ∙ ap (delete_all (delete_under ns ask) (stored_changes ns made)) (records_now-under ns (delete_under ns ask).range ask.range (seen s made) (like_under ns ask.range) k)
    ∙ delete_all_under ns ask made (records_now (seen s made) ask.range)

-- transactions

stored_row-items : {m : _} (ns : List ℕ) (row : Row_of-Body m) → stored_row ns row ≡ stored_bodies ns (items-the_row-Body m row)
stored_row-items ns end_of-Body = refl
stored_row-items ns (more_of-Body one rest) = λ i. stored_body ns one ∷ stored_row-items ns rest i

stored_row-hidden : (ns : List ℕ) (bs : List Body) → stored_row ns (hidden-the_row-Body-0 bs) ≡ stored_bodies ns bs
stored_row-hidden ns bs = stored_row-items ns (hidden-the_row-Body-0 bs) ∙ ap (stored_bodies ns) (items_hidden-the_row-Body-0 bs)

pub stored_body-Txn : (ns : List ℕ) (succeeded : Bool) (bs : List Body) → stored_body ns (body.Txn succeeded bs) ≡ body.Txn succeeded (stored_bodies ns bs)
stored_body-Txn ns succeeded bs = λ i. body.Txn succeeded (stored_row-hidden ns bs i)

answered_under : (ns : List ℕ) (b : Bool) (r : RanAll) → answered b (stored_all ns r) ≡ stored_ran ns (answered b r)
answered_under ns b (Ok ran) = λ i. Ok (stored_changes ns ran.0, sym (stored_body-Txn ns b ran.1) i)
answered_under ns b (Err refusal) = refl

branch_under : (ns : List ℕ) (t : Bool) (success failure : RanAll) → cond t (answered true (stored_all ns success)) (answered false (stored_all ns failure)) ≡ stored_ran ns (cond t (answered true success) (answered false failure))
branch_under ns true success failure = answered_under ns true success
branch_under ns false success failure = answered_under ns false failure

with_body_under : (ns : List ℕ) (b : Body) (r : RanAll) → with_body (stored_body ns b) (stored_all ns r) ≡ stored_all ns (with_body b r)
with_body_under ns b (Ok ran) = refl
with_body_under ns b (Err refusal) = refl

then_under : (ns : List ℕ) (r : Ran) (rest stored_rest : List KeyChange → RanAll) → ((next : List KeyChange) (b : Body) → r ≡ Ok (next, b) → stored_rest (stored_changes ns next) ≡ stored_all ns (rest next))
    → first_then (stored_ran ns r) stored_rest ≡ stored_all ns (first_then r rest)
then_under ns (Ok ran) rest stored_rest h =
    ap (with_body (stored_body ns ran.1)) (h ran.0 ran.1 refl) ∙ with_body_under ns ran.1 (rest ran.0)
then_under ns (Err refusal) rest stored_rest h = refl

mutual
  pub run-under : (ns : List ℕ) (s : State) (op : Op) (made : List KeyChange) → list_all have_keys s.history ≡ true → have_keys made ≡ true → lacks_key op ≡ false
      → run (stored ns s) (operation_under ns op) (stored_changes ns made) ≡ stored_ran ns (run s op made)
  run-under ns s (Range ask) made k h n = ranges ns s ask made (seen-keys is_named s made k h)
  run-under ns s (Put ask) made k h n = puts ns s ask made
  run-under ns s (Delete ask) made k h n = deletes ns s ask made (seen-keys is_named s made k h)
  run-under ns s (Txn' compare m success n' failure) made k h n =
      let t : TxnAsk = record { compare = map (compare_under ns) compare; success = row_under ns success; failure = row_under ns failure } in
      let no_success = or_second _ (lacks_key_row success) (or_first _ (lacks_key_row failure) n) in
      let no_failure = or_second _ (lacks_key_row failure) n in
      let holds : all_hold (seen (stored ns s) (stored_changes ns made)) (map (compare_under ns) compare) ≡ all_hold (seen s made) compare =
      ap (λ (g : History). all_hold g (map (compare_under ns) compare)) (seen-under ns s made) ∙ all_hold-under ns (seen s made) compare (seen-keys is_named s made k h) in
      run_is_txn (stored ns s) t (stored_changes ns made)
      ∙ (λ i. cond (holds i) (answered true (rows-under ns s success made k h no_success i)) (answered false (rows-under ns s failure made k h no_failure i)))
      ∙ branch_under ns (all_hold (seen s made) compare) (run_row s success made) (run_row s failure made)

  rows-under : {m : _} (ns : List ℕ) (s : State) (ops : Row_of-Op m) (made : List KeyChange) → list_all have_keys s.history ≡ true → have_keys made ≡ true → lacks_key_row ops ≡ false
      → run_all (stored ns s) (row_under ns ops) (stored_changes ns made) ≡ stored_all ns (run_row s ops made)
  rows-under ns s end_of-Op made k h n = refl
  rows-under ns s (more_of-Op op rest) made k h n =
      let no_op = or_first (lacks_key op) _ n in
      let no_rest = or_second (lacks_key op) _ n in
      ap (λ (r : Ran). first_then r (λ next. run_all (stored ns s) (row_under ns rest) next)) (run-under ns s op made k h no_op)
      ∙ then_under ns (run s op made) (λ next. run_row s rest next) (λ next. run_all (stored ns s) (row_under ns rest) next)
      (λ next b e. rows-under ns s rest next k (lifted s (λ made. have_keys made ≡ true) (puts_pass is_named) any_delete (keep_keys is_named s k) op made (keys_are_there op no_op) h next b e) no_rest)
