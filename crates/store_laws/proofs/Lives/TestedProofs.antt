-- The keys of a history: what puts and deletions keep of them.
use Rattle.std.proofs.Common.{◌≡◌, ℕ, Bool, true, false, cond, not, List, [], ◌∷◌, map, filter, None, Some, Ok, Err, refl, sym, ap, subst}
use Rattle.std.specs.List.{list_all}
use Rattle.etcd_types.specs.declared.record.Kv.{Kv}
use Rattle.etcd_types.specs.declared.operation.PutAsk.{PutAsk}
use Rattle.etcd_types.specs.declared.operation.DeleteAsk.{DeleteAsk}
use Rattle.etcd_types.specs.declared.operation.Op.{Op, Row_of-Op, end_of-Op, more_of-Op}
use Rattle.etcd_types.specs.declared.operation.Op.TheVariants.{Range, Put, Delete, Txn', Txn}
use Rattle.etcd_types.specs.declared.request.Request.{Request}
use Rattle.etcd_types.specs.declared.request.Request.TheVariants as request
use Rattle.etcd_types.proofs.Bools.{and_both, and_first, and_second, or_first, or_second}
use Rattle.store_model.specs.declared.history.KeyChange.{KeyChange}
use Rattle.store_model.specs.declared.history.KeyChange.TheVariants as change
use Rattle.store_model.specs.declared.store_fault.StoreFault.TheVariants as fault
use Rattle.store_model.specs.Ranges.{records_now, keys_in}
use Rattle.store_model.specs.State.{State}
use Rattle.store_model.specs.Leaves.{all_leaves, all_leaves_row}
use Rattle.store_model.specs.Transactions.{seen, run_put, run_delete, has_lease, deletion}
use Rattle.store_model.specs.FirstRefusals.{first_refusal, first_of_three, exceeds, lacks_key, lacks_key_row, repeats_key, operations_limit}
use Rattle.store_model.specs.Leases.{all_keys, is_attached, attached, ended, expired}
use Rattle.store_model.proofs.RunLemmas.{put_ok, delete_ok}
use Rattle.store_laws.proofs.Requests.Lifted.{Keeps, Holds, lifted}
use Rattle.store_laws.proofs.Requests.StepCases.{op_of, exec_by, same_op}
use Rattle.store_laws.specs.Lives.TestedKeys.{keys_pass, puts_pass, any_delete, request_passes, is_named, KeysStayTested, ExpiriesKeepTested}
use Rattle.store_laws.proofs.Lives.Histories.{passed-deletions, keys_pass-append, with_revision-all}

mutual
  pub keys_are_there : (op : Op) → lacks_key op ≡ false → all_leaves (puts_pass is_named) any_delete op ≡ true
  keys_are_there (Range ask) e = refl
  keys_are_there (Put ask) e = ap not e
  keys_are_there (Delete ask) e = refl
  keys_are_there (Txn' compare m success n failure) e =
      and_both (all_leaves_row (puts_pass is_named) any_delete success) _
      (row_keys_are_there success (or_second _ (lacks_key_row success) (or_first _ (lacks_key_row failure) e)))
      (row_keys_are_there failure (or_second _ (lacks_key_row failure) e))

  row_keys_are_there : {m : _} (ops : Row_of-Op m) → lacks_key_row ops ≡ false → all_leaves_row (puts_pass is_named) any_delete ops ≡ true
  row_keys_are_there end_of-Op e = refl
  row_keys_are_there (more_of-Op op rest) e =
      and_both (all_leaves (puts_pass is_named) any_delete op) _ (keys_are_there op (or_first (lacks_key op) _ e)) (row_keys_are_there rest (or_second (lacks_key op) _ e))

pub none-lacks_key : (op : Op) → first_refusal op ≡ None → lacks_key op ≡ false
none-lacks_key op e = by_tests (exceeds operations_limit op) (lacks_key op) (repeats_key op) e
  where
    by_tests : (many empty twice : Bool) → first_of_three many empty twice ≡ None → empty ≡ false
    by_tests true empty twice e = absurd (cc)
    by_tests false true twice e = absurd (cc)
    by_tests false false twice e = refl

-- keys

pub seen-keys : (test : List ℕ → Bool) (s : State) (made : List KeyChange) → list_all (keys_pass test) s.history ≡ true → keys_pass test made ≡ true → list_all (keys_pass test) (seen s made) ≡ true
seen-keys test s made k h = with_revision-all (keys_pass test) s.history made k (λ c cs e. h)

pub keep_keys : (test : List ℕ → Bool) (s : State) → list_all (keys_pass test) s.history ≡ true → Keeps s (λ made. keys_pass test made ≡ true) (puts_pass test) any_delete
keep_keys test s k = record { put = puts; delete = deletes }
  where
    puts : (ask : PutAsk) (made : List KeyChange) → test ask.key ≡ true → keys_pass test made ≡ true → Holds (λ made. keys_pass test made ≡ true) (run_put s ask made)
    puts ask made p h next b e =
        let m = put_ok s ask made next b e in
        subst (λ (cs : List KeyChange). keys_pass test cs ≡ true) (sym m.made_so) (keys_pass-append test made (change.Put ask.key ask.value m.lease ∷ []) h (and_both (test ask.key) true p refl))

    deletes : (ask : DeleteAsk) (made : List KeyChange) → any_delete ask ≡ true → keys_pass test made ≡ true → Holds (λ made. keys_pass test made ≡ true) (run_delete s ask made)
    deletes ask made p h next b e =
        subst (λ (cs : List KeyChange). keys_pass test cs ≡ true) (sym (delete_ok s ask made next b e))
        (keys_pass-append test made (map deletion (records_now (seen s made) ask.range)) h (passed-deletions test (seen s made) (keys_in (seen s made) ask.range) (seen-keys test s made k h)))

passed_filtered : (test : List ℕ → Bool) (p : Kv → Bool) (kvs : List Kv) → keys_pass test (map deletion kvs) ≡ true → keys_pass test (map deletion (filter p kvs)) ≡ true
passed_filtered test p [] e = refl
passed_filtered test p (kv ∷ kvs) e = by_test (passed_filtered test p kvs (and_second (test kv.key) _ e)) (p kv)
  where
    by_test : keys_pass test (map deletion (filter p kvs)) ≡ true → (t : Bool) → keys_pass test (map deletion (cond t (kv ∷ filter p kvs) (filter p kvs))) ≡ true
    by_test later true = and_both (test kv.key) _ (and_first (test kv.key) _ e) later
    by_test later false = later

pub passed_attached : (test : List ℕ → Bool) (s : State) (number : ℕ) → list_all (keys_pass test) s.history ≡ true → keys_pass test (map deletion (attached s.history number)) ≡ true
passed_attached test s number k = passed_filtered test (is_attached number) _ (passed-deletions test s.history (keys_in s.history all_keys) k)

-- through every request

passes_by : (test : List ℕ → Bool) (q : Request) (op : Op) → op_of q ≡ Some op → request_passes test q ≡ true → all_leaves (puts_pass test) any_delete op ≡ true
passes_by test (request.Range ask) op e a = subst (λ (o : Op). all_leaves (puts_pass test) any_delete o ≡ true) (same_op (Range ask) op e) refl
passes_by test (request.Put ask) op e a = subst (λ (o : Op). all_leaves (puts_pass test) any_delete o ≡ true) (same_op (Put ask) op e) a
passes_by test (request.Delete ask) op e a = subst (λ (o : Op). all_leaves (puts_pass test) any_delete o ≡ true) (same_op (Delete ask) op e) refl
passes_by test (request.Txn txn) op e a = subst (λ (o : Op). all_leaves (puts_pass test) any_delete o ≡ true) (same_op (Txn txn) op e) a
passes_by test (request.Compact revision physical) op e a = absurd (cc)
passes_by test (request.Grant ttl lease) op e a = absurd (cc)
passes_by test (request.Revoke lease) op e a = absurd (cc)
passes_by test (request.KeepAlive lease) op e a = absurd (cc)
passes_by test (request.TimeToLive lease keys) op e a = absurd (cc)
passes_by test request.Leases op e a = absurd (cc)
passes_by test (request.Watch ask) op e a = absurd (cc)

passed_ended : (test : List ℕ → Bool) (s : State) (number : ℕ) → list_all (keys_pass test) s.history ≡ true → list_all (keys_pass test) (ended s number).history ≡ true
passed_ended test s number k =
    with_revision-all (keys_pass test) s.history (map deletion (attached s.history number)) k (λ c cs e. passed_attached test s number k)

pub keys_stay_tested : KeysStayTested
keys_stay_tested test s member q k all =
    exec_by s member (λ r step. request_passes test r ≡ true → list_all (keys_pass test) step.0.history ≡ true)
    (record {
      refuses = λ r refusal known a. k;
      runs = λ r op made b e serializable first ran a.
          seen-keys test s made k (lifted s (λ made. keys_pass test made ≡ true) (puts_pass test) any_delete (keep_keys test s k) op [] (passes_by test r op e a) refl made b ran);
      reads = λ ask b e a. k;
      compacts = λ revision physical above within a. k;
      grants = λ ttl number e a. k;
      revokes = λ number e a. passed_ended test s number k;
      keeps_alive = λ number a. k;
      tells = λ number keys a. k;
      lists = λ a. k;
    })
    q all

pub expired_by : (A : State → Type 0) (s t : State) (lease : ℕ) (known : Bool) → cond known (Ok (ended s lease)) (Err (fault.NoSuchLease lease)) ≡ Ok t → A (ended s lease) → A t
expired_by A s t lease true e a = let same_state : ended s lease ≡ t = cc in subst A same_state a
expired_by A s t lease false e a = absurd (cc)

pub expiries_keep_tested : ExpiriesKeepTested
unfolding expired
expiries_keep_tested test s t lease e k = expired_by (λ u. list_all (keys_pass test) u.history ≡ true) s t lease (has_lease s.leases lease) e (passed_ended test s lease k)
