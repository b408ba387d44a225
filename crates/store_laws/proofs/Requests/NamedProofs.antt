-- A key that no operation names keeps its record, as the record stands with each change that is made so far.
use Rattle.std.proofs.Common.{◌≡◌, ℕ, ◌+◌, Bool, true, false, cond, not, List, [], ◌∷◌, Option, None, Some, Ok, Err, length, map, filter, filter_map, refl, ◌∙◌, ap, subst}
use Rattle.std.specs.List.{list_any, list_all, cons_option}
use Rattle.etcd_types.specs.declared.record.Kv.{Kv}
use Rattle.etcd_types.specs.declared.operation.PutAsk.{PutAsk}
use Rattle.etcd_types.specs.declared.operation.DeleteAsk.{DeleteAsk}
use Rattle.etcd_types.specs.declared.operation.Op.{Op, Row_of-Op, end_of-Op, more_of-Op}
use Rattle.etcd_types.specs.declared.operation.Op.TheVariants.{Range, Put, Delete, Txn', Txn}
use Rattle.etcd_types.specs.declared.request.Request.{Request}
use Rattle.etcd_types.specs.declared.request.Request.TheVariants as request
use Rattle.etcd_types.specs.Keys.{same}
use Rattle.etcd_types.specs.Ranges.{contains}
use Rattle.etcd_types.specs.Records.{after_put}
use Rattle.etcd_types.proofs.Bools.{and_both, not_true, or_first, or_second}
use Rattle.store_model.specs.declared.history.KeyChange.{KeyChange}
use Rattle.store_model.specs.declared.history.KeyChange.TheVariants as change
use Rattle.store_model.specs.declared.store_fault.StoreFault.TheVariants as fault
use Rattle.store_model.specs.History.{History}
use Rattle.store_model.specs.Records.{record_now}
use Rattle.store_model.specs.Ranges.{records_now, keys_in}
use Rattle.store_model.specs.State.{State}
use Rattle.store_model.specs.Transactions.{seen, run_put, deletion, run_delete, has_lease}
use Rattle.store_model.specs.Leases.{all_keys, is_attached, attached, ended, expired, record_key}
use Rattle.store_model.specs.Leaves.{all_leaves, all_leaves_row}
use Rattle.store_model.proofs.RunLemmas.{put_ok, delete_ok, seen-record, has_record, deletions-record}
use Rattle.store_laws.specs.Requests.NamedKeys.{names, names_row, is_on_lease, request_names, KeepsRecord, UnnamedKeysStay, UnattachedKeysStay}
use Rattle.store_laws.proofs.Requests.Deletions.{deleted-record, ended-record, has-tested}
use Rattle.store_laws.proofs.Requests.Lifted.{Keeps, Holds, lifted}
use Rattle.store_laws.proofs.Requests.RangeProofs.{keyed-now}
use Rattle.store_laws.proofs.Requests.StepCases.{op_of, exec_by, same_op}

abbrev pub apart_put : List ℕ → PutAsk → Bool
apart_put k ask = not (same ask.key k)

abbrev pub apart_delete : List ℕ → DeleteAsk → Bool
apart_delete k ask = not (contains ask.range k)

mutual
  apart : (k : List ℕ) (op : Op) → names k op ≡ false → all_leaves (apart_put k) (apart_delete k) op ≡ true
  apart k (Range ask) e = refl
  apart k (Put ask) e = ap not e
  apart k (Delete ask) e = ap not e
  apart k (Txn' compare m success n failure) e =
      and_both (all_leaves_row (apart_put k) (apart_delete k) success) _ (row_apart k success (or_first (names_row k success) _ e)) (row_apart k failure (or_second (names_row k success) _ e))

  row_apart : {m : _} (k : List ℕ) (ops : Row_of-Op m) → names_row k ops ≡ false → all_leaves_row (apart_put k) (apart_delete k) ops ≡ true
  row_apart k end_of-Op e = refl
  row_apart k (more_of-Op op rest) e = and_both (all_leaves (apart_put k) (apart_delete k) op) _ (apart k op (or_first (names k op) _ e)) (row_apart k rest (or_second (names k op) _ e))

pub apart_all : (k : List ℕ) (ops : List Op) → list_any (names k) ops ≡ false → list_all (all_leaves (apart_put k) (apart_delete k)) ops ≡ true
apart_all k [] e = refl
apart_all k (op ∷ ops) e = and_both (all_leaves (apart_put k) (apart_delete k) op) _ (apart k op (or_first (names k op) _ e)) (apart_all k ops (or_second (names k op) _ e))

-- the record stands as it did

abbrev pub Stands : State → List ℕ → List KeyChange → Type 0
Stands s k made = record_now (seen s made) k ≡ record_now s.history k

pub keep_standing : (s : State) (k : List ℕ) → Keeps s (Stands s k) (apart_put k) (apart_delete k)
keep_standing s k = record { put = puts; delete = deletes }
  where
    puts : (ask : PutAsk) (made : List KeyChange) → apart_put k ask ≡ true → Stands s k made → Holds (Stands s k) (run_put s ask made)
    puts ask made a h next b e =
        let m = put_ok s ask made next b e in
        let old = record_now (seen s made) k in
        ap (λ (cs : List KeyChange). record_now (seen s cs) k) m.made_so ∙ seen-record s made (change.Put ask.key ask.value m.lease ∷ []) k
        ∙ ap (λ (t : Bool). cond t (Some (after_put old k ask.value m.lease (length s.history + 2))) old) (not_true (same ask.key k) a) ∙ h

    deletes : (ask : DeleteAsk) (made : List KeyChange) → apart_delete k ask ≡ true → Stands s k made → Holds (Stands s k) (run_delete s ask made)
    deletes ask made a h next b e =
        let gone = records_now (seen s made) ask.range in
        let old = record_now (seen s made) k in
        ap (λ (cs : List KeyChange). record_now (seen s cs) k) (delete_ok s ask made next b e) ∙ seen-record s made (map deletion gone) k
        ∙ deletions-record (length s.history + 2) k gone old ∙ deleted-record (seen s made) ask.range k
        ∙ ap (λ (t : Bool). cond t None old) (not_true (contains ask.range k) a) ∙ h

-- the records attached to a lease are those of keys on the lease
on : History → ℕ → List ℕ → Bool
on h number j = is_on_lease number (record_now h j)

attached_one : (h : History) (number : ℕ) (kv : Kv) (b : Bool) (rest : List Kv) → is_attached number kv ≡ b → record_now h kv.key ≡ Some kv
    → list_all (on h number) (map record_key rest) ≡ true → list_all (on h number) (map record_key (cond b (kv ∷ rest) rest)) ≡ true
unfolding on
attached_one h number kv true rest e r a = and_both (on h number kv.key) _ (ap (is_on_lease number) r ∙ e) a
attached_one h number kv false rest e r a = a

attached_step : (h : History) (number : ℕ) (k : List ℕ) (o : Option Kv) (rest : List Kv) → record_now h k ≡ o
    → list_all (on h number) (map record_key (filter (is_attached number) rest)) ≡ true
    → list_all (on h number) (map record_key (filter (is_attached number) (cons_option o rest))) ≡ true
attached_step h number k None rest e a = a
attached_step h number k (Some kv) rest e a =
    attached_one h number kv (is_attached number kv) (filter (is_attached number) rest) refl (ap (record_now h) (keyed-now h k kv e) ∙ e) a

attached_on : (h : History) (number : ℕ) (ks : List (List ℕ)) → list_all (on h number) (map record_key (filter (is_attached number) (filter_map (record_now h) ks))) ≡ true
attached_on h number [] = refl
attached_on h number (k ∷ ks) = attached_step h number k (record_now h k) (filter_map (record_now h) ks) refl (attached_on h number ks)

keeps-ended : (k : List ℕ) (s : State) (number : ℕ) → is_on_lease number (record_now s.history k) ≡ false → KeepsRecord s (ended s number) k
keeps-ended k s number n = ended-record s number k ∙ by_test (has_record k (attached s.history number)) refl
  where
    by_test : (t : Bool) → has_record k (attached s.history number) ≡ t → cond t None (record_now s.history k) ≡ record_now s.history k
    by_test true e =
        absurd (let f = has-tested (on s.history number) k (attached s.history number) (attached_on s.history number (keys_in s.history all_keys)) e in unfold on in cc)
    by_test false e = refl

-- requests

-- what a request doesn't name, its operation doesn't
unnamed_by : (s : State) (k : List ℕ) (q : Request) (op : Op) → op_of q ≡ Some op → request_names s k q ≡ false → names k op ≡ false
unnamed_by s k (request.Range ask) op e n = subst (λ (o : Op). names k o ≡ false) (same_op (Range ask) op e) refl
unnamed_by s k (request.Put ask) op e n = subst (λ (o : Op). names k o ≡ false) (same_op (Put ask) op e) n
unnamed_by s k (request.Delete ask) op e n = subst (λ (o : Op). names k o ≡ false) (same_op (Delete ask) op e) n
unnamed_by s k (request.Txn txn) op e n = subst (λ (o : Op). names k o ≡ false) (same_op (Txn txn) op e) n
unnamed_by s k (request.Compact revision physical) op e n = absurd (cc)
unnamed_by s k (request.Grant ttl lease) op e n = absurd (cc)
unnamed_by s k (request.Revoke lease) op e n = absurd (cc)
unnamed_by s k (request.KeepAlive lease) op e n = absurd (cc)
unnamed_by s k (request.TimeToLive lease keys) op e n = absurd (cc)
unnamed_by s k request.Leases op e n = absurd (cc)
unnamed_by s k (request.Watch ask) op e n = absurd (cc)

pub unnamed_keys_stay : UnnamedKeysStay
unnamed_keys_stay s member q k unnamed =
    exec_by s member (λ r step. request_names s k r ≡ false → KeepsRecord s step.0 k)
    (record {
      refuses = λ r refusal known n. refl;
      runs = λ r op made b e serializable first ran n.
          lifted s (Stands s k) (apart_put k) (apart_delete k) (keep_standing s k) op [] (apart k op (unnamed_by s k r op e n)) refl made b ran;
      reads = λ ask b e n. refl;
      compacts = λ revision physical above within n. refl;
      grants = λ ttl number e n. refl;
      revokes = λ number e n. keeps-ended k s number n;
      keeps_alive = λ number n. refl;
      tells = λ number keys n. refl;
      lists = λ n. refl;
    })
    q unnamed

keeps-expired : (k : List ℕ) (s t : State) (number : ℕ) (known : Bool) → cond known (Ok (ended s number)) (Err (fault.NoSuchLease number)) ≡ Ok t
    → is_on_lease number (record_now s.history k) ≡ false → KeepsRecord s t k
keeps-expired k s t number true e n =
    let same_state : ended s number ≡ t = cc in subst (λ (u : State). KeepsRecord s u k) same_state (keeps-ended k s number n)
keeps-expired k s t number false e n = absurd (cc)

pub unattached_keys_stay : UnattachedKeysStay
unfolding expired
unattached_keys_stay s t lease k e n = keeps-expired k s t lease (has_lease s.leases lease) e n
