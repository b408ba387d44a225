-- The lease of a record, through the operations that run.
use Rattle.std.proofs.Common.{◌≡◌, ℕ, ◌+◌, Bool, true, false, cond, not, ◌&&◌, ◌||◌, ◌==◌, List, [], ◌∷◌, length, map, Option, Some, Ok, refl, sym, ◌∙◌, ap, subst, ◌⊎◌, inl, arith}
use Rattle.std.specs.List.{list_all, list_any}
use Rattle.std.proofs.lemmas.Bool.Decides.{nat_tests}
use Rattle.etcd_types.specs.declared.record.Kv.{Kv}
use Rattle.etcd_types.specs.declared.operation.PutAsk.{PutAsk}
use Rattle.etcd_types.specs.declared.operation.DeleteAsk.{DeleteAsk}
use Rattle.etcd_types.specs.declared.operation.Op.{Op, Row_of-Op, end_of-Op, more_of-Op}
use Rattle.etcd_types.specs.declared.operation.Op.TheVariants.{Range, Put, Delete, Txn', Txn}
use Rattle.etcd_types.specs.declared.request.Request.{Request}
use Rattle.etcd_types.specs.declared.request.Request.TheVariants as request
use Rattle.etcd_types.specs.declared.answer.Body.{Body}
use Rattle.etcd_types.specs.Keys.{same}
use Rattle.etcd_types.specs.Records.{after_put}
use Rattle.etcd_types.proofs.Bools.{and_both, or_either, or_left, or_right}
use Rattle.etcd_types.proofs.KeyOrder.{same-equal}
use Rattle.store_model.specs.declared.history.KeyChange.{KeyChange}
use Rattle.store_model.specs.declared.history.KeyChange.TheVariants as change
use Rattle.store_model.specs.Records.{record_now}
use Rattle.store_model.specs.Ranges.{records_now}
use Rattle.store_model.specs.State.{State}
use Rattle.store_model.specs.Leases.{attached}
use Rattle.store_model.specs.Leaves.{all_leaves, all_leaves_row}
use Rattle.store_model.specs.Transactions.{Ran, seen, run, run_all, run_put, run_delete, first_then, deletion}
use Rattle.store_model.proofs.RunLemmas.{PutMade, put_ok, delete_ok, txn_ran, seen-record, has_record, deletions-record}
use Rattle.store_model.proofs.TransactionLemmas.{run_is_txn}
use Rattle.store_laws.specs.Requests.NamedKeys.{is_on_lease}
use Rattle.store_laws.proofs.Requests.Deletions.{ended-record}
use Rattle.store_laws.proofs.Requests.Lifted.{Keeps, Holds, lifted_all}
use Rattle.store_laws.proofs.Requests.StepCases.{op_of, exec_by, same_op}
use Rattle.store_laws.specs.Lives.TestedKeys.{any_delete}
use Rattle.store_laws.specs.Lives.Leases.{names_lease, names_lease_row, running, RecordsKeepLeases}
use Rattle.store_laws.proofs.Lives.Histories.{same_some}
use Rattle.store_laws.proofs.Lives.SoundProofs.{put_lease, left_by_none}

-- a put of the key names a lease that passes, or keeps the key's
abbrev puts_under : (ℕ → Bool) → List ℕ → PutAsk → Bool
puts_under test k ask = not (same ask.key k) || (ask.ignore_lease || test ask.lease)

-- the lease of the key's record passes
Passes : (ℕ → Bool) → List ℕ → State → List KeyChange → Type 0
Passes test k s made = (kv : Kv) → record_now (seen s made) k ≡ Some kv → test kv.lease ≡ true

chosen_by : (test : ℕ → Bool) (t : Bool) (new kv : Kv) (old : Option Kv) → (t ≡ true → test new.lease ≡ true) → ((x : Kv) → old ≡ Some x → test x.lease ≡ true)
    → cond t (Some new) old ≡ Some kv → test kv.lease ≡ true
chosen_by test true new kv old g h e = subst (λ (x : Kv). test x.lease ≡ true) (same_some new kv e) (g refl)
chosen_by test false new kv old g h e = h kv e

lease_passes : (test : ℕ → Bool) (k : List ℕ) (s : State) (ask : PutAsk) (made next : List KeyChange) (b : Body) (m : PutMade s ask made next b) → puts_under test k ask ≡ true → Passes test k s made
    → same ask.key k ≡ true → test m.lease ≡ true
unfolding Passes
lease_passes test k s ask made next b m p h is = by_ignored ask.ignore_lease refl
  where
    by_ignored : (i : Bool) → ask.ignore_lease ≡ i → test m.lease ≡ true
    by_ignored true e =
        let (kv, found, lease) = m.kept e in
        ap test lease ∙ h kv (ap (record_now (seen s made)) (sym (same-equal ask.key k is)) ∙ found)
    by_ignored false e = ap test (m.named e) ∙ named (same ask.key k) ask.ignore_lease is e p
      where
        named : (t i : Bool) → t ≡ true → i ≡ false → not t || (i || test ask.lease) ≡ true → test ask.lease ≡ true
        named true true f g q = absurd (cc)
        named true false f g q = q
        named false i f g q = absurd (cc)

keep_passing : (test : ℕ → Bool) (k : List ℕ) (s : State) → Keeps s (Passes test k s) (puts_under test k) any_delete
unfolding Passes
keep_passing test k s = record { put = puts; delete = deletes }
  where
    puts : (ask : PutAsk) (made : List KeyChange) → puts_under test k ask ≡ true → Passes test k s made → Holds (Passes test k s) (run_put s ask made)
    puts ask made p h next b e kv f =
        let m = put_ok s ask made next b e in
        let made_at = sym (seen-record s made (change.Put ask.key ask.value m.lease ∷ []) k) ∙ ap (λ (cs : List KeyChange). record_now (seen s cs) k) (sym m.made_so) ∙ f in
        let old = record_now (seen s made) k in
        let new = after_put old k ask.value m.lease (length s.history + 2) in
        chosen_by test (same ask.key k) new kv old
        (λ is. ap test (put_lease old k ask.value m.lease (length s.history + 2)) ∙ lease_passes test k s ask made next b m p h is)
        (λ x g. h x g) made_at

    deletes : (ask : DeleteAsk) (made : List KeyChange) → any_delete ask ≡ true → Passes test k s made → Holds (Passes test k s) (run_delete s ask made)
    deletes ask made p h next b e kv f =
        let gone = records_now (seen s made) ask.range in
        let made_at = sym (deletions-record (length s.history + 2) k gone (record_now (seen s made) k)) ∙ sym (seen-record s made (map deletion gone) k) ∙ ap (λ (cs : List KeyChange). record_now (seen s cs) k) (sym (delete_ok s ask made next b e)) ∙ f in
        h kv (left_by_none (has_record k gone) kv (record_now (seen s made) k) made_at).1

-- a lease that is named passes, where each that some put names does

same_number : (n : ℕ) → (n == n) ≡ true
same_number n = grind (arith, nat_tests)

put_named : (test : ℕ → Bool) (lease : ℕ) (t i : Bool) → ((n : ℕ) → t && (not i && lease == n) ≡ true → test n ≡ true) → not t || (i || test lease) ≡ true
put_named test lease true true f = refl
put_named test lease true false f = f lease (same_number lease)
put_named test lease false i f = refl

mutual
  named_pass : (test : ℕ → Bool) (k : List ℕ) (op : Op) → ((n : ℕ) → names_lease k n op ≡ true → test n ≡ true) → all_leaves (puts_under test k) any_delete op ≡ true
  named_pass test k (Range ask) f = refl
  named_pass test k (Put ask) f = put_named test ask.lease (same ask.key k) ask.ignore_lease f
  named_pass test k (Delete ask) f = refl
  named_pass test k (Txn' compare m success n failure) f =
      and_both (all_leaves_row (puts_under test k) any_delete success) _
      (row_named_pass test k success (λ l e. f l (or_left (names_lease_row k l success) _ e)))
      (row_named_pass test k failure (λ l e. f l (or_right (names_lease_row k l success) _ e)))

  row_named_pass : {m : _} (test : ℕ → Bool) (k : List ℕ) (ops : Row_of-Op m) → ((n : ℕ) → names_lease_row k n ops ≡ true → test n ≡ true) → all_leaves_row (puts_under test k) any_delete ops ≡ true
  row_named_pass test k end_of-Op f = refl
  row_named_pass test k (more_of-Op op rest) f =
      and_both (all_leaves (puts_under test k) any_delete op) _
      (named_pass test k op (λ l e. f l (or_left (names_lease k l op) _ e)))
      (row_named_pass test k rest (λ l e. f l (or_right (names_lease k l op) _ e)))

all_named_pass : (test : ℕ → Bool) (k : List ℕ) (ops : List Op) → ((n : ℕ) → list_any (names_lease k n) ops ≡ true → test n ≡ true) → list_all (all_leaves (puts_under test k) any_delete) ops ≡ true
all_named_pass test k [] f = refl
all_named_pass test k (op ∷ ops) f =
    and_both (all_leaves (puts_under test k) any_delete op) _
    (named_pass test k op (λ l e. f l (or_left (names_lease k l op) _ e)))
    (all_named_pass test k ops (λ l e. f l (or_right (names_lease k l op) _ e)))

-- what a request runs

alone : (s : State) (x op : Op) (made : List KeyChange) (b : Body) → Some x ≡ Some op → run s op [] ≡ Ok (made, b) → (bodies : List Body) × (run_all s (x ∷ []) [] ≡ Ok (made, bodies))
alone s x op made b e ran =
    (b ∷ [], ap (λ (o : Op). first_then (run s o []) (λ next. run_all s [] next)) (same_op x op e) ∙ ap (λ (r : Ran). first_then r (λ next. run_all s [] next)) ran)

runs_so : (s : State) (q : Request) (op : Op) (made : List KeyChange) (b : Body) → op_of q ≡ Some op → run s op [] ≡ Ok (made, b) → (bodies : List Body) × (run_all s (running s q) [] ≡ Ok (made, bodies))
runs_so s (request.Range ask) op made b e ran = alone s (Range ask) op made b e ran
runs_so s (request.Put ask) op made b e ran = alone s (Put ask) op made b e ran
runs_so s (request.Delete ask) op made b e ran = alone s (Delete ask) op made b e ran
runs_so s (request.Txn t) op made b e ran =
    let run_t : run s (Txn t) [] ≡ Ok (made, b) = ap (λ (o : Op). run s o []) (same_op (Txn t) op e) ∙ ran in
    let (bodies, all, is) = txn_ran s t [] made b (sym (run_is_txn s t []) ∙ run_t) in
    (bodies, all)
runs_so s (request.Compact revision physical) op made b e ran = absurd (cc)
runs_so s (request.Grant ttl lease) op made b e ran = absurd (cc)
runs_so s (request.Revoke lease) op made b e ran = absurd (cc)
runs_so s (request.KeepAlive lease) op made b e ran = absurd (cc)
runs_so s (request.TimeToLive lease keys) op made b e ran = absurd (cc)
runs_so s request.Leases op made b e ran = absurd (cc)
runs_so s (request.Watch ask) op made b e ran = absurd (cc)

pub records_keep_leases : RecordsKeepLeases
unfolding Passes
records_keep_leases s member q k =
    exec_by s member
    (λ r step. (kv : Kv) → record_now step.0.history k ≡ Some kv → (is_on_lease kv.lease (record_now s.history k) ≡ true) ⊎ (list_any (names_lease k kv.lease) (running s r) ≡ true))
    (record {
      refuses = λ r refusal known kv e. kept r kv e;
      runs = λ r op made b is serializable first ran kv e.
          let (bodies, all) = runs_so s r op made b is ran in
          let test : ℕ → Bool = λ n. is_on_lease n (record_now s.history k) || list_any (names_lease k n) (running s r) in
          or_either (is_on_lease kv.lease (record_now s.history k)) (list_any (names_lease k kv.lease) (running s r))
          (lifted_all s (Passes test k s) (puts_under test k) any_delete (keep_passing test k s) (running s r) []
          (all_named_pass test k (running s r) (λ n f. or_right (is_on_lease n (record_now s.history k)) _ f))
          (λ x f. or_left (is_on_lease x.lease (record_now s.history k)) _ (on_itself x f))
          made bodies all kv e);
      reads = λ ask b is kv e. kept (request.Range ask) kv e;
      compacts = λ revision physical above within kv e. kept (request.Compact revision physical) kv e;
      grants = λ ttl number is kv e. kept (request.Grant ttl number) kv e;
      revokes = λ number is kv e. kept (request.Revoke number) kv (left_by_none (has_record k (attached s.history number)) kv (record_now s.history k) (sym (ended-record s number k) ∙ e)).1;
      keeps_alive = λ number kv e. kept (request.KeepAlive number) kv e;
      tells = λ number keys kv e. kept (request.TimeToLive number keys) kv e;
      lists = λ kv e. kept request.Leases kv e;
    })
    q
  where
    on_itself : (kv : Kv) → record_now s.history k ≡ Some kv → is_on_lease kv.lease (record_now s.history k) ≡ true
    on_itself kv e = ap (is_on_lease kv.lease) e ∙ same_number kv.lease

    kept : (r : Request) (kv : Kv) → record_now s.history k ≡ Some kv → (is_on_lease kv.lease (record_now s.history k) ≡ true) ⊎ (list_any (names_lease k kv.lease) (running s r) ≡ true)
    kept r kv e = inl (ap (is_on_lease kv.lease) e ∙ same_number kv.lease)
