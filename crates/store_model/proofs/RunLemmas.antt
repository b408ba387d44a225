-- What an operation that was not refused has done: what it read, the branch that ran, the changes that it made.
use Rattle.std.proofs.Common.{◌≡◌, ℕ, ◌+◌, length, ◌||◌, Bool, true, false, cond, not, ◌&&◌, ◌==◌, List, [], ◌∷◌, ◌++◌, Option, None, Some, Result, Ok, Err, refl, sym, ◌∙◌, ap, map}
use Rattle.std.specs.List.{list_any}
use Rattle.etcd_types.specs.Keys.{same}
use Rattle.store_model.proofs.HistoryLemmas.{record_now-with_revision}
use Rattle.etcd_types.specs.declared.record.Kv.{Kv}
use Rattle.etcd_types.specs.declared.operation.PutAsk.{PutAsk}
use Rattle.etcd_types.specs.declared.operation.DeleteAsk.{DeleteAsk}
use Rattle.etcd_types.specs.declared.operation.TxnAsk.{TxnAsk}
use Rattle.etcd_types.specs.declared.operation.Op.{Op}
use Rattle.etcd_types.specs.declared.answer.Body.{Body}
use Rattle.etcd_types.specs.declared.answer.Body.TheVariants as body
use Rattle.etcd_types.specs.declared.answer.Refusal.{Refusal}
use Rattle.store_model.specs.declared.history.KeyChange.{KeyChange}
use Rattle.store_model.specs.declared.history.KeyChange.TheVariants as change
use Rattle.store_model.specs.Records.{after_change, after_changes, record_now}
use Rattle.store_model.specs.Ranges.{records_now}
use Rattle.store_model.specs.Refusals.{key_not_found, lease_not_found}
use Rattle.store_model.specs.State.{State}
use Rattle.store_model.specs.Compares.{all_hold}
use Rattle.store_model.specs.Transactions.{Ran, RanAll, seen, unchanged, run_all, run_txn, run_put, run_delete, put_on, has_lease, answered, with_body, first_then, deletion, asked_prev}

got : {A E : Type 0} → A → Result A E → A
got d (Ok x) = x
got d (Err e) = d

pub same_ok : {A E : Type 0} (x y : A) → ◌≡◌ {A = Result A E} (Ok x) (Ok y) → x ≡ y
unfolding got
same_ok x y e = ap (got x) e

-- What a range read, with the changes as they were.
pub unchanged_ok : (made : List KeyChange) (r : Result Body Refusal) (next : List KeyChange) (b : Body) → unchanged made r ≡ Ok (next, b) → (made ≡ next) × (r ≡ Ok b)
unchanged_ok made (Ok x) next b e =
    let same = same_ok (made, x) (next, b) e in
    (ap (λ (y : List KeyChange × Body). y.0) same, ap (λ (y : List KeyChange × Body). Ok y.1) same)
unchanged_ok made (Err refusal) next b e = absurd (cc)

-- the operations of the branch that runs
abbrev pub branch_ops : TxnAsk → Bool → List Op
branch_ops t succeeded = cond succeeded t.success t.failure

pub answered_ok : (b : Bool) (all : RanAll) (made : List KeyChange) (answer : Body) → answered b all ≡ Ok (made, answer)
    → (bodies : List Body) × (all ≡ Ok (made, bodies)) × (answer ≡ body.Txn b bodies)
answered_ok b (Ok ran) made answer e =
    let same = same_ok (ran.0, body.Txn b ran.1) (made, answer) e in
    (ran.1, ap (λ (m : List KeyChange). Ok (m, ran.1)) (ap (λ (x : List KeyChange × Body). x.0) same), sym (ap (λ (x : List KeyChange × Body). x.1) same))
answered_ok b (Err refusal) made answer e = absurd (cc)

pub txn_ran : (s : State) (t : TxnAsk) (before made : List KeyChange) (answer : Body) → run_txn s t before ≡ Ok (made, answer)
    → (bodies : List Body) × (run_all s (branch_ops t (all_hold (seen s before) t.compare)) before ≡ Ok (made, bodies)) × (answer ≡ body.Txn (all_hold (seen s before) t.compare) bodies)
txn_ran s t before made answer e = by_branch (all_hold (seen s before) t.compare) e
  where
    by_branch : (b : Bool) → cond b (answered true (run_all s t.success before)) (answered false (run_all s t.failure before)) ≡ Ok (made, answer)
        → (bodies : List Body) × (run_all s (branch_ops t b) before ≡ Ok (made, bodies)) × (answer ≡ body.Txn b bodies)
    by_branch true f = answered_ok true (run_all s t.success before) made answer f
    by_branch false f = answered_ok false (run_all s t.failure before) made answer f

-- the branch that ran
pub branch_ok : (t : Bool) (success failure : RanAll) (next : List KeyChange) (b : Body) → cond t (answered true success) (answered false failure) ≡ Ok (next, b)
    → (bs : List Body) × (cond t success failure ≡ Ok (next, bs)) × (b ≡ body.Txn t bs)
branch_ok true success failure next b e = answered_ok true success next b e
branch_ok false success failure next b e = answered_ok false failure next b e

pub first_then_ok : (r : Ran) (rest : List KeyChange → RanAll) (made : List KeyChange) (bodies : List Body) → first_then r rest ≡ Ok (made, bodies)
    → (next : List KeyChange) × (b : Body) × (bs : List Body) × (r ≡ Ok (next, b)) × (rest next ≡ Ok (made, bs)) × (bodies ≡ b ∷ bs)
first_then_ok (Ok ran) rest made bodies e = by_rest (rest ran.0) refl e
  where
    by_rest : (all : RanAll) → rest ran.0 ≡ all → with_body ran.1 all ≡ Ok (made, bodies)
        → (next : List KeyChange) × (b : Body) × (bs : List Body) × (◌≡◌ {A = Ran} (Ok ran) (Ok (next, b))) × (rest next ≡ Ok (made, bs)) × (bodies ≡ b ∷ bs)
    by_rest (Ok more) f g =
        let same = same_ok (more.0, ran.1 ∷ more.1) (made, bodies) g in
        (ran.0, ran.1, more.1, refl, f ∙ ap (λ (m : List KeyChange). Ok (m, more.1)) (ap (λ (x : List KeyChange × List Body). x.0) same), sym (ap (λ (x : List KeyChange × List Body). x.1) same))
    by_rest (Err refusal) f g = absurd (cc)
first_then_ok (Err refusal) rest made bodies e = absurd (cc)

-- What a put makes: one change, under the lease that it names or that its key has.

pub record PutMade (s : State) (ask : PutAsk) (made next : List KeyChange) (b : Body) : Type 0 where
  pub lease : ℕ
  pub made_so : next ≡ made ++ change.Put ask.key ask.value lease ∷ []
  pub named : ask.ignore_lease ≡ false → lease ≡ ask.lease
  pub kept : ask.ignore_lease ≡ true → (kv : Kv) × (record_now (seen s made) ask.key ≡ Some kv) × (lease ≡ kv.lease)
  pub known : not (ask.lease == 0) && not (has_lease s.leases ask.lease) ≡ false
  pub body : b ≡ body.Put (asked_prev ask.prev_kv (record_now (seen s made) ask.key))

asked_none : (p : Bool) → asked_prev p None ≡ None
asked_none true = refl
asked_none false = refl

pub put_ok : (s : State) (ask : PutAsk) (made next : List KeyChange) (b : Body) → run_put s ask made ≡ Ok (next, b) → PutMade s ask made next b
put_ok s ask made next b e = by_known (not (ask.lease == 0) && not (has_lease s.leases ask.lease)) refl e
  where
    by_old : (old : Option Kv) → record_now (seen s made) ask.key ≡ old → not (ask.lease == 0) && not (has_lease s.leases ask.lease) ≡ false → put_on ask made old ≡ Ok (next, b) → PutMade s ask made next b
    by_old None f g h = by_ignored ask.ignore_lease refl h
      where
        by_ignored : (i : Bool) → ask.ignore_lease ≡ i → ◌≡◌ {A = Ran} (cond i (Err key_not_found) (Ok (made ++ change.Put ask.key ask.value ask.lease ∷ [], body.Put None))) (Ok (next, b)) → PutMade s ask made next b
        by_ignored true i q = absurd (cc)
        by_ignored false i q =
            let same = same_ok _ (next, b) q in
            record {
              lease = ask.lease;
              made_so = sym (ap (λ (x : List KeyChange × Body). x.0) same);
              named = λ j. refl;
              kept = λ j. absurd (cc);
              known = g;
              body = sym (ap (λ (x : List KeyChange × Body). x.1) same) ∙ ap body.Put (sym (asked_none ask.prev_kv)) ∙ ap (λ (o : Option Kv). body.Put (asked_prev ask.prev_kv o)) (sym f);
            }
    by_old (Some kv) f g h =
        let same = same_ok _ (next, b) h in
        record {
          lease = cond ask.ignore_lease kv.lease ask.lease;
          made_so = sym (ap (λ (x : List KeyChange × Body). x.0) same);
          named = λ j. ap (λ (i : Bool). cond i kv.lease ask.lease) j;
          kept = λ j. (kv, f, ap (λ (i : Bool). cond i kv.lease ask.lease) j);
          known = g;
          body = sym (ap (λ (x : List KeyChange × Body). x.1) same) ∙ ap (λ (o : Option Kv). body.Put (asked_prev ask.prev_kv o)) (sym f);
        }

    by_known : (u : Bool) → not (ask.lease == 0) && not (has_lease s.leases ask.lease) ≡ u
        → ◌≡◌ {A = Ran} (cond u (Err lease_not_found) (put_on ask made (record_now (seen s made) ask.key))) (Ok (next, b)) → PutMade s ask made next b
    by_known true f g = absurd (cc)
    by_known false f g = by_old (record_now (seen s made) ask.key) refl f g

-- What a deletion makes: each record of its range is deleted.
pub delete_ok : (s : State) (ask : DeleteAsk) (made next : List KeyChange) (b : Body) → run_delete s ask made ≡ Ok (next, b)
    → (next ≡ made ++ map deletion (records_now (seen s made) ask.range))
delete_ok s ask made next b e = sym (ap (λ (x : List KeyChange × Body). x.0) (same_ok _ (next, b) e))

-- The record of a key as an operation sees it, with further changes.

pub after_changes-append : (revision : ℕ) (k : List ℕ) (cs ds : List KeyChange) (old : Option Kv) → after_changes revision k (cs ++ ds) old ≡ after_changes revision k ds (after_changes revision k cs old)
after_changes-append revision k [] ds old = refl
after_changes-append revision k (c ∷ cs) ds old = after_changes-append revision k cs ds (after_change revision k c old)

pub seen-record : (s : State) (made cs : List KeyChange) (k : List ℕ) → record_now (seen s (made ++ cs)) k ≡ after_changes (length s.history + 2) k cs (record_now (seen s made) k)
seen-record s made cs k =
    record_now-with_revision s.history k (made ++ cs) ∙ after_changes-append (length s.history + 2) k made cs (record_now s.history k)
    ∙ ap (after_changes (length s.history + 2) k cs) (sym (record_now-with_revision s.history k made))

-- Records that are deleted one after the other: their keys are absent then, and all else is as it was.

abbrev pub has_record : List ℕ → List Kv → Bool
has_record k kvs = list_any (λ kv. same kv.key k) kvs

two : (a b : Bool) (old : Option Kv) → cond b None (cond a None old) ≡ cond (a || b) None old
two true true old = refl
two true false old = refl
two false b old = refl

pub deletions-record : (revision : ℕ) (k : List ℕ) (kvs : List Kv) (old : Option Kv) → after_changes revision k (map deletion kvs) old ≡ cond (has_record k kvs) None old
deletions-record revision k [] old = refl
deletions-record revision k (kv ∷ kvs) old =
    deletions-record revision k kvs (cond (same kv.key k) None old) ∙ two (same kv.key k) (has_record k kvs) old
