-- What an operation is answered is a body that it can have.
use Rattle.std.proofs.Common.{◌≡◌, ℕ, zero, suc, ◌≤◌, Bool, true, false, not, cond, ◌&&◌, ◌||◌, ◌==◌, nat_lt, nat_le, List, [], ◌∷◌, ◌++◌, length, take, map, Option, None, Some, Result, Ok, Err, refl, sym, ◌∙◌, ap, subst, arith}
use Rattle.std.specs.List.{list_all}
use Rattle.std.specs.Option.{option_to_list}
use Rattle.std.proofs.lemmas.Bool.Decides.{nat_tests}
use Rattle.etcd_types.specs.declared.record.Kv.{Kv}
use Rattle.etcd_types.specs.declared.key_range.KeyRange.{KeyRange}
use Rattle.etcd_types.specs.declared.operation.RangeAsk.{RangeAsk}
use Rattle.etcd_types.specs.declared.operation.PutAsk.{PutAsk}
use Rattle.etcd_types.specs.declared.operation.DeleteAsk.{DeleteAsk}
use Rattle.etcd_types.specs.declared.operation.Op.{Op, Row_of-Op, end_of-Op, more_of-Op}
use Rattle.etcd_types.specs.declared.operation.Op.TheVariants as op
use Rattle.etcd_types.specs.declared.answer.Body.{Body}
use Rattle.etcd_types.specs.declared.answer.Body.TheVariants as body
use Rattle.etcd_types.specs.declared.answer.Refusal.{Refusal}
use Rattle.etcd_types.specs.Ranges.{is_one, contains}
use Rattle.etcd_types.proofs.Bools.{and_both, and_first, and_second}
use Rattle.store_model.specs.declared.history.KeyChange.{KeyChange}
use Rattle.store_model.specs.declared.history.KeyChange.TheVariants as change
use Rattle.store_model.specs.History.{History, newest}
use Rattle.store_model.specs.Records.{record_now}
use Rattle.store_model.specs.Ranges.{records_now}
use Rattle.store_model.specs.Leases.{record_key}
use Rattle.store_model.specs.Refusals.{future_revision, compacted_revision, unsupported, key_not_found, lease_not_found}
use Rattle.store_model.specs.Reads.{read, range_body, shown, limited, without_value, asked_history, is_unsupported}
use Rattle.store_model.specs.State.{State}
use Rattle.store_model.specs.Compares.{all_hold}
use Rattle.store_model.specs.Transactions.{Ran, RanAll, seen, run, run_row, run_put, run_delete, put_on, has_lease, unchanged, answered}
use Rattle.store_model.proofs.RunLemmas.{same_ok, answered_ok, first_then_ok}
use Rattle.store_laws.proofs.Requests.RangeProofs.{records-within}
use Rattle.proxy_model.specs.Fits.{fits, fits_row, fits_range, are_records_of, is_put, is_delete, fits_first, fits_branch, branch_of, is_nothing}
use Rattle.proxy_model.proofs.FitsLaws.{branch_of-Txn}
use Rattle.proxy_laws.proofs.OneKey.{records_one}

-- Records of a range.

abbrev All_in : KeyRange → List Kv → Type 0
All_in r kvs = list_all (λ kv. contains r kv.key) kvs ≡ true

in_by_keys : (r : KeyRange) (kvs : List Kv) → list_all (contains r) (map record_key kvs) ≡ true → All_in r kvs
in_by_keys r [] a = refl
in_by_keys r (kv ∷ kvs) a = and_both (contains r kv.key) _ (and_first (contains r kv.key) _ a) (in_by_keys r kvs (and_second (contains r kv.key) _ a))

in_range_now : (h : History) (r : KeyRange) → All_in r (records_now h r)
in_range_now h r = in_by_keys r (records_now h r) (records-within h r)

in_taken : (r : KeyRange) (n : ℕ) (kvs : List Kv) → All_in r kvs → All_in r (take n kvs)
in_taken r zero kvs a = refl
in_taken r (suc n) [] a = refl
in_taken r (suc n) (kv ∷ kvs) a =
    and_both (contains r kv.key) _ (and_first (contains r kv.key) _ a) (in_taken r n kvs (and_second (contains r kv.key) _ a))

in_emptied : (r : KeyRange) (kvs : List Kv) → All_in r kvs → All_in r (map without_value kvs)
in_emptied r [] a = refl
in_emptied r (kv ∷ kvs) a =
    and_both (contains r kv.key) _ (and_first (contains r kv.key) _ a) (in_emptied r kvs (and_second (contains r kv.key) _ a))

in_limited : (r : KeyRange) (limit : ℕ) (kvs : List Kv) → All_in r kvs → All_in r (limited limit kvs)
in_limited r limit kvs a = by_test (limit == 0)
  where
    by_test : (b : Bool) → All_in r (cond b kvs (take limit kvs))
    by_test true = a
    by_test false = in_taken r limit kvs a

none_taken : (n : ℕ) (kvs : List Kv) → length kvs ≡ 0 → length (take n kvs) ≡ 0
none_taken zero kvs e = refl
none_taken (suc n) [] e = refl
none_taken (suc n) (kv ∷ kvs) e = absurd (omega arith)

few_limited : (limit : ℕ) (kvs : List Kv) → length kvs ≤ 1 → length (limited limit kvs) ≤ 1
few_limited limit kvs f = by_test (limit == 0)
  where
    by_test : (b : Bool) → length (cond b kvs (take limit kvs)) ≤ 1
    by_test true = f
    by_test false = taken limit kvs f
      where
        taken : (n : ℕ) (kvs : List Kv) → length kvs ≤ 1 → length (take n kvs) ≤ 1
        taken zero kvs f = omega arith
        taken (suc n) [] f = omega arith
        taken (suc n) (kv ∷ []) f = omega (arith, none_taken n [] refl)
        taken (suc n) (kv ∷ other ∷ kvs) f = absurd (omega arith)

are_records : (r : KeyRange) (kvs : List Kv) → All_in r kvs → (is_one r ≡ true → length kvs ≤ 1) → are_records_of r kvs ≡ true
are_records r kvs a f = and_both (not (is_one r) || nat_le (length kvs) 1) _ (by_test (is_one r) refl) a
  where
    by_test : (b : Bool) → is_one r ≡ b → not b || nat_le (length kvs) 1 ≡ true
    by_test true e = let few = f e in grind (arith, nat_tests)
    by_test false e = refl

few_one : (h : History) (r : KeyRange) → is_one r ≡ true → length (records_now h r) ≤ 1
few_one h r e = rw (records_one h r e) (few (record_now h r.key))
  where
    few : (o : Option Kv) → length (option_to_list o) ≤ 1
    few None = omega arith
    few (Some kv) = omega arith

length_emptied : (kvs : List Kv) → length (map without_value kvs) ≡ length kvs
length_emptied [] = refl
length_emptied (kv ∷ kvs) = ap suc (length_emptied kvs)

shown_fits : (ask : RangeAsk) (kvs : List Kv) → All_in ask.range kvs → (is_one ask.range ≡ true → length kvs ≤ 1) → are_records_of ask.range (shown ask kvs) ≡ true
shown_fits ask kvs a f = by_test ask.keys_only
  where
    by_test : (b : Bool) → are_records_of ask.range (cond b (map without_value (limited ask.limit kvs)) (limited ask.limit kvs)) ≡ true
    by_test true =
        are_records ask.range _ (in_emptied ask.range (limited ask.limit kvs) (in_limited ask.range ask.limit kvs a)) (λ e. rw length_emptied (few_limited ask.limit kvs (f e)))
    by_test false = are_records ask.range _ (in_limited ask.range ask.limit kvs a) (λ e. few_limited ask.limit kvs (f e))

nothing_fits : (r : KeyRange) → are_records_of r [] ≡ true
nothing_fits r = are_records r [] refl (λ e. omega arith)

range_fits : (ask : RangeAsk) (kvs : List Kv) → All_in ask.range kvs → (is_one ask.range ≡ true → length kvs ≤ 1) → fits_range ask.range (range_body ask kvs) ≡ true
range_fits ask kvs a f = by_test ask.count_only
  where
    by_test : (b : Bool) → fits_range ask.range (cond b (body.Range (length kvs) false []) (body.Range (length kvs) (not (ask.limit == 0) && nat_lt ask.limit (length kvs)) (shown ask kvs))) ≡ true
    by_test true = nothing_fits ask.range
    by_test false = shown_fits ask kvs a f

-- What is read is a range's body.
picked : (a b c : Bool) (x y : Body) (f g u : Refusal) → ◌≡◌ {A = Result Body Refusal} (cond a (Err f) (cond b (Err g) (cond c (Err u) (Ok x)))) (Ok y) → x ≡ y
picked true b c x y f g u e = absurd (cc)
picked false true c x y f g u e = absurd (cc)
picked false false true x y f g u e = absurd (cc)
picked false false false x y f g u e = same_ok x y e

pub read_is : (h : History) (latest compacted : ℕ) (ask : RangeAsk) (b : Body) → read h latest compacted ask ≡ Ok b
    → range_body ask (records_now (asked_history h ask.revision) ask.range) ≡ b
read_is h latest compacted ask b e =
    picked (nat_lt latest ask.revision) (not (ask.revision == 0) && nat_lt ask.revision compacted) (is_unsupported ask.sort)
    (range_body ask (records_now (asked_history h ask.revision) ask.range)) b future_revision compacted_revision unsupported e

read_fits : (h : History) (latest compacted : ℕ) (ask : RangeAsk) (b : Body) → read h latest compacted ask ≡ Ok b → fits_range ask.range b ≡ true
read_fits h latest compacted ask b e =
    let then = asked_history h ask.revision in
    subst (λ (x : Body). fits_range ask.range x ≡ true) (read_is h latest compacted ask b e)
    (range_fits ask (records_now then ask.range) (in_range_now then ask.range) (few_one then ask.range))

unchanged_fits : (made : List KeyChange) (r : Result Body Refusal) (next : List KeyChange) (b : Body) (range : KeyRange) → unchanged made r ≡ Ok (next, b)
    → ((x : Body) → r ≡ Ok x → fits_range range x ≡ true) → fits_range range b ≡ true
unchanged_fits made (Ok x) next b range e f =
    let same = same_ok (made, x) (next, b) e in
    subst (λ (y : Body). fits_range range y ≡ true) (ap (λ (z : List KeyChange × Body). z.1) same) (f x refl)
unchanged_fits made (Err refusal) next b range e f = absurd (cc)

-- A put and a delete.
put_on_fits : (ask : PutAsk) (made : List KeyChange) (old : Option Kv) (next : List KeyChange) (b : Body) → put_on ask made old ≡ Ok (next, b) → is_put b ≡ true
put_on_fits ask made None next b e = by_test ask.ignore_lease e
  where
    by_test : (i : Bool) → ◌≡◌ {A = Ran} (cond i (Err key_not_found) (Ok (made ++ change.Put ask.key ask.value ask.lease ∷ [], body.Put None))) (Ok (next, b)) → is_put b ≡ true
    by_test true f = absurd (cc)
    by_test false f = let same = same_ok _ (next, b) f in subst (λ (y : Body). is_put y ≡ true) (ap (λ (z : List KeyChange × Body). z.1) same) refl
put_on_fits ask made (Some old) next b e =
    let same = same_ok _ (next, b) e in subst (λ (y : Body). is_put y ≡ true) (ap (λ (z : List KeyChange × Body). z.1) same) refl

put_fits : (s : State) (ask : PutAsk) (made next : List KeyChange) (b : Body) → run_put s ask made ≡ Ok (next, b) → is_put b ≡ true
put_fits s ask made next b e = by_test (not (ask.lease == 0) && not (has_lease s.leases ask.lease)) e
  where
    by_test : (u : Bool) → ◌≡◌ {A = Ran} (cond u (Err lease_not_found) (put_on ask made (record_now (seen s made) ask.key))) (Ok (next, b)) → is_put b ≡ true
    by_test true f = absurd (cc)
    by_test false f = put_on_fits ask made (record_now (seen s made) ask.key) next b f

delete_fits : (s : State) (ask : DeleteAsk) (made next : List KeyChange) (b : Body) → run_delete s ask made ≡ Ok (next, b) → is_delete b ≡ true
delete_fits s ask made next b e =
    let same = same_ok _ (next, b) e in subst (λ (y : Body). is_delete y ≡ true) (ap (λ (z : List KeyChange × Body). z.1) same) refl

-- Each operation, and each row of them.

txn_fits : (b : Bool) (bodies : List Body) (success failure : List Body → Bool) → cond b (success bodies) (failure bodies) ≡ true
    → fits_branch (branch_of (body.Txn b bodies)) success failure ≡ true
txn_fits b bodies success failure e = ap (λ o. fits_branch o success failure) (branch_of-Txn b bodies) ∙ e

first_fits : (bs : List Body) (b : Body) (rest : List Body) (first : Body → Bool) (others : List Body → Bool) → bs ≡ b ∷ rest → first b ≡ true → others rest ≡ true
    → fits_first bs first others ≡ true
first_fits bs b rest first others e f g =
    subst (λ (x : List Body). fits_first x first others ≡ true) (sym e) (and_both (first b) (others rest) f g)

nested_fits : (h : Bool) (success failure : RanAll) (next : List KeyChange) (b : Body) (fits_success fits_failure : List Body → Bool) → cond h (answered true success) (answered false failure) ≡ Ok (next, b)
    → ((bodies : List Body) → success ≡ Ok (next, bodies) → fits_success bodies ≡ true) → ((bodies : List Body) → failure ≡ Ok (next, bodies) → fits_failure bodies ≡ true)
    → fits_branch (branch_of b) fits_success fits_failure ≡ true
nested_fits true success failure next b fits_success fits_failure e f g =
    let (bodies, all, is) = answered_ok true success next b e in
    subst (λ (x : Body). fits_branch (branch_of x) fits_success fits_failure ≡ true) (sym is) (txn_fits true bodies fits_success fits_failure (f bodies all))
nested_fits false success failure next b fits_success fits_failure e f g =
    let (bodies, all, is) = answered_ok false failure next b e in
    subst (λ (x : Body). fits_branch (branch_of x) fits_success fits_failure ≡ true) (sym is) (txn_fits false bodies fits_success fits_failure (g bodies all))

mutual
  pub run_fits : (s : State) (o : Op) (made next : List KeyChange) (b : Body) → run s o made ≡ Ok (next, b) → fits o b ≡ true
  run_fits s (op.Range ask) made next b e =
      unchanged_fits made (read (seen s made) (newest (seen s made)) s.compacted ask) next b ask.range e (λ x f. read_fits (seen s made) (newest (seen s made)) s.compacted ask x f)
  run_fits s (op.Put ask) made next b e = put_fits s ask made next b e
  run_fits s (op.Delete ask) made next b e = delete_fits s ask made next b e
  run_fits s (op.Txn' compare m success n failure) made next b e =
      nested_fits (all_hold (seen s made) compare) (run_row s success made) (run_row s failure made) next b (fits_row success) (fits_row failure)
      e (λ bodies f. run_row_fits s success made next bodies f) (λ bodies f. run_row_fits s failure made next bodies f)

  pub run_row_fits : {m : _} (s : State) (ops : Row_of-Op m) (made next : List KeyChange) (bs : List Body) → run_row s ops made ≡ Ok (next, bs) → fits_row ops bs ≡ true
  run_row_fits s end_of-Op made next bs e = let same = same_ok (made, []) (next, bs) e in subst (λ (y : List Body). is_nothing y ≡ true) (ap (λ (z : List KeyChange × List Body). z.1) same) refl
  run_row_fits s (more_of-Op o rest) made next bs e =
      let (mid, b, others, first, later, is) = first_then_ok (run s o made) (λ x. run_row s rest x) next bs e in
      first_fits bs b others (λ x. fits o x) (λ x. fits_row rest x) is (run_fits s o made mid b first) (run_row_fits s rest mid next others later)
