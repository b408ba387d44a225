-- Requests whose parts fit have a text, and those that have one fit.
use Rattle.std.proofs.Common.{◌≡◌, ℕ, zero, suc, ◌≤◌, ◌==◌, Bool, true, false, cond, ◌&&◌, inl, inr, List, length, refl, sym, ap, subst, ◌∙◌, arith}
use Rattle.std.specs.Prelude.{nat_le, codes}
use Rattle.std.specs.List.{list_all}
use Rattle.std.proofs.lemmas.Bool.{le-leb, leb-true, eqb-true}
use Rattle.etcd_types.proofs.Bools.{and_both, and_first, and_second}
use Rattle.etcd_types.specs.Keys.{is_empty}
use Rattle.text_model.specs.Forms.{Form, never, allowed, after, listed}
use Rattle.text_model.specs.Words.{max_number, is_within, number, bytes}
use Rattle.etcd_types.specs.declared.operation.Sort.{Sort}
use Rattle.etcd_types.specs.declared.operation.RangeAsk.{RangeAsk}
use Rattle.etcd_types.specs.declared.operation.PutAsk.{PutAsk}
use Rattle.etcd_types.specs.declared.operation.DeleteAsk.{DeleteAsk}
use Rattle.etcd_types.specs.declared.operation.Target.{Target}
use Rattle.etcd_types.specs.declared.operation.Target.TheVariants.{Version, Create, Modified, Value, Lease}
use Rattle.etcd_types.specs.declared.operation.Compare.{Compare}
use Rattle.etcd_types.specs.declared.operation.TxnAsk.{TxnAsk}
use Rattle.etcd_types.specs.declared.operation.Op.{Op, Row_of-Op, end_of-Op, more_of-Op, out-Op, items-the_row-Op, items_shown-the_row-Op-0}
use Rattle.etcd_types.specs.declared.operation.Op.TheVariants as op
use Rattle.etcd_types.specs.declared.operation.Op.TheVariants.{outs-Range, outs-Put, outs-Delete, outs-Txn'}
use Rattle.etcd_types.specs.declared.operation.Op.TheOpen as layer
use Rattle.etcd_types.specs.declared.request.WatchAsk.{WatchAsk}
use Rattle.etcd_types.specs.declared.request.Request.{Request}
use Rattle.etcd_types.specs.declared.request.Request.TheVariants as asks
use Rattle.message_text.specs.Requests.{is_unsorted, plain, range, least_last, sort, put, delete, operand, compare, txn, DataAsk, data_ask, range_ask, layer_from, op_form, request_txn, watch, other_ask, from_txn, request}
use Rattle.text_laws.specs.Values.Fits.{AllOf, Bytes, Number, Few, RangeFits, SortFits, RangeAskFits, PutFits, DeleteFits, OperandFits, CompareFits, OpFits, OpRowFits, op_row_length, TxnFits, WatchFits, RequestFits}
use Rattle.text_laws.proofs.Values.Alls.{is_number, number_is, bytes_are, all_tests, tests_all}
use Rattle.text_laws.proofs.Values.AnswerTexts.{bytes_fit}

abbrev Yes : Bool → Type 0
Yes b = b ≡ true

pub bytes_of : (bs : List ℕ) → bytes.fits bs ≡ true → Bytes bs
unfolding bytes
bytes_of bs e = bytes_are bs e

within_to : (high n : ℕ) → n ≤ high → Yes (is_within 0 high n)
within_to high n h = and_both (nat_le 0 n) (nat_le n high) (le-leb 0 n (omega arith)) (le-leb n high h)

within_from : (low high n : ℕ) → Yes (is_within low high n) → n ≤ high
within_from low high n e = leb-true n high (and_second (nat_le low n) (nat_le n high) e)

-- ---- ranges

unsorted_sort : (s : Sort) → is_unsorted s ≡ true → SortFits s
unsorted_sort s e =
    let m = and_first (s.order == 0 && s.target == 0 && s.min_mod == 0 && s.max_mod == 0 && s.min_create == 0) (s.max_create == 0) e in
    let x = and_second (s.order == 0 && s.target == 0 && s.min_mod == 0 && s.max_mod == 0 && s.min_create == 0) (s.max_create == 0) e in
    let a = and_first (s.order == 0 && s.target == 0 && s.min_mod == 0 && s.max_mod == 0) (s.min_create == 0) m in
    let w = and_second (s.order == 0 && s.target == 0 && s.min_mod == 0 && s.max_mod == 0) (s.min_create == 0) m in
    let b = and_first (s.order == 0 && s.target == 0 && s.min_mod == 0) (s.max_mod == 0) a in
    let v = and_second (s.order == 0 && s.target == 0 && s.min_mod == 0) (s.max_mod == 0) a in
    let c = and_first (s.order == 0 && s.target == 0) (s.min_mod == 0) b in
    let u = and_second (s.order == 0 && s.target == 0) (s.min_mod == 0) b in
    let o = eqb-true s.order 0 (and_first (s.order == 0) (s.target == 0) c) in
    let t = eqb-true s.target 0 (and_second (s.order == 0) (s.target == 0) c) in
    record {
      order = omega (arith, o);
      target = omega (arith, t);
      min_mod = is_zero s.min_mod u;
      max_mod = is_zero s.max_mod v;
      min_create = is_zero s.min_create w;
      max_create = is_zero s.max_create x;
    }
  where
    is_zero : (n : ℕ) → n == 0 ≡ true → Number n
    is_zero n e = let z = eqb-true n 0 e in omega (arith, z)

plain_to : (r : RangeAsk) → RangeAskFits r → Yes (range.fits (plain r))
unfolding range
plain_to r f =
    and_both (bytes.fits r.range.key) _ (bytes_fit r.range.key f.range.0)
    (and_both (bytes.fits r.range.end) _ (bytes_fit r.range.end f.range.1)
    (and_both (is_within 0 max_number r.revision) _ (is_number r.revision f.revision)
    (and_both (is_within 0 max_number r.limit) true (is_number r.limit f.limit) refl)))

record PlainFits (r : RangeAsk) : Type 0 where
  range : RangeFits r.range
  revision : Number r.revision
  limit : Number r.limit

plain_from : (r : RangeAsk) → Yes (range.fits (plain r)) → PlainFits r
unfolding range
plain_from r e =
    let a = and_second (bytes.fits r.range.key) _ e in
    let b = and_second (bytes.fits r.range.end) _ a in
    let c = and_second (is_within 0 max_number r.revision) _ b in
    record {
      range = (bytes_of r.range.key (and_first (bytes.fits r.range.key) _ e), bytes_of r.range.end (and_first (bytes.fits r.range.end) _ a));
      revision = number_is r.revision (and_first (is_within 0 max_number r.revision) _ b);
      limit = number_is r.limit (and_first (is_within 0 max_number r.limit) true c);
    }

-- where one of the fields isn't 0, the last is at least what it must be
last_is_enough : (s : Sort) → is_unsorted s ≡ false → Yes (nat_le (least_last (s.order, (s.target, (s.min_mod, (s.max_mod, s.min_create))))) s.max_create)
last_is_enough s n = by_front (s.order == 0 && s.target == 0 && s.min_mod == 0 && s.max_mod == 0 && s.min_create == 0) n
  where
    by_last : (x : Bool) → s.max_create == 0 ≡ x → x ≡ false → Yes (nat_le 1 s.max_create)
    by_last true e n = absurd (cc)
    by_last false e n = le-leb 1 s.max_create (grind (arith, e))

    by_front : (b : Bool) → b && s.max_create == 0 ≡ false → Yes (nat_le (cond b 1 0) s.max_create)
    by_front true n = by_last (s.max_create == 0) refl n
    by_front false n = le-leb 0 s.max_create (omega arith)

sort_to : (s : Sort) → SortFits s → is_unsorted s ≡ false → Yes (sort.fits s)
unfolding sort
sort_to s f n =
    let least = least_last (s.order, (s.target, (s.min_mod, (s.max_mod, s.min_create)))) in
    and_both (is_within 0 2 s.order && (is_within 0 4 s.target && (is_within 0 max_number s.min_mod && (is_within 0 max_number s.max_mod && is_within 0 max_number s.min_create)))) (is_within least max_number s.max_create)
    (and_both (is_within 0 2 s.order) _ (within_to 2 s.order f.order)
    (and_both (is_within 0 4 s.target) _ (within_to 4 s.target f.target)
    (and_both (is_within 0 max_number s.min_mod) _ (is_number s.min_mod f.min_mod)
    (and_both (is_within 0 max_number s.max_mod) (is_within 0 max_number s.min_create) (is_number s.max_mod f.max_mod) (is_number s.min_create f.min_create)))))
    (and_both (nat_le least s.max_create) (nat_le s.max_create max_number) (last_is_enough s n) (le-leb s.max_create max_number f.max_create))

sort_from : (s : Sort) → Yes (sort.fits s) → SortFits s
unfolding sort
sort_from s e =
    let least = least_last (s.order, (s.target, (s.min_mod, (s.max_mod, s.min_create)))) in
    let front = is_within 0 2 s.order && (is_within 0 4 s.target && (is_within 0 max_number s.min_mod && (is_within 0 max_number s.max_mod && is_within 0 max_number s.min_create))) in
    let a = and_first front (is_within least max_number s.max_create) e in
    let b = and_second (is_within 0 2 s.order) _ a in
    let c = and_second (is_within 0 4 s.target) _ b in
    let d = and_second (is_within 0 max_number s.min_mod) _ c in
    record {
      order = within_from 0 2 s.order (and_first (is_within 0 2 s.order) _ a);
      target = within_from 0 4 s.target (and_first (is_within 0 4 s.target) _ b);
      min_mod = number_is s.min_mod (and_first (is_within 0 max_number s.min_mod) _ c);
      max_mod = number_is s.max_mod (and_first (is_within 0 max_number s.max_mod) (is_within 0 max_number s.min_create) d);
      min_create = number_is s.min_create (and_second (is_within 0 max_number s.max_mod) (is_within 0 max_number s.min_create) d);
      max_create = within_from least max_number s.max_create (and_second front (is_within least max_number s.max_create) e);
    }

-- a range, with a sort or without one

abbrev inl_ask : {T : Type 0} → RangeAsk → DataAsk T
inl_ask r = inl (plain r)

abbrev inr_ask : {T : Type 0} → RangeAsk → DataAsk T
inr_ask r = inr (inl (plain r, r.sort))

abbrev FitsBy : {T : Type 0} → Form T → RangeAsk → Bool → Type 0
FitsBy more r b = Yes ((data_ask more).fits (cond b (inl_ask r) (inr_ask r)))

range_to : {T : Type 0} (more : Form T) (r : RangeAsk) → RangeAskFits r → Yes ((data_ask more).fits (range_ask r))
range_to {T} more r f = by_sort (is_unsorted r.sort) refl
  where
    by_sort : (b : Bool) → is_unsorted r.sort ≡ b → Yes ((data_ask more).fits (range_ask r))
    by_sort true e = subst (λ (b : Bool). FitsBy more r b) (sym e) (plain_to r f)
    by_sort false e = subst (λ (b : Bool). FitsBy more r b) (sym e) (and_both (range.fits (plain r)) (sort.fits r.sort) (plain_to r f) (sort_to r.sort f.sort e))

range_from : {T : Type 0} (more : Form T) (r : RangeAsk) → Yes ((data_ask more).fits (range_ask r)) → RangeAskFits r
range_from {T} more r h = by_sort (is_unsorted r.sort) refl
  where
    by_sort : (b : Bool) → is_unsorted r.sort ≡ b → RangeAskFits r
    by_sort true e =
        let p = plain_from r (subst (λ (b : Bool). FitsBy more r b) e h) in
        record { range = p.range; revision = p.revision; limit = p.limit; sort = unsorted_sort r.sort e }
    by_sort false e =
        let k = subst (λ (b : Bool). FitsBy more r b) e h in
        let p = plain_from r (and_first (range.fits (plain r)) (sort.fits r.sort) k) in
        record { range = p.range; revision = p.revision; limit = p.limit; sort = sort_from r.sort (and_second (range.fits (plain r)) (sort.fits r.sort) k) }

-- ---- puts, deletes and watches

put_to : (p : PutAsk) → PutFits p → Yes (put.fits p)
unfolding put
put_to p f =
    and_both (bytes.fits p.key) _ (bytes_fit p.key f.key)
    (and_both (bytes.fits p.value) _ (bytes_fit p.value f.value) (and_both (is_within 0 max_number p.lease) true (is_number p.lease f.lease) refl))

put_from : (p : PutAsk) → Yes (put.fits p) → PutFits p
unfolding put
put_from p e =
    let a = and_second (bytes.fits p.key) _ e in
    let b = and_second (bytes.fits p.value) _ a in
    record { key = bytes_of p.key (and_first (bytes.fits p.key) _ e); value = bytes_of p.value (and_first (bytes.fits p.value) _ a); lease = number_is p.lease (and_first (is_within 0 max_number p.lease) true b) }

delete_to : (d : DeleteAsk) → DeleteFits d → Yes (delete.fits d)
unfolding delete
delete_to d f = and_both (bytes.fits d.range.key) _ (bytes_fit d.range.key f.0) (and_both (bytes.fits d.range.end) true (bytes_fit d.range.end f.1) refl)

delete_from : (d : DeleteAsk) → Yes (delete.fits d) → DeleteFits d
unfolding delete
delete_from d e =
    let a = and_second (bytes.fits d.range.key) _ e in
    (bytes_of d.range.key (and_first (bytes.fits d.range.key) _ e), bytes_of d.range.end (and_first (bytes.fits d.range.end) true a))

watch_to : (a : WatchAsk) → WatchFits a → Yes (watch.fits a)
unfolding watch
watch_to a f =
    and_both (bytes.fits a.range.key) _ (bytes_fit a.range.key f.0.0)
    (and_both (bytes.fits a.range.end) _ (bytes_fit a.range.end f.0.1) (and_both (is_within 0 max_number a.start) true (is_number a.start f.1) refl))

watch_from : (a : WatchAsk) → Yes (watch.fits a) → WatchFits a
unfolding watch
watch_from a e =
    let b = and_second (bytes.fits a.range.key) _ e in
    let c = and_second (bytes.fits a.range.end) _ b in
    ((bytes_of a.range.key (and_first (bytes.fits a.range.key) _ e), bytes_of a.range.end (and_first (bytes.fits a.range.end) _ b)), number_is a.start (and_first (is_within 0 max_number a.start) true c))

-- ---- compares

operand_to : (t : Target) (n : ℕ) (v : List ℕ) → OperandFits t n v → Yes ((operand t).fits (n, v))
operand_to Version n v f = and_both (is_empty v) (is_within 0 max_number n) f.1 (is_number n f.0)
operand_to Create n v f = and_both (is_empty v) (is_within 0 max_number n) f.1 (is_number n f.0)
operand_to Modified n v f = and_both (is_empty v) (is_within 0 max_number n) f.1 (is_number n f.0)
operand_to Value n v f = and_both (n == 0) (bytes.fits v) f.0 (bytes_fit v f.1)
operand_to Lease n v f = and_both (is_empty v) (is_within 0 max_number n) f.1 (is_number n f.0)

operand_from : (t : Target) (n : ℕ) (v : List ℕ) → Yes ((operand t).fits (n, v)) → OperandFits t n v
operand_from Version n v e = (number_is n (and_second (is_empty v) (is_within 0 max_number n) e), and_first (is_empty v) (is_within 0 max_number n) e)
operand_from Create n v e = (number_is n (and_second (is_empty v) (is_within 0 max_number n) e), and_first (is_empty v) (is_within 0 max_number n) e)
operand_from Modified n v e = (number_is n (and_second (is_empty v) (is_within 0 max_number n) e), and_first (is_empty v) (is_within 0 max_number n) e)
operand_from Value n v e = (and_first (n == 0) (bytes.fits v) e, bytes_of v (and_second (n == 0) (bytes.fits v) e))
operand_from Lease n v e = (number_is n (and_second (is_empty v) (is_within 0 max_number n) e), and_first (is_empty v) (is_within 0 max_number n) e)

compare_to : (c : Compare) → CompareFits c → Yes (compare.fits c)
unfolding compare
compare_to c f =
    and_both (bytes.fits c.range.key) _ (bytes_fit c.range.key f.0.0)
    (and_both (bytes.fits c.range.end) ((operand c.target).fits (c.number, c.value)) (bytes_fit c.range.end f.0.1) (operand_to c.target c.number c.value f.1))

compare_from : (c : Compare) → Yes (compare.fits c) → CompareFits c
unfolding compare
compare_from c e =
    let a = and_second (bytes.fits c.range.key) _ e in (
      (bytes_of c.range.key (and_first (bytes.fits c.range.key) _ e), bytes_of c.range.end (and_first (bytes.fits c.range.end) ((operand c.target).fits (c.number, c.value)) a)),
      operand_from c.target c.number c.value (and_second (bytes.fits c.range.end) ((operand c.target).fits (c.number, c.value)) a),
    )

list_to : {A : Type 0} (P : A → Type 0) (f : Form A) → ((x : A) → P x → Yes (f.fits x)) → (xs : List A) → AllOf P xs → Few xs → Yes ((listed number f).fits xs)
list_to P f g xs h few = and_both (is_within 0 max_number (length xs)) (list_all f.fits xs) (is_number (length xs) few) (all_tests P f.fits g xs h)

list_from : {A : Type 0} (P : A → Type 0) (f : Form A) → ((x : A) → Yes (f.fits x) → P x) → (xs : List A) → Yes ((listed number f).fits xs) → AllOf P xs × Few xs
list_from P f g xs e =
    (tests_all P f.fits g xs (and_second (is_within 0 max_number (length xs)) (list_all f.fits xs) e), number_is (length xs) (and_first (is_within 0 max_number (length xs)) (list_all f.fits xs) e))

-- ---- operations

pub op_counts : {m : _} (ops : Row_of-Op m) → op_row_length ops ≡ length (items-the_row-Op m ops)
op_counts end_of-Op = refl
op_counts (more_of-Op one rest) = ap suc (op_counts rest)

row_list : {m : _} (ops : Row_of-Op m) (f : Form Op) → Number (op_row_length ops) → Yes (list_all f.fits (items-the_row-Op m ops)) → Yes ((listed number f).fits (items-the_row-Op m ops))
row_list {m} ops f few h =
    and_both (is_within 0 max_number (length (items-the_row-Op m ops))) (list_all f.fits (items-the_row-Op m ops)) (is_number _ (subst Number (op_counts ops) few)) h

abbrev layer_fits : Bool → Form Op → layer.Op-F Op TxnAsk → Bool
layer_fits nests inner y = (data_ask (allowed nests (after (codes "txn") (txn inner)))).fits (layer_from y)

-- an operation fits as its layer does
by_layer : (nests : Bool) (inner : Form Op) (o : Op) (y : layer.Op-F Op TxnAsk) → out-Op o ≡ y → Yes (layer_fits nests inner y) → Yes (layer_fits nests inner (out-Op o))
by_layer nests inner o y e h = subst (λ (z : layer.Op-F Op TxnAsk). Yes (layer_fits nests inner z)) (sym e) h

as_layer : (nests : Bool) (inner : Form Op) (o : Op) (y : layer.Op-F Op TxnAsk) → out-Op o ≡ y → Yes (layer_fits nests inner (out-Op o)) → Yes (layer_fits nests inner y)
as_layer nests inner o y e h = subst (λ (z : layer.Op-F Op TxnAsk). Yes (layer_fits nests inner z)) e h

abbrev rows_ask : {m : _} {k : _} → List Compare → Row_of-Op m → Row_of-Op k → TxnAsk
rows_ask {m} {k} compares first second = record { compare = compares; success = items-the_row-Op m first; failure = items-the_row-Op k second }

out_txn : (compares : List Compare) (m : _) (first : _) (k : _) (second : _) → out-Op (op.Txn' compares m first k second) ≡ layer.Txn (rows_ask compares first second)
out_txn compares m first k second =
    outs-Txn' compares m first k second
    ∙ (λ i. layer.Txn (record { compare = compares; success = items_shown-the_row-Op-0 m first i; failure = items_shown-the_row-Op-0 k second i }))

tail : Bool → Form Op → Form TxnAsk
tail nests inner = allowed nests (after (codes "txn") (txn inner))

mutual
  unfolding op_form tail

  pub op_to : (deep : ℕ) (o : Op) → OpFits deep o → Yes ((op_form deep).fits o)
  op_to zero (op.Range ask) f = by_layer false never (op.Range ask) (layer.Range ask) (outs-Range ask) (range_to (tail false never) ask f)
  op_to (suc n) (op.Range ask) f = by_layer true (op_form n) (op.Range ask) (layer.Range ask) (outs-Range ask) (range_to (tail true (op_form n)) ask f)
  op_to zero (op.Put ask) f = by_layer false never (op.Put ask) (layer.Put ask) (outs-Put ask) (put_to ask f)
  op_to (suc n) (op.Put ask) f = by_layer true (op_form n) (op.Put ask) (layer.Put ask) (outs-Put ask) (put_to ask f)
  op_to zero (op.Delete ask) f = by_layer false never (op.Delete ask) (layer.Delete ask) (outs-Delete ask) (delete_to ask f)
  op_to (suc n) (op.Delete ask) f = by_layer true (op_form n) (op.Delete ask) (layer.Delete ask) (outs-Delete ask) (delete_to ask f)
  op_to zero (op.Txn' compares m first k second) f = absurd f.1
  op_to (suc n) (op.Txn' compares m first k second) f =
      by_layer true (op_form n) (op.Txn' compares m first k second) (layer.Txn (rows_ask compares first second)) (out_txn compares m first k second)
      (and_both ((listed number compare).fits compares) _ (list_to CompareFits compare compare_to compares f.0.0 f.0.1)
      (and_both ((listed number (op_form n)).fits (items-the_row-Op _ first)) ((listed number (op_form n)).fits (items-the_row-Op _ second))
      (row_list first (op_form n) f.2 (op_row_to n first f.1.0)) (row_list second (op_form n) f.3 (op_row_to n second f.1.1))))

  op_row_to : {m : _} (deep : ℕ) (ops : Row_of-Op m) → OpRowFits deep ops → Yes (list_all (op_form deep).fits (items-the_row-Op m ops))
  op_row_to deep end_of-Op f = refl
  op_row_to deep (more_of-Op one rest) f =
      and_both ((op_form deep).fits one) (list_all (op_form deep).fits (items-the_row-Op _ rest)) (op_to deep one f.0) (op_row_to deep rest f.1)

mutual
  unfolding op_form tail

  pub op_from : (deep : ℕ) (o : Op) → Yes ((op_form deep).fits o) → OpFits deep o
  op_from zero (op.Range ask) e = range_from (tail false never) ask (as_layer false never (op.Range ask) (layer.Range ask) (outs-Range ask) e)
  op_from (suc n) (op.Range ask) e = range_from (tail true (op_form n)) ask (as_layer true (op_form n) (op.Range ask) (layer.Range ask) (outs-Range ask) e)
  op_from zero (op.Put ask) e = put_from ask (as_layer false never (op.Put ask) (layer.Put ask) (outs-Put ask) e)
  op_from (suc n) (op.Put ask) e = put_from ask (as_layer true (op_form n) (op.Put ask) (layer.Put ask) (outs-Put ask) e)
  op_from zero (op.Delete ask) e = delete_from ask (as_layer false never (op.Delete ask) (layer.Delete ask) (outs-Delete ask) e)
  op_from (suc n) (op.Delete ask) e = delete_from ask (as_layer true (op_form n) (op.Delete ask) (layer.Delete ask) (outs-Delete ask) e)
  op_from zero (op.Txn' compares m first k second) e =
      let none : false ≡ true = as_layer false never (op.Txn' compares m first k second) (layer.Txn (rows_ask compares first second)) (out_txn compares m first k second) e in absurd (cc)
  op_from (suc n) (op.Txn' compares m first k second) e =
      let h = as_layer true (op_form n) (op.Txn' compares m first k second) (layer.Txn (rows_ask compares first second)) (out_txn compares m first k second) e in
      let cs = (listed number compare).fits compares in
      let fs = (listed number (op_form n)).fits (items-the_row-Op _ first) in
      let ss = (listed number (op_form n)).fits (items-the_row-Op _ second) in
      let r = and_second cs (fs && ss) h in
      let a = and_first fs ss r in
      let b = and_second fs ss r in (
        list_from CompareFits compare compare_from compares (and_first cs (fs && ss) h),
        (
          op_row_from n first (and_second (is_within 0 max_number (length (items-the_row-Op _ first))) (list_all (op_form n).fits (items-the_row-Op _ first)) a),
          op_row_from n second (and_second (is_within 0 max_number (length (items-the_row-Op _ second))) (list_all (op_form n).fits (items-the_row-Op _ second)) b),
        ),
        subst Number (sym (op_counts first)) (number_is _ (and_first (is_within 0 max_number (length (items-the_row-Op _ first))) (list_all (op_form n).fits (items-the_row-Op _ first)) a)),
        subst Number (sym (op_counts second)) (number_is _ (and_first (is_within 0 max_number (length (items-the_row-Op _ second))) (list_all (op_form n).fits (items-the_row-Op _ second)) b)),
      )

  op_row_from : {m : _} (deep : ℕ) (ops : Row_of-Op m) → Yes (list_all (op_form deep).fits (items-the_row-Op m ops)) → OpRowFits deep ops
  op_row_from deep end_of-Op e = tt
  op_row_from deep (more_of-Op one rest) e = (
    op_from deep one (and_first ((op_form deep).fits one) (list_all (op_form deep).fits (items-the_row-Op _ rest)) e),
    op_row_from deep rest (and_second ((op_form deep).fits one) (list_all (op_form deep).fits (items-the_row-Op _ rest)) e),
  )

-- ---- requests

txn_to : (t : TxnAsk) → TxnFits 127 t → Yes (request_txn.fits t)
unfolding request_txn
txn_to t f =
    and_both ((listed number compare).fits t.compare) _ (list_to CompareFits compare compare_to t.compare f.compare.0 f.compare.1)
    (and_both ((listed number (op_form 127)).fits t.success) ((listed number (op_form 127)).fits t.failure)
    (list_to (OpFits 127) (op_form 127) (op_to 127) t.success f.success.0 f.success.1) (list_to (OpFits 127) (op_form 127) (op_to 127) t.failure f.failure.0 f.failure.1))

txn_from : (t : TxnAsk) → Yes (request_txn.fits t) → TxnFits 127 t
unfolding request_txn
txn_from t e =
    let cs = (listed number compare).fits t.compare in
    let fs = (listed number (op_form 127)).fits t.success in
    let ss = (listed number (op_form 127)).fits t.failure in
    let r = and_second cs (fs && ss) e in
    record {
      compare = list_from CompareFits compare compare_from t.compare (and_first cs (fs && ss) e);
      success = list_from (OpFits 127) (op_form 127) (op_from 127) t.success (and_first fs ss r);
      failure = list_from (OpFits 127) (op_form 127) (op_from 127) t.failure (and_second fs ss r);
    }

pub request_to : (q : Request) → RequestFits 127 q → request.fits q ≡ true
unfolding request other_ask
request_to (asks.Range ask) f = range_to from_txn ask f
request_to (asks.Put ask) f = put_to ask f
request_to (asks.Delete ask) f = delete_to ask f
request_to (asks.Txn t) f = txn_to t f
request_to (asks.Compact revision physical) f = and_both (is_within 0 max_number revision) true (is_number revision f) refl
request_to (asks.Grant ttl lease) f = and_both (is_within 0 max_number ttl) (is_within 0 max_number lease) (is_number ttl f.0) (is_number lease f.1)
request_to (asks.Revoke lease) f = is_number lease f
request_to (asks.KeepAlive lease) f = is_number lease f
request_to (asks.TimeToLive lease keys) f = and_both (is_within 0 max_number lease) true (is_number lease f) refl
request_to asks.Leases f = refl
request_to (asks.Watch a) f = watch_to a f

pub request_from : (q : Request) → request.fits q ≡ true → RequestFits 127 q
unfolding request other_ask
request_from (asks.Range ask) e = range_from from_txn ask e
request_from (asks.Put ask) e = put_from ask e
request_from (asks.Delete ask) e = delete_from ask e
request_from (asks.Txn t) e = txn_from t e
request_from (asks.Compact revision physical) e = number_is revision (and_first (is_within 0 max_number revision) true e)
request_from (asks.Grant ttl lease) e =
    (number_is ttl (and_first (is_within 0 max_number ttl) (is_within 0 max_number lease) e), number_is lease (and_second (is_within 0 max_number ttl) (is_within 0 max_number lease) e))
request_from (asks.Revoke lease) e = number_is lease e
request_from (asks.KeepAlive lease) e = number_is lease e
request_from (asks.TimeToLive lease keys) e = number_is lease (and_first (is_within 0 max_number lease) true e)
request_from asks.Leases e = tt
request_from (asks.Watch a) e = watch_from a e
