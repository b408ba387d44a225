-- What operations make and answer fits, where they do and the history has room for what they made.
use Rattle.std.proofs.Common.{◌≡◌, ℕ, zero, suc, ◌+◌, ◌-◌, ◌≤◌, ◌^◌, ◌==◌, ◌&&◌, ◌||◌, not, Bool, true, false, cond, List, [], ◌∷◌, ◌++◌, length, map, take, Option, None, Some, Result, Ok, Err, refl, sym, ap, subst, arith, length-append}
use Rattle.std.specs.Prelude.{nat_lt}
use Rattle.std.proofs.lemmas.Bool.{ltb-false, ltb-true}
use Rattle.text_model.specs.Words.{max_number}
use Rattle.etcd_types.proofs.Bools.{or_first, or_second}
use Rattle.etcd_types.specs.declared.answer.Body.{Body, Row_of-Body, end_of-Body, more_of-Body, items-the_row-Body}
use Rattle.etcd_types.specs.declared.answer.Body.TheBlock.{hidden-the_row-Body-0, items_hidden-the_row-Body-0}
use Rattle.etcd_types.specs.declared.answer.Body.TheVariants as body
use Rattle.etcd_types.specs.declared.answer.Refusal.{Refusal}
use Rattle.etcd_types.specs.declared.operation.PutAsk.{PutAsk}
use Rattle.etcd_types.specs.declared.operation.DeleteAsk.{DeleteAsk}
use Rattle.etcd_types.specs.declared.operation.RangeAsk.{RangeAsk}
use Rattle.etcd_types.specs.declared.operation.Op.{Op, Row_of-Op, end_of-Op, more_of-Op}
use Rattle.etcd_types.specs.declared.operation.Op.TheVariants.{Range, Put, Delete, Txn'}
use Rattle.etcd_types.specs.declared.record.Kv.{Kv}
use Rattle.store_model.specs.declared.history.KeyChange.{KeyChange}
use Rattle.store_model.specs.declared.history.KeyChange.TheVariants as change
use Rattle.store_model.specs.History.{History, newest, up_to_revision}
use Rattle.store_model.specs.Records.{record_now}
use Rattle.store_model.specs.Ranges.{records_now}
use Rattle.store_model.specs.Refusals.{key_not_found, lease_not_found, compacted_revision, future_revision, unsupported}
use Rattle.store_model.specs.Reads.{is_unsupported, without_value, limited, shown, range_body, asked_history, read}
use Rattle.store_model.specs.State.{State}
use Rattle.store_model.specs.Compares.{all_hold}
use Rattle.store_model.specs.FirstRefusals.{row_items, longest, exceeds, exceeds_row}
use Rattle.store_model.specs.Transactions.{Ran, RanAll, seen, unchanged, has_lease, put_on, run_put, deletion, run_delete, answered, with_body, first_then, run, run_row}
use Rattle.text_laws.specs.Values.Fits.{AllOf, Bytes, Number, KvFits, KvsFit, PrevFits, BodyFits, RowFits, RefusalFits, PutFits, OpFits, OpRowFits, op_row_length}
use Rattle.text_laws.proofs.Values.Alls.{either, all_append, all_push, all_map, all_take, most_map, most_take, bytes_are}
use Rattle.text_laws.proofs.Values.AnswerTexts.{row_counts}
use Rattle.text_laws.proofs.Values.RequestTexts.{op_counts}
use Rattle.text_laws.specs.Stores.Stores.{changes, KeyChangeFits, AreFit}
use Rattle.text_laws.proofs.Stores.Histories.{HistoryFits, KvIf, record_fits, records_fit, history_was, history_with}

-- ---- refusals

pub refusal : (r : Refusal) → nat_lt r.code (2 ^ 32) ≡ true → Bytes r.text → RefusalFits r
refusal r c t = (ltb-true r.code (2 ^ 32) c, t)

pub compacted_fits : RefusalFits compacted_revision
compacted_fits = refusal compacted_revision refl (bytes_are compacted_revision.text refl)

pub future_fits : RefusalFits future_revision
future_fits = refusal future_revision refl (bytes_are future_revision.text refl)

pub unsupported_fits : RefusalFits unsupported
unsupported_fits = refusal unsupported refl (bytes_are unsupported.text refl)

no_key_fits : RefusalFits key_not_found
no_key_fits = refusal key_not_found refl (bytes_are key_not_found.text refl)

pub no_lease_fits : RefusalFits lease_not_found
no_lease_fits = refusal lease_not_found refl (bytes_are lease_not_found.text refl)

-- ---- reads

abbrev pub ReadFits : ℕ → ℕ → Result Body Refusal → Type 0
ReadFits most deep (Ok b) = BodyFits most deep b
ReadFits most deep (Err r) = RefusalFits r

abbrev pub AskedSo : ℕ → ℕ → RangeAsk → List Kv → Type 0
AskedSo most deep ask kvs = BodyFits most deep (range_body ask kvs)

without_fits : (most : ℕ) (kv : Kv) → KvFits most kv → KvFits most (without_value kv)
without_fits most kv h = record { key = h.key; value = tt; create = h.create; modified = h.modified; version = h.version; lease = h.lease }

limited_fit : (most limit : ℕ) (kvs : List Kv) → KvsFit most kvs → KvsFit most (limited limit kvs)
limited_fit most limit kvs h =
    either (KvsFit most) (limit == 0) kvs (take limit kvs) h (record { all = all_take (KvFits most) limit kvs h.all; few = most_take most limit kvs h.few })

shown_fit : (most : ℕ) (ask : RangeAsk) (kvs : List Kv) → KvsFit most kvs → KvsFit most (shown ask kvs)
shown_fit most ask kvs h =
    let l = limited_fit most ask.limit kvs h in
    either (KvsFit most) ask.keys_only (map without_value (limited ask.limit kvs)) (limited ask.limit kvs)
    (record { all = all_map (KvFits most) (KvFits most) without_value (without_fits most) (limited ask.limit kvs) l.all; few = most_map most without_value (limited ask.limit kvs) l.few }) l

no_records : (most : ℕ) → KvsFit most []
no_records most = record { all = tt; few = omega arith }

body_fits : (most deep : ℕ) (ask : RangeAsk) (kvs : List Kv) → most ≤ max_number → KvsFit most kvs → BodyFits most deep (range_body ask kvs)
body_fits most deep ask kvs m h =
    let few = h.few in
    let count : Number (length kvs) = omega (arith, few, m) in
    either (BodyFits most deep) ask.count_only (body.Range (length kvs) false []) (body.Range (length kvs) _ (shown ask kvs)) (count, no_records most) (count, shown_fit most ask kvs h)

asked_fits : (most : ℕ) (h : History) (revision : ℕ) → HistoryFits most h → HistoryFits most (asked_history h revision)
asked_fits most h revision f = either (HistoryFits most) (revision == 0) h (up_to_revision h revision) f (history_was most (revision - 1) h f)

pub read_fits : (most deep : ℕ) (h : History) (latest compacted : ℕ) (ask : RangeAsk) → most ≤ max_number → HistoryFits most h → ReadFits most deep (read h latest compacted ask)
read_fits most deep h latest compacted ask m f =
    either (ReadFits most deep) (nat_lt latest ask.revision) _ _ future_fits
    (either (ReadFits most deep) (not (ask.revision == 0) && nat_lt ask.revision compacted) _ _ compacted_fits
    (either (ReadFits most deep) (is_unsupported ask.sort) _ _ unsupported_fits
    (body_fits most deep ask (records_now (asked_history h ask.revision) ask.range) m (records_fit most (asked_history h ask.revision) ask.range m (asked_fits most h ask.revision f)))))

-- ---- operations

-- the history has room for what was made
pub record Room (most : ℕ) (s : State) (made : List KeyChange) : Type 0 where
  pub revisions : length s.history + 2 ≤ most
  pub changes : changes s.history + length made ≤ most

fewer : (most : ℕ) (s : State) (made next : List KeyChange) → length made ≤ length next → Room most s next → Room most s made
fewer most s made next l r = let c = r.changes in record { revisions = r.revisions; changes = omega (arith, c, l) }

-- an operation ran: changes were added, and where there is room for them they fit, and so does its body
pub record Made (most deep : ℕ) (s : State) (made next : List KeyChange) (b : Body) : Type 0 where
  pub grows : length made ≤ length next
  pub fits : Room most s next → AreFit made → AreFit next × BodyFits most deep b

pub record MadeAll (most deep count : ℕ) (s : State) (made next : List KeyChange) (bs : List Body) : Type 0 where
  pub grows : length made ≤ length next
  pub counts : length bs ≡ count
  pub fits : Room most s next → AreFit made → AreFit next × AllOf (BodyFits most deep) bs

abbrev pub RanFits : ℕ → ℕ → State → List KeyChange → Ran → Type 0
RanFits most deep s made (Ok ran) = Made most deep s made ran.0 ran.1
RanFits most deep s made (Err r) = RefusalFits r

abbrev pub RanAllFits : ℕ → ℕ → ℕ → State → List KeyChange → RanAll → Type 0
RanAllFits most deep count s made (Ok ran) = MadeAll most deep count s made ran.0 ran.1
RanAllFits most deep count s made (Err r) = RefusalFits r

-- what the store's parts hold of one that runs
pub record Ready (most : ℕ) (s : State) : Type 0 where
  pub small : most ≤ max_number
  pub changes : AllOf AreFit s.history

seen_fits : (most : ℕ) (s : State) (made : List KeyChange) → Ready most s → Room most s made → AreFit made → HistoryFits most (seen s made)
seen_fits most s made y r f = history_with most s.history made y.changes f r.revisions r.changes

unchanged_fits : (most deep : ℕ) (s : State) (made : List KeyChange) (ask : RangeAsk) (r : Result Body Refusal) → read (seen s made) (newest (seen s made)) s.compacted ask ≡ r → Ready most s → RanFits most deep s made (unchanged made r)
unchanged_fits most deep s made ask (Ok b) e y = record {
  grows = omega arith;
  fits = λ r f. (f, subst (ReadFits most deep) e (read_fits most deep (seen s made) (newest (seen s made)) s.compacted ask y.small (seen_fits most s made y r f)));
}
unchanged_fits most deep s made ask (Err x) e y = refused (nat_lt (newest (seen s made)) ask.revision) (not (ask.revision == 0) && nat_lt ask.revision s.compacted) (is_unsupported ask.sort) e
  where
    refused : (a b c : Bool) → ◌≡◌ {A = Result Body Refusal} (cond a (Err future_revision) (cond b (Err compacted_revision) (cond c (Err unsupported) (Ok (range_body ask (records_now (asked_history (seen s made) ask.revision) ask.range)))))) (Err x) → RefusalFits x
    refused true b c e = subst RefusalFits (same future_revision x e) future_fits
      where
        same : (x y : Refusal) → ◌≡◌ {A = Result Body Refusal} (Err x) (Err y) → x ≡ y
        same x y e = cc
    refused false true c e = subst RefusalFits (same compacted_revision x e) compacted_fits
      where
        same : (x y : Refusal) → ◌≡◌ {A = Result Body Refusal} (Err x) (Err y) → x ≡ y
        same x y e = cc
    refused false false true e = subst RefusalFits (same unsupported x e) unsupported_fits
      where
        same : (x y : Refusal) → ◌≡◌ {A = Result Body Refusal} (Err x) (Err y) → x ≡ y
        same x y e = cc
    refused false false false e = absurd (cc)

one_more : (made : List KeyChange) (c : KeyChange) → length made ≤ length (made ++ c ∷ [])
one_more made c = let e = length-append made (c ∷ []) in omega (arith, e)

put_on_fits : (most deep : ℕ) (s : State) (ask : PutAsk) (made : List KeyChange) (old : Option Kv) → record_now (seen s made) ask.key ≡ old → PutFits ask → Ready most s → RanFits most deep s made (put_on ask made old)
put_on_fits most deep s ask made None e p y =
    either (RanFits most deep s made) ask.ignore_lease _ (Ok (made ++ change.Put ask.key ask.value ask.lease ∷ [], body.Put None)) no_key_fits
    (record { grows = one_more made _; fits = λ r f. (all_push KeyChangeFits made (change.Put ask.key ask.value ask.lease) f (p.key, p.value, p.lease), tt) })
put_on_fits most deep s ask made (Some kv) e p y = record {
  grows = one_more made _;
  fits = λ r f.
      let k : KvFits most kv = subst (KvIf most) e (record_fits most (seen s made) ask.key (seen_fits most s made y (fewer most s made _ (one_more made _) r) f) p.key) in (
        all_push KeyChangeFits made (change.Put ask.key ask.value (cond ask.ignore_lease kv.lease ask.lease)) f (p.key, p.value, either Number ask.ignore_lease kv.lease ask.lease k.lease p.lease),
        either (PrevFits most) ask.prev_kv (Some kv) None k tt,
      );
}

put_fits : (most deep : ℕ) (s : State) (ask : PutAsk) (made : List KeyChange) → PutFits ask → Ready most s → RanFits most deep s made (run_put s ask made)
put_fits most deep s ask made p y =
    either (RanFits most deep s made) (not (ask.lease == 0) && not (has_lease s.leases ask.lease)) _ _ no_lease_fits (put_on_fits most deep s ask made (record_now (seen s made) ask.key) refl p y)

deleted_fit : (most : ℕ) (kvs : List Kv) → AllOf (KvFits most) kvs → AreFit (map deletion kvs)
deleted_fit most kvs h = all_map (KvFits most) KeyChangeFits deletion (λ kv k. k.key) kvs h

longer : (made more : List KeyChange) → length made ≤ length (made ++ more)
longer made more = let e = length-append made more in omega (arith, e)

delete_fits : (most deep : ℕ) (s : State) (ask : DeleteAsk) (made : List KeyChange) → Ready most s → RanFits most deep s made (run_delete s ask made)
delete_fits most deep s ask made y =
    let gone = records_now (seen s made) ask.range in
    record {
      grows = longer made (map deletion gone);
      fits = λ r f.
          let k = records_fit most (seen s made) ask.range y.small (seen_fits most s made y (fewer most s made _ (longer made (map deletion gone)) r) f) in
          (all_append KeyChangeFits made (map deletion gone) f (deleted_fit most gone k.all), (k.few, either (KvsFit most) ask.prev_kv gone [] k (no_records most)));
    }

-- ---- transactions

row_all : {k : _} (most deep : ℕ) (inner : Row_of-Body k) → AllOf (BodyFits most deep) (items-the_row-Body k inner) → RowFits most deep inner
row_all most deep end_of-Body h = tt
row_all most deep (more_of-Body one rest) h = (h.0, row_all most deep rest h.1)

-- a transaction's body, of bodies one less deep
pub txn_fits : (most n : ℕ) (succeeded : Bool) (bs : List Body) → length bs ≤ 128 → AllOf (BodyFits most n) bs → BodyFits most (suc n) (body.Txn succeeded bs)
txn_fits most n succeeded bs l h =
    let row = hidden-the_row-Body-0 bs in
    let same : items-the_row-Body _ row ≡ bs = items_hidden-the_row-Body-0 bs in
    (row_all most n row (subst (AllOf (BodyFits most n)) (sym same) h), subst (λ (m : ℕ). m ≤ 128) (sym (row_counts row)) (subst (λ (xs : List Body). length xs ≤ 128) (sym same) l))

answered_fits : (most n count : ℕ) (s : State) (made : List KeyChange) (b : Bool) (r : RanAll) → count ≤ 128 → RanAllFits most n count s made r → RanFits most (suc n) s made (answered b r)
answered_fits most n count s made b (Ok ran) l h = record {
  grows = h.grows;
  fits = λ r f. let k = h.fits r f in (k.0, txn_fits most n b ran.1 (subst (λ (m : ℕ). m ≤ 128) (sym h.counts) l) k.1);
}
answered_fits most n count s made b (Err x) l h = h

with_body_fits : (most deep count : ℕ) (s : State) (made mid : List KeyChange) (b : Body) (r : RanAll) → Made most deep s made mid b → RanAllFits most deep count s mid r → RanAllFits most deep (suc count) s made (with_body b r)
with_body_fits most deep count s made mid b (Ok ran) h k =
    let g = h.grows in
    let l = k.grows in
    record {
      grows = omega (arith, g, l);
      counts = ap suc k.counts;
      fits = λ r f. let a = h.fits (fewer most s mid ran.0 l r) f in let c = k.fits r a.0 in (c.0, (a.1, c.1));
    }
with_body_fits most deep count s made mid b (Err x) h k = k

then_fits : (most deep count : ℕ) (s : State) (made : List KeyChange) (r : Ran) (rest : List KeyChange → RanAll) → RanFits most deep s made r
    → ((mid : List KeyChange) → RanAllFits most deep count s mid (rest mid)) → RanAllFits most deep (suc count) s made (first_then r rest)
then_fits most deep count s made (Ok ran) rest h k = with_body_fits most deep count s made ran.0 ran.1 (rest ran.0) h (k ran.0)
then_fits most deep count s made (Err x) rest h k = h

-- the lists of a transaction that doesn't exceed the limit
row_short : {m : _} (limit : ℕ) (ops : Row_of-Op m) (most : ℕ) → limit ≤ 128 → length (row_items ops) ≤ most → nat_lt limit most ≡ false → op_row_length ops ≤ 128
row_short limit ops most l h e =
    let c = op_counts ops in
    let f = ltb-false limit most e in
    omega (arith, c, h, f, l)

mutual
  pub run_fits : (most deep limit : ℕ) (s : State) (o : Op) (made : List KeyChange) → limit ≤ 128 → exceeds limit o ≡ false → OpFits deep o → Ready most s → RanFits most deep s made (run s o made)
  run_fits most deep limit s (Range ask) made l e f y = unchanged_fits most deep s made ask (read (seen s made) (newest (seen s made)) s.compacted ask) refl y
  run_fits most deep limit s (Put ask) made l e f y = put_fits most deep s ask made f y
  run_fits most deep limit s (Delete ask) made l e f y = delete_fits most deep s ask made y
  run_fits most zero limit s (Txn' compare m success n failure) made l e f y = absurd f.1
  run_fits most (suc d) limit s (Txn' compare m success n failure) made l e f y =
      let longest_of = longest compare (row_items success) (row_items failure) in
      let a = or_first (nat_lt limit longest_of || exceeds_row (limit - longest_of) success) (exceeds_row (limit - longest_of) failure) e in
      let none = or_first (nat_lt limit longest_of) (exceeds_row (limit - longest_of) success) a in
      let less : limit - longest_of ≤ 128 = omega (arith, l) in
      either (RanFits most (suc d) s made) (all_hold (seen s made) compare) (answered true (run_row s success made)) (answered false (run_row s failure made))
      (answered_fits most d (op_row_length success) s made true (run_row s success made) (row_short limit success longest_of l (omega arith) none)
      (row_run_fits most d (limit - longest_of) s success made less (or_second (nat_lt limit longest_of) (exceeds_row (limit - longest_of) success) a) f.1.0 y))
      (answered_fits most d (op_row_length failure) s made false (run_row s failure made) (row_short limit failure longest_of l (omega arith) none)
      (row_run_fits most d (limit - longest_of) s failure made less (or_second (nat_lt limit longest_of || exceeds_row (limit - longest_of) success) (exceeds_row (limit - longest_of) failure) e) f.1.1 y))

  row_run_fits : {m : _} (most deep limit : ℕ) (s : State) (ops : Row_of-Op m) (made : List KeyChange) → limit ≤ 128 → exceeds_row limit ops ≡ false → OpRowFits deep ops → Ready most s
      → RanAllFits most deep (op_row_length ops) s made (run_row s ops made)
  row_run_fits most deep limit s end_of-Op made l e f y = record { grows = omega arith; counts = refl; fits = λ r h. (h, tt) }
  row_run_fits most deep limit s (more_of-Op op rest) made l e f y =
      then_fits most deep (op_row_length rest) s made (run s op made) (λ mid. run_row s rest mid)
      (run_fits most deep limit s op made l (or_first (exceeds limit op) (exceeds_row limit rest) e) f.0 y)
      (λ mid. row_run_fits most deep limit s rest mid l (or_second (exceeds limit op) (exceeds_row limit rest) e) f.1 y)
