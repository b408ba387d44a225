-- A write names what its ranges cover, and nothing in the leasing range.
use Rattle.std.proofs.Common.{◌≡◌, ℕ, ◌+◌, Bool, true, false, cond, not, ◌&&◌, ◌||◌, List, [], ◌∷◌, ◌++◌, map, inl, refl, sym, ◌∙◌, ap, arith}
use Rattle.std.specs.List.{list_all, list_any}
use Rattle.std.specs.Ordering.{nat_cmp, is_eq, is_lt, ordering_then}
use Rattle.std.specs.declared.cmp.Ordering.{Ordering}
use Rattle.std.specs.declared.cmp.Ordering.TheVariants.{Less, Equal, Greater}
use Rattle.std.specs.Cmp.Lexicographic.{slice_cmp}
use Rattle.std.proofs.lemmas.List.{append-nil}
use Rattle.etcd_types.specs.declared.key_range.KeyRange.{KeyRange}
use Rattle.etcd_types.specs.declared.operation.TxnAsk.{TxnAsk}
use Rattle.etcd_types.specs.declared.operation.Op.{Op, Row_of-Op, end_of-Op, more_of-Op}
use Rattle.etcd_types.specs.declared.operation.Op.TheVariants as op
use Rattle.etcd_types.specs.declared.request.Request.{Request}
use Rattle.etcd_types.specs.declared.request.Request.TheVariants as request
use Rattle.etcd_types.specs.Keys.{same, is_empty}
use Rattle.etcd_types.specs.Ranges.{is_one, contains, overlaps}
use Rattle.etcd_types.proofs.KeyOrder.{same-equal, up_to-nothing}
use Rattle.etcd_types.proofs.Overlaps.{overlap_in_a_key}
use Rattle.store_laws.specs.Requests.NamedKeys.{names, names_row}
use Rattle.proxy_model.specs.Guarded.{write_ops, read_owners, delete_part, IsWrite}
use Rattle.proxy_model.specs.Prefixes.{only, leasing_range}
use Rattle.proxy_model.specs.SeveralKeys.{range_cmp, with_range, with_written, with_written_row, parts}
use Rattle.proxy_model.proofs.KeyedLaws.{same-turned}
use Rattle.proxy_model.proofs.WrittenLaws.{with_written_is_txn}
use Rattle.proxy_laws.specs.Split.{one_if, times}
use Rattle.proxy_laws.proofs.Split.{parts_go_round}
use Rattle.cache_laws.proofs.Guards.Compares.{one_key}
use Rattle.proxy_model.proofs.PrefixEnds.{ranges_stay}
use Rattle.store_model.specs.Leaves.{all_leaves, all_leaves_row}
use Rattle.etcd_types.proofs.Bools.{and_first, and_second, and_both, or_none, or_false, and_false, not_true}
use Rattle.cache_laws.specs.Guards.Covers.{covers, puts_out, deletes_out, stays_out, any_put, deletes_one, SingleWritesAreGuards}

-- tests

twice : (a b : Bool) → a || b ≡ a || (a || b)
twice true b = refl
twice false b = refl

turned : (a b c : Bool) → a || (b || c) ≡ b || (a || c)
turned true true c = refl
turned true false c = refl
turned false b c = refl

grouped : (a b c : Bool) → a || (b || c) ≡ (b || a) || c
grouped true true c = refl
grouped true false c = refl
grouped false true c = refl
grouped false false c = refl

-- ranges in their places

then_equal : (o p : Ordering) → is_eq (ordering_then o p) ≡ true → (is_eq o ≡ true) × (is_eq p ≡ true)
then_equal Less p e = absurd (cc)
then_equal Equal p e = (refl, e)
then_equal Greater p e = absurd (cc)

same_range : (r s : KeyRange) → is_eq (range_cmp r s) ≡ true → r ≡ s
same_range r s e =
    let both = then_equal (slice_cmp nat_cmp r.key s.key) (slice_cmp nat_cmp r.end s.end) e in
    let key = same-equal r.key s.key both.0 in
    let end = same-equal r.end s.end both.1 in
    λ i. record { key = key i; end = end i }

any-with_range : (q : KeyRange → Bool) (r : KeyRange) (rs : List KeyRange) → list_any q (with_range r rs) ≡ q r || list_any q rs
any-with_range q r [] = refl
any-with_range q r (s ∷ rs) = by_tests (is_lt (range_cmp r s)) (is_eq (range_cmp r s)) refl (any-with_range q r rs)
  where
    by_tests : (a b : Bool) → is_eq (range_cmp r s) ≡ b → list_any q (with_range r rs) ≡ q r || list_any q rs
        → list_any q (cond a (r ∷ s ∷ rs) (cond b (s ∷ rs) (s ∷ with_range r rs))) ≡ q r || list_any q (s ∷ rs)
    by_tests true b e h = refl
    by_tests false true e h = twice (q s) (list_any q rs) ∙ ap (λ (x : KeyRange). q x || (q s || list_any q rs)) (sym (same_range r s e))
    by_tests false false e h = ap (λ (t : Bool). q s || t) h ∙ turned (q s) (q r) (list_any q rs)

abbrev has : List ℕ → KeyRange → Bool
has k r = contains r k

mutual
  written_has : (k : List ℕ) (o : Op) (rs : List KeyRange) → list_any (has k) (with_written o rs) ≡ names k o || list_any (has k) rs
  written_has k (op.Range ask) rs = refl
  written_has k (op.Put ask) rs =
      any-with_range (has k) (only ask.key) rs ∙ ap (λ (t : Bool). t || list_any (has k) rs) (same-turned k ask.key)
  written_has k (op.Delete ask) rs = any-with_range (has k) ask.range rs
  written_has k (op.Txn' compare m success n failure) rs =
      written_row_has k failure (with_written_row success rs) ∙ ap (λ (t : Bool). names_row k failure || t) (written_row_has k success rs)
      ∙ grouped (names_row k failure) (names_row k success) (list_any (has k) rs)

  written_row_has : {m : _} (k : List ℕ) (ops : Row_of-Op m) (rs : List KeyRange) → list_any (has k) (with_written_row ops rs) ≡ names_row k ops || list_any (has k) rs
  written_row_has k end_of-Op rs = refl
  written_row_has k (more_of-Op o rest) rs =
      written_row_has k rest (with_written o rs) ∙ ap (λ (t : Bool). names_row k rest || t) (written_has k o rs)
      ∙ grouped (names_row k rest) (names k o) (list_any (has k) rs)

-- a transaction's ranges cover exactly the keys that it names
pub covers_is_names : (k : List ℕ) (t : TxnAsk) → covers (request.Txn t) k ≡ names k (op.Txn t)
covers_is_names k t =
    ap (list_any (has k)) (sym (with_written_is_txn t [])) ∙ written_has k (op.Txn t) [] ∙ or_false (names k (op.Txn t))

-- parts of a range delete

named_parts : (k : List ℕ) (prev_kv : Bool) (rs : List KeyRange) → list_any (names k) (map (delete_part prev_kv) rs) ≡ list_any (has k) rs
named_parts k prev_kv [] = refl
named_parts k prev_kv (r ∷ rs) = ap (λ (t : Bool). contains r k || t) (named_parts k prev_kv rs)

never : (k : List ℕ) (rs : List KeyRange) → times rs k ≡ 0 → list_any (has k) rs ≡ false
never k [] e = refl
never k (r ∷ rs) e = by_test (contains r k) refl e (λ f. never k rs f)
  where
    by_test : (t : Bool) → contains r k ≡ t → one_if t + times rs k ≡ 0 → (times rs k ≡ 0 → list_any (has k) rs ≡ false) → t || list_any (has k) rs ≡ false
    by_test true e f g = absurd (omega arith)
    by_test false e f g = g (omega arith)

parts_of_one : (p : List ℕ) (r : KeyRange) → is_one r ≡ true → parts p r ≡ r ∷ []
parts_of_one p r e = by_one (is_one r) _ _ e
  where
    by_one : (t u : Bool) (rest : List KeyRange) → t ≡ true → cond (t || u) (r ∷ []) rest ≡ r ∷ []
    by_one true u rest e = refl
    by_one false u rest e = absurd (cc)

-- a key that the range doesn't have, or that is in the leasing range, is in no part
parts_lack : (p k : List ℕ) (r : KeyRange) → is_empty p ≡ false → is_empty k ≡ false → (is_one r ≡ true → contains r k ≡ false) → contains r k && not (contains (leasing_range p) k) ≡ false → list_any (has k) (parts p r) ≡ false
parts_lack p k r np nk one e = by_one (is_one r) refl
  where
    by_one : (t : Bool) → is_one r ≡ t → list_any (has k) (parts p r) ≡ false
    by_one true f = ap (list_any (has k)) (parts_of_one p r f) ∙ or_false (contains r k) ∙ one f
    by_one false f = never k (parts p r) (parts_go_round p k r np nk f ∙ ap one_if e)

-- what isn't covered isn't named
pub named_by : (p : List ℕ) (write : Request) (k : List ℕ) → IsWrite write → is_empty p ≡ false → is_empty k ≡ false → covers write k ≡ false → list_any (names k) (write_ops p write) ≡ false
named_by p (request.Put ask) k w np nk e =
    ap (λ (t : Bool). t || false) (sym (same-turned k ask.key)) ∙ e
named_by p (request.Delete ask) k w np nk e =
    let lacks = sym (or_false (contains ask.range k)) ∙ e in
    named_parts k ask.prev_kv (parts p ask.range) ∙ parts_lack p k ask.range np nk (λ f. lacks) (ap (λ (t : Bool). t && not (contains (leasing_range p) k)) lacks)
named_by p (request.Txn t) k w np nk e =
    or_false (names k (op.Txn t)) ∙ sym (covers_is_names k t) ∙ e
named_by p write k w np nk e = absurd w

pub not_empty_with : (p k : List ℕ) → is_empty p ≡ false → is_empty (p ++ k) ≡ false
not_empty_with [] k e = absurd (cc)
not_empty_with (b ∷ bs) k e = refl

-- ownership keys

pub in_leasing : (p k : List ℕ) → is_empty k ≡ false → contains (leasing_range p) (p ++ k) ≡ true
in_leasing p k e =
    let all : KeyRange = record { key = []; end = 0 ∷ [] } in
    ap (λ (key : List ℕ). contains (record { key = key; end = (leasing_range p).end }) (p ++ k)) (sym (append-nil p))
    ∙ ranges_stay p k all e ∙ up_to-nothing k

differs : (q : List ℕ → Bool) (a b : List ℕ) → q a ≡ false → q b ≡ true → same a b ≡ false
differs q a b e f = by_test (same a b) refl
  where
    by_test : (t : Bool) → same a b ≡ t → t ≡ false
    by_test true g = absurd (let h = ap q (same-equal a b g) in cc)
    by_test false g = refl

apart_ranges : (r s : KeyRange) (k : List ℕ) → overlaps r s ≡ false → contains s k ≡ true → contains r k ≡ false
apart_ranges r s k e f = by_test (contains r k) refl
  where
    by_test : (t : Bool) → contains r k ≡ t → t ≡ false
    by_test true g = absurd (let h : overlaps r s ≡ true = (overlap_in_a_key r s).1 (k, g, f) in cc)
    by_test false g = refl

mutual
  leaves_out : (p k : List ℕ) (o : Op) → contains (leasing_range p) k ≡ true → all_leaves (puts_out p) (deletes_out p) o ≡ true → names k o ≡ false
  leaves_out p k (op.Range ask) i a = refl
  leaves_out p k (op.Put ask) i a = differs (contains (leasing_range p)) ask.key k (not_true (contains (leasing_range p) ask.key) a) i
  leaves_out p k (op.Delete ask) i a = apart_ranges ask.range (leasing_range p) k (not_true (overlaps ask.range (leasing_range p)) a) i
  leaves_out p k (op.Txn' compare m success n failure) i a =
      or_none (names_row k success) _ (row_leaves_out p k success i (and_first (all_leaves_row (puts_out p) (deletes_out p) success) _ a))
      (row_leaves_out p k failure i (and_second (all_leaves_row (puts_out p) (deletes_out p) success) _ a))

  row_leaves_out : {m : _} (p k : List ℕ) (ops : Row_of-Op m) → contains (leasing_range p) k ≡ true → all_leaves_row (puts_out p) (deletes_out p) ops ≡ true → names_row k ops ≡ false
  row_leaves_out p k end_of-Op i a = refl
  row_leaves_out p k (more_of-Op o rest) i a =
      or_none (names k o) _ (leaves_out p k o i (and_first (all_leaves (puts_out p) (deletes_out p) o) _ a)) (row_leaves_out p k rest i (and_second (all_leaves (puts_out p) (deletes_out p) o) _ a))

pub owners_unnamed : (p : List ℕ) (write : Request) (k : List ℕ) → IsWrite write → is_empty p ≡ false → is_empty (p ++ k) ≡ false → contains (leasing_range p) (p ++ k) ≡ true → stays_out p write ≡ true
    → list_any (names (p ++ k)) (write_ops p write) ≡ false
owners_unnamed p (request.Put ask) k w np nk i a =
    ap (λ (t : Bool). t || false) (differs (contains (leasing_range p)) ask.key (p ++ k) (not_true (contains (leasing_range p) ask.key) a) i)
owners_unnamed p (request.Delete ask) k w np nk i a =
    named_parts (p ++ k) ask.prev_kv (parts p ask.range)
    ∙ parts_lack p (p ++ k) ask.range np nk (λ f. one_lacks f)
    (ap (λ (t : Bool). contains ask.range (p ++ k) && not t) i ∙ and_false (contains ask.range (p ++ k)))
  where
    one_lacks : is_one ask.range ≡ true → contains ask.range (p ++ k) ≡ false
    one_lacks f = by_test (contains ask.range (p ++ k)) refl
      where
        by_test : (t : Bool) → contains ask.range (p ++ k) ≡ t → t ≡ false
        by_test true g =
            absurd (let h = ap (contains (leasing_range p)) (one_key ask.range (p ++ k) f g) in let j = not_true (contains (leasing_range p) ask.range.key) a in cc)
        by_test false g = refl
owners_unnamed p (request.Txn t) k w np nk i a = or_false (names (p ++ k) (op.Txn t)) ∙ leaves_out p (p ++ k) (op.Txn t) i a
owners_unnamed p write k w np nk i a = absurd w

-- reads name nothing
pub reads_name_nothing : (k p : List ℕ) (rs : List KeyRange) → list_any (names k) (map (read_owners p) rs) ≡ false
reads_name_nothing k p [] = refl
reads_name_nothing k p (r ∷ rs) = reads_name_nothing k p rs

-- a write of single keys

all-with_range : (q : KeyRange → Bool) (r : KeyRange) (rs : List KeyRange) → q r ≡ true → list_all q rs ≡ true → list_all q (with_range r rs) ≡ true
all-with_range q r [] e a = and_both (q r) true e refl
all-with_range q r (s ∷ rs) e a =
    by_tests (is_lt (range_cmp r s)) (is_eq (range_cmp r s)) (all-with_range q r rs e (and_second (q s) _ a))
  where
    by_tests : (x y : Bool) → list_all q (with_range r rs) ≡ true → list_all q (cond x (r ∷ s ∷ rs) (cond y (s ∷ rs) (s ∷ with_range r rs))) ≡ true
    by_tests true y h = and_both (q r) _ e a
    by_tests false true h = a
    by_tests false false h = and_both (q s) _ (and_first (q s) _ a) h

mutual
  singles_one : (o : Op) (rs : List KeyRange) → all_leaves any_put deletes_one o ≡ true → list_all is_one rs ≡ true → list_all is_one (with_written o rs) ≡ true
  singles_one (op.Range ask) rs e a = a
  singles_one (op.Put ask) rs e a = all-with_range is_one (only ask.key) rs refl a
  singles_one (op.Delete ask) rs e a = all-with_range is_one ask.range rs e a
  singles_one (op.Txn' compare m success n failure) rs e a =
      row_singles_one failure (with_written_row success rs) (and_second (all_leaves_row any_put deletes_one success) _ e)
      (row_singles_one success rs (and_first (all_leaves_row any_put deletes_one success) _ e) a)

  row_singles_one : {m : _} (ops : Row_of-Op m) (rs : List KeyRange) → all_leaves_row any_put deletes_one ops ≡ true → list_all is_one rs ≡ true → list_all is_one (with_written_row ops rs) ≡ true
  row_singles_one end_of-Op rs e a = a
  row_singles_one (more_of-Op o rest) rs e a =
      row_singles_one rest (with_written o rs) (and_second (all_leaves any_put deletes_one o) _ e) (singles_one o rs (and_first (all_leaves any_put deletes_one o) _ e) a)

pub single_writes_are_guards : SingleWritesAreGuards
single_writes_are_guards (request.Put ask) created e = inl refl
single_writes_are_guards (request.Delete ask) created e = inl (and_both (is_one ask.range) true e refl)
single_writes_are_guards (request.Txn t) created e =
    inl (ap (list_all is_one) (sym (with_written_is_txn t [])) ∙ singles_one (op.Txn t) [] e refl)
single_writes_are_guards (request.Range ask) created e = absurd (cc)
single_writes_are_guards (request.Compact revision physical) created e = absurd (cc)
single_writes_are_guards (request.Grant ttl lease) created e = absurd (cc)
single_writes_are_guards (request.Revoke lease) created e = absurd (cc)
single_writes_are_guards (request.KeepAlive lease) created e = absurd (cc)
single_writes_are_guards (request.TimeToLive lease keys) created e = absurd (cc)
single_writes_are_guards request.Leases created e = absurd (cc)
single_writes_are_guards (request.Watch ask) created e = absurd (cc)
