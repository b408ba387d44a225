-- The forms of requests keep the laws of forms.
use Rattle.std.proofs.Common.{◌≡◌, ℕ, zero, suc, ◌+◌, ◌-◌, ◌<◌, ◌≤◌, ◌^◌, Bool, true, false, ◌&&◌, List, [], ◌∷◌, ◌++◌, length, inl, inr, Some, refl, sym, ap, subst, ◌∙◌, arith}
use Rattle.std.specs.Prelude.{nat_lt, ◌==◌, codes, flat_map}
use Rattle.std.proofs.lemmas.Bool.{and_parts, cases_Bool, cond_both, eqb-true, lt-ltb}
use Rattle.text_model.specs.Forms.{Word, Form, one_of, nothing, never, allowed, both, via, after, listed}
use Rattle.text_model.specs.Words.{is_within, number, number_within, max_number, bytes, has, any_value, flag_word, flag, two_flags_word, two_flags, three_flags_word, three_flags, four_flags_word, four_flags}
use Rattle.text_model.proofs.Laws.{lacks, differs_from, IsForm, IsChoice, one_word-IsForm, one_of-IsWord, nothing-IsForm, followed-IsForm, both-IsForm, via-IsForm, via_where-IsForm, spelled_as-IsForm, listed-IsForm, named-IsChoice, after-IsChoice, allowed-IsChoice}
use Rattle.text_model.proofs.WordLaws.{within_parts, number_within-IsForm, number-IsForm, bytes-IsForm, flag-IsForm, two_flags-IsForm, three_flags-IsForm, four_flags-IsForm}
use Rattle.etcd_types.specs.Keys.{is_empty}
use Rattle.etcd_types.specs.declared.operation.Sort.{Sort}
use Rattle.etcd_types.specs.declared.operation.RangeAsk.{RangeAsk}
use Rattle.etcd_types.specs.declared.operation.Target.{Target}
use Rattle.etcd_types.specs.declared.operation.Target.TheVariants.{Version, Create, Modified, Value, Lease}
use Rattle.etcd_types.specs.declared.operation.Relation.{Relation}
use Rattle.etcd_types.specs.declared.operation.Relation.TheVariants.{Equal, Greater, Less, NotEqual}
use Rattle.etcd_types.specs.declared.operation.TxnAsk.{TxnAsk}
use Rattle.etcd_types.specs.declared.operation.Op.{Op, Row_of-Op, end_of-Op, more_of-Op, out-Op, roll-Op, out-roll-Op, roll-out-Op, items-the_row-Op}
use Rattle.etcd_types.specs.declared.operation.Op.TheBlock.{hidden-the_row-Op-0, items_hidden-the_row-Op-0}
use Rattle.etcd_types.specs.declared.operation.Op.TheVariants as ops
use Rattle.etcd_types.specs.declared.operation.Op.TheVariants.{rolls-Range, rolls-Put, rolls-Delete, rolls-Txn}
use Rattle.etcd_types.specs.declared.operation.Op.TheOpen as layer
use Rattle.etcd_types.specs.declared.request.Request.{Request}
use Rattle.etcd_types.specs.declared.request.Request.TheVariants as asks
use Rattle.message_text.specs.Requests.{unsorted, is_unsorted, sorted, plain, range, SortFront, least_last, sort, put, delete, target_word, targets, target, relation_word, relations, relation, Operand, number_operand, bytes_operand, operand, compare, txn, DataAsk, from_delete, from_put, from_rangex, data_ask, range_ask, layer_to, layer_from, op_to, op_from, range_ask_words, op_words, row_words, row_length, op_list, txn_words, one_op, op_form, request_txn, watch, from_leases, from_timetolive, from_keepalive, from_revoke, from_grant, other_ask, from_txn, RequestWords, request_to, request_from, request}

-- a line feed
abbrev pub space : ℕ
space = 10

pub a_number : IsForm space number
a_number = number-IsForm space (omega arith)

pub some_bytes : IsForm space bytes
some_bytes = bytes-IsForm space (omega arith)

-- ---- flags

p_flag_back : (x : Bool) → has 112 (flag_word 112 x) ≡ x
p_flag_back true = refl
p_flag_back false = refl

p_flag_lacks : (x : Bool) → lacks space (flag_word 112 x) ≡ true
p_flag_lacks true = refl
p_flag_lacks false = refl

p_flag : IsForm space (flag 112)
p_flag = flag-IsForm space 112 p_flag_back p_flag_lacks

k_flag_back : (x : Bool) → has 107 (flag_word 107 x) ≡ x
k_flag_back true = refl
k_flag_back false = refl

k_flag_lacks : (x : Bool) → lacks space (flag_word 107 x) ≡ true
k_flag_lacks true = refl
k_flag_lacks false = refl

k_flag : IsForm space (flag 107)
k_flag = flag-IsForm space 107 k_flag_back k_flag_lacks

put_flags_back : (x : Bool × Bool) → (has 112 (two_flags_word 112 105 x), has 105 (two_flags_word 112 105 x)) ≡ x
put_flags_back (true, true) = refl
put_flags_back (true, false) = refl
put_flags_back (false, true) = refl
put_flags_back (false, false) = refl

put_flags_lack : (x : Bool × Bool) → lacks space (two_flags_word 112 105 x) ≡ true
put_flags_lack (true, true) = refl
put_flags_lack (true, false) = refl
put_flags_lack (false, true) = refl
put_flags_lack (false, false) = refl

put_flags : IsForm space (two_flags 112 105)
put_flags = two_flags-IsForm space 112 105 put_flags_back put_flags_lack

range_flags_back : (x : Bool × Bool × Bool) → (has 115 (three_flags_word 115 107 99 x), has 107 (three_flags_word 115 107 99 x), has 99 (three_flags_word 115 107 99 x)) ≡ x
range_flags_back (true, true, true) = refl
range_flags_back (true, true, false) = refl
range_flags_back (true, false, true) = refl
range_flags_back (true, false, false) = refl
range_flags_back (false, true, true) = refl
range_flags_back (false, true, false) = refl
range_flags_back (false, false, true) = refl
range_flags_back (false, false, false) = refl

range_flags_lack : (x : Bool × Bool × Bool) → lacks space (three_flags_word 115 107 99 x) ≡ true
range_flags_lack (true, true, true) = refl
range_flags_lack (true, true, false) = refl
range_flags_lack (true, false, true) = refl
range_flags_lack (true, false, false) = refl
range_flags_lack (false, true, true) = refl
range_flags_lack (false, true, false) = refl
range_flags_lack (false, false, true) = refl
range_flags_lack (false, false, false) = refl

range_flags : IsForm space (three_flags 115 107 99)
range_flags = three_flags-IsForm space 115 107 99 range_flags_back range_flags_lack

watch_flags_back : (x : Bool × Bool × Bool × Bool) → (has 112 (four_flags_word 112 117 100 110 x), has 117 (four_flags_word 112 117 100 110 x), has 100 (four_flags_word 112 117 100 110 x), has 110 (four_flags_word 112 117 100 110 x)) ≡ x
watch_flags_back (true, true, true, true) = refl
watch_flags_back (true, true, true, false) = refl
watch_flags_back (true, true, false, true) = refl
watch_flags_back (true, true, false, false) = refl
watch_flags_back (true, false, true, true) = refl
watch_flags_back (true, false, true, false) = refl
watch_flags_back (true, false, false, true) = refl
watch_flags_back (true, false, false, false) = refl
watch_flags_back (false, true, true, true) = refl
watch_flags_back (false, true, true, false) = refl
watch_flags_back (false, true, false, true) = refl
watch_flags_back (false, true, false, false) = refl
watch_flags_back (false, false, true, true) = refl
watch_flags_back (false, false, true, false) = refl
watch_flags_back (false, false, false, true) = refl
watch_flags_back (false, false, false, false) = refl

watch_flags_lack : (x : Bool × Bool × Bool × Bool) → lacks space (four_flags_word 112 117 100 110 x) ≡ true
watch_flags_lack (true, true, true, true) = refl
watch_flags_lack (true, true, true, false) = refl
watch_flags_lack (true, true, false, true) = refl
watch_flags_lack (true, true, false, false) = refl
watch_flags_lack (true, false, true, true) = refl
watch_flags_lack (true, false, true, false) = refl
watch_flags_lack (true, false, false, true) = refl
watch_flags_lack (true, false, false, false) = refl
watch_flags_lack (false, true, true, true) = refl
watch_flags_lack (false, true, true, false) = refl
watch_flags_lack (false, true, false, true) = refl
watch_flags_lack (false, true, false, false) = refl
watch_flags_lack (false, false, true, true) = refl
watch_flags_lack (false, false, true, false) = refl
watch_flags_lack (false, false, false, true) = refl
watch_flags_lack (false, false, false, false) = refl

watch_flags : IsForm space (four_flags 112 117 100 110)
watch_flags = four_flags-IsForm space 112 117 100 110 watch_flags_back watch_flags_lack

-- ---- fields

pub range-IsForm : IsForm space range
unfolding range
range-IsForm =
    via-IsForm _ _ _ _ (λ b fits. refl) (λ a. refl)
    (both-IsForm _ _ _ some_bytes (both-IsForm _ _ _ some_bytes (both-IsForm _ _ _ a_number (both-IsForm _ _ _ a_number range_flags))))

within : (high : ℕ) → high < 2 ^ 64 → IsForm space (number_within 0 high)
within high small = number_within-IsForm space 0 high (omega arith) (omega arith) small

least_small : (w : SortFront) → least_last w ≤ max_number
least_small w = cond_both _ 1 0 (λ n. n ≤ max_number) (λ e. omega arith) (λ e. omega arith)

last-IsForm : (w : SortFront) → IsForm space (number_within (least_last w) max_number)
last-IsForm w = number_within-IsForm space (least_last w) max_number (omega arith) (least_small w) (omega arith)

pub sort-IsForm : IsForm space sort
unfolding sort
sort-IsForm =
    via-IsForm _ _ _ _ (λ b fits. refl) (λ a. refl)
    (followed-IsForm _ _ _ (both-IsForm _ _ _ (within 2 (omega arith)) (both-IsForm _ _ _ (within 4 (omega arith)) (both-IsForm _ _ _ a_number (both-IsForm _ _ _ a_number a_number)))) last-IsForm)

pub put-IsForm : IsForm space put
unfolding put
put-IsForm =
    via-IsForm _ _ _ _ (λ b fits. refl) (λ a. refl)
    (both-IsForm _ _ _ some_bytes (both-IsForm _ _ _ some_bytes (both-IsForm _ _ _ a_number put_flags)))

pub delete-IsForm : IsForm space delete
unfolding delete
delete-IsForm =
    via-IsForm _ _ _ _ (λ b fits. refl) (λ a. refl) (both-IsForm _ _ _ some_bytes (both-IsForm _ _ _ some_bytes p_flag))

target_back : (t : Target) → one_of target_word targets (target_word t) ≡ Some t
target_back Version = refl
target_back Create = refl
target_back Modified = refl
target_back Value = refl
target_back Lease = refl

target_lacks : (t : Target) → lacks space (target_word t) ≡ true
target_lacks Version = refl
target_lacks Create = refl
target_lacks Modified = refl
target_lacks Value = refl
target_lacks Lease = refl

target-IsForm : IsForm space target
target-IsForm = one_word-IsForm space target_word _ any_value (one_of-IsWord space target_word targets target_back target_lacks) Version refl

relation_back : (r : Relation) → one_of relation_word relations (relation_word r) ≡ Some r
relation_back Equal = refl
relation_back Greater = refl
relation_back Less = refl
relation_back NotEqual = refl

relation_lacks : (r : Relation) → lacks space (relation_word r) ≡ true
relation_lacks Equal = refl
relation_lacks Greater = refl
relation_lacks Less = refl
relation_lacks NotEqual = refl

relation-IsForm : IsForm space relation
relation-IsForm = one_word-IsForm space relation_word _ any_value (one_of-IsWord space relation_word relations relation_back relation_lacks) Equal refl

no_value : (x : Operand) → is_empty x.1 ≡ true → (x.0, []) ≡ x
no_value (n, []) e = refl
no_value (n, b ∷ bs) e = absurd cc

no_number : (x : Operand) → (x.0 == 0) ≡ true → (0, x.1) ≡ x
no_number (n, bs) e = ap (λ (k : ℕ). (k, bs)) (sym (eqb-true n 0 e))

number_operand-IsForm : IsForm space number_operand
number_operand-IsForm = via_where-IsForm _ _ _ _ _ (λ b fits. refl) (λ b fits. refl) no_value a_number

bytes_operand-IsForm : IsForm space bytes_operand
bytes_operand-IsForm = via_where-IsForm _ _ _ _ _ (λ b fits. refl) (λ b fits. refl) no_number some_bytes

operand-IsForm : (t : Target) → IsForm space (operand t)
operand-IsForm Version = number_operand-IsForm
operand-IsForm Create = number_operand-IsForm
operand-IsForm Modified = number_operand-IsForm
operand-IsForm Value = bytes_operand-IsForm
operand-IsForm Lease = number_operand-IsForm

pub compare-IsForm : IsForm space compare
unfolding compare
compare-IsForm =
    via-IsForm _ _ _ _ (λ b fits. refl) (λ a. refl)
    (followed-IsForm _ target _ target-IsForm (λ t. both-IsForm _ _ _ relation-IsForm (both-IsForm _ _ _ some_bytes (both-IsForm _ _ _ some_bytes (operand-IsForm t)))))

txn-IsForm : (operation : Form Op) → IsForm space operation → IsForm space (txn operation)
txn-IsForm operation p =
    via-IsForm _ _ _ _ (λ b fits. refl) (λ a. refl)
    (both-IsForm _ _ _ (listed-IsForm _ number compare a_number compare-IsForm) (both-IsForm _ _ _ (listed-IsForm _ number operation a_number p) (listed-IsForm _ number operation a_number p)))

-- ---- operations

-- the first five sort fields are 0
abbrev front_zero : Sort → Bool
front_zero s = s.order == 0 && s.target == 0 && s.min_mod == 0 && s.max_mod == 0 && s.min_create == 0

last_above : (s : Sort) → front_zero s ≡ true → is_within (least_last (s.order, (s.target, (s.min_mod, (s.max_mod, s.min_create))))) max_number s.max_create ≡ true → 1 ≤ s.max_create
last_above s front_is in_range =
    let p = within_parts _ max_number s.max_create in_range in
    let least : least_last (s.order, (s.target, (s.min_mod, (s.max_mod, s.min_create)))) ≡ 1 = rw front_is refl in
    let At : ℕ → Type 0 = λ n. n ≤ s.max_create in
    subst At least p.0

sorted_last : (s : Sort) → sort.fits s ≡ true → is_unsorted s ≡ false
unfolding sort
sorted_last s fits =
    elim (cases_Bool (is_unsorted s)) [
      | inl none ↦
          let p = and_parts (front_zero s) (s.max_create == 0) none in
          let last = last_above s p.0 (and_parts _ (is_within (least_last (s.order, (s.target, (s.min_mod, (s.max_mod, s.min_create))))) max_number s.max_create) fits).1 in
          absurd (omega (arith, eqb-true s.max_create 0 p.1))
      | inr some ↦ some
    ]

unsorted_is : (s : Sort) → is_unsorted s ≡ true → unsorted ≡ s
unsorted_is s none =
    let f = and_parts (front_zero s) (s.max_create == 0) none in
    let e = and_parts _ (s.min_create == 0) f.0 in
    let d = and_parts _ (s.max_mod == 0) e.0 in
    let c = and_parts _ (s.min_mod == 0) d.0 in
    let b = and_parts (s.order == 0) (s.target == 0) c.0 in
    λ i.
    record {
      order = sym (eqb-true s.order 0 b.0) i;
      target = sym (eqb-true s.target 0 b.1) i;
      min_mod = sym (eqb-true s.min_mod 0 c.1) i;
      max_mod = sym (eqb-true s.max_mod 0 d.1) i;
      min_create = sym (eqb-true s.min_create 0 e.1) i;
      max_create = sym (eqb-true s.max_create 0 f.1) i;
    }

data_back : (w : DataAsk TxnAsk) (more : Form TxnAsk) → (data_ask more).fits w ≡ true → layer_from (layer_to w) ≡ w
data_back (inl w) more fits = refl
data_back (inr (inl w)) more fits = rw (sorted_last w.1 (and_parts (range.fits w.0) (sort.fits w.1) fits).1) refl
data_back (inr (inr (inl p))) more fits = refl
data_back (inr (inr (inr (inl d)))) more fits = refl
data_back (inr (inr (inr (inr t)))) more fits = refl

layer_forth : (y : layer.Op-F Op TxnAsk) → layer_to (layer_from y) ≡ y
layer_forth (layer.Range r) =
    elim (cases_Bool (is_unsorted r.sort)) [
      | inl none ↦ rw none (ap (λ s. layer.Range (sorted (plain r) s)) (unsorted_is r.sort none))
      | inr some ↦ rw some refl
    ]
layer_forth (layer.Put p) = refl
layer_forth (layer.Delete d) = refl
layer_forth (layer.Txn t) = refl

-- ---- operations in turn

rows_are : {m : _} (ops : Row_of-Op m) → row_words ops ≡ flat_map op_words (items-the_row-Op m ops)
rows_are end_of-Op = refl
rows_are (more_of-Op op rest) = λ i. op_words op ++ rows_are rest i

rows_count : {m : _} (ops : Row_of-Op m) → row_length ops ≡ length (items-the_row-Op m ops)
rows_count end_of-Op = refl
rows_count (more_of-Op op rest) = λ i. suc (rows_count rest i)

hidden_words : (ops : List Op) → row_words (hidden-the_row-Op-0 ops) ≡ flat_map op_words ops
hidden_words ops = rows_are (hidden-the_row-Op-0 ops) ∙ ap (λ (l : List Op). flat_map op_words l) (items_hidden-the_row-Op-0 ops)

hidden_length : (ops : List Op) → row_length (hidden-the_row-Op-0 ops) ≡ length ops
hidden_length ops = rows_count (hidden-the_row-Op-0 ops) ∙ ap (λ (l : List Op). length l) (items_hidden-the_row-Op-0 ops)

hidden_list : (ops : List Op) → number.spell (row_length (hidden-the_row-Op-0 ops)) ++ row_words (hidden-the_row-Op-0 ops) ≡ op_list ops
hidden_list ops = λ i. number.spell (hidden_length ops i) ++ hidden_words ops i

pub op_words-Txn : (t : TxnAsk) → op_words (ops.Txn t) ≡ codes "txn" ∷ txn_words t
op_words-Txn t = λ i. codes "txn" ∷ ((listed number compare).spell t.compare ++ (hidden_list t.success i ++ hidden_list t.failure i))

-- a transaction is written as its words
pub ruleset txn_written = (op_words-Txn)

-- ---- the form of operations

-- the form at each depth, by whether a transaction may stand there
op_form_at : (n : ℕ) (ws : List Word) → (op_form n).read ws ≡ (one_op (nat_lt 0 n) (op_form (n - 1))).read ws
unfolding op_form
op_form_at zero ws = refl
op_form_at (suc n) ws =
    let some : nat_lt 0 (suc n) ≡ true = lt-ltb 0 (suc n) (omega arith) in
    let less : suc n - 1 ≡ n = omega arith in
    λ i. (one_op (sym some i) (op_form (sym less i))).read ws

pub range_named : {T : Type 0} (r : RangeAsk) (more : Form T) → (data_ask more).spell (range_ask r) ≡ range_ask_words r
range_named r more =
    elim (cases_Bool (is_unsorted r.sort)) [
      | inl none ↦ rw none refl
      | inr some ↦ rw some refl
    ]

-- what the layers spell is what the words of an operation are
layer_spells : (y : layer.Op-F Op TxnAsk) (more : Form TxnAsk) → ((t : TxnAsk) → more.fits t ≡ true → more.spell t ≡ codes "txn" ∷ txn_words t) → (data_ask more).fits (layer_from y) ≡ true → (data_ask more).spell (layer_from y) ≡ op_words (roll-Op y)
layer_spells (layer.Range r) more txns fits = range_named r more ∙ ap op_words (sym (rolls-Range r))
layer_spells (layer.Put p) more txns fits = ap op_words (sym (rolls-Put p))
layer_spells (layer.Delete d) more txns fits = ap op_words (sym (rolls-Delete d))
layer_spells (layer.Txn t) more txns fits = txns t fits ∙ sym (op_words-Txn t) ∙ ap op_words (sym (rolls-Txn t))

op_spells : (o : Op) (more : Form TxnAsk) → ((t : TxnAsk) → more.fits t ≡ true → more.spell t ≡ codes "txn" ∷ txn_words t) → (via op_to op_from (data_ask more)).fits o ≡ true → (via op_to op_from (data_ask more)).spell o ≡ op_words o
op_spells o more txns fits = layer_spells (out-Op o) more txns fits ∙ ap op_words (roll-out-Op o)

op_back : (more : Form TxnAsk) (w : DataAsk TxnAsk) → (data_ask more).fits w ≡ true → op_from (op_to w) ≡ w
op_back more w fits = ap layer_from (out-roll-Op (layer_to w)) ∙ data_back w more fits

op_forth : (o : Op) → op_to (op_from o) ≡ o
op_forth o = ap roll-Op (layer_forth (out-Op o)) ∙ roll-out-Op o

pub op_form-read : (n inner : ℕ) (ws : List Word) → inner ≡ n - 1 → (op_form n).read ws ≡ (one_op (nat_lt 0 n) (op_form inner)).read ws
op_form-read n inner ws e = op_form_at n ws ∙ ap (λ (k : ℕ). (one_op (nat_lt 0 n) (op_form k)).read ws) (sym e)

data-IsChoice : {T : Type 0} (names : List Word) (more : Form T) → differs_from (codes "range") names ≡ true → differs_from (codes "rangex") names ≡ true → differs_from (codes "put") names ≡ true → differs_from (codes "delete") names ≡ true → IsChoice space names more → IsChoice space (codes "range" ∷ codes "rangex" ∷ codes "put" ∷ codes "delete" ∷ names) (data_ask more)
data-IsChoice names more d1 d2 d3 d4 p =
    named-IsChoice space (codes "range") _ range (from_rangex more) refl d1 range-IsForm
    (named-IsChoice space (codes "rangex") _ (both range sort) (from_put more) refl d2 (both-IsForm _ _ _ range-IsForm sort-IsForm)
    (named-IsChoice space (codes "put") _ put (from_delete more) refl d3 put-IsForm
    (named-IsChoice space (codes "delete") names delete more refl d4 delete-IsForm p)))

data-IsForm : {T : Type 0} (names : List Word) (more : Form T) → differs_from (codes "range") names ≡ true → differs_from (codes "rangex") names ≡ true → differs_from (codes "put") names ≡ true → differs_from (codes "delete") names ≡ true → IsChoice space names more → IsForm space (data_ask more)
data-IsForm names more d1 d2 d3 d4 p =
    record {
      part = (data-IsChoice names more d1 d2 d3 d4 p).part;
      some = (inl range-IsForm.some.0, range-IsForm.some.1);
    }

one_op-IsForm : (nests : Bool) (inner : Form Op) → ((t : TxnAsk) → nests ≡ true → (txn inner).spell t ≡ txn_words t) → (nests ≡ true → IsForm space inner) → IsForm space (one_op nests inner)
one_op-IsForm nests inner txns p =
    let tail : Form TxnAsk = allowed nests (after (codes "txn") (txn inner)) in
    let choice = allowed-IsChoice space (codes "txn" ∷ []) nests (after (codes "txn") (txn inner)) (λ e. after-IsChoice space (codes "txn") (txn inner) refl (txn-IsForm inner (p e))) in
    spelled_as-IsForm space op_words (via op_to op_from (data_ask tail))
    (λ o fits. op_spells o tail (λ t fit. ap (λ (v : List Word). codes "txn" ∷ v) (txns t (and_parts nests ((txn inner).fits t) fit).0)) fits)
    (via-IsForm space op_to op_from (data_ask tail) (op_back tail) op_forth (data-IsForm (codes "txn" ∷ []) tail refl refl refl refl choice))

pub op_form-spell : (n : ℕ) (o : Op) → (op_form n).spell o ≡ op_words o
unfolding op_form
op_form-spell zero o = refl
op_form-spell (suc n) o = refl

op_list_is : (n : ℕ) (ops : List Op) → (listed number (op_form n)).spell ops ≡ op_list ops
op_list_is n ops = λ i. number.spell (length ops) ++ flat_map (λ o. op_form-spell n o i) ops

txn_spells : (n : ℕ) (t : TxnAsk) → (txn (op_form n)).spell t ≡ txn_words t
txn_spells n t = λ i. (listed number compare).spell t.compare ++ (op_list_is n t.success i ++ op_list_is n t.failure i)

pub op_form-IsForm : (n : ℕ) → IsForm space (op_form n)
unfolding op_form
op_form-IsForm zero = one_op-IsForm false never (λ t e. absurd cc) (λ e. absurd cc)
op_form-IsForm (suc n) = one_op-IsForm true (op_form n) (λ t e. txn_spells n t) (λ e. op_form-IsForm n)

pub request_txn-IsForm : IsForm space request_txn
unfolding request_txn
request_txn-IsForm = txn-IsForm (op_form 127) (op_form-IsForm 127)

pub request_txn-spell : (t : TxnAsk) → request_txn.spell t ≡ txn_words t
unfolding request_txn
request_txn-spell t = txn_spells 127 t

-- a request's transaction is written as its words
pub ruleset request_txn_written = (request_txn-spell)

-- a request's range is written as its words
pub ruleset range_ask_written = (range_named)

-- ---- requests

pub watch-IsForm : IsForm space watch
unfolding watch
watch-IsForm =
    via-IsForm _ _ _ _ (λ b fits. refl) (λ a. refl)
    (both-IsForm _ _ _ some_bytes (both-IsForm _ _ _ some_bytes (both-IsForm _ _ _ a_number watch_flags)))

abbrev pub other_names : List Word
other_names =
    codes "compact" ∷ codes "grant" ∷ codes "revoke" ∷ codes "keepalive" ∷ codes "timetolive" ∷ codes "leases" ∷ codes "watch" ∷ []

pub other_ask-IsChoice : IsChoice space other_names other_ask
unfolding other_ask
other_ask-IsChoice =
    named-IsChoice space (codes "compact") _ (both number (flag 112)) from_grant refl refl (both-IsForm _ _ _ a_number p_flag)
    (named-IsChoice space (codes "grant") _ (both number number) from_revoke refl refl (both-IsForm _ _ _ a_number a_number)
    (named-IsChoice space (codes "revoke") _ number from_keepalive refl refl a_number
    (named-IsChoice space (codes "keepalive") _ number from_timetolive refl refl a_number
    (named-IsChoice space (codes "timetolive") _ (both number (flag 107)) from_leases refl refl (both-IsForm _ _ _ a_number k_flag)
    (named-IsChoice space (codes "leases") _ nothing (after (codes "watch") watch) refl refl (nothing-IsForm space)
    (after-IsChoice space (codes "watch") watch refl watch-IsForm))))))

from_txn-IsChoice : IsChoice space (codes "txn" ∷ other_names) from_txn
from_txn-IsChoice =
    named-IsChoice space (codes "txn") other_names request_txn other_ask refl refl request_txn-IsForm other_ask-IsChoice

request_back : (w : RequestWords) → (data_ask from_txn).fits w ≡ true → request_from (request_to w) ≡ w
request_back (inl w) fits = refl
request_back (inr (inl w)) fits = rw (sorted_last w.1 (and_parts (range.fits w.0) (sort.fits w.1) fits).1) refl
request_back (inr (inr (inl p))) fits = refl
request_back (inr (inr (inr (inl d)))) fits = refl
request_back (inr (inr (inr (inr (inl t))))) fits = refl
request_back (inr (inr (inr (inr (inr (inl w)))))) fits = refl
request_back (inr (inr (inr (inr (inr (inr (inl w))))))) fits = refl
request_back (inr (inr (inr (inr (inr (inr (inr (inl n)))))))) fits = refl
request_back (inr (inr (inr (inr (inr (inr (inr (inr (inl n))))))))) fits = refl
request_back (inr (inr (inr (inr (inr (inr (inr (inr (inr (inl w)))))))))) fits = refl
request_back (inr (inr (inr (inr (inr (inr (inr (inr (inr (inr (inl u))))))))))) fits = refl
request_back (inr (inr (inr (inr (inr (inr (inr (inr (inr (inr (inr a))))))))))) fits = refl

request_forth : (q : Request) → request_to (request_from q) ≡ q
request_forth (asks.Range r) =
    elim (cases_Bool (is_unsorted r.sort)) [
      | inl none ↦ rw none (ap (λ s. asks.Range (sorted (plain r) s)) (unsorted_is r.sort none))
      | inr some ↦ rw some refl
    ]
request_forth (asks.Put p) = refl
request_forth (asks.Delete d) = refl
request_forth (asks.Txn t) = refl
request_forth (asks.Compact revision physical) = refl
request_forth (asks.Grant ttl lease) = refl
request_forth (asks.Revoke lease) = refl
request_forth (asks.KeepAlive lease) = refl
request_forth (asks.TimeToLive lease keys) = refl
request_forth asks.Leases = refl
request_forth (asks.Watch a) = refl

pub request-IsForm : IsForm space request
unfolding request
request-IsForm =
    via-IsForm space request_to request_from (data_ask from_txn) request_back request_forth
    (data-IsForm (codes "txn" ∷ other_names) from_txn refl refl refl refl from_txn-IsChoice)
