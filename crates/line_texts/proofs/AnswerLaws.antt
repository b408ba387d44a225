-- The forms of answers keep the laws of forms.
use Rattle.std.proofs.Common.{◌≡◌, ℕ, zero, suc, ◌+◌, ◌-◌, ◌<◌, ◌^◌, Bool, true, false, ℤ, pos, negsuc, List, [], ◌∷◌, ◌++◌, length, Option, Some, None, ◌⊎◌, inl, inr, refl, sym, ap, ◌∙◌, arith}
use Rattle.std.specs.Prelude.{◌==◌, codes, flat_map, bytes_eq, nat_le, nat_lt}
use Rattle.std.specs.Fmt.{signed_decimal}
use Rattle.std.specs.List.{list_all}
use Rattle.std.specs.Str.Parse.{AllDigits}
use Rattle.std.proofs.lemmas.Str.Parse.{digit_from_value}
use Rattle.std.proofs.lemmas.Bool.{and_parts, eqb-true, leb-true, lt-ltb}
use Rattle.std.proofs.lemmas.Bool.Decides.{nat_tests}
use Rattle.std.proofs.lemmas.Slice.Eq.{bytes_eq-Decides}
use Rattle.std.proofs.lemmas.Fmt.{decimal_is_IsNumeral, decimal_digit}
use Rattle.text_model.specs.Forms.{Word, Form, one_of, respelled, nothing, never, allowed, both, via, after, listed}
use Rattle.text_model.specs.Texts.{text}
use Rattle.text_model.specs.Words.{number, max_number, bytes, has, any_value, flag_word, flag}
use Rattle.text_model.proofs.Laws.{lacks, differs_from, IsForm, IsChoice, one_word-IsForm, one_of-IsWord, respelled-IsWord, respelled_found, nothing-IsForm, both-IsForm, via-IsForm, spelled_as-IsForm, listed-IsForm, named-IsForm, named-IsChoice, after-IsChoice, allowed-IsChoice}
use Rattle.text_model.proofs.WordLaws.{number_within-IsForm, number-IsForm, flag-IsForm, digits_lack}
use Rattle.text_model.proofs.TextLaws.{text_word-IsWord}
use Rattle.etcd_types.specs.declared.record.Kv.{Kv}
use Rattle.etcd_types.specs.declared.record.Header.{Header}
use Rattle.etcd_types.specs.declared.answer.Body.{Body, Row_of-Body, end_of-Body, more_of-Body, out-Body, roll-Body, out-roll-Body, roll-out-Body, items-the_row-Body}
use Rattle.etcd_types.specs.declared.answer.Body.TheBlock.{hidden-the_row-Body-0, items_hidden-the_row-Body-0}
use Rattle.etcd_types.specs.declared.answer.Body.TheVariants as bodies
use Rattle.etcd_types.specs.declared.answer.Body.TheVariants.{rolls-Range, rolls-Put, rolls-Delete, rolls-Txn, rolls-Compact, rolls-Grant, rolls-Revoke, rolls-KeepAlive, rolls-TimeToLive, rolls-Leases}
use Rattle.etcd_types.specs.declared.answer.Body.TheOpen as layer
use Rattle.etcd_types.specs.declared.answer.Answer.{Answer}
use Rattle.etcd_types.specs.declared.answer.Answer.TheVariants.{Done, Refused}
use Rattle.message_text.specs.Answers.{header_numbers, dot, header, kv, prev_to, prev_from, prev, branch_word, branches, branch, is_ttl, ttl_guess, ttl, BodyWords, range_body, delete_body, timetolive_body, leases_body, from_leases, from_timetolive, from_keepalive, from_revoke, from_grant, from_compact, from_delete, from_put, body_words_form, txn_body, layer_to, layer_from, body_to, body_from, body_words, row_words, row_length, body_list, txn_body_words, one_body, body_form, max_nesting, body, answer_to, answer_from, refusal_words, answer}
use Rattle.line_texts.proofs.RequestLaws.{space, a_number, some_bytes}

-- ---- headers and records

dotted_number : IsForm dot number
dotted_number = number-IsForm dot (omega arith)

four-IsForm : (c : ℕ) → c < 48 → IsForm c header_numbers
unfolding header_numbers
four-IsForm c small =
    let n = number-IsForm c small in
    via-IsForm _ _ _ _ (λ b fits. refl) (λ a. refl) (both-IsForm _ _ _ n (both-IsForm _ _ _ n (both-IsForm _ _ _ n n)))

has_four : (h : Header) → 0 < length (header_numbers.spell h)
unfolding header_numbers
has_four h = omega arith

pub header-IsForm : IsForm space header
unfolding header
header-IsForm =
    one_word-IsForm space (text dot header_numbers) _ header_numbers.fits
    (text_word-IsWord space dot header_numbers refl (four-IsForm dot (omega arith)) (four-IsForm space (omega arith)) has_four)
    (four-IsForm space (omega arith)).some.0 (four-IsForm space (omega arith)).some.1

pub kv-IsForm : IsForm space kv
unfolding kv
kv-IsForm =
    via-IsForm _ _ _ _ (λ b fits. refl) (λ a. refl)
    (both-IsForm _ _ _ some_bytes (both-IsForm _ _ _ some_bytes (both-IsForm _ _ _ a_number (both-IsForm _ _ _ a_number (both-IsForm _ _ _ a_number a_number)))))

prev_back : (s : Kv ⊎ Unit {0}) → prev_from (prev_to s) ≡ s
prev_back (inl k) = refl
prev_back (inr u) = refl

prev_forth : (o : Option Kv) → prev_to (prev_from o) ≡ o
prev_forth (Some k) = refl
prev_forth None = refl

pub prev-IsForm : IsForm space prev
unfolding prev
prev-IsForm =
    via-IsForm space prev_to prev_from _ (λ b fits. prev_back b) prev_forth
    (named-IsForm space (codes "+") _ kv (after (codes "-") nothing) refl refl kv-IsForm (after-IsChoice space (codes "-") nothing refl (nothing-IsForm space)))

-- ---- parts of bodies

m_flag_back : (x : Bool) → has 109 (flag_word 109 x) ≡ x
m_flag_back true = refl
m_flag_back false = refl

m_flag_lacks : (x : Bool) → lacks space (flag_word 109 x) ≡ true
m_flag_lacks true = refl
m_flag_lacks false = refl

m_flag : IsForm space (flag 109)
m_flag = flag-IsForm space 109 m_flag_back m_flag_lacks

branch_back : (b : Bool) → one_of branch_word branches (branch_word b) ≡ Some b
branch_back true = refl
branch_back false = refl

branch_lacks : (b : Bool) → lacks space (branch_word b) ≡ true
branch_lacks true = refl
branch_lacks false = refl

branch-IsForm : IsForm space branch
branch-IsForm = one_word-IsForm space branch_word _ any_value (one_of-IsWord space branch_word branches branch_back branch_lacks) true refl

kvs : IsForm space (listed number kv)
kvs = listed-IsForm space number kv a_number kv-IsForm

pub range_body-IsForm : IsForm space range_body
unfolding range_body
range_body-IsForm = both-IsForm _ _ _ a_number (both-IsForm _ _ _ m_flag kvs)

pub delete_body-IsForm : IsForm space delete_body
unfolding delete_body
delete_body-IsForm = both-IsForm _ _ _ a_number kvs

pub leases_body-IsForm : IsForm space leases_body
unfolding leases_body
leases_body-IsForm = listed-IsForm space number number a_number a_number

-- ---- times to live

no_minus : (ds : List ℕ) → AllDigits 10 ds → bytes_eq ds (codes "-1") ≡ false
no_minus [] all = refl
no_minus (d ∷ ds) all =
    let range = digit_from_value d all.0 in
    let other : (d == 45) ≡ false = grind (arith, nat_tests) in
    rw other refl

below_limit : (n : ℕ) → nat_le n max_number ≡ true → n < 2 ^ 64
below_limit n e = omega (arith, leb-true n max_number e)

minus_one : signed_decimal (negsuc 0) ≡ codes "-1"
minus_one = ap (λ (ds : List ℕ). 45 ∷ ds) (decimal_digit 1 (omega arith))

ttl_back : (z : ℤ) → is_ttl z ≡ true → ttl_guess (signed_decimal z) ≡ z
ttl_back (pos n) fits =
    let d = decimal_is_IsNumeral n (below_limit n fits) in
    rw (no_minus (signed_decimal (pos n)) d.0.1) (ap pos d.1)
ttl_back (negsuc zero) fits = ap ttl_guess minus_one
ttl_back (negsuc (suc n)) fits = absurd (omega (arith, eqb-true (suc n) 0 fits))

pub minus_one_found : (w : Word) → bytes_eq w (codes "-1") ≡ true → Some (negsuc 0) ≡ respelled signed_decimal ttl_guess is_ttl w
minus_one_found w same =
    let e : w ≡ signed_decimal (negsuc 0) = (bytes_eq-Decides w (codes "-1")).0 same ∙ sym minus_one in
    sym (respelled_found signed_decimal ttl_guess is_ttl w (negsuc 0) (rw same refl) e refl)

ttl_lacks : (z : ℤ) → is_ttl z ≡ true → lacks space (signed_decimal z) ≡ true
ttl_lacks (pos n) fits = digits_lack space (omega arith) (signed_decimal (pos n)) (decimal_is_IsNumeral n (below_limit n fits)).0.1
ttl_lacks (negsuc zero) fits = ap (lacks space) minus_one
ttl_lacks (negsuc (suc n)) fits = absurd (omega (arith, eqb-true (suc n) 0 fits))

pub ttl-IsForm : IsForm space ttl
unfolding ttl
ttl-IsForm = one_word-IsForm space signed_decimal _ is_ttl (respelled-IsWord space signed_decimal ttl_guess is_ttl ttl_back ttl_lacks) (negsuc 0) refl

pub timetolive_body-IsForm : IsForm space timetolive_body
unfolding timetolive_body
timetolive_body-IsForm =
    both-IsForm _ _ _ a_number (both-IsForm _ _ _ ttl-IsForm (both-IsForm _ _ _ a_number (listed-IsForm space number bytes a_number some_bytes)))

-- ---- bodies

txn_body-IsForm : (inner : Form Body) → IsForm space inner → IsForm space (txn_body inner)
txn_body-IsForm inner p = both-IsForm space branch (listed number inner) branch-IsForm (listed-IsForm space number inner a_number p)

abbrev pub body_names : List Word
body_names =
    codes "range" ∷ codes "put" ∷ codes "delete" ∷ codes "compact" ∷ codes "grant" ∷ codes "revoke" ∷ codes "keepalive" ∷ codes "timetolive" ∷ codes "leases" ∷ []

two_numbers : IsForm space (both number number)
two_numbers = both-IsForm space number number a_number a_number

-- the tail is a transaction's or none
bodies-IsForm : {T : Type 0} (names : List Word) (more : Form T) → list_all (λ n. differs_from n names) body_names ≡ true → IsChoice space names more → IsForm space (body_words_form more)
bodies-IsForm names more differ p =
    let d1 = and_parts (differs_from (codes "range") names) _ differ in
    let d2 = and_parts (differs_from (codes "put") names) _ d1.1 in
    let d3 = and_parts (differs_from (codes "delete") names) _ d2.1 in
    let d4 = and_parts (differs_from (codes "compact") names) _ d3.1 in
    let d5 = and_parts (differs_from (codes "grant") names) _ d4.1 in
    let d6 = and_parts (differs_from (codes "revoke") names) _ d5.1 in
    let d7 = and_parts (differs_from (codes "keepalive") names) _ d6.1 in
    let d8 = and_parts (differs_from (codes "timetolive") names) _ d7.1 in
    let d9 = and_parts (differs_from (codes "leases") names) _ d8.1 in
    named-IsForm space (codes "range") _ range_body (from_put more) refl d1.0 range_body-IsForm
    (named-IsChoice space (codes "put") _ prev (from_delete more) refl d2.0 prev-IsForm
    (named-IsChoice space (codes "delete") _ delete_body (from_compact more) refl d3.0 delete_body-IsForm
    (named-IsChoice space (codes "compact") _ nothing (from_grant more) refl d4.0 (nothing-IsForm space)
    (named-IsChoice space (codes "grant") _ (both number number) (from_revoke more) refl d5.0 two_numbers
    (named-IsChoice space (codes "revoke") _ nothing (from_keepalive more) refl d6.0 (nothing-IsForm space)
    (named-IsChoice space (codes "keepalive") _ (both number number) (from_timetolive more) refl d7.0 two_numbers
    (named-IsChoice space (codes "timetolive") _ timetolive_body (from_leases more) refl d8.0 timetolive_body-IsForm
    (named-IsChoice space (codes "leases") names leases_body more refl d9.0 leases_body-IsForm p))))))))

layer_back : (w : BodyWords (Bool × List Body)) → layer_from (layer_to w) ≡ w
layer_back (inl w) = refl
layer_back (inr (inl o)) = refl
layer_back (inr (inr (inl w))) = refl
layer_back (inr (inr (inr (inl u)))) = refl
layer_back (inr (inr (inr (inr (inl w))))) = refl
layer_back (inr (inr (inr (inr (inr (inl u)))))) = refl
layer_back (inr (inr (inr (inr (inr (inr (inl w))))))) = refl
layer_back (inr (inr (inr (inr (inr (inr (inr (inl w)))))))) = refl
layer_back (inr (inr (inr (inr (inr (inr (inr (inr (inl ns))))))))) = refl
layer_back (inr (inr (inr (inr (inr (inr (inr (inr (inr w))))))))) = refl

layer_forth : (y : layer.Body-F Body) → layer_to (layer_from y) ≡ y
layer_forth (layer.Range count more found) = refl
layer_forth (layer.Put o) = refl
layer_forth (layer.Delete deleted prevs) = refl
layer_forth layer.Compact = refl
layer_forth (layer.Grant lease given) = refl
layer_forth layer.Revoke = refl
layer_forth (layer.KeepAlive lease left) = refl
layer_forth (layer.TimeToLive lease left granted keys) = refl
layer_forth (layer.Leases leases) = refl
layer_forth (layer.Txn succeeded bodies) = refl

body_back : (w : BodyWords (Bool × List Body)) → body_from (body_to w) ≡ w
body_back w = ap layer_from (out-roll-Body (layer_to w)) ∙ layer_back w

body_forth : (b : Body) → body_to (body_from b) ≡ b
body_forth b = ap roll-Body (layer_forth (out-Body b)) ∙ roll-out-Body b

-- ---- bodies in turn

rows_are : {m : _} (inner : Row_of-Body m) → row_words inner ≡ flat_map body_words (items-the_row-Body m inner)
rows_are end_of-Body = refl
rows_are (more_of-Body first rest) = λ i. body_words first ++ rows_are rest i

rows_count : {m : _} (inner : Row_of-Body m) → row_length inner ≡ length (items-the_row-Body m inner)
rows_count end_of-Body = refl
rows_count (more_of-Body first rest) = λ i. suc (rows_count rest i)

hidden_words : (inner : List Body) → row_words (hidden-the_row-Body-0 inner) ≡ flat_map body_words inner
hidden_words inner = rows_are (hidden-the_row-Body-0 inner) ∙ ap (λ (l : List Body). flat_map body_words l) (items_hidden-the_row-Body-0 inner)

hidden_length : (inner : List Body) → row_length (hidden-the_row-Body-0 inner) ≡ length inner
hidden_length inner = rows_count (hidden-the_row-Body-0 inner) ∙ ap (λ (l : List Body). length l) (items_hidden-the_row-Body-0 inner)

hidden_list : (inner : List Body) → number.spell (row_length (hidden-the_row-Body-0 inner)) ++ row_words (hidden-the_row-Body-0 inner) ≡ body_list inner
hidden_list inner = λ i. number.spell (hidden_length inner i) ++ hidden_words inner i

pub body_words-Txn : (succeeded : Bool) (inner : List Body) → body_words (bodies.Txn succeeded inner) ≡ codes "txn" ∷ txn_body_words (succeeded, inner)
body_words-Txn succeeded inner = λ i. codes "txn" ∷ (branch.spell succeeded ++ hidden_list inner i)

-- a transaction's body is written as its words
pub ruleset txn_body_written = (body_words-Txn)

-- ---- the form of bodies

-- the form at each depth, by whether a transaction may stand there
body_form_at : (n : ℕ) (ws : List Word) → (body_form n).read ws ≡ (one_body (nat_lt 0 n) (body_form (n - 1))).read ws
unfolding body_form
body_form_at zero ws = refl
body_form_at (suc n) ws =
    let some : nat_lt 0 (suc n) ≡ true = lt-ltb 0 (suc n) (omega arith) in
    let less : suc n - 1 ≡ n = omega arith in
    λ i. (one_body (sym some i) (body_form (sym less i))).read ws

pub body_form-read : (n inner : ℕ) (ws : List Word) → inner ≡ n - 1 → (body_form n).read ws ≡ (one_body (nat_lt 0 n) (body_form inner)).read ws
body_form-read n inner ws e = body_form_at n ws ∙ ap (λ (k : ℕ). (one_body (nat_lt 0 n) (body_form k)).read ws) (sym e)

layer_spells : (y : layer.Body-F Body) (more : Form (Bool × List Body)) → ((w : Bool × List Body) → more.fits w ≡ true → more.spell w ≡ codes "txn" ∷ txn_body_words w) → (body_words_form more).fits (layer_from y) ≡ true → (body_words_form more).spell (layer_from y) ≡ body_words (roll-Body y)
layer_spells (layer.Range count more found) tail txns fits = ap body_words (sym (rolls-Range count more found))
layer_spells (layer.Put o) tail txns fits = ap body_words (sym (rolls-Put o))
layer_spells (layer.Delete deleted prevs) tail txns fits = ap body_words (sym (rolls-Delete deleted prevs))
layer_spells layer.Compact tail txns fits = ap body_words (sym rolls-Compact)
layer_spells (layer.Grant lease given) tail txns fits = ap body_words (sym (rolls-Grant lease given))
layer_spells layer.Revoke tail txns fits = ap body_words (sym rolls-Revoke)
layer_spells (layer.KeepAlive lease left) tail txns fits = ap body_words (sym (rolls-KeepAlive lease left))
layer_spells (layer.TimeToLive lease left granted keys) tail txns fits = ap body_words (sym (rolls-TimeToLive lease left granted keys))
layer_spells (layer.Leases leases) tail txns fits = ap body_words (sym (rolls-Leases leases))
layer_spells (layer.Txn succeeded inner) tail txns fits =
    txns (succeeded, inner) fits ∙ sym (body_words-Txn succeeded inner) ∙ ap body_words (sym (rolls-Txn succeeded inner))

body_spells : (b : Body) (more : Form (Bool × List Body)) → ((w : Bool × List Body) → more.fits w ≡ true → more.spell w ≡ codes "txn" ∷ txn_body_words w) → (via body_to body_from (body_words_form more)).fits b ≡ true → (via body_to body_from (body_words_form more)).spell b ≡ body_words b
body_spells b more txns fits = layer_spells (out-Body b) more txns fits ∙ ap body_words (roll-out-Body b)

one_body-IsForm : (nests : Bool) (inner : Form Body) → ((w : Bool × List Body) → nests ≡ true → (txn_body inner).spell w ≡ txn_body_words w) → (nests ≡ true → IsForm space inner) → IsForm space (one_body nests inner)
one_body-IsForm nests inner txns p =
    let tail : Form (Bool × List Body) = allowed nests (after (codes "txn") (txn_body inner)) in
    let choice = allowed-IsChoice space (codes "txn" ∷ []) nests (after (codes "txn") (txn_body inner)) (λ e. after-IsChoice space (codes "txn") (txn_body inner) refl (txn_body-IsForm inner (p e))) in
    spelled_as-IsForm space body_words (via body_to body_from (body_words_form tail))
    (λ b fits. body_spells b tail (λ w fit. ap (λ (v : List Word). codes "txn" ∷ v) (txns w (and_parts nests ((txn_body inner).fits w) fit).0)) fits)
    (via-IsForm space body_to body_from (body_words_form tail) (λ w fits. body_back w) body_forth (bodies-IsForm (codes "txn" ∷ []) tail refl choice))

pub body_form-spell : (n : ℕ) (b : Body) → (body_form n).spell b ≡ body_words b
unfolding body_form
body_form-spell zero b = refl
body_form-spell (suc n) b = refl

txn_body_spells : (n : ℕ) (w : Bool × List Body) → (txn_body (body_form n)).spell w ≡ txn_body_words w
txn_body_spells n w = λ i. branch.spell w.0 ++ (number.spell (length w.1) ++ flat_map (λ b. body_form-spell n b i) w.1)

pub body_form-IsForm : (n : ℕ) → IsForm space (body_form n)
unfolding body_form
body_form-IsForm zero = one_body-IsForm false never (λ w e. absurd cc) (λ e. absurd cc)
body_form-IsForm (suc n) = one_body-IsForm true (body_form n) (λ w e. txn_body_spells n w) (λ e. body_form-IsForm n)

pub body-IsForm : IsForm space body
unfolding body
body-IsForm = body_form-IsForm max_nesting

pub body-spell : (b : Body) → body.spell b ≡ body_words b
unfolding body
body-spell b = body_form-spell max_nesting b

-- a body is written as its words
pub ruleset body_written = (body-spell)

-- ---- answers

answer_back : (s : (Header × Body) ⊎ (ℕ × List ℕ)) → answer_from (answer_to s) ≡ s
answer_back (inl w) = refl
answer_back (inr w) = refl

answer_forth : (a : Answer) → answer_to (answer_from a) ≡ a
answer_forth (Done r) = refl
answer_forth (Refused r) = refl

pub refusal_words-IsForm : IsForm space refusal_words
unfolding refusal_words
refusal_words-IsForm = both-IsForm _ _ _ (number_within-IsForm space 0 (2 ^ 32 - 1) (omega arith) (omega arith) (omega arith)) some_bytes

pub answer-IsForm : IsForm space answer
unfolding answer
answer-IsForm =
    via-IsForm space answer_to answer_from _ (λ b fits. answer_back b) answer_forth
    (named-IsForm space (codes "ok") _ (both header body) (after (codes "err") refusal_words) refl refl (both-IsForm _ _ _ header-IsForm body-IsForm) (after-IsChoice space (codes "err") refusal_words refl refusal_words-IsForm))
