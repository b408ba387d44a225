-- Each kind of word is read as it is spelled.
use Rattle.std.proofs.Common.{◌≡◌, ℕ, ◌+◌, ◌-◌, ◌^◌, ◌<◌, ◌≤◌, ◌/◌, ◌%◌, Bool, true, false, not, ◌&&◌, ◌||◌, cond, ltb, List, [], ◌∷◌, ◌++◌, Option, refl, sym, ap, subst, ◌∙◌, inl, inr, arith, All, decimal}
use Rattle.std.specs.Prelude.{bytes_eq, flat_map, ◌==◌, nat_lt, nat_le}
use Rattle.std.specs.List.{list_all}
use Rattle.std.specs.Char.{is_ascii, is_ascii_alphanumeric}
use Rattle.std.specs.Str.Parse.{AllDigits, digits_value}
use Rattle.std.proofs.lemmas.Bool.{and_parts, and_from, cases_Bool, agree_below, agree_below_at, leb-true, le-leb, ltb-true, cases_lt, cond_both}
use Rattle.std.proofs.lemmas.Bool.Decides.{nat_tests}
use Rattle.std.proofs.lemmas.Fmt.{decimal_is_IsNumeral}
use Rattle.std.proofs.lemmas.Str.Parse.{digit_from_value}
use Rattle.std.specs.List.{AllByRecursion}
use Rattle.std.specs.Fmt.{digit_glyph}
use Rattle.std.proofs.lemmas.List.Elements.{All-from_recursion}
use Rattle.std.proofs.lemmas.List.Folds.{list_all-append}
use Rattle.std.proofs.lemmas.List.Concat.{flat_map-cons}
use Rattle.percent_encoding.specs.AsciiSet.{contains, should_percent_encode}
use Rattle.percent_encoding.specs.Percent.{percent_encode, percent_decode, encode_byte, percent_encode_byte}
use Rattle.percent_encoding.proofs.PercentLemmas.{round_trip, IsByte}
use Rattle.text_model.specs.declared.TheConstants.{ESCAPED}
use Rattle.text_model.specs.Forms.{Word, Form, one_word, respelled}
use Rattle.text_model.specs.Words.{is_within, number_within, max_number, number, is_plain, escaped, byte_text, bytes_word, bytes_guess, are_bytes, bytes, has, any_value, flag_word, flag, two_flags_word, two_flags, three_flags_word, three_flags, four_flags_word, four_flags}
use Rattle.text_model.proofs.Laws.{lacks, IsForm, IsWord, one_word-IsForm, respelled-IsWord}

-- ---- numbers

pub within_parts : (low high n : ℕ) → is_within low high n ≡ true → (low ≤ n) × (n ≤ high)
within_parts low high n e =
    let p = and_parts (nat_le low n) (nat_le n high) e in
    (leb-true low n p.0, leb-true n high p.1)

-- digits have no byte below `0`
pub digits_lack : (c : ℕ) → c < 48 → (ds : List ℕ) → AllDigits 10 ds → lacks c ds ≡ true
digits_lack c small [] all = refl
digits_lack c small (d ∷ ds) all =
    let range = digit_from_value d all.0 in
    and_from _ _ (grind (arith, nat_tests)) (digits_lack c small ds all.1)

pub number_within-IsForm : (c low high : ℕ) → c < 48 → low ≤ high → high < 2 ^ 64 → IsForm c (number_within low high)
number_within-IsForm c low high small some bound =
    one_word-IsForm c decimal _ (is_within low high)
    (respelled-IsWord c decimal (digits_value 10) (is_within low high)
    (λ n fits. let w = within_parts low high n fits in (decimal_is_IsNumeral n (omega arith)).1)
    (λ n fits. let w = within_parts low high n fits in digits_lack c small (decimal n) (decimal_is_IsNumeral n (omega arith)).0.1))
    high (and_from _ _ (le-leb low high some) (le-leb high high (omega arith)))

pub number-IsForm : (c : ℕ) → c < 48 → IsForm c number
number-IsForm c small = number_within-IsForm c 0 max_number small (omega arith) (omega arith)

-- ---- bytes

plain_below : agree_below (contains ESCAPED) (λ b. not (is_plain b)) 128 ≡ true
plain_below = refl

not_plain_above : (b : ℕ) → 128 ≤ b → is_plain b ≡ false
not_plain_above b le = grind (arith, nat_tests)

should_is : (b : ℕ) → should_percent_encode ESCAPED b ≡ not (is_plain b)
unfolding should_percent_encode
should_is b =
    elim (cases_lt b 128) [
      | inl lt ↦
          let ascii : is_ascii b ≡ true = grind (arith, nat_tests) in
          rw ascii (agree_below_at (contains ESCAPED) (λ b. not (is_plain b)) 128 b plain_below lt)
      | inr le ↦
          let ascii : is_ascii b ≡ false = grind (arith, nat_tests) in
          rw (ascii, not_plain_above b le) refl
    ]

encode_byte_is : (b : ℕ) → encode_byte ESCAPED b ≡ byte_text b
unfolding percent_encode_byte
encode_byte_is b =
    elim (cases_Bool (is_plain b)) [
      | inl e ↦ rw (should_is b, e) refl
      | inr e ↦ rw (should_is b, e) refl
    ]

pub encode_is : (bs : List ℕ) → percent_encode ESCAPED bs ≡ flat_map byte_text bs
unfolding percent_encode
encode_is bs = λ i. flat_map (λ b. encode_byte_is b i) bs

first_differs : (b : ℕ) (bs : List ℕ) → bytes_eq (flat_map byte_text (b ∷ bs)) (126 ∷ []) ≡ false
first_differs b bs =
    elim (cases_Bool (is_plain b)) [
      | inl e ↦ let other : (b == 126) ≡ false = grind (arith, nat_tests) in rw (flat_map-cons, e, other) refl
      | inr e ↦ rw (flat_map-cons, e) refl
    ]

each_fits : (bs : List ℕ) → are_bytes bs ≡ true → AllByRecursion IsByte bs
each_fits [] fits = tt
each_fits (b ∷ bs) fits =
    let p = and_parts (nat_lt b 256) (are_bytes bs) fits in
    (ltb-true b 256 p.0, each_fits bs p.1)

pub bytes_back : (bs : List ℕ) → are_bytes bs ≡ true → bytes_guess (bytes_word bs) ≡ bs
unfolding bytes_word
bytes_back [] fits = refl
bytes_back (b ∷ bs) fits =
    let trip = round_trip ESCAPED (b ∷ bs) refl (All-from_recursion IsByte (b ∷ bs) (each_fits (b ∷ bs) fits)) in
    rw (first_differs b bs, ← (encode_is (b ∷ bs))) trip

glyph_lacks : (c d : ℕ) → c < 37 → d < 16 → not (digit_glyph true d == c) ≡ true
glyph_lacks c d small low =
    cond_both (ltb d 10) (48 + d) (55 + d) (λ g. not (g == c) ≡ true) (λ e. grind (arith, nat_tests)) (λ e. grind (arith, nat_tests))

byte_lacks : (c b : ℕ) → c < 37 → lacks c (byte_text b) ≡ true
byte_lacks c b small =
    elim (cases_Bool (is_plain b)) [
      | inl e ↦ let other : not (b == c) ≡ true = grind (arith, nat_tests) in rw e (and_from _ _ other refl)
      | inr e ↦
          let sign : not (37 == c) ≡ true = grind (arith, nat_tests) in
          rw e (and_from _ _ sign (and_from _ _ (glyph_lacks c (b / 16 % 16) small (omega arith)) (and_from _ _ (glyph_lacks c (b % 16) small (omega arith)) refl)))
    ]

all_lack : (c : ℕ) (bs : List ℕ) → c < 37 → lacks c (flat_map byte_text bs) ≡ true
all_lack c [] small = refl
all_lack c (b ∷ bs) small =
    rw flat_map-cons (list_all-append (λ x. not (x == c)) (byte_text b) (flat_map byte_text bs) ∙ and_from _ _ (byte_lacks c b small) (all_lack c bs small))

bytes_lack : (c : ℕ) (bs : List ℕ) → c < 37 → lacks c (bytes_word bs) ≡ true
unfolding bytes_word
bytes_lack c [] small = let other : not (126 == c) ≡ true = grind (arith, nat_tests) in and_from _ _ other refl
bytes_lack c (b ∷ bs) small = all_lack c (b ∷ bs) small

pub bytes-IsWord : (c : ℕ) → c < 37 → IsWord c bytes_word (respelled bytes_word bytes_guess are_bytes) are_bytes
bytes-IsWord c small = respelled-IsWord c bytes_word bytes_guess are_bytes bytes_back (λ bs fits. bytes_lack c bs small)

pub bytes-IsForm : (c : ℕ) → c < 37 → IsForm c bytes
unfolding bytes
bytes-IsForm c small = one_word-IsForm c bytes_word _ are_bytes (bytes-IsWord c small) [] refl

-- ---- flags

pub flag-IsForm : (c a : ℕ) → ((x : Bool) → has a (flag_word a x) ≡ x) → ((x : Bool) → lacks c (flag_word a x) ≡ true) → IsForm c (flag a)
flag-IsForm c a back lacking =
    one_word-IsForm c (flag_word a) _ any_value (respelled-IsWord c (flag_word a) (has a) any_value (λ x fits. back x) (λ x fits. lacking x)) false refl

pub two_flags-IsForm : (c a b : ℕ) → ((x : Bool × Bool) → (has a (two_flags_word a b x), has b (two_flags_word a b x)) ≡ x) → ((x : Bool × Bool) → lacks c (two_flags_word a b x) ≡ true) → IsForm c (two_flags a b)
two_flags-IsForm c a b back lacking =
    one_word-IsForm c (two_flags_word a b) _ any_value (respelled-IsWord c (two_flags_word a b) _ any_value (λ x fits. back x) (λ x fits. lacking x)) (false, false) refl

pub three_flags-IsForm : (c a b d : ℕ) → ((x : Bool × Bool × Bool) → (has a (three_flags_word a b d x), has b (three_flags_word a b d x), has d (three_flags_word a b d x)) ≡ x) → ((x : Bool × Bool × Bool) → lacks c (three_flags_word a b d x) ≡ true) → IsForm c (three_flags a b d)
three_flags-IsForm c a b d back lacking =
    one_word-IsForm c (three_flags_word a b d) _ any_value (respelled-IsWord c (three_flags_word a b d) _ any_value (λ x fits. back x) (λ x fits. lacking x)) (false, false, false) refl

pub four_flags-IsForm : (c a b d e : ℕ) → ((x : Bool × Bool × Bool × Bool) → (has a (four_flags_word a b d e x), has b (four_flags_word a b d e x), has d (four_flags_word a b d e x), has e (four_flags_word a b d e x)) ≡ x) → ((x : Bool × Bool × Bool × Bool) → lacks c (four_flags_word a b d e x) ≡ true) → IsForm c (four_flags a b d e)
four_flags-IsForm c a b d e back lacking =
    one_word-IsForm c (four_flags_word a b d e) _ any_value (respelled-IsWord c (four_flags_word a b d e) _ any_value (λ x fits. back x) (λ x fits. lacking x)) (false, false, false, false) refl
