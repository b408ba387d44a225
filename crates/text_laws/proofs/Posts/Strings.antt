-- The strings of a JSON text are bytes, where the text is.
use Rattle.std.proofs.Common.{◌≡◌, ℕ, ◌+◌, ◌*◌, ◌/◌, ◌%◌, ◌<◌, ◌==◌, ◌&&◌, ◌||◌, Bool, true, false, cond, List, [], ◌∷◌, Option, None, Some, option_and_then, refl, arith}
use Rattle.std.specs.Prelude.{nat_lt, nat_le}
use Rattle.std.specs.Char.{digit_value, is_digit, encode_utf8}
use Rattle.std.proofs.lemmas.Bool.{ltb-true}
use Rattle.etcd_types.proofs.Bools.{and_first, and_second}
use Rattle.json.specs.Ascii as ascii
use Rattle.json.specs.Text.{code_unit, short_escape, is_high_surrogate, is_low_surrogate, surrogate_pair, Within, plain, after_backslash, after_u, after_high, prepend, content}
use Rattle.text_laws.specs.Values.Fits.{If, IsByte, Bytes}
use Rattle.text_laws.proofs.Values.Alls.{either, all_append}

-- ---- characters

encoded_bytes : (c : ℕ) → c < 4194304 → Bytes (encode_utf8 c)
unfolding encode_utf8
encoded_bytes c h = by_one (nat_lt c 128) refl
  where
    by_three : (b : Bool) → nat_lt c 65536 ≡ b → Bytes (cond b ((224 + c / 4096) ∷ (128 + c / 64 % 64) ∷ (128 + c % 64) ∷ []) ((240 + c / 262144) ∷ (128 + c / 4096 % 64) ∷ (128 + c / 64 % 64) ∷ (128 + c % 64) ∷ []))
    by_three true e = let l = ltb-true c 65536 e in (omega (arith, l), (omega arith, (omega arith, tt)))
    by_three false e = (omega (arith, h), (omega arith, (omega arith, (omega arith, tt))))

    by_two : (b : Bool) → nat_lt c 2048 ≡ b
        → Bytes (cond b ((192 + c / 64) ∷ (128 + c % 64) ∷ []) (cond (nat_lt c 65536) ((224 + c / 4096) ∷ (128 + c / 64 % 64) ∷ (128 + c % 64) ∷ []) ((240 + c / 262144) ∷ (128 + c / 4096 % 64) ∷ (128 + c / 64 % 64) ∷ (128 + c % 64) ∷ [])))
    by_two true e = let l = ltb-true c 2048 e in (omega (arith, l), (omega arith, tt))
    by_two false e = by_three (nat_lt c 65536) refl

    by_one : (b : Bool) → nat_lt c 128 ≡ b
        → Bytes (cond b (c ∷ []) (cond (nat_lt c 2048) ((192 + c / 64) ∷ (128 + c % 64) ∷ []) (cond (nat_lt c 65536) ((224 + c / 4096) ∷ (128 + c / 64 % 64) ∷ (128 + c % 64) ∷ []) ((240 + c / 262144) ∷ (128 + c / 4096 % 64) ∷ (128 + c / 64 % 64) ∷ (128 + c % 64) ∷ []))))
    by_one true e = let l = ltb-true c 128 e in (omega (arith, l), tt)
    by_one false e = by_two (nat_lt c 2048) refl

four : (a b c d : ℕ) → a < 16 → b < 16 → c < 16 → d < 16 → a * 4096 + b * 256 + c * 16 + d < 65536
four a b c d h i j k = omega (arith, h, i, j, k)

unit_small : (a b c d : ℕ) → If (λ (u : ℕ). u < 65536) (code_unit a b c d)
unfolding code_unit
unit_small a b c d = by_test (is_digit a 16 && is_digit b 16 && is_digit c 16 && is_digit d 16) refl
  where
    by_test : (t : Bool) → is_digit a 16 && is_digit b 16 && is_digit c 16 && is_digit d 16 ≡ t → If (λ (u : ℕ). u < 65536) (cond t (Some (digit_value a * 4096 + digit_value b * 256 + digit_value c * 16 + digit_value d)) None)
    by_test false e = tt
    by_test true e =
        let abc = and_first (is_digit a 16 && is_digit b 16 && is_digit c 16) (is_digit d 16) e in
        let ab = and_first (is_digit a 16 && is_digit b 16) (is_digit c 16) abc in
        four (digit_value a) (digit_value b) (digit_value c) (digit_value d) (ltb-true (digit_value a) 16 (and_first (is_digit a 16) (is_digit b 16) ab)) (ltb-true (digit_value b) 16 (and_second (is_digit a 16) (is_digit b 16) ab))
        (ltb-true (digit_value c) 16 (and_second (is_digit a 16 && is_digit b 16) (is_digit c 16) abc)) (ltb-true (digit_value d) 16 (and_second (is_digit a 16 && is_digit b 16 && is_digit c 16) (is_digit d 16) e))

short_bytes : (x : ℕ) → IsByte x → If IsByte (short_escape x)
unfolding short_escape
short_bytes x h =
    either (If IsByte) ((x == ascii.quote) || (x == ascii.backslash) || (x == ascii.slash)) (Some x) _ h
    (either (If IsByte) (x == ascii.lower_b) (Some ascii.backspace) _ (omega arith)
    (either (If IsByte) (x == ascii.lower_f) (Some ascii.form_feed) _ (omega arith)
    (either (If IsByte) (x == ascii.lower_n) (Some ascii.line_feed) _ (omega arith) (either (If IsByte) (x == ascii.lower_r) (Some ascii.carriage_return) _ (omega arith) (either (If IsByte) (x == ascii.lower_t) (Some ascii.tab) None (omega arith) tt)))))

-- ---- strings

prepended : (bs : List ℕ) (o : Option (List ℕ)) → Bytes bs → If Bytes o → If Bytes (prepend bs o)
prepended bs None h k = tt
prepended bs (Some s) h k = all_append IsByte bs s h k

escaped : (o : Option ℕ) (rest : Option (List ℕ)) → If IsByte o → If Bytes rest → If Bytes (option_and_then (λ c. prepend (c ∷ []) rest) o)
escaped None rest h k = tt
escaped (Some c) rest h k = prepended (c ∷ []) rest (h, tt) k

pair_small : (high low : ℕ) → high < 56320 → low < 57344 → surrogate_pair high low < 4194304
pair_small high low h l = omega (arith, h, l)

unit_bytes : (o : Option ℕ) (rest : Option (List ℕ)) (next : ℕ → Option (List ℕ)) → If (λ (u : ℕ). u < 65536) o → If Bytes rest → ((u : ℕ) → u < 56320 → If Bytes (next u))
    → If Bytes (option_and_then (λ u. cond (is_high_surrogate u) (next u) (cond (is_low_surrogate u) None (prepend (encode_utf8 u) rest))) o)
unit_bytes None rest next h k f = tt
unit_bytes (Some u) rest next h k f = by_high (is_high_surrogate u) refl
  where
    by_high : (b : Bool) → is_high_surrogate u ≡ b → If Bytes (cond b (next u) (cond (is_low_surrogate u) None (prepend (encode_utf8 u) rest)))
    by_high true e = f u (ltb-true u 56320 (and_second (nat_le 0xd800 u) (nat_lt u 0xdc00) e))
    by_high false e = either (If Bytes) (is_low_surrogate u) None (prepend (encode_utf8 u) rest) tt (prepended (encode_utf8 u) rest (encoded_bytes u (omega (arith, h))) k)

low_bytes : (high : ℕ) (o : Option ℕ) (rest : Option (List ℕ)) → high < 56320 → If Bytes rest → If Bytes (option_and_then (λ l. cond (is_low_surrogate l) (prepend (encode_utf8 (surrogate_pair high l)) rest) None) o)
low_bytes high None rest h k = tt
low_bytes high (Some l) rest h k = by_low (is_low_surrogate l) refl
  where
    by_low : (b : Bool) → is_low_surrogate l ≡ b → If Bytes (cond b (prepend (encode_utf8 (surrogate_pair high l)) rest) None)
    by_low true e = prepended (encode_utf8 (surrogate_pair high l)) rest (encoded_bytes (surrogate_pair high l) (pair_small high l h (ltb-true l 57344 (and_second (nat_le 0xdc00 l) (nat_lt l 0xe000) e)))) k
    by_low false e = tt

abbrev IsHigh : Within → Type 0
IsHigh plain = Unit {0}
IsHigh after_backslash = Unit {0}
IsHigh after_u = Unit {0}
IsHigh (after_high h) = h < 56320

pub content_bytes : (w : Within) (xs : List ℕ) → IsHigh w → Bytes xs → If Bytes (content w xs)
unfolding content
content_bytes plain [] t h = tt
content_bytes plain (x ∷ xs) t h =
    either (If Bytes) (x == ascii.quote) (Some []) _ tt
    (either (If Bytes) (x == ascii.backslash) (content after_backslash xs) _ (content_bytes after_backslash xs tt h.1)
    (either (If Bytes) (nat_lt x ascii.space) None (prepend (x ∷ []) (content plain xs)) tt (prepended (x ∷ []) (content plain xs) (h.0, tt) (content_bytes plain xs tt h.1))))
content_bytes after_backslash [] t h = tt
content_bytes after_backslash (x ∷ xs) t h =
    either (If Bytes) (x == ascii.lower_u) (content after_u xs) _ (content_bytes after_u xs tt h.1) (escaped (short_escape x) (content plain xs) (short_bytes x h.0) (content_bytes plain xs tt h.1))
content_bytes after_u [] t h = tt
content_bytes after_u (a ∷ []) t h = tt
content_bytes after_u (a ∷ b ∷ []) t h = tt
content_bytes after_u (a ∷ b ∷ c ∷ []) t h = tt
content_bytes after_u (a ∷ b ∷ c ∷ d ∷ xs) t h =
    unit_bytes (code_unit a b c d) (content plain xs) (λ u. content (after_high u) xs) (unit_small a b c d) (content_bytes plain xs tt h.1.1.1.1) (λ u k. content_bytes (after_high u) xs k h.1.1.1.1)
content_bytes (after_high g) [] t h = tt
content_bytes (after_high g) (s ∷ []) t h = tt
content_bytes (after_high g) (s ∷ u ∷ []) t h = tt
content_bytes (after_high g) (s ∷ u ∷ a ∷ []) t h = tt
content_bytes (after_high g) (s ∷ u ∷ a ∷ b ∷ []) t h = tt
content_bytes (after_high g) (s ∷ u ∷ a ∷ b ∷ c ∷ []) t h = tt
content_bytes (after_high g) (s ∷ u ∷ a ∷ b ∷ c ∷ d ∷ xs) t h =
    either (If Bytes) ((s == ascii.backslash) && (u == ascii.lower_u)) _ None (low_bytes g (code_unit a b c d) (content plain xs) t (content_bytes plain xs tt h.1.1.1.1.1.1)) tt
