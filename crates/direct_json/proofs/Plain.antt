-- Digits and base64 texts stand for themselves in a JSON string.
use Rattle.std.proofs.Common.{◌≡◌, ℕ, zero, suc, ◌+◌, ◌*◌, ◌/◌, ◌%◌, ◌==◌, ◌<◌, ◌≤◌, ◌^◌, nat_le, Bool, true, not, ◌&&◌, List, [], ◌∷◌, ◌++◌, replicate, slice_index, decimal, refl, arith}
use Rattle.std.specs.Prelude.{⊤}
use Rattle.std.proofs.lemmas.Bool.{and_parts, leb-true, eqb-false, not-true}
use Rattle.std.proofs.lemmas.Fmt.{decimal_by_steps}
use Rattle.base64.specs.Rfc4648.{encode_symbols}
use Rattle.base64.specs.Tables.{all_below}
use Rattle.base64.specs.Engines.{standard}
use Rattle.base64.specs.GeneralPurpose.{IsBytes, encode_of}
use Rattle.base64.proofs.Tables.{all_below_at}
use Rattle.json.specs.Print.{escape}
use Rattle.json.proofs.Printed.Strings.{escape_byte_plain}

abbrev IsPlain : ℕ → Type 0
IsPlain x = (32 ≤ x) × (x ≡ 34 → ⊥) × (x ≡ 92 → ⊥)

abbrev ArePlain : List ℕ → Type 0
ArePlain [] = ⊤
ArePlain (x ∷ xs) = IsPlain x × ArePlain xs

escape_plain : (xs : List ℕ) → ArePlain xs → escape xs ≡ xs
escape_plain [] h = refl
escape_plain (x ∷ xs) h = λ i. escape_byte_plain x h.0.1 h.0.2 h.0.0 i ++ escape_plain xs h.1 i

plain_append : (xs ys : List ℕ) → ArePlain xs → ArePlain ys → ArePlain (xs ++ ys)
plain_append [] ys h k = k
plain_append (x ∷ xs) ys h k = (h.0, plain_append xs ys h.1 k)

-- ---- digits

digit_plain : (n : ℕ) → n < 10 → IsPlain (48 + n)
digit_plain n h = (omega arith, λ e. omega arith, λ e. omega arith)

decimal_plain : (n : ℕ) → n < 2 ^ 64 → ArePlain (decimal n)
decimal_plain =
    decimal_by_steps (λ n ds. ArePlain ds) (λ n h. (digit_plain n h, tt))
    (λ n ds h k. let last : n % 10 < 10 = omega arith in plain_append ds ((48 + n % 10) ∷ []) k (digit_plain (n % 10) last, tt))

pub escape_decimal : (n : ℕ) → n < 2 ^ 64 → escape (decimal n) ≡ decimal n
escape_decimal n h = escape_plain (decimal n) (decimal_plain n h)

-- ---- base64

abbrev is_plain_symbol : ℕ → Bool
is_plain_symbol i =
    nat_le 32 (slice_index standard.encode_table i) && (not (slice_index standard.encode_table i == 34) && not (slice_index standard.encode_table i == 92))

all_plain_symbols : all_below is_plain_symbol 64 ≡ true
all_plain_symbols = refl

symbol_plain : (i : ℕ) → i < 64 → IsPlain (slice_index standard.encode_table i)
symbol_plain i h =
    let s = slice_index standard.encode_table i in
    let all = and_parts (nat_le 32 s) _ (all_below_at is_plain_symbol 64 i all_plain_symbols h) in
    let others = and_parts (not (s == 34)) _ all.1 in
    (leb-true 32 s all.0, eqb-false s 34 (not-true (s == 34) others.0), eqb-false s 92 (not-true (s == 92) others.1))

symbols_plain : (m : List ℕ) → IsBytes m → ArePlain (encode_symbols standard.encode_table m)
unfolding encode_symbols
symbols_plain [] h = tt
symbols_plain (a ∷ []) h =
    let first : a < 256 = h 0 in
    (symbol_plain (a / 4) (omega arith), (symbol_plain (a % 4 * 16) (omega arith), tt))
symbols_plain (a ∷ b ∷ []) h =
    let first : a < 256 = h 0 in
    let second : b < 256 = h 1 in
    (symbol_plain (a / 4) (omega arith), (symbol_plain (a % 4 * 16 + b / 16) (omega arith), (symbol_plain (b % 16 * 4) (omega arith), tt)))
symbols_plain (a ∷ b ∷ c ∷ rest) h =
    let first : a < 256 = h 0 in
    let second : b < 256 = h 1 in
    let third : c < 256 = h 2 in
    let left = symbols_plain rest (λ i. h (suc (suc (suc i)))) in (
      symbol_plain (a / 4) (omega arith),
      (
        symbol_plain (a % 4 * 16 + b / 16) (omega arith),
        (
          symbol_plain (b % 16 * 4 + c / 64) (omega arith),
          (symbol_plain (c % 64) (omega arith), left),
        ),
      ),
    )

padding_plain : (n x : ℕ) → IsPlain x → ArePlain (replicate n x)
padding_plain zero x h = tt
padding_plain (suc n) x h = (h, padding_plain n x h)

sign_plain : (x : ℕ) → x ≡ 61 → IsPlain x
sign_plain x e = (omega arith, λ q. omega arith, λ b. omega arith)

encoded_plain : (m : List ℕ) → IsBytes m → ArePlain (encode_of standard m)
encoded_plain m h = plain_append (encode_symbols standard.encode_table m) _ (symbols_plain m h) (padding_plain _ _ (sign_plain _ refl))

pub escape_encoded : (m : List ℕ) → IsBytes m → escape (encode_of standard m) ≡ encode_of standard m
escape_encoded m h = escape_plain (encode_of standard m) (encoded_plain m h)
