-- What the digits of a number are worth, and which number a word spells.
use Rattle.std.proofs.Common.{◌≡◌, ℕ, ◌+◌, ◌-◌, ◌*◌, ◌%◌, ◌<◌, ◌≤◌, ◌^◌, true, List, Some, length, take, get_or, sym, ap, ◌∙◌, subst, decimal, arith}
use Rattle.std.specs.Prelude.{bytes_eq}
use Rattle.std.specs.Int.{IsInRange}
use Rattle.std.specs.Str.Parse.{AllDigits, digits_value}
use Rattle.std.proofs.lemmas.Bool.{and_from, le-leb}
use Rattle.std.proofs.lemmas.Fmt.{decimal_is_IsNumeral}
use Rattle.std.proofs.lemmas.Int.Digits.{digits_value_more}
use Rattle.std.proofs.lemmas.List.{take_all}
use Rattle.std.proofs.lemmas.Str.{digit_value_digit}
use Rattle.std.proofs.lemmas.Str.Parse.{digit_at, digits_value-take-le}
use Rattle.std.proofs.lemmas.Slice.Eq.{bytes_eq-Decides}
use Rattle.text_model.specs.Forms.{respelled}
use Rattle.text_model.specs.Words.{is_within}
use Rattle.text_model.proofs.Laws.{respelled_found}

-- What one more digit of a number does to the value of those before it, and that the value stays below the number's bound.
pub record NextDigit (word : List ℕ) (i n : ℕ) : Type 0 where
  pub digit : IsInRange 48 57 (get_or word i 0)
  pub value : digits_value 10 (take (i + 1) word) + 48 ≡ digits_value 10 (take i word) * 10 + get_or word i 0
  pub small : digits_value 10 (take (i + 1) word) < 2 ^ 64

digits_of : (n : ℕ) (word : List ℕ) → n < 2 ^ 64 → word ≡ decimal n → AllDigits 10 word
digits_of n word lt e = subst (AllDigits 10) (sym e) (decimal_is_IsNumeral n lt).0.1

value_of : (n : ℕ) (word : List ℕ) → n < 2 ^ 64 → word ≡ decimal n → digits_value 10 word ≡ n
value_of n word lt e = ap (digits_value 10) e ∙ (decimal_is_IsNumeral n lt).1

pub next_digit : (word : List ℕ) (i n : ℕ) → i < length word → n < 2 ^ 64 → word ≡ decimal n → NextDigit word i n
next_digit word i n within lt e =
    let digit = digit_at word i (digits_of n word lt e) within in
    let one = digit_value_digit (get_or word i 0) digit in
    record {
      digit = digit;
      value = omega (arith, digits_value_more 10 word i within, one);
      small = omega (arith, digits_value-take-le 10 word (i + 1) (omega arith), value_of n word lt e, lt);
    }

-- so nothing of it is lost where the machine's numbers wrap
pub kept_whole : (number digit before after byte : ℕ) → number ≡ before → digit ≡ (byte + 208) % 256 → IsInRange 48 57 byte → after + 48 ≡ before * 10 + byte → after < 2 ^ 64
    → ((number * 10) % 2 ^ 64 + digit) % 2 ^ 64 ≡ after
kept_whole number digit before after byte same is range worth small =
    let value : digit ≡ byte - 48 = omega (arith, is, range.0, range.1) in
    let short : number * 10 + digit ≡ after = omega (arith, same, value, worth, range.0) in
    let first : (number * 10) % 2 ^ 64 ≡ number * 10 = omega (arith, short, small) in
    omega (arith, first, short, small)

pub all_digits : (word : List ℕ) (i n : ℕ) → length word ≤ i → n < 2 ^ 64 → word ≡ decimal n → digits_value 10 (take i word) ≡ n
all_digits word i n le lt e = ap (digits_value 10) (take_all i word le) ∙ value_of n word lt e

pub number_found : (word : List ℕ) (low high n : ℕ) → n < 2 ^ 64 → low ≤ n → n ≤ high → bytes_eq word (decimal n) ≡ true → Some n ≡ respelled decimal (digits_value 10) (is_within low high) word
number_found word low high n lt above below same =
    let e : word ≡ decimal n = (bytes_eq-Decides word (decimal n)).0 same in
    sym (respelled_found decimal (digits_value 10) (is_within low high) word n (ap (digits_value 10) e ∙ (decimal_is_IsNumeral n lt).1) e (and_from _ _ (le-leb low n above) (le-leb n high below)))
