-- Decimal text and what std's `parse` reads.
use Rattle.std.proofs.Common.{◌≡◌, ℕ, ◌<◌, ◌≤◌, ◌^◌, ◌+◌, true, false, List, [], ◌∷◌, length, drop, get_or, Some, None, Result, Ok, Err, option_and_then, pos, neg_ℤ, ℤ, sym, ◌∙◌, ap, arith, rules}
use Rattle.std.specs.Char.{is_ascii_digit}
use Rattle.std.specs.Int.{w64}
use Rattle.std.specs.List.{list_all}
use Rattle.std.specs.Result.{OkIff, result_ok}
use Rattle.std.specs.Str.Parse.{ParsesUnsigned, ParsesSigned, digits_value}
use Rattle.std.proofs.lemmas.Bool.{and_parts, cond-true, cond-false, lt-ltb, le-ltb}
use Rattle.std.proofs.lemmas.Str.Parse.{IsNumeralModel, numerals_by_value, parse_digits, parse_signed_minus}
use Rattle.json_model.specs.Numbers.{begins_well, is_canonical, below, decimal_of, unless_zero, negative_of}

pub own : IsNumeralModel (λ ds. list_all is_ascii_digit ds ≡ true) (digits_value 10)
own = numerals_by_value _ (search rules)

some_digit : (text : List ℕ) → begins_well text ≡ true → 0 < length text
some_digit [] e = absurd (cc)
some_digit (d ∷ ds) e = omega arith

by_parse : {E : Type 0} (limit n m : ℕ) (r : Result ℕ E) → 0 < m → OkIff r ((0 < m) × (n < limit)) n → result_ok r ≡ below limit n
by_parse limit n m (Ok x) some h = ap Some h.1 ∙ sym (cond-true _ _ _ (lt-ltb n limit h.0.1))
by_parse limit n m (Err e) some h = let high = λ (l : n < limit). h (some, l) in sym (cond-false _ _ _ (le-ltb n limit (omega (arith, high))))

-- the number that `parse` read of a canonical text
pub parsed : {E : Type 0} (text : List ℕ) (r : Result ℕ E) → ParsesUnsigned 64 10 text r → is_canonical text ≡ true → result_ok r ≡ decimal_of (2 ^ 64) text
parsed text r h e =
    let p = and_parts (begins_well text) _ e in
    let some = some_digit text p.0 in
    by_parse (2 ^ 64) (digits_value 10 text) (length text) r some (parse_digits own 64 text r h p.1) ∙ sym (cond-true _ _ _ e)

pub not_canonical : (limit : ℕ) (text : List ℕ) → is_canonical text ≡ false → None ≡ decimal_of limit text
not_canonical limit text e = sym (cond-false _ _ _ e)

negative_by_parse : {P : Type 0} {E : Type 0} (n m : ℕ) (r : Result ℤ E) → P → 0 < m → OkIff r (P × (0 < m) × (n ≤ 2 ^ 63)) (neg_ℤ (pos n))
    → option_and_then unless_zero (result_ok r) ≡ option_and_then negative_of (below (2 ^ 63 + 1) n)
negative_by_parse n m (Ok x) p some h =
    let within : n ≤ 2 ^ 63 = h.0.2 in
    ap unless_zero h.1 ∙ sym (ap (option_and_then negative_of) (cond-true _ _ _ (lt-ltb n (2 ^ 63 + 1) (omega arith))))
negative_by_parse n m (Err e) p some h =
    let high = λ (l : n ≤ 2 ^ 63). h (p, some, l) in
    sym (ap (option_and_then negative_of) (cond-false _ _ _ (le-ltb n (2 ^ 63 + 1) (omega (arith, high)))))

-- the same of a text that begins with a minus
pub negated : {E : Type 0} (text : List ℕ) (r : Result ℤ E) → ParsesSigned w64 10 text r → get_or text 0 0 ≡ 45 → is_canonical (drop 1 text) ≡ true
    → option_and_then unless_zero (result_ok r) ≡ option_and_then negative_of (decimal_of (2 ^ 63 + 1) (drop 1 text))
negated text r h minus e =
    let digits = drop 1 text in
    let p = and_parts (begins_well digits) _ e in
    let some = some_digit digits p.0 in
    negative_by_parse (digits_value 10 digits) (length digits) r p.1 some (parse_signed_minus own w64 text r h minus)
    ∙ sym (ap (option_and_then negative_of) (cond-true _ _ _ e))

pub not_negated : (text : List ℕ) → is_canonical text ≡ false → None ≡ option_and_then negative_of (decimal_of (2 ^ 63 + 1) text)
not_negated text e = sym (ap (option_and_then negative_of) (cond-false _ _ _ e))
