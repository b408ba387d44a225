-- What base64 text decodes to is bytes, where the text is (RFC 4648): each symbol stands for six bits.
use Rattle.std.proofs.Common.{◌≡◌, ◌⊎◌, ℕ, zero, suc, ◌+◌, ◌*◌, ◌<◌, ◌==◌, Bool, true, false, cond, List, [], ◌∷◌, length, drop, slice_index, Option, None, Some, Result, Ok, Err, inl, inr, refl, sym, subst, arith}
use Rattle.std.proofs.lemmas.Bool.{eq-eqb}
use Rattle.base64.specs.declared.decode.DecodeError.{DecodeError}
use Rattle.base64.specs.declared.decode.DecodeError.TheVariants.{InvalidByte}
use Rattle.base64.specs.declared.engine.general_purpose.GeneralPurpose.{GeneralPurpose}
use Rattle.base64.specs.Decode.{decode_group, or_else, symbol_error, group_error, group_bytes, groups_error, groups_bytes, groups_before_last, lone_error, no_leftover, push_leftover, scan, scan_bytes, scan_last, suffix_bytes, decode_error, decoded_bytes, decode_outcome, IsDecodeTable}
use Rattle.base64.specs.Engines.{standard, standard_no_pad, url_safe, url_safe_no_pad}
use Rattle.base64.proofs.Decoding.{IsLeftover, IsLeftover_next, scan-cons_err, scan-cons_ok, scan-nil}
use Rattle.base64.proofs.Tables.{IsDecodeTable_from, are_tables_inverse}
use Rattle.json_model.specs.Base64.{ok_of, decoded_by, decoded}
use Rattle.json_model.specs.Base64 as base
use Rattle.text_laws.specs.Values.Fits.{If, IsByte, Bytes}
use Rattle.text_laws.proofs.Values.Alls.{all_append, all_take, all_drop}

-- each byte of a list, and behind it
at_bytes : (s : List ℕ) (i : ℕ) → Bytes s → slice_index s i < 256
at_bytes [] i h = omega arith
at_bytes (x ∷ s) zero h = h.0
at_bytes (x ∷ s) (suc i) h = at_bytes s i h.1

-- the first error of two: neither is there
record Neither (x y : Option DecodeError) : Type 0 where
  first : x ≡ None
  second : y ≡ None

neither : (x y : Option DecodeError) → or_else x y ≡ None → Neither x y
neither None y e = record { first = refl; second = e }
neither (Some x) y e = absurd (cc)

symbol_small : (dec s : List ℕ) (i : ℕ) → IsDecodeTable dec → Bytes s → symbol_error dec s i ≡ None → slice_index dec (slice_index s i) < 64
symbol_small dec s i t h e = by_table (t (slice_index s i) (at_bytes s i h))
  where
    refused : (b : Bool) → slice_index dec (slice_index s i) == 255 ≡ b → b ≡ true → ◌≡◌ {A = Option DecodeError} (cond b (Some (InvalidByte i (slice_index s i))) None) None → ⊥
    refused true f g k = cc
    refused false f g k = cc

    by_table : (slice_index dec (slice_index s i) ≡ 255) ⊎ (slice_index dec (slice_index s i) < 64) → slice_index dec (slice_index s i) < 64
    by_table (inl f) = absurd (refused (slice_index dec (slice_index s i) == 255) refl (eq-eqb (slice_index dec (slice_index s i)) 255 f) e)
    by_table (inr f) = f

four_bytes : (a b c d : ℕ) → a < 64 → b < 64 → c < 64 → d < 64 → Bytes (decode_group a b c d)
four_bytes a b c d h i j k = (omega (arith, h, i), (omega (arith, i, j), (omega (arith, j, k), tt)))

group_small : (dec s : List ℕ) (i : ℕ) → IsDecodeTable dec → Bytes s → group_error dec s i ≡ None → Bytes (group_bytes dec s i)
group_small dec s i t h e =
    let a = neither (symbol_error dec s i) _ e in
    let b = neither (symbol_error dec s (i + 1)) _ a.second in
    let c = neither (symbol_error dec s (i + 2)) (symbol_error dec s (i + 3)) b.second in
    four_bytes _ _ _ _ (symbol_small dec s i t h a.first) (symbol_small dec s (i + 1) t h b.first) (symbol_small dec s (i + 2) t h c.first) (symbol_small dec s (i + 3) t h c.second)

groups_small : (dec s : List ℕ) (q : ℕ) → IsDecodeTable dec → Bytes s → groups_error dec s q ≡ None → Bytes (groups_bytes dec s q)
unfolding groups_error groups_bytes
groups_small dec s zero t h e = tt
groups_small dec s (suc q) t h e =
    let a = neither (groups_error dec s q) (group_error dec s (4 * q)) e in
    all_append IsByte (groups_bytes dec s q) (group_bytes dec s (4 * q)) (groups_small dec s q t h a.first) (group_small dec s (4 * q) t h a.second)

-- ---- the last group

abbrev Scanned : {A : Type 0} → (A → ℕ → Type 0) → Result A DecodeError → Type 0
Scanned P (Ok st) = (i : ℕ) × P st i
Scanned P (Err e) = Unit {0}

scanned : (dec : List ℕ) (pad at : ℕ) (st : _) (i : ℕ) (bs : List ℕ) → IsDecodeTable dec → IsLeftover st i → Bytes bs → Scanned IsLeftover (scan dec pad at st i bs)
scanned dec pad at st i [] t l h = subst (Scanned IsLeftover) (sym (scan-nil dec pad at st i)) (i, l)
scanned dec pad at st i (b ∷ bs) t l h = by_push (push_leftover dec pad at st i b) refl (λ next m. scanned dec pad at next (i + 1) bs t m h.1)
  where
    by_push : (r : Result _ DecodeError) → push_leftover dec pad at st i b ≡ r → ((next : _) → IsLeftover next (i + 1) → Scanned IsLeftover (scan dec pad at next (i + 1) bs)) → Scanned IsLeftover (scan dec pad at st i (b ∷ bs))
    by_push (Ok next) e more = subst (Scanned IsLeftover) (sym (scan-cons_ok dec pad at st i b bs next e)) (more next (IsLeftover_next dec pad at st i b next t l h.0 e))
    by_push (Err x) e more = subst (Scanned IsLeftover) (sym (scan-cons_err dec pad at st i b bs x e)) tt

zeros : (k : ℕ) → slice_index (0 ∷ 0 ∷ 0 ∷ 0 ∷ []) k < 64
zeros zero = omega arith
zeros (suc zero) = omega arith
zeros (suc (suc zero)) = omega arith
zeros (suc (suc (suc zero))) = omega arith
zeros (suc (suc (suc (suc k)))) = omega arith

scan_result : (r : Result _ DecodeError) → Scanned IsLeftover r → Bytes (scan_bytes r)
scan_result (Ok st) h = all_take IsByte _ _ (four_bytes _ _ _ _ (h.1.3 0) (h.1.3 1) (h.1.3 2) (h.1.3 3))
scan_result (Err e) h = tt

suffix_small : (dec : List ℕ) (pad at : ℕ) (s : List ℕ) → IsDecodeTable dec → Bytes s → Bytes (suffix_bytes dec pad at s)
suffix_small dec pad at s t h = scan_result (scan_last dec pad at s) (scanned dec pad at no_leftover 0 (drop at s) t (omega arith, omega arith, omega arith, zeros) (all_drop IsByte at s h))

-- ---- an input

outcome_bytes : (error : Option DecodeError) (bytes : List ℕ) → (error ≡ None → Bytes bytes) → If Bytes (ok_of (decode_outcome error bytes))
outcome_bytes None bytes f = f refl
outcome_bytes (Some e) bytes f = tt

by_engine : (e : GeneralPurpose) (s : List ℕ) → Bytes s → If Bytes (decoded_by e s)
by_engine e s h =
    let dec = e.decode_table in
    let pad = e.padding.value in
    let q = groups_before_last (length s) in
    let t = IsDecodeTable_from e.encode_table dec (are_tables_inverse e.encode_table dec pad e.tables) in
    outcome_bytes (decode_error dec pad e.config.decode_allow_trailing_bits e.config.decode_padding_mode s) (decoded_bytes dec pad s)
    (λ none.
    let a = neither (lone_error dec pad s) _ none in
    let b = neither (groups_error dec s q) _ a.second in
    all_append IsByte (groups_bytes dec s q) (suffix_bytes dec pad (4 * q) s) (groups_small dec s q t h b.first) (suffix_small dec pad (4 * q) s t h))

or_bytes : (a b : Option (List ℕ)) → If Bytes a → If Bytes b → If Bytes (base.or_else a b)
or_bytes None b f g = g
or_bytes (Some x) b f g = f

pub decoded_bytes_fit : (s : List ℕ) → Bytes s → If Bytes (decoded s)
decoded_bytes_fit s h =
    or_bytes (decoded_by standard s) _ (by_engine standard s h)
    (or_bytes (decoded_by standard_no_pad s) _ (by_engine standard_no_pad s h) (or_bytes (decoded_by url_safe s) (decoded_by url_safe_no_pad s) (by_engine url_safe s h) (by_engine url_safe_no_pad s h)))
