-- What an edit at a key's place does to rows in order.
use Rattle.std.proofs.Common.{◌≡◌, ℕ, List, get_or, set, IsTrue, None, Some, sym, subst, ◌∙◌}
use Rattle.std.specs.List.{insert, remove}
use Rattle.proxy_model.specs.Keyed.{Keyed, at, with_at, changed_at, is_in_order}
use Rattle.proxy_model.proofs.KeyedLaws.{to_T, in_order-with_at}
use Rattle.keyed_rows.specs.Places.{IsPlace, IsGap}
use Rattle.keyed_rows.proofs.Places.{changed-place, put-place, put-gap, without-place, without-gap}

-- Another value at the place of the key.

pub replaced : {A : Type 0} (es : Keyed A) (k : List ℕ) (x : A) (i : ℕ) (row : List ℕ × A) → IsPlace es k i → row ≡ get_or es i row → set es i (row.0, x) ≡ changed_at es k (λ old. x)
replaced es k x i row p e = changed-place es k i (λ old. x) row p e

pub put_in_place : {A : Type 0} (es : Keyed A) (k : List ℕ) (x : A) (i : ℕ) (row : List ℕ × A) → IsPlace es k i → row ≡ get_or es i row → set es i (row.0, x) ≡ with_at es k (Some x)
put_in_place es k x i row p e =
    let Claim : List ℕ × _ → Type 0 = λ r. set es i (r.0, x) ≡ with_at es k (Some x) in
    subst Claim (sym e) (sym (put-place es k x i row p))

pub in_order-put_in_place : {A : Type 0} (es : Keyed A) (k : List ℕ) (x : A) (i : ℕ) (row : List ℕ × A) → IsTrue (is_in_order es) → IsPlace es k i → row ≡ get_or es i row → IsTrue (is_in_order (set es i (row.0, x)))
in_order-put_in_place es k x i row s p e = rw (put_in_place es k x i row p e) (in_order-with_at es k (Some x) s)

-- A row in the gap for the key.

pub put_in_gap : {A : Type 0} (es : Keyed A) (k : List ℕ) (x : A) (i : ℕ) → IsGap es k i → insert es i (k, x) ≡ with_at es k (Some x)
put_in_gap es k x i g = sym (put-gap es k x i g)

pub in_order-put_in_gap : {A : Type 0} (es : Keyed A) (k : List ℕ) (x : A) (i : ℕ) → IsTrue (is_in_order es) → IsGap es k i → IsTrue (is_in_order (insert es i (k, x)))
in_order-put_in_gap es k x i s g = rw (put_in_gap es k x i g) (in_order-with_at es k (Some x) s)

-- No row for the key.

pub removed : {A : Type 0} (es : Keyed A) (k : List ℕ) (i : ℕ) → IsTrue (is_in_order es) → IsPlace es k i → remove es i ≡ with_at es k None
removed es k i s p = sym (without-place es k i (to_T _ s) p)

pub in_order-removed : {A : Type 0} (es : Keyed A) (k : List ℕ) (i : ℕ) → IsTrue (is_in_order es) → IsPlace es k i → IsTrue (is_in_order (remove es i))
in_order-removed es k i s p = rw (removed es k i s p) (in_order-with_at es k None s)

pub none_removed : {A : Type 0} (es : Keyed A) (k : List ℕ) (i : ℕ) → IsTrue (is_in_order es) → IsGap es k i → es ≡ with_at es k None
none_removed es k i s g = sym (without-gap es k i (to_T _ s) g)
