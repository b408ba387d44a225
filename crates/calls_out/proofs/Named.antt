-- The list of the calls, seen from the rows.
use Rattle.std.proofs.Common.{◌≡◌, ℕ, zero, suc, Bool, true, false, not, cond, ◌==◌, ◌&&◌, nat_lt, IsTrue, List, [], ◌∷◌, ◌++◌, map, get_or, None, Some, refl, sym, ◌∙◌, ap, subst, arith}
use Rattle.std.specs.Ordering.{nat_cmp}
use Rattle.std.specs.FinMap.Entries.{by_order}
use Rattle.std.specs.List.{remove, list_all}
use Rattle.std.specs.declared.cmp.Ordering.TheVariants.{Greater}
use Rattle.std.proofs.lemmas.Bool.Decides.{nat_tests}
use Rattle.numbered_rows.specs.Numbered.{Numbered, same_number, at, with_at, is_in_order}
use Rattle.numbered_rows.specs.Places.{IsPlace, IsGap}
use Rattle.numbered_rows.proofs.NumberedLaws.{to_T, in_order-with_at}
use Rattle.numbered_rows.proofs.Places.{at-place, at-gap, without-place, without-gap}
use Rattle.core_model.specs.declared.out_call.OutCall.{OutCall}
use Rattle.core_model.specs.Lookups.{out_at, without_out}
use Rattle.calls_out.specs.Calls.{all_below, is_named, AreCalls}

abbrev pub calls : Numbered OutCall → List OutCall
calls rows = map (λ r. r.1) rows

first : (b c : Bool) → (b && c) ≡ true → b ≡ true
first true c e = refl
first false c e = e

second : (b c : Bool) → (b && c) ≡ true → c ≡ true
second true c e = e
second false c e = absurd (cc)

both : (b c : Bool) → b ≡ true → c ≡ true → (b && c) ≡ true
both true true e f = refl
both true false e f = f
both false c e f = e

-- a row's call has the number that is looked for exactly where the row has it
agrees : (call n m : ℕ) → (m == n) ≡ true → (m == call) ≡ same_number call n
agrees call n m e = grind (arith, nat_tests)

pub out_is : (call : ℕ) (rows : Numbered OutCall) → list_all is_named rows ≡ true → out_at call (calls rows) ≡ at rows call
out_is call [] h = refl
out_is call (r ∷ rows) h =
    ap (λ b. cond b (Some r.1) (out_at call (calls rows))) (agrees call r.0 r.1.call (first (is_named r) (list_all is_named rows) h)) ∙
    ap (λ o. cond (same_number call r.0) (Some r.1) o) (out_is call rows (second (is_named r) (list_all is_named rows) h))

pub without_is : (call : ℕ) (rows : Numbered OutCall) → list_all is_named rows ≡ true → without_out call (calls rows) ≡ calls (with_at rows call None)
without_is call [] h = refl
without_is call (r ∷ rows) h =
    ap (λ b. cond (not b) (r.1 ∷ without_out call (calls rows)) (without_out call (calls rows))) (agrees call r.0 r.1.call (first (is_named r) (list_all is_named rows) h)) ∙
    ap (λ l. cond (not (same_number call r.0)) (r.1 ∷ l) l) (without_is call rows (second (is_named r) (list_all is_named rows) h)) ∙
    out (same_number call r.0)
  where
    out : (b : Bool) → cond (not b) (r.1 ∷ calls (with_at rows call None)) (calls (with_at rows call None)) ≡ calls (cond (not b) (r ∷ with_at rows call None) (with_at rows call None))
    out true = refl
    out false = refl

-- What a search finds.

pub found_call : (rows : Numbered OutCall) (call j : ℕ) (r : ℕ × OutCall) → AreCalls rows → IsPlace rows call j → r ≡ get_or rows j r → out_at call (calls rows) ≡ Some r.1
found_call rows call j r h p e =
    out_is call rows h.named ∙ at-place rows call j r p ∙ ap (λ (q : ℕ × OutCall). Some q.1) (sym e)

pub no_call : (rows : Numbered OutCall) (call j : ℕ) → AreCalls rows → IsGap rows call j → out_at call (calls rows) ≡ None
no_call rows call j h g = out_is call rows h.named ∙ at-gap rows call j (to_T _ h.in_order) g

-- A call is taken out.

named-remove : (rows : Numbered OutCall) (j : ℕ) → list_all is_named rows ≡ true → list_all is_named (remove rows j) ≡ true
named-remove [] zero h = refl
named-remove [] (suc j) h = refl
named-remove (r ∷ rows) zero h = second (is_named r) (list_all is_named rows) h
named-remove (r ∷ rows) (suc j) h =
    both (is_named r) (list_all is_named (remove rows j)) (first (is_named r) (list_all is_named rows) h) (named-remove rows j (second (is_named r) (list_all is_named rows) h))

pub are_calls-remove : (rows : Numbered OutCall) (call j : ℕ) → AreCalls rows → IsPlace rows call j → AreCalls (remove rows j)
are_calls-remove rows call j h p = record {
  in_order = subst (λ (rs : Numbered OutCall). IsTrue (is_in_order rs)) (without-place rows call j (to_T _ h.in_order) p) (in_order-with_at rows call None h.in_order);
  named = named-remove rows j h.named;
}

pub call_taken : (rows : Numbered OutCall) (call j : ℕ) → AreCalls rows → IsPlace rows call j → calls (remove rows j) ≡ without_out call (calls rows)
call_taken rows call j h p =
    ap calls (sym (without-place rows call j (to_T _ h.in_order) p)) ∙ sym (without_is call rows h.named)

pub none_taken : (rows : Numbered OutCall) (call j : ℕ) → AreCalls rows → IsGap rows call j → calls rows ≡ without_out call (calls rows)
none_taken rows call j h g =
    ap calls (sym (without-gap rows call j (to_T _ h.in_order) g)) ∙ sym (without_is call rows h.named)

-- A call with a number above all goes to the end.

above : (call n m : ℕ) → (m == n) ≡ true → nat_lt m call ≡ true → nat_cmp call n ≡ Greater
above call n m e l = grind (arith, nat_tests)

at_end : (rows : Numbered OutCall) (out : OutCall) → list_all is_named rows ≡ true → all_below out.call (calls rows) ≡ true → rows ++ (out.call, out) ∷ [] ≡ with_at rows out.call (Some out)
at_end [] out h l = refl
at_end (r ∷ rows) out h l =
    let here = above out.call r.0 r.1.call (first (is_named r) (list_all is_named rows) h) (first (nat_lt r.1.call out.call) (all_below out.call (calls rows)) l) in
    let rest = at_end rows out (second (is_named r) (list_all is_named rows) h) (second (nat_lt r.1.call out.call) (all_below out.call (calls rows)) l) in
    sym (ap (λ o. by_order o ((out.call, out) ∷ r ∷ rows) ((r.0, out) ∷ rows) (r ∷ with_at rows out.call (Some out))) here ∙ ap (λ l. r ∷ l) (sym rest))

named-append : (rows : Numbered OutCall) (out : OutCall) → list_all is_named rows ≡ true → list_all is_named (rows ++ (out.call, out) ∷ []) ≡ true
named-append [] out h = both (out.call == out.call) true (equal out.call) refl
  where
    equal : (n : ℕ) → (n == n) ≡ true
    equal n = grind (arith, nat_tests)
named-append (r ∷ rows) out h =
    both (is_named r) (list_all is_named (rows ++ (out.call, out) ∷ [])) (first (is_named r) (list_all is_named rows) h) (named-append rows out (second (is_named r) (list_all is_named rows) h))

pub are_calls-push : (rows : Numbered OutCall) (out : OutCall) → AreCalls rows → all_below out.call (calls rows) ≡ true → AreCalls (rows ++ (out.call, out) ∷ [])
are_calls-push rows out h l = record {
  in_order = subst (λ (rs : Numbered OutCall). IsTrue (is_in_order rs)) (sym (at_end rows out h.named l)) (in_order-with_at rows out.call (Some out) h.in_order);
  named = named-append rows out h.named;
}
