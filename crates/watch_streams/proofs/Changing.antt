-- A change at the place of a number, as a change of the whole list; and streams of which none is due, after one.
use Rattle.std.proofs.Common.{◌≡◌, ℕ, zero, suc, ◌<◌, ◌≤◌, Bool, true, false, cond, ◌&&◌, ◌==◌, List, [], ◌∷◌, get_or, set, length, None, Some, refl, ap, sym, subst, ◌∙◌, arith}
use Rattle.std.proofs.lemmas.Bool.Decides.{nat_tests}
use Rattle.watch_model.specs.State.{Stream}
use Rattle.watch_model.specs.Lookups.{stream_at, numbered, with_stream}
use Rattle.watch_model.proofs.Streams.{at_number}
use Rattle.watch_streams.specs.Places.{IsAt}

pub with_none : (n : ℕ) (f : Stream → Stream) (ss : List Stream) → stream_at n ss ≡ None → ss ≡ with_stream n f ss
with_none n f [] e = refl
with_none n f (s ∷ ss) e =
    elim (s.number == n) as (λ b. cond b (Some s) (stream_at n ss) ≡ None → s ∷ ss ≡ cond b (f s) s ∷ with_stream n f ss) [
      | true ↦ λ q. absurd (cc)
      | false ↦ λ q. ap (λ (l : List Stream). s ∷ l) (with_none n f ss q)
    ] e

same : (a b : ℕ) → a ≡ b → (a == b) ≡ true
same a b e = grind (arith, nat_tests)

other : (a b : ℕ) → a < b → (a == b) ≡ false
other a b l = grind (arith, nat_tests)

turned : (a b : ℕ) → a < b → (b == a) ≡ false
turned a b l = grind (arith, nat_tests)

-- numbers from here on are all greater
none_from : (n low high : ℕ) (ss : List Stream) → numbered low high ss ≡ true → n ≤ low → stream_at n ss ≡ None
none_from n low high [] h l = refl
none_from n low high (s ∷ ss) h l =
    let above : low < s.number = grind (arith, nat_tests) in
    let rest : numbered s.number high ss ≡ true = grind (arith, nat_tests) in
    ap (λ b. cond b (Some s) (stream_at n ss)) (turned n s.number (omega (arith, l, above))) ∙ none_from n s.number high ss rest (omega (arith, l, above))

above_low : (low high i : ℕ) (ss : List Stream) (d : Stream) → numbered low high ss ≡ true → i < length ss → low < (get_or ss i d).number
above_low low high i [] d h l = absurd (omega arith)
above_low low high zero (s ∷ ss) d h l = grind (arith, nat_tests)
above_low low high (suc i) (s ∷ ss) d h l =
    let above : low < s.number = grind (arith, nat_tests) in
    let rest : numbered s.number high ss ≡ true = grind (arith, nat_tests) in
    let r = above_low s.number high i ss d rest (omega arith) in
    omega (arith, r, above)

pub with_one : (n low high i : ℕ) (f : Stream → Stream) (ss : List Stream) (d : Stream) → numbered low high ss ≡ true → i < length ss → (get_or ss i d).number ≡ n → set ss i (f (get_or ss i d)) ≡ with_stream n f ss
with_one n low high i f [] d h l e = absurd (omega arith)
with_one n low high zero f (s ∷ ss) d h l e =
    let rest : numbered s.number high ss ≡ true = grind (arith, nat_tests) in
    ap (λ (t : List Stream). f s ∷ t) (with_none n f ss (none_from n s.number high ss rest (omega (arith, e))))
    ∙ sym (ap (λ b. cond b (f s) s ∷ with_stream n f ss) (same s.number n e))
with_one n low high (suc i) f (s ∷ ss) d h l e =
    let rest : numbered s.number high ss ≡ true = grind (arith, nat_tests) in
    let m : i < length ss = omega arith in
    let a = above_low s.number high i ss d rest m in
    ap (λ (t : List Stream). s ∷ t) (with_one n s.number high i f ss d rest m e)
    ∙ sym (ap (λ b. cond b (f s) s ∷ with_stream n f ss) (other s.number n (subst (λ (k : ℕ). s.number < k) e a)))

-- the one at the place changed
pub put_is : (n high i : ℕ) (f : Stream → Stream) (ss : List Stream) (y new : Stream) → numbered 0 high ss ≡ true → IsAt n ss i → y ≡ get_or ss i y → new ≡ f y → set ss i new ≡ with_stream n f ss
put_is n high i f ss y new h p g e =
    ap (set ss i) (e ∙ ap f g) ∙ with_one n 0 high i f ss y h p.bound (at_number n ss (get_or ss i y) (p.is y))
