-- Streams by number, among numbers that rise: where those of smaller numbers end.
use Rattle.std.proofs.Common.{◌≡◌, ℕ, zero, suc, ◌+◌, ◌<◌, ◌≤◌, Bool, true, false, cond, ◌&&◌, ◌==◌, nat_lt, nat_le, List, [], ◌∷◌, get_or, length, None, Some, refl, ap, sym, subst, ◌∙◌, arith}
use Rattle.std.proofs.lemmas.Bool.Decides.{nat_tests}
use Rattle.watch_model.specs.State.{Stream}
use Rattle.watch_model.specs.Lookups.{stream_at, numbered}
use Rattle.watch_streams.specs.Places.{IsAt, sooner}

rest_numbered : (low high : ℕ) (s : Stream) (ss : List Stream) → numbered low high (s ∷ ss) ≡ true → (low < s.number) × (numbered s.number high ss ≡ true)
rest_numbered low high s ss h = (let l : low < s.number = grind (arith, nat_tests) in l, let m : numbered s.number high ss ≡ true = grind (arith, nat_tests) in m)

later : (low high i : ℕ) (ss : List Stream) (d : Stream) → numbered low high ss ≡ true → i < length ss → low < (get_or ss i d).number
later low high i [] d h l = absurd (omega arith)
later low high zero (s ∷ ss) d h l = (rest_numbered low high s ss h).0
later low high (suc i) (s ∷ ss) d h l = let p = rest_numbered low high s ss h in let m = p.0 in let n = later s.number high i ss d p.1 (omega arith) in omega (arith, m, n)

climbs : (low high i j : ℕ) (ss : List Stream) (d : Stream) → numbered low high ss ≡ true → i ≤ j → j < length ss → (get_or ss i d).number ≤ (get_or ss j d).number
climbs low high i j [] d h l m = absurd (omega arith)
climbs low high zero zero (s ∷ ss) d h l m = omega arith
climbs low high zero (suc j) (s ∷ ss) d h l m = let n = later s.number high j ss d (rest_numbered low high s ss h).1 (omega arith) in omega (arith, n)
climbs low high (suc i) zero (s ∷ ss) d h l m = absurd (omega arith)
climbs low high (suc i) (suc j) (s ∷ ss) d h l m = climbs s.number high i j ss d (rest_numbered low high s ss h).1 (omega arith) (omega arith)

pub sooner_below : (t high i j : ℕ) (ss : List Stream) (d : Stream) → numbered 0 high ss ≡ true → i ≤ j → j < length ss → nat_lt (get_or ss j d).number t ≡ true → nat_lt (get_or ss i d).number t ≡ true
sooner_below t high i j ss d h l m e = less (get_or ss i d).number (get_or ss j d).number (climbs 0 high i j ss d h l m) e
  where
    less : (a b : ℕ) → a ≤ b → nat_lt b t ≡ true → nat_lt a t ≡ true
    less a b l e = grind (arith, nat_tests)

pub sooner_is : (t i : ℕ) (ss : List Stream) → i ≤ length ss → ((k : ℕ) (d : Stream) → k < i → nat_lt (get_or ss k d).number t ≡ true) → ((k : ℕ) (d : Stream) → i ≤ k → k < length ss → nat_lt (get_or ss k d).number t ≡ false) → i ≡ sooner t ss
sooner_is t i [] l a b = omega (arith, l)
sooner_is t zero (s ∷ ss) l a b = sym (ap (λ c. cond c (suc (sooner t ss)) 0) (b 0 s (omega arith) (omega arith)))
sooner_is t (suc i) (s ∷ ss) l a b =
    ap (λ (n : ℕ). suc n) (sooner_is t i ss (omega (arith, l)) (λ k d m. a (suc k) d (omega (arith, m))) (λ k d m n. b (suc k) d (omega (arith, m)) (omega (arith, n))))
    ∙ sym (ap (λ c. cond c (suc (sooner t ss)) 0) (a 0 s (omega arith)))

other : (a b : ℕ) → nat_lt a b ≡ true → (a == b) ≡ false
other a b e = grind (arith, nat_tests)

above : (a b : ℕ) → b < a → (a == b) ≡ false
above a b l = grind (arith, nat_tests)

itself : (a b : ℕ) → a ≡ b → (a == b) ≡ true
itself a b e = grind (arith, nat_tests)

behind : (a b : ℕ) → nat_lt a b ≡ false → (a ≡ b → ⊥) → b < a
behind a b e n = grind (arith, nat_tests)

-- the stream there has the number
pub at_sooner : (t i : ℕ) (ss : List Stream) (y : Stream) → i ≡ sooner t ss → i < length ss → y ≡ get_or ss i y → y.number ≡ t → (d : Stream) → stream_at t ss ≡ Some (get_or ss i d)
at_sooner t i [] y e l g k d = absurd (omega arith)
at_sooner t i (s ∷ ss) y e l g k d =
    elim (nat_lt s.number t) as (λ b. nat_lt s.number t ≡ b → i ≡ cond b (suc (sooner t ss)) 0 → stream_at t (s ∷ ss) ≡ Some (get_or (s ∷ ss) i d)) [
      | true ↦ λ q f.
          let m : sooner t ss < length ss = omega (arith, l, f) in
          let h : y ≡ get_or ss (sooner t ss) y = g ∙ ap (λ (n : ℕ). get_or (s ∷ ss) n y) f in
          ap (λ b. cond b (Some s) (stream_at t ss)) (other s.number t q) ∙ at_sooner t (sooner t ss) ss y refl m h k d ∙ ap (λ (n : ℕ). Some (get_or (s ∷ ss) n d)) (sym f)
      | false ↦ λ q f.
          let h : y ≡ s = g ∙ ap (λ (n : ℕ). get_or (s ∷ ss) n y) f in
          ap (λ b. cond b (Some s) (stream_at t ss)) (itself s.number t (ap (λ (x : Stream). x.number) (sym h) ∙ k)) ∙ ap (λ (n : ℕ). Some (get_or (s ∷ ss) n d)) (sym f)
    ] refl e

-- none has it, where another number stands there, or none
none_later : (t low high : ℕ) (ss : List Stream) → numbered low high ss ≡ true → t ≤ low → stream_at t ss ≡ None
none_later t low high [] h l = refl
none_later t low high (s ∷ ss) h l =
    let p = rest_numbered low high s ss h in
    let m = p.0 in
    ap (λ b. cond b (Some s) (stream_at t ss)) (above s.number t (omega (arith, l, m))) ∙ none_later t s.number high ss p.1 (omega (arith, l, m))

pub none_at_end : (t : ℕ) (ss : List Stream) → length ss ≤ sooner t ss → stream_at t ss ≡ None
none_at_end t [] l = refl
none_at_end t (s ∷ ss) l =
    elim (nat_lt s.number t) as (λ b. nat_lt s.number t ≡ b → suc (length ss) ≤ cond b (suc (sooner t ss)) 0 → stream_at t (s ∷ ss) ≡ None) [
      | true ↦ λ q m. ap (λ b. cond b (Some s) (stream_at t ss)) (other s.number t q) ∙ none_at_end t ss (omega (arith, m))
      | false ↦ λ q m. absurd (omega (arith, m))
    ] refl l

pub none_at_sooner : (t low high i : ℕ) (ss : List Stream) (y : Stream) → numbered low high ss ≡ true → i ≡ sooner t ss → i < length ss → y ≡ get_or ss i y → (y.number ≡ t → ⊥) → stream_at t ss ≡ None
none_at_sooner t low high i [] y h e l g k = absurd (omega arith)
none_at_sooner t low high i (s ∷ ss) y h e l g k =
    let p = rest_numbered low high s ss h in
    elim (nat_lt s.number t) as (λ b. nat_lt s.number t ≡ b → i ≡ cond b (suc (sooner t ss)) 0 → stream_at t (s ∷ ss) ≡ None) [
      | true ↦ λ q f.
          let m : sooner t ss < length ss = omega (arith, l, f) in
          let r : y ≡ get_or ss (sooner t ss) y = g ∙ ap (λ (n : ℕ). get_or (s ∷ ss) n y) f in
          ap (λ b. cond b (Some s) (stream_at t ss)) (other s.number t q) ∙ none_at_sooner t s.number high (sooner t ss) ss y p.1 refl m r k
      | false ↦ λ q f.
          let r : y ≡ s = g ∙ ap (λ (n : ℕ). get_or (s ∷ ss) n y) f in
          let m : t < s.number = behind s.number t q (λ x. k (ap (λ (z : Stream). z.number) r ∙ x)) in
          ap (λ b. cond b (Some s) (stream_at t ss)) (above s.number t m) ∙ none_later t s.number high ss p.1 (omega (arith, m))
    ] refl e
