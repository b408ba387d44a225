-- Streams by number, after each change of the list.
use Rattle.std.proofs.Common.{◌≡◌, ℕ, ◌+◌, ◌≤◌, ◌<◌, true, false, not, cond, ◌&&◌, ◌==◌, nat_le, nat_lt, List, [], ◌∷◌, ◌++◌, map, Option, None, Some, refl, ap, sym, subst, ◌∙◌, arith}
use Rattle.std.proofs.lemmas.Bool.Decides.{nat_tests}
use Rattle.std.specs.Option.{option_map}
use Rattle.watch_model.specs.declared.place.WatchPlace.{WatchPlace}
use Rattle.watch_model.specs.declared.place.WatchPlace.TheVariants as place
use Rattle.watch_model.specs.State.{Stream, Watch}
use Rattle.watch_model.specs.Lookups.{stream_at, place_stream, changed_stream, with_stream, without_stream, is_in, has_member, numbered}
use Rattle.watch_model.specs.Story.{EachWatch}

abbrev pub KeepsNumber : (Stream → Stream) → Type 0
KeepsNumber f = (s : Stream) → (f s).number ≡ s.number

pub at-map : (f : Stream → Stream) → KeepsNumber f → (k : ℕ) (ss : List Stream) → stream_at k (map f ss) ≡ option_map f (stream_at k ss)
at-map f h k [] = refl
at-map f h k (s ∷ ss) =
    ap (λ (n : ℕ). cond (n == k) (Some (f s)) (stream_at k (map f ss))) (h s)
    ∙ elim (s.number == k) as (λ b. cond b (Some (f s)) (stream_at k (map f ss)) ≡ option_map f (cond b (Some s) (stream_at k ss))) [ true ↦ refl | false ↦ at-map f h k ss ]

pub at_number : (k : ℕ) (ss : List Stream) (s : Stream) → stream_at k ss ≡ Some s → s.number ≡ k
at_number k [] s e = absurd (cc)
at_number k (t ∷ ss) s e =
    elim (t.number == k) as (λ b. (t.number == k) ≡ b → cond b (Some t) (stream_at k ss) ≡ Some s → s.number ≡ k) [
      | true ↦ λ q f. let one : t ≡ s = cc in ap (λ (x : Stream). x.number) (sym one) ∙ same t.number k q
      | false ↦ λ q f. at_number k ss s f
    ] refl e
  where
    same : (a b : ℕ) → (a == b) ≡ true → a ≡ b
    same a b e = grind (arith, nat_tests)

pub number_itself : (n : ℕ) → (n == n) ≡ true
number_itself n = grind (arith, nat_tests)

pub changed-keeps : (n : ℕ) (f : Stream → Stream) → KeepsNumber f → KeepsNumber (changed_stream n f)
changed-keeps n f h s = elim (s.number == n) as (λ b. (cond b (f s) s).number ≡ s.number) [ true ↦ h s | false ↦ refl ]

-- the stream of the number itself
pub at-with_stream : (n : ℕ) (f : Stream → Stream) → KeepsNumber f → (ss : List Stream) (s : Stream) → stream_at n ss ≡ Some s → stream_at n (with_stream n f ss) ≡ Some (f s)
at-with_stream n f h ss s e =
    at-map (changed_stream n f) (changed-keeps n f h) n ss ∙ ap (option_map (changed_stream n f)) e
    ∙ ap (λ (k : ℕ). Some (cond (k == n) (f s) s)) (at_number n ss s e) ∙ ap (λ b. Some (cond b (f s) s)) (number_itself n)

-- a place that is not in it
pub others-with_stream : (n : ℕ) (f : Stream → Stream) → KeepsNumber f → (ss : List Stream) (p : WatchPlace) → is_in n p ≡ false → place_stream (with_stream n f ss) p ≡ place_stream ss p
others-with_stream n f h ss (place.In k) e = at-map (changed_stream n f) (changed-keeps n f h) k ss ∙ same (stream_at k ss) refl
  where
    same : (o : Option Stream) → stream_at k ss ≡ o → option_map (changed_stream n f) o ≡ o
    same None q = refl
    same (Some s) q = ap (λ (m : ℕ). Some (cond (m == n) (f s) s)) (at_number k ss s q) ∙ ap (λ b. Some (cond b (f s) s)) e
others-with_stream n f h ss place.Split e = refl
others-with_stream n f h ss place.Ended e = refl

pub at-without : (n k : ℕ) (ss : List Stream) → (k == n) ≡ false → stream_at k (without_stream n ss) ≡ stream_at k ss
at-without n k [] e = refl
at-without n k (s ∷ ss) e =
    elim (s.number == n) as (λ b. (s.number == n) ≡ b → stream_at k (cond (not b) (s ∷ without_stream n ss) (without_stream n ss)) ≡ stream_at k (s ∷ ss)) [
      | true ↦ λ q. at-without n k ss e ∙ sym (ap (λ b. cond b (Some s) (stream_at k ss)) (other s.number n k q e))
      | false ↦ λ q. ap (λ o. cond (s.number == k) (Some s) o) (at-without n k ss e)
    ] refl
  where
    other : (a n k : ℕ) → (a == n) ≡ true → (k == n) ≡ false → (a == k) ≡ false
    other a n k e f = grind (arith, nat_tests)

pub others-without_stream : (n : ℕ) (ss : List Stream) (p : WatchPlace) → is_in n p ≡ false → place_stream (without_stream n ss) p ≡ place_stream ss p
others-without_stream n ss (place.In k) e = at-without n k ss e
others-without_stream n ss place.Split e = refl
others-without_stream n ss place.Ended e = refl

abbrev pub or_stream : Option Stream → Option Stream → Option Stream
or_stream (Some s) o = Some s
or_stream None o = o

pub at-push : (k : ℕ) (ss : List Stream) (t : Stream) → stream_at k (ss ++ t ∷ []) ≡ or_stream (stream_at k ss) (cond (t.number == k) (Some t) None)
at-push k [] t = refl
at-push k (s ∷ ss) t = elim (s.number == k) as (λ b. cond b (Some s) (stream_at k (ss ++ t ∷ [])) ≡ or_stream (cond b (Some s) (stream_at k ss)) (cond (t.number == k) (Some t) None)) [ true ↦ refl | false ↦ at-push k ss t ]

-- Numbers that rise.

pub none_above : (low high k : ℕ) (ss : List Stream) → numbered low high ss ≡ true → high < k → stream_at k ss ≡ None
none_above low high k [] h l = refl
none_above low high k (s ∷ ss) h l =
    let at_most : s.number ≤ high = grind (arith, nat_tests) in
    let rest : numbered s.number high ss ≡ true = grind (arith, nat_tests) in
    let e : (s.number == k) ≡ false = grind (arith, nat_tests) in
    ap (λ b. cond b (Some s) (stream_at k ss)) e ∙ none_above s.number high k ss rest l

pub numbered-map : (f : Stream → Stream) → KeepsNumber f → (low high : ℕ) (ss : List Stream) → numbered low high ss ≡ true → numbered low high (map f ss) ≡ true
numbered-map f k low high [] h = refl
numbered-map f k low high (s ∷ ss) h =
    let rest : numbered s.number high ss ≡ true = grind (arith, nat_tests) in
    subst (λ (n : ℕ). (nat_lt low n && nat_le n high && numbered n high (map f ss)) ≡ true) (sym (k s))
    (let r = numbered-map f k s.number high ss rest in grind (arith, nat_tests))

lower : (low least high : ℕ) (ss : List Stream) → low ≤ least → numbered least high ss ≡ true → numbered low high ss ≡ true
lower low least high [] l h = refl
lower low least high (s ∷ ss) l h = grind (arith, nat_tests)

pub numbered-without : (n low high : ℕ) (ss : List Stream) → numbered low high ss ≡ true → numbered low high (without_stream n ss) ≡ true
numbered-without n low high [] h = refl
numbered-without n low high (s ∷ ss) h =
    let rest : numbered s.number high ss ≡ true = grind (arith, nat_tests) in
    let r = numbered-without n s.number high ss rest in
    let above : low < s.number = grind (arith, nat_tests) in
    elim (s.number == n) as (λ b. numbered low high (cond (not b) (s ∷ without_stream n ss) (without_stream n ss)) ≡ true) [
      | true ↦ lower low s.number high (without_stream n ss) (omega (arith, above)) r
      | false ↦ grind (arith, nat_tests)
    ]

pub numbered-push : (low high : ℕ) (ss : List Stream) (t : Stream) → low ≤ high → t.number ≡ high + 1 → numbered low high ss ≡ true → numbered low (high + 1) (ss ++ t ∷ []) ≡ true
numbered-push low high [] t l e h = grind (arith, nat_tests)
numbered-push low high (s ∷ ss) t l e h =
    let rest : numbered s.number high ss ≡ true = grind (arith, nat_tests) in
    let at_most : s.number ≤ high = grind (arith, nat_tests) in
    let r = numbered-push s.number high ss t at_most e rest in
    grind (arith, nat_tests)

-- Of each watch.

pub each_mapped : (P Q : Watch → Type 0) (f : Watch → Watch) → ((w : Watch) → P w → Q (f w)) → (ws : List Watch) → EachWatch P ws → EachWatch Q (map f ws)
each_mapped P Q f k [] h = tt
each_mapped P Q f k (w ∷ ws) h = (k w h.0, each_mapped P Q f k ws h.1)

pub each_outside : (P Q : Watch → Type 0) (n : ℕ) → ((w : Watch) → is_in n w.place ≡ false → P w → Q w) → (ws : List Watch) → has_member n ws ≡ false → EachWatch P ws → EachWatch Q ws
each_outside P Q n k [] e h = tt
each_outside P Q n k (w ∷ ws) e h =
    let a : is_in n w.place ≡ false = grind arith in
    let b : has_member n ws ≡ false = grind arith in
    (k w a h.0, each_outside P Q n k ws b h.1)
