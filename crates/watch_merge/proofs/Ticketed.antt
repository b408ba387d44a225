-- Watches of a ticket, as the definitions see them.
use Rattle.std.proofs.Common.{◌≡◌, ℕ, zero, suc, ◌+◌, ◌<◌, ◌≤◌, Bool, true, false, not, cond, ◌==◌, nat_lt, List, [], ◌∷◌, map, get_or, length, None, Some, refl, ap, sym, subst, ◌∙◌, arith}
use Rattle.std.proofs.lemmas.Bool.Decides.{nat_tests}
use Rattle.std.specs.List.{insert}
use Rattle.watch_model.specs.declared.place.WatchPlace.TheVariants as place
use Rattle.watch_model.specs.State.{Watch}
use Rattle.watch_model.specs.Lookups.{watch_at, with_new_watch, without_watch, watch_changed, tickets_from}
use Rattle.watch_model.specs.Splitting.{split}
use Rattle.watch_model.proofs.Tickets.{rest_from}
use Rattle.watch_queue.specs.declared.watching.Watching.{Watching}
use Rattle.watch_queue.specs.Watching.{shown}
use Rattle.watch_merge.specs.Watches.{others, split_to, gap}

pub split_shown : (ticket next : ℕ) (ws : List Watching) → map shown (map (split_to ticket next) ws) ≡ map (watch_changed ticket (split next)) (map shown ws)
split_shown ticket next [] = refl
split_shown ticket next (w ∷ ws) = λ i. one (w.ticket == ticket) i ∷ split_shown ticket next ws i
  where
    one : (b : Bool) → shown (cond b (record w { next = next; place = place.Split }) w) ≡ cond b (split next (shown w)) (shown w)
    one true = refl
    one false = refl

pub others_shown : (ticket : ℕ) (ws : List Watching) → map shown (others ticket ws) ≡ without_watch ticket (map shown ws)
others_shown ticket [] = refl
others_shown ticket (w ∷ ws) =
    elim (w.ticket == ticket) as (λ b. map shown (cond (not b) (w ∷ others ticket ws) (others ticket ws)) ≡ cond (not b) (shown w ∷ without_watch ticket (map shown ws)) (without_watch ticket (map shown ws))) [
      | true ↦ others_shown ticket ws
      | false ↦ ap (λ (l : List Watch). shown w ∷ l) (others_shown ticket ws)
    ]

-- A watch in its place among rising tickets.

pub inserted : (x : Watching) (ws : List Watching) → map shown (insert ws (gap x.ticket ws) x) ≡ with_new_watch (shown x) (map shown ws)
inserted x [] = refl
inserted x (w ∷ ws) =
    elim (nat_lt w.ticket x.ticket) as (λ b. map shown (insert (w ∷ ws) (cond b (suc (gap x.ticket ws)) 0) x) ≡ cond b (shown w ∷ with_new_watch (shown x) (map shown ws)) (shown x ∷ shown w ∷ map shown ws)) [
      | true ↦ ap (λ (l : List Watch). shown w ∷ l) (inserted x ws)
      | false ↦ refl
    ]

other : (a b : ℕ) → nat_lt a b ≡ true → (a == b) ≡ false
other a b e = grind (arith, nat_tests)

above : (a b : ℕ) → b < a → (a == b) ≡ false
above a b l = grind (arith, nat_tests)

itself : (a b : ℕ) → a ≡ b → (a == b) ≡ true
itself a b e = grind (arith, nat_tests)

behind : (a b : ℕ) → nat_lt a b ≡ false → (a ≡ b → ⊥) → b < a
behind a b e n = grind (arith, nat_tests)

later : (low i : ℕ) (ws : List Watching) (y : Watching) → tickets_from low (map shown ws) ≡ true → i < length ws → y ≡ get_or ws i y → low ≤ y.ticket
later low i [] y h l g = absurd (omega arith)
later low zero (w ∷ ws) y h l g = subst (λ (x : Watching). low ≤ x.ticket) (sym g) (rest_from low (shown w) (map shown ws) h).0
later low (suc i) (w ∷ ws) y h l g =
    let p = rest_from low (shown w) (map shown ws) h in
    let r = later (w.ticket + 1) i ws y p.1 (omega arith) g in
    let m = p.0 in omega (arith, r, m)

-- within the list the default doesn't matter
in_range : (ws : List Watching) (i : ℕ) (d : Watching) → i < length ws → get_or ws i d ≡ get_or ws i (get_or ws i d)
in_range [] i d l = absurd (omega arith)
in_range (w ∷ ws) zero d l = refl
in_range (w ∷ ws) (suc i) d l = in_range ws i d (omega (arith, l))

-- tickets rise, so those below t stand first
rises : (low i j : ℕ) (ws : List Watching) (d : Watching) → tickets_from low (map shown ws) ≡ true → i ≤ j → j < length ws → (get_or ws i d).ticket ≤ (get_or ws j d).ticket
rises low i j [] d h l m = absurd (omega arith)
rises low zero zero (w ∷ ws) d h l m = omega arith
rises low zero (suc j) (w ∷ ws) d h l m =
    let p = rest_from low (shown w) (map shown ws) h in
    let r = later (w.ticket + 1) j ws (get_or ws j d) p.1 (omega arith) (in_range ws j d (omega arith)) in omega (arith, r)
rises low (suc i) zero (w ∷ ws) d h l m = absurd (omega arith)
rises low (suc i) (suc j) (w ∷ ws) d h l m = rises (w.ticket + 1) i j ws d (rest_from low (shown w) (map shown ws) h).1 (omega arith) (omega arith)

pub sooner_below : (t i j : ℕ) (ws : List Watching) (d : Watching) → tickets_from 0 (map shown ws) ≡ true → i ≤ j → j < length ws → nat_lt (get_or ws j d).ticket t ≡ true → nat_lt (get_or ws i d).ticket t ≡ true
sooner_below t i j ws d h l m e = less (get_or ws i d).ticket (get_or ws j d).ticket (rises 0 i j ws d h l m) e
  where
    less : (a b : ℕ) → a ≤ b → nat_lt b t ≡ true → nat_lt a t ≡ true
    less a b l e = grind (arith, nat_tests)

-- and where they end is the gap
pub gap_is : (t i : ℕ) (ws : List Watching) → i ≤ length ws → ((k : ℕ) (d : Watching) → k < i → nat_lt (get_or ws k d).ticket t ≡ true) → ((k : ℕ) (d : Watching) → i ≤ k → k < length ws → nat_lt (get_or ws k d).ticket t ≡ false) → i ≡ gap t ws
gap_is t i [] l a b = omega (arith, l)
gap_is t zero (w ∷ ws) l a b = sym (ap (λ c. cond c (suc (gap t ws)) 0) (b 0 w (omega arith) (omega arith)))
gap_is t (suc i) (w ∷ ws) l a b =
    ap (λ (n : ℕ). suc n) (gap_is t i ws (omega (arith, l)) (λ k d m. a (suc k) d (omega (arith, m))) (λ k d m n. b (suc k) d (omega (arith, m)) (omega (arith, n))))
    ∙ sym (ap (λ c. cond c (suc (gap t ws)) 0) (a 0 w (omega arith)))

-- the watch at the gap has the ticket
pub at_gap : (t i : ℕ) (ws : List Watching) (y : Watching) → i ≡ gap t ws → i < length ws → y ≡ get_or ws i y → y.ticket ≡ t → (d : Watch) → watch_at t (map shown ws) ≡ Some (get_or (map shown ws) i d)
at_gap t i [] y e l g k d = absurd (omega arith)
at_gap t i (w ∷ ws) y e l g k d =
    elim (nat_lt w.ticket t) as (λ b. nat_lt w.ticket t ≡ b → i ≡ cond b (suc (gap t ws)) 0 → watch_at t (map shown (w ∷ ws)) ≡ Some (get_or (map shown (w ∷ ws)) i d)) [
      | true ↦ λ q f.
          let differs : (w.ticket == t) ≡ false = other w.ticket t q in
          let m : gap t ws < length ws = omega (arith, l, f) in
          let h : y ≡ get_or ws (gap t ws) y = g ∙ ap (λ (n : ℕ). get_or (w ∷ ws) n y) f in
          ap (λ b. cond b (Some (shown w)) (watch_at t (map shown ws))) differs ∙ at_gap t (gap t ws) ws y refl m h k d ∙ ap (λ (n : ℕ). Some (get_or (map shown (w ∷ ws)) n d)) (sym f)
      | false ↦ λ q f.
          let h : y ≡ w = g ∙ ap (λ (n : ℕ). get_or (w ∷ ws) n y) f in
          let same : (w.ticket == t) ≡ true = itself w.ticket t (ap (λ (x : Watching). x.ticket) (sym h) ∙ k) in
          ap (λ b. cond b (Some (shown w)) (watch_at t (map shown ws))) same ∙ ap (λ (n : ℕ). Some (get_or (map shown (w ∷ ws)) n d)) (sym f)
    ] refl e

-- none has it, where the gap is at the end, or another ticket stands there
none_later : (t low : ℕ) (ws : List Watch) → tickets_from low ws ≡ true → t < low → watch_at t ws ≡ None
none_later t low [] h l = refl
none_later t low (w ∷ ws) h l =
    let p = rest_from low w ws h in
    let m = p.0 in
    ap (λ b. cond b (Some w) (watch_at t ws)) (above w.ticket t (omega (arith, l, m))) ∙ none_later t (w.ticket + 1) ws p.1 (omega (arith, l, m))

pub none_at_end : (t : ℕ) (ws : List Watching) → length ws ≤ gap t ws → watch_at t (map shown ws) ≡ None
none_at_end t [] l = refl
none_at_end t (w ∷ ws) l =
    elim (nat_lt w.ticket t) as (λ b. nat_lt w.ticket t ≡ b → suc (length ws) ≤ cond b (suc (gap t ws)) 0 → watch_at t (map shown (w ∷ ws)) ≡ None) [
      | true ↦ λ q m. ap (λ b. cond b (Some (shown w)) (watch_at t (map shown ws))) (other w.ticket t q) ∙ none_at_end t ws (omega (arith, m))
      | false ↦ λ q m. absurd (omega (arith, m))
    ] refl l

pub none_at_gap : (t low i : ℕ) (ws : List Watching) (y : Watching) → tickets_from low (map shown ws) ≡ true → i ≡ gap t ws → i < length ws → y ≡ get_or ws i y → (y.ticket ≡ t → ⊥) → watch_at t (map shown ws) ≡ None
none_at_gap t low i [] y h e l g k = absurd (omega arith)
none_at_gap t low i (w ∷ ws) y h e l g k =
    let p = rest_from low (shown w) (map shown ws) h in
    elim (nat_lt w.ticket t) as (λ b. nat_lt w.ticket t ≡ b → i ≡ cond b (suc (gap t ws)) 0 → watch_at t (map shown (w ∷ ws)) ≡ None) [
      | true ↦ λ q f.
          let m : gap t ws < length ws = omega (arith, l, f) in
          let r : y ≡ get_or ws (gap t ws) y = g ∙ ap (λ (n : ℕ). get_or (w ∷ ws) n y) f in
          ap (λ b. cond b (Some (shown w)) (watch_at t (map shown ws))) (other w.ticket t q) ∙ none_at_gap t (w.ticket + 1) (gap t ws) ws y p.1 refl m r k
      | false ↦ λ q f.
          let r : y ≡ w = g ∙ ap (λ (n : ℕ). get_or (w ∷ ws) n y) f in
          let n : w.ticket ≡ t → ⊥ = λ x. k (ap (λ (z : Watching). z.ticket) r ∙ x) in
          let m : t < w.ticket = behind w.ticket t q n in
          ap (λ b. cond b (Some (shown w)) (watch_at t (map shown ws))) (above w.ticket t m) ∙ none_later t (w.ticket + 1) (map shown ws) p.1 (omega (arith, m))
    ] refl e
