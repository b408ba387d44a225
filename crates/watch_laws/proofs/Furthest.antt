-- The stream that a watch joins is one that it can join, and none of those is further ahead.
use Rattle.std.proofs.Common.{◌≡◌, ℕ, ◌+◌, ◌≤◌, Bool, true, false, not, cond, ◌&&◌, ◌||◌, ◌==◌, nat_lt, List, [], ◌∷◌, Option, None, Some, refl, sym, subst, ◌∙◌, arith}
use Rattle.std.proofs.lemmas.Bool.Decides.{nat_tests}
use Rattle.etcd_types.specs.declared.key_range.KeyRange.{KeyRange}
use Rattle.proxy_model.specs.Limits.{capped}
use Rattle.watch_model.specs.State.{Stream}
use Rattle.watch_model.specs.Lookups.{stream_at, same_range, is_closing}
use Rattle.watch_model.specs.Joining.{is_joinable, better, best_of, is_opening_from_now, opening_from_now, or_else, stream_to_join}
use Rattle.watch_laws.specs.Joins.{can_join}
use Rattle.watch_laws.proofs.Seating.{EachStream, AllSome, best_is, opening_is}

-- What is said of each stream in the list.

each_any : (ss : List Stream) → EachStream (λ s. Unit {0}) ss
each_any [] = tt
each_any (s ∷ ss) = (tt, each_any ss)

at_each : (P : Stream → Type 0) (k : ℕ) (ss : List Stream) (t : Stream) → stream_at k ss ≡ Some t → EachStream P ss → P t
at_each P k [] t e h = absurd (cc)
at_each P k (s ∷ ss) t e h =
    elim (s.number == k) as (λ b. cond b (Some s) (stream_at k ss) ≡ Some t → P t) [
      | true ↦ λ f. let one : s ≡ t = cc in subst P one h.0
      | false ↦ λ f. at_each P k ss t f h.1
    ] e

-- The best one.

better_some : (s : Stream) (best : Option Stream) → better s best ≡ None → ⊥
better_some s None e = cc
better_some s (Some b) e = elim (nat_lt b.stream.next s.stream.next) as (λ c. cond c (Some s) (Some b) ≡ None → ⊥) [ true ↦ λ f. cc | false ↦ λ f. cc ] e

best_none : (range : KeyRange) (limit : ℕ) (best : Option Stream) (ss : List Stream) → best_of range limit best ss ≡ None → (best ≡ None) × EachStream (λ s. is_joinable range limit s ≡ false) ss
best_none range limit best [] e = (e, tt)
best_none range limit best (s ∷ ss) e =
    let r = best_none range limit (cond (is_joinable range limit s) (better s best) best) ss e in
    elim (is_joinable range limit s) as (λ j. is_joinable range limit s ≡ j → cond j (better s best) best ≡ None → (best ≡ None) × EachStream (λ s. is_joinable range limit s ≡ false) (s ∷ ss)) [
      | true ↦ λ q f. absurd (better_some s best f)
      | false ↦ λ q f. (f, (q, r.1))
    ] refl r.0

abbrev IsUpTo : Stream → Stream → Type 0
IsUpTo t s = s.stream.next ≤ t.stream.next

better_up_to : (t s : Stream) (best : Option Stream) → AllSome (IsUpTo t) (better s best) → IsUpTo t s × AllSome (IsUpTo t) best
better_up_to t s None h = (h, tt)
better_up_to t s (Some b) h =
    elim (nat_lt b.stream.next s.stream.next) as (λ c. nat_lt b.stream.next s.stream.next ≡ c → AllSome (IsUpTo t) (cond c (Some s) (Some b)) → IsUpTo t s × IsUpTo t b) [
      | true ↦ λ q g. (g, below b.stream.next s.stream.next t.stream.next q g)
      | false ↦ λ q g. (above b.stream.next s.stream.next t.stream.next q g, g)
    ] refl h
  where
    below : (b s t : ℕ) → nat_lt b s ≡ true → s ≤ t → b ≤ t
    below b s t q l = grind (arith, nat_tests)

    above : (b s t : ℕ) → nat_lt b s ≡ false → b ≤ t → s ≤ t
    above b s t q l = grind (arith, nat_tests)

best_up_to : (range : KeyRange) (limit : ℕ) (t : Stream) (best : Option Stream) (ss : List Stream) → best_of range limit best ss ≡ Some t
    → AllSome (IsUpTo t) best × EachStream (λ s. is_joinable range limit s ≡ true → IsUpTo t s) ss
best_up_to range limit t best [] e = (subst (AllSome (IsUpTo t)) (sym e) (itself t.stream.next), tt)
  where
    itself : (n : ℕ) → n ≤ n
    itself n = omega arith
best_up_to range limit t best (s ∷ ss) e =
    let r = best_up_to range limit t (cond (is_joinable range limit s) (better s best) best) ss e in
    elim (is_joinable range limit s) as (λ j. is_joinable range limit s ≡ j → AllSome (IsUpTo t) (cond j (better s best) best) → AllSome (IsUpTo t) best × EachStream (λ s. is_joinable range limit s ≡ true → IsUpTo t s) (s ∷ ss)) [
      | true ↦ λ q f. let p = better_up_to t s best f in (p.1, ((λ g. p.0), r.1))
      | false ↦ λ q f. (f, ((λ g. absurd (cc)), r.1))
    ] refl r.0

-- One that is being opened from now.

opening_none : (range : KeyRange) (ss : List Stream) → opening_from_now range ss ≡ None → EachStream (λ s. is_opening_from_now range s ≡ false) ss
opening_none range [] e = tt
opening_none range (s ∷ ss) e =
    elim (is_opening_from_now range s) as (λ b. is_opening_from_now range s ≡ b → cond b (Some s) (opening_from_now range ss) ≡ None → EachStream (λ s. is_opening_from_now range s ≡ false) (s ∷ ss)) [
      | true ↦ λ q f. absurd (cc)
      | false ↦ λ q f. (q, opening_none range ss f)
    ] refl e

neither : (o x : Option Stream) → or_else o x ≡ None → (o ≡ None) × (x ≡ None)
neither None x e = (refl, e)
neither (Some s) x e = absurd (cc)

both_false : (a b : Bool) → a ≡ false → b ≡ false → (a || b) ≡ false
both_false true b e f = absurd (cc)
both_false false b e f = f

pub new_where_none : (ss : List Stream) (range : KeyRange) (next seen k : ℕ) (t : Stream) → stream_to_join ss range next seen ≡ None → stream_at k ss ≡ Some t → can_join range next seen t ≡ false
new_where_none ss range next seen k t e f =
    elim (next == 0) as (λ z. cond z (or_else (best_of range (capped (seen + 1)) None ss) (opening_from_now range ss)) (best_of range next None ss) ≡ None
    → cond z (is_joinable range (capped (seen + 1)) t || is_opening_from_now range t) (is_joinable range next t) ≡ false) [
      | true ↦ λ g.
          let p = neither (best_of range (capped (seen + 1)) None ss) (opening_from_now range ss) g in
          both_false (is_joinable range (capped (seen + 1)) t) (is_opening_from_now range t)
          (at_each (λ s. is_joinable range (capped (seen + 1)) s ≡ false) k ss t f (best_none range (capped (seen + 1)) None ss p.0).1)
          (at_each (λ s. is_opening_from_now range s ≡ false) k ss t f (opening_none range ss p.1))
      | false ↦ λ g. at_each (λ s. is_joinable range next s ≡ false) k ss t f (best_none range next None ss g).1
    ] e

third : (a b c : Bool) → (a && b && c) ≡ true → c ≡ true
third true true c e = e
third true false c e = absurd (cc)
third false b c e = absurd (cc)

-- one that is being opened from now is furthest behind
from_now : (range : KeyRange) (s t : Stream) → is_opening_from_now range t ≡ true → t.stream.next ≤ s.stream.next
from_now range s t e =
    least t.stream.next s.stream.next (third (same_range t.stream.range range) (not (is_closing t.phase)) (t.stream.next == 0) e)
  where
    least : (a b : ℕ) → (a == 0) ≡ true → a ≤ b
    least a b e = grind (arith, nat_tests)

pub joined_is_furthest : (ss : List Stream) (range : KeyRange) (next seen k : ℕ) (s t : Stream) → stream_to_join ss range next seen ≡ Some s → stream_at k ss ≡ Some t → can_join range next seen t ≡ true → t.stream.next ≤ s.stream.next
joined_is_furthest ss range next seen k s t e f j =
    elim (next == 0) as (λ z. cond z (or_else (best_of range (capped (seen + 1)) None ss) (opening_from_now range ss)) (best_of range next None ss) ≡ Some s
    → cond z (is_joinable range (capped (seen + 1)) t || is_opening_from_now range t) (is_joinable range next t) ≡ true → t.stream.next ≤ s.stream.next) [
      | true ↦ λ g h. from_best (best_of range (capped (seen + 1)) None ss) refl g (is_joinable range (capped (seen + 1)) t) refl h
      | false ↦ λ g h. at_each (λ u. is_joinable range next u ≡ true → IsUpTo s u) k ss t f (best_up_to range next s None ss g).1 h
    ] e j
  where
    from_best : (o : Option Stream) → best_of range (capped (seen + 1)) None ss ≡ o → or_else o (opening_from_now range ss) ≡ Some s → (b : Bool) → is_joinable range (capped (seen + 1)) t ≡ b → (b || is_opening_from_now range t) ≡ true
        → t.stream.next ≤ s.stream.next
    from_best o p g false q h = from_now range s t h
    from_best None p g true q h = absurd (
        let none = at_each (λ u. is_joinable range (capped (seen + 1)) u ≡ false) k ss t f (best_none range (capped (seen + 1)) None ss p).1 in cc)
    from_best (Some u) p g true q h =
        let one : best_of range (capped (seen + 1)) None ss ≡ Some s = p ∙ g in
        at_each (λ u. is_joinable range (capped (seen + 1)) u ≡ true → IsUpTo s u) k ss t f (best_up_to range (capped (seen + 1)) s None ss one).1 q

-- It can be joined.

right : (a b : Bool) → b ≡ true → (a || b) ≡ true
right true b e = refl
right false b e = e

left : (a b : Bool) → a ≡ true → (a || b) ≡ true
left true b e = refl
left false b e = absurd (cc)

some_of : (P : Stream → Type 0) (o : Option Stream) (s : Stream) → o ≡ Some s → AllSome P o → P s
some_of P o s e h = subst (AllSome P) e h

pub joined_can_be : (ss : List Stream) (range : KeyRange) (next seen : ℕ) (s : Stream) → stream_to_join ss range next seen ≡ Some s → can_join range next seen s ≡ true
joined_can_be ss range next seen s e =
    elim (next == 0) as (λ z. cond z (or_else (best_of range (capped (seen + 1)) None ss) (opening_from_now range ss)) (best_of range next None ss) ≡ Some s
    → cond z (is_joinable range (capped (seen + 1)) s || is_opening_from_now range s) (is_joinable range next s) ≡ true) [
      | true ↦ λ g. from_best (best_of range (capped (seen + 1)) None ss) (best (capped (seen + 1))) g
      | false ↦ λ g. some_of (λ t. is_joinable range next t ≡ true) (best_of range next None ss) s g (best next)
    ] e
  where
    best : (limit : ℕ) → AllSome (λ t. is_joinable range limit t ≡ true) (best_of range limit None ss)
    best limit = best_is (λ t. Unit {0}) (λ t. is_joinable range limit t ≡ true) range limit (λ t p j. j) ss None (each_any ss) tt

    from_best : (o : Option Stream) → AllSome (λ t. is_joinable range (capped (seen + 1)) t ≡ true) o → or_else o (opening_from_now range ss) ≡ Some s
        → (is_joinable range (capped (seen + 1)) s || is_opening_from_now range s) ≡ true
    from_best None h g =
        right (is_joinable range (capped (seen + 1)) s) (is_opening_from_now range s)
        (some_of (λ t. is_opening_from_now range t ≡ true) (opening_from_now range ss) s g (opening_is (λ t. Unit {0}) (λ t. is_opening_from_now range t ≡ true) range (λ t p j. j) ss (each_any ss)))
    from_best (Some t) h g = left (is_joinable range (capped (seen + 1)) s) (is_opening_from_now range s) (some_of (λ t. is_joinable range (capped (seen + 1)) t ≡ true) (Some t) s g h)
