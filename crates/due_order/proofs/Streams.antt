-- The stream whose closing or opening is due first comes first among all due jobs of streams, since they stand by rising numbers.
use Rattle.std.proofs.Common.{◌≡◌, ℕ, ◌≤◌, Bool, true, false, cond, ◌||◌, ◌&&◌, ◌==◌, nat_lt, nat_le, List, [], ◌∷◌, ◌++◌, Option, None, Some, refl, sym, ◌∙◌, ap, subst, arith}
use Rattle.std.specs.List.{flat_map}
use Rattle.std.proofs.lemmas.Bool.Decides.{nat_tests}
use Rattle.etcd_types.proofs.Bools.{and_first, and_second, and_false, or_false}
use Rattle.wait_model.specs.declared.due.Place.{Place}
use Rattle.wait_model.specs.declared.due.JobKind.TheVariants.{Close, Open}
use Rattle.wait_model.specs.DueOrder.{place_at, is_earlier}
use Rattle.watch_model.specs.declared.stream.StreamPhase.{StreamPhase}
use Rattle.watch_model.specs.declared.stream.StreamPhase.TheVariants as phase
use Rattle.watch_model.specs.Due.{is_before, earlier_of, first_from, first_due}
use Rattle.watch_model.specs.Due as due
use Rattle.watch_model.specs.Lookups.{numbered}
use Rattle.watch_model.specs.State.{Stream}
use Rattle.core_model.specs.DueJobs.{Placed, placed, ForStream, due_phase, due_stream, earlier, earliest}
use Rattle.due_order.specs.Parts.{with_first_stream}
use Rattle.due_order.proofs.Earliest.{earliest_append}
use Rattle.due_order.proofs.PlaceOrder.{earlier_along, no_earlier_along}

abbrev is_due : StreamPhase → Bool
is_due (phase.Due since) = true
is_due (phase.Closing since) = true
is_due phase.Begun = false

-- where it stands; nothing is told of one that was begun
abbrev place_in : Stream → StreamPhase → Place
place_in s (phase.Due since) = place_at since Open s.number
place_in s (phase.Closing since) = place_at since Close s.number
place_in s phase.Begun = place_at 0 Open s.number

abbrev placed_stream : Stream → Placed
placed_stream s = placed (place_in s s.phase) (ForStream s)

due_is : (s : Stream) (p : StreamPhase) → is_due p ≡ true → due_phase s p ≡ placed (place_in s p) (ForStream s) ∷ []
due_is s (phase.Due since) h = refl
due_is s (phase.Closing since) h = refl
due_is s phase.Begun h = cc

-- Of two due streams the one of the greater number is sent first exactly where its phase comes before.

by_since : (a b n m : ℕ) → nat_lt n m ≡ false → nat_lt a b || ((a == b) && nat_lt n m) ≡ nat_lt a b
by_since a b n m h =
    ap (λ t. nat_lt a b || ((a == b) && t)) h ∙ ap (λ t. nat_lt a b || t) (and_false (a == b)) ∙ or_false (nat_lt a b)

or_equal : (a b : ℕ) → nat_lt a b || ((a == b) && true) ≡ nat_le a b
or_equal a b = grind (arith, nat_tests)

told_by_phase : (s t : Stream) (p q : StreamPhase) → is_due p ≡ true → is_due q ≡ true → nat_lt s.number t.number ≡ false → is_earlier (place_in s p) (place_in t q) ≡ is_before p q
told_by_phase s t (phase.Closing a) (phase.Closing b) h i n = by_since a b s.number t.number n
told_by_phase s t (phase.Closing a) (phase.Due b) h i n = or_equal a b
told_by_phase s t (phase.Due a) (phase.Due b) h i n = by_since a b s.number t.number n
told_by_phase s t (phase.Due a) (phase.Closing b) h i n = ap (λ u. nat_lt a b || u) (and_false (a == b)) ∙ or_false (nat_lt a b)
told_by_phase s t phase.Begun q h i n = cc
told_by_phase s t (phase.Closing a) phase.Begun h i n = cc
told_by_phase s t (phase.Due a) phase.Begun h i n = cc

-- the first of three, from the left or from the right
pub chosen : (first : Option Placed) (p q : Placed) → earlier (Some (earlier first q)) p ≡ cond (is_earlier p.place q.place) (earlier first p) (earlier first q)
chosen None p q = refl
chosen (Some f) p q = by_second (is_earlier q.place f.place) refl
  where
    along : (c : Bool) → is_earlier q.place f.place ≡ true → is_earlier p.place q.place ≡ c → cond c p q ≡ cond c (cond (is_earlier p.place f.place) p f) q
    along true e g = ap (λ x. cond x p f) (sym (earlier_along p.place q.place f.place g e))
    along false e g = refl

    none : (c : Bool) → is_earlier q.place f.place ≡ false → is_earlier p.place q.place ≡ c → cond (is_earlier p.place f.place) p f ≡ cond c (cond (is_earlier p.place f.place) p f) f
    none true e g = refl
    none false e g = ap (λ x. cond x p f) (no_earlier_along p.place q.place f.place g e)

    by_second : (b : Bool) → is_earlier q.place f.place ≡ b → cond (is_earlier p.place (cond b q f).place) p (cond b q f) ≡ cond (is_earlier p.place q.place) (cond (is_earlier p.place f.place) p f) (cond b q f)
    by_second true e = along (is_earlier p.place q.place) e refl
    by_second false e = none (is_earlier p.place q.place) e refl

-- One stream after the other.

-- the first of those before is due, and its number is no higher
abbrev IsBelow : ℕ → Option Stream → Type 0
IsBelow low None = Unit {0}
IsBelow low (Some t) = (is_due t.phase ≡ true) × (t.number ≤ low)

below_first : (low n : ℕ) (t : Stream) → t.number ≤ low → nat_lt low n ≡ true → nat_lt n t.number ≡ false
below_first low n t h l = grind (arith, nat_tests)

earlier_due : (o : Option Stream) (s : Stream) (p : StreamPhase) → is_due p ≡ true → due.earlier o s p ≡ earlier_of s o
earlier_due o s (phase.Due since) h = refl
earlier_due o s (phase.Closing since) h = refl
earlier_due o s phase.Begun h = cc

with_due : (first : Option Placed) (s : Stream) → is_due s.phase ≡ true → with_first_stream first (Some s) ≡ Some (earlier first (placed_stream s))
with_due first s h = ap (λ ps. earliest first ps) (due_is s s.phase h)

with_either : (first : Option Placed) (s t : Stream) (b : Bool) → is_due s.phase ≡ true → is_due t.phase ≡ true → with_first_stream first (cond b (Some s) (Some t)) ≡ Some (cond b (earlier first (placed_stream s)) (earlier first (placed_stream t)))
with_either first s t true h i = with_due first s h
with_either first s t false h i = with_due first t i

with_second : (first : Option Placed) (s t : Stream) → is_due s.phase ≡ true → is_due t.phase ≡ true → nat_lt s.number t.number ≡ false → earliest (with_first_stream first (Some t)) (due_stream s) ≡ with_first_stream first (earlier_of s (Some t))
with_second first s t h i n =
    ap (λ x. earliest x (due_stream s)) (with_due first t i)
    ∙ ap (λ ps. earliest (Some (earlier first (placed_stream t))) ps) (due_is s s.phase h)
    ∙ ap Some (chosen first (placed_stream s) (placed_stream t))
    ∙ ap (λ b. Some (cond b (earlier first (placed_stream s)) (earlier first (placed_stream t)))) (told_by_phase s t s.phase t.phase h i n)
    ∙ sym (with_either first s t (is_before s.phase t.phase) h i)

one_more : (first : Option Placed) (low : ℕ) (o : Option Stream) (s : Stream) → IsBelow low o → nat_lt low s.number ≡ true → earliest (with_first_stream first o) (due_stream s) ≡ with_first_stream first (due.earlier o s s.phase)
one_more first low o s below l = by_phase s.phase refl
  where
    by_first : (x : Option Stream) → IsBelow low x → is_due s.phase ≡ true → earliest (with_first_stream first x) (due_stream s) ≡ with_first_stream first (earlier_of s x)
    by_first None b h = refl
    by_first (Some t) b h = with_second first s t h b.0 (below_first low s.number t b.1 l)

    due_one : is_due s.phase ≡ true → earliest (with_first_stream first o) (due_stream s) ≡ with_first_stream first (due.earlier o s s.phase)
    due_one h = by_first o below h ∙ ap (λ x. with_first_stream first x) (sym (earlier_due o s s.phase h))

    by_phase : (p : StreamPhase) → s.phase ≡ p → earliest (with_first_stream first o) (due_stream s) ≡ with_first_stream first (due.earlier o s s.phase)
    by_phase (phase.Due since) e = due_one (ap is_due e)
    by_phase (phase.Closing since) e = due_one (ap is_due e)
    by_phase phase.Begun e =
        ap (λ p. earliest (with_first_stream first o) (due_phase s p)) e ∙ ap (λ p. with_first_stream first (due.earlier o s p)) (sym e)

stays_below : (low : ℕ) (o : Option Stream) (s : Stream) → IsBelow low o → nat_lt low s.number ≡ true → IsBelow s.number (due.earlier o s s.phase)
stays_below low o s below l = by_phase s.phase refl
  where
    raised : (x : Option Stream) → IsBelow low x → IsBelow s.number x
    raised None b = tt
    raised (Some t) b = (b.0, let h : t.number ≤ low = b.1 in grind (arith, nat_tests))

    self : is_due s.phase ≡ true → IsBelow s.number (Some s)
    self h = (h, omega arith)

    either : (t : Stream) (b : Bool) → is_due s.phase ≡ true → IsBelow s.number (Some t) → IsBelow s.number (cond b (Some s) (Some t))
    either t true h i = self h
    either t false h i = i

    by_first : (x : Option Stream) → is_due s.phase ≡ true → IsBelow s.number x → IsBelow s.number (earlier_of s x)
    by_first None h b = self h
    by_first (Some t) h b = either t (is_before s.phase t.phase) h b

    due_one : is_due s.phase ≡ true → IsBelow s.number (due.earlier o s s.phase)
    due_one h =
        let Claim : Option Stream → Type 0 = λ x. IsBelow s.number x in
        subst Claim (sym (earlier_due o s s.phase h)) (by_first o h (raised o below))

    by_phase : (p : StreamPhase) → s.phase ≡ p → IsBelow s.number (due.earlier o s s.phase)
    by_phase (phase.Due since) e = due_one (ap is_due e)
    by_phase (phase.Closing since) e = due_one (ap is_due e)
    by_phase phase.Begun e =
        let Claim : StreamPhase → Type 0 = λ p. IsBelow s.number (due.earlier o s p) in subst Claim (sym e) (raised o below)

all_more : (first : Option Placed) (low high : ℕ) (o : Option Stream) (ss : List Stream) → IsBelow low o → numbered low high ss ≡ true → earliest (with_first_stream first o) (flat_map due_stream ss) ≡ with_first_stream first (first_from o ss)
all_more first low high o [] below n = refl
all_more first low high o (s ∷ ss) below n =
    let both = and_first (nat_lt low s.number && nat_le s.number high) (numbered s.number high ss) n in
    let l = and_first (nat_lt low s.number) (nat_le s.number high) both in
    earliest_append (with_first_stream first o) (due_stream s) (flat_map due_stream ss)
    ∙ ap (λ x. earliest x (flat_map due_stream ss)) (one_more first low o s below l)
    ∙ all_more first s.number high (due.earlier o s s.phase) ss (stays_below low o s below l) (and_second (nat_lt low s.number && nat_le s.number high) (numbered s.number high ss) n)

-- the first due stream comes first among all
pub streams_first : (first : Option Placed) (high : ℕ) (ss : List Stream) → numbered 0 high ss ≡ true → earliest first (flat_map due_stream ss) ≡ with_first_stream first (first_due ss)
streams_first first high ss n = all_more first 0 high None ss tt n

-- the first of all, part by part
pub all_parts : (ws as' qs os : List Placed) (ss : List Stream) (high : ℕ) (w a q o : Option Placed) → w ≡ earliest None ws → a ≡ earliest w as' → q ≡ earliest a qs → o ≡ earliest q os → numbered 0 high ss ≡ true → with_first_stream o (first_due ss) ≡ earliest None (ws ++ as' ++ qs ++ os ++ flat_map due_stream ss)
all_parts ws as' qs os ss high w a q o ew ea eq eo n =
    let last = flat_map due_stream ss in
    let parts : o ≡ earliest (earliest (earliest (earliest None ws) as') qs) os =
    eo ∙ ap (λ x. earliest x os) (eq ∙ ap (λ x. earliest x qs) (ea ∙ ap (λ x. earliest x as') ew)) in
    let whole : earliest None (ws ++ as' ++ qs ++ os) ≡ earliest (earliest (earliest (earliest None ws) as') qs) os =
    earliest_append None (ws ++ as' ++ qs) os ∙ ap (λ x. earliest x os) (earliest_append None (ws ++ as') qs ∙ ap (λ x. earliest x qs) (earliest_append None ws as')) in
    sym (streams_first o high ss n) ∙ ap (λ x. earliest x last) (parts ∙ sym whole) ∙ sym (earliest_append None (ws ++ as' ++ qs ++ os) last)
