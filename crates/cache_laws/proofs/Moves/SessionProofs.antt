-- Clocks and sessions keep the view's invariant.
use Rattle.std.proofs.Common.{◌≡◌, ℕ, ◌<◌, ◌≤◌, ◌==◌, nat_lt, Bool, true, false, cond, List, refl, sym, ◌∙◌, ap, subst, arith}
use Rattle.std.proofs.lemmas.Bool.Decides.{nat_tests}
use Rattle.cache_laws.specs.Moves.View.{Slot, no_slot, Term, no_term, Call, View, live, live_by, put}
use Rattle.cache_laws.specs.Moves.Invariant.{Drew, SlotOk, TermOk}
use Rattle.cache_laws.specs.Moves.Sessions.{ClocksKeep, DrawsKeep, BeginsKeep, RenewsKeep, SessionEndsKeep, RestartsKeep}
use Rattle.cache_laws.proofs.Moves.Numbers.{put_here, itself, same_number}
use Rattle.cache_laws.proofs.Moves.SlotTurns.{slot_dead, slot_begun, slot_new}

-- a slot under a session that is the same one or has ended

abbrev SlotUnder : (ℕ → ℕ) → View → ℕ → List ℕ → Slot → ℕ → Type 0
SlotUnder holder v p k x session = SlotOk holder v.rev v.sent v.made v.calls v.outcomes session (v.owners k) (v.kvs k) p k x

under_or_dead : (holder : ℕ → ℕ) (v : View) (p : ℕ) (k : List ℕ) (x : Slot) (t : Bool) (session : ℕ) → SlotUnder holder v p k x session → SlotUnder holder v p k x (cond t session 0)
under_or_dead holder v p k x true session s = s
under_or_dead holder v p k x false session s = slot_dead s

not_below : (clock now deadline : ℕ) → clock ≤ now → nat_lt now deadline ≡ true → nat_lt clock deadline ≡ true
not_below clock now deadline l e = grind (arith, nat_tests)

-- a session that lived before, by an earlier clock
lived : (holder : ℕ → ℕ) (v : View) (p : ℕ) (k : List ℕ) (x : Slot) (clock clock' : ℕ) (t t' : Term) → t'.number ≡ t.number → (nat_lt clock' t'.deadline ≡ true → nat_lt clock t.deadline ≡ true)
    → SlotUnder holder v p k x (live_by clock t) → SlotUnder holder v p k x (live_by clock' t')
lived holder v p k x clock clock' t t' same before s = by_now (nat_lt clock' t'.deadline) refl
  where
    by_now : (b : Bool) → nat_lt clock' t'.deadline ≡ b → SlotUnder holder v p k x (cond b t'.number 0)
    by_now true e = subst (SlotUnder holder v p k x) (ap (λ (b : Bool). cond b t.number 0) (before e) ∙ sym same) s
    by_now false e = slot_dead s

pub clocks_keep : ClocksKeep
clocks_keep holder v p now l h =
    record {
      unsent = h.unsent;
      owners = h.owners;
      told = h.told;
      calls = h.calls;
      acquires = h.acquires;
      outcomes = h.outcomes;
      terms = h.terms;
      leases = λ number s below. h.leases number s (by_holder number (holder number == p) refl below);
      slots = λ q k. slot_by q k (q == p) refl;
    }
  where
    by_holder : (number : ℕ) (t : Bool) → (holder number == p) ≡ t → cond t now (v.clocks (holder number)) < v.floors number → v.clocks (holder number) < v.floors number
    by_holder number true e b = let is = ap v.clocks (same_number (holder number) p e) in omega arith
    by_holder number false e b = b

    slot_by : (q : ℕ) (k : List ℕ) (t : Bool) → (q == p) ≡ t → SlotUnder holder v q k (v.slots q k) (live_by (cond t now (v.clocks q)) (v.terms q))
    slot_by q k true e =
        lived holder v q k (v.slots q k) (v.clocks q) now (v.terms q) (v.terms q) refl (not_below (v.clocks q) now (v.terms q).deadline (let is = ap v.clocks (same_number q p e) in omega arith)) (h.slots q k)
    slot_by q k false e = h.slots q k

-- a proxy's term changes, and that of no other

each_term : (P : ℕ → Term → Type 0) (terms : ℕ → Term) (p : ℕ) (t : Term) → ((q : ℕ) → P q (terms q)) → P p t → (q : ℕ) → P q (put terms p t q)
each_term P terms p t old new q = by_test (q == p) refl
  where
    by_test : (b : Bool) → (q == p) ≡ b → P q (cond b t (terms q))
    by_test true e = subst (λ (r : ℕ). P r t) (sym (same_number q p e)) new
    by_test false e = old q

each_slot : (holder : ℕ → ℕ) (v : View) (p : ℕ) (t : Term) → ((q : ℕ) (k : List ℕ) → SlotUnder holder v q k (v.slots q k) (live v q)) → ((k : List ℕ) → SlotUnder holder v p k (v.slots p k) (live_by (v.clocks p) t))
    → (q : ℕ) (k : List ℕ) → SlotUnder holder v q k (v.slots q k) (live_by (v.clocks q) (put v.terms p t q))
each_slot holder v p t old new q k = each_term (λ r s. SlotUnder holder v r k (v.slots r k) (live_by (v.clocks r) s)) v.terms p t (λ r. old r k) (new k) q

pub no_term_ok : (holder : ℕ → ℕ) (drawn : ℕ → Bool) (floors : ℕ → ℕ) (calls : ℕ → Call) (p : ℕ) → TermOk holder drawn floors calls p no_term
no_term_ok holder drawn floors calls p = record { standing = λ n. absurd (n refl); floor = λ n. absurd (n refl); drew = λ n. absurd (n refl); alone = λ n. absurd (n refl); unnamed = λ n. absurd (n refl) }

-- a number that is drawn

drawn_stays : (drawn : ℕ → Bool) (number other : ℕ) → drawn other ≡ true → put drawn number true other ≡ true
drawn_stays drawn number other e = by_test (other == number)
  where
    by_test : (t : Bool) → cond t true (drawn other) ≡ true
    by_test true = refl
    by_test false = e

drew_stays : {holder : ℕ → ℕ} {drawn : ℕ → Bool} {p : ℕ} (number : ℕ) {other : ℕ} → Drew holder drawn p other → Drew holder (put drawn number true) p other
drew_stays {drawn = drawn} number {other = other} d = record { by = d.by; taken = drawn_stays drawn number other d.taken; reserved = d.reserved }

pub draws_keep : DrawsKeep
draws_keep holder v p number w h =
    record {
      unsent = h.unsent;
      owners = h.owners;
      told = h.told;
      calls = h.calls;
      acquires = λ i. record { under = λ a. drew_stays number ((h.acquires i).under a); uncovered = (h.acquires i).uncovered };
      outcomes = h.outcomes;
      terms = each_term (TermOk holder (put v.drawn number true) v.floors v.calls) v.terms p asks (λ q. old q) new;
      leases = h.leases;
      slots = each_slot holder v p asks h.slots (λ k. under_or_dead holder v p k (v.slots p k) (nat_lt (v.clocks p) 0) 0 (slot_dead (h.slots p k)));
    }
  where
    asks : Term
    asks = record { number = 0; deadline = 0; asked = number }

    old : (q : ℕ) → TermOk holder (put v.drawn number true) v.floors v.calls q (v.terms q)
    old q =
        let t = h.terms q in
        record { standing = λ n. drew_stays number (t.standing n); floor = t.floor; drew = λ n. drew_stays number (t.drew n); alone = t.alone; unnamed = t.unnamed }

    new : TermOk holder (put v.drawn number true) v.floors v.calls p asks
    new =
        record {
          standing = λ n. absurd (n refl);
          floor = λ n. absurd (n refl);
          drew = λ n. record { by = w.by; taken = put_here v.drawn number number true (itself number); reserved = w.reserved };
          alone = λ n. refl;
          unnamed = λ n i a e. (let d = ((h.acquires i).under a).taken in let f : v.drawn (v.calls i).session ≡ v.drawn number = ap v.drawn e in let g = w.new in cc);
        }

-- its grant is answered

pub begins_keep : BeginsKeep
begins_keep holder v p i deadline w h =
    record {
      unsent = h.unsent;
      owners = h.owners;
      told = h.told;
      calls = h.calls;
      acquires = h.acquires;
      outcomes = h.outcomes;
      terms = each_term (TermOk holder v.drawn v.floors v.calls) v.terms p begun h.terms new;
      leases = h.leases;
      slots = each_slot holder v p begun h.slots (λ k. under_or_dead holder v p k (v.slots p k) (nat_lt (v.clocks p) deadline) (v.terms p).asked
          (slot_begun (v.terms p).asked (h.slots p k) (w.not_held k) (w.not_writing k) (λ n. (h.terms p).unnamed w.asked (v.slots p k).acquire ((h.slots p k).asked n))));
    }
  where
    begun : Term
    begun = record { number = (v.terms p).asked; deadline = deadline; asked = 0 }

    new : TermOk holder v.drawn v.floors v.calls p begun
    new =
        record {
          standing = (h.terms p).drew;
          floor = λ n. (let f = (h.outcomes i).floor w.timed in let l = w.within in let is = ap v.floors w.names in omega arith);
          drew = λ n. absurd (n refl);
          alone = λ n. absurd (n refl);
          unnamed = λ n. absurd (n refl);
        }

pub renews_keep : RenewsKeep
renews_keep holder v p i deadline w h =
    record {
      unsent = h.unsent;
      owners = h.owners;
      told = h.told;
      calls = h.calls;
      acquires = h.acquires;
      outcomes = h.outcomes;
      terms = each_term (TermOk holder v.drawn v.floors v.calls) v.terms p renewed h.terms new;
      leases = h.leases;
      slots = each_slot holder v p renewed h.slots (λ k. lived holder v p k (v.slots p k) (v.clocks p) (v.clocks p) (v.terms p) renewed refl (λ e. stood (nat_lt (v.clocks p) (v.terms p).deadline) refl) (h.slots p k));
    }
  where
    renewed : Term
    renewed = record (v.terms p) { deadline = deadline }

    stood : (t : Bool) → nat_lt (v.clocks p) (v.terms p).deadline ≡ t → t ≡ true
    stood true e = refl
    stood false e = absurd (w.stands (ap (λ (b : Bool). cond b (v.terms p).number 0) e))

    new : TermOk holder v.drawn v.floors v.calls p renewed
    new =
        let t = h.terms p in
        record {
          standing = t.standing;
          floor = λ n. (let old = t.floor n in let f = (h.outcomes i).floor w.timed in let l = w.within in let is = ap v.floors w.names in grind arith);
          drew = t.drew;
          alone = t.alone;
          unnamed = t.unnamed;
        }

pub session_ends_keep : SessionEndsKeep
session_ends_keep holder v p h =
    record {
      unsent = h.unsent;
      owners = h.owners;
      told = h.told;
      calls = h.calls;
      acquires = h.acquires;
      outcomes = h.outcomes;
      terms = each_term (TermOk holder v.drawn v.floors v.calls) v.terms p no_term h.terms (no_term_ok holder v.drawn v.floors v.calls p);
      leases = h.leases;
      slots = each_slot holder v p no_term h.slots (λ k. under_or_dead holder v p k (v.slots p k) (nat_lt (v.clocks p) 0) 0 (slot_dead (h.slots p k)));
    }

pub restarts_keep : RestartsKeep
restarts_keep holder v p h =
    record {
      unsent = h.unsent;
      owners = h.owners;
      told = h.told;
      calls = h.calls;
      acquires = h.acquires;
      outcomes = h.outcomes;
      terms = each_term (TermOk holder v.drawn v.floors v.calls) v.terms p no_term h.terms (no_term_ok holder v.drawn v.floors v.calls p);
      leases = h.leases;
      slots = λ q k. slot_by q k (q == p) refl;
    }
  where
    slot_by : (q : ℕ) (k : List ℕ) (t : Bool) → (q == p) ≡ t → SlotUnder holder v q k (cond t (λ (j : List ℕ). no_slot) (v.slots q) k) (live_by (v.clocks q) (cond t no_term (v.terms q)))
    slot_by q k true e = slot_new
    slot_by q k false e = h.slots q k
