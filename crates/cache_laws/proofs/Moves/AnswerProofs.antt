-- What comes to a proxy keeps the view's invariant.
use Rattle.std.proofs.Common.{◌≡◌, ◌≢◌, ℕ, ◌==◌, Bool, true, false, cond, List, [], ◌∷◌, refl, sym, ◌∙◌, ap, subst}
use Rattle.cache_laws.specs.Moves.View.{Owner, Slot, View, live}
use Rattle.cache_laws.specs.Moves.Invariant.{Mine, SlotOk, OwnerOk, Inv}
use Rattle.cache_laws.specs.Moves.Answers.{IsShown, in_answer, in_event, Turns, stays, holds, gives_back, ends_acquire, spoils, begins, withdraws, rests, returns, gives_up, forgets, finds, turned, TurnsKeep, Chain, ReachesKeep}
use Rattle.cache_laws.proofs.Moves.Numbers.{same_number}
use Rattle.cache_laws.proofs.Moves.SlotTurns.{slot_holds, slot_leaves, slot_rests, slot_returns, slot_withdraws, slot_begins, slot_gives_up, slot_forgets, slot_spoils, slot_ends_acquire}
use Rattle.cache_laws.proofs.Moves.SendProofs.{live_drew}

shown_ok : {holder : ℕ → ℕ} (v : View) (k : List ℕ) (o : Owner) → Inv holder v → IsShown v k o → OwnerOk v.rev v.made o
shown_ok v k o h (in_answer i is) = subst (OwnerOk v.rev v.made) (sym is) ((h.outcomes i).owners k)
shown_ok v k o h (in_event rev l is) = subst (OwnerOk v.rev v.made) (sym is) (h.told rev k l)

-- an ownership under a proxy's session that was shown is the proxy's own
shown_mine : {holder : ℕ → ℕ} (v : View) (p : ℕ) (o : Owner) → Inv holder v → OwnerOk v.rev v.made o → (v.terms p).number ≢ 0 → o.session ≡ (v.terms p).number → Mine holder v.rev v.made p o.create
shown_mine {holder} v p o h ok n under =
    record { some = some; past = ok.past; own = ap holder (ok.maker some ∙ under) ∙ ((h.terms p).standing n).by }
  where
    some : o.create ≢ 0
    some z = n (sym under ∙ ok.none z)

-- one slot of a proxy, whatever it has
abbrev Stands : (ℕ → ℕ) → View → ℕ → List ℕ → Slot → Type 0
Stands holder v p k x = SlotOk holder v.rev v.sent v.made v.calls v.outcomes (live v p) (v.owners k) (v.kvs k) p k x

-- and so is what its acquire made
acquired_mine : {holder : ℕ → ℕ} (v : View) (p : ℕ) (k : List ℕ) (x : Slot) → Inv holder v → Stands holder v p k x → x.acquire ≢ 0 → (v.outcomes x.acquire).ok ≡ true → Mine holder v.rev v.made p (v.outcomes x.acquire).create
acquired_mine {holder} v p k x h s n ok =
    let i = x.acquire in
    let o = h.outcomes i in
    let kind = s.asked n in
    record { some = o.created kind ok; past = o.past kind ok; own = ap holder (o.maker kind ok) ∙ ((h.acquires i).under kind).by ∙ s.asked_by n }

turn_stands : {holder : ℕ → ℕ} (v : View) (p : ℕ) (k : List ℕ) (x y : Slot) → Inv holder v → Turns v p k x y → Stands holder v p k x → Stands holder v p k y
turn_stands {holder} v p k x y h t s = by t
  where
    becomes : (z : Slot) → y ≡ z → Stands holder v p k z → Stands holder v p k y
    becomes z is o = subst (λ (x : Slot). Stands holder v p k x) (sym is) o

    by : Turns v p k x y → Stands holder v p k y
    by (stays is) = becomes _ is s
    by (holds lives n u e d ok is) = becomes _ is (slot_holds s (h.owners k) lives (live_drew p h lives) n u e d ok)
    by (gives_back n ok is) = becomes _ is (slot_leaves (v.outcomes x.acquire).create s (acquired_mine v p k x h s n ok))
    by (ends_acquire is) = becomes _ is (slot_ends_acquire s)
    by (spoils is) = becomes _ is (slot_spoils s)
    by (begins held is) = becomes _ is (slot_begins s held)
    by (withdraws busy due is) = becomes _ is (slot_withdraws s busy due)
    by (rests busy out done ok is) = becomes _ is (slot_rests s busy out done ok)
    by (returns busy out done ok is) = becomes _ is (slot_returns s busy out done ok)
    by (gives_up there is) = becomes _ is (slot_gives_up s there)
    by (forgets is) = becomes _ is (slot_forgets s)
    by (finds o shown n under is) = becomes _ is (slot_leaves o.create s (shown_mine v p o h (shown_ok v k o h shown) n under))

chain_stands : {holder : ℕ → ℕ} (v : View) (p : ℕ) (k : List ℕ) (zs : List Slot) (x y : Slot) → Inv holder v → Chain v p k x zs y → Stands holder v p k x → Stands holder v p k y
chain_stands {holder} v p k [] x y h c s = subst (λ (z : Slot). Stands holder v p k z) (sym c) s
chain_stands v p k (z ∷ zs) x y h c s = chain_stands v p k zs z y h c.1 (turn_stands v p k x z h c.0 s)

row_keeps : (holder : ℕ → ℕ) (v : View) (p : ℕ) (row : List ℕ → Slot) → ((k : List ℕ) → Stands holder v p k (row k)) → Inv holder v → Inv holder (turned v p row)
row_keeps holder v p row own h =
    record {
      unsent = h.unsent;
      owners = h.owners;
      told = h.told;
      calls = h.calls;
      acquires = h.acquires;
      outcomes = h.outcomes;
      terms = h.terms;
      leases = h.leases;
      slots = λ q k. slot_by q k (q == p) refl;
    }
  where
    slot_by : (q : ℕ) (k : List ℕ) (t : Bool) → (q == p) ≡ t → SlotOk holder v.rev v.sent v.made v.calls v.outcomes (live v q) (v.owners k) (v.kvs k) q k (cond t row (v.slots q) k)
    slot_by q k true e =
        subst (λ (r : ℕ). SlotOk holder v.rev v.sent v.made v.calls v.outcomes (live v r) (v.owners k) (v.kvs k) r k (row k)) (sym (same_number q p e)) (own k)
    slot_by q k false e = h.slots q k

pub turns_keep : TurnsKeep
turns_keep holder v p row turns h = row_keeps holder v p row (λ k. turn_stands v p k (v.slots p k) (row k) h (turns k) (h.slots p k)) h

pub reaches_keep : ReachesKeep
reaches_keep holder v p row r h = row_keeps holder v p row (λ k. chain_stands v p k (r k).through (v.slots p k) (row k) h (r k).chain (h.slots p k)) h
