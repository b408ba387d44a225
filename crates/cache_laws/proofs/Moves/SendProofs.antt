-- A call that is sent keeps the view's invariant.
use Rattle.std.proofs.Common.{◌≡◌, ◌≢◌, ℕ, ◌+◌, ◌≤◌, ◌==◌, nat_lt, Bool, true, false, cond, List, refl, sym, ◌∙◌, ap, subst, arith}
use Rattle.std.proofs.lemmas.Bool.Decides.{nat_tests}
use Rattle.cache_laws.specs.Moves.View.{Leaving, Acquires, Slot, Call, View, live, put}
use Rattle.cache_laws.specs.Moves.Invariant.{Drew, Mine, SlotOk, CallOk, AcquireOk, OutcomeOk, TermOk, Inv}
use Rattle.cache_laws.specs.Moves.Sends.{Becomes, stays, writes, acquires, SendsKeep}
use Rattle.cache_laws.proofs.Moves.Numbers.{put_other, same_number, other_number}
use Rattle.cache_laws.proofs.Moves.SlotSends.{slot_sent, slot_writes, slot_asks}
use Rattle.cache_laws.proofs.Moves.SlotTurns.{no_acquire}

-- another proxy's call compares a create revision of its own
others_spare : {holder : ℕ → ℕ} {rev : ℕ} {made : ℕ → ℕ} {c : Call} {k : List ℕ} (p create : ℕ) → CallOk holder rev made c k → c.proxy ≢ p → create ≢ 0 → holder (made create) ≡ p → c.covers k ≡ true → c.guards k ≢ create
others_spare {holder = holder} {made = made} {c = c} {k = k} p create o apart some mine e g =
    apart (sym (o.own e (λ z. some (sym g ∙ z))) ∙ ap (λ (n : ℕ). holder (made n)) g ∙ mine)

-- a proxy's live session is one that it drew
pub live_drew : {holder : ℕ → ℕ} {v : View} (p : ℕ) → Inv holder v → live v p ≢ 0 → holder (live v p) ≡ p
live_drew {holder} {v} p h = by_live (nat_lt (v.clocks p) (v.terms p).deadline)
  where
    by_live : (t : Bool) → cond t (v.terms p).number 0 ≢ 0 → holder (cond t (v.terms p).number 0) ≡ p
    by_live true n = ((h.terms p).standing n).by
    by_live false n = absurd (n refl)

pub sends_keep : SendsKeep
sends_keep holder v c row w h =
    record {
      unsent = λ j l.
          (let u = h.unsent j (omega arith) in
          record { covers = λ k. ap (λ (x : Call). x.covers k) (put_other v.calls (v.sent + 1) j c (grind (arith, nat_tests))) ∙ u.covers k; done = u.done; still = u.still; untimed = u.untimed });
      owners = h.owners;
      told = h.told;
      calls = λ j k. call_by j k (j == v.sent + 1);
      acquires = λ j. acquire_by j (j == v.sent + 1);
      outcomes = λ j. outcome_by j (j == v.sent + 1) refl;
      terms = λ p. term_ok p;
      leases = h.leases;
      slots = λ p k. slot_by p k (p == c.proxy) refl;
    }
  where
    fresh : (v.outcomes (v.sent + 1)).done ≡ false
    fresh = (h.unsent (v.sent + 1) (omega arith)).done

    mine : (k : List ℕ) → c.covers k ≡ true → c.guards k ≢ 0 → Mine holder v.rev v.made c.proxy (v.slots c.proxy k).create
    mine k e n = (h.slots c.proxy k).entry (w.entry k e n)

    -- what it compares is 0, or its proxy's own
    ok : (k : List ℕ) → CallOk holder v.rev v.made c k
    ok k =
        record {
          past = λ e. past e (c.guards k == 0) refl;
          own = λ e n. ap (λ (g : ℕ). holder (v.made g)) (w.compares k e n) ∙ (mine k e n).own;
        }
      where
        past : c.covers k ≡ true → (t : Bool) → (c.guards k == 0) ≡ t → c.guards k ≤ v.rev
        past e true z = let is = same_number (c.guards k) 0 z in omega arith
        past e false z =
            let n = other_number (c.guards k) 0 z in
            let l = (mine k e n).past in
            let is = w.compares k e n in
            omega arith

    drew : c.kind ≡ Acquires → Drew holder v.drawn c.proxy c.session
    drew a = subst (Drew holder v.drawn c.proxy) (sym (w.under a)) ((h.terms c.proxy).standing (w.standing a))

    acquire_ok : AcquireOk holder v.drawn c
    acquire_ok = record { under = drew; uncovered = w.uncovered }

    call_by : (j : ℕ) (k : List ℕ) (t : Bool) → CallOk holder v.rev v.made (cond t c (v.calls j)) k
    call_by j k true = ok k
    call_by j k false = h.calls j k

    acquire_by : (j : ℕ) (t : Bool) → AcquireOk holder v.drawn (cond t c (v.calls j))
    acquire_by j true = acquire_ok
    acquire_by j false = h.acquires j

    outcome_by : (j : ℕ) (t : Bool) → (j == v.sent + 1) ≡ t → OutcomeOk v.rev v.made v.floors (cond t c (v.calls j)) (v.outcomes j)
    outcome_by j true e =
        let u = h.unsent j (let is = same_number j (v.sent + 1) e in omega arith) in
        record {
          owners = (h.outcomes j).owners;
          created = λ a f. absurd (let g = u.still in cc);
          past = λ a f. absurd (let g = u.still in cc);
          maker = λ a f. absurd (let g = u.still in cc);
          floor = λ n. absurd (n u.untimed);
        }
    outcome_by j false e = h.outcomes j

    -- a session that is asked for is another proxy's, or its proxy has none to acquire under
    term_ok : (p : ℕ) → TermOk holder v.drawn v.floors (put v.calls (v.sent + 1) c) p (v.terms p)
    term_ok p =
        let t = h.terms p in
        record { standing = t.standing; floor = t.floor; drew = t.drew; alone = t.alone; unnamed = λ n i. unnamed n i (i == v.sent + 1) }
      where
        other : (v.terms p).asked ≢ 0 → c.kind ≡ Acquires → c.session ≡ (v.terms p).asked → ⊥
        other n a e =
            let is : c.proxy ≡ p = sym (drew a).by ∙ ap holder e ∙ ((h.terms p).drew n).by in
            w.standing a (ap (λ (q : ℕ). (v.terms q).number) is ∙ (h.terms p).alone n)

        unnamed : (v.terms p).asked ≢ 0 → (i : ℕ) (t : Bool) → (cond t c (v.calls i)).kind ≡ Acquires → (cond t c (v.calls i)).session ≢ (v.terms p).asked
        unnamed n i true a e = other n a e
        unnamed n i false a e = (h.terms p).unnamed n i a e

    -- a slot of another proxy
    others : (p : ℕ) (k : List ℕ) → c.proxy ≢ p → SlotOk holder v.rev (v.sent + 1) v.made (put v.calls (v.sent + 1) c) v.outcomes (live v p) (v.owners k) (v.kvs k) p k (v.slots p k)
    others p k apart =
        let s = h.slots p k in
        slot_sent c s
        (λ e. (let m = s.entry (λ f. cc) in others_spare p (v.slots p k).create (ok k) apart m.some m.own))
        (λ e. (let m = s.entry (λ f. cc) in others_spare p (v.slots p k).create (ok k) apart m.some m.own))
        (λ create l e f n u. won create l e f)
      where
        won : (create : ℕ) → live v p ≢ 0 → (v.owners k).create ≡ create → (v.owners k).session ≡ live v p → c.covers k ≡ true → c.guards k ≢ create
        won create l e f covers g = by_some (create == 0) refl
          where
            by_some : (t : Bool) → (create == 0) ≡ t → ⊥
            by_some true z = l (sym f ∙ (h.owners k).none (e ∙ same_number create 0 z))
            by_some false z =
                others_spare p create (ok k) apart (other_number create 0 z)
                (ap (λ (n : ℕ). holder (v.made n)) (sym e) ∙ ap holder ((h.owners k).maker (λ y. other_number create 0 z (sym e ∙ y)) ∙ f) ∙ live_drew p h l) covers g

    -- the sender's own entry is compared by its own call, or where it is given up
    spares : (p : ℕ) (k : List ℕ) → (v.slots p k).phase ≢ Leaving → (c.covers k ≡ true → c.guards k ≢ 0 → (v.slots p k).phase ≡ Leaving) → (create : ℕ) → create ≢ 0 → c.covers k ≡ true → c.guards k ≢ create
    spares p k not_leaving leaving create some e g = not_leaving (leaving e (λ z. some (sym g ∙ z)))

    own : (p : ℕ) (k : List ℕ) (y : Slot) → c.proxy ≡ p → Becomes v c k (v.slots p k) y → SlotOk holder v.rev (v.sent + 1) v.made (put v.calls (v.sent + 1) c) v.outcomes (live v p) (v.owners k) (v.kvs k) p k y
    own p k y is (stays same leaving) =
        let s = h.slots p k in
        subst (λ (z : Slot). SlotOk holder v.rev (v.sent + 1) v.made (put v.calls (v.sent + 1) c) v.outcomes (live v p) (v.owners k) (v.kvs k) p k z) (sym same)
        (slot_sent c s
        (λ e. spares p k (λ f. cc) leaving (v.slots p k).create (s.entry (λ f. cc)).some)
        (λ e. spares p k (λ f. cc) leaving (v.slots p k).create (s.entry (λ f. cc)).some)
        (λ create l e f n u. spares p k (λ g. (let a = s.apart n in cc)) leaving create (λ z. l (sym f ∙ (h.owners k).none (e ∙ z)))))
    own p k y is (writes phase due kind covers guards same) =
        subst (λ (z : Slot). SlotOk holder v.rev (v.sent + 1) v.made (put v.calls (v.sent + 1) c) v.outcomes (live v p) (v.owners k) (v.kvs k) p k z) (sym same)
        (slot_writes c (h.slots p k) fresh phase due (no_acquire (h.slots p k) (λ f. cc)) kind covers guards)
    own p k y is (acquires absent kind key same) =
        subst (λ (z : Slot). SlotOk holder v.rev (v.sent + 1) v.made (put v.calls (v.sent + 1) c) v.outcomes (live v p) (v.owners k) (v.kvs k) p k z) (sym same)
        (slot_asks c (h.slots p k) fresh absent kind key is)

    slot_by : (p : ℕ) (k : List ℕ) (t : Bool) → (p == c.proxy) ≡ t → SlotOk holder v.rev (v.sent + 1) v.made (put v.calls (v.sent + 1) c) v.outcomes (live v p) (v.owners k) (v.kvs k) p k (cond t row (v.slots p) k)
    slot_by p k true e =
        let is = same_number p c.proxy e in
        own p k (row k) (sym is) (subst (λ (q : ℕ). Becomes v c k (v.slots q k) (row k)) (sym is) (w.becomes k))
    slot_by p k false e = others p k (λ f. other_number p c.proxy e (sym f))
