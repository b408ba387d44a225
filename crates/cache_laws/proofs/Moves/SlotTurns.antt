-- One slot where something comes to its proxy, and where the proxy's session changes.
use Rattle.std.proofs.Common.{◌≡◌, ◌≢◌, ℕ, ◌≤◌, ◌==◌, Bool, true, false, List, Option, None, refl, sym, ◌∙◌, ap, subst, arith}
use Rattle.etcd_types.specs.declared.record.Kv.{Kv}
use Rattle.cache_laws.specs.Moves.View.{Absent, Held, Writing, Leaving, Owner, Slot, no_slot, Call, Outcome}
use Rattle.cache_laws.specs.Moves.Invariant.{Mine, Owned, Written, SlotOk, OwnerOk}
use Rattle.cache_laws.proofs.Moves.Numbers.{same_number, other_number}

-- a session's own create revision
pub mine_of : {holder : ℕ → ℕ} {rev : ℕ} {made : ℕ → ℕ} {calls : ℕ → Call} {outcomes : ℕ → Outcome} {session : ℕ} {owner : Owner} {kv : Option Kv} {k : List ℕ} {create : ℕ} {held : Option Kv} (p : ℕ)
    → OwnerOk rev made owner → holder session ≡ p → Owned calls outcomes session owner kv k create held → Mine holder rev made p create
mine_of {holder = holder} {rev = rev} {made = made} {owner = owner} {create = create} p o h w =
    record {
      some = w.some;
      past = subst (λ (c : ℕ). c ≤ rev) w.created o.past;
      own = ap (λ (c : ℕ). holder (made c)) (sym w.created) ∙ ap holder (o.maker (λ z. w.some (sym w.created ∙ z)) ∙ w.under) ∙ h;
    }

-- an entry excludes an acquire
pub no_acquire : {holder : ℕ → ℕ} {rev sent : ℕ} {made : ℕ → ℕ} {calls : ℕ → Call} {outcomes : ℕ → Outcome} {session : ℕ} {owner : Owner} {kv : Option Kv} {p : ℕ} {k : List ℕ} {x : Slot} → SlotOk holder rev sent made calls outcomes session owner kv p k x → x.phase ≢ Absent → x.acquire ≡ 0
no_acquire {x = x} s there = by_test (x.acquire == 0) refl
  where
    by_test : (t : Bool) → (x.acquire == 0) ≡ t → x.acquire ≡ 0
    by_test true e = same_number x.acquire 0 e
    by_test false e = absurd (there (s.apart (other_number x.acquire 0 e)))

-- a slot without an acquire
without_acquire : {holder : ℕ → ℕ} {rev sent : ℕ} {made : ℕ → ℕ} {calls : ℕ → Call} {outcomes : ℕ → Outcome} {session : ℕ} {owner : Owner} {kv : Option Kv} {p : ℕ} {k : List ℕ} (y : Slot) → y.acquire ≡ 0 → y.write ≤ sent → (y.phase ≢ Absent → Mine holder rev made p y.create)
    → (session ≢ 0 → y.phase ≡ Held → Owned calls outcomes session owner kv k y.create y.kv)
    → (session ≢ 0 → y.phase ≡ Writing → y.write ≡ 0 → Owned calls outcomes session owner kv k y.create y.kv)
    → (session ≢ 0 → y.phase ≡ Writing → y.write ≢ 0 → Written calls outcomes session owner kv k y.create y.write y.kv) → SlotOk holder rev sent made calls outcomes session owner kv p k y
without_acquire y none sent entry held due out =
    record {
      entry = entry;
      held = held;
      due = due;
      out = out;
      acquire_sent = omega arith;
      write_sent = sent;
      asked = λ n. absurd (n none);
      asked_key = λ n. absurd (n none);
      asked_by = λ n. absurd (n none);
      apart = λ n. absurd (n none);
      won = λ l n. absurd (n none);
    }

-- an acquire succeeded
pub slot_holds : {holder : ℕ → ℕ} {rev sent : ℕ} {made : ℕ → ℕ} {calls : ℕ → Call} {outcomes : ℕ → Outcome} {session : ℕ} {owner : Owner} {kv : Option Kv} {p : ℕ} {k : List ℕ} {x : Slot} → SlotOk holder rev sent made calls outcomes session owner kv p k x → OwnerOk rev made owner → session ≢ 0 → holder session ≡ p → x.acquire ≢ 0 → x.spoiled ≡ false → (calls x.acquire).session ≡ session
    → (outcomes x.acquire).done ≡ true → (outcomes x.acquire).ok ≡ true
    → SlotOk holder rev sent made calls outcomes session owner kv p k (record x { phase = Held; create = (outcomes x.acquire).create; kv = (outcomes x.acquire).kvs k; acquire = 0; write = 0 })
slot_holds {p = p} {x = x} s o live h n u e d ok =
    let w = s.won live n u e d ok in
    without_acquire _ refl (omega arith) (λ f. mine_of p o h w) (λ l f. w) (λ l f. absurd (cc)) (λ l f. absurd (cc))

-- an ownership of the proxy's own is to be given up
pub slot_leaves : {holder : ℕ → ℕ} {rev sent : ℕ} {made : ℕ → ℕ} {calls : ℕ → Call} {outcomes : ℕ → Outcome} {session : ℕ} {owner : Owner} {kv : Option Kv} {p : ℕ} {k : List ℕ} {x : Slot} (create : ℕ) → SlotOk holder rev sent made calls outcomes session owner kv p k x → Mine holder rev made p create
    → SlotOk holder rev sent made calls outcomes session owner kv p k (record x { phase = Leaving; create = create; acquire = 0; spoiled = false; write = 0 })
slot_leaves create s mine = without_acquire _ refl (omega arith) (λ f. mine) (λ l f. absurd (cc)) (λ l f. absurd (cc)) (λ l f. absurd (cc))

-- an owner call was executed: no other call is out
rested : {calls : ℕ → Call} {outcomes : ℕ → Outcome} {session : ℕ} {owner : Owner} {kv : Option Kv} {k : List ℕ} {create write : ℕ} {held next : Option Kv}
    → create ≢ 0 → Written calls outcomes session owner kv k create write held → (outcomes write).done ≡ true → kv ≡ next → Owned calls outcomes session owner kv k create next
rested {calls = calls} {outcomes = outcomes} {k = k} {create = create} {write = write} some w done same =
    record { some = some; created = w.created; under = w.under; same = same; unleased = w.unleased; quiet = λ i. quiet i (i == write) refl }
  where
    quiet : (i : ℕ) (t : Bool) → (i == write) ≡ t → (calls i).covers k ≡ true → (calls i).guards k ≡ create → (outcomes i).done ≡ true
    quiet i true e c g = subst (λ (j : ℕ). (outcomes j).done ≡ true) (sym (same_number i write e)) done
    quiet i false e c g = w.quiet i (other_number i write e) c g

-- what the owner call left is held again
pub slot_rests : {holder : ℕ → ℕ} {rev sent : ℕ} {made : ℕ → ℕ} {calls : ℕ → Call} {outcomes : ℕ → Outcome} {session : ℕ} {owner : Owner} {kv : Option Kv} {p : ℕ} {k : List ℕ} {x : Slot} → SlotOk holder rev sent made calls outcomes session owner kv p k x → x.phase ≡ Writing → x.write ≢ 0 → (outcomes x.write).done ≡ true → (outcomes x.write).ok ≡ true
    → SlotOk holder rev sent made calls outcomes session owner kv p k (record x { phase = Held; kv = (outcomes x.write).leaves k x.kv; write = 0 })
slot_rests {calls = calls} {outcomes = outcomes} {session = session} {owner = owner} {kv = kv} {k = k} {x = x} s busy out done ok =
    let mine = s.entry (λ e. cc) in
    without_acquire _ (no_acquire s (λ e. cc)) (omega arith) (λ f. mine) (λ l f. (let w = s.out l busy out in rested mine.some w done (w.after done ok))) (λ l f. absurd (cc)) (λ l f. absurd (cc))

-- or the old record
pub slot_returns : {holder : ℕ → ℕ} {rev sent : ℕ} {made : ℕ → ℕ} {calls : ℕ → Call} {outcomes : ℕ → Outcome} {session : ℕ} {owner : Owner} {kv : Option Kv} {p : ℕ} {k : List ℕ} {x : Slot} → SlotOk holder rev sent made calls outcomes session owner kv p k x → x.phase ≡ Writing → x.write ≢ 0 → (outcomes x.write).done ≡ true → (outcomes x.write).ok ≡ false
    → SlotOk holder rev sent made calls outcomes session owner kv p k (record x { phase = Held; write = 0 })
slot_returns {x = x} s busy out done ok =
    let mine = s.entry (λ e. cc) in
    without_acquire _ (no_acquire s (λ e. cc)) (omega arith) (λ f. mine) (λ l f. (let w = s.out l busy out in rested mine.some w done (w.failed done ok))) (λ l f. absurd (cc)) (λ l f. absurd (cc))

-- also where the call was never sent
pub slot_withdraws : {holder : ℕ → ℕ} {rev sent : ℕ} {made : ℕ → ℕ} {calls : ℕ → Call} {outcomes : ℕ → Outcome} {session : ℕ} {owner : Owner} {kv : Option Kv} {p : ℕ} {k : List ℕ} {x : Slot} → SlotOk holder rev sent made calls outcomes session owner kv p k x → x.phase ≡ Writing → x.write ≡ 0 → SlotOk holder rev sent made calls outcomes session owner kv p k (record x { phase = Held })
slot_withdraws {x = x} s busy due =
    without_acquire _ (no_acquire s (λ e. cc)) s.write_sent (λ f. s.entry (λ e. cc)) (λ l f. s.due l busy due) (λ l f. absurd (cc)) (λ l f. absurd (cc))

pub slot_begins : {holder : ℕ → ℕ} {rev sent : ℕ} {made : ℕ → ℕ} {calls : ℕ → Call} {outcomes : ℕ → Outcome} {session : ℕ} {owner : Owner} {kv : Option Kv} {p : ℕ} {k : List ℕ} {x : Slot} → SlotOk holder rev sent made calls outcomes session owner kv p k x → x.phase ≡ Held → SlotOk holder rev sent made calls outcomes session owner kv p k (record x { phase = Writing; write = 0 })
slot_begins s held =
    without_acquire _ (no_acquire s (λ e. cc)) (omega arith) (λ f. s.entry (λ e. cc)) (λ l f. absurd (cc)) (λ l f z. s.held l held) (λ l f n. absurd (n refl))

pub slot_gives_up : {holder : ℕ → ℕ} {rev sent : ℕ} {made : ℕ → ℕ} {calls : ℕ → Call} {outcomes : ℕ → Outcome} {session : ℕ} {owner : Owner} {kv : Option Kv} {p : ℕ} {k : List ℕ} {x : Slot} → SlotOk holder rev sent made calls outcomes session owner kv p k x → x.phase ≢ Absent → SlotOk holder rev sent made calls outcomes session owner kv p k (record x { phase = Leaving; write = 0 })
slot_gives_up s there =
    without_acquire _ (no_acquire s there) (omega arith) (λ f. s.entry there) (λ l f. absurd (cc)) (λ l f. absurd (cc)) (λ l f. absurd (cc))

pub slot_forgets : {holder : ℕ → ℕ} {rev sent : ℕ} {made : ℕ → ℕ} {calls : ℕ → Call} {outcomes : ℕ → Outcome} {session : ℕ} {owner : Owner} {kv : Option Kv} {p : ℕ} {k : List ℕ} {x : Slot} → SlotOk holder rev sent made calls outcomes session owner kv p k x → SlotOk holder rev sent made calls outcomes session owner kv p k (record x { phase = Absent; create = 0; kv = None; write = 0 })
slot_forgets s =
    record {
      entry = λ f. absurd (f refl);
      held = λ l f. absurd (cc);
      due = λ l f. absurd (cc);
      out = λ l f. absurd (cc);
      acquire_sent = s.acquire_sent;
      write_sent = omega arith;
      asked = s.asked;
      asked_key = s.asked_key;
      asked_by = s.asked_by;
      apart = λ n. refl;
      won = s.won;
    }

pub slot_spoils : {holder : ℕ → ℕ} {rev sent : ℕ} {made : ℕ → ℕ} {calls : ℕ → Call} {outcomes : ℕ → Outcome} {session : ℕ} {owner : Owner} {kv : Option Kv} {p : ℕ} {k : List ℕ} {x : Slot} → SlotOk holder rev sent made calls outcomes session owner kv p k x → SlotOk holder rev sent made calls outcomes session owner kv p k (record x { spoiled = true })
slot_spoils s =
    record {
      entry = s.entry;
      held = s.held;
      due = s.due;
      out = s.out;
      acquire_sent = s.acquire_sent;
      write_sent = s.write_sent;
      asked = s.asked;
      asked_key = s.asked_key;
      asked_by = s.asked_by;
      apart = s.apart;
      won = λ l n u. absurd (cc);
    }

pub slot_ends_acquire : {holder : ℕ → ℕ} {rev sent : ℕ} {made : ℕ → ℕ} {calls : ℕ → Call} {outcomes : ℕ → Outcome} {session : ℕ} {owner : Owner} {kv : Option Kv} {p : ℕ} {k : List ℕ} {x : Slot} → SlotOk holder rev sent made calls outcomes session owner kv p k x → SlotOk holder rev sent made calls outcomes session owner kv p k (record x { acquire = 0; spoiled = false })
slot_ends_acquire s = without_acquire _ refl s.write_sent s.entry s.held s.due s.out

-- a proxy that knows nothing
pub slot_new : {holder : ℕ → ℕ} {rev sent : ℕ} {made : ℕ → ℕ} {calls : ℕ → Call} {outcomes : ℕ → Outcome} {session : ℕ} {owner : Owner} {kv : Option Kv} {p : ℕ} {k : List ℕ} → SlotOk holder rev sent made calls outcomes session owner kv p k no_slot
slot_new = without_acquire no_slot refl (omega arith) (λ f. absurd (f refl)) (λ l f. absurd (cc)) (λ l f. absurd (cc)) (λ l f. absurd (cc))

-- no session lives
pub slot_dead : {holder : ℕ → ℕ} {rev sent : ℕ} {made : ℕ → ℕ} {calls : ℕ → Call} {outcomes : ℕ → Outcome} {session : ℕ} {owner : Owner} {kv : Option Kv} {p : ℕ} {k : List ℕ} {x : Slot} → SlotOk holder rev sent made calls outcomes session owner kv p k x → SlotOk holder rev sent made calls outcomes 0 owner kv p k x
slot_dead s =
    record {
      entry = s.entry;
      held = λ l. absurd (l refl);
      due = λ l. absurd (l refl);
      out = λ l. absurd (l refl);
      acquire_sent = s.acquire_sent;
      write_sent = s.write_sent;
      asked = s.asked;
      asked_key = s.asked_key;
      asked_by = s.asked_by;
      apart = s.apart;
      won = λ l. absurd (l refl);
    }

-- another session, which nothing names
pub slot_begun : {holder : ℕ → ℕ} {rev sent : ℕ} {made : ℕ → ℕ} {calls : ℕ → Call} {outcomes : ℕ → Outcome} {session : ℕ} {owner : Owner} {kv : Option Kv} {p : ℕ} {k : List ℕ} {x : Slot} (session' : ℕ) → SlotOk holder rev sent made calls outcomes session owner kv p k x → x.phase ≢ Held → x.phase ≢ Writing → (x.acquire ≢ 0 → (calls x.acquire).session ≢ session')
    → SlotOk holder rev sent made calls outcomes session' owner kv p k x
slot_begun session' s not_held not_writing unnamed =
    record {
      entry = s.entry;
      held = λ l f. absurd (not_held f);
      due = λ l f. absurd (not_writing f);
      out = λ l f. absurd (not_writing f);
      acquire_sent = s.acquire_sent;
      write_sent = s.write_sent;
      asked = s.asked;
      asked_key = s.asked_key;
      asked_by = s.asked_by;
      apart = s.apart;
      won = λ l n u e. absurd (unnamed n e);
    }
