-- One slot of a proxy where a call is sent, by this proxy or by another.
use Rattle.std.proofs.Common.{◌≡◌, ◌≢◌, ℕ, ◌+◌, ◌≤◌, ◌==◌, Bool, true, false, cond, List, Option, refl, sym, subst, arith}
use Rattle.std.proofs.lemmas.Bool.Decides.{nat_tests}
use Rattle.etcd_types.specs.declared.record.Kv.{Kv}
use Rattle.cache_laws.specs.Moves.View.{Absent, Held, Writing, Acquires, Writes, Owner, Slot, Call, Outcome, put}
use Rattle.cache_laws.specs.Moves.Invariant.{Quiet, QuietBut, Owned, Written, SlotOk}
use Rattle.cache_laws.proofs.Moves.Numbers.{same_number, itself, put_here, put_other}

abbrev Spares : Call → List ℕ → ℕ → Type 0
Spares c k create = c.covers k ≡ true → c.guards k ≢ create

-- the calls that were sent before keep their numbers
old_call : (calls : ℕ → Call) (sent i : ℕ) (c : Call) → i ≤ sent → put calls (sent + 1) c i ≡ calls i
old_call calls sent i c l = put_other calls (sent + 1) i c (grind (arith, nat_tests))

quiet_sent : (calls : ℕ → Call) (outcomes : ℕ → Outcome) (k : List ℕ) (create sent : ℕ) (c : Call) → Quiet calls outcomes k create → Spares c k create → Quiet (put calls (sent + 1) c) outcomes k create
quiet_sent calls outcomes k create sent c h spare i = by_test (i == sent + 1)
  where
    by_test : (t : Bool) → (cond t c (calls i)).covers k ≡ true → (cond t c (calls i)).guards k ≡ create → (outcomes i).done ≡ true
    by_test true e f = absurd (spare e f)
    by_test false e f = h i e f

quiet_but_sent : (calls : ℕ → Call) (outcomes : ℕ → Outcome) (k : List ℕ) (create write sent : ℕ) (c : Call) → QuietBut calls outcomes k create write → Spares c k create → QuietBut (put calls (sent + 1) c) outcomes k create write
quiet_but_sent calls outcomes k create write sent c h spare i n = by_test (i == sent + 1)
  where
    by_test : (t : Bool) → (cond t c (calls i)).covers k ≡ true → (cond t c (calls i)).guards k ≡ create → (outcomes i).done ≡ true
    by_test true e f = absurd (spare e f)
    by_test false e f = h i n e f

owned_sent : {calls : ℕ → Call} {outcomes : ℕ → Outcome} {session : ℕ} {owner : Owner} {kv : Option Kv} {k : List ℕ} {create : ℕ} {held : Option Kv} (sent : ℕ) (c : Call)
    → Owned calls outcomes session owner kv k create held → Spares c k create → Owned (put calls (sent + 1) c) outcomes session owner kv k create held
owned_sent {calls = calls} {outcomes = outcomes} {k = k} {create = create} sent c w spare = record { some = w.some; created = w.created; under = w.under; same = w.same; unleased = w.unleased; quiet = quiet_sent calls outcomes k create sent c w.quiet spare }

written_sent : {calls : ℕ → Call} {outcomes : ℕ → Outcome} {session : ℕ} {owner : Owner} {kv : Option Kv} {k : List ℕ} {create write : ℕ} {held : Option Kv} (sent : ℕ) (c : Call)
    → Written calls outcomes session owner kv k create write held → write ≤ sent → Spares c k create → Written (put calls (sent + 1) c) outcomes session owner kv k create write held
written_sent {calls = calls} {outcomes = outcomes} {k = k} {create = create} {write = write} sent c w l spare =
    let at = sym (old_call calls sent write c l) in
    record {
      created = w.created;
      under = w.under;
      kind = subst (λ (x : Call). x.kind ≡ Writes) at w.kind;
      covers = subst (λ (x : Call). x.covers k ≡ true) at w.covers;
      guards = subst (λ (x : Call). x.guards k ≡ create) at w.guards;
      before = w.before;
      failed = w.failed;
      after = w.after;
      unleased = w.unleased;
      quiet = quiet_but_sent calls outcomes k create write sent c w.quiet spare;
    }

-- the owner's write begins
pub owned_writes : {calls : ℕ → Call} {outcomes : ℕ → Outcome} {session : ℕ} {owner : Owner} {kv : Option Kv} {k : List ℕ} {create : ℕ} {held : Option Kv} (sent : ℕ) (c : Call)
    → Owned calls outcomes session owner kv k create held → (outcomes (sent + 1)).done ≡ false → c.kind ≡ Writes → c.covers k ≡ true → c.guards k ≡ create
    → Written (put calls (sent + 1) c) outcomes session owner kv k create (sent + 1) held
owned_writes {calls = calls} {outcomes = outcomes} {k = k} {create = create} sent c w fresh kind covers guards =
    let at = sym (put_here calls (sent + 1) (sent + 1) c (itself (sent + 1))) in
    record {
      created = w.created;
      under = w.under;
      kind = subst (λ (x : Call). x.kind ≡ Writes) at kind;
      covers = subst (λ (x : Call). x.covers k ≡ true) at covers;
      guards = subst (λ (x : Call). x.guards k ≡ create) at guards;
      before = λ b. w.same;
      failed = λ b. absurd (cc);
      after = λ b. absurd (cc);
      unleased = w.unleased;
      quiet = quiet;
    }
  where
    quiet : QuietBut (put calls (sent + 1) c) outcomes k create (sent + 1)
    quiet i n = by_test (i == sent + 1) refl
      where
        by_test : (t : Bool) → (i == sent + 1) ≡ t → (cond t c (calls i)).covers k ≡ true → (cond t c (calls i)).guards k ≡ create → (outcomes i).done ≡ true
        by_test true e f g = absurd (n (same_number i (sent + 1) e))
        by_test false e f g = w.quiet i f g

-- a slot that stays
pub slot_sent : {holder : ℕ → ℕ} {rev sent : ℕ} {made : ℕ → ℕ} {calls : ℕ → Call} {outcomes : ℕ → Outcome} {session : ℕ} {owner : Owner} {kv : Option Kv} {p : ℕ} {k : List ℕ} {x : Slot}
    (c : Call) → SlotOk holder rev sent made calls outcomes session owner kv p k x → (x.phase ≡ Held → Spares c k x.create) → (x.phase ≡ Writing → Spares c k x.create)
    → ((create : ℕ) → session ≢ 0 → owner.create ≡ create → owner.session ≡ session → x.acquire ≢ 0 → x.spoiled ≡ false → Spares c k create)
    → SlotOk holder rev (sent + 1) made (put calls (sent + 1) c) outcomes session owner kv p k x
slot_sent {sent = sent} {calls = calls} {outcomes = outcomes} {session = session} {owner = owner} {kv = kv} {p = p} {k = k} {x = x} c s held busy won =
    record {
      entry = s.entry;
      held = λ l h. owned_sent sent c (s.held l h) (held h);
      due = λ l h z. owned_sent sent c (s.due l h z) (busy h);
      out = λ l h n. written_sent sent c (s.out l h n) s.write_sent (busy h);
      acquire_sent = (let a = s.acquire_sent in omega arith);
      write_sent = (let a = s.write_sent in omega arith);
      asked = λ n. subst (λ (y : Call). y.kind ≡ Acquires) at (s.asked n);
      asked_key = λ n. subst (λ (y : Call). y.key ≡ k) at (s.asked_key n);
      asked_by = λ n. subst (λ (y : Call). y.proxy ≡ p) at (s.asked_by n);
      apart = s.apart;
      won = λ l n u e d o.
          (let w = s.won l n u (subst (λ (y : Call). y.session ≡ session) (sym at) e) d o in owned_sent sent c w (won (outcomes x.acquire).create l w.created w.under n u));
    }
  where
    at : calls x.acquire ≡ put calls (sent + 1) c x.acquire
    at = sym (old_call calls sent x.acquire c s.acquire_sent)

-- a due write goes out
pub slot_writes : {holder : ℕ → ℕ} {rev sent : ℕ} {made : ℕ → ℕ} {calls : ℕ → Call} {outcomes : ℕ → Outcome} {session : ℕ} {owner : Owner} {kv : Option Kv} {p : ℕ} {k : List ℕ} {x : Slot}
    (c : Call) → SlotOk holder rev sent made calls outcomes session owner kv p k x → (outcomes (sent + 1)).done ≡ false → x.phase ≡ Writing → x.write ≡ 0 → x.acquire ≡ 0 → c.kind ≡ Writes → c.covers k ≡ true → c.guards k ≡ x.create
    → SlotOk holder rev (sent + 1) made (put calls (sent + 1) c) outcomes session owner kv p k (record x { write = sent + 1 })
slot_writes {sent = sent} c s fresh is due none kind covers guards =
    record {
      entry = s.entry;
      held = λ l h. absurd (cc);
      due = λ l h z. absurd (omega arith);
      out = λ l h n. owned_writes sent c (s.due l is due) fresh kind covers guards;
      acquire_sent = omega arith;
      write_sent = omega arith;
      asked = λ n. absurd (n none);
      asked_key = λ n. absurd (n none);
      asked_by = λ n. absurd (n none);
      apart = λ n. absurd (n none);
      won = λ l n. absurd (n none);
    }

-- an acquire goes out
pub slot_asks : {holder : ℕ → ℕ} {rev sent : ℕ} {made : ℕ → ℕ} {calls : ℕ → Call} {outcomes : ℕ → Outcome} {session : ℕ} {owner : Owner} {kv : Option Kv} {p : ℕ} {k : List ℕ} {x : Slot}
    (c : Call) → SlotOk holder rev sent made calls outcomes session owner kv p k x → (outcomes (sent + 1)).done ≡ false → x.phase ≡ Absent → c.kind ≡ Acquires → c.key ≡ k → c.proxy ≡ p
    → SlotOk holder rev (sent + 1) made (put calls (sent + 1) c) outcomes session owner kv p k (record x { acquire = sent + 1; spoiled = false })
slot_asks {sent = sent} {calls = calls} {p = p} {k = k} c s fresh is kind key by =
    let at = sym (put_here calls (sent + 1) (sent + 1) c (itself (sent + 1))) in
    record {
      entry = λ n. absurd (n is);
      held = λ l h. absurd (cc);
      due = λ l h z. absurd (cc);
      out = λ l h n. absurd (cc);
      acquire_sent = omega arith;
      write_sent = (let a = s.write_sent in omega arith);
      asked = λ n. subst (λ (y : Call). y.kind ≡ Acquires) at kind;
      asked_key = λ n. subst (λ (y : Call). y.key ≡ k) at key;
      asked_by = λ n. subst (λ (y : Call). y.proxy ≡ p) at by;
      apart = λ n. is;
      won = λ l n u e d. absurd (cc);
    }
