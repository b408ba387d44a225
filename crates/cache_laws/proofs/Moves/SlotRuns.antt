-- One slot under what the store does.
use Rattle.std.proofs.Common.{◌≡◌, ◌≢◌, ℕ, ◌<◌, ◌≤◌, ◌==◌, Bool, true, false, cond, List, Option, ◌⊎◌, inl, inr, refl, sym, ◌∙◌, ap, subst, arith}
use Rattle.etcd_types.specs.declared.record.Kv.{Kv}
use Rattle.cache_laws.specs.Moves.View.{Absent, Writing, Acquires, Writes, Owner, Slot, Call, Outcome, put}
use Rattle.cache_laws.specs.Moves.Invariant.{Mine, Owned, Written, SlotOk, CallOk}
use Rattle.cache_laws.proofs.Moves.Numbers.{same_number, other_number, itself, put_here, put_other}
use Rattle.store_model.specs.LeftRecords.{lease_of}

-- what was executed stays so
pub still_done : (outcomes : ℕ → Outcome) (i : ℕ) (o : Outcome) (j : ℕ) → o.done ≡ true → (outcomes j).done ≡ true → (put outcomes i o j).done ≡ true
still_done outcomes i o j d e = by_test (j == i)
  where
    by_test : (t : Bool) → (cond t o (outcomes j)).done ≡ true
    by_test true = d
    by_test false = e

-- a call that isn't executed yet compares no other create revision than a quiet one, so what it does passes by
pub record Same (owner owner' : Owner) (kv kv' : Option Kv) : Type 0 where
  pub owner_stays : owner' ≡ owner
  pub kv_stays : kv' ≡ kv

pub passes_by : (c : Call) (done : Bool) (o : Outcome) (k : List ℕ) (create : ℕ) (owner owner' : Owner) (kv : Option Kv) → done ≡ false → owner.create ≡ create → (c.covers k ≡ true → c.guards k ≡ create → done ≡ true)
    → (o.ok ≡ true → c.covers k ≡ true → owner.create ≡ c.guards k) → (c.covers k ≡ false → owner' ≡ owner) → (c.covers k ≡ false → o.kvs k ≡ kv)
    → (o.ok ≡ false → owner' ≡ owner) → (o.ok ≡ false → o.kvs k ≡ kv) → Same owner owner' kv (o.kvs k)
passes_by c done o k create owner owner' kv fresh made quiet guard others others_kv failed failed_kv = by_tests (c.covers k) o.ok refl refl
  where
    by_tests : (covers ok : Bool) → c.covers k ≡ covers → o.ok ≡ ok → Same owner owner' kv (o.kvs k)
    by_tests false ok e f = record { owner_stays = others e; kv_stays = others_kv e }
    by_tests true false e f = record { owner_stays = failed f; kv_stays = failed_kv f }
    by_tests true true e f = absurd (let g = quiet e (sym (guard f e) ∙ made) in cc)

pub owned_same : {calls : ℕ → Call} {outcomes : ℕ → Outcome} {session : ℕ} {owner : Owner} {kv : Option Kv} {k : List ℕ} {create : ℕ} {held : Option Kv} (i : ℕ) (o : Outcome) (owner' : Owner) (kv' : Option Kv)
    → Owned calls outcomes session owner kv k create held → o.done ≡ true → owner' ≡ owner → kv' ≡ kv → Owned calls (put outcomes i o) session owner' kv' k create held
owned_same {outcomes = outcomes} i o owner' kv' w done e f =
    record {
      some = w.some;
      created = ap (λ (x : Owner). x.create) e ∙ w.created;
      under = ap (λ (x : Owner). x.session) e ∙ w.under;
      same = f ∙ w.same;
      unleased = ap lease_of f ∙ w.unleased;
      quiet = λ j c g. still_done outcomes i o j done (w.quiet j c g);
    }

pub written_same : {calls : ℕ → Call} {outcomes : ℕ → Outcome} {session : ℕ} {owner : Owner} {kv : Option Kv} {k : List ℕ} {create write : ℕ} {held : Option Kv} (i : ℕ) (o : Outcome) (owner' : Owner) (kv' : Option Kv)
    → Written calls outcomes session owner kv k create write held → o.done ≡ true → (write == i) ≡ false → owner' ≡ owner → kv' ≡ kv → Written calls (put outcomes i o) session owner' kv' k create write held
written_same {outcomes = outcomes} {kv = kv} {k = k} {write = write} {held = held} i o owner' kv' w done d e f =
    let at = sym (put_other outcomes i write o d) in
    let before : (put outcomes i o write).done ≡ false → kv ≡ held = subst (λ (x : Outcome). x.done ≡ false → kv ≡ held) at w.before in
    let after : (put outcomes i o write).done ≡ true → (put outcomes i o write).ok ≡ true → kv ≡ (put outcomes i o write).leaves k held = subst (λ (x : Outcome). x.done ≡ true → x.ok ≡ true → kv ≡ x.leaves k held) at w.after in
    let failed : (put outcomes i o write).done ≡ true → (put outcomes i o write).ok ≡ false → kv ≡ held = subst (λ (x : Outcome). x.done ≡ true → x.ok ≡ false → kv ≡ held) at w.failed in
    record {
      created = ap (λ (x : Owner). x.create) e ∙ w.created;
      under = ap (λ (x : Owner). x.session) e ∙ w.under;
      kind = w.kind;
      covers = w.covers;
      guards = w.guards;
      before = λ b. f ∙ before b;
      failed = λ b c. f ∙ failed b c;
      after = λ b c. f ∙ after b c;
      unleased = ap lease_of f ∙ w.unleased;
      quiet = λ j n c g. still_done outcomes i o j done (w.quiet j n c g);
    }

-- the owner's own write is executed
pub written_ran : {calls : ℕ → Call} {outcomes : ℕ → Outcome} {session : ℕ} {owner : Owner} {kv : Option Kv} {k : List ℕ} {create write : ℕ} {held : Option Kv} (i : ℕ) (o : Outcome) (owner' : Owner)
    → Written calls outcomes session owner kv k create write held → create ≢ 0 → (outcomes i).done ≡ false → o.done ≡ true → write ≡ i → owner' ≡ owner → (o.ok ≡ false → o.kvs k ≡ kv)
    → (o.ok ≡ true → (calls i).covers k ≡ true → (calls i).guards k ≢ 0 → o.kvs k ≡ o.leaves k kv)
    → (o.ok ≡ true → (calls i).covers k ≡ true → (calls i).guards k ≢ 0 → lease_of kv ≡ 0 → lease_of (o.kvs k) ≡ 0) → Written calls (put outcomes i o) session owner' (o.kvs k) k create write held
written_ran {calls = calls} {outcomes = outcomes} {kv = kv} {k = k} {create = create} {write = write} {held = held} i o owner' w some fresh done is e failed left unleased =
    let at : put outcomes i o write ≡ o = put_here outcomes i write o (subst (λ (j : ℕ). (write == j) ≡ true) is (itself write)) in
    let covers : (calls i).covers k ≡ true = subst (λ (j : ℕ). (calls j).covers k ≡ true) is w.covers in
    let guards : (calls i).guards k ≡ create = subst (λ (j : ℕ). (calls j).guards k ≡ create) is w.guards in
    let not_yet : (outcomes write).done ≡ false = subst (λ (j : ℕ). (outcomes j).done ≡ false) (sym is) fresh in
    let old = w.unleased in
    record {
      created = ap (λ (x : Owner). x.create) e ∙ w.created;
      under = ap (λ (x : Owner). x.session) e ∙ w.under;
      kind = w.kind;
      covers = w.covers;
      guards = w.guards;
      before = λ b. absurd (let g = ap (λ (x : Outcome). x.done) at in cc);
      failed = λ b c. failed (ap (λ (x : Outcome). x.ok) (sym at) ∙ c) ∙ w.before not_yet;
      after = λ b c.
          left (ap (λ (x : Outcome). x.ok) (sym at) ∙ c) covers (λ z. some (sym guards ∙ z)) ∙ ap (o.leaves k) (w.before not_yet)
          ∙ ap (λ (x : Outcome). x.leaves k held) (sym at);
      unleased = by_ok o.ok refl old covers (λ z. some (sym guards ∙ z));
      quiet = λ j n c g. still_done outcomes i o j done (w.quiet j n c g);
    }
  where
    by_ok : (t : Bool) → o.ok ≡ t → lease_of kv ≡ 0 → (calls i).covers k ≡ true → (calls i).guards k ≢ 0 → lease_of (o.kvs k) ≡ 0
    by_ok true e old c g = unleased e c g old
    by_ok false e old c g = ap lease_of (failed e) ∙ old

pub mine_later : {holder : ℕ → ℕ} {rev : ℕ} {made : ℕ → ℕ} {p create : ℕ} (rev' : ℕ) → Mine holder rev made p create → rev ≤ rev' → Mine holder rev' made p create
mine_later rev' m l = let past = m.past in record { some = m.some; past = omega arith; own = m.own }

-- a write or a rescind
pub slot_write : {holder : ℕ → ℕ} {rev sent : ℕ} {made : ℕ → ℕ} {calls : ℕ → Call} {outcomes : ℕ → Outcome} {session : ℕ} {owner : Owner} {kv : Option Kv} {p : ℕ} {k : List ℕ} {x : Slot}
    (rev' : ℕ) (owner' : Owner) (i : ℕ) (o : Outcome) → SlotOk holder rev sent made calls outcomes session owner kv p k x → rev ≤ rev' → (outcomes i).done ≡ false → (calls i).kind ≢ Acquires → o.done ≡ true
    → (o.ok ≡ true → (calls i).covers k ≡ true → owner.create ≡ (calls i).guards k)
    → ((calls i).covers k ≡ false → owner' ≡ owner) → ((calls i).covers k ≡ false → o.kvs k ≡ kv)
    → (o.ok ≡ false → owner' ≡ owner) → (o.ok ≡ false → o.kvs k ≡ kv)
    → ((calls i).kind ≡ Writes → owner' ≡ owner)
    → (o.ok ≡ true → (calls i).kind ≡ Writes → (calls i).covers k ≡ true → (calls i).guards k ≢ 0 → o.kvs k ≡ o.leaves k kv)
    → (o.ok ≡ true → (calls i).kind ≡ Writes → (calls i).covers k ≡ true → (calls i).guards k ≢ 0 → lease_of kv ≡ 0 → lease_of (o.kvs k) ≡ 0)
    → SlotOk holder rev' sent made calls (put outcomes i o) session owner' (o.kvs k) p k x
slot_write {holder = holder} {rev = rev} {sent = sent} {made = made} {calls = calls} {outcomes = outcomes} {session = session} {owner = owner} {kv = kv} {p = p} {k = k} {x = x} rev' owner' i o s r fresh kind done guard others others_kv failed failed_kv kept left unleased =
    record {
      entry = λ n. mine_later rev' (s.entry n) r;
      held = λ l h. owned (s.held l h);
      due = λ l h z. owned (s.due l h z);
      out = λ l h n. written (s.entry (busy h)) (s.out l h n);
      acquire_sent = s.acquire_sent;
      write_sent = s.write_sent;
      asked = s.asked;
      asked_key = s.asked_key;
      asked_by = s.asked_by;
      apart = s.apart;
      won = λ l n u c d e. won n (other_call n) (s.won l n u c) d e;
    }
  where
    busy : x.phase ≡ Writing → x.phase ≢ Absent
    busy h = λ e. cc

    owned : {create : ℕ} {held : Option Kv} → Owned calls outcomes session owner kv k create held → Owned calls (put outcomes i o) session owner' (o.kvs k) k create held
    owned {create} {held} w =
        let same = passes_by (calls i) (outcomes i).done o k create owner owner' kv fresh w.created (w.quiet i) guard others others_kv failed failed_kv in
        owned_same i o owner' (o.kvs k) w done same.owner_stays same.kv_stays

    written : {create write : ℕ} {held : Option Kv} → Mine holder rev made p create → Written calls outcomes session owner kv k create write held → Written calls (put outcomes i o) session owner' (o.kvs k) k create write held
    written {create} {write} {held} m w = by_test (write == i) refl
      where
        by_test : (t : Bool) → (write == i) ≡ t → Written calls (put outcomes i o) session owner' (o.kvs k) k create write held
        by_test true e =
            let is = same_number write i e in
            let writes : (calls i).kind ≡ Writes = subst (λ (j : ℕ). (calls j).kind ≡ Writes) is w.kind in
            written_ran i o owner' w m.some fresh done is (kept writes) failed_kv (λ ok. left ok writes) (λ ok. unleased ok writes)
        by_test false e =
            let same = passes_by (calls i) (outcomes i).done o k create owner owner' kv fresh w.created (w.quiet i (λ is. other_number write i e (sym is))) guard others others_kv failed failed_kv in
            written_same i o owner' (o.kvs k) w done e same.owner_stays same.kv_stays

    other_call : x.acquire ≢ 0 → (x.acquire == i) ≡ false
    other_call n = by_test (x.acquire == i) refl
      where
        by_test : (t : Bool) → (x.acquire == i) ≡ t → t ≡ false
        by_test true e = absurd (kind (subst (λ (j : ℕ). (calls j).kind ≡ Acquires) (same_number x.acquire i e) (s.asked n)))
        by_test false e = refl

    won : x.acquire ≢ 0 → (x.acquire == i) ≡ false
        → ((outcomes x.acquire).done ≡ true → (outcomes x.acquire).ok ≡ true → Owned calls outcomes session owner kv k (outcomes x.acquire).create ((outcomes x.acquire).kvs k))
        → (put outcomes i o x.acquire).done ≡ true → (put outcomes i o x.acquire).ok ≡ true → Owned calls (put outcomes i o) session owner' (o.kvs k) k (put outcomes i o x.acquire).create ((put outcomes i o x.acquire).kvs k)
    won n e w =
        subst (λ (y : Outcome). y.done ≡ true → y.ok ≡ true → Owned calls (put outcomes i o) session owner' (o.kvs k) k y.create (y.kvs k))
        (sym (put_other outcomes i x.acquire o e)) (λ d f. owned (w d f))

-- an acquire
pub slot_acquire : {holder : ℕ → ℕ} {rev sent : ℕ} {made : ℕ → ℕ} {calls : ℕ → Call} {outcomes : ℕ → Outcome} {session : ℕ} {owner : Owner} {kv : Option Kv} {p : ℕ} {k : List ℕ} {x : Slot}
    (rev' : ℕ) (made' : ℕ → ℕ) (owner' : Owner) (i : ℕ) (o : Outcome) → SlotOk holder rev sent made calls outcomes session owner kv p k x → rev ≤ rev' → (outcomes i).done ≡ false → (calls i).kind ≡ Acquires → o.done ≡ true
    → ((c : ℕ) → c ≤ rev → made' c ≡ made c)
    → ((j : ℕ) → CallOk holder rev made (calls j) k) → o.kvs k ≡ kv
    → ((calls i).key ≢ k → owner' ≡ owner) → (o.ok ≡ false → owner' ≡ owner)
    → (o.ok ≡ true → rev < rev') → (o.ok ≡ true → o.create ≡ rev') → (o.ok ≡ true → (calls i).key ≡ k → owner.create ≡ 0)
    → (o.ok ≡ true → (calls i).key ≡ k → lease_of kv ≡ 0) → (o.ok ≡ true → (calls i).key ≡ k → owner' ≡ record { create = rev'; session = (calls i).session })
    → ((calls i).key ≡ k) ⊎ ((calls i).key ≢ k)
    → SlotOk holder rev' sent made' calls (put outcomes i o) session owner' (o.kvs k) p k x
slot_acquire {holder = holder} {rev = rev} {sent = sent} {made = made} {calls = calls} {outcomes = outcomes} {session = session} {owner = owner} {kv = kv} {p = p} {k = k} {x = x} rev' made' owner' i o s r fresh kind done makes cs same others failed newer created free unleased owned' decided =
    record {
      entry = λ n. mine (s.entry n);
      held = λ l h. owned (s.held l h);
      due = λ l h z. owned (s.due l h z);
      out = λ l h n. written (s.entry (busy h)).some (s.out l h n);
      acquire_sent = s.acquire_sent;
      write_sent = s.write_sent;
      asked = s.asked;
      asked_key = s.asked_key;
      asked_by = s.asked_by;
      apart = s.apart;
      won = λ l n u c. won (s.asked_key n) c (s.won l n u c);
    }
  where
    busy : x.phase ≡ Writing → x.phase ≢ Absent
    busy h = λ e. cc

    mine : {create : ℕ} → Mine holder rev made p create → Mine holder rev' made' p create
    mine {create} m =
        let past = m.past in
        record { some = m.some; past = omega arith; own = ap holder (makes create past) ∙ m.own }

    -- an owned key is no acquire's
    stays : {create : ℕ} → create ≢ 0 → owner.create ≡ create → owner' ≡ owner
    stays {create} some e =
        elim decided [
          | inl is ↦ by_ok o.ok refl is
          | inr apart ↦ others apart
        ]
      where
        by_ok : (t : Bool) → o.ok ≡ t → (calls i).key ≡ k → owner' ≡ owner
        by_ok true f is = absurd (some (sym e ∙ free f is))
        by_ok false f is = failed f

    owned : {create : ℕ} {held : Option Kv} → Owned calls outcomes session owner kv k create held → Owned calls (put outcomes i o) session owner' (o.kvs k) k create held
    owned {create} {held} w = owned_same i o owner' (o.kvs k) w done (stays w.some w.created) same

    written : {create write : ℕ} {held : Option Kv} → create ≢ 0 → Written calls outcomes session owner kv k create write held → Written calls (put outcomes i o) session owner' (o.kvs k) k create write held
    written {create} {write} {held} some w = written_same i o owner' (o.kvs k) w done (other (write == i) refl) (stays some w.created) same
      where
        other : (t : Bool) → (write == i) ≡ t → t ≡ false
        other true e = absurd (let g : (calls i).kind ≡ Writes = subst (λ (j : ℕ). (calls j).kind ≡ Writes) (same_number write i e) w.kind in cc)
        other false e = refl

    -- this very acquire, where it succeeded: nothing compares the new create revision yet
    new : (calls i).key ≡ k → (calls i).session ≡ session → o.ok ≡ true → Owned calls (put outcomes i o) session owner' (o.kvs k) k o.create (o.kvs k)
    new is at ok =
        let is_new = owned' ok is in
        let fresh_revision = newer ok in
        let made_at = created ok in
        record {
          some = λ z. let q : rev' ≡ 0 = sym made_at ∙ z in omega arith;
          created = ap (λ (y : Owner). y.create) is_new ∙ sym made_at;
          under = ap (λ (y : Owner). y.session) is_new ∙ at;
          same = refl;
          unleased = ap lease_of same ∙ unleased ok is;
          quiet = λ j c g. absurd (let past = (cs j).past c in let e : (calls j).guards k ≡ rev' = g ∙ made_at in omega arith);
        }

    won : (calls x.acquire).key ≡ k → (calls x.acquire).session ≡ session
        → ((outcomes x.acquire).done ≡ true → (outcomes x.acquire).ok ≡ true → Owned calls outcomes session owner kv k (outcomes x.acquire).create ((outcomes x.acquire).kvs k))
        → (put outcomes i o x.acquire).done ≡ true → (put outcomes i o x.acquire).ok ≡ true → Owned calls (put outcomes i o) session owner' (o.kvs k) k (put outcomes i o x.acquire).create ((put outcomes i o x.acquire).kvs k)
    won at c w = by_test (x.acquire == i) refl
      where
        by_test : (t : Bool) → (x.acquire == i) ≡ t → (put outcomes i o x.acquire).done ≡ true → (put outcomes i o x.acquire).ok ≡ true → Owned calls (put outcomes i o) session owner' (o.kvs k) k (put outcomes i o x.acquire).create ((put outcomes i o x.acquire).kvs k)
        by_test true e =
            let is = same_number x.acquire i e in
            subst (λ (y : Outcome). y.done ≡ true → y.ok ≡ true → Owned calls (put outcomes i o) session owner' (o.kvs k) k y.create (y.kvs k))
            (sym (put_here outcomes i x.acquire o e)) (λ d ok. new (subst (λ (j : ℕ). (calls j).key ≡ k) is at) (subst (λ (j : ℕ). (calls j).session ≡ session) is c) ok)
        by_test false e =
            subst (λ (y : Outcome). y.done ≡ true → y.ok ≡ true → Owned calls (put outcomes i o) session owner' (o.kvs k) k y.create (y.kvs k))
            (sym (put_other outcomes i x.acquire o e)) (λ d f. owned (w d f))

-- a lease ends that isn't this proxy's live session
pub slot_ends : {holder : ℕ → ℕ} {rev sent : ℕ} {made : ℕ → ℕ} {calls : ℕ → Call} {outcomes : ℕ → Outcome} {session : ℕ} {owner : Owner} {kv : Option Kv} {p : ℕ} {k : List ℕ} {x : Slot}
    (rev' lease : ℕ) (owner' : Owner) (kv' : Option Kv) → SlotOk holder rev sent made calls outcomes session owner kv p k x → rev ≤ rev' → lease ≢ 0 → session ≢ lease
    → (owner.session ≢ lease → owner' ≡ owner) → (lease_of kv ≢ lease → kv' ≡ kv) → SlotOk holder rev' sent made calls outcomes session owner' kv' p k x
slot_ends {holder = holder} {rev = rev} {sent = sent} {made = made} {calls = calls} {outcomes = outcomes} {session = session} {owner = owner} {kv = kv} {p = p} {k = k} {x = x} rev' lease owner' kv' s r some dead owner_kept kv_kept =
    record {
      entry = λ n. mine_later rev' (s.entry n) r;
      held = λ l h. owned (s.held l h);
      due = λ l h z. owned (s.due l h z);
      out = λ l h n. written (s.out l h n);
      acquire_sent = s.acquire_sent;
      write_sent = s.write_sent;
      asked = s.asked;
      asked_key = s.asked_key;
      asked_by = s.asked_by;
      apart = s.apart;
      won = λ l n u c d e. owned (s.won l n u c d e);
    }
  where
    owner_is : owner.session ≡ session → owner' ≡ owner
    owner_is e = owner_kept (λ f. dead (sym e ∙ f))

    kv_is : lease_of kv ≡ 0 → kv' ≡ kv
    kv_is e = kv_kept (λ f. some (sym f ∙ e))

    owned : {create : ℕ} {held : Option Kv} → Owned calls outcomes session owner kv k create held → Owned calls outcomes session owner' kv' k create held
    owned {create} {held} w =
        subst (λ (y : Owner). Owned calls outcomes session y kv' k create held) (sym (owner_is w.under))
        (subst (λ (y : Option Kv). Owned calls outcomes session owner y k create held) (sym (kv_is w.unleased)) w)

    written : {create write : ℕ} {held : Option Kv} → Written calls outcomes session owner kv k create write held → Written calls outcomes session owner' kv' k create write held
    written {create} {write} {held} w =
        subst (λ (y : Owner). Written calls outcomes session y kv' k create write held) (sym (owner_is w.under))
        (subst (λ (y : Option Kv). Written calls outcomes session owner y k create write held) (sym (kv_is w.unleased)) w)
