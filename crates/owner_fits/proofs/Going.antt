-- What most steps do to entries and writes, as far as the facts go: an entry comes no nearer to being owned or written, or it is of an
-- own key that is given up; and a write becomes no owner's.
use Rattle.std.proofs.Common.{◌≡◌, ℕ, Bool, true, false, not, cond, ◌&&◌, ◌||◌, List, [], ◌∷◌, map, Option, None, Some, refl, sym, ◌∙◌, ap, subst}
use Rattle.std.specs.List.{list_all}
use Rattle.std.specs.Option.{option_map}
use Rattle.etcd_types.specs.Keys.{is_empty, same}
use Rattle.etcd_types.proofs.Bools.{and_first, and_second, and_both}
use Rattle.etcd_types.proofs.KeyOrder.{same-equal}
use Rattle.proxy_model.specs.declared.lease.Entry.{Entry}
use Rattle.proxy_model.specs.declared.lease.Phase.{Phase}
use Rattle.proxy_model.specs.declared.lease.Phase.TheVariants.{Held, Writing, Leaving}
use Rattle.proxy_model.specs.Keyed.{Keyed, at, with_at}
use Rattle.proxy_model.specs.LeaseTable.{is_held_phase, is_writing_phase, is_writing, given_up}
use Rattle.proxy_model.proofs.KeyedLaws.{at-with_at}
use Rattle.wait_model.specs.declared.write.Write.{Write}
use Rattle.wait_model.specs.declared.write.WriteStage.{WriteStage}
use Rattle.wait_model.specs.Edits.{each, without}
use Rattle.wait_model.specs.Phases.{own_entry, rescind_sent, if_written}
use Rattle.wait_model.specs.Stages.{is_owner, staged}
use Rattle.wait_model.specs.Writes.{first_by, with_first, without_first}
use Rattle.wait_model.proofs.Tables.{at-each, at-without}
use Rattle.core_laws.proofs.Writes.FoundWrite.{head_found, rest_found}
use Rattle.read_model.specs.Fits.{is_owned}
use Rattle.core_laws.proofs.Steps.Comes.{by_test}
use Rattle.owner_fits.specs.Names.{stage_named}

-- A test under a condition.

pub implies : (a b : Bool) → (a ≡ true → b ≡ true) → not a || b ≡ true
implies true b f = f refl
implies false b f = refl

pub implied : (a b : Bool) → not a || b ≡ true → a ≡ true → b ≡ true
implied true b h t = h
implied false b h t = absurd (cc)

-- Entries.

-- it isn't nearer to being owned or written
pub record Eases (e f : Entry) : Type 0 where
  pub owned : is_owned (Some f) ≡ true → is_owned (Some e) ≡ true
  pub writing : is_writing (Some f) ≡ true → is_writing (Some e) ≡ true

-- a test that holds of what stands at a key goes on to hold. With `named`, only of own keys that aren't empty
pub record Lasts (named : Bool) (q : List ℕ → Option Entry → Bool) : Type 0 where
  pub nothing : (k : List ℕ) → q k None ≡ true
  pub left : (k : List ℕ) (create : ℕ) → (named ≡ true → is_empty k ≡ false) → q k (Some (own_entry create)) ≡ true
  pub eased : (k : List ℕ) (e f : Entry) → Eases e f → q k (Some e) ≡ true → q k (Some f) ≡ true

abbrev pub EntryGoes : Bool → List ℕ → Option Entry → Option Entry → Type 0
EntryGoes named k e f = (q : List ℕ → Option Entry → Bool) → Lasts named q → q k e ≡ true → q k f ≡ true

abbrev pub EntriesGo : Bool → Keyed Entry → Keyed Entry → Type 0
EntriesGo named es fs = (q : List ℕ → Option Entry → Bool) → Lasts named q → ((k : List ℕ) → q k (at es k) ≡ true) → (k : List ℕ) → q k (at fs k) ≡ true

pub entries_stay : (named : Bool) (es : Keyed Entry) → EntriesGo named es es
entries_stay named es q l h = h

pub entries_on : (named : Bool) (es fs gs : Keyed Entry) → EntriesGo named es fs → EntriesGo named fs gs → EntriesGo named es gs
entries_on named es fs gs a b q l h = b q l (a q l h)

-- at one key, and at each
pub at_one : (named : Bool) (es : Keyed Entry) (k : List ℕ) (o : Option Entry) → EntryGoes named k (at es k) o → EntriesGo named es (with_at es k o)
at_one named es k o g q l h j = ap (q j) (at-with_at es k j o) ∙ by_same (same k j) refl
  where
    by_same : (b : Bool) → same k j ≡ b → q j (cond b o (at es j)) ≡ true
    by_same true t = subst (λ (i : List ℕ). q i o ≡ true) (same-equal k j t) (g q l (h k))
    by_same false t = h j

pub at_each : (named : Bool) (f : List ℕ → Entry → Entry) (es : Keyed Entry) → ((k : List ℕ) (e : Entry) → Eases e (f k e)) → EntriesGo named es (each f es)
at_each named f es g q l h k = ap (q k) (at-each f es k) ∙ by_entry (at es k) (h k)
  where
    by_entry : (o : Option Entry) → q k o ≡ true → q k (option_map (f k) o) ≡ true
    by_entry None t = t
    by_entry (Some e) t = l.eased k e (f k e) (g k e) t

pub at_most : (named : Bool) (p : List ℕ → Bool) (es : Keyed Entry) → EntriesGo named es (without p es)
at_most named p es q l h k = ap (q k) (at-without p es k) ∙ by_test (λ (o : Option Entry). q k o ≡ true) (p k) None (at es k) (λ t. l.nothing k) (λ t. h k)

pub at_none : (named : Bool) (es : Keyed Entry) → EntriesGo named es []
at_none named es q l h k = l.nothing k

-- The changes of one entry.

-- of one that is being written every change is
pub writing_eases : (e f : Entry) → is_writing_phase e.phase ≡ true → Eases e f
writing_eases e f w = record { owned = λ t. by_phase e.phase w; writing = λ t. w }
  where
    by_phase : (p : Phase) → is_writing_phase p ≡ true → is_held_phase p || is_writing_phase p ≡ true
    by_phase Held t = refl
    by_phase (Writing revoked) t = refl
    by_phase (Leaving sent) t = absurd (cc)

pub eases_itself : (e : Entry) → Eases e e
eases_itself e = record { owned = λ t. t; writing = λ t. t }

pub eases_if : (b : Bool) (e f : Entry) → Eases e f → Eases e (cond b f e)
eases_if true e f h = h
eases_if false e f h = eases_itself e

pub written_eases : (b : Bool) (f : Entry → Entry) (e : Entry) → Eases e (if_written b f e)
written_eases b f e = by_test (Eases e) (b && is_writing_phase e.phase) (f e) e (λ t. writing_eases e (f e) (and_second b (is_writing_phase e.phase) t)) (λ t. eases_itself e)

pub given_up_eases : (e : Entry) → Eases e (given_up e)
given_up_eases e = record { owned = owned e.phase; writing = writing e.phase }
  where
    owned : (p : Phase) → is_owned (Some (given_up (record e { phase = p }))) ≡ true → is_owned (Some (record e { phase = p })) ≡ true
    owned Held t = refl
    owned (Writing revoked) t = refl
    owned (Leaving sent) t = t

    writing : (p : Phase) → is_writing (Some (given_up (record e { phase = p }))) ≡ true → is_writing (Some (record e { phase = p })) ≡ true
    writing Held t = absurd (cc)
    writing (Writing revoked) t = refl
    writing (Leaving sent) t = t

pub unsent_eases : (sent : Bool) (e : Entry) → Eases e (rescind_sent sent e)
unsent_eases sent e = record { owned = owned e.phase; writing = writing e.phase }
  where
    owned : (p : Phase) → is_owned (Some (rescind_sent sent (record e { phase = p }))) ≡ true → is_owned (Some (record e { phase = p })) ≡ true
    owned Held t = refl
    owned (Writing revoked) t = refl
    owned (Leaving b) t = t

    writing : (p : Phase) → is_writing (Some (rescind_sent sent (record e { phase = p }))) ≡ true → is_writing (Some (record e { phase = p })) ≡ true
    writing Held t = t
    writing (Writing revoked) t = refl
    writing (Leaving b) t = t

-- Writes.

-- it becomes no owner's; with `named`, what it found has names
pub record Calmer (named : Bool) (w : Write) (s : WriteStage) : Type 0 where
  pub owner : is_owner s ≡ true → is_owner w.stage ≡ true
  pub found : named ≡ true → stage_named w.stage ≡ true → stage_named s ≡ true

pub record Holds (named : Bool) (p : Write → Bool) : Type 0 where
  pub staged : (w : Write) (s : WriteStage) → Calmer named w s → p w ≡ true → p (staged w s) ≡ true

abbrev pub WritesGo : Bool → List Write → List Write → Type 0
WritesGo named ws vs = (p : Write → Bool) → Holds named p → list_all p ws ≡ true → list_all p vs ≡ true

pub writes_stay : (named : Bool) (ws : List Write) → WritesGo named ws ws
writes_stay named ws p l h = h

pub each_staged : (named : Bool) (g : Write → WriteStage) (ws : List Write) → ((w : Write) → Calmer named w (g w)) → WritesGo named ws (map (λ w. staged w (g w)) ws)
each_staged named g [] c p l h = refl
each_staged named g (w ∷ ws) c p l h =
    and_both (p (staged w (g w))) (list_all p (map (λ v. staged v (g v)) ws)) (l.staged w (g w) (c w) (and_first (p w) (list_all p ws) h)) (each_staged named g ws c p l (and_second (p w) (list_all p ws) h))

pub first_staged : (named : Bool) (t : Write → Bool) (w : Write) (s : WriteStage) (ws : List Write) → first_by t ws ≡ Some w → Calmer named w s → WritesGo named ws (with_first t s ws)
first_staged named t w s [] f c p l h = absurd (cc)
first_staged named t w s (v ∷ vs) f c p l h =
    let x = and_first (p v) (list_all p vs) h in
    let y = and_second (p v) (list_all p vs) h in
    by_test (λ (us : List Write). list_all p us ≡ true) (t v) (staged v s ∷ vs) (v ∷ with_first t s vs)
    (λ e. and_both (p (staged v s)) (list_all p vs) (l.staged v s (subst (λ (u : Write). Calmer named u s) (sym (head_found t v w vs e f)) c) x) y)
    (λ e. and_both (p v) (list_all p (with_first t s vs)) x (first_staged named t w s vs (rest_found t v w vs e f) c p l y))

-- where a test holds of all, it does without the first that passes another
pub all_but : (p t : Write → Bool) (ws : List Write) → list_all p ws ≡ true → list_all p (without_first t ws) ≡ true
all_but p t [] h = refl
all_but p t (w ∷ ws) h =
    let y = and_second (p w) (list_all p ws) h in
    by_test (λ (us : List Write). list_all p us ≡ true) (t w) ws (w ∷ without_first t ws)
    (λ e. y)
    (λ e. and_both (p w) (list_all p (without_first t ws)) (and_first (p w) (list_all p ws) h) (all_but p t ws y))

pub first_gone : (named : Bool) (t : Write → Bool) (ws : List Write) → WritesGo named ws (without_first t ws)
first_gone named t ws p l h = all_but p t ws h
