-- Changes of one key after another are one change at each key.
use Rattle.std.proofs.Common.{◌≡◌, ℕ, zero, suc, ◌+◌, ◌<◌, Bool, true, false, cond, ◌&&◌, ◌||◌, IsTrue, List, [], ◌∷◌, length, take, get_or, Option, None, Some, refl, sym, ◌∙◌, ap, subst, arith}
use Rattle.std.specs.List.{list_all}
use Rattle.std.proofs.lemmas.List.Folds.{list_any_more}
use Rattle.etcd_types.specs.declared.key_range.KeyRange.{KeyRange}
use Rattle.etcd_types.specs.Keys.{same}
use Rattle.etcd_types.specs.Ranges.{contains, is_one}
use Rattle.etcd_types.proofs.KeyOrder.{same-equal}
use Rattle.proxy_model.specs.declared.lease.Entry.{Entry}
use Rattle.proxy_model.specs.declared.lease.Phase.{Phase}
use Rattle.proxy_model.specs.declared.lease.Phase.TheVariants.{Held, Writing, Leaving}
use Rattle.proxy_model.specs.Keyed.{Keyed, at, changed_at, is_in_order}
use Rattle.std.specs.Option.{option_map}
use Rattle.proxy_model.specs.LeaseTable.{is_held, is_held_phase, writing, leaving, phase_left, given_up, phase_given_up}
use Rattle.proxy_model.proofs.KeyedLaws.{at-with_at, in_order-with_at, same_keyed, same-turned}
use Rattle.wait_model.specs.Covers.{covered}
use Rattle.wait_model.specs.Edits.{each}
use Rattle.wait_model.specs.Phases.{begun, phase_begun, let_go, phase_let_go}
use Rattle.wait_model.proofs.Tables.{at-each, in_order-each}
use Rattle.wait_model.proofs.Covering.{one_key}
use Rattle.etcd_types.proofs.Bools.{and_first, and_second}

pub each_each : {A : Type 0} (f g : List ℕ → A → A) (es : Keyed A) → each f (each g es) ≡ each (λ k x. f k (g k x)) es
each_each f g [] = refl
each_each f g (e ∷ es) = ap (λ l. (e.0, f e.0 (g e.0 e.1)) ∷ l) (each_each f g es)

pub each_same : {A : Type 0} (f g : List ℕ → A → A) → ((k : List ℕ) (x : A) → f k x ≡ g k x) → (es : Keyed A) → each f es ≡ each g es
each_same f g h [] = refl
each_same {A} f g h (e ∷ es) = λ i. (e.0, h e.0 e.1 i) ∷ each_same f g h es i

pub each_none : {A : Type 0} (f : List ℕ → A → A) → ((k : List ℕ) (x : A) → f k x ≡ x) → (es : Keyed A) → each f es ≡ es
each_none f h [] = refl
each_none f h (e ∷ es) = λ i. (e.0, h e.0 e.1 i) ∷ each_none f h es i

-- a change at one key
pub changed_is : (es : Keyed Entry) (k : List ℕ) (g : Entry → Entry) (u : List ℕ → Entry → Entry) → IsTrue (is_in_order es) → ((j : List ℕ) (x : Entry) → same j k ≡ false → u j x ≡ x) → option_map g (at es k) ≡ option_map (u k) (at es k) → changed_at es k g ≡ each u es
changed_is es k g u s n h =
    same_keyed (changed_at es k g) (each u es) (in_order-with_at es k (option_map g (at es k)) s) (in_order-each u es ∙ s) (λ j. at-with_at es k j (option_map g (at es k)) ∙ here j ∙ sym (at-each u es j))
  where
    kept : (j : List ℕ) → same j k ≡ false → (o : Option Entry) → o ≡ option_map (u j) o
    kept j t None = refl
    kept j t (Some x) = ap Some (sym (n j x t))

    here : (j : List ℕ) → cond (same k j) (option_map g (at es k)) (at es j) ≡ option_map (u j) (at es j)
    here j =
        elim (same k j) as (λ b. same k j ≡ b → cond b (option_map g (at es k)) (at es j) ≡ option_map (u j) (at es j)) [
          | true ↦ λ t. h ∙ ap (λ (i : List ℕ). option_map (u i) (at es i)) (same-equal k j t)
          | false ↦ λ t. kept j (same-turned j k ∙ t) (at es j)
        ] refl

pub unchanged_is : (es : Keyed Entry) (k : List ℕ) (u : List ℕ → Entry → Entry) → IsTrue (is_in_order es) → ((j : List ℕ) (x : Entry) → same j k ≡ false → u j x ≡ x) → at es k ≡ option_map (u k) (at es k) → es ≡ each u es
unchanged_is es k u s n h =
    same_keyed es (each u es) s (in_order-each u es ∙ s) (λ j. here j ∙ sym (at-each u es j))
  where
    kept : (j : List ℕ) → same j k ≡ false → (o : Option Entry) → o ≡ option_map (u j) o
    kept j t None = refl
    kept j t (Some x) = ap Some (sym (n j x t))

    here : (j : List ℕ) → at es j ≡ option_map (u j) (at es j)
    here j =
        elim (same j k) as (λ b. same j k ≡ b → at es j ≡ option_map (u j) (at es j)) [
          | true ↦ λ t. subst (λ (i : List ℕ). at es i ≡ option_map (u i) (at es i)) (sym (same-equal j k t)) h
          | false ↦ λ t. kept j t (at es j)
        ] refl

-- What the table's calls do to a held entry, and that a second time does nothing.

abbrev pub if_one : Bool → (Entry → Entry) → Entry → Entry
if_one b f e = cond b (f e) e

pub held_begun : (b : Bool) (o : Option Entry) → b ≡ true → is_held o ≡ true → option_map writing o ≡ option_map (if_one b begun) o
held_begun true None t h = refl
held_begun true (Some x) t h = ap (λ (p : Phase). Some (record x { phase = p })) (of x.phase h)
  where
    of : (p : Phase) → is_held_phase p ≡ true → Writing false ≡ phase_begun p
    of Held h = refl
    of (Writing revoked) h = absurd (cc)
    of (Leaving sent) h = absurd (cc)
held_begun false o t h = absurd (cc)

pub other_begun : (b : Bool) (o : Option Entry) → is_held o ≡ false → o ≡ option_map (if_one b begun) o
other_begun b None h = refl
other_begun true (Some x) h = ap (λ (p : Phase). Some (record x { phase = p })) (of x.phase h)
  where
    of : (p : Phase) → is_held_phase p ≡ false → p ≡ phase_begun p
    of Held h = absurd (cc)
    of (Writing revoked) h = refl
    of (Leaving sent) h = refl
other_begun false (Some x) h = refl

pub held_let_go : (b : Bool) (o : Option Entry) → b ≡ true → is_held o ≡ true → option_map leaving o ≡ option_map (if_one b let_go) o
held_let_go true None t h = refl
held_let_go true (Some x) t h = ap (λ (p : Phase). Some (record x { phase = p })) (of x.phase h)
  where
    of : (p : Phase) → is_held_phase p ≡ true → phase_left p ≡ phase_let_go p
    of Held h = refl
    of (Writing revoked) h = absurd (cc)
    of (Leaving sent) h = absurd (cc)
held_let_go false o t h = absurd (cc)

pub other_let_go : (b : Bool) (o : Option Entry) → is_held o ≡ false → o ≡ option_map (if_one b let_go) o
other_let_go b None h = refl
other_let_go true (Some x) h = ap (λ (p : Phase). Some (record x { phase = p })) (of x.phase h)
  where
    of : (p : Phase) → is_held_phase p ≡ false → p ≡ phase_let_go p
    of Held h = absurd (cc)
    of (Writing revoked) h = refl
    of (Leaving sent) h = refl
other_let_go false (Some x) h = refl

pub none_let_go : (b : Bool) (o : Option Entry) → b ≡ false → o ≡ option_map (if_one b let_go) o
none_let_go b None h = refl
none_let_go true (Some x) h = absurd (cc)
none_let_go false (Some x) h = refl

abbrev pub Idle : (Entry → Entry) → Type 0
Idle f = (e : Entry) → f (f e) ≡ f e

pub begun_idle : Idle begun
begun_idle e = ap (λ (p : Phase). record e { phase = p }) (of e.phase)
  where
    of : (p : Phase) → phase_begun (phase_begun p) ≡ phase_begun p
    of Held = refl
    of (Writing revoked) = refl
    of (Leaving sent) = refl

pub let_go_idle : Idle let_go
let_go_idle e = ap (λ (p : Phase). record e { phase = p }) (of e.phase)
  where
    of : (p : Phase) → phase_let_go (phase_let_go p) ≡ phase_let_go p
    of Held = refl
    of (Writing revoked) = refl
    of (Leaving sent) = refl

pub given_up_idle : Idle given_up
given_up_idle e = ap (λ (p : Phase). record e { phase = p }) (of e.phase)
  where
    of : (p : Phase) → phase_given_up (phase_given_up p) ≡ phase_given_up p
    of Held = refl
    of (Writing revoked) = refl
    of (Leaving sent) = refl

-- One key more.

pub one_more : (f : Entry → Entry) → Idle f → (p q r : List ℕ → Bool) → ((k : List ℕ) → r k ≡ p k || q k) → (es : Keyed Entry) → each (λ k e. cond (q k) (f e) e) (each (λ k e. cond (p k) (f e) e) es) ≡ each (λ k e. cond (r k) (f e) e) es
one_more f i p q r h es =
    each_each (λ k e. cond (q k) (f e) e) (λ k e. cond (p k) (f e) e) es ∙ each_same (λ k e. cond (q k) (f (cond (p k) (f e) e)) (cond (p k) (f e) e)) (λ k e. cond (r k) (f e) e) (λ k e. of (p k) (q k) e ∙ ap (λ b. cond b (f e) e) (sym (h k))) es
  where
    of : (a b : Bool) (e : Entry) → cond b (f (cond a (f e) e)) (cond a (f e) e) ≡ cond (a || b) (f e) e
    of true true e = i e
    of true false e = refl
    of false true e = refl
    of false false e = refl

pub covered_more : (rs : List KeyRange) (i : ℕ) (r : KeyRange) (k : List ℕ) → i < length rs → r ≡ get_or rs i r → covered (take (i + 1) rs) k ≡ covered (take i rs) k || contains r k
covered_more rs i r k l e = list_any_more (λ s. contains s k) rs i r l ∙ ap (λ (s : KeyRange). covered (take i rs) k || contains s k) (sym e)

all_at : (rs : List KeyRange) (i : ℕ) (d : KeyRange) → list_all is_one rs ≡ true → i < length rs → is_one (get_or rs i d) ≡ true
all_at [] i d a l = absurd (omega arith)
all_at (r ∷ rs) zero d a l = and_first (is_one r) (list_all is_one rs) a
all_at (r ∷ rs) (suc i) d a l = all_at rs i d (and_second (is_one r) (list_all is_one rs) a) (omega arith)

pub covered_one_more : (rs : List KeyRange) (i : ℕ) (r : KeyRange) (k : List ℕ) → list_all is_one rs ≡ true → i < length rs → r ≡ get_or rs i r → covered (take (i + 1) rs) k ≡ covered (take i rs) k || same k r.key
covered_one_more rs i r k a l e =
    covered_more rs i r k l e ∙ ap (λ b. covered (take i rs) k || b) (one_key r k (subst (λ (s : KeyRange). is_one s ≡ true) (sym e) (all_at rs i r a l)))

pub and_or : (a b d : Bool) → (a || b) && d ≡ (a && d) || (b && d)
and_or true true true = refl
and_or true true false = refl
and_or true false true = refl
and_or true false false = refl
and_or false b d = refl
