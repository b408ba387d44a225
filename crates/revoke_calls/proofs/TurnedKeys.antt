-- A turn of what stands at each of some keys, one after another: what stands at a key then. And what becomes of the entries of a
-- write that was answered is such a turn.
use Rattle.std.proofs.Common.{◌≡◌, ℕ, ◌+◌, ◌<◌, ◌≤◌, Bool, true, false, not, cond, ◌&&◌, ◌||◌, IsTrue, List, [], ◌∷◌, ◌++◌, length, drop, get_or, map, Option, None, Some, is_some, refl, sym, ◌∙◌, ap, arith}
use Rattle.std.specs.List.{list_all}
use Rattle.std.specs.Option.{option_map}
use Rattle.std.specs.Ordering.{nat_cmp}
use Rattle.std.specs.Cmp.Lexicographic.{slice_cmp}
use Rattle.std.specs.FinMap.Entries.{is_sorted-where_key}
use Rattle.std.proofs.lemmas.List.{drop_more}
use Rattle.std.proofs.lemmas.List.Filters.{length-filter_both}
use Rattle.etcd_types.specs.declared.answer.Reply.{Reply}
use Rattle.etcd_types.specs.declared.key_range.KeyRange.{KeyRange}
use Rattle.etcd_types.specs.declared.record.Kv.{Kv}
use Rattle.etcd_types.specs.Keys.{same}
use Rattle.etcd_types.specs.Ranges.{contains, is_one}
use Rattle.etcd_types.proofs.Bools.{and_first, and_second}
use Rattle.etcd_types.proofs.KeyOrder.{same-equal}
use Rattle.proxy_model.specs.declared.lease.Entry.{Entry}
use Rattle.proxy_model.specs.declared.ownership.Owner.{Owner}
use Rattle.proxy_model.specs.Keyed.{Keyed, at, with_at, is_in_order}
use Rattle.proxy_model.specs.LeaseTable.{is_writing, is_writing_phase, written, unwritten, phase_after_write}
use Rattle.proxy_model.proofs.KeyedLaws.{to_T, from_T, at-with_at, in_order-with_at, same_keyed, same-turned}
use Rattle.wait_model.specs.declared.found.Found.{Found}
use Rattle.wait_model.specs.declared.write.Write.{Write}
use Rattle.wait_model.specs.Covers.{covered, covers}
use Rattle.wait_model.specs.Edits.{without}
use Rattle.wait_model.specs.ForeignOwnership.{found_of, is_own, others, owned_left}
use Rattle.wait_model.specs.GuardedAnswers.{owns, owns_at, is_shown, is_gone, wrote_entries, kept_entries}
use Rattle.wait_model.specs.Phases.{if_written, own_entry}
use Rattle.wait_model.specs.Stages.{is_owner}
use Rattle.wait_model.proofs.Covering.{one_key}
use Rattle.wait_model.proofs.Tables.{at-each, at-without, in_order-each}
use Rattle.revoke_calls.specs.declared.left.Left.{Left}
use Rattle.revoke_calls.specs.Ends.{turned, owned_ranges, dropped_turn, is_shown_by, kept_turn, wrote_turn, left_kv, left_in, lefts_of, all_wrote, found_in}
use Rattle.revoke_calls.proofs.ProperWrite.{owner-by_keys}
use Rattle.revoke_calls.proofs.SettledEntries.{calm_back}
use Rattle.wait_model.specs.Fits.{is_proper}

-- what stands at a key, put there again
pub same_at : {A : Type 0} (es : Keyed A) (k : List ℕ) → IsTrue (is_in_order es) → es ≡ with_at es k (at es k)
same_at es k s =
    sym (same_keyed (with_at es k (at es k)) es (in_order-with_at es k (at es k) s) s (λ j. at-with_at es k j (at es k) ∙ here j))
  where
    here : (j : List ℕ) → cond (same k j) (at es k) (at es j) ≡ at es j
    here j =
        elim (same k j) as (λ b. same k j ≡ b → cond b (at es k) (at es j) ≡ at es j) [
          | true ↦ λ t. ap (λ (i : List ℕ). at es i) (same-equal k j t)
          | false ↦ λ t. refl
        ] refl

pub stays_at : {A : Type 0} (es : Keyed A) (k : List ℕ) (o : Option A) → IsTrue (is_in_order es) → at es k ≡ o → es ≡ with_at es k o
stays_at es k o s e = same_at es k s ∙ ap (λ p. with_at es k p) e

-- one key more
pub turned_more : (t : List ℕ → Option Entry → Option Entry) (rs : List KeyRange) (i : ℕ) (r : KeyRange) (es next last : Keyed Entry) → i < length rs → r ≡ get_or rs i r → next ≡ with_at es r.key (t r.key (at es r.key)) → turned t (drop i rs) es ≡ last → turned t (drop (i + 1) rs) next ≡ last
turned_more t rs i r es next last l e n h =
    let rest = drop (i + 1) rs in
    ap (λ (x : Keyed Entry). turned t rest x) n ∙ ap (λ (s : KeyRange). turned t rest (with_at es s.key (t s.key (at es s.key)))) e ∙ ap (λ (ys : List KeyRange). turned t ys es) (sym (drop_more rs i r l)) ∙ h

-- twice is once
abbrev pub IdleTurn : (List ℕ → Option Entry → Option Entry) → Type 0
IdleTurn t = (k : List ℕ) (o : Option Entry) → t k (t k o) ≡ t k o

pub at-turned : (t : List ℕ → Option Entry → Option Entry) → IdleTurn t → (rs : List KeyRange) (es : Keyed Entry) (k : List ℕ) → list_all is_one rs ≡ true → at (turned t rs es) k ≡ cond (covered rs k) (t k (at es k)) (at es k)
at-turned t idle [] es k a = refl
at-turned t idle (r ∷ rs) es k a =
    let o = t r.key (at es r.key) in
    let one = one_key r k (and_first (is_one r) (list_all is_one rs) a) ∙ same-turned k r.key in
    let rest = at-turned t idle rs (with_at es r.key o) k (and_second (is_one r) (list_all is_one rs) a) in
    elim (same r.key k) as (λ b. same r.key k ≡ b → at (turned t (r ∷ rs) es) k ≡ cond (contains r k || covered rs k) (t k (at es k)) (at es k)) [
      | true ↦ λ s.
          let here : at (with_at es r.key o) k ≡ t k (at es k) = at-with_at es r.key k o ∙ ap (λ b. cond b o (at es k)) s ∙ ap (λ (j : List ℕ). t j (at es j)) (same-equal r.key k s) in
          rest ∙ ap (λ x. cond (covered rs k) (t k x) x) here ∙ both (covered rs k) (t k (at es k)) (idle k (at es k)) ∙ ap (λ b. cond (b || covered rs k) (t k (at es k)) (at es k)) (sym (one ∙ s))
      | false ↦ λ s.
          let here : at (with_at es r.key o) k ≡ at es k = at-with_at es r.key k o ∙ ap (λ b. cond b o (at es k)) s in
          rest ∙ ap (λ x. cond (covered rs k) (t k x) x) here ∙ ap (λ b. cond (b || covered rs k) (t k (at es k)) (at es k)) (sym (one ∙ s))
    ] refl
  where
    both : (b : Bool) (x : Option Entry) {y : Option Entry} → y ≡ x → cond b y x ≡ x
    both true x e = e
    both false x e = refl

pub in_order-turned : (t : List ℕ → Option Entry → Option Entry) (rs : List KeyRange) (es : Keyed Entry) → IsTrue (is_in_order es) → IsTrue (is_in_order (turned t rs es))
in_order-turned t [] es s = s
in_order-turned t (r ∷ rs) es s = in_order-turned t rs (with_at es r.key (t r.key (at es r.key))) (in_order-with_at es r.key (t r.key (at es r.key)) s)

-- over the keys of an owner, and nothing where it is none
at-owned : (t : List ℕ → Option Entry → Option Entry) → IdleTurn t → (w : Write) (es : Keyed Entry) (k : List ℕ) → is_proper w ≡ true → at (turned t (owned_ranges w) es) k ≡ cond (owns w k) (t k (at es k)) (at es k)
at-owned t idle w es k h =
    elim (is_owner w.stage) as (λ b. is_owner w.stage ≡ b → at (turned t (cond b w.ranges []) es) k ≡ cond (b && covers w k) (t k (at es k)) (at es k)) [
      | true ↦ λ o. at-turned t idle w.ranges es k (owner-by_keys w h o)
      | false ↦ λ o. refl
    ] refl

owned_is : (t : List ℕ → Option Entry → Option Entry) → IdleTurn t → (w : Write) (es fs : Keyed Entry) → is_proper w ≡ true → IsTrue (is_in_order es) → IsTrue (is_in_order fs) → ((k : List ℕ) → at fs k ≡ cond (owns w k) (t k (at es k)) (at es k)) → turned t (owned_ranges w) es ≡ fs
owned_is t idle w es fs h s u e =
    same_keyed (turned t (owned_ranges w) es) fs (in_order-turned t (owned_ranges w) es s) u (λ k. at-owned t idle w es k h ∙ sym (e k))

in_order-without : (p : List ℕ → Bool) (es : Keyed Entry) → IsTrue (is_in_order es) → IsTrue (is_in_order (without p es))
in_order-without p es s = from_T _ (is_sorted-where_key (slice_cmp nat_cmp) (λ x. not (p x)) es (to_T _ s))

-- The entries are gone.

dropped_idle : IdleTurn dropped_turn
dropped_idle k o = of (is_writing o) refl
  where
    of : (b : Bool) → is_writing o ≡ b → cond (is_writing (cond b None o)) None (cond b None o) ≡ cond b None o
    of true h = refl
    of false h = ap (λ b. cond b None o) h

pub dropped_is : (w : Write) (es : Keyed Entry) → is_proper w ≡ true → IsTrue (is_in_order es) → turned dropped_turn (owned_ranges w) es ≡ without (owns_at w es) es
dropped_is w es h s =
    owned_is dropped_turn dropped_idle w es (without (owns_at w es) es) h s (in_order-without (owns_at w es) es s) (λ k. at-without (owns_at w es) es k ∙ of (owns w k) (is_writing (at es k)) (at es k))
  where
    of : (a b : Bool) (o : Option Entry) → cond (a && b) None o ≡ cond a (cond b None o) o
    of true b o = refl
    of false b o = refl

-- The entries that were shown are held again.

kept_idle : (os : List Owner) → IdleTurn (kept_turn os)
kept_idle os k None = refl
kept_idle os k (Some e) = of (is_writing_phase e.phase) (is_shown_by os k (Some e)) refl
  where
    after : (c : Bool) (x : Option Entry) → is_writing_phase (phase_after_write e.phase) ≡ c → c ≡ false → cond c x (Some (unwritten e)) ≡ Some (unwritten e)
    after true x h i = absurd (cc)
    after false x h i = refl

    of : (b c : Bool) → is_writing_phase e.phase ≡ b → kept_turn os k (cond b (cond c (Some (unwritten e)) None) (Some e)) ≡ cond b (cond c (Some (unwritten e)) None) (Some e)
    of true true h = after (is_writing_phase (phase_after_write e.phase)) _ refl (calm_back e.phase)
    of true false h = refl
    of false c h = ap (λ b. cond b (cond (is_shown_by os k (Some e)) (Some (unwritten e)) None) (Some e)) h

at-kept : (w : Write) (os : List Owner) (es : Keyed Entry) (k : List ℕ) → at (kept_entries w os es) k ≡ cond (owns w k) (kept_turn os k (at es k)) (at es k)
at-kept w os es k =
    at-each (λ j e. if_written (owns w j) unwritten e) (without (is_gone w es os) es) k ∙ ap (λ o. option_map (λ e. if_written (owns w k) unwritten e) o) (at-without (is_gone w es os) es k) ∙ of (owns w k) (is_shown es os k) (at es k)
  where
    of : (a c : Bool) (o : Option Entry) → option_map (λ e. if_written a unwritten e) (cond ((a && is_writing o) && not c) None o) ≡ cond a (cond (is_writing o) (cond c (option_map unwritten o) None) o) o
    of true true None = refl
    of true false None = refl
    of false c None = refl
    of a c (Some e) = inner a c (is_writing_phase e.phase) refl
      where
        inner : (a c b : Bool) → is_writing_phase e.phase ≡ b → option_map (λ x. if_written a unwritten x) (cond ((a && b) && not c) None (Some e)) ≡ cond a (cond b (cond c (Some (unwritten e)) None) (Some e)) (Some e)
        inner true true true h = ap (λ b. Some (cond b (unwritten e) e)) h
        inner true true false h = ap (λ b. Some (cond b (unwritten e) e)) h
        inner true false true h = refl
        inner true false false h = ap (λ b. Some (cond b (unwritten e) e)) h
        inner false c b h = refl

pub kept_is : (w : Write) (os : List Owner) (es : Keyed Entry) → is_proper w ≡ true → IsTrue (is_in_order es) → turned (kept_turn os) (owned_ranges w) es ≡ kept_entries w os es
kept_is w os es h s =
    owned_is (kept_turn os) (kept_idle os) w es (kept_entries w os es) h s (in_order-each (λ k e. if_written (owns w k) unwritten e) (without (is_gone w es os) es) ∙ in_order-without (is_gone w es os) es s) (at-kept w os es)

-- One key.

pub dropped_written : (k : List ℕ) (o : Option Entry) → is_writing o ≡ true → None ≡ dropped_turn k o
dropped_written k o h = ap (λ b. cond b None o) (sym h)

pub dropped_other : (k : List ℕ) (o : Option Entry) → is_writing o ≡ false → o ≡ dropped_turn k o
dropped_other k o h = ap (λ b. cond b None o) (sym h)

pub kept_shown : (os : List Owner) (k : List ℕ) (o : Option Entry) → is_writing o ≡ true → is_shown_by os k o ≡ true → option_map unwritten o ≡ kept_turn os k o
kept_shown os k o h i = λ j. cond (sym h j) (cond (sym i j) (option_map unwritten o) None) o

pub kept_gone : (os : List Owner) (k : List ℕ) (o : Option Entry) → is_writing o ≡ true → is_shown_by os k o ≡ false → None ≡ kept_turn os k o
kept_gone os k o h i = λ j. cond (sym h j) (cond (sym i j) (option_map unwritten o) None) o

pub kept_other : (os : List Owner) (k : List ℕ) (o : Option Entry) → is_writing o ≡ false → o ≡ kept_turn os k o
kept_other os k o h = ap (λ b. cond b (cond (is_shown_by os k o) (option_map unwritten o) None) o) (sym h)

-- The entries take what the write left.

pub wrote_writing : (kv : Option Kv) (o : Option Entry) → is_writing o ≡ true → option_map (written kv) o ≡ wrote_turn kv o
wrote_writing kv None h = refl
wrote_writing kv (Some e) h = ap (λ b. Some (cond b (written kv e) e)) (sym h)

pub wrote_other : (kv : Option Kv) (o : Option Entry) → is_writing o ≡ false → o ≡ wrote_turn kv o
wrote_other kv None h = refl
wrote_other kv (Some e) h = ap (λ b. Some (cond b (written kv e) e)) (sym h)

wrote_idle : (v : List ℕ → Option Kv) → IdleTurn (λ k. wrote_turn (v k))
wrote_idle v k None = refl
wrote_idle v k (Some e) = of (is_writing_phase e.phase) refl
  where
    of : (b : Bool) → is_writing_phase e.phase ≡ b → wrote_turn (v k) (Some (cond b (written (v k) e) e)) ≡ Some (cond b (written (v k) e) e)
    of true h = ap (λ b. Some (cond b (written (v k) (written (v k) e)) (written (v k) e))) (calm_back e.phase)
    of false h = ap (λ b. Some (cond b (written (v k) e) e)) h

-- one more
pub wrote_append : (ls : List Left) (l : Left) (es : Keyed Entry) → all_wrote (ls ++ l ∷ []) es ≡ with_at (all_wrote ls es) l.key (wrote_turn l.kv (at (all_wrote ls es) l.key))
wrote_append [] l es = refl
wrote_append (x ∷ xs) l es = wrote_append xs l (with_at es x.key (wrote_turn x.kv (at es x.key)))

lefts_turned : (w : Write) (reply : Reply) (es fs : Keyed Entry) (rs : List KeyRange) → all_wrote (map (left_in w reply es) rs) fs ≡ turned (λ k. wrote_turn (left_kv w reply k (at es k))) rs fs
lefts_turned w reply es fs [] = refl
lefts_turned w reply es fs (r ∷ rs) = lefts_turned w reply es (with_at fs r.key (wrote_turn (left_kv w reply r.key (at es r.key)) (at fs r.key))) rs

pub wrote_is : (w : Write) (reply : Reply) (es : Keyed Entry) → is_proper w ≡ true → IsTrue (is_in_order es) → all_wrote (lefts_of w reply es) es ≡ wrote_entries w reply es
wrote_is w reply es h s =
    lefts_turned w reply es es (owned_ranges w) ∙ owned_is (λ k. wrote_turn (left_kv w reply k (at es k))) (wrote_idle (λ k. left_kv w reply k (at es k))) w es (wrote_entries w reply es) h s (in_order-each (λ j e. if_written (owns w j) (written (left_kv w reply j (Some e))) e) es ∙ s) (λ k. at-each (λ j e. if_written (owns w j) (written (left_kv w reply j (Some e))) e) es k ∙ of k (owns w k) (at es k))
  where
    of : (k : List ℕ) (a : Bool) (o : Option Entry) → option_map (λ e. if_written a (written (left_kv w reply k (Some e))) e) o ≡ cond a (wrote_turn (left_kv w reply k o) o) o
    of k true None = refl
    of k false None = refl
    of k true (Some e) = refl
    of k false (Some e) = refl

-- What was found.

pub found_is : (session : Option ℕ) (step : ℕ) (es : Keyed Entry) (os : Keyed Owner) → found_in session step es os ≡ map (found_of step) (others session es os)
found_is session step es [] = refl
found_is session step es (o ∷ os) = of (is_own session es o) (found_is session step es os)
  where
    of : (b : Bool) {fs : List Found} → fs ≡ map (found_of step) (others session es os) → cond b [] (found_of step o ∷ []) ++ fs ≡ map (found_of step) (cond (not b) (o ∷ others session es os) (others session es os))
    of true e = e
    of false e = ap (λ (l : List Found). found_of step o ∷ l) e

-- whether a key has an entry then
pub some-kept : (w : Write) (os : List Owner) (es : Keyed Entry) (k : List ℕ) → is_some (at es k) && not (is_gone w es os k) ≡ is_some (at (kept_entries w os es) k)
some-kept w os es k = of (owns w k) (is_shown es os k) (at es k) ∙ ap is_some (sym (at-kept w os es k))
  where
    of : (a c : Bool) (o : Option Entry) → is_some o && not ((a && is_writing o) && not c) ≡ is_some (cond a (cond (is_writing o) (cond c (option_map unwritten o) None) o) o)
    of true true None = refl
    of true false None = refl
    of false c None = refl
    of a c (Some e) = inner a c (is_writing_phase e.phase)
      where
        inner : (a c b : Bool) → not ((a && b) && not c) ≡ is_some (cond a (cond b (cond c (Some (unwritten e)) None) (Some e)) (Some e))
        inner true true true = refl
        inner true true false = refl
        inner true false true = refl
        inner true false false = refl
        inner false c b = refl

-- Those that this proxy owns itself, one more.

pub left_append : (session : Option ℕ) (os : Keyed Owner) (o : List ℕ × Owner) (es : Keyed Entry) → owned_left session (os ++ o ∷ []) es ≡ cond (is_own session (owned_left session os es) o) (with_at (owned_left session os es) o.0 (Some (own_entry o.1.create))) (owned_left session os es)
left_append session [] o es = refl
left_append session (x ∷ xs) o es = left_append session xs o (cond (is_own session es x) (with_at es x.0 (Some (own_entry x.1.create))) es)

-- Room.

pub no_longer : (es : Keyed Entry) (k : List ℕ) → length (with_at es k None) ≤ length es
no_longer es k = omega (arith, length-filter_both (λ (e : List ℕ × Entry). not (same k e.0)) (λ (e : List ℕ × Entry). same k e.0) (λ e. of (same k e.0)) es)
  where
    of : (b : Bool) → b ≡ not (not b)
    of true = refl
    of false = refl
