-- A watch is told the same by each history of an index, so revisions that told it nothing never will.
use Rattle.std.proofs.Common.{◌≡◌, ℕ, zero, suc, ◌+◌, ◌-◌, ◌≤◌, ◌<◌, max, nat_lt, Bool, true, false, List, [], ◌∷◌, ◌++◌, Option, None, Some, length, length-append, take, drop, get_or, filter, refl, sym, ◌∙◌, ap, subst, arith, ltb-true, ltb-false}
use Rattle.std.proofs.Math.Nat.{ℕ_set}
use Rattle.std.proofs.Math.Bridge.{le_prop}
use Rattle.std.proofs.Math.Logic.{∥∥₁_elim}
use Rattle.std.specs.List.{slice_get}
use Rattle.std.proofs.lemmas.List.{get_or_append_left, take-append-le, length-map}
use Rattle.std.proofs.lemmas.Option.{get_or_from_slice_get, slice_get-get_or}
use Rattle.etcd_types.specs.Ranges.{contains}
use Rattle.etcd_types.specs.declared.record.Kv.{Kv}
use Rattle.etcd_types.specs.declared.request.WatchAsk.{WatchAsk}
use Rattle.etcd_types.specs.declared.watch.Event.{Event}
use Rattle.store_model.specs.declared.history.KeyChange.{KeyChange}
use Rattle.store_model.specs.History.{History, with_revision}
use Rattle.store_model.specs.Events.{events_of_changes, passes, told_event}
use Rattle.store_history.specs.Batches.{told}
use Rattle.compaction_model.specs.declared.version.Version.{Version}
use Rattle.compaction_model.specs.Versions.{last_left}
use Rattle.compaction_model.specs.Places.{changed_keys}
use Rattle.store_index.specs.declared.index.Index.{Index}
use Rattle.store_index.specs.Index.{HoldsKept}
use Rattle.store_index.specs.Maps.{versions_of}
use Rattle.store_index.proofs.IndexLemmas.{place_of_revision}
use Rattle.store_reads.specs.Places.{count_same, IsFirstFrom}
use Rattle.store_reads.specs.Told.{told_left, left_to_tell}
use Rattle.store_reads.proofs.TellingProofs.{Here, at_index, over_index, nothing_left, left_after, revision_told}
use Rattle.store_reads.proofs.KeyProofs.{none_after}
use Rattle.store_world.specs.Looked.{IsSilent}

-- ---- the versions of a key from a revision on begin somewhere

abbrev revision_or : ℕ → Option Version → ℕ
revision_or n None = n
revision_or n (Some v) = v.revision

first_at : (r : ℕ) (vs : List Version) → (at : ℕ) × IsFirstFrom r vs at
first_at r [] = (0, record { within = omega arith; earlier = λ n v e there. absurd (omega (arith, e)); later = λ v there. absurd (cc) })
first_at r (v ∷ vs) = by (nat_lt v.revision r) refl (first_at r vs)
  where
    before : (at : ℕ) → v.revision < r → IsFirstFrom r vs at → (n : ℕ) (u : Version) → suc at ≡ n + 1 → slice_get (v ∷ vs) n ≡ Some u → u.revision < r
    before at lt f zero u e there = let same : v.revision ≡ u.revision = ap (revision_or 0) there in omega (arith, lt, same)
    before at lt f (suc n) u e there = f.earlier n u (omega (arith, e)) there

    by : (b : Bool) → nat_lt v.revision r ≡ b → (at : ℕ) × IsFirstFrom r vs at → (at : ℕ) × IsFirstFrom r (v ∷ vs) at
    by true e rest =
        let near = rest.1.within in (
          suc rest.0,
          record {
            within = omega (arith, near);
            earlier = before rest.0 (ltb-true v.revision r e) rest.1;
            later = λ u there. rest.1.later u there;
          },
        )
    by false e rest = (
      0,
      record {
        within = omega arith;
        earlier = λ n u same there. absurd (omega (arith, same));
        later = λ u there. let ge : r ≤ v.revision = ltb-false v.revision r e in let same : v.revision ≡ u.revision = ap (revision_or 0) there in omega (arith, ge, same);
      },
    )

-- ---- what a revision tells

same_changed : (i : Index) (h g : History) (r : ℕ) → HoldsKept i h → HoldsKept i g → 2 ≤ r → i.compacted ≤ r → r ≤ i.newest → changed_keys (get_or h (r - 2) []) ≡ changed_keys (get_or g (r - 2) [])
same_changed i h g r a b first from last =
    let here : i.compacted - 2 + (r - 2 - (i.compacted - 2)) ≡ r - 2 = omega (arith, first, from) in
    sym (place_of_revision i.newest i.compacted r (r - 2 - (i.compacted - 2)) i.versions i.places h a first last here)
    ∙ place_of_revision i.newest i.compacted r (r - 2 - (i.compacted - 2)) i.versions i.places g b first last here

abbrev left_or : Option Version → Option Kv
left_or None = None
left_or (Some v) = v.left

same_left : (i : Index) (ask : WatchAsk) (h g : History) (r : ℕ) (keys : List (List ℕ)) → HoldsKept i h → HoldsKept i g → 2 ≤ r → i.compacted ≤ r → r ≤ i.newest
    → keys ≡ changed_keys (get_or h (r - 2) []) → keys ≡ changed_keys (get_or g (r - 2) []) → (d place : ℕ) → place + d ≡ length keys
    → left_to_tell i.compacted ask h r place ≡ left_to_tell i.compacted ask g r place
same_left i ask h g r keys a b first from last e f zero place l =
    nothing_left i.compacted ask h r place keys e (omega (arith, l)) ∙ sym (nothing_left i.compacted ask g r place keys f (omega (arith, l)))
same_left i ask h g r keys a b first from last e f (suc d) place l =
    by (contains ask.range k) refl (same_left i ask h g r keys a b first from last e f d (place + 1) (omega (arith, l)))
  where
    k : List ℕ
    k = get_or keys place []

    among : place < length keys
    among = omega (arith, l)

    there : k ≡ get_or keys place k
    there = sym (get_or_from_slice_get keys place k k (slice_get-get_or keys place [] among))

    by : (t : Bool) → contains ask.range k ≡ t → left_to_tell i.compacted ask h r (place + 1) ≡ left_to_tell i.compacted ask g r (place + 1)
        → left_to_tell i.compacted ask h r place ≡ left_to_tell i.compacted ask g r place
    by false out rest = sym (over_index i ask h r place keys k a first last e among there out) ∙ rest ∙ over_index i ask g r place keys k b first last f among there out
    by true inside rest =
        let vs : List Version = versions_of i.versions k in
        let begun = first_at r vs in
        let at : ℕ = begun.0 + count_same k (take place keys) in
        let x : Here i.compacted ask h r place k vs at = at_index i ask h r place keys k vs at begun.0 a first from last e among there (a.versions k) begun.1 refl in
        let y : Here i.compacted ask g r place k vs at = at_index i ask g r place keys k vs at begun.0 b first from last f among there (b.versions k) begun.1 refl in
        let same : x.version.left ≡ y.version.left = ap left_or (sym x.there ∙ y.there) in
        x.step inside ∙ (λ j. told_left i.compacted ask r k (last_left (take at vs) None) (same j) ++ rest j) ∙ sym (y.step inside)

-- how much is told is the same whatever was compacted
same_many : (c d : ℕ) (ask : WatchAsk) (es : List Event) → length (told c ask es) ≡ length (told d ask es)
same_many c d ask es = length-map (filter (passes ask) es) (told_event c ask) ∙ sym (length-map (filter (passes ask) es) (told_event d ask))

many_at : (c d : ℕ) (ask : WatchAsk) (h : History) (r : ℕ) → length (left_to_tell c ask h r 0) ≡ length (left_to_tell d ask h r 0)
many_at c d ask h r = same_many c d ask (events_of_changes ask.range (take (r - 2) h) (take 0 (get_or h (r - 2) [])) (drop 0 (get_or h (r - 2) [])))

same_length : (i : Index) (ask : WatchAsk) (h g : History) (r : ℕ) → HoldsKept i h → HoldsKept i g → 2 ≤ r → i.compacted ≤ r → r ≤ i.newest
    → length (left_to_tell 0 ask h r 0) ≡ length (left_to_tell 0 ask g r 0)
same_length i ask h g r a b first from last =
    let keys : List (List ℕ) = changed_keys (get_or h (r - 2) []) in
    let whole : 0 + length keys ≡ length keys = omega arith in
    many_at 0 i.compacted ask h r
    ∙ ap (λ (es : List Event). length es) (same_left i ask h g r keys a b first from last refl (same_changed i h g r a b first from last) (length keys) 0 whole)
    ∙ many_at i.compacted 0 ask g r

-- ---- a history that goes on as another one began

pub record Begins (h g : History) : Type 0 where
  pub longer : length h ≤ length g
  pub same : (ask : WatchAsk) (r : ℕ) → r - 2 < length h → left_to_tell 0 ask g r 0 ≡ left_to_tell 0 ask h r 0

pub begins_itself : (h : History) → Begins h h
begins_itself h = record { longer = omega arith; same = λ ask r lt. refl }

pub begins_with : (h : History) (cs : List KeyChange) → Begins h (with_revision h cs)
begins_with h [] = begins_itself h
begins_with h (c ∷ cs) = record {
  longer = let l = length-append h ((c ∷ cs) ∷ []) in omega (arith, l);
  same = λ ask r lt.
      let front : take (r - 2) (h ++ (c ∷ cs) ∷ []) ≡ take (r - 2) h = take-append-le (r - 2) h ((c ∷ cs) ∷ []) (omega (arith, lt)) in
      let here : get_or (h ++ (c ∷ cs) ∷ []) (r - 2) [] ≡ get_or h (r - 2) [] = get_or_append_left h ((c ∷ cs) ∷ []) [] (r - 2) lt in
      λ j. told 0 ask (events_of_changes ask.range (front j) (take 0 (here j)) (drop 0 (here j)));
}

-- what told nothing never will, where revisions come or are compacted
pub stays_silent : (i j : Index) (ask : WatchAsk) (from to : ℕ) → ((h : History) → HoldsKept i h → (g : History) × HoldsKept j g × Begins h g) → 2 ≤ from
    → to ≤ i.newest + 1 → j.compacted ≤ from → ((h : History) → HoldsKept i h → IsSilent ask h from to) → (h : History) → HoldsKept j h → IsSilent ask h from to
stays_silent i j ask from to grows two last start q h holds r le lt =
    ∥∥₁_elim i.of_a_history (ℕ_set _ _)
    (λ x. let g = grows x.0 x.1 in
    let old : i.newest ≡ length x.0 + 1 = x.1.same_newest in
    let new : j.newest ≡ length g.0 + 1 = g.1.same_newest in
    let longer = g.2.longer in
    let first : 2 ≤ r = omega (arith, two, le) in
    let kept : j.compacted ≤ r = omega (arith, start, le) in
    let within : r ≤ j.newest = omega (arith, lt, last, old, new, longer) in
    let among : r - 2 < length x.0 = omega (arith, lt, last, old, first) in
    same_length j ask h g.0 r holds g.1 first kept within
    ∙ ap (λ (es : List Event). length es) (g.2.same ask r among)
    ∙ q x.0 x.1 r le lt)

pub stays_behind : (i j : Index) (n : ℕ) → ((h : History) → HoldsKept i h → (g : History) × HoldsKept j g × Begins h g) → n ≤ i.newest + 1 → n ≤ j.newest + 1
stays_behind i j n grows le =
    ∥∥₁_elim i.of_a_history le_prop
    (λ x. let g = grows x.0 x.1 in
    let old : i.newest ≡ length x.0 + 1 = x.1.same_newest in
    let new : j.newest ≡ length g.0 + 1 = g.1.same_newest in
    let longer = g.2.longer in
    omega (arith, le, old, new, longer))

pub newest_first : (i : Index) → 1 ≤ i.newest
newest_first i = ∥∥₁_elim i.of_a_history le_prop (λ x. let same : i.newest ≡ length x.0 + 1 = x.1.same_newest in omega (arith, same))

-- ---- a read from behind silent revisions

empty : {A : Type 0} → (xs : List A) → length xs ≡ 0 → xs ≡ []
empty [] e = refl
empty (x ∷ xs) e = absurd (omega (arith, e))

silent_step : (c : ℕ) (ask : WatchAsk) (h : History) (r : ℕ) → 2 ≤ r → length (left_to_tell 0 ask h r 0) ≡ 0 → left_after c ask h r ≡ left_after c ask h (r + 1)
silent_step c ask h r first none = by (nat_lt (r - 2) (length h)) refl
  where
    by : (b : Bool) → nat_lt (r - 2) (length h) ≡ b → left_after c ask h r ≡ left_after c ask h (r + 1)
    by true t =
        revision_told c ask h r first (ltb-true (r - 2) (length h) t)
        ∙ ap (λ (es : List Event). es ++ left_after c ask h (r + 1)) (empty (left_to_tell c ask h r 0) (many_at c 0 ask h r ∙ none))
    by false t =
        let ge : length h ≤ r - 2 = ltb-false (r - 2) (length h) t in
        none_after c ask h r (omega (arith, ge, first)) ∙ sym (none_after c ask h (r + 1) (omega (arith, ge, first)))

silent_steps : (d c : ℕ) (ask : WatchAsk) (h : History) (r : ℕ) → 2 ≤ r → IsSilent ask h r (r + d) → left_after c ask h r ≡ left_after c ask h (r + d)
silent_steps zero c ask h r first q = let same : r ≡ r + 0 = omega arith in ap (left_after c ask h) same
silent_steps (suc d) c ask h r first q =
    let next : r + 1 + d ≡ r + suc d = omega arith in
    silent_step c ask h r first (q r (omega arith) (omega arith))
    ∙ silent_steps d c ask h (r + 1) (omega (arith, first)) (λ m le lt. q m (omega (arith, le)) (omega (arith, lt)))
    ∙ ap (left_after c ask h) next

-- no revision is below 2
from_two : (c : ℕ) (ask : WatchAsk) (h : History) (r : ℕ) → left_after c ask h r ≡ left_after c ask h (max r 2)
from_two c ask h zero = refl
from_two c ask h (suc zero) = refl
from_two c ask h (suc (suc n)) = let same : suc (suc n) ≡ max (suc (suc n)) 2 = omega arith in ap (left_after c ask h) same

pub silent_told : (c : ℕ) (ask : WatchAsk) (h : History) (from to : ℕ) → max from 2 ≤ to → IsSilent ask h (max from 2) to → left_after c ask h from ≡ left_after c ask h to
silent_told c ask h from to le q =
    let up : max from 2 + (to - max from 2) ≡ to = omega (arith, le) in
    from_two c ask h from
    ∙ silent_steps (to - max from 2) c ask h (max from 2) (omega arith) (subst (λ (n : ℕ). IsSilent ask h (max from 2) n) (sym up) q)
    ∙ ap (left_after c ask h) up

-- ---- revisions of which nothing is told

silent_from : (d c : ℕ) (ask : WatchAsk) (h : History) (r : ℕ) → 2 ≤ r → r + d ≡ length h + 2 → length (left_after c ask h r) ≡ 0 → IsSilent ask h r (length h + 2)
silent_from zero c ask h r first up none m le lt = absurd (omega (arith, up, le, lt))
silent_from (suc d) c ask h r first up none m le lt = by (nat_lt r m) refl (λ none_later later. silent_from d c ask h (r + 1) (omega (arith, first)) (omega (arith, up)) none_later m later lt)
  where
    within : r - 2 < length h
    within = omega (arith, first, up)

    parts : length (left_to_tell c ask h r 0) + length (left_after c ask h (r + 1)) ≡ 0
    parts = sym (length-append (left_to_tell c ask h r 0) (left_after c ask h (r + 1))) ∙ ap (λ (es : List Event). length es) (sym (revision_told c ask h r first within)) ∙ none

    by : (b : Bool) → nat_lt r m ≡ b → (length (left_after c ask h (r + 1)) ≡ 0 → r + 1 ≤ m → length (left_to_tell 0 ask h m 0) ≡ 0) → length (left_to_tell 0 ask h m 0) ≡ 0
    by true t rest = let later : r < m = ltb-true r m t in rest (let p = parts in omega (arith, p)) (omega (arith, later))
    by false t rest =
        let ge : m ≤ r = ltb-false r m t in
        let same : m ≡ r = omega (arith, ge, le) in
        ap (λ n. length (left_to_tell 0 ask h n 0)) same ∙ many_at 0 c ask h r ∙ (let p = parts in omega (arith, p))

pub silent_of : (c : ℕ) (ask : WatchAsk) (h : History) (from to : ℕ) → to ≡ length h + 2 → left_after c ask h from ≡ [] → IsSilent ask h (max from 2) to
silent_of c ask h from to end none r le lt =
    let last : max from 2 ≤ length h + 2 = omega (arith, le, lt, end) in
    let up : max from 2 + (length h + 2 - max from 2) ≡ length h + 2 = omega (arith, last) in
    silent_from (length h + 2 - max from 2) c ask h (max from 2) (omega arith) up (ap (λ (es : List Event). length es) (sym (from_two c ask h from) ∙ none)) r le (omega (arith, lt, end))

pub later_silent : (ask : WatchAsk) (h : History) (from mid to : ℕ) → from ≤ mid → IsSilent ask h from to → IsSilent ask h mid to
later_silent ask h from mid to up q r le lt = q r (omega (arith, up, le)) lt
