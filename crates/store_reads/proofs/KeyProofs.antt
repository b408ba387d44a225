-- A watch of one key is told nothing of the revisions that have no version of it.
use Rattle.std.proofs.Common.{◌≡◌, ℕ, zero, suc, ◌+◌, ◌-◌, ◌≤◌, ◌<◌, not, ◌&&◌, ◌||◌, Bool, true, false, cond, nat_lt, List, [], ◌∷◌, ◌++◌, Option, None, Some, length, take, drop, get_or, refl, sym, ◌∙◌, ap, subst, arith, append-nil, ltb-true, ltb-false, drop_of_length-le}
use Rattle.std.specs.List.{slice_get, list_any}
use Rattle.std.proofs.Math.Bridge.{le_prop}
use Rattle.std.proofs.Math.Logic.{∥∥₁_elim}
use Rattle.std.proofs.lemmas.List.{drop_more}
use Rattle.std.proofs.lemmas.Option.{slice_get_within}
use Rattle.etcd_types.specs.Keys.{same, is_zero, up_to, before}
use Rattle.etcd_types.specs.Ranges.{is_one, contains}
use Rattle.etcd_types.specs.declared.key_range.KeyRange.{KeyRange}
use Rattle.etcd_types.specs.declared.record.Kv.{Kv}
use Rattle.etcd_types.specs.declared.request.WatchAsk.{WatchAsk}
use Rattle.etcd_types.specs.declared.watch.Event.{Event}
use Rattle.store_model.specs.declared.history.KeyChange.{KeyChange}
use Rattle.store_model.specs.History.{History, changed_key}
use Rattle.store_model.specs.Records.{after_changes, record_now}
use Rattle.store_model.specs.Events.{events_of_changes, events_after}
use Rattle.store_history.specs.Batches.{told}
use Rattle.compaction_model.specs.declared.version.Version.{Version}
use Rattle.compaction_model.specs.Versions.{versions_in, versions_from, kept_versions}
use Rattle.compaction_model.specs.Places.{changed_keys}
use Rattle.store_index.specs.declared.index.Index.{Index}
use Rattle.store_index.specs.Index.{HoldsKept}
use Rattle.store_reads.specs.Places.{count_same, IsFirstFrom, none_within}
use Rattle.store_reads.specs.Told.{left_to_tell}
use Rattle.store_reads.proofs.SplitProofs.{AllBelow, in_below, Split, coming, coming_from, splits, first_place}
use Rattle.store_reads.proofs.EventProofs.{counted, at_seam}
use Rattle.store_reads.proofs.TellingProofs.{left_after, revision_told}

-- no change of the range

event_less : (range : KeyRange) (before : History) (made cs : List KeyChange) → none_within range (changed_keys cs) ≡ true → events_of_changes range before made cs ≡ []
event_less range before made [] e = refl
event_less range before made (c ∷ cs) e = by (contains range (changed_key c)) (λ r. event_less range before (made ++ c ∷ []) cs r) e _
  where
    by : (b : Bool) → (none_within range (changed_keys cs) ≡ true → events_of_changes range before (made ++ c ∷ []) cs ≡ []) → not (b || list_any (λ k. contains range k) (changed_keys cs)) ≡ true
        → (es : List Event) → cond b es (events_of_changes range before (made ++ c ∷ []) cs) ≡ []
    by true rest e es = absurd (cc)
    by false rest e es = rest e

pub quiet_revision : (c : ℕ) (ask : WatchAsk) (h : History) (r : ℕ) → 2 ≤ r → r - 2 < length h → none_within ask.range (changed_keys (get_or h (r - 2) [])) ≡ true
    → left_after c ask h r ≡ left_after c ask h (r + 1)
quiet_revision c ask h r first below none =
    revision_told c ask h r first below
    ∙ ap (λ (es : List Event). told c ask es ++ left_after c ask h (r + 1)) (event_less ask.range (take (r - 2) h) [] (get_or h (r - 2) []) none)

pub none_after : (c : ℕ) (ask : WatchAsk) (h : History) (r : ℕ) → length h + 2 ≤ r → left_after c ask h r ≡ []
none_after c ask h r past = ap (λ (g : History). told c ask (events_after ask.range (take (r - 2) h) g)) (drop_of_length-le h (omega (arith, past)))

-- no change of the one key

contains_one : (range : KeyRange) (k : List ℕ) → is_one range ≡ true → contains range k ≡ same k range.key
contains_one range k one =
    ap (λ (b : Bool). cond b (same k range.key) (cond (is_zero range.end) (is_zero range.key || up_to range.key k) (up_to range.key k && before k range.end))) one

none_of_key : (range : KeyRange) (keys : List (List ℕ)) → is_one range ≡ true → count_same range.key keys ≡ 0 → none_within range keys ≡ true
none_of_key range [] one e = refl
none_of_key range (k ∷ keys) one e =
    ap (λ (b : Bool). not (b || list_any (λ j. contains range j) keys)) (contains_one range k one) ∙ by (same k range.key) (λ f. none_of_key range keys one f) e
  where
    by : (b : Bool) → (count_same range.key keys ≡ 0 → none_within range keys ≡ true) → cond b (count_same range.key keys + 1) (count_same range.key keys) ≡ 0
        → not (b || list_any (λ j. contains range j) keys) ≡ true
    by true rest e = absurd (omega (arith, e))
    by false rest e = rest e

-- the versions of a revision are the first of those that it and the later ones make
none_first : (r at n : ℕ) (front us rest vs : List Version) → vs ≡ front ++ (us ++ rest) → at ≡ length front → AllBelow (r + 1) us → length us ≡ n
    → ((v : Version) → slice_get vs at ≡ Some v → r < v.revision) → n ≡ 0
none_first r at n front [] rest vs is here below long past = sym long
none_first r at n front (u ∷ us) rest vs is here below long past =
    let there = (at_seam front (us ++ rest) vs u at is here).0 in
    let late : r < u.revision = past u there in
    let early : u.revision < r + 1 = below.0 in
    absurd (omega (arith, late, early))

not_changed : (c r at : ℕ) (h : History) (k : List ℕ) (vs : List Version) → 2 ≤ r → c ≤ r → r - 2 < length h → vs ≡ kept_versions h c k → IsFirstFrom r vs at
    → ((v : Version) → slice_get vs at ≡ Some v → r < v.revision) → count_same k (changed_keys (get_or h (r - 2) [])) ≡ 0
not_changed c r at h k vs first le within kept begins past =
    let near : r - 2 ≤ length h = omega (arith, within) in
    let cs : List KeyChange = get_or h (r - 2) [] in
    let s : Split c r vs (coming h r k) = subst (λ (us : List Version). Split c r us (coming h r k)) (sym kept) (splits h c r k first le near) in
    let here : at ≡ length s.front = first_place c r vs (coming h r k) at s (coming_from h r k) begins in
    let rest : List Version = versions_from (r + 1) k (drop (r - 2 + 1) h) (after_changes r k cs (record_now (take (r - 2) h) k)) in
    let parts : coming h r k ≡ versions_in r k cs (record_now (take (r - 2) h) k) ++ rest =
    ap (λ (g : History). versions_from r k g (record_now (take (r - 2) h) k)) (drop_more h (r - 2) [] within) in
    none_first r at (count_same k (changed_keys cs)) s.front (versions_in r k cs (record_now (take (r - 2) h) k)) rest vs
    (s.is ∙ ap (λ (us : List Version). s.front ++ us) parts) here (in_below (r + 1) r k cs (record_now (take (r - 2) h) k) (omega arith))
    (counted r k cs (record_now (take (r - 2) h) k)) past

later_first : (r at : ℕ) (vs : List Version) → IsFirstFrom r vs at → ((v : Version) → slice_get vs at ≡ Some v → r + 1 ≤ v.revision) → IsFirstFrom (r + 1) vs at
later_first r at vs begins past = record {
  within = begins.within;
  earlier = λ n v e there. let lt = begins.earlier n v e there in omega (arith, lt);
  later = past;
}

-- nothing is told from here up to the revision of the next version
pub skipped : (d c r at : ℕ) (ask : WatchAsk) (h : History) (vs : List Version) → is_one ask.range ≡ true → 2 ≤ r → c ≤ r → r + d ≤ length h + 2
    → vs ≡ kept_versions h c ask.range.key → IsFirstFrom r vs at → ((v : Version) → slice_get vs at ≡ Some v → r + d ≤ v.revision)
    → left_after c ask h r ≡ left_after c ask h (r + d)
skipped zero c r at ask h vs one first le last kept begins past = let same : r ≡ r + 0 = omega arith in ap (left_after c ask h) same
skipped (suc d) c r at ask h vs one first le last kept begins past =
    let within : r - 2 < length h = omega (arith, first, last) in
    let next : r + 1 + d ≡ r + suc d = omega arith in
    let none = not_changed c r at h ask.range.key vs first le within kept begins (λ v there. let p = past v there in omega (arith, p)) in
    quiet_revision c ask h r first within (none_of_key ask.range (changed_keys (get_or h (r - 2) [])) one none)
    ∙ skipped d c (r + 1) at ask h vs one (omega (arith, first)) (omega (arith, le)) (omega (arith, last)) kept
    (later_first r at vs begins (λ v there. let p = past v there in omega (arith, p))) (λ v there. let p = past v there in omega (arith, p))
    ∙ ap (left_after c ask h) next

-- nor from here on, where there is none
pub none_left : (c r at : ℕ) (ask : WatchAsk) (h : History) (vs : List Version) → is_one ask.range ≡ true → 2 ≤ r → c ≤ r → vs ≡ kept_versions h c ask.range.key → IsFirstFrom r vs at → length vs ≤ at
    → left_after c ask h r ≡ []
none_left c r at ask h vs one first le kept begins out = by (nat_lt r (length h + 2)) refl
  where
    by : (b : Bool) → nat_lt r (length h + 2) ≡ b → left_after c ask h r ≡ []
    by true e =
        let lt : r < length h + 2 = ltb-true r (length h + 2) e in
        let up : r + (length h + 2 - r) ≡ length h + 2 = omega (arith, lt) in
        skipped (length h + 2 - r) c r at ask h vs one first le (omega (arith, up)) kept begins
        (λ v there. let among = slice_get_within vs at v there in absurd (omega (arith, among, out)))
        ∙ ap (left_after c ask h) up ∙ none_after c ask h (length h + 2) (omega arith)
    by false e = let ge : length h + 2 ≤ r = ltb-false r (length h + 2) e in none_after c ask h r ge

abbrev revision_or : ℕ → Option Version → ℕ
revision_or n None = n
revision_or n (Some v) = v.revision

one_version : (vs : List Version) (at : ℕ) (v u : Version) → slice_get vs at ≡ Some v → slice_get vs at ≡ Some u → v.revision ≡ u.revision
one_version vs at v u e f = ap (revision_or 0) (sym e ∙ f)

-- a version that is there is told behind those that were told
pub next_part : (c r q at : ℕ) (ask : WatchAsk) (h : History) (vs : List Version) (v : Version) → is_one ask.range ≡ true → 2 ≤ r → c ≤ r → q < length h + 2
    → vs ≡ kept_versions h c ask.range.key → IsFirstFrom r vs at → slice_get vs at ≡ Some v → q ≡ v.revision
    → left_after c ask h r ≡ left_to_tell c ask h q 0 ++ left_after c ask h (q + 1)
next_part c r q at ask h vs v one first le last kept begins there is =
    let from : r ≤ v.revision = begins.later v there in
    let up : r + (q - r) ≡ q = omega (arith, from, is) in
    let two : 2 ≤ q = omega (arith, from, is, first) in
    skipped (q - r) c r at ask h vs one first le (omega (arith, up, last)) kept begins
    (λ u here. let same = one_version vs at v u there here in omega (arith, up, is, same))
    ∙ ap (left_after c ask h) up ∙ revision_told c ask h q two (omega (arith, last, two))

-- a kept version is of a revision that there is

all_of : (r : ℕ) (vs : List Version) (at : ℕ) (v : Version) → AllBelow r vs → slice_get vs at ≡ Some v → v.revision < r
all_of r [] zero v b e = absurd (cc)
all_of r [] (suc n) v b e = absurd (cc)
all_of r (u ∷ us) zero v b e = let s : u.revision ≡ v.revision = ap (revision_or 0) e in let lt = b.0 in omega (arith, s, lt)
all_of r (u ∷ us) (suc n) v b e = all_of r us n v b.1 e

kept_below : (c at : ℕ) (h : History) (k : List ℕ) (vs : List Version) (v : Version) → c ≤ length h + 1 → vs ≡ kept_versions h c k → slice_get vs at ≡ Some v → v.revision < length h + 2
kept_below c at h k vs v past kept there =
    let two : 2 ≤ length h + 2 = omega arith in
    let back : length h + 2 - 2 ≡ length h = omega arith in
    let s = splits h c (length h + 2) k two (omega (arith, past)) (omega (arith, back)) in
    let gone : coming h (length h + 2) k ≡ [] =
    ap (λ (g : History). versions_from (length h + 2) k g (record_now (take (length h + 2 - 2) h) k)) (drop_of_length-le h (omega (arith, back))) in
    let whole : vs ≡ s.front = kept ∙ s.is ∙ ap (λ (us : List Version). s.front ++ us) gone ∙ append-nil s.front in
    all_of (length h + 2) vs at v (subst (AllBelow (length h + 2)) (sym whole) s.below) there

pub kept_within : (i : Index) (k : List ℕ) (vs : List Version) (at : ℕ) (v : Version) → ((h : History) → HoldsKept i h → vs ≡ kept_versions h i.compacted k) → slice_get vs at ≡ Some v
    → v.revision ≤ i.newest
kept_within i k vs at v kept there =
    ∥∥₁_elim i.of_a_history le_prop
    (λ x. let latest : i.newest ≡ length x.0 + 1 = x.1.same_newest in
    let past : i.compacted ≤ length x.0 + 1 = x.1.past in
    let lt = kept_below i.compacted at x.0 k vs v past (kept x.0 x.1) there in
    omega (arith, lt, latest))
