-- The changes of a revision, told one after the other by the kept versions of their keys.
use Rattle.std.proofs.Common.{◌≡◌, ℕ, ◌+◌, ◌-◌, ◌≤◌, ◌<◌, ◌&&◌, Bool, true, false, cond, List, [], ◌++◌, None, Some, length, take, drop, get_or, refl, sym, ◌∙◌, ap, subst, arith, append_assoc, length-take-le, drop_of_length-le}
use Rattle.std.specs.List.{slice_get}
use Rattle.std.proofs.lemmas.List.{take-append-drop, drop_more, get_or-map, length-map, take-map}
use Rattle.std.proofs.lemmas.Option.{get_or_from_slice_get, slice_get-get_or}
use Rattle.etcd_types.specs.declared.request.WatchAsk.{WatchAsk}
use Rattle.etcd_types.specs.declared.watch.Event.{Event}
use Rattle.etcd_types.specs.Ranges.{contains}
use Rattle.store_model.specs.declared.history.KeyChange.{KeyChange}
use Rattle.store_model.specs.declared.history.KeyChange.TheVariants.{Delete}
use Rattle.store_model.specs.History.{History, changed_key}
use Rattle.store_model.specs.Watches.{next_after}
use Rattle.store_model.specs.Events.{events_of_changes, events_after}
use Rattle.store_history.specs.Batches.{told, told_of, kind_passes}
use Rattle.store_history.proofs.EventLemmas.{told-at, told-revision_at, next_after-append}
use Rattle.compaction_model.specs.declared.version.Version.{Version}
use Rattle.compaction_model.specs.Versions.{last_left, kept_versions}
use Rattle.compaction_model.specs.Places.{changed_keys}
use Rattle.store_index.specs.declared.index.Index.{Index}
use Rattle.store_index.specs.Index.{HoldsKept}
use Rattle.store_reads.specs.Places.{count_same, IsFirstFrom}
use Rattle.store_reads.specs.Told.{left_passes, told_left, left_to_tell}
use Rattle.store_reads.proofs.EventProofs.{IsChange, Tells, tells, next_told}

-- the keys of a revision that is there, and a place among them
pub record AtPlace (h : History) (r place : ℕ) (keys : List (List ℕ)) : Type 0 where
  pub first : 2 ≤ r
  pub within : r - 2 < length h
  pub changed : keys ≡ changed_keys (get_or h (r - 2) [])
  pub among : place < length keys

record ChangeAt (h : History) (r place : ℕ) (keys : List (List ℕ)) : Type 0 where
  change : KeyChange
  is : IsChange h r (take place (get_or h (r - 2) [])) change (drop (place + 1) (get_or h (r - 2) []))
  at : get_or (get_or h (r - 2) []) place change ≡ change
  among : place < length (get_or h (r - 2) [])
  key : (k : List ℕ) → get_or keys place k ≡ changed_key change

change_at : (h : History) (r place : ℕ) (keys : List (List ℕ)) → AtPlace h r place keys → ChangeAt h r place keys
change_at h r place keys a =
    let cs : List KeyChange = get_or h (r - 2) [] in
    let none : KeyChange = Delete [] in
    let p : place < length keys = a.among in
    let long : length keys ≡ length cs = ap length a.changed ∙ length-map cs changed_key in
    let lt : place < length cs = omega (arith, p, long) in
    record {
      change = get_or cs place none;
      is = record { first = a.first; within = a.within; changes = sym (take-append-drop place cs) ∙ ap (λ (ds : List KeyChange). take place cs ++ ds) (drop_more cs place none lt) };
      at = get_or_from_slice_get cs place (get_or cs place none) (get_or cs place none) (slice_get-get_or cs place none lt);
      among = lt;
      key = λ k. ap (λ ks. get_or ks place k) a.changed ∙ get_or-map changed_key cs place none k lt;
    }

left_step : (c : ℕ) (ask : WatchAsk) (h : History) (r place : ℕ) (keys : List (List ℕ)) → (x : ChangeAt h r place keys)
    → left_to_tell c ask h r place ≡ told_of c ask (take (r - 2) h) (take place (get_or h (r - 2) [])) x.change ++ left_to_tell c ask h r (place + 1)
left_step c ask h r place keys x = told-at c ask (take (r - 2) h) (get_or h (r - 2) []) place x.change x.among (sym x.at)

-- a change outside the range

pub passed_over : (c : ℕ) (ask : WatchAsk) (h : History) (r place : ℕ) (keys : List (List ℕ)) (k : List ℕ) → AtPlace h r place keys → k ≡ get_or keys place k → contains ask.range k ≡ false
    → left_to_tell c ask h r place ≡ left_to_tell c ask h r (place + 1)
passed_over c ask h r place keys k a is out =
    let x = change_at h r place keys a in
    let outside : contains ask.range (changed_key x.change) ≡ false = ap (contains ask.range) (sym (is ∙ x.key k)) ∙ out in
    left_step c ask h r place keys x
    ∙ ap (λ (es : List Event). es ++ left_to_tell c ask h r (place + 1)) (nothing (kind_passes ask x.change) (contains ask.range (changed_key x.change)) outside _)
  where
    nothing : (p q : Bool) → q ≡ false → (es : List Event) → cond (p && q) es [] ≡ []
    nothing true true e es = absurd (cc)
    nothing true false e es = refl
    nothing false q e es = refl

-- a change of the range

pub record Here (c : ℕ) (ask : WatchAsk) (h : History) (r place : ℕ) (k : List ℕ) (vs : List Version) (at : ℕ) : Type 0 where
  pub version : Version
  pub there : slice_get vs at ≡ Some version
  pub within : at < length vs
  pub revision : version.revision ≡ r
  pub step : contains ask.range k ≡ true
      → left_to_tell c ask h r place ≡ told_left c ask r k (last_left (take at vs) None) version.left ++ left_to_tell c ask h r (place + 1)
  pub next : contains ask.range k ≡ true → (n : ℕ) → next_after n (told_left c ask r k (last_left (take at vs) None) version.left) ≡ cond (left_passes ask version.left) (r + 1) n

here_told : (c : ℕ) (ask : WatchAsk) (h : History) (r place : ℕ) (keys : List (List ℕ)) (vs : List Version) (at begins : ℕ) → AtPlace h r place keys → (x : ChangeAt h r place keys)
    → c ≤ r → vs ≡ kept_versions h c (changed_key x.change) → IsFirstFrom r vs begins → at ≡ begins + count_same (changed_key x.change) (take place keys)
    → Here c ask h r place (changed_key x.change) vs at
here_told c ask h r place keys vs at begins a x le kept first here =
    let cs : List KeyChange = get_or h (r - 2) [] in
    let k : List ℕ = changed_key x.change in
    let counted : at ≡ begins + count_same k (changed_keys (take place cs)) =
    here ∙ ap (λ (js : List (List ℕ)). begins + count_same k js) (ap (take place) a.changed ∙ take-map changed_key place cs) in
    let t : Tells c ask h r (take place cs) x.change vs at = tells c ask h r (take place cs) (drop (place + 1) cs) x.change vs at begins x.is le kept first counted in
    let told : List Event = told_left c ask r k (last_left (take at vs) None) t.version.left in
    let all : contains ask.range k ≡ true → told_of c ask (take (r - 2) h) (take place cs) x.change ≡ told =
    λ within. t.told ∙ ap (λ (b : Bool). cond b told []) within in
    let lt : r - 2 < length h = a.within in
    let long : length (take (r - 2) h) ≡ r - 2 = length-take-le (r - 2) h (omega (arith, lt)) in
    record {
      version = t.version;
      there = t.there;
      within = t.within;
      revision = t.revision;
      step = λ within. left_step c ask h r place keys x ∙ ap (λ (es : List Event). es ++ left_to_tell c ask h r (place + 1)) (all within);
      next = λ within n.
          ap (next_after n) (sym (all within)) ∙ next_told c ask h r (take place cs) x.change n a.first long
          ∙ ap (λ (b : Bool). cond (kind_passes ask x.change && b) (r + 1) n) within
          ∙ and_true (kind_passes ask x.change) n
          ∙ ap (λ (b : Bool). cond b (r + 1) n) (sym t.passes);
    }
  where
    and_true : (b : Bool) (n : ℕ) → cond (b && true) (r + 1) n ≡ cond b (r + 1) n
    and_true true n = refl
    and_true false n = refl

pub told_here : (c : ℕ) (ask : WatchAsk) (h : History) (r place : ℕ) (keys : List (List ℕ)) (k : List ℕ) (vs : List Version) (at begins : ℕ) → AtPlace h r place keys
    → k ≡ get_or keys place k → c ≤ r → vs ≡ kept_versions h c k → IsFirstFrom r vs begins → at ≡ begins + count_same k (take place keys) → Here c ask h r place k vs at
told_here c ask h r place keys k vs at begins a is le kept first here =
    let x = change_at h r place keys a in
    let Claim : List ℕ → Type 0 = λ j. vs ≡ kept_versions h c j → at ≡ begins + count_same j (take place keys) → Here c ask h r place j vs at in
    subst Claim (sym (is ∙ x.key k)) (λ e f. here_told c ask h r place keys vs at begins a x le e first f) kept here

-- one step of the telling

pub goes_on : (old new part rest whole : List Event) → whole ≡ part ++ rest → new ≡ old ++ part → new ++ rest ≡ old ++ whole
goes_on old new part rest whole w n = ap (λ (es : List Event). es ++ rest) n ∙ append_assoc old part rest ∙ ap (λ (es : List Event). old ++ es) (sym w)

pub next_goes_on : (n m : ℕ) (part rest whole : List Event) → whole ≡ part ++ rest → m ≡ next_after n part → next_after m rest ≡ next_after n whole
next_goes_on n m part rest whole w e = ap (λ k. next_after k rest) e ∙ sym (next_after-append n part rest) ∙ ap (next_after n) (sym w)

-- the same, at an index

pub at_index : (i : Index) (ask : WatchAsk) (h : History) (r place : ℕ) (keys : List (List ℕ)) (k : List ℕ) (vs : List Version) (at begins : ℕ) → HoldsKept i h
    → 2 ≤ r → i.compacted ≤ r → r ≤ i.newest → keys ≡ changed_keys (get_or h (r - 2) []) → place < length keys → k ≡ get_or keys place k
    → vs ≡ kept_versions h i.compacted k → IsFirstFrom r vs begins → at ≡ begins + count_same k (take place keys) → Here i.compacted ask h r place k vs at
at_index i ask h r place keys k vs at begins holds first from last changed among is kept begun here =
    let latest : i.newest ≡ length h + 1 = holds.same_newest in
    let within : r - 2 < length h = omega (arith, latest, first, last) in
    told_here i.compacted ask h r place keys k vs at begins (record { first = first; within = within; changed = changed; among = among }) is from kept begun here

pub over_index : (i : Index) (ask : WatchAsk) (h : History) (r place : ℕ) (keys : List (List ℕ)) (k : List ℕ) → HoldsKept i h → 2 ≤ r → r ≤ i.newest
    → keys ≡ changed_keys (get_or h (r - 2) []) → place < length keys → k ≡ get_or keys place k → contains ask.range k ≡ false
    → left_to_tell i.compacted ask h r (place + 1) ≡ left_to_tell i.compacted ask h r place
over_index i ask h r place keys k holds first last changed among is out =
    let latest : i.newest ≡ length h + 1 = holds.same_newest in
    let within : r - 2 < length h = omega (arith, latest, first, last) in
    sym (passed_over i.compacted ask h r place keys k (record { first = first; within = within; changed = changed; among = among }) is out)

-- a revision is told once its changes are

pub nothing_left : (c : ℕ) (ask : WatchAsk) (h : History) (r place : ℕ) (keys : List (List ℕ)) → keys ≡ changed_keys (get_or h (r - 2) []) → length keys ≤ place → left_to_tell c ask h r place ≡ []
nothing_left c ask h r place keys changed le =
    let cs : List KeyChange = get_or h (r - 2) [] in
    let long : length keys ≡ length cs = ap length changed ∙ length-map cs changed_key in
    let past : length cs ≤ place = omega (arith, long, le) in
    ap (λ (ds : List KeyChange). told c ask (events_of_changes ask.range (take (r - 2) h) (take place cs) ds)) (drop_of_length-le cs past)

-- of the revisions from this one on
abbrev pub left_after : ℕ → WatchAsk → History → ℕ → List Event
left_after c ask h r = told c ask (events_after ask.range (take (r - 2) h) (drop (r - 2) h))

pub revision_told : (c : ℕ) (ask : WatchAsk) (h : History) (r : ℕ) → 2 ≤ r → r - 2 < length h
    → told c ask (events_after ask.range (take (r - 2) h) (drop (r - 2) h))
    ≡ left_to_tell c ask h r 0 ++ told c ask (events_after ask.range (take (r + 1 - 2) h) (drop (r + 1 - 2) h))
revision_told c ask h r first below =
    let cs : List KeyChange = get_or h (r - 2) [] in
    let same : cs ≡ get_or h (r - 2) cs = sym (get_or_from_slice_get h (r - 2) cs cs (slice_get-get_or h (r - 2) [] below)) in
    let next : r - 2 + 1 ≡ r + 1 - 2 = omega (arith, first) in
    told-revision_at c ask h (r - 2) cs below same
    ∙ ap (λ n. left_to_tell c ask h r 0 ++ told c ask (events_after ask.range (take n h) (drop n h))) next
