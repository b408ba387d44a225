-- What a watch is told of a change is told by the version that it made and the one before it.
use Rattle.std.proofs.Common.{◌≡◌, ℕ, ◌+◌, ◌-◌, ◌≤◌, ◌<◌, nat_lt, nat_le, not, ◌&&◌, Bool, true, false, cond, List, [], ◌∷◌, ◌++◌, Option, None, Some, length, take, drop, get_or, refl, sym, ◌∙◌, ap, subst, arith, append_assoc, length-append, length-take-le}
use Rattle.std.specs.List.{slice_get}
use Rattle.std.proofs.Math.Seq.{take-append_seam}
use Rattle.std.proofs.lemmas.List.{drop_more}
use Rattle.std.proofs.lemmas.Bool.Decides.{nat_tests}
use Rattle.etcd_types.specs.declared.record.Kv.{Kv}
use Rattle.etcd_types.specs.declared.request.WatchAsk.{WatchAsk}
use Rattle.etcd_types.specs.declared.watch.Event.{Event}
use Rattle.etcd_types.specs.declared.watch.Change.TheVariants as event
use Rattle.etcd_types.specs.Keys.{same}
use Rattle.etcd_types.specs.Ranges.{contains}
use Rattle.etcd_types.specs.Records.{after_put}
use Rattle.etcd_types.proofs.Bools.{or_none}
use Rattle.etcd_types.proofs.KeyOrder.{same-itself}
use Rattle.store_model.specs.declared.history.KeyChange.{KeyChange}
use Rattle.store_model.specs.declared.history.KeyChange.TheVariants.{Put, Delete}
use Rattle.store_model.specs.History.{History, newest, with_revision, changed_key}
use Rattle.store_model.specs.Records.{after_change, after_changes, record_now}
use Rattle.store_model.specs.Events.{event_of, visible_prev, told_event}
use Rattle.store_model.specs.Watches.{next_after}
use Rattle.store_model.proofs.HistoryLemmas.{record_now-with_revision}
use Rattle.store_history.specs.Batches.{told_prev, kind_passes, concerns, told_of}
use Rattle.store_history.proofs.EventLemmas.{told-revision}
use Rattle.store_laws.proofs.Lives.Histories.{records_are_made}
use Rattle.compaction_model.specs.declared.version.Version.{Version}
use Rattle.compaction_model.specs.Versions.{versions_in, versions_from, last_left, kept_versions}
use Rattle.compaction_model.specs.Places.{changed_keys}
use Rattle.compaction_model.proofs.VersionProofs.{last_left-append, last_in}
use Rattle.compaction_model.proofs.ChangeProofs.{versions_in-append}
use Rattle.store_reads.specs.Places.{count_same, IsFirstFrom}
use Rattle.store_reads.specs.Told.{left_passes, told_left}
use Rattle.store_reads.proofs.SplitProofs.{StartsAt, Split, coming, coming_from, splits, front_leaves, first_place}

-- as many versions as changes of the key
pub counted : (r : ℕ) (k : List ℕ) (cs : List KeyChange) (old : Option Kv) → length (versions_in r k cs old) ≡ count_same k (changed_keys cs)
counted r k [] old = refl
counted r k (c ∷ cs) old = by_key (λ o. counted r k cs o) (same (changed_key c) k)
  where
    after : Option Kv
    after = after_change r k c old

    by_key : ((o : Option Kv) → length (versions_in r k cs o) ≡ count_same k (changed_keys cs)) → (b : Bool)
        → length (cond b (record { revision = r; left = after } ∷ versions_in r k cs after) (versions_in r k cs old))
        ≡ cond b (count_same k (changed_keys cs) + 1) (count_same k (changed_keys cs))
    by_key rest true = let e = rest after in omega (arith, e)
    by_key rest false = rest old

-- a version behind some others
pub at_seam : (us vs ws : List Version) (v : Version) (at : ℕ) → ws ≡ us ++ v ∷ vs → at ≡ length us → (slice_get ws at ≡ Some v) × (take at ws ≡ us) × (at < length ws)
at_seam us vs ws v at is here = (
  (λ i. slice_get (is i) (here i)) ∙ found us,
  (λ i. take (here i) (is i)) ∙ take-append_seam us (v ∷ vs),
  let long = length-append us (v ∷ vs) in let same : length ws ≡ length (us ++ v ∷ vs) = ap length is in omega (arith, long, same, here),
)
  where
    found : (us : List Version) → slice_get (us ++ v ∷ vs) (length us) ≡ Some v
    found [] = refl
    found (u ∷ us) = found us

-- the place of a change: so many changes of its revision stand before it
pub record IsChange (h : History) (r : ℕ) (made : List KeyChange) (x : KeyChange) (others : List KeyChange) : Type 0 where
  pub first : 2 ≤ r
  pub within : r - 2 < length h
  pub changes : get_or h (r - 2) [] ≡ made ++ x ∷ others

-- its key's record before it
abbrev pub old_of : History → ℕ → List KeyChange → List ℕ → Option Kv
old_of h r made k = after_changes r k made (record_now (take (r - 2) h) k)

version_there : (h : History) (r : ℕ) (made others : List KeyChange) (x : KeyChange) → IsChange h r made x others
    → (rest : List Version)
    × (coming h r (changed_key x)
    ≡ versions_in r (changed_key x) made (record_now (take (r - 2) h) (changed_key x))
    ++ record { revision = r; left = after_change r (changed_key x) x (old_of h r made (changed_key x)) } ∷ rest)
version_there h r made others x is =
    let k : List ℕ = changed_key x in
    let before : Option Kv = record_now (take (r - 2) h) k in
    let old : Option Kv = old_of h r made k in
    let after : Option Kv = after_change r k x old in
    let later : List Version = versions_in r k others after in
    let d : drop (r - 2) h ≡ (made ++ x ∷ others) ∷ drop (r - 2 + 1) h =
    drop_more h (r - 2) [] is.within ∙ ap (λ (cs : List KeyChange). cs ∷ drop (r - 2 + 1) h) is.changes in
    let rest : List Version = versions_from (r + 1) k (drop (r - 2 + 1) h) (after_changes r k (made ++ x ∷ others) before) in (
      later ++ rest,
      ap (λ (g : History). versions_from r k g before) d
          ∙ ap (λ (vs : List Version). vs ++ rest)
          (versions_in-append r k made (x ∷ others) before
          ∙ ap (λ (b : Bool). versions_in r k made before ++ cond b (record { revision = r; left = after } ∷ later) (versions_in r k others old)) (same-itself k))
          ∙ append_assoc (versions_in r k made before) (record { revision = r; left = after } ∷ later) rest,
    )

-- what is told of the record before a change

prev_at : (c : ℕ) (ask : WatchAsk) (h : History) (r : ℕ) (k : List ℕ) (made : List KeyChange) (front vs : List Version) → 2 ≤ r → c ≤ r
    → (c < r → last_left front None ≡ record_now (take (r - 2) h) k) → (r ≡ c → front ≡ []) → length (take (r - 2) h) ≡ r - 2
    → vs ≡ front ++ versions_in r k made (record_now (take (r - 2) h) k)
    → told_prev c ask.prev_kv r (last_left vs None) ≡ told_prev c ask.prev_kv r (old_of h r made k)
prev_at c ask h r k made front vs first le leaves bare long is = by_asked ask.prev_kv
  where
    before : Option Kv
    before = record_now (take (r - 2) h) k

    news : List Version
    news = versions_in r k made before

    hidden : (o : Option Kv) → before ≡ o → r ≡ c → visible_prev c r o ≡ None
    hidden None e same = refl
    hidden (Some kv) e same =
        let past : kv.modified ≤ length (take (r - 2) h) + 1 = (records_are_made (take (r - 2) h) k kv e).past in
        let not_later : nat_lt c r ≡ false = (let f : r ≡ c = same in grind (arith, nat_tests)) in
        let not_there : nat_le c kv.modified ≡ false = (let f : r ≡ c = same in let g : length (take (r - 2) h) ≡ r - 2 = long in grind (arith, nat_tests, past, first)) in
        ap (λ (b : Bool). cond b (Some kv) None) (or_none (nat_lt c r) (nat_le c kv.modified) not_later not_there)

    at_compaction : r ≡ c → (ws : List Version) → visible_prev c r (last_left ws None) ≡ visible_prev c r (last_left ws before)
    at_compaction e [] = sym (hidden before refl e)
    at_compaction e (w ∷ ws) = refl

    made_so : last_left vs None ≡ last_left news (last_left front None)
    made_so = ap (λ (ws : List Version). last_left ws None) is ∙ last_left-append front news None

    seen : visible_prev c r (last_left vs None) ≡ visible_prev c r (old_of h r made k)
    seen = by_order (nat_lt c r) refl
      where
        by_order : (b : Bool) → nat_lt c r ≡ b → visible_prev c r (last_left vs None) ≡ visible_prev c r (old_of h r made k)
        by_order true e =
            let lt : c < r = grind (arith, nat_tests) in
            ap (visible_prev c r) (made_so ∙ ap (last_left news) (leaves lt) ∙ last_in r k made before)
        by_order false e =
            let same : r ≡ c = grind (arith, nat_tests, le) in
            ap (visible_prev c r) (made_so ∙ ap (λ (us : List Version). last_left news (last_left us None)) (bare same))
            ∙ at_compaction same news ∙ ap (visible_prev c r) (last_in r k made before)

    by_asked : (b : Bool) → told_prev c b r (last_left vs None) ≡ told_prev c b r (old_of h r made k)
    by_asked true = seen
    by_asked false = refl

-- what is told of the change itself

put_made : (old : Option Kv) (k v : List ℕ) (lease r : ℕ) → (after_put old k v lease r).modified ≡ r
put_made None k v lease r = refl
put_made (Some kv) k v lease r = refl

told_change : (c : ℕ) (ask : WatchAsk) (r : ℕ) (x : KeyChange) (old : Option Kv) (before : Option Kv)
    → told_prev c ask.prev_kv r before ≡ told_prev c ask.prev_kv r old
    → told_left c ask r (changed_key x) before (after_change r (changed_key x) x old)
    ≡ cond (kind_passes ask x) (told_event c ask (event_of r old x) ∷ []) []
told_change c ask r (Put key value lease) old before e =
    ap (λ (b : Bool). told_left c ask r key before (cond b (Some (after_put old key value lease r)) old)) (same-itself key)
    ∙ ap (λ (o : Option Kv). cond (not ask.no_put) (record { change = event.Put (after_put old key value lease r); prev = o } ∷ []) [])
    (e ∙ ap (λ n. told_prev c ask.prev_kv n old) (sym (put_made old key value lease r)))
told_change c ask r (Delete key) old before e =
    ap (λ (b : Bool). told_left c ask r key before (cond b None old)) (same-itself key)
    ∙ ap (λ (o : Option Kv). cond (not ask.no_delete) (record { change = event.Delete key r; prev = o } ∷ []) []) e

-- the change as the definitions tell it

revision_next : (h : History) (r : ℕ) → 2 ≤ r → length (take (r - 2) h) ≡ r - 2 → newest (take (r - 2) h) + 1 ≡ r
revision_next h r first long = omega (arith, first, long)

old_is : (h : History) (r : ℕ) (made : List KeyChange) (k : List ℕ) → 2 ≤ r → length (take (r - 2) h) ≡ r - 2
    → record_now (with_revision (take (r - 2) h) made) k ≡ old_of h r made k
old_is h r made k first long =
    let next : length (take (r - 2) h) + 2 ≡ r = omega (arith, first, long) in
    record_now-with_revision (take (r - 2) h) k made ∙ ap (λ n. after_changes n k made (record_now (take (r - 2) h) k)) next

told_so : (c : ℕ) (ask : WatchAsk) (h : History) (r : ℕ) (made : List KeyChange) (x : KeyChange) (before : Option Kv) → 2 ≤ r → length (take (r - 2) h) ≡ r - 2
    → told_prev c ask.prev_kv r before ≡ told_prev c ask.prev_kv r (old_of h r made (changed_key x))
    → told_of c ask (take (r - 2) h) made x
    ≡ cond (contains ask.range (changed_key x)) (told_left c ask r (changed_key x) before (after_change r (changed_key x) x (old_of h r made (changed_key x)))) []
told_so c ask h r made x before first long e =
    (λ i. cond (kind_passes ask x && contains ask.range (changed_key x)) (told_event c ask (event_of (revision_next h r first long i) (old_is h r made (changed_key x) first long i) x) ∷ []) [])
    ∙ split (kind_passes ask x) (contains ask.range (changed_key x)) (told_event c ask (event_of r (old_of h r made (changed_key x)) x))
    ∙ ap (λ (es : List Event). cond (contains ask.range (changed_key x)) es []) (sym (told_change c ask r x (old_of h r made (changed_key x)) before e))
  where
    split : (a b : Bool) (v : Event) → cond (a && b) (v ∷ []) [] ≡ cond b (cond a (v ∷ []) []) []
    split true true v = refl
    split true false v = refl
    split false true v = refl
    split false false v = refl

-- how a watch goes on
pub next_told : (c : ℕ) (ask : WatchAsk) (h : History) (r : ℕ) (made : List KeyChange) (x : KeyChange) (n : ℕ) → 2 ≤ r → length (take (r - 2) h) ≡ r - 2
    → next_after n (told_of c ask (take (r - 2) h) made x) ≡ cond (concerns ask x) (r + 1) n
next_told c ask h r made x n first long = by_test (concerns ask x)
  where
    by_test : (b : Bool) → next_after n (cond b (told_event c ask (event_of (newest (take (r - 2) h) + 1) (record_now (with_revision (take (r - 2) h) made) (changed_key x)) x) ∷ []) [])
        ≡ cond b (r + 1) n
    by_test true =
        ap (λ m. m + 1)
        (told-revision c ask (newest (take (r - 2) h) + 1) (record_now (with_revision (take (r - 2) h) made) (changed_key x)) x ∙ revision_next h r first long)
    by_test false = refl

-- the version at its place among the kept ones tells it
pub record Tells (c : ℕ) (ask : WatchAsk) (h : History) (r : ℕ) (made : List KeyChange) (x : KeyChange) (vs : List Version) (at : ℕ) : Type 0 where
  pub version : Version
  pub there : slice_get vs at ≡ Some version
  pub within : at < length vs
  pub told : told_of c ask (take (r - 2) h) made x
      ≡ cond (contains ask.range (changed_key x)) (told_left c ask r (changed_key x) (last_left (take at vs) None) version.left) []
  pub passes : left_passes ask version.left ≡ kind_passes ask x
  pub revision : version.revision ≡ r

kind_left : (ask : WatchAsk) (r : ℕ) (x : KeyChange) (old : Option Kv) → left_passes ask (after_change r (changed_key x) x old) ≡ kind_passes ask x
kind_left ask r (Put key value lease) old = ap (λ (b : Bool). left_passes ask (cond b (Some (after_put old key value lease r)) old)) (same-itself key)
kind_left ask r (Delete key) old = ap (λ (b : Bool). left_passes ask (cond b None old)) (same-itself key)

starts_at : (r : ℕ) (k : List ℕ) (made : List KeyChange) (old : Option Kv) (v : Version) (rest : List Version) → v.revision ≡ r → StartsAt r (versions_in r k made old ++ v ∷ rest)
starts_at r k [] old v rest e = e
starts_at r k (d ∷ made) old v rest e = by_key (same (changed_key d) k) (λ o. starts_at r k made o v rest e)
  where
    after : Option Kv
    after = after_change r k d old

    by_key : (b : Bool) → ((o : Option Kv) → StartsAt r (versions_in r k made o ++ v ∷ rest))
        → StartsAt r (cond b (record { revision = r; left = after } ∷ versions_in r k made after) (versions_in r k made old) ++ v ∷ rest)
    by_key true next = refl
    by_key false next = next old

kept_tell : (c : ℕ) (ask : WatchAsk) (h : History) (r : ℕ) (made others : List KeyChange) (x : KeyChange) (at place : ℕ) → IsChange h r made x others → c ≤ r
    → IsFirstFrom r (kept_versions h c (changed_key x)) place → at ≡ place + count_same (changed_key x) (changed_keys made)
    → Tells c ask h r made x (kept_versions h c (changed_key x)) at
kept_tell c ask h r made others x at place is le begins here =
    let k : List ℕ = changed_key x in
    let first : 2 ≤ r = is.first in
    let lt : r - 2 < length h = is.within in
    let near : r - 2 ≤ length h = omega (arith, lt) in
    let long : length (take (r - 2) h) ≡ r - 2 = length-take-le (r - 2) h near in
    let before : Option Kv = record_now (take (r - 2) h) k in
    let news : List Version = versions_in r k made before in
    let version : Version = record { revision = r; left = after_change r k x (old_of h r made k) } in
    let s : Split c r (kept_versions h c k) (coming h r k) = splits h c r k first le near in
    let there = version_there h r made others x is in
    let whole : kept_versions h c k ≡ (s.front ++ news) ++ version ∷ there.0 =
    s.is ∙ ap (λ (ws : List Version). s.front ++ ws) there.1 ∙ sym (append_assoc s.front news (version ∷ there.0)) in
    let begun : place ≡ length s.front = first_place c r (kept_versions h c k) (coming h r k) place s (coming_from h r k) begins in
    let joined : length (s.front ++ news) ≡ length s.front + length news = length-append s.front news in
    let many : length news ≡ count_same k (changed_keys made) = counted r k made before in
    let at_it : at ≡ length (s.front ++ news) = omega (arith, here, begun, joined, many) in
    let seam = at_seam (s.front ++ news) there.0 (kept_versions h c k) version at whole at_it in
    let bare : r ≡ c → s.front ≡ [] =
    λ e. s.bare e (subst (λ n. StartsAt n (coming h r k)) e (subst (StartsAt r) (sym there.1) (starts_at r k made before version there.0 refl))) in
    record {
      version = version;
      there = seam.0;
      within = seam.2;
      told = told_so c ask h r made x (last_left (take at (kept_versions h c k)) None) first long
          (prev_at c ask h r k made s.front (take at (kept_versions h c k)) first le (λ later. front_leaves h c r k first later s) bare long seam.1);
      passes = kind_left ask r x (old_of h r made k);
      revision = refl;
    }

pub tells : (c : ℕ) (ask : WatchAsk) (h : History) (r : ℕ) (made others : List KeyChange) (x : KeyChange) (vs : List Version) (at place : ℕ) → IsChange h r made x others → c ≤ r
    → vs ≡ kept_versions h c (changed_key x) → IsFirstFrom r vs place → at ≡ place + count_same (changed_key x) (changed_keys made) → Tells c ask h r made x vs at
tells c ask h r made others x vs at place is le kept begins here =
    let Claim : List Version → Type 0 = λ us. IsFirstFrom r us place → Tells c ask h r made x us at in
    subst Claim (sym kept) (λ b. kept_tell c ask h r made others x at place is le b here) begins
