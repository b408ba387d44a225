-- The events of two histories of which the same is kept: revision by revision, each with the records before them that can be seen.
use Rattle.std.proofs.Common.{◌≡◌, ℕ, suc, zero, ◌+◌, ◌-◌, ◌≤◌, ◌<◌, nat_lt, nat_le, ◌||◌, Bool, true, false, cond, List, [], ◌∷◌, ◌++◌, Option, None, Some, length, take, drop, map, refl, sym, ◌∙◌, ap, subst, arith, append_assoc, length-append, length-take-le, lt-ltb, leb-true, leb-false, take-add, drop_of_length-le}
use Rattle.std.proofs.lemmas.List.{drop-drop, drop-map}
use Rattle.std.proofs.lemmas.Bool.Decides.{nat_tests}
use Rattle.etcd_types.specs.declared.record.Kv.{Kv}
use Rattle.etcd_types.specs.declared.key_range.KeyRange.{KeyRange}
use Rattle.etcd_types.specs.declared.watch.Event.{Event}
use Rattle.etcd_types.specs.Ranges.{contains}
use Rattle.etcd_types.proofs.Bools.{or_none}
use Rattle.etcd_types.proofs.KeyOrder.{same-itself}
use Rattle.store_model.specs.declared.history.KeyChange.{KeyChange}
use Rattle.store_model.specs.History.{History, newest, with_revision, changed_key}
use Rattle.store_model.specs.Records.{after_change, after_changes, after_revisions, record_now, record_at}
use Rattle.store_model.specs.Events.{event_of, events_of_changes, events_after, events, visible_prev}
use Rattle.store_model.proofs.HistoryLemmas.{record_now-with_revision}
use Rattle.store_model.proofs.RunLemmas.{after_changes-append}
use Rattle.store_laws.proofs.Lives.Histories.{records_are_made}
use Rattle.compaction_model.specs.Versions.{versions_from, from_on}
use Rattle.compaction_model.specs.Places.{changed_keys}
use Rattle.compaction_model.proofs.LaterProofs.{versions_from_revision, kept_have_later}
use Rattle.compaction_laws.specs.Alike.{KeepSame}
use Rattle.compaction_laws.specs.Laws.{EventsByKept}
use Rattle.compaction_laws.proofs.Reading.{kept_agree}
use Rattle.compaction_laws.proofs.Telling.{IsToldAs, AreToldAs, told_same, told-append, told_by, Coming, come, come_all}

-- the record of a key as a change of a revision finds it
abbrev now : History → List KeyChange → List ℕ → Option Kv
now h made k = record_now (with_revision h made) k

now-more : (r : ℕ) (h : History) (made : List KeyChange) (x : KeyChange) (k : List ℕ) → newest h + 1 ≡ r → now h (made ++ x ∷ []) k ≡ after_change r k x (now h made k)
now-more r h made x k e =
    let f : length h + 2 ≡ r = let g : length h + 1 + 1 ≡ r = e in omega (arith, g) in
    record_now-with_revision h k (made ++ x ∷ [])
    ∙ after_changes-append (length h + 2) k made (x ∷ []) (record_now h k)
    ∙ ap (after_change (length h + 2) k x) (sym (record_now-with_revision h k made))
    ∙ ap (λ n. after_change n k x (now h made k)) f

-- in one revision

told_either : (c : ℕ) (b t : Bool) (x y : Event) (xs ys : List Event) → b ≡ t → IsToldAs c x y → AreToldAs c xs ys → AreToldAs c (cond b (x ∷ xs) xs) (cond t (y ∷ ys) ys)
told_either c true true x y xs ys e a rest = (a, rest)
told_either c false false x y xs ys e a rest = rest
told_either c true false x y xs ys e a rest = absurd (cc)
told_either c false true x y xs ys e a rest = absurd (cc)

told_changes : (c r : ℕ) (range : KeyRange) (h g rest others : History) → newest h + 1 ≡ r → newest g + 1 ≡ r
    → (cs ds made done : List KeyChange) → changed_keys cs ≡ changed_keys ds
    → ((k : List ℕ) → Coming c r k cs ds rest others (now h made k) (now g done k))
    → AreToldAs c (events_of_changes range h made cs) (events_of_changes range g done ds)
told_changes c r range h g rest others eh eg [] [] made done e a = tt
told_changes c r range h g rest others eh eg [] (d ∷ ds) made done e a = absurd (cc)
told_changes c r range h g rest others eh eg (x ∷ cs) [] made done e a = absurd (cc)
told_changes c r range h g rest others eh eg (x ∷ cs) (d ∷ ds) made done e a =
    let first : changed_key x ≡ changed_key d = cc in
    let more : changed_keys cs ≡ changed_keys ds = cc in
    told_either c (contains range (changed_key x)) (contains range (changed_key d)) _ _ _ _
    (ap (contains range) first) (told_first first)
    (told_changes c r range h g rest others eh eg cs ds (made ++ x ∷ []) (done ++ d ∷ []) more (λ k. next first k))
  where
    next : changed_key x ≡ changed_key d → (k : List ℕ) → Coming c r k cs ds rest others (now h (made ++ x ∷ []) k) (now g (done ++ d ∷ []) k)
    next first k =
        let Knows : Option Kv → Option Kv → Type 0 = λ old before. Coming c r k cs ds rest others old before in
        subst (λ (o : Option Kv). Knows o (now g (done ++ d ∷ []) k)) (sym (now-more r h made x k eh))
        (subst (λ (o : Option Kv). Knows (after_change r k x (now h made k)) o) (sym (now-more r g done d k eg))
        (come c r k x d cs ds rest others (now h made k) (now g done k) first (a k)).coming)

    told_first : changed_key x ≡ changed_key d
        → IsToldAs c (event_of (newest h + 1) (now h made (changed_key x)) x) (event_of (newest g + 1) (now g done (changed_key d)) d)
    told_first first =
        let k : List ℕ = changed_key x in
        let came = come c r k x d cs ds rest others (now h made k) (now g done k) first (a k) in
        let told : IsToldAs c (event_of r (now h made k) x) (event_of r (now g done k) d) =
        told_by c r k x d (now h made k) (now g done k) refl (sym first) (came.left (same-itself k)) (a k).seen in
        let Told : Event → Event → Type 0 = λ v w. IsToldAs c v w in
        subst (λ (v : Event). Told v (event_of (newest g + 1) (now g done (changed_key d)) d)) (ap (λ n. event_of n (now h made k) x) (sym eh))
        (subst (λ (w : Event). Told (event_of r (now h made k) x) w) (λ i. event_of (sym eg i) (now g done (first i)) d) told)

-- revision by revision

after_revisions-append : (revision : ℕ) (k : List ℕ) (h g : History) (old : Option Kv)
    → after_revisions revision k (h ++ g) old ≡ after_revisions (length h + revision) k g (after_revisions revision k h old)
after_revisions-append revision k [] g old = let e : 0 + revision ≡ revision = omega arith in rw e refl
after_revisions-append revision k (cs ∷ h) g old =
    let e : suc (length h) + revision ≡ length h + (revision + 1) = omega arith in
    rw e (after_revisions-append (revision + 1) k h g (after_changes revision k cs old))

visible_later : (c n : ℕ) (old : Option Kv) → c < n → visible_prev c n old ≡ old
visible_later c n None l = refl
visible_later c n (Some kv) l = ap (λ (b : Bool). cond (b || nat_le c kv.modified) (Some kv) None) (lt-ltb c n l)

record Behind (c r : ℕ) (h g rest others : History) : Type 0 where
  first : newest h + 1 ≡ r
  second : newest g + 1 ≡ r
  kept : c ≤ r
  keys : map changed_keys rest ≡ map changed_keys others
  versions : (k : List ℕ) → versions_from r k rest (record_now h k) ≡ versions_from r k others (record_now g k)
  seen : (k : List ℕ) → visible_prev c r (record_now h k) ≡ visible_prev c r (record_now g k)
  agree : (m : ℕ) (k : List ℕ) → record_now (h ++ take (suc m) rest) k ≡ record_now (g ++ take (suc m) others) k

one_more : (r : ℕ) (h : History) (cs : List KeyChange) → newest h + 1 ≡ r → newest (h ++ cs ∷ []) + 1 ≡ r + 1
one_more r h cs e =
    let long : length (h ++ cs ∷ []) ≡ length h + 1 = length-append h (cs ∷ []) in
    let f : length h + 1 + 1 ≡ r = e in
    omega (arith, long, f)

now-snoc : (r : ℕ) (h : History) (cs : List KeyChange) (k : List ℕ) → newest h + 1 ≡ r → record_now (h ++ cs ∷ []) k ≡ after_changes r k cs (record_now h k)
now-snoc r h cs k e =
    let f : length h + 2 ≡ r = let g : length h + 1 + 1 ≡ r = e in omega (arith, g) in
    after_revisions-append 2 k h (cs ∷ []) None ∙ ap (λ n. after_changes n k cs (record_now h k)) f

step : (c r : ℕ) (h g rest others : History) (cs ds : List KeyChange) → Behind c r h g (cs ∷ rest) (ds ∷ others)
    → Behind c (r + 1) (h ++ cs ∷ []) (g ++ ds ∷ []) rest others
step c r h g rest others cs ds b =
    let le : c ≤ r = b.kept in
    let lt : c < r + 1 = omega (arith, le) in
    let same_keys = b.keys in
    let first : changed_keys cs ≡ changed_keys ds = cc in
    let more : map changed_keys rest ≡ map changed_keys others = cc in
    record {
      first = one_more r h cs b.first;
      second = one_more r g ds b.second;
      kept = omega (arith, le);
      keys = more;
      versions = λ k.
          ap (versions_from (r + 1) k rest) (now-snoc r h cs k b.first)
          ∙ come_all r k cs ds rest others (record_now h k) (record_now g k) first (b.versions k)
          ∙ ap (versions_from (r + 1) k others) (sym (now-snoc r g ds k b.second));
      seen = λ k.
          visible_later c (r + 1) (record_now (h ++ cs ∷ []) k) lt ∙ b.agree zero k ∙ sym (visible_later c (r + 1) (record_now (g ++ ds ∷ []) k) lt);
      agree = λ m k.
          ap (λ (l : History). record_now l k) (append_assoc h (cs ∷ []) (take (suc m) rest))
          ∙ b.agree (suc m) k
          ∙ ap (λ (l : History). record_now l k) (sym (append_assoc g (ds ∷ []) (take (suc m) others)));
    }

told_revisions : (c r : ℕ) (range : KeyRange) (h g rest others : History) → Behind c r h g rest others
    → AreToldAs c (events_after range h rest) (events_after range g others)
told_revisions c r range h g [] [] b = tt
told_revisions c r range h g [] (ds ∷ others) b = let e = b.keys in absurd (cc)
told_revisions c r range h g (cs ∷ rest) [] b = let e = b.keys in absurd (cc)
told_revisions c r range h g (cs ∷ rest) (ds ∷ others) b =
    told-append c _ _ _ _
    (told_changes c r range h g rest others b.first b.second cs ds [] [] (first b.keys) (λ k. record { versions = b.versions k; seen = b.seen k }))
    (told_revisions c (r + 1) range (h ++ cs ∷ []) (g ++ ds ∷ []) rest others (step c r h g rest others cs ds b))
  where
    first : changed_keys cs ∷ map changed_keys rest ≡ changed_keys ds ∷ map changed_keys others → changed_keys cs ≡ changed_keys ds
    first e = cc

-- from a revision on

hidden : (c r : ℕ) (old : Option Kv) → c ≡ r → ((kv : Kv) → old ≡ Some kv → kv.modified < c) → visible_prev c r old ≡ None
hidden c r None e f = refl
hidden c r (Some kv) e f = ap (λ (b : Bool). cond b (Some kv) None) (no c r kv.modified e (f kv refl))
  where
    no : (c r m : ℕ) → c ≡ r → m < c → nat_lt c r || nat_le c m ≡ false
    no c r m e l = or_none (nat_lt c r) (nat_le c m) (not_lt c r e) (not_le c m l)
      where
        not_lt : (c r : ℕ) → c ≡ r → nat_lt c r ≡ false
        not_lt c r e = grind (arith, nat_tests)

        not_le : (c m : ℕ) → m < c → nat_le c m ≡ false
        not_le c m l = grind (arith, nat_tests)

made_below : (n : ℕ) (h : History) (k : List ℕ) → n ≤ length h → (kv : Kv) → record_now (take n h) k ≡ Some kv → kv.modified < n + 2
made_below n h k le kv e =
    let made : kv.modified ≤ length (take n h) + 1 = (records_are_made (take n h) k kv e).past in
    let long : length (take n h) ≡ n = length-take-le n h le in
    omega (arith, made, long)

seen_same : (c n : ℕ) (h g : History) → KeepSame c h g → n ≤ length h → n ≤ length g → c ≤ n + 2 → (k : List ℕ)
    → visible_prev c (n + 2) (record_now (take n h) k) ≡ visible_prev c (n + 2) (record_now (take n g) k)
seen_same c n h g a lh lg le k = by_edge (nat_le c (n + 1)) refl
  where
    by_edge : (b : Bool) → nat_le c (n + 1) ≡ b → visible_prev c (n + 2) (record_now (take n h) k) ≡ visible_prev c (n + 2) (record_now (take n g) k)
    by_edge true e =
        let f : c ≤ n + 1 = leb-true c (n + 1) e in
        let back : n + 1 - 1 ≡ n = omega arith in
        ap (visible_prev c (n + 2))
        (ap (λ m. record_now (take m h) k) (sym back) ∙ (kept_agree c h g a).records (n + 1) k f ∙ ap (λ m. record_now (take m g) k) back)
    by_edge false e =
        let f : n + 1 < c = leb-false c (n + 1) e in
        let edge : c ≡ n + 2 = omega (arith, f, le) in
        hidden c (n + 2) (record_now (take n h) k) edge (λ kv q. let m = made_below n h k lh kv q in omega (arith, m, edge))
        ∙ sym (hidden c (n + 2) (record_now (take n g) k) edge (λ kv q. let m = made_below n g k lg kv q in omega (arith, m, edge)))

behind : (c n : ℕ) (h g : History) → KeepSame c h g → n ≤ length h → n ≤ length g → c ≤ n + 2 → Behind c (n + 2) (take n h) (take n g) (drop n h) (drop n g)
behind c n h g a lh lg le = record {
  first = at h lh;
  second = at g lg;
  kept = le;
  keys = sym (drop-map changed_keys n h) ∙ keys_from h ∙ ap (drop (n - (c - 2))) a.places ∙ sym (keys_from g) ∙ drop-map changed_keys n g;
  versions = λ k.
      sym (versions_from_revision h n k lh) ∙ sym (kept_have_later h c (n + 2) k le)
      ∙ ap (from_on (n + 2)) (a.versions k)
      ∙ kept_have_later g c (n + 2) k le ∙ versions_from_revision g n k lg;
  seen = λ k. seen_same c n h g a lh lg le k;
  agree = λ m k.
      let up : c ≤ n + suc m + 1 = omega (arith, le) in
      whole h m k ∙ (kept_agree c h g a).records (n + suc m + 1) k up ∙ sym (whole g m k);
}
  where
    at : (l : History) → n ≤ length l → newest (take n l) + 1 ≡ n + 2
    at l e = let long : length (take n l) ≡ n = length-take-le n l e in let two : length (take n l) + 1 + 1 ≡ n + 2 = omega (arith, long) in two

    keys_from : (l : History) → drop n (map changed_keys l) ≡ drop (n - (c - 2)) (drop (c - 2) (map changed_keys l))
    keys_from l =
        let e : c - 2 + (n - (c - 2)) ≡ n = omega (arith, le) in
        ap (λ m. drop m (map changed_keys l)) (sym e) ∙ sym (drop-drop (n - (c - 2)) (c - 2) (map changed_keys l))

    whole : (l : History) (m : ℕ) (k : List ℕ) → record_now (take n l ++ take (suc m) (drop n l)) k ≡ record_at l (n + suc m + 1) k
    whole l m k =
        let e : n + suc m + 1 - 1 ≡ n + suc m = omega arith in
        ap (λ (t : History). record_now t k) (sym (take-add n (suc m) l)) ∙ ap (λ j. record_now (take j l) k) (sym e)

told_events : (c from : ℕ) (range : KeyRange) (h g : History) → KeepSame c h g → c ≤ from → AreToldAs c (events h range from) (events g range from)
told_events c from range h g a le = by_length (nat_le (from - 2) (length h)) refl
  where
    as_long : length h ≡ length g
    as_long = (kept_agree c h g a).as_long

    by_length : (b : Bool) → nat_le (from - 2) (length h) ≡ b → AreToldAs c (events h range from) (events g range from)
    by_length true e =
        let lh : from - 2 ≤ length h = leb-true (from - 2) (length h) e in
        let long = as_long in
        let lg : from - 2 ≤ length g = omega (arith, lh, long) in
        let up : c ≤ from - 2 + 2 = omega (arith, le) in
        told_revisions c (from - 2 + 2) range (take (from - 2) h) (take (from - 2) g) (drop (from - 2) h) (drop (from - 2) g) (behind c (from - 2) h g a lh lg up)
    by_length false e =
        let far : length h < from - 2 = leb-false (from - 2) (length h) e in
        let long = as_long in
        let past : length h ≤ from - 2 = omega (arith, far) in
        let beyond : length g ≤ from - 2 = omega (arith, far, long) in
        let Told : History → History → Type 0 = λ rest others. AreToldAs c (events_after range (take (from - 2) h) rest) (events_after range (take (from - 2) g) others) in
        subst (λ (rest : History). Told rest (drop (from - 2) g)) (sym (drop_of_length-le h past))
        (subst (λ (others : History). Told [] others) (sym (drop_of_length-le g beyond)) tt)

pub events_by_kept : EventsByKept
events_by_kept c h g a ask from le = told_same c ask (events h ask.range from) (events g ask.range from) (told_events c from ask.range h g a le)
