-- The numbers by mark, where a row comes, goes or is changed.
use Rattle.std.proofs.Common.{◌≡◌, ℕ, zero, suc, ◌<◌, Bool, true, false, cond, ◌&&◌, IsTrue, List, [], ◌∷◌, ◌++◌, map, take, drop, length, get_or, set, Option, None, Some, refl, sym, ◌∙◌, ap, subst, arith}
use lib.Dec.{T}
use Rattle.std.specs.Ordering.{nat_cmp, is_lt}
use Rattle.std.specs.declared.cmp.Ordering.{Ordering}
use Rattle.std.specs.Option.{option_map}
use Rattle.std.specs.FinMap.{is_sorted}
use Rattle.std.specs.FinMap.Entries.{below_all}
use Rattle.std.specs.List.{remove}
use Rattle.std.specs.declared.cmp.Ordering.TheVariants.{Less, Equal, Greater}
use Rattle.std.proofs.lemmas.Bool.Decides.{nat_tests}
use Rattle.std.proofs.lemmas.List.{length-append, length-map, length-take, length-drop}
use Rattle.numbered_rows.specs.Numbered.{Numbered, same_number, at, with_at, is_in_order}
use Rattle.numbered_rows.specs.Places.{IsPlace}
use Rattle.numbered_rows.proofs.NumberedLaws.{to_T, at-with_at}
use Rattle.numbered_rows.proofs.Places.{first_T, rest_T, found-place, changed-place, without-place, in_order-changed}
use Rattle.numbered_rows.proofs.Rows.{alike, one_number, each_row}
use Rattle.etcd_types.specs.Keys.{same}
use Rattle.etcd_types.proofs.KeyOrder.{same-equal, same-itself}
use Rattle.proxy_model.specs.Keyed.{Keyed}
use Rattle.proxy_model.specs.Keyed as keyed
use Rattle.proxy_model.proofs.KeyedLaws as keyed_laws
use Rattle.read_model.specs.declared.asked.Asked.{Asked}
use Rattle.known_asks.specs.Indexed.{Fits}
use Rattle.ask_tables.specs.KeyMarks.{by_key, by_wait, ticket_mark}
use Rattle.ask_tables.specs.Marks.{mark_of}
use Rattle.ask_tables.specs.RowMarks.{row_mark, by_group, by_time, marks_of, put_at, taken_at, moved}
use Rattle.ask_tables.specs.Marked.{Placed, Marked, HasRow, IsFree}
use Rattle.ask_tables.specs.declared.tables.Tables.{Tables}
use Rattle.ask_tables.specs.declared.row_marks.RowMarks.{RowMarks}
use Rattle.known_asks.proofs.Tickets.{at_end}

pub is_false : (b : Bool) → (b ≡ true → ⊥) → b ≡ false
is_false true h = absurd (h refl)
is_false false h = refl

pub true_false : (b : Bool) → b ≡ true → b ≡ false → ⊥
true_false b t f = cc

apart : (m n : ℕ) → same_number m n ≡ false → m ≡ n → ⊥
apart m n s e = true_false (same_number m n) (subst (λ (x : ℕ). same_number m x ≡ true) e (alike m)) s

abbrev third : List ℕ → ℕ
third [] = 0
third (a ∷ []) = 0
third (a ∷ b ∷ []) = 0
third (a ∷ b ∷ c ∷ cs) = c

ticket_of : (f : Asked → ℕ × ℕ) (a b : Asked) → same (ticket_mark f a) (ticket_mark f b) ≡ true → a.ticket ≡ b.ticket
ticket_of f a b e = ap third (same-equal (ticket_mark f a) (ticket_mark f b) e)

-- One mark goes, and one comes.

abbrev is_it : Option (List ℕ) → List ℕ → Bool
is_it None k = false
is_it (Some j) k = same j k

of_it : (o : Option (List ℕ)) (k : List ℕ) → is_it o k ≡ true → o ≡ Some k
of_it None k e = absurd (cc)
of_it (Some j) k e = ap Some (same-equal j k e)

its : (o : Option (List ℕ)) (k : List ℕ) → o ≡ Some k → is_it o k ≡ true
its o k e = ap (λ x. is_it x k) e ∙ same-itself k

abbrev pub gone : Option (List ℕ) → Keyed ℕ → Keyed ℕ
gone None ms = ms
gone (Some k) ms = keyed.with_at ms k None

abbrev pub come : Option (List ℕ) → ℕ → Keyed ℕ → Keyed ℕ
come None n ms = ms
come (Some k) n ms = keyed.with_at ms k (Some n)

at-gone : (o : Option (List ℕ)) (ms : Keyed ℕ) (k : List ℕ) → keyed.at (gone o ms) k ≡ cond (is_it o k) None (keyed.at ms k)
at-gone None ms k = refl
at-gone (Some j) ms k = keyed_laws.at-with_at ms j k None

at-come : (o : Option (List ℕ)) (n : ℕ) (ms : Keyed ℕ) (k : List ℕ) → keyed.at (come o n ms) k ≡ cond (is_it o k) (Some n) (keyed.at ms k)
at-come None n ms k = refl
at-come (Some j) n ms k = keyed_laws.at-with_at ms j k (Some n)

still : {A : Type 0} (b : Bool) (o : Option A) (a : A) → cond b None o ≡ Some a → (b ≡ false) × (o ≡ Some a)
still true o a e = absurd (cc)
still false o a e = (refl, e)

-- no other row has the mark that this one has or would have under the number
abbrev pub IsApart : (ℕ → Asked → List ℕ) → Numbered Asked → ℕ → Option Asked → Type 0
IsApart g rows m o = (n : ℕ) (a x : Asked) → at rows n ≡ Some a → o ≡ Some x → same (g m x) (g n a) ≡ true → m ≡ n

pub placed-moved : (g : ℕ → Asked → List ℕ) (rows : Numbered Asked) (marks : Keyed ℕ) (m : ℕ) (old new : Option Asked) → Placed g rows marks → at rows m ≡ old → IsApart g rows m old → IsApart g rows m new → Placed g (with_at rows m new) (come (option_map (g m) new) m (gone (option_map (g m) old) marks))
placed-moved g rows marks m old new h was own lone = record {
  found = λ n a e. there (g n a) ∙ found n a (same_number m n) refl (sym (here n) ∙ e);
  kept = λ k n e. ap (λ o. option_map (g n) o) (here n) ∙ kept k n (is_it new_mark k) refl (sym (there k) ∙ e);
}
  where
    old_mark : Option (List ℕ)
    old_mark = option_map (g m) old

    new_mark : Option (List ℕ)
    new_mark = option_map (g m) new

    here : (n : ℕ) → at (with_at rows m new) n ≡ cond (same_number m n) new (at rows n)
    here n = at-with_at rows m n new

    there : (k : List ℕ) → keyed.at (come (option_map (g m) new) m (gone (option_map (g m) old) marks)) k ≡ cond (is_it (option_map (g m) new) k) (Some m) (cond (is_it (option_map (g m) old) k) None (keyed.at marks k))
    there k =
        at-come (option_map (g m) new) m (gone (option_map (g m) old) marks) k ∙
        ap (λ o. cond (is_it (option_map (g m) new) k) (Some m) o) (at-gone (option_map (g m) old) marks k)

    not_its : (n : ℕ) (a : Asked) → same_number m n ≡ false → at rows n ≡ Some a → (p : Option Asked) → IsApart g rows m p → (o : Option Asked) → p ≡ o → is_it (option_map (g m) o) (g n a) ≡ false
    not_its n a s e p l None f = refl
    not_its n a s e p l (Some x) f = is_false (same (g m x) (g n a)) (λ t. apart m n s (l n a x e f t))

    found : (n : ℕ) (a : Asked) (b : Bool) → same_number m n ≡ b → cond b new (at rows n) ≡ Some a → cond (is_it (option_map (g m) new) (g n a)) (Some m) (cond (is_it (option_map (g m) old) (g n a)) None (keyed.at marks (g n a))) ≡ Some n
    found n a true s e =
        let one : m ≡ n = one_number m n s in
        let mark : option_map (g m) new ≡ Some (g n a) = ap (λ o. option_map (g m) o) e ∙ ap (λ (x : ℕ). Some (g x a)) one in
        ap (λ b. cond b (Some m) (cond (is_it (option_map (g m) old) (g n a)) None (keyed.at marks (g n a)))) (its (option_map (g m) new) (g n a) mark) ∙ ap (λ (x : ℕ). Some x) one
    found n a false s e =
        ap (λ b. cond b (Some m) (cond (is_it (option_map (g m) old) (g n a)) None (keyed.at marks (g n a)))) (not_its n a s e new lone new refl) ∙
        ap (λ b. cond b None (keyed.at marks (g n a))) (not_its n a s e old own old refl) ∙ h.found n a e

    kept : (k : List ℕ) (n : ℕ) (b : Bool) → is_it (option_map (g m) new) k ≡ b → cond b (Some m) (cond (is_it (option_map (g m) old) k) None (keyed.at marks k)) ≡ Some n → option_map (g n) (cond (same_number m n) new (at rows n)) ≡ Some k
    kept k n true s e =
        let one : m ≡ n = cc in
        let yes : same_number m n ≡ true = subst (λ (x : ℕ). same_number m x ≡ true) one (alike m) in
        ap (λ b. option_map (g n) (cond b new (at rows n))) yes ∙ ap (λ (x : ℕ). option_map (g x) new) (sym one) ∙ of_it (option_map (g m) new) k s
    kept k n false s e =
        let t = still (is_it (option_map (g m) old) k) (keyed.at marks k) n e in
        let f : option_map (g n) (at rows n) ≡ Some k = h.kept k n t.1 in
        let other : same_number m n ≡ false = is_false (same_number m n) (λ u.
        let one : m ≡ n = one_number m n u in
        let its_mark : option_map (g m) old ≡ Some k = ap (λ o. option_map (g m) o) (sym was) ∙ ap (λ (x : ℕ). option_map (g x) (at rows x)) one ∙ f in
        true_false (is_it (option_map (g m) old) k) (its (option_map (g m) old) k its_mark) t.0) in
        ap (λ b. option_map (g n) (cond b new (at rows n))) other ∙ f

-- By the row's own number no other has its mark.
row_apart : (f : Asked → ℕ × ℕ) (rows : Numbered Asked) (m : ℕ) (o : Option Asked) → IsApart (row_mark f) rows m o
row_apart f rows m o n a x e d t = ap third (same-equal (row_mark f m x) (row_mark f n a) t)

-- no other row has the ticket of this one
abbrev pub IsAlone : Numbered Asked → ℕ → Option Asked → Type 0
IsAlone rows m o = (n : ℕ) (a x : Asked) → at rows n ≡ Some a → o ≡ Some x → a.ticket ≡ x.ticket → n ≡ m

ticket_apart : (f : Asked → ℕ × ℕ) (rows : Numbered Asked) (m : ℕ) (o : Option Asked) → IsAlone rows m o → IsApart (λ n. ticket_mark f) rows m o
ticket_apart f rows m o l n a x e d t = sym (l n a x e d (sym (ticket_of f x a t)))

abbrev its_marks : ℕ → Option Asked → Option RowMarks
its_marks m o = option_map (marks_of m) o

abbrev pub gone_all : Option RowMarks → Tables → Tables
gone_all None t = t
gone_all (Some k) t = taken_at k t

abbrev pub come_all : Option RowMarks → ℕ → Tables → Tables
come_all None n t = t
come_all (Some k) n t = put_at k n t

pub marked-moved : (rows : Numbered Asked) (tables : Tables) (m : ℕ) (old new : Option Asked) → Marked rows tables → at rows m ≡ old → IsAlone rows m new → Marked (with_at rows m new) (come_all (its_marks m new) m (gone_all (its_marks m old) tables))
marked-moved rows tables m old new h was alone = record {
  waits = subst (λ (k : Keyed ℕ). Placed (λ n. mark_of) (with_at rows m new) k) (waits_are old new) (placed-moved (λ n. mark_of) rows tables.waits m old new h.waits was (ticket_apart by_wait rows m old own) (ticket_apart by_wait rows m new alone));
  keys = subst (λ (k : Keyed ℕ). Placed (λ n. ticket_mark by_key) (with_at rows m new) k) (keys_are old new) (placed-moved (λ n. ticket_mark by_key) rows tables.keys m old new h.keys was (ticket_apart by_key rows m old own) (ticket_apart by_key rows m new alone));
  groups = subst (λ (k : Keyed ℕ). Placed (row_mark by_group) (with_at rows m new) k) (groups_are old new) (placed-moved (row_mark by_group) rows tables.groups m old new h.groups was (row_apart by_group rows m old) (row_apart by_group rows m new));
  times = subst (λ (k : Keyed ℕ). Placed (row_mark by_time) (with_at rows m new) k) (times_are old new) (placed-moved (row_mark by_time) rows tables.times m old new h.times was (row_apart by_time rows m old) (row_apart by_time rows m new));
  alone = λ n p a b e f t. single n p a b (same_number m n) (same_number m p) refl refl (sym (here n) ∙ e) (sym (here p) ∙ f) t;
}
  where
    own : IsAlone rows m old
    own n a x e f t = h.alone n m a x e (was ∙ f) t

    waits_are : (o p : Option Asked) → come (option_map mark_of p) m (gone (option_map mark_of o) tables.waits) ≡ (come_all (its_marks m p) m (gone_all (its_marks m o) tables)).waits
    waits_are None None = refl
    waits_are None (Some x) = refl
    waits_are (Some x) None = refl
    waits_are (Some x) (Some y) = refl

    keys_are : (o p : Option Asked) → come (option_map (ticket_mark by_key) p) m (gone (option_map (ticket_mark by_key) o) tables.keys) ≡ (come_all (its_marks m p) m (gone_all (its_marks m o) tables)).keys
    keys_are None None = refl
    keys_are None (Some x) = refl
    keys_are (Some x) None = refl
    keys_are (Some x) (Some y) = refl

    groups_are : (o p : Option Asked) → come (option_map (row_mark by_group m) p) m (gone (option_map (row_mark by_group m) o) tables.groups) ≡ (come_all (its_marks m p) m (gone_all (its_marks m o) tables)).groups
    groups_are None None = refl
    groups_are None (Some x) = refl
    groups_are (Some x) None = refl
    groups_are (Some x) (Some y) = refl

    times_are : (o p : Option Asked) → come (option_map (row_mark by_time m) p) m (gone (option_map (row_mark by_time m) o) tables.times) ≡ (come_all (its_marks m p) m (gone_all (its_marks m o) tables)).times
    times_are None None = refl
    times_are None (Some x) = refl
    times_are (Some x) None = refl
    times_are (Some x) (Some y) = refl

    here : (n : ℕ) → at (with_at rows m new) n ≡ cond (same_number m n) new (at rows n)
    here n = at-with_at rows m n new

    single : (n p : ℕ) (a b : Asked) (c d : Bool) → same_number m n ≡ c → same_number m p ≡ d → cond c new (at rows n) ≡ Some a → cond d new (at rows p) ≡ Some b → a.ticket ≡ b.ticket → n ≡ p
    single n p a b true true s t e f g = sym (one_number m n s) ∙ one_number m p t
    single n p a b true false s t e f g = sym (one_number m n s) ∙ sym (alone p b a f e (sym g))
    single n p a b false true s t e f g = alone n a b e f g ∙ one_number m p t
    single n p a b false false s t e f g = h.alone n p a b e f g

-- The row at a place of a list in order is that of its number.

first_part : (a b : Bool) → T (a && b) → a ≡ true
first_part true b h = refl
first_part false b h = absurd h

less : (o : Ordering) → is_lt o ≡ true → o ≡ Less
less Less e = refl
less Equal e = absurd (cc)
less Greater e = absurd (cc)

second_part : (a b : Bool) → T (a && b) → T b
second_part true b h = h
second_part false b h = absurd h

head_below : (es : Numbered Asked) (x i : ℕ) (d : ℕ × Asked) → T (below_all nat_cmp x es) → i < length es → nat_cmp x (get_or es i d).0 ≡ Less
head_below [] x i d b l = absurd (omega arith)
head_below (e ∷ es) x zero d b l = less (nat_cmp x e.0) (first_part _ _ b)
head_below (e ∷ es) x (suc i) d b l = head_below es x i d (second_part (is_lt (nat_cmp x e.0)) _ b) (omega arith)

turned : (a b : ℕ) → nat_cmp a b ≡ Less → nat_cmp b a ≡ Greater
turned a b e = grind (arith, nat_tests)

tied : (n : ℕ) → nat_cmp n n ≡ Equal
tied n = grind (arith, nat_tests)

place_here : (es : Numbered Asked) (i : ℕ) (d : ℕ × Asked) → T (is_sorted nat_cmp es) → i < length es → IsPlace es (get_or es i d).0 i
place_here [] i d s l = absurd (omega arith)
place_here (e ∷ es) zero d s l = tied e.0
place_here (e ∷ es) (suc i) d s l =
    (turned e.0 (get_or es i d).0 (head_below es e.0 i d (first_T e es s) (omega arith)), place_here es i d (rest_T e es s) (omega arith))

pub is_place : (rows : Numbered Asked) (i : ℕ) (r : ℕ × Asked) → IsTrue (is_in_order rows) → i < length rows → r ≡ get_or rows i r → IsPlace rows r.0 i
is_place rows i r s l e =
    subst (λ (q : ℕ × Asked). IsPlace rows q.0 i) (sym e) (place_here rows i r (to_T _ s) l)

pub stands : (rows : Numbered Asked) (i : ℕ) (r : ℕ × Asked) → IsTrue (is_in_order rows) → i < length rows → r ≡ get_or rows i r → at rows r.0 ≡ Some r.1
stands rows i r s l e = sym (found-place rows r.0 i r (is_place rows i r s l e) e)

-- The calls on the rows themselves.

none_there : (rows : Numbered Asked) (index : Numbered ℕ) (next : ℕ) → Fits rows index next → at rows next ≡ None
none_there rows index next h = one (at rows next) refl
  where
    one : (x : Option Asked) → at rows next ≡ x → at rows next ≡ None
    one None e = e
    one (Some b) e = absurd (let l : next < next = h.below next b e in omega arith)

fresh : (rows : Numbered Asked) (index : Numbered ℕ) (next : ℕ) (a : Asked) → Fits rows index next → at index a.ticket ≡ None → IsAlone rows next (Some a)
fresh rows index next a h o n b x e f t =
    let same_ask : a ≡ x = cc in
    let u : b.ticket ≡ a.ticket = t ∙ ap (λ (y : Asked). y.ticket) (sym same_ask) in
    let g : at index b.ticket ≡ Some n = h.indexed.found n b e in
    let i : at index a.ticket ≡ Some n = subst (λ (y : ℕ). at index y ≡ Some n) u g in
    absurd (cc)

-- a mark that no row has is free
free_mark : (g : ℕ → Asked → List ℕ) (rows : Numbered Asked) (marks : Keyed ℕ) (m : ℕ) (a : Asked) → Placed g rows marks → at rows m ≡ None → IsApart g rows m (Some a) → keyed.at marks (g m a) ≡ None
free_mark g rows marks m a h e l = one (keyed.at marks (g m a)) refl
  where
    its_row : (n : ℕ) → (o : Option Asked) → at rows n ≡ o → option_map (g n) o ≡ Some (g m a) → ⊥
    its_row n None r k = cc
    its_row n (Some b) r k =
        let mark : g n b ≡ g m a = cc in
        let one : m ≡ n = l n b a r refl (subst (λ (j : List ℕ). same (g m a) j ≡ true) (sym mark) (same-itself (g m a))) in
        let gone : at rows n ≡ None = subst (λ (x : ℕ). at rows x ≡ None) one e in
        cc

    one : (o : Option ℕ) → keyed.at marks (g m a) ≡ o → keyed.at marks (g m a) ≡ None
    one None f = f
    one (Some n) f = absurd (its_row n (at rows n) refl (h.kept (g m a) n f))

pub marks_free : (rows : Numbered Asked) (index : Numbered ℕ) (next : ℕ) (tables : Tables) (a : Asked) → Fits rows index next → at index a.ticket ≡ None → Marked rows tables → IsFree (marks_of next a) tables
marks_free rows index next tables a h o m = record {
  waits = free_mark (λ n. mark_of) rows tables.waits next a m.waits none (ticket_apart by_wait rows next (Some a) (fresh rows index next a h o));
  keys = free_mark (λ n. ticket_mark by_key) rows tables.keys next a m.keys none (ticket_apart by_key rows next (Some a) (fresh rows index next a h o));
  groups = free_mark (row_mark by_group) rows tables.groups next a m.groups none (row_apart by_group rows next (Some a));
  times = free_mark (row_mark by_time) rows tables.times next a m.times none (row_apart by_time rows next (Some a));
}
  where
    none : at rows next ≡ None
    none = none_there rows index next h

pub marked-added : (rows : Numbered Asked) (index : Numbered ℕ) (next : ℕ) (tables : Tables) (a : Asked) → Fits rows index next → at index a.ticket ≡ None → Marked rows tables → Marked (rows ++ (next, a) ∷ []) (put_at (marks_of next a) next tables)
marked-added rows index next tables a h o m =
    subst (λ (rs : Numbered Asked). Marked rs (put_at (marks_of next a) next tables)) (sym (at_end rows next a (each_row (λ n b. n < next) rows (to_T _ h.indexed.rows_rise) h.below)))
    (marked-moved rows tables next None (Some a) m (none_there rows index next h) (fresh rows index next a h o))

pub marked-taken : (rows : Numbered Asked) (tables : Tables) (i : ℕ) (r : ℕ × Asked) → Marked rows tables → IsTrue (is_in_order rows) → i < length rows → r ≡ get_or rows i r → Marked (remove rows i) (taken_at (marks_of r.0 r.1) tables)
marked-taken rows tables i r m s l e =
    subst (λ (rs : Numbered Asked). Marked rs (taken_at (marks_of r.0 r.1) tables)) (without-place rows r.0 i (to_T _ s) (is_place rows i r s l e))
    (marked-moved rows tables r.0 (Some r.1) None m (stands rows i r s l e) (λ n a x f g t. absurd (cc)))

pub marked-set : (rows : Numbered Asked) (tables : Tables) (i : ℕ) (r : ℕ × Asked) (f : Asked → Asked) → ((a : Asked) → (f a).ticket ≡ a.ticket) → Marked rows tables → IsTrue (is_in_order rows) → i < length rows → r ≡ get_or rows i r → Marked (set rows i (r.0, f r.1)) (moved r.1 (f r.1) r.0 tables)
marked-set rows tables i r f keeps m s l e =
    let place = is_place rows i r s l e in
    let here = stands rows i r s l e in
    let edit : set rows i (r.0, f r.1) ≡ with_at rows r.0 (Some (f r.1)) = changed-place rows r.0 i f r place e ∙ ap (λ o. with_at rows r.0 (option_map f o)) here in
    subst (λ (rs : Numbered Asked). Marked rs (moved r.1 (f r.1) r.0 tables)) (sym edit)
    (marked-moved rows tables r.0 (Some r.1) (Some (f r.1)) m here own)
  where
    own : (n : ℕ) (a x : Asked) → at rows n ≡ Some a → Some (f r.1) ≡ Some x → a.ticket ≡ x.ticket → n ≡ r.0
    own n a x g h t =
        let same_ask : f r.1 ≡ x = cc in
        m.alone n r.0 a r.1 g (stands rows i r s l e) (t ∙ ap (λ (y : Asked). y.ticket) (sym same_ask) ∙ keeps r.1)

pub marks_stand : (rows : Numbered Asked) (tables : Tables) (i : ℕ) (r : ℕ × Asked) → Marked rows tables → IsTrue (is_in_order rows) → i < length rows → r ≡ get_or rows i r → HasRow (marks_of r.0 r.1) r.0 tables
marks_stand rows tables i r m s l e =
    let here = stands rows i r s l e in
    record { waits = m.waits.found r.0 r.1 here; keys = m.keys.found r.0 r.1 here; groups = m.groups.found r.0 r.1 here; times = m.times.found r.0 r.1 here }

pub in_order-set : (rows : Numbered Asked) (i : ℕ) (r : ℕ × Asked) (f : Asked → Asked) → IsTrue (is_in_order rows) → i < length rows → r ≡ get_or rows i r → IsTrue (is_in_order (set rows i (r.0, f r.1)))
in_order-set rows i r f s l e =
    subst (λ (rs : Numbered Asked). IsTrue (is_in_order rs)) (sym (changed-place rows r.0 i f r (is_place rows i r s l e) e)) (in_order-changed rows r.0 f s)

-- One more row of a walk is within the rows.
pub within : (f : ℕ × Asked → ℕ × Asked) (xs ys : Numbered Asked) (i : ℕ) → i < length xs → ys ≡ map f (take i xs) ++ drop i xs → i < length ys
within f xs ys i l e =
    let long : length (map f (take i xs) ++ drop i xs) ≡ length xs = length-append (map f (take i xs)) (drop i xs) ∙ omega (arith, length-map (take i xs) f, length-take i xs, length-drop i xs, l) in
    rw e (rw long l)
