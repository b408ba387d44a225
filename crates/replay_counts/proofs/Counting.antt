-- What is counted one by one is what the summary of all items says.
use Rattle.std.proofs.Common.{◌≡◌, ℕ, ◌+◌, ◌==◌, Bool, true, false, cond, not, ◌&&◌, ◌||◌, List, [], ◌∷◌, ◌++◌, length, filter, count_by, Option, None, Some, refl, sym, ◌∙◌, ap, subst, arith, add-zero, append_assoc, length-append}
use Rattle.std.proofs.lemmas.List.{append-nil}
use Rattle.std.proofs.lemmas.List.Elements.{filter-append}
use Rattle.std.proofs.lemmas.List.Folds.{list_any-append}
use Rattle.std.proofs.lemmas.List.Sums.{length-filter}
use Rattle.std.proofs.lemmas.Bool.{eqb-true}
use Rattle.std.specs.BTreeSet.{BTreeSet}
use Rattle.std.specs.List.{list_any}
use Rattle.etcd_types.specs.declared.request.Request.{Request}
use Rattle.replay_counts.proofs.Names.{is_it, is_it-is, is_in-with_name}
use Rattle.replay_counts.specs.declared.tally.Tally.{Tally}
use Rattle.replay_counts.specs.Tallies.{Named, is_in, with_read_if, asked_first, no_tally, noted, noted_all, is_unsent_name, unsent_of}
use Rattle.script_text.specs.declared.item.Item.{Item}
use Rattle.script_text.specs.declared.item.Item.TheVariants as item
use Rattle.world_model.specs.Generated.{is_asked, is_reply, is_plain_read, is_unsent}
use Rattle.world_model.specs.Lives.{asked_as, is_named, names}

one_then : (f : Item → Bool) (i : Item) (items : List Item) → length (filter f (i ∷ items)) ≡ length (filter f (i ∷ [])) + length (filter f items)
one_then f i items = by_test (f i)
  where
    by_test : (b : Bool) → length (cond b (i ∷ filter f items) (filter f items)) ≡ length (cond b (i ∷ []) []) + length (filter f items)
    by_test true = omega arith
    by_test false = omega arith

-- How much was asked.

asked_by : (seen : Bool) (t : Tally) (name : Named) (q : Request) → (asked_first seen t name q).asked ≡ t.asked
asked_by true t name q = refl
asked_by false t name q = refl

asked_one : (t : Tally) (i : Item) → (noted t i).asked ≡ t.asked + length (filter is_asked (i ∷ []))
asked_one t (item.Asked p ticket q) = asked_by (is_in t.asks (p, ticket)) (record t { asked = t.asked + 1 }) (p, ticket) q
asked_one t i = sym (add-zero t.asked)

pub asked_all : (t : Tally) (items : List Item) → (noted_all t items).asked ≡ t.asked + length (filter is_asked items)
asked_all t [] = sym (add-zero t.asked)
asked_all t (i ∷ items) = omega (arith, asked_all (noted t i) items, asked_one t i, one_then is_asked i items)

-- What was replied.

replies_by : (seen : Bool) (t : Tally) (name : Named) (q : Request) → (asked_first seen t name q).replies ≡ t.replies
replies_by true t name q = refl
replies_by false t name q = refl

abbrev replied_by : Item → List Named
replied_by (item.Reply p ticket a) = (p, ticket) ∷ []
replied_by _ = []

abbrev replied_names : List Item → List Named
replied_names [] = []
replied_names (i ∷ items) = replied_by i ++ replied_names items

replies_one : (t : Tally) (i : Item) → (noted t i).replies ≡ t.replies ++ replied_by i
replies_one t (item.Asked p ticket q) =
    replies_by (is_in t.asks (p, ticket)) (record t { asked = t.asked + 1 }) (p, ticket) q ∙ sym (append-nil t.replies)
replies_one t (item.Reply p ticket a) = refl
replies_one t i = sym (append-nil t.replies)

replies_all : (t : Tally) (items : List Item) → (noted_all t items).replies ≡ t.replies ++ replied_names items
replies_all t [] = sym (append-nil t.replies)
replies_all t (i ∷ items) =
    replies_all (noted t i) items ∙ ap (λ (ns : List Named). ns ++ replied_names items) (replies_one t i) ∙ append_assoc t.replies (replied_by i) (replied_names items)

replied_one : (i : Item) → length (replied_by i) ≡ length (filter is_reply (i ∷ []))
replied_one (item.Reply p ticket a) = refl
replied_one i = refl

replied_count : (items : List Item) → length (replied_names items) ≡ length (filter is_reply items)
replied_count [] = refl
replied_count (i ∷ items) =
    omega (arith, length-append (replied_by i) (replied_names items), replied_count items, replied_one i, one_then is_reply i items)

pub replied_all : (items : List Item) → length (noted_all no_tally items).replies ≡ length (filter is_reply items)
replied_all items = ap (λ (ns : List Named). length ns) (replies_all no_tally items) ∙ replied_count items

-- Which names were asked, which of them first for a plain read, and which calls name.

abbrev has_asked : Option Request → Bool
has_asked None = false
has_asked (Some q) = true

record Knows (t : Tally) (before : List Item) : Type 0 where
  asks : (p ticket : ℕ) → is_in t.asks (p, ticket) ≡ has_asked (asked_as p ticket before)
  reads : (p ticket : ℕ) → is_in t.reads (p, ticket) ≡ is_plain_read (asked_as p ticket before)
  sent : (p ticket : ℕ) → is_in t.sent (p, ticket) ≡ is_named p ticket before

abbrev or_else : Option Request → Option Request → Option Request
or_else None o = o
or_else (Some q) o = Some q

or_none : (o : Option Request) → or_else o None ≡ o
or_none None = refl
or_none (Some q) = refl

asked_by_test : (b : Bool) (q : Request) (x y z : Option Request) → x ≡ or_else y z → cond b (Some q) x ≡ or_else (cond b (Some q) y) z
asked_by_test true q x y z e = refl
asked_by_test false q x y z e = e

asked_later : (p ticket : ℕ) (before later : List Item) → asked_as p ticket (before ++ later) ≡ or_else (asked_as p ticket before) (asked_as p ticket later)
asked_later p ticket [] later = refl
asked_later p ticket (item.Asked q t r ∷ before) later =
    asked_by_test (q == p && t == ticket) r (asked_as p ticket (before ++ later)) (asked_as p ticket before) (asked_as p ticket later) (asked_later p ticket before later)
asked_later p ticket (i ∷ before) later = asked_later p ticket before later

-- an item that isn't asked
asked_same : (p ticket : ℕ) (before : List Item) (i : Item) → asked_as p ticket (i ∷ []) ≡ None → asked_as p ticket (before ++ i ∷ []) ≡ asked_as p ticket before
asked_same p ticket before i e =
    asked_later p ticket before (i ∷ []) ∙ ap (λ (o : Option Request). or_else (asked_as p ticket before) o) e ∙ or_none (asked_as p ticket before)

or_right : (a b : Bool) → (a || (b || false)) ≡ (b || a)
or_right true true = refl
or_right true false = refl
or_right false true = refl
or_right false false = refl

named_later : (p ticket : ℕ) (before : List Item) (i : Item) → is_named p ticket (before ++ i ∷ []) ≡ (names p ticket i || is_named p ticket before)
named_later p ticket before i = list_any-append (names p ticket) before (i ∷ []) ∙ or_right (is_named p ticket before) (names p ticket i)

-- One more is asked.

asked_asks : (seen : Bool) (t : Tally) (name : Named) (q : Request) (x : Named) → is_in (asked_first seen t name q).asks x ≡ ((not seen && is_it x name) || is_in t.asks x)
asked_asks true t name q x = refl
asked_asks false t name q x = is_in-with_name t.asks x name

reads_by : (plain : Bool) (reads : BTreeSet Named) (name x : Named) → is_in (with_read_if plain reads name) x ≡ ((plain && is_it x name) || is_in reads x)
reads_by true reads name x = is_in-with_name reads x name
reads_by false reads name x = refl

asked_reads : (seen : Bool) (t : Tally) (name : Named) (q : Request) (x : Named) → is_in (asked_first seen t name q).reads x ≡ ((not seen && (is_plain_read (Some q) && is_it x name)) || is_in t.reads x)
asked_reads true t name q x = refl
asked_reads false t name q x = reads_by (is_plain_read (Some q)) t.reads name x

asked_sent : (seen : Bool) (t : Tally) (name : Named) (q : Request) (x : Named) → is_in (asked_first seen t name q).sent x ≡ is_in t.sent x
asked_sent true t name q x = refl
asked_sent false t name q x = refl

or_true : (b : Bool) → (b || true) ≡ true
or_true true = refl
or_true false = refl

only_true : (a : Bool) → ((a && true) || false) ≡ a
only_true true = refl
only_true false = refl

and_false : (a r : Bool) → ((a && false) || r) ≡ r
and_false true r = refl
and_false false r = refl

-- where the name is this one, it was seen exactly where something was asked under it
asks_more : (seen b : Bool) (a : Option Request) (q : Request) → (b ≡ true → has_asked a ≡ seen) → ((not seen && b) || has_asked a) ≡ has_asked (or_else a (cond b (Some q) None))
asks_more true b (Some r) q f = refl
asks_more true true None q f = f refl
asks_more true false None q f = refl
asks_more false b (Some r) q f = or_true b
asks_more false true None q f = refl
asks_more false false None q f = refl

reads_more : (seen b : Bool) (a : Option Request) (q : Request) → (b ≡ true → has_asked a ≡ seen) → ((not seen && (is_plain_read (Some q) && b)) || is_plain_read a) ≡ is_plain_read (or_else a (cond b (Some q) None))
reads_more true b (Some r) q f = refl
reads_more true true None q f = absurd (no (f refl))
  where
    no : false ≡ true → ⊥
    no e = cc
reads_more true false None q f = refl
reads_more false true (Some r) q f = absurd (no (f refl))
  where
    no : true ≡ false → ⊥
    no e = cc
reads_more false false (Some r) q f = and_false (is_plain_read (Some q)) (is_plain_read (Some r))
reads_more false true None q f = only_true (is_plain_read (Some q))
reads_more false false None q f = and_false (is_plain_read (Some q)) false

both_true : (a b : Bool) → (a && b) ≡ true → (a ≡ true) × (b ≡ true)
both_true true b e = (refl, e)
both_true false b e = absurd (no e)
  where
    no : false ≡ true → ⊥
    no e = cc

same_name : (p k n t : ℕ) (before : List Item) → (n == p && t == k) ≡ true → asked_as p k before ≡ asked_as n t before
same_name p k n t before e =
    let parts = both_true (n == p) (t == k) e in
    sym (ap (λ (m : ℕ). asked_as m k before) (eqb-true n p parts.0)) ∙ sym (ap (λ (m : ℕ). asked_as n m before) (eqb-true t k parts.1))

knows_asked : (t : Tally) (before : List Item) (n k : ℕ) (q : Request) → Knows t before → Knows (noted t (item.Asked n k q)) (before ++ item.Asked n k q ∷ [])
knows_asked t before n k q h =
    let seen = is_in t.asks (n, k) in
    let t1 = record t { asked = t.asked + 1 } in
    let agree : (p j : ℕ) → (n == p && k == j) ≡ true → has_asked (asked_as p j before) ≡ seen = λ p j e. ap has_asked (same_name p j n k before e) ∙ sym (h.asks n k) in
    record {
      asks = λ p j.
          asked_asks seen t1 (n, k) q (p, j)
          ∙ ap (λ (b : Bool). (not seen && b) || is_in t.asks (p, j)) (is_it-is p j n k)
          ∙ ap (λ (b : Bool). (not seen && (n == p && k == j)) || b) (h.asks p j)
          ∙ asks_more seen (n == p && k == j) (asked_as p j before) q (agree p j)
          ∙ ap has_asked (sym (asked_later p j before (item.Asked n k q ∷ [])));
      reads = λ p j.
          asked_reads seen t1 (n, k) q (p, j)
          ∙ ap (λ (b : Bool). (not seen && (is_plain_read (Some q) && b)) || is_in t.reads (p, j)) (is_it-is p j n k)
          ∙ ap (λ (b : Bool). (not seen && (is_plain_read (Some q) && (n == p && k == j))) || b) (h.reads p j)
          ∙ reads_more seen (n == p && k == j) (asked_as p j before) q (agree p j)
          ∙ ap is_plain_read (sym (asked_later p j before (item.Asked n k q ∷ [])));
      sent = λ p j. asked_sent seen t1 (n, k) q (p, j) ∙ h.sent p j ∙ sym (named_later p j before (item.Asked n k q));
    }

-- Another item.

knows_same : (t : Tally) (before : List Item) (i : Item) → ((p k : ℕ) → asked_as p k (i ∷ []) ≡ None) → ((p k : ℕ) → names p k i ≡ false) → Knows t before → Knows t (before ++ i ∷ [])
knows_same t before i e f h = record {
  asks = λ p k. h.asks p k ∙ ap has_asked (sym (asked_same p k before i (e p k)));
  reads = λ p k. h.reads p k ∙ ap is_plain_read (sym (asked_same p k before i (e p k)));
  sent = λ p k. h.sent p k ∙ sym (named_later p k before i ∙ ap (λ (b : Bool). b || is_named p k before) (f p k));
}

knows_one : (t : Tally) (before : List Item) (i : Item) → Knows t before → Knows (noted t i) (before ++ i ∷ [])
knows_one t before (item.Asked n k q) h = knows_asked t before n k q h
knows_one t before (item.Sent n call member k q) h = record {
  asks = λ p j. h.asks p j ∙ ap has_asked (sym (asked_same p j before (item.Sent n call member k q) refl));
  reads = λ p j. h.reads p j ∙ ap is_plain_read (sym (asked_same p j before (item.Sent n call member k q) refl));
  sent = λ p j.
      is_in-with_name t.sent (p, j) (n, k)
      ∙ ap (λ (b : Bool). b || is_in t.sent (p, j)) (is_it-is p j n k)
      ∙ ap (λ (b : Bool). (n == p && k == j) || b) (h.sent p j)
      ∙ sym (named_later p j before (item.Sent n call member k q));
}
knows_one t before (item.Reply n k a) h = record {
  asks = (knows_same t before (item.Reply n k a) (λ p j. refl) (λ p j. refl) h).asks;
  reads = (knows_same t before (item.Reply n k a) (λ p j. refl) (λ p j. refl) h).reads;
  sent = (knows_same t before (item.Reply n k a) (λ p j. refl) (λ p j. refl) h).sent;
}
knows_one t before i h = knows_same t before i (λ p k. refl) (λ p k. refl) h

knows_all : (t : Tally) (before items : List Item) → Knows t before → Knows (noted_all t items) (before ++ items)
knows_all t before [] h = subst (λ (xs : List Item). Knows t xs) (sym (append-nil before)) h
knows_all t before (i ∷ items) h =
    subst (λ (xs : List Item). Knows (noted_all (noted t i) items) xs) (append_assoc before (i ∷ []) items)
    (knows_all (noted t i) (before ++ i ∷ []) items (knows_one t before i h))

knows_none : Knows no_tally []
knows_none = record { asks = λ p k. refl; reads = λ p k. refl; sent = λ p k. refl }

-- Replies of reads that were never sent.

unsent_one : (t : Tally) (all : List Item) (i : Item) → Knows t all → length (filter (is_unsent_name t) (replied_by i)) ≡ length (filter (is_unsent all) (i ∷ []))
unsent_one t all (item.Reply p k a) h =
    by_test (is_unsent_name t (p, k)) (is_plain_read (asked_as p k all) && not (is_named p k all))
    (ap (λ (b : Bool). b && not (is_in t.sent (p, k))) (h.reads p k) ∙ ap (λ (b : Bool). is_plain_read (asked_as p k all) && not b) (h.sent p k))
  where
    by_test : (b c : Bool) → b ≡ c → length {A = Named} (cond b ((p, k) ∷ []) []) ≡ length (cond c (item.Reply p k a ∷ []) [])
    by_test true true e = refl
    by_test false false e = refl
    by_test true false e = cc
    by_test false true e = cc
unsent_one t all i h = refl

names_then : (f : Named → Bool) (xs ys : List Named) → length (filter f (xs ++ ys)) ≡ length (filter f xs) + length (filter f ys)
names_then f xs ys = ap (λ (ns : List Named). length ns) (filter-append f xs ys) ∙ length-append (filter f xs) (filter f ys)

unsent_over : (t : Tally) (all : List Item) (items : List Item) → Knows t all → length (filter (is_unsent_name t) (replied_names items)) ≡ length (filter (is_unsent all) items)
unsent_over t all [] h = refl
unsent_over t all (i ∷ items) h =
    omega (arith, names_then (is_unsent_name t) (replied_by i) (replied_names items), unsent_over t all items h, unsent_one t all i h, one_then (is_unsent all) i items)

pub unsent_all : (items : List Item) → unsent_of (noted_all no_tally items) ≡ length (filter (is_unsent items) items)
unsent_all items =
    let t = noted_all no_tally items in
    ap (λ (ns : List Named). count_by (is_unsent_name t) ns) (replies_all no_tally items)
    ∙ sym (length-filter (is_unsent_name t) (replied_names items))
    ∙ unsent_over t items items (knows_all no_tally [] items knows_none)
