-- How often a key stands before a place of its revision: the keys that are there more than once are counted as they are passed.
use Rattle.std.proofs.Common.{◌≡◌, ℕ, zero, suc, ◌+◌, ◌-◌, ◌≤◌, ◌<◌, ◌&&◌, Bool, true, false, cond, List, [], ◌∷◌, ◌++◌, length, take, drop, get_or, refl, sym, ◌∙◌, ap, subst, arith, eq-eqb, length-take-le}
use Rattle.std.proofs.Math.Bool.{Bool-set}
use Rattle.std.proofs.Math.Logic.{∥∥₁_elim}
use Rattle.std.proofs.lemmas.List.{take-append-drop, drop_more, take_more}
use Rattle.etcd_types.specs.Keys.{same}
use Rattle.etcd_types.specs.Ranges.{contains}
use Rattle.etcd_types.specs.declared.key_range.KeyRange.{KeyRange}
use Rattle.etcd_types.specs.declared.request.WatchAsk.{WatchAsk}
use Rattle.etcd_types.proofs.KeyOrder.{same-equal, same-itself}
use Rattle.store_model.specs.History.{History}
use Rattle.compaction_model.specs.declared.version.Version.{Version}
use Rattle.compaction_model.specs.Versions.{kept_versions}
use Rattle.compaction_model.specs.Places.{changed_keys}
use Rattle.store_index.specs.declared.index.Index.{Index}
use Rattle.store_index.specs.Index.{HoldsKept}
use Rattle.store_reads.specs.Places.{count_same, IsFirstFrom, is_of, is_repeated, count_at, ArePassed}
use Rattle.store_reads.proofs.TellingProofs.{at_index}

abbrev Key : Type 0
Key = List ℕ

-- counts in parts of a list

count-append : (k : Key) (js ls : List Key) → count_same k (js ++ ls) ≡ count_same k js + count_same k ls
count-append k [] ls = omega arith
count-append k (j ∷ js) ls = by (same j k) (count-append k js ls)
  where
    by : (b : Bool) → count_same k (js ++ ls) ≡ count_same k js + count_same k ls
        → cond b (count_same k (js ++ ls) + 1) (count_same k (js ++ ls)) ≡ cond b (count_same k js + 1) (count_same k js) + count_same k ls
    by true e = omega (arith, e)
    by false e = e

count-le : (k : Key) (js : List Key) → count_same k js ≤ length js
count-le k [] = omega arith
count-le k (j ∷ js) = by (same j k) (count-le k js)
  where
    by : (b : Bool) → count_same k js ≤ length js → cond b (count_same k js + 1) (count_same k js) ≤ length (j ∷ js)
    by true e = omega (arith, e)
    by false e = omega (arith, e)

one_of : Bool → ℕ
one_of b = cond b 1 0

count_next : (k j : Key) (keys : List Key) (place : ℕ) → place < length keys → j ≡ get_or keys place j
    → count_same k (take (place + 1) keys) ≡ count_same k (take place keys) + one_of (same j k)
unfolding one_of
count_next k j keys place lt is =
    ap (count_same k) (take_more keys place j lt ∙ ap (λ (i : Key). take place keys ++ i ∷ []) (sym is)) ∙ count-append k (take place keys) (j ∷ []) ∙ by (same j k)
  where
    by : (b : Bool) → count_same k (take place keys) + cond b (0 + 1) 0 ≡ count_same k (take place keys) + cond b 1 0
    by true = refl
    by false = refl

count_whole : (k : Key) (keys : List Key) (place : ℕ) → place < length keys → k ≡ get_or keys place k → count_same k (take place keys) < count_same k keys
count_whole k keys place lt is =
    let parts : count_same k keys ≡ count_same k (take place keys) + count_same k (drop place keys) =
    ap (count_same k) (sym (take-append-drop place keys)) ∙ count-append k (take place keys) (drop place keys) in
    let rest : count_same k (drop place keys) ≡ count_same k (drop (place + 1) keys) + 1 =
    ap (count_same k) (drop_more keys place k lt ∙ ap (λ (i : Key). i ∷ drop (place + 1) keys) (sym is))
    ∙ ap (λ (b : Bool). cond b (count_same k (drop (place + 1) keys) + 1) (count_same k (drop (place + 1) keys))) (same-itself k) in
    omega (arith, parts, rest)

-- the place at which a key is there so often already

record NthPlace (k : Key) (n : ℕ) (keys : List Key) : Type 0 where
  place : ℕ
  among : place < length keys
  key : (d : Key) → get_or keys place d ≡ k
  count : count_same k (take place keys) ≡ n

nth_later : (k j : Key) (n m : ℕ) (js : List Key) (b : Bool) → same j k ≡ b → n ≡ cond b (m + 1) m → NthPlace k m js → NthPlace k n (j ∷ js)
nth_later k j n m js b t e p =
    let lt : p.place < length js = p.among in
    record {
      place = suc p.place;
      among = omega (arith, lt);
      key = p.key;
      count = ap (λ (c : Bool). cond c (count_same k (take p.place js) + 1) (count_same k (take p.place js))) t ∙ ap (λ (i : ℕ). cond b (i + 1) i) p.count ∙ sym e;
    }

nth_place : (k : Key) (n : ℕ) (keys : List Key) → n < count_same k keys → NthPlace k n keys
nth_place k n [] lt = absurd (omega (arith, lt))
nth_place k n (j ∷ js) lt = by n (same j k) refl lt (λ m l. nth_place k m js l)
  where
    by : (n : ℕ) (b : Bool) → same j k ≡ b → n < cond b (count_same k js + 1) (count_same k js) → ((m : ℕ) → m < count_same k js → NthPlace k m js) → NthPlace k n (j ∷ js)
    by zero true t l next = record { place = zero; among = omega arith; key = λ d. same-equal j k t; count = refl }
    by (suc m) true t l next = nth_later k j (suc m) m js true t (omega arith) (next m (omega (arith, l)))
    by n false t l next = nth_later k j n n js false t refl (next n l)

-- a key that is there twice has a second version of the revision

second_version : (i : Index) (ask : WatchAsk) (h : History) (r : ℕ) (keys : List Key) (k : Key) (vs : List Version) (begins : ℕ) → HoldsKept i h → 2 ≤ r → i.compacted ≤ r
    → r ≤ i.newest → keys ≡ changed_keys (get_or h (r - 2) []) → vs ≡ kept_versions h i.compacted k → IsFirstFrom r vs begins → 2 ≤ count_same k keys
    → is_repeated r vs begins ≡ true
second_version i ask h r keys k vs begins holds first from last changed kept begun two =
    let second : NthPlace k 1 keys = nth_place k 1 keys (omega (arith, two)) in
    let here = at_index i ask h r second.place keys k vs (begins + 1) begins holds first from last changed second.among (sym (second.key k)) kept begun (ap (λ n. begins + n) (sym second.count)) in
    ap (is_of r) here.there ∙ eq-eqb here.version.revision r here.revision

pub repeated_there : (i : Index) (ask : WatchAsk) (r : ℕ) (keys : List (List ℕ)) (k : List ℕ) (vs : List Version) (begins : ℕ) → 2 ≤ r → i.compacted ≤ r → r ≤ i.newest
    → ((h : History) → HoldsKept i h → keys ≡ changed_keys (get_or h (r - 2) [])) → ((h : History) → HoldsKept i h → vs ≡ kept_versions h i.compacted k) → IsFirstFrom r vs begins
    → 2 ≤ count_same k keys → is_repeated r vs begins ≡ true
repeated_there i ask r keys k vs begins first from last changed kept begun two =
    ∥∥₁_elim i.of_a_history (Bool-set _ _) (λ x. second_version i ask x.0 r keys k vs begins x.1 first from last (changed x.0 x.1) (kept x.0 x.1) begun two)

-- what is counted is how often the key stands before the place

before_is : (range : KeyRange) (cs : List (List ℕ × ℕ)) (keys : List (List ℕ)) (place : ℕ) (k : List ℕ) (b : Bool) → ArePassed range cs keys place → contains range k ≡ true
    → place < length keys → k ≡ get_or keys place k → (2 ≤ count_same k keys → b ≡ true) → cond b (count_at cs k) 0 ≡ count_same k (take place keys)
before_is range cs keys place k true a within lt is twice =
    let whole : count_same k (take place keys) < count_same k keys = count_whole k keys place lt is in
    let most : count_at cs k ≤ count_same k (take place keys) = a.others k within in
    by (count_same k keys) (a.repeated k within) whole most
  where
    by : (n : ℕ) → (2 ≤ n → count_at cs k ≡ count_same k (take place keys)) → count_same k (take place keys) < n → count_at cs k ≤ count_same k (take place keys)
        → count_at cs k ≡ count_same k (take place keys)
    by zero f w m = absurd (omega (arith, w))
    by (suc zero) f w m = omega (arith, w, m)
    by (suc (suc n)) f w m = f (omega arith)
before_is range cs keys place k false a within lt is twice =
    let whole : count_same k (take place keys) < count_same k keys = count_whole k keys place lt is in
    by (count_same k keys) (λ two. let e : false ≡ true = twice two in cc) whole
  where
    by : (n : ℕ) → (2 ≤ n → ⊥) → count_same k (take place keys) < n → 0 ≡ count_same k (take place keys)
    by zero f w = absurd (omega (arith, w))
    by (suc zero) f w = omega (arith, w)
    by (suc (suc n)) f w = absurd (f (omega arith))

-- the same at an index
pub passed_before : (i : Index) (ask : WatchAsk) (r : ℕ) (keys : List (List ℕ)) (k : List ℕ) (vs : List Version) (begins place n : ℕ) (cs : List (List ℕ × ℕ)) → 2 ≤ r → i.compacted ≤ r → r ≤ i.newest
    → ((h : History) → HoldsKept i h → keys ≡ changed_keys (get_or h (r - 2) [])) → ((h : History) → HoldsKept i h → vs ≡ kept_versions h i.compacted k) → IsFirstFrom r vs begins
    → ArePassed ask.range cs keys place → contains ask.range k ≡ true → place < length keys → k ≡ get_or keys place k
    → n ≡ cond (is_repeated r vs begins) (count_at cs k) 0 → n ≡ count_same k (take place keys)
passed_before i ask r keys k vs begins place n cs first from last changed kept begun a within lt is counted =
    counted ∙ before_is ask.range cs keys place k (is_repeated r vs begins) a within lt is (repeated_there i ask r keys k vs begins first from last changed kept begun)

pub none_passed : (range : KeyRange) (keys : List (List ℕ)) → ArePassed range [] keys 0
none_passed range keys = record { repeated = λ k within two. refl; others = λ k within. omega arith }

pub few_passed : (range : KeyRange) (cs : List (List ℕ × ℕ)) (keys : List (List ℕ)) (place : ℕ) (k : List ℕ) → ArePassed range cs keys place → contains range k ≡ true
    → place < length keys → count_at cs k ≤ place
few_passed range cs keys place k a within lt =
    let most : count_at cs k ≤ count_same k (take place keys) = a.others k within in
    let long : length (take place keys) ≡ place = length-take-le place keys (omega (arith, lt)) in
    omega (arith, most, long, count-le k (take place keys))

-- one place further

pub passed_out : (range : KeyRange) (cs : List (List ℕ × ℕ)) (keys : List (List ℕ)) (place : ℕ) (j : List ℕ) → ArePassed range cs keys place → contains range j ≡ false
    → place < length keys → j ≡ get_or keys place j → ArePassed range cs keys (place + 1)
unfolding one_of
passed_out range cs keys place j a out lt is = record {
  repeated = λ k within two. a.repeated k within two ∙ sym (stays k within);
  others = λ k within. let e = stays k within in let m = a.others k within in omega (arith, e, m);
}
  where
    stays : (k : Key) → contains range k ≡ true → count_same k (take (place + 1) keys) ≡ count_same k (take place keys)
    stays k within = count_next k j keys place lt is ∙ by (same j k) refl
      where
        by : (b : Bool) → same j k ≡ b → count_same k (take place keys) + cond b 1 0 ≡ count_same k (take place keys)
        by true t = let e : contains range j ≡ contains range k = ap (contains range) (same-equal j k t) in absurd (cc)
        by false t = omega arith

pub passed_in : (range : KeyRange) (cs ds : List (List ℕ × ℕ)) (keys : List (List ℕ)) (place : ℕ) (j : List ℕ) (b : Bool) → ArePassed range cs keys place
    → place < length keys → j ≡ get_or keys place j → (2 ≤ count_same j keys → b ≡ true)
    → ((k : List ℕ) → count_at ds k ≡ cond (b && same j k) (count_at cs j + 1) (count_at cs k)) → ArePassed range ds keys (place + 1)
unfolding one_of
passed_in range cs ds keys place j b a lt is twice w = record {
  repeated = λ k within two. w k ∙ counted k within two (same j k) refl b refl ∙ sym (count_next k j keys place lt is);
  others = λ k within. let e = w k in let n = count_next k j keys place lt is in let m = most k within (same j k) refl b in omega (arith, e, n, m);
}
  where
    counted : (k : Key) → contains range k ≡ true → 2 ≤ count_same k keys → (s : Bool) → same j k ≡ s → (c : Bool) → b ≡ c
        → cond (c && s) (count_at cs j + 1) (count_at cs k) ≡ count_same k (take place keys) + cond s 1 0
    counted k within two true t true u =
        ap (λ (i : Key). count_at cs i + 1) (same-equal j k t) ∙ ap (λ n. n + 1) (a.repeated k within two)
    counted k within two true t false u =
        let e : b ≡ true = twice (subst (λ (i : Key). 2 ≤ count_same i keys) (sym (same-equal j k t)) two) in absurd (cc)
    counted k within two false t true u = let e = a.repeated k within two in omega (arith, e)
    counted k within two false t false u = let e = a.repeated k within two in omega (arith, e)

    most : (k : Key) → contains range k ≡ true → (s : Bool) → same j k ≡ s → (c : Bool) → cond (c && s) (count_at cs j + 1) (count_at cs k) ≤ count_same k (take place keys) + cond s 1 0
    most k within true t true =
        let m = a.others k within in let e : count_at cs j ≡ count_at cs k = ap (count_at cs) (same-equal j k t) in omega (arith, m, e)
    most k within true t false = let m = a.others k within in omega (arith, m)
    most k within false t true = let m = a.others k within in omega (arith, m)
    most k within false t false = let m = a.others k within in omega (arith, m)
