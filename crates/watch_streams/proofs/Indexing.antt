-- The index of the streams by range: it stands for the streams after each change, and what it finds is what a look at all finds.
use Rattle.std.proofs.Common.{◌≡◌, ℕ, suc, ◌+◌, ◌<◌, ◌≤◌, Bool, true, false, not, cond, ◌&&◌, ◌==◌, nat_lt, nat_le, List, [], ◌∷◌, ◌++◌, map, filter, ◌-◌, length, drop, take, Option, None, Some, refl, ap, sym, subst, ◌∙◌, append-nil, arith}
use Rattle.std.proofs.Math.Seq.{take-length}
use Rattle.std.proofs.lemmas.Bool.Decides.{nat_tests}
use Rattle.std.proofs.lemmas.List.{length-drop}
use Rattle.etcd_types.specs.declared.key_range.KeyRange.{KeyRange}
use Rattle.etcd_types.proofs.KeyOrder.{same-equal}
use Rattle.etcd_types.proofs.Bools.{and_first, and_second}
use Rattle.etcd_types.specs.Keys.{same}
use Rattle.watch_model.specs.State.{Stream}
use Rattle.watch_model.specs.Lookups.{same_range, stream_at, changed_stream, with_stream, without_stream, is_closing, numbered}
use Rattle.watch_model.specs.Joining.{is_joinable, better, best_of, is_opening_from_now, opening_from_now, or_else, stream_to_join}
use Rattle.watch_model.proofs.Streams.{number_itself}
use Rattle.watch_streams.specs.declared.rows.Row.{Row}
use Rattle.watch_streams.specs.declared.index.RangeIndex.{RangeIndex}
use Rattle.watch_streams.specs.Rows.{Backed, digest, before, rising, with_row, without_row, is_under, under, row_of, rows_of, Indexed, pushed, found_in, chosen_at}
use Rattle.watch_streams.proofs.Rising.{rest_rising, none_under, with_row_rises, without_row_rises, under_with_row, under_without}

-- After each change of the streams.

filter_append : {A : Type 0} (p : A → Bool) (xs ys : List A) → filter p (xs ++ ys) ≡ filter p xs ++ filter p ys
filter_append {A = A} p [] ys = refl
filter_append {A = A} p (x ∷ xs) ys = elim (p x) as (λ b. cond b (x ∷ filter p (xs ++ ys)) (filter p (xs ++ ys)) ≡ cond b (x ∷ filter p xs) (filter p xs) ++ filter p ys) [
  | true ↦ ap (λ (l : List A). x ∷ l) (filter_append p xs ys)
  | false ↦ filter_append p xs ys
]

rows_append : (ss : List Stream) (t : Stream) → rows_of (ss ++ t ∷ []) ≡ rows_of ss ++ row_of t ∷ []
rows_append [] t = refl
rows_append (s ∷ ss) t = ap (λ (l : List Row). row_of s ∷ l) (rows_append ss t)

rows_without : (n : ℕ) (ss : List Stream) → rows_of (without_stream n ss) ≡ without_row n (rows_of ss)
rows_without n [] = refl
rows_without n (s ∷ ss) = elim (s.number == n) as (λ b. rows_of (cond (not b) (s ∷ without_stream n ss) (without_stream n ss)) ≡ cond (not b) (row_of s ∷ without_row n (rows_of ss)) (without_row n (rows_of ss))) [
  | true ↦ rows_without n ss
  | false ↦ ap (λ (l : List Row). row_of s ∷ l) (rows_without n ss)
]

nothing_below : (n : ℕ) → 0 ≤ n
nothing_below n = omega arith

pub indexed_push : (rows : List Row) (ss : List Stream) (t : Stream) → Indexed rows ss → Indexed (with_row (row_of t) rows) (ss ++ t ∷ [])
indexed_push rows ss t h = record {
  rising = with_row_rises 0 (row_of t) rows (nothing_below (row_of t).digest) h.rising;
  same =
      λ d. under_with_row d 0 (row_of t) rows h.rising ∙ ap (λ (l : List Row). l ++ under d (row_of t ∷ [])) (h.same d)
      ∙ sym (ap (under d) (rows_append ss t) ∙ filter_append (is_under d) (rows_of ss) (row_of t ∷ []));
}

pub indexed_without : (n : ℕ) (rows : List Row) (ss : List Stream) → Indexed rows ss → Indexed (without_row n rows) (without_stream n ss)
indexed_without n rows ss h = record {
  rising = without_row_rises n 0 rows h.rising;
  same = λ d. under_without d n rows ∙ ap (without_row n) (h.same d) ∙ sym (ap (under d) (rows_without n ss) ∙ under_without d n (rows_of ss));
}

pub indexed_nothing : Indexed [] []
indexed_nothing = record { rising = refl; same = λ d. refl }

pub rows_map : (f : Stream → Stream) → ((s : Stream) → row_of (f s) ≡ row_of s) → (ss : List Stream) → rows_of (map f ss) ≡ rows_of ss
rows_map f k [] = refl
rows_map f k (s ∷ ss) = λ i. k s i ∷ rows_map f k ss i

pub indexed_rows : (rows : List Row) (ss us : List Stream) → rows_of us ≡ rows_of ss → Indexed rows ss → Indexed rows us
indexed_rows rows ss us e h = record { rising = h.rising; same = λ d. h.same d ∙ sym (ap (under d) e) }

row_changed : (n : ℕ) (f : Stream → Stream) → ((s : Stream) → row_of (f s) ≡ row_of s) → (s : Stream) → row_of (changed_stream n f s) ≡ row_of s
row_changed n f k s = elim (s.number == n) as (λ b. row_of (cond b (f s) s) ≡ row_of s) [ true ↦ k s | false ↦ refl ]

pub backed_same : (index : RangeIndex) (ss us : List Stream) → rows_of us ≡ rows_of ss → Backed index ss → Backed index us
backed_same index ss us e h = λ stands. indexed_rows index.rows.items ss us e (h stands)

pub backed_changed : (index : RangeIndex) (n : ℕ) (f : Stream → Stream) → ((s : Stream) → row_of (f s) ≡ row_of s) → (ss : List Stream) → Backed index ss → Backed index (with_stream n f ss)
backed_changed index n f k ss h = backed_same index ss (with_stream n f ss) (rows_map (changed_stream n f) (row_changed n f k) ss) h

-- What is found.

-- the streams of all rows
found_all : List Row → List Stream → List Stream
found_all [] all = []
found_all (r ∷ rs) all = pushed (stream_at r.number all) (found_all rs all)

behind_digest : (d low : ℕ) (rs : List Row) (all : List Stream) → rising low rs ≡ true → d ≤ low → found_in d rs all ≡ found_all (under d rs) all
unfolding found_all
behind_digest d low [] all h l = refl
behind_digest d low (r ∷ rs) all h l =
    let p = rest_rising low r rs h in
    elim (r.digest == d) as (λ b. (r.digest == d) ≡ b → cond b (pushed (stream_at r.number all) (found_in d rs all)) [] ≡ found_all (cond b (r ∷ under d rs) (under d rs)) all) [
      | true ↦ λ e. ap (pushed (stream_at r.number all)) (behind_digest d r.digest rs all p.1 (let m : d ≤ r.digest = grind (arith, nat_tests) in m))
      | false ↦ λ e. sym (ap (λ (l : List Row). found_all l all) (none_under d r.digest rs p.1 (let m = p.0 in let n : d < r.digest = grind (arith, nat_tests) in n)))
    ] refl

below_other : (a d : ℕ) → nat_lt a d ≡ true → (a == d) ≡ false
below_other a d e = grind (arith, nat_tests)

found_behind : (d low : ℕ) (rs : List Row) (all : List Stream) → rising low rs ≡ true → found_in d (drop (before d rs) rs) all ≡ found_all (under d rs) all
unfolding found_all
found_behind d low [] all h = refl
found_behind d low (r ∷ rs) all h =
    let p = rest_rising low r rs h in
    elim (nat_lt r.digest d) as (λ b. nat_lt r.digest d ≡ b → found_in d (drop (cond b (suc (before d rs)) 0) (r ∷ rs)) all ≡ found_all (under d (r ∷ rs)) all) [
      | true ↦ λ e. found_behind d r.digest rs all p.1 ∙ sym (ap (λ c. found_all (cond c (r ∷ under d rs) (under d rs)) all) (below_other r.digest d e))
      | false ↦ λ e. behind_digest d d (r ∷ rs) all (from_here d r rs p.1 e) (omega arith)
    ] refl
  where
    from_here : (d : ℕ) (r : Row) (rs : List Row) → rising r.digest rs ≡ true → nat_lt r.digest d ≡ false → rising d (r ∷ rs) ≡ true
    from_here d r rs h e = grind (arith, nat_tests)

abbrev pub has_digest : ℕ → Stream → Bool
has_digest d s = digest s.stream.range == d

found_streams : (d low high : ℕ) (ss all : List Stream) → numbered low high ss ≡ true → ((k : ℕ) → low < k → stream_at k ss ≡ stream_at k all) → found_all (under d (rows_of ss)) all ≡ filter (has_digest d) ss
unfolding found_all
found_streams d low high [] all h e = refl
found_streams d low high (s ∷ ss) all h e =
    let above : low < s.number = grind (arith, nat_tests) in
    let rest : numbered s.number high ss ≡ true = grind (arith, nat_tests) in
    let here : stream_at s.number all ≡ Some s = sym (e s.number above) ∙ ap (λ b. cond b (Some s) (stream_at s.number ss)) (number_itself s.number) in
    let far = found_streams d s.number high ss all rest (λ k l. sym (ap (λ b. cond b (Some s) (stream_at k ss)) (other s.number k l)) ∙ e k (omega (arith, above, l))) in
    elim (digest s.stream.range == d) as (λ b. found_all (cond b (row_of s ∷ under d (rows_of ss)) (under d (rows_of ss))) all ≡ cond b (s ∷ filter (has_digest d) ss) (filter (has_digest d) ss)) [
      | true ↦ ap (λ o. pushed o (found_all (under d (rows_of ss)) all)) here ∙ ap (λ (l : List Stream). s ∷ l) far
      | false ↦ far
    ]
  where
    other : (a k : ℕ) → a < k → (a == k) ≡ false
    other a k l = grind (arith, nat_tests)

pub found_is : (d high : ℕ) (rows : List Row) (ss : List Stream) → numbered 0 high ss ≡ true → Indexed rows ss → found_in d (drop (before d rows) rows) ss ≡ filter (has_digest d) ss
found_is d high rows ss n h = found_behind d 0 rows ss h.rising ∙ ap (λ (l : List Row). found_all l ss) (h.same d) ∙ found_streams d 0 high ss ss n (λ k l. refl)

pub rest_of : (k : ℕ) (rows : List Row) → take (length rows - k) (drop k rows) ≡ drop k rows
rest_of k rows = ap (λ (n : ℕ). take n (drop k rows)) (sym (length-drop k rows)) ∙ take-length (drop k rows)

-- No other stream can be joined.

pub same_digest : (r s : KeyRange) → same_range r s ≡ true → digest r ≡ digest s
same_digest r s e =
    ap digest (λ i. record { key = same-equal r.key s.key (and_first (same r.key s.key) (same r.end s.end) e) i; end = same-equal r.end s.end (and_second (same r.key s.key) (same r.end s.end) e) i })

other_range : (range : KeyRange) (s : Stream) → (digest s.stream.range == digest range) ≡ false → same_range s.stream.range range ≡ false
other_range range s e = by (same_range s.stream.range range) refl
  where
    itself : (a b : ℕ) → a ≡ b → (a == b) ≡ true
    itself a b e = grind (arith, nat_tests)

    by : (b : Bool) → same_range s.stream.range range ≡ b → b ≡ false
    by true q = absurd (let t = itself (digest s.stream.range) (digest range) (same_digest s.stream.range range q) in let f : true ≡ false = sym t ∙ e in cc)
    by false q = refl

pub best_is : (range : KeyRange) (limit : ℕ) (best : Option Stream) (ss : List Stream) → best_of range limit best (filter (has_digest (digest range)) ss) ≡ best_of range limit best ss
best_is range limit best [] = refl
best_is range limit best (s ∷ ss) =
    elim (digest s.stream.range == digest range) as (λ b. (digest s.stream.range == digest range) ≡ b → best_of range limit best (cond b (s ∷ filter (has_digest (digest range)) ss) (filter (has_digest (digest range)) ss)) ≡ best_of range limit best (s ∷ ss)) [
      | true ↦ λ e. best_is range limit (cond (is_joinable range limit s) (better s best) best) ss
      | false ↦ λ e.
          best_is range limit best ss
          ∙ sym (ap (λ c. best_of range limit (cond (c && not (is_closing s.phase) && not (s.stream.next == 0) && nat_le s.stream.next limit) (better s best) best) ss) (other_range range s e))
    ] refl

pub opening_is : (range : KeyRange) (ss : List Stream) → opening_from_now range (filter (has_digest (digest range)) ss) ≡ opening_from_now range ss
opening_is range [] = refl
opening_is range (s ∷ ss) =
    elim (digest s.stream.range == digest range) as (λ b. (digest s.stream.range == digest range) ≡ b → opening_from_now range (cond b (s ∷ filter (has_digest (digest range)) ss) (filter (has_digest (digest range)) ss)) ≡ opening_from_now range (s ∷ ss)) [
      | true ↦ λ e. ap (λ (o : Option Stream). cond (is_opening_from_now range s) (Some s) o) (opening_is range ss)
      | false ↦ λ e.
          opening_is range ss ∙ sym (ap (λ c. cond (c && not (is_closing s.phase) && s.stream.next == 0) (Some s) (opening_from_now range ss)) (other_range range s e))
    ] refl
