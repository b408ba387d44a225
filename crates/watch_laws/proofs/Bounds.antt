-- Merged streams have no twins, and queues are bounded.
use Rattle.std.proofs.Common.{◌≡◌, ℕ, ◌+◌, ◌≤◌, max, true, false, cond, ◌&&◌, ◌==◌, List, [], ◌∷◌, ◌++◌, map, length, length-append, Option, None, Some, refl, ap, sym, ◌∙◌, append-nil, arith}
use Rattle.std.proofs.lemmas.Bool.Decides.{nat_tests}
use Rattle.etcd_types.specs.declared.key_range.KeyRange.{KeyRange}
use Rattle.etcd_types.specs.declared.record.Header.{Header}
use Rattle.etcd_types.specs.declared.watch.Event.{Event}
use Rattle.etcd_types.specs.declared.watch.WatchItem.{WatchItem}
use Rattle.etcd_types.specs.declared.watch.WatchItem.TheVariants as item
use Rattle.std.specs.Option.{option_map}
use Rattle.watch_model.specs.Queues.{queued_events, events_in, would_pass}
use Rattle.watch_model.specs.declared.stream.StreamPhase.TheVariants as phase
use Rattle.watch_model.specs.declared.place.WatchPlace.TheVariants as place
use Rattle.watch_model.specs.State.{Stream, Watch}
use Rattle.watch_model.specs.Lookups.{same_range, stream_at}
use Rattle.watch_model.specs.Merging.{is_of, keeper, kept_by, merged_stream}
use Rattle.watch_model.specs.Delivery.{queued}
use Rattle.watch_model.specs.Story.{NoTwins}
use Rattle.watch_model.proofs.Streams.{at-map, at_number}
use Rattle.watch_model.proofs.Numbers.{merged-keeps}
use Rattle.watch_laws.proofs.Steps.{two_tests}
use Rattle.watch_laws.proofs.Keeping.{queued_events-append}

-- whose keeper is found doesn't depend on who asks
pub keeper_same : (range : KeyRange) (a b k : ℕ) (ss : List Stream) (s : Stream) → stream_at k ss ≡ Some s → is_of range s ≡ true → keeper range s.stream.next a ss ≡ keeper range s.stream.next b ss
keeper_same range a b k [] s e f = absurd (cc)
keeper_same range a b k (t ∷ ss) s e f =
    elim (t.number == k) as (λ c. cond c (Some t) (stream_at k ss) ≡ Some s → cond (is_of range t && t.stream.next == s.stream.next) t.number (keeper range s.stream.next a ss) ≡ cond (is_of range t && t.stream.next == s.stream.next) t.number (keeper range s.stream.next b ss)) [
      | true ↦ λ g.
          let one : t ≡ s = cc in
          let q : (is_of range t && t.stream.next == s.stream.next) ≡ true = ap (λ (x : Stream). is_of range x && x.stream.next == s.stream.next) one ∙ ap (λ c. c && s.stream.next == s.stream.next) f ∙ itself s.stream.next in
          ap (λ c. cond c t.number (keeper range s.stream.next a ss)) q ∙ sym (ap (λ c. cond c t.number (keeper range s.stream.next b ss)) q)
      | false ↦ λ g. ap (λ (n : ℕ). cond (is_of range t && t.stream.next == s.stream.next) t.number n) (keeper_same range a b k ss s g f)
    ] e
  where
    itself : (n : ℕ) → (n == n) ≡ true
    itself n = grind (arith, nat_tests)

-- one that stands after the merge keeps itself
keeps_itself : (range : KeyRange) (ss : List Stream) (step : ℕ) (s : Stream) → is_of range (merged_stream range ss step s) ≡ true → (merged_stream range ss step s ≡ s) × (kept_by range ss s ≡ s.number)
keeps_itself range ss step s e =
    elim (kept_by range ss s == s.number) as (λ b. (kept_by range ss s == s.number) ≡ b → is_of range (cond b s (record s { phase = phase.Closing step })) ≡ true → (cond b s (record s { phase = phase.Closing step }) ≡ s) × (kept_by range ss s ≡ s.number)) [
      | true ↦ λ q f. (refl, equal (kept_by range ss s) s.number q)
      | false ↦ λ q f. absurd (let p = two_tests (same_range s.stream.range range) false f in let g : false ≡ true = p.1 in cc)
    ] refl e
  where
    equal : (a b : ℕ) → (a == b) ≡ true → a ≡ b
    equal a b e = grind (arith, nat_tests)

pub back : (f : Stream → Stream) (o : Option Stream) (t : Stream) → option_map f o ≡ Some t → (s : Stream) × (o ≡ Some s) × (f s ≡ t)
back f None t e = absurd (cc)
back f (Some s) t e = let one : f s ≡ t = cc in (s, refl, one)

pub merged_alone : (range : KeyRange) (ss : List Stream) (step : ℕ) → NoTwins range (map (merged_stream range ss step) ss)
merged_alone range ss step j k s t a b d e n =
    let f = merged_stream range ss step in
    let x = back f (stream_at j ss) s (sym (at-map f (merged-keeps range ss step) j ss) ∙ a) in
    let y = back f (stream_at k ss) t (sym (at-map f (merged-keeps range ss step) k ss) ∙ b) in
    let p = keeps_itself range ss step x.0 (ap (is_of range) x.2 ∙ d) in
    let q = keeps_itself range ss step y.0 (ap (is_of range) y.2 ∙ e) in
    let sx : x.0 ≡ s = sym p.0 ∙ x.2 in
    let ty : y.0 ≡ t = sym q.0 ∙ y.2 in
    let dx : is_of range x.0 ≡ true = ap (is_of range) sx ∙ d in
    let dy : is_of range y.0 ≡ true = ap (is_of range) ty ∙ e in
    let kx : keeper range x.0.stream.next x.0.number ss ≡ x.0.number = sym (ap (λ c. cond c (keeper range x.0.stream.next x.0.number ss) x.0.number) dx) ∙ p.1 in
    let ky : keeper range y.0.stream.next y.0.number ss ≡ y.0.number = sym (ap (λ c. cond c (keeper range y.0.stream.next y.0.number ss) y.0.number) dy) ∙ q.1 in
    let same : x.0.stream.next ≡ y.0.stream.next = ap (λ (u : Stream). u.stream.next) sx ∙ n ∙ sym (ap (λ (u : Stream). u.stream.next) ty) in
    let one : keeper range x.0.stream.next x.0.number ss ≡ keeper range y.0.stream.next y.0.number ss =
    keeper_same range x.0.number y.0.number j ss x.0 x.1 dx ∙ ap (λ (m : ℕ). keeper range m y.0.number ss) same in
    sym (at_number j ss x.0 x.1) ∙ sym kx ∙ one ∙ ky ∙ at_number k ss y.0 y.1

-- A queue has at most 1,024 events or the events of one message.

pub queued_bound : (header : Header) (own m : ℕ) (xs : List Event) (w : Watch) → length xs ≤ m → events_in w.queue ≤ max 1024 m → events_in (queued header own xs w).queue ≤ max 1024 m
queued_bound header own m [] w l h = h
queued_bound header own m (x ∷ xs) w l h =
    elim (would_pass w.queue (length (x ∷ xs))) as (λ b. would_pass w.queue (length (x ∷ xs)) ≡ b → events_in (cond b (record w { next = own; place = place.Split }) (record w { queue = w.queue ++ item.Events header (x ∷ xs) ∷ [] })).queue ≤ max 1024 m) [
      | true ↦ λ e. h
      | false ↦ λ e. let n = more w.queue in fits w.queue e n
    ] refl
  where
    more : (q : List WatchItem) → events_in (q ++ item.Events header (x ∷ xs) ∷ []) ≡ events_in q + length (x ∷ xs)
    more q = ap length (queued_events-append q (item.Events header (x ∷ xs) ∷ []) ∙ ap (λ (l : List Event). queued_events q ++ l) (append-nil (x ∷ xs))) ∙ length-append (queued_events q) (x ∷ xs)

    fits : (q : List WatchItem) → would_pass q (length (x ∷ xs)) ≡ false → events_in (q ++ item.Events header (x ∷ xs) ∷ []) ≡ events_in q + length (x ∷ xs) → events_in (q ++ item.Events header (x ∷ xs) ∷ []) ≤ max 1024 m
    fits [] e n = omega (arith, n, l)
    fits (i ∷ q) e n = grind (arith, nat_tests)
