-- The steps of streams and watches keep that nothing is held back.
use Rattle.std.proofs.Common.{◌≡◌, ℕ, ◌+◌, ◌≤◌, ◌<◌, max, Bool, true, false, cond, ◌&&◌, ◌==◌, nat_le, List, [], ◌∷◌, ◌++◌, map, Option, None, Some, is_some, refl, ap, sym, subst, ◌∙◌, ◌⊎◌, inl, inr, arith}
use Rattle.std.proofs.lemmas.Bool.Decides.{nat_tests}
use Rattle.etcd_types.proofs.KeyOrder.{same-equal}
use Rattle.etcd_types.specs.Keys.{same}
use Rattle.etcd_types.specs.declared.key_range.KeyRange.{KeyRange}
use Rattle.etcd_types.specs.declared.record.Header.{Header}
use Rattle.etcd_types.specs.declared.watch.Event.{Event}
use Rattle.etcd_types.specs.declared.watch.WatchItem.{WatchItem}
use Rattle.etcd_types.specs.declared.watch.WatchItem.TheVariants as item
use Rattle.std.specs.Option.{option_map}
use Rattle.proxy_model.specs.Limits.{capped}
use Rattle.proxy_model.specs.Upstream.{Upstream, cut}
use Rattle.watch_model.specs.Queues.{item_events, queued_events, with_progress, is_progress}
use Rattle.watch_model.specs.declared.stream.StreamPhase.TheVariants as phase
use Rattle.watch_model.specs.declared.place.WatchPlace.{WatchPlace}
use Rattle.watch_model.specs.declared.place.WatchPlace.TheVariants as place
use Rattle.watch_model.specs.State.{Stream, Watch, Broadcasts}
use Rattle.watch_model.specs.Lookups.{same_range, stream_at, place_stream, with_stream, without_stream, is_in, has_member, member_changed, is_due, is_standing, numbered}
use Rattle.watch_model.specs.Merging.{is_of, keeper, kept_by, merged_number, merged_place, merged_stream, merged_watch, merged}
use Rattle.watch_model.specs.Splitting.{closed, emptied_as, emptied}
use Rattle.watch_model.specs.Delivery.{given_batch, advanced, last_revision, delivered_events, progressed, delivered_progress}
use Rattle.watch_model.specs.Cuts.{renumbered, reopened}
use Rattle.watch_model.specs.Story.{Story, Received, between, rises, changes, wanted, WatchOk, is_member, Holds, Rising, Tells, TellsNone}
use Rattle.watch_laws.proofs.Keeping.{given_ok}
use Rattle.watch_model.proofs.Numbers.{emptied-numbered, merged-keeps}
use Rattle.watch_model.proofs.Streams.{at-map, at_number, number_itself, at-with_stream, others-with_stream, others-without_stream, or_stream, at-push, none_above, numbered-map, changed-keeps, numbered-without, numbered-push, each_mapped, each_outside}

-- A stream without members.

pub emptied-other : (n step : ℕ) (ss : List Stream) (o : Option Stream) (p : WatchPlace) → is_in n p ≡ false → place_stream (emptied_as n step ss o) p ≡ place_stream ss p
emptied-other n step ss None p e = refl
emptied-other n step ss (Some s) p e =
    elim (is_due s.phase) as (λ b. place_stream (cond b (without_stream n ss) (with_stream n (closed step) ss)) p ≡ place_stream ss p) [
      | true ↦ others-without_stream n ss p e
      | false ↦ others-with_stream n (closed step) (λ s. refl) ss p e
    ]

pub emptied_holds : (story : Story) (got : Received) (n : ℕ) (b : Broadcasts) → Holds story got b → Holds story got (emptied n b)
emptied_holds story got n b h =
    let ss = emptied_as n b.step b.streams (stream_at n b.streams) in
    elim (has_member n b.watches) as (λ c. has_member n b.watches ≡ c → Holds story got (cond c b (record b { streams = ss }))) [
      | true ↦ λ e. h
      | false ↦ λ e. record {
        numbers = emptied-numbered n b.step 0 b.given b.streams (stream_at n b.streams) h.numbers;
        watches =
            each_outside (λ w. WatchOk story (got w.ticket) (place_stream b.streams w.place) w) (λ w. WatchOk story (got w.ticket) (place_stream ss w.place) w) n
            (λ w d k. subst (λ (o : Option Stream). WatchOk story (got w.ticket) o w) (sym (emptied-other n b.step b.streams (stream_at n b.streams) w.place d)) k)
            b.watches e h.watches;
      }
    ] refl

-- A change of a stream and its members.

pub in_place : (n : ℕ) (p : WatchPlace) → is_in n p ≡ true → p ≡ place.In n
in_place n (place.In m) e = let one : m ≡ n = same_number m n e in ap (λ (k : ℕ). place.In k) one
  where
    same_number : (a b : ℕ) → (a == b) ≡ true → a ≡ b
    same_number a b e = grind (arith, nat_tests)
in_place n place.Split e = absurd (cc)
in_place n place.Ended e = absurd (cc)

pub on_members : (story : Story) (got : Received) (n : ℕ) (s : Stream) (f : Watch → Watch) (ss us : List Stream) → stream_at n ss ≡ Some s
    → ((w : Watch) → w.place ≡ place.In n → WatchOk story (got w.ticket) (Some s) w → WatchOk story (got (f w).ticket) (place_stream us (f w).place) (f w))
    → ((w : Watch) → is_in n w.place ≡ false → WatchOk story (got w.ticket) (place_stream ss w.place) w → WatchOk story (got w.ticket) (place_stream us w.place) w)
    → (w : Watch) → WatchOk story (got w.ticket) (place_stream ss w.place) w
    → WatchOk story (got (member_changed n f w).ticket) (place_stream us (member_changed n f w).place) (member_changed n f w)
on_members story got n s f ss us e k l w h =
    elim (is_in n w.place) as (λ c. is_in n w.place ≡ c → WatchOk story (got (cond c (f w) w).ticket) (place_stream us (cond c (f w) w).place) (cond c (f w) w)) [
      | true ↦ λ q.
          let p = in_place n w.place q in
          k w p (subst (λ (o : Option Stream). WatchOk story (got w.ticket) o w) (ap (place_stream ss) p ∙ e) h)
      | false ↦ λ q. l w q h
    ] refl

-- A batch is delivered.

pub delivered_holds : (story : Story) (got : Received) (b : Broadcasts) (s : Stream) (header : Header) (es : List Event)
    → Rising story → (s.stream.next == 0) ≡ false → stream_at s.number b.streams ≡ Some s → Tells story s es → Holds story got b → Holds story got (delivered_events b s header es)
delivered_holds story got b s header es r z e t h =
    let n = s.number in
    let f = advanced (last_revision 0 es) in
    let ss = with_stream n f b.streams in
    emptied_holds story got n _ (record {
      numbers = numbered-map _ (changed-keeps n f (λ s. refl)) 0 b.given b.streams h.numbers;
      watches =
          each_mapped (λ w. WatchOk story (got w.ticket) (place_stream b.streams w.place) w) (λ w. WatchOk story (got w.ticket) (place_stream ss w.place) w) (member_changed n (given_batch s.stream.next header es))
          (on_members story got n s (given_batch s.stream.next header es) b.streams ss e
          (λ w p k. given_ok story got s header es w (capped (last_revision 0 es + 1)) (f s) (r w.ask.range) z k refl refl t ss (ap (place_stream ss) p ∙ at-with_stream n f (λ s. refl) b.streams s e))
          (λ w d k. subst (λ (o : Option Stream). WatchOk story (got w.ticket) o w) (sym (others-with_stream n f (λ s. refl) b.streams w.place d)) k))
          b.watches h.watches;
    })

-- A message without events.

pub empty_item : (i : WatchItem) → is_progress i ≡ true → item_events i ≡ []
empty_item (item.Created header) e = refl
empty_item (item.Events header []) e = refl
empty_item (item.Events header (x ∷ xs)) e = absurd (cc)
empty_item (item.Canceled header compact) e = refl

pub no_more_events : (header : Header) (q : List WatchItem) → queued_events (with_progress q (item.Events header [])) ≡ queued_events q
no_more_events header [] = refl
no_more_events header (i ∷ []) =
    elim (is_progress i) as (λ b. is_progress i ≡ b → queued_events (cond b (item.Events header [] ∷ []) (i ∷ item.Events header [] ∷ [])) ≡ item_events i ++ []) [
      | true ↦ λ e. sym (ap (λ (l : List Event). l ++ []) (empty_item i e))
      | false ↦ λ e. refl
    ] refl
no_more_events header (i ∷ j ∷ q) = ap (λ (l : List Event). item_events i ++ l) (no_more_events header (j ∷ q))

-- the watch with another queue of the same events
pub requeued_ok : (story : Story) (got : List Event) (o : Option Stream) (w : Watch) (q : List WatchItem) → queued_events q ≡ queued_events w.queue → WatchOk story got o w → WatchOk story got o (record w { queue = q })
requeued_ok story got o w q e h = record {
  member = h.member;
  range = h.range;
  decided = h.decided;
  starts = h.starts;
  kept = ap (λ (l : List Event). changes (got ++ l)) e ∙ h.kept;
}

progressed_ok : (story : Story) (got : Received) (s : Stream) (header : Header) (w : Watch) (m : ℕ) (p : Stream)
    → rises 0 (story w.ask.range) ≡ true → (s.stream.next == 0) ≡ false → WatchOk story (got w.ticket) (Some s) w → p.stream.next ≡ max s.stream.next m → p.stream.range ≡ s.stream.range
    → between s.stream.next m (story s.stream.range) ≡ [] → (us : List Stream) → place_stream us w.place ≡ Some p
    → let v : Watch = progressed s.stream.next header w in WatchOk story (got v.ticket) (place_stream us v.place) v
progressed_ok story got s header w m p r z h e k c us q =
    let more = record w { queue = with_progress w.queue (item.Events header []) } in
    let moved = given_ok story got s header [] w m p r z h e k (sym c) us q in
    elim (w.ask.progress && nat_le (max w.next s.stream.next) (header.revision + 1)) as (λ b. WatchOk story (got (cond b more w).ticket) (place_stream us (cond b more w).place) (cond b more w)) [
      | true ↦ requeued_ok story (got w.ticket) (place_stream us w.place) w (with_progress w.queue (item.Events header [])) (no_more_events header w.queue) moved
      | false ↦ moved
    ]

pub progress_holds : (story : Story) (got : Received) (b : Broadcasts) (s : Stream) (header : Header)
    → Rising story → (s.stream.next == 0) ≡ false → stream_at s.number b.streams ≡ Some s → TellsNone story s header.revision → Holds story got b → Holds story got (delivered_progress b s header)
progress_holds story got b s header r z e t h =
    let n = s.number in
    let f = advanced header.revision in
    let us = with_stream n f b.streams in
    let g = progressed s.stream.next header in
    elim (nat_le s.stream.next (header.revision + 1)) as (λ c. Holds story got (cond c (record b { streams = us; watches = map (member_changed n g) b.watches }) b)) [
      | false ↦ h
      | true ↦ record {
        numbers = numbered-map _ (changed-keeps n f (λ s. refl)) 0 b.given b.streams h.numbers;
        watches =
            each_mapped (λ w. WatchOk story (got w.ticket) (place_stream b.streams w.place) w) (λ w. WatchOk story (got w.ticket) (place_stream us w.place) w) (member_changed n g)
            (on_members story got n s g b.streams us e
            (λ w p k. progressed_ok story got s header w (capped (header.revision + 1)) (f s) (r w.ask.range) z k refl refl t us (ap (place_stream us) p ∙ at-with_stream n f (λ s. refl) b.streams s e))
            (λ w d k. subst (λ (o : Option Stream). WatchOk story (got w.ticket) o w) (sym (others-with_stream n f (λ s. refl) b.streams w.place d)) k))
            b.watches h.watches;
      }
    ]

-- A cut.

-- the watch under another stream with the same range and next
pub moved_ok : (story : Story) (got : List Event) (s p : Stream) (w : Watch) (m : ℕ) → p.stream.next ≡ s.stream.next → p.stream.range ≡ s.stream.range → WatchOk story got (Some s) w
    → WatchOk story got (Some p) (record w { place = place.In m })
moved_ok story got s p w m e k h = record {
  member = refl;
  range = λ t f. let one : p ≡ t = cc in ap (λ (x : Stream). x.stream.range) (sym one) ∙ k ∙ h.range s refl;
  decided = λ t f. let one : p ≡ t = cc in h.decided s refl ∙ ap (λ (n : ℕ). n == 0) (sym e) ∙ ap (λ (x : Stream). x.stream.next == 0) one;
  starts = subst (λ (n : ℕ). w.start ≤ max w.next n) (sym e) h.starts;
  kept = h.kept ∙ ap (λ (n : ℕ). wanted w.ask (between w.start (max w.next n) (story w.ask.range))) (sym e);
}

pub still_there : (story : Story) (got : List Event) (ss : List Stream) (t : Stream) (w : Watch) → WatchOk story got (place_stream ss w.place) w → place_stream (ss ++ t ∷ []) w.place ≡ place_stream ss w.place
still_there story got ss t w h = go w.place h.member
  where
    there : (o x : Option Stream) → is_some o ≡ true → or_stream o x ≡ o
    there None x e = absurd (cc)
    there (Some s) x e = refl

    go : (p : WatchPlace) → is_some (place_stream ss p) ≡ is_member p → place_stream (ss ++ t ∷ []) p ≡ place_stream ss p
    go (place.In k) e = at-push k ss t ∙ there (stream_at k ss) (cond (t.number == k) (Some t) None) e
    go place.Split e = refl
    go place.Ended e = refl

pub reopened_holds : (story : Story) (got : Received) (b : Broadcasts) (s : Stream) → stream_at s.number b.streams ≡ Some s → Holds story got b → Holds story got (reopened b s)
reopened_holds story got b s e h =
    let n = s.number in
    let m = b.given + 1 in
    let rest = without_stream n b.streams in
    let again : Stream = record { number = m; phase = phase.Due b.step; stream = cut s.stream } in
    let us = rest ++ again ∷ [] in
    let numbers = numbered-without n 0 b.given b.streams h.numbers in
    let fresh : stream_at m us ≡ Some again =
    at-push m rest again
    ∙ ap (λ o. or_stream o (cond (m == m) (Some again) None)) (none_above 0 b.given m rest numbers (omega arith))
    ∙ ap (λ c. cond c (Some again) None) (number_itself m) in
    record {
      numbers = numbered-push 0 b.given rest again (omega arith) refl numbers;
      watches =
          each_mapped (λ w. WatchOk story (got w.ticket) (place_stream b.streams w.place) w) (λ w. WatchOk story (got w.ticket) (place_stream us w.place) w) (renumbered n m)
          (on_members story got n s (λ w. record w { place = place.In m }) b.streams us e
          (λ w p k. subst (λ (o : Option Stream). WatchOk story (got w.ticket) o (record w { place = place.In m })) (sym fresh) (moved_ok story (got w.ticket) s again w m refl refl k))
          (λ w d k.
          let j = subst (λ (o : Option Stream). WatchOk story (got w.ticket) o w) (sym (others-without_stream n b.streams w.place d)) k in
          subst (λ (o : Option Stream). WatchOk story (got w.ticket) o w) (sym (still_there story (got w.ticket) rest again w j)) j))
          b.watches h.watches;
    }

-- the watch with its place written out
still_ok : (story : Story) (got : List Event) (w : Watch) (p : WatchPlace) → w.place ≡ p → WatchOk story got None w → WatchOk story got None (record w { place = p })
still_ok story got w p e h = record { member = h.member ∙ ap is_member e; range = h.range; decided = h.decided; starts = h.starts; kept = h.kept }

-- A merge.

pub record Keeper (range : KeyRange) (next k : ℕ) (ss : List Stream) : Type 0 where
  pub stream : Stream
  pub at : stream_at k ss ≡ Some stream
  pub next_is : stream.stream.next ≡ next
  pub range_is : same_range stream.stream.range range ≡ true
  pub of_is : is_of range stream ≡ true

below_found : (low high k : ℕ) (ss : List Stream) (t : Stream) → numbered low high ss ≡ true → stream_at k ss ≡ Some t → low < k
below_found low high k [] t h e = absurd (cc)
below_found low high k (s ∷ ss) t h e =
    let above : low < s.number = grind (arith, nat_tests) in
    let rest : numbered s.number high ss ≡ true = grind (arith, nat_tests) in
    elim (s.number == k) as (λ b. (s.number == k) ≡ b → cond b (Some s) (stream_at k ss) ≡ Some t → low < k) [
      | true ↦ λ q f. grind (arith, nat_tests)
      | false ↦ λ q f. let l = below_found s.number high k ss t rest f in omega (arith, l, above)
    ] refl e

pub two_tests : (a b : Bool) → (a && b) ≡ true → (a ≡ true) × (b ≡ true)
two_tests true true e = (refl, refl)
two_tests true false e = absurd (cc)
two_tests false b e = absurd (cc)

equal_numbers : (a b : ℕ) → (a == b) ≡ true → a ≡ b
equal_numbers a b e = grind (arith, nat_tests)

other_numbers : (a b : ℕ) → a < b → (a == b) ≡ false
other_numbers a b l = grind (arith, nat_tests)

pub keeper_is : (range : KeyRange) (next number low high : ℕ) (ss : List Stream) → numbered low high ss ≡ true → (keeper range next number ss ≡ number) ⊎ Keeper range next (keeper range next number ss) ss
keeper_is range next number low high [] h = inl refl
keeper_is range next number low high (s ∷ ss) h =
    let rest : numbered s.number high ss ≡ true = grind (arith, nat_tests) in
    let later = keeper_is range next number s.number high ss rest in
    elim (is_of range s && s.stream.next == next) as (λ c. (is_of range s && s.stream.next == next) ≡ c → (cond c s.number (keeper range next number ss) ≡ number) ⊎ Keeper range next (cond c s.number (keeper range next number ss)) (s ∷ ss)) [
      | true ↦ λ q.
          let p = two_tests (is_of range s) (s.stream.next == next) q in
          inr (record {
            stream = s;
            at = ap (λ b. cond b (Some s) (stream_at s.number ss)) (number_itself s.number);
            next_is = equal_numbers s.stream.next next p.1;
            range_is = (two_tests (same_range s.stream.range range) (is_standing s) p.0).0;
            of_is = p.0;
          })
      | false ↦ λ q. elim later [
        | inl e ↦ inl e
        | inr k ↦ inr (record {
          stream = k.stream;
          at = ap (λ b. cond b (Some s) (stream_at (keeper range next number ss) ss)) (other_numbers s.number (keeper range next number ss) (below_found s.number high (keeper range next number ss) ss k.stream rest k.at)) ∙ k.at;
          next_is = k.next_is;
          range_is = k.range_is;
          of_is = k.of_is;
        })
      ]
    ] refl

merged-next : (range : KeyRange) (ss : List Stream) (step : ℕ) (s : Stream) → (merged_stream range ss step s).stream ≡ s.stream
merged-next range ss step s = elim (kept_by range ss s == s.number) as (λ b. (cond b s (record s { phase = phase.Closing step })).stream ≡ s.stream) [ true ↦ refl | false ↦ refl ]

pub same_ranges : (r s : KeyRange) → same_range r s ≡ true → r ≡ s
same_ranges r s e =
    let p = two_tests (same r.key s.key) (same r.end s.end) e in
    λ i. record { key = same-equal r.key s.key p.0 i; end = same-equal r.end s.end p.1 i }

-- a stream with the range and the next of s, under this number
pub record StandsFor (ss : List Stream) (s : Stream) (k : ℕ) : Type 0 where
  pub stream : Stream
  pub at : stream_at k ss ≡ Some stream
  pub next_is : stream.stream.next ≡ s.stream.next
  pub range_is : stream.stream.range ≡ s.stream.range

pub kept_by_is : (range : KeyRange) (ss : List Stream) (s : Stream) (n high : ℕ) → numbered 0 high ss ≡ true → stream_at n ss ≡ Some s → StandsFor ss s (kept_by range ss s)
kept_by_is range ss s n high h e =
    let itself : stream_at s.number ss ≡ Some s = ap (λ (k : ℕ). stream_at k ss) (at_number n ss s e) ∙ e in
    elim (is_of range s) as (λ c. is_of range s ≡ c → StandsFor ss s (cond c (keeper range s.stream.next s.number ss) s.number)) [
      | true ↦ λ q. elim (keeper_is range s.stream.next s.number 0 high ss h) [
        | inl f ↦ record { stream = s; at = ap (λ (j : ℕ). stream_at j ss) f ∙ itself; next_is = refl; range_is = refl }
        | inr k ↦ record {
          stream = k.stream;
          at = k.at;
          next_is = k.next_is;
          range_is = same_ranges k.stream.stream.range range k.range_is ∙ sym (same_ranges s.stream.range range (two_tests (same_range s.stream.range range) (is_standing s) q).0);
        }
      ]
      | false ↦ λ q. record { stream = s; at = itself; next_is = refl; range_is = refl }
    ] refl

merged_ok : (story : Story) (got : List Event) (range : KeyRange) (ss : List Stream) (step high : ℕ) → numbered 0 high ss ≡ true → (w : Watch)
    → (p : WatchPlace) → w.place ≡ p → WatchOk story got (place_stream ss p) w
    → WatchOk story got (place_stream (map (merged_stream range ss step) ss) (merged_place range ss p)) (record w { place = merged_place range ss p })
merged_ok story got range ss step high h w (place.In n) q k = go (stream_at n ss) refl k
  where
    go : (o : Option Stream) → stream_at n ss ≡ o → WatchOk story got o w
        → WatchOk story got (stream_at (merged_number range ss n o) (map (merged_stream range ss step) ss)) (record w { place = place.In (merged_number range ss n o) })
    go None e k = absurd (let m : false ≡ is_member w.place = k.member in let one : is_member w.place ≡ true = ap is_member q in cc)
    go (Some s) e k =
        let kb = kept_by_is range ss s n high h e in
        let f = merged_stream range ss step in
        let at : stream_at (kept_by range ss s) (map f ss) ≡ Some (f kb.stream) = at-map f (merged-keeps range ss step) (kept_by range ss s) ss ∙ ap (option_map f) kb.at in
        let same = merged-next range ss step kb.stream in
        subst (λ (o : Option Stream). WatchOk story got o (record w { place = place.In (kept_by range ss s) })) (sym at)
        (moved_ok story got s (f kb.stream) w (kept_by range ss s) (ap (λ (u : Upstream). u.next) same ∙ kb.next_is) (ap (λ (u : Upstream). u.range) same ∙ kb.range_is) k)
merged_ok story got range ss step high h w place.Split q k = still_ok story got w place.Split q k
merged_ok story got range ss step high h w place.Ended q k = still_ok story got w place.Ended q k

pub merged_holds : (story : Story) (got : Received) (range : KeyRange) (b : Broadcasts) → Holds story got b → Holds story got (merged range b)
merged_holds story got range b h =
    let us = map (merged_stream range b.streams b.step) b.streams in
    record {
      numbers = numbered-map (merged_stream range b.streams b.step) (merged-keeps range b.streams b.step) 0 b.given b.streams h.numbers;
      watches =
          each_mapped (λ w. WatchOk story (got w.ticket) (place_stream b.streams w.place) w) (λ w. WatchOk story (got w.ticket) (place_stream us w.place) w) (merged_watch range b.streams)
          (λ w k. merged_ok story (got w.ticket) range b.streams b.step b.given h.numbers w w.place refl k)
          b.watches h.watches;
    }
