-- Each call keeps what holds of the items that stand in queues.
use Rattle.std.proofs.Common.{◌≡◌, ℕ, ◌+◌, ◌≤◌, max, Bool, true, false, cond, ◌&&◌, ◌==◌, nat_le, List, [], ◌∷◌, ◌++◌, map, length, length-append, Option, Some, refl, ap, sym, subst, ◌∙◌, append-nil, append_assoc, arith}
use Rattle.std.proofs.lemmas.Bool.Decides.{nat_tests}
use Rattle.std.proofs.lemmas.List.{length-map}
use Rattle.std.proofs.lemmas.List.Elements.{All-append, All-filter, All-map, All-nil}
use Rattle.std.proofs.lemmas.List.Sums.{length-filter, count_by-le-length}
use Rattle.std.specs.List.{All}
use Rattle.etcd_types.specs.declared.record.Header.{Header}
use Rattle.etcd_types.specs.declared.request.WatchAsk.{WatchAsk}
use Rattle.etcd_types.specs.declared.watch.Event.{Event}
use Rattle.etcd_types.specs.declared.watch.WatchItem.{WatchItem}
use Rattle.etcd_types.specs.declared.watch.WatchItem.TheVariants as item
use Rattle.store_model.specs.History.{History}
use Rattle.watch_model.specs.Queues.{item_events, queued_events, events_in, would_pass, is_for, chosen, is_progress, with_progress}
use Rattle.watch_model.specs.declared.place.WatchPlace.{WatchPlace}
use Rattle.watch_model.specs.declared.place.WatchPlace.TheVariants as place
use Rattle.watch_model.specs.State.{Stream, Watch, Broadcasts}
use Rattle.watch_model.specs.Lookups.{stream_at, watch_at, place_stream, own_next, with_stream, without_watch, watch_changed, member_changed, is_in, is_begun, tickets_from}
use Rattle.watch_model.specs.Joining.{new_watch, seated, joined}
use Rattle.watch_model.specs.Merging.{merged}
use Rattle.watch_model.specs.Delivery.{shown_event, shown_events, queued, given_batch, progressed, advanced, delivered_stream, delivered_message, is_told, is_batch, last_revision}
use Rattle.watch_model.specs.Cuts.{cut_stream}
use Rattle.watch_model.specs.Splitting.{split, split_slow}
use Rattle.watch_model.specs.Takes.{is_last, after_take, taken_from}
use Rattle.watch_model.specs.Story.{Story, Received, received, EachWatch, WatchOk, Holds, TellsNone, story_of}
use Rattle.watch_laws.specs.Calls.{received_if}
use Rattle.watch_laws.specs.Items.{IsTrue, AreTrue, IsShown, ItemsOk, ItemsHold, IsMessage}
use Rattle.watch_model.proofs.Streams.{number_itself, each_mapped}
use Rattle.watch_model.proofs.StepTickets.{progressed-keeps, given-keeps, joined-keeps}
use Rattle.watch_laws.proofs.Keeping.{queued_events-append}
use Rattle.watch_laws.proofs.Steps.{in_place, empty_item, no_more_events}
use Rattle.watch_laws.proofs.Bounds.{queued_bound}
use Rattle.watch_laws.proofs.Histories.{story_rises}
use Rattle.watch_laws.proofs.Seating.{each_inserted, found}
use Rattle.watch_laws.proofs.Calls.{known, others_ok, changed_ok}
use Rattle.watch_laws.proofs.Telling.{member_told}
use Rattle.watch_laws.proofs.Steady.{Steady, seat_steady, merged_steady, cut_steady, emptied_steady, place_steady}

-- Messages without events that stand in a queue.

-- an item behind the queue
true_push : (story : Story) (ask : WatchAsk) (start next : ℕ) (got : List Event) (q : List WatchItem) (i : WatchItem)
    → AreTrue story ask start next got q → IsTrue story ask start next (got ++ queued_events q) i → AreTrue story ask start next got (q ++ i ∷ [])
true_push story ask start next got [] i h t = (subst (λ (l : List Event). IsTrue story ask start next l i) (append-nil got) t, tt)
true_push story ask start next got (j ∷ q) i h t = (
  h.0,
  true_push story ask start next (got ++ item_events j) q i h.1 (subst (λ (l : List Event). IsTrue story ask start next l i) (sym (append_assoc got (item_events j) (queued_events q))) t),
)

true_progress : (story : Story) (ask : WatchAsk) (start next : ℕ) (got : List Event) (header : Header) (q : List WatchItem)
    → AreTrue story ask start next got q → IsTrue story ask start next (got ++ queued_events q) (item.Events header []) → AreTrue story ask start next got (with_progress q (item.Events header []))
true_progress story ask start next got header [] h t = (subst (λ (l : List Event). IsTrue story ask start next l (item.Events header [])) (append-nil got) t, tt)
true_progress story ask start next got header (i ∷ []) h t =
    let p = item.Events header [] in
    elim (is_progress i) as (λ b. is_progress i ≡ b → AreTrue story ask start next got (cond b (p ∷ []) (i ∷ p ∷ []))) [
      | true ↦ λ e. (subst (λ (l : List Event). IsTrue story ask start next l p) (ap (λ (l : List Event). got ++ (l ++ [])) (empty_item i e) ∙ append-nil got) t, tt)
      | false ↦ λ e. (h.0, (subst (λ (l : List Event). IsTrue story ask start next l p) (sym (append_assoc got (item_events i) []) ∙ append-nil (got ++ item_events i)) t, tt))
    ] refl
true_progress story ask start next got header (i ∷ j ∷ q) h t = (
  h.0,
  true_progress story ask start next (got ++ item_events i) header (j ∷ q) h.1
      (subst (λ (l : List Event). IsTrue story ask start next l (item.Events header [])) (sym (append_assoc got (item_events i) (queued_events (j ∷ q)))) t),
)

-- a start that isn't decided has none
true_decided : (story : Story) (ask : WatchAsk) (start next s n : ℕ) (got : List Event) (q : List WatchItem) → (next == 0) ≡ true → AreTrue story ask start next got q → AreTrue story ask s n got q
true_decided story ask start next s n got [] e h = tt
true_decided story ask start next s n got (i ∷ q) e h = (one i h.0, true_decided story ask start next s n (got ++ item_events i) q e h.1)
  where
    one : (i : WatchItem) → IsTrue story ask start next got i → IsTrue story ask s n got i
    one (item.Events header []) t = absurd (let f = t.0 in cc)
    one (item.Events header (x ∷ xs)) t = tt
    one (item.Created header) t = tt
    one (item.Canceled header compact) t = tt

true_ahead : (story : Story) (ask : WatchAsk) (start next n : ℕ) (got : List Event) (q : List WatchItem) → next ≤ n → AreTrue story ask start next got q → AreTrue story ask start n got q
true_ahead story ask start next n got [] l h = tt
true_ahead story ask start next n got (i ∷ q) l h = (one i h.0, true_ahead story ask start next n (got ++ item_events i) q l h.1)
  where
    later : (a b : ℕ) → a ≤ b → (a == 0) ≡ false → (b == 0) ≡ false
    later a b l e = grind (arith, nat_tests)

    one : (i : WatchItem) → IsTrue story ask start next got i → IsTrue story ask start n got i
    one (item.Events header []) t = (later next n l t.0, t.1)
    one (item.Events header (x ∷ xs)) t = tt
    one (item.Created header) t = tt
    one (item.Canceled header compact) t = tt

-- The small changes.

queue_with : (got : List Event) (q : List WatchItem) (i : WatchItem) → got ++ queued_events (q ++ i ∷ []) ≡ (got ++ queued_events q) ++ item_events i
queue_with got q i =
    ap (λ (l : List Event). got ++ l) (queued_events-append q (i ∷ []))
    ∙ ap (λ (l : List Event). got ++ (queued_events q ++ l)) (append-nil (item_events i))
    ∙ sym (append_assoc got (queued_events q) (item_events i))

pub none_more : (q : List WatchItem) (i : WatchItem) → item_events i ≡ [] → queued_events (q ++ i ∷ []) ≡ queued_events q
none_more q i e = queued_events-append q (i ∷ []) ∙ ap (λ (l : List Event). queued_events q ++ (l ++ [])) e ∙ append-nil (queued_events q)

-- the watch with other items of the same events
requeued : (h : History) (most : ℕ) (got : List Event) (w : Watch) (q : List WatchItem) → queued_events q ≡ queued_events w.queue → AreTrue (story_of h) w.ask w.start w.next got q → ItemsOk h most got w → ItemsOk h most got (record w { queue = q })
requeued h most got w q e t k = record {
  progress = t;
  shown = subst (λ (l : List Event). All (IsShown h w.ask.prev_kv) (got ++ l)) (sym e) k.shown;
  bounded = subst (λ (l : List Event). length l ≤ max 1024 most) (sym e) k.bounded;
}

pub items_steady : (h : History) (most : ℕ) (got : Received) → Steady (λ w. ItemsOk h most (got w.ticket) w)
items_steady h most got = record {
  placed = λ w p k. record { progress = k.progress; shown = k.shown; bounded = k.bounded };
  told = λ w header k.
      let i = item.Created header in
      let v = requeued h most (got w.ticket) w (w.queue ++ i ∷ []) (none_more w.queue i refl) (true_push (story_of h) w.ask w.start w.next (got w.ticket) w.queue i k.progress tt) k in
      record { progress = v.progress; shown = v.shown; bounded = v.bounded };
  decided = λ w n e k. record { progress = true_decided (story_of h) w.ask w.start w.next n n (got w.ticket) w.queue e k.progress; shown = k.shown; bounded = k.bounded };
  ahead = λ w n l k. record { progress = true_ahead (story_of h) w.ask w.start w.next n (got w.ticket) w.queue l k.progress; shown = k.shown; bounded = k.bounded };
  ended = λ w header compact k.
      let i = item.Canceled header compact in
      requeued h most (got w.ticket) w (w.queue ++ i ∷ []) (none_more w.queue i refl) (true_push (story_of h) w.ask w.start w.next (got w.ticket) w.queue i k.progress tt) k;
}

-- A batch.

queued_items : (h : History) (most : ℕ) (got : List Event) (header : Header) (own : ℕ) (xs : List Event) (w : Watch) → w.next ≤ own → length xs ≤ most → All (IsShown h w.ask.prev_kv) xs → ItemsOk h most got w
    → ItemsOk h most got (queued header own xs w)
queued_items h most got header own [] w l m s k = k
queued_items h most got header own (x ∷ xs) w l m s k =
    let i = item.Events header (x ∷ xs) in
    let away : Watch = record w { next = own; place = place.Split } in
    let more : Watch = record w { queue = w.queue ++ i ∷ [] } in
    elim (would_pass w.queue (length (x ∷ xs))) as (λ b. events_in (cond b away more).queue ≤ max 1024 most → ItemsOk h most got (cond b away more)) [
      | true ↦ λ n. record { progress = true_ahead (story_of h) w.ask w.start w.next own got w.queue l k.progress; shown = k.shown; bounded = k.bounded }
      | false ↦ λ n. record {
        progress = true_push (story_of h) w.ask w.start w.next got w.queue i k.progress tt;
        shown = subst (All (IsShown h w.ask.prev_kv)) (sym (queue_with got w.queue i)) (All-append (IsShown h w.ask.prev_kv) (got ++ queued_events w.queue) (x ∷ xs) k.shown s);
        bounded = n;
      }
    ] (queued_bound header own most (x ∷ xs) w m k.bounded)

shown_one : (h : History) (asked : Bool) (e : Event) → IsShown h true e → IsShown h asked (shown_event asked e)
shown_one h true e s = s
shown_one h false e s = record { before = λ kv f. absurd (cc); asked = λ q. refl }

all_shown : (h : History) (ask : WatchAsk) (own : ℕ) (es : List Event) → All (IsShown h true) es → All (IsShown h ask.prev_kv) (shown_events ask (chosen ask own es))
all_shown h ask own es s =
    let kept = All-filter (is_for ask own) (IsShown h true) es s in
    All-map (IsShown h ask.prev_kv) (shown_event ask.prev_kv) (chosen ask own es) (λ k d l. shown_one h ask.prev_kv _ (kept k d l))

pub no_more : (ask : WatchAsk) (own : ℕ) (es : List Event) → length (shown_events ask (chosen ask own es)) ≤ length es
no_more ask own es =
    let a = length-map (chosen ask own es) (shown_event ask.prev_kv) in
    let b = length-filter (is_for ask own) es in
    let c = count_by-le-length (is_for ask own) es in
    omega (arith, a, b, c)

given_items : (h : History) (most : ℕ) (got : List Event) (next : ℕ) (header : Header) (es : List Event) (w : Watch) → All (IsShown h true) es → length es ≤ most → ItemsOk h most got w → ItemsOk h most got (given_batch next header es w)
given_items h most got next header es w s l k =
    let own = max w.next next in
    let n = no_more w.ask own es in
    queued_items h most got header own (shown_events w.ask (chosen w.ask own es)) w (omega arith) (omega (arith, n, l)) (all_shown h w.ask own es s) k

-- A message without events.

progressed_items : (h : History) (most : ℕ) (got : List Event) (s : Stream) (header : Header) (w : Watch)
    → (s.stream.next == 0) ≡ false → header.revision + 1 ≤ 0xffff_ffff_ffff_ffff → TellsNone (story_of h) s header.revision → WatchOk (story_of h) got (Some s) w → ItemsOk h most got w
    → ItemsOk h most got (progressed s.stream.next header w)
progressed_items h most got s header w z l t o k =
    let p = item.Events header [] in
    let more : Watch = record w { queue = with_progress w.queue p } in
    elim (nat_le (max w.next s.stream.next) (header.revision + 1)) as (λ b. nat_le (max w.next s.stream.next) (header.revision + 1) ≡ b → ItemsOk h most got (cond (w.ask.progress && b) more w)) [
      | true ↦ λ e.
          let true' : IsTrue (story_of h) w.ask w.start w.next (got ++ queued_events w.queue) p = (o.decided s refl ∙ z, member_told (story_of h) got s header w (story_rises h) l t o e) in
          let v = requeued h most got w (with_progress w.queue p) (no_more_events header w.queue) (true_progress (story_of h) w.ask w.start w.next got header w.queue k.progress true') k in
          either w.ask.progress true more v
      | false ↦ λ e. none w.ask.progress more
    ] refl
  where
    either : (a b : Bool) (v : Watch) → ItemsOk h most got v → ItemsOk h most got (cond (a && b) v w)
    either true true v i = i
    either true false v i = k
    either false b v i = k

    none : (a : Bool) (v : Watch) → ItemsOk h most got (cond (a && false) v w)
    none true v = k
    none false v = k

-- Messages.

both : (P Q : Watch → Type 0) (ws : List Watch) → EachWatch P ws → EachWatch Q ws → EachWatch (λ w. P w × Q w) ws
both P Q [] p q = tt
both P Q (w ∷ ws) p q = ((p.0, q.0), both P Q ws p.1 q.1)

message_items : (h : History) (most : ℕ) (got : Received) (b : Broadcasts) (s : Stream) (header : Header) (es : List Event)
    → (s.stream.next == 0) ≡ false → stream_at s.number b.streams ≡ Some s → IsMessage h most s header es → Holds (story_of h) got b → ItemsHold h most got b → ItemsHold h most got (delivered_message b s header es)
message_items h most got b s header [] z e m o k =
    let P : Watch → Type 0 = λ w. ItemsOk h most (got w.ticket) w in
    let O : Watch → Type 0 = λ w. WatchOk (story_of h) (got w.ticket) (place_stream b.streams w.place) w in
    let g = progressed s.stream.next header in
    elim (nat_le s.stream.next (header.revision + 1)) as (λ c. EachWatch P (cond c (record b { streams = with_stream s.number (advanced header.revision) b.streams; watches = map (member_changed s.number g) b.watches }) b).watches) [
      | true ↦ each_mapped (λ w. O w × P w) P (member_changed s.number g) one b.watches (both O P b.watches o.watches k)
      | false ↦ k
    ]
  where
    keeps : (w : Watch) → (progressed s.stream.next header w).ticket ≡ w.ticket
    keeps w = progressed-keeps s.stream.next header w

    one : (w : Watch) → WatchOk (story_of h) (got w.ticket) (place_stream b.streams w.place) w × ItemsOk h most (got w.ticket) w
        → ItemsOk h most (got (member_changed s.number (progressed s.stream.next header) w).ticket) (member_changed s.number (progressed s.stream.next header) w)
    one w x =
        let v = progressed s.stream.next header w in
        elim (is_in s.number w.place) as (λ c. is_in s.number w.place ≡ c → ItemsOk h most (got (cond c v w).ticket) (cond c v w)) [
          | true ↦ λ q.
              let member = subst (λ (o : Option Stream). WatchOk (story_of h) (got w.ticket) o w) (ap (place_stream b.streams) (in_place s.number w.place q) ∙ e) x.0 in
              subst (λ (t : ℕ). ItemsOk h most (got t) v) (sym (keeps w)) (progressed_items h most (got w.ticket) s header w z m.fits m.tells member x.1)
          | false ↦ λ q. x.1
        ] refl
message_items h most got b s header (y ∷ es) z e m o k =
    let P : Watch → Type 0 = λ w. ItemsOk h most (got w.ticket) w in
    let g = given_batch s.stream.next header (y ∷ es) in
    emptied_steady P s.number (record b { streams = with_stream s.number (advanced (last_revision 0 (y ∷ es))) b.streams; watches = map (member_changed s.number g) b.watches })
    (each_mapped P P (member_changed s.number g) one b.watches k)
  where
    one : (w : Watch) → ItemsOk h most (got w.ticket) w → ItemsOk h most (got (member_changed s.number (given_batch s.stream.next header (y ∷ es)) w).ticket) (member_changed s.number (given_batch s.stream.next header (y ∷ es)) w)
    one w x =
        let v = given_batch s.stream.next header (y ∷ es) w in
        elim (is_in s.number w.place) as (λ c. ItemsOk h most (got (cond c v w).ticket) (cond c v w)) [
          | true ↦ subst (λ (t : ℕ). ItemsOk h most (got t) v) (sym (given-keeps s.stream.next header (y ∷ es) w)) (given_items h most (got w.ticket) s.stream.next header (y ∷ es) w m.shown m.bounded x)
          | false ↦ x
        ]

pub deliveries_keep : (h : History) (most : ℕ) (got : Received) (b : Broadcasts) (s : Stream) (header : Header) (es : List Event)
    → stream_at s.number b.streams ≡ Some s → IsMessage h most s header es → Holds (story_of h) got b → ItemsHold h most got b → ItemsHold h most got (delivered_stream b s header es)
deliveries_keep h most got b s header es e m o k =
    let P : Watch → Type 0 = λ w. ItemsOk h most (got w.ticket) w in
    let told = delivered_message b s header es in
    elim (is_begun s.phase) as (λ c. EachWatch P (cond c (cond (is_told s es) (merged s.stream.range told) (cut_stream b s)) b).watches) [
      | true ↦ elim (is_told s es) as (λ d. is_told s es ≡ d → EachWatch P (cond d (merged s.stream.range told) (cut_stream b s)).watches) [
        | true ↦ λ q. merged_steady P (items_steady h most got) s.stream.range told (message_items h most got b s header es (known s.stream.next (is_batch s.stream.range s.stream.next es) q) e m o k)
        | false ↦ λ q. cut_steady P (items_steady h most got) b s k
      ] refl
      | false ↦ k
    ]

-- A new watch.

pub joins_keep : (h : History) (most : ℕ) (got : Received) (b : Broadcasts) (ticket : ℕ) (ask : WatchAsk) (last : Header) → got ticket ≡ [] → ItemsHold h most got b → ItemsHold h most got (joined b ticket ask last)
joins_keep h most got b ticket ask last e k =
    let P : Watch → Type 0 = λ w. ItemsOk h most (got w.ticket) w in
    let x = seated b.streams b.given b.step last (new_watch ticket ask) in
    each_inserted P x.watch b.watches (seat_steady P (items_steady h most got) b.streams b.given b.step last (new_watch ticket ask) new) k
  where
    new : ItemsOk h most (got ticket) (new_watch ticket ask)
    new = record {
      progress = tt;
      shown = subst (λ (l : List Event). All (IsShown h ask.prev_kv) (l ++ [])) (sym e) (All-nil (IsShown h ask.prev_kv));
      bounded = omega arith;
    }

-- A take.

took : (h : History) (most : ℕ) (got : List Event) (w : Watch) (i : WatchItem) (is : List WatchItem) → w.queue ≡ i ∷ is → ItemsOk h most got w → ItemsOk h most (got ++ item_events i) (record w { queue = is })
took h most got w i is e k =
    let t : AreTrue (story_of h) w.ask w.start w.next got (i ∷ is) = subst (λ (q : List WatchItem). AreTrue (story_of h) w.ask w.start w.next got q) e k.progress in
    let n : length (item_events i ++ queued_events is) ≤ max 1024 most = subst (λ (q : List WatchItem). events_in q ≤ max 1024 most) e k.bounded in
    let c = length-append (item_events i) (queued_events is) in
    record {
      progress = t.1;
      shown = subst (All (IsShown h w.ask.prev_kv)) (ap (λ (q : List WatchItem). got ++ queued_events q) e ∙ sym (append_assoc got (item_events i) (queued_events is))) k.shown;
      bounded = omega (arith, n, c);
    }

-- the watch of the ticket that took the item is replaced
replaced_items : (h : History) (most : ℕ) (got : Received) (t : ℕ) (i : WatchItem) (v : Watch) (ws : List Watch) → ItemsOk h most (received got t i v.ticket) v → EachWatch (λ u. ItemsOk h most (got u.ticket) u) ws
    → EachWatch (λ u. ItemsOk h most (received got t i u.ticket) u) (map (watch_changed t (λ u. v)) ws)
replaced_items h most got t i v ws k h' =
    each_mapped (λ u. ItemsOk h most (got u.ticket) u) (λ u. ItemsOk h most (received got t i u.ticket) u) (watch_changed t (λ u. v))
    (λ u p. elim (u.ticket == t) as (λ c. (u.ticket == t) ≡ c → ItemsOk h most (received got t i (cond c v u).ticket) (cond c v u)) [
      | true ↦ λ q. k
      | false ↦ λ q. subst (λ (es : List Event). ItemsOk h most es u) (sym (ap (λ c. cond c (got u.ticket ++ item_events i) (got u.ticket)) q)) p
    ] refl) ws h'

after_items : (h : History) (most : ℕ) (got : Received) (b : Broadcasts) (last : Header) (w : Watch) (i : WatchItem) (is : List WatchItem) (p : WatchPlace) → ItemsOk h most (received got w.ticket i w.ticket) w → ItemsHold h most got b
    → EachWatch (λ u. ItemsOk h most (received got w.ticket i u.ticket) u) (after_take b last w is p).watches
after_items h most got b last w i [] place.Split k o =
    let got' = received got w.ticket i in
    let x = seated b.streams b.given b.step last w in
    let same = joined-keeps b.streams b.given b.step last w in
    let sat : ItemsOk h most (got' x.watch.ticket) x.watch = seat_steady (λ u. ItemsOk h most (got' u.ticket) u) (items_steady h most got') b.streams b.given b.step last w k in
    subst (λ (n : ℕ). EachWatch (λ u. ItemsOk h most (got' u.ticket) u) (map (watch_changed n (λ u. x.watch)) b.watches)) (sym same) (replaced_items h most got w.ticket i x.watch b.watches sat o)
after_items h most got b last w i (j ∷ is) place.Split k o = replaced_items h most got w.ticket i w b.watches k o
after_items h most got b last w i [] (place.In n) k o = replaced_items h most got w.ticket i w b.watches k o
after_items h most got b last w i (j ∷ is) (place.In n) k o = replaced_items h most got w.ticket i w b.watches k o
after_items h most got b last w i [] place.Ended k o = replaced_items h most got w.ticket i w b.watches k o
after_items h most got b last w i (j ∷ is) place.Ended k o = replaced_items h most got w.ticket i w b.watches k o

pub takes_keep : (h : History) (most : ℕ) (got : Received) (b : Broadcasts) (last : Header) (w : Watch) → watch_at w.ticket b.watches ≡ Some w → ItemsHold h most got b
    → ItemsHold h most (received_if got w.ticket (taken_from b last w w.queue).1) (taken_from b last w w.queue).0
takes_keep h most got b last w e o = go w.queue refl
  where
    go : (q : List WatchItem) → w.queue ≡ q → ItemsHold h most (received_if got w.ticket (taken_from b last w q).1) (taken_from b last w q).0
    go [] f = o
    go (i ∷ is) f =
        let got' = received got w.ticket i in
        let v : Watch = record w { queue = is } in
        let k = found (λ u. ItemsOk h most (got u.ticket) u) w.ticket b.watches w e o in
        let own : ItemsOk h most (got' w.ticket) v = subst (λ (es : List Event). ItemsOk h most es v) (sym (ap (λ c. cond c (got w.ticket ++ item_events i) (got w.ticket)) (number_itself w.ticket))) (took h most (got w.ticket) w i is f k) in
        elim (is_last i) as (λ c. EachWatch (λ u. ItemsOk h most (got' u.ticket) u) (cond c (record b { watches = without_watch w.ticket b.watches }) (after_take b last v is w.place)).watches) [
          | true ↦
              others_ok (λ u. ItemsOk h most (got u.ticket) u) (λ u. ItemsOk h most (got' u.ticket) u) w.ticket
              (λ u d p. subst (λ (es : List Event). ItemsOk h most es u) (sym (ap (λ c. cond c (got u.ticket ++ item_events i) (got u.ticket)) d)) p) b.watches o
          | false ↦ after_items h most got b last v i is w.place own o
        ]

-- A watch is split off.

pub splits_keep : (h : History) (most : ℕ) (got : Received) (b : Broadcasts) (w : Watch) → tickets_from 0 b.watches ≡ true → watch_at w.ticket b.watches ≡ Some w → ItemsHold h most got b
    → ItemsHold h most got (split_slow b w.ticket (own_next b.streams w) (Some w))
splits_keep h most got b w r e o =
    let P : Watch → Type 0 = λ u. ItemsOk h most (got u.ticket) u in
    let own = own_next b.streams w in
    let k = items_steady h most got in
    place_steady P w.place (record b { watches = map (watch_changed w.ticket (split own)) b.watches })
    (changed_ok P P w.ticket 0 (split own) w (λ p. k.placed (record w { next = own }) place.Split (k.ahead w own (omega arith) p)) (λ u p. p) b.watches r e o)
