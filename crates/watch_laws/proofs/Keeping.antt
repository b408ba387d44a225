-- A watch that is given a batch: nothing is held back.
use Rattle.std.proofs.Common.{◌≡◌, ℕ, ◌≤◌, max, Bool, true, false, cond, ◌==◌, List, [], ◌∷◌, ◌++◌, map, length, Option, Some, is_some, refl, ap, sym, subst, ◌∙◌, append_assoc, append-nil, arith}
use Rattle.std.proofs.lemmas.List.{map-append}
use Rattle.std.proofs.lemmas.Bool.Decides.{nat_tests}
use Rattle.std.proofs.lemmas.List.Elements.{filter-append}
use Rattle.etcd_types.specs.declared.record.Header.{Header}
use Rattle.etcd_types.specs.declared.key_range.KeyRange.{KeyRange}
use Rattle.etcd_types.specs.declared.watch.Change.{Change}
use Rattle.etcd_types.specs.declared.watch.Event.{Event}
use Rattle.etcd_types.specs.declared.watch.WatchItem.{WatchItem}
use Rattle.etcd_types.specs.declared.watch.WatchItem.TheVariants as item
use Rattle.store_model.specs.Events.{change_passes}
use Rattle.watch_model.specs.Queues.{item_events, queued_events, chosen, would_pass}
use Rattle.watch_model.specs.declared.place.WatchPlace.TheVariants as place
use Rattle.watch_model.specs.State.{Stream, Watch}
use Rattle.watch_model.specs.Lookups.{next_of, place_stream}
use Rattle.watch_model.specs.Delivery.{shown_event, shown_events, queued, given_batch}
use Rattle.watch_model.specs.Story.{Story, Received, between, rises, changes, wanted, Kept, WatchOk, is_member}
use Rattle.watch_laws.proofs.Between.{between-join, told_between}

pub queued_events-append : (is js : List WatchItem) → queued_events (is ++ js) ≡ queued_events is ++ queued_events js
queued_events-append [] js = refl
queued_events-append (i ∷ is) js = ap (λ (l : List Event). item_events i ++ l) (queued_events-append is js) ∙ sym (append_assoc (item_events i) (queued_events is) (queued_events js))

changes_shown : (asked : Bool) (es : List Event) → changes (map (shown_event asked) es) ≡ changes es
changes_shown asked [] = refl
changes_shown true (e ∷ es) = ap (λ (l : List Change). e.change ∷ l) (changes_shown true es)
changes_shown false (e ∷ es) = ap (λ (l : List Change). e.change ∷ l) (changes_shown false es)

-- what is queued behind the rest
queue_more : (got : List Event) (q : List WatchItem) (header : Header) (xs : List Event)
    → changes (got ++ queued_events (q ++ item.Events header xs ∷ [])) ≡ changes (got ++ queued_events q) ++ changes xs
queue_more got q header xs =
    ap (λ (l : List Event). changes (got ++ l)) (queued_events-append q (item.Events header xs ∷ []))
    ∙ ap (λ (l : List Event). changes (got ++ (queued_events q ++ l))) (append-nil xs)
    ∙ ap changes (sym (append_assoc got (queued_events q) xs))
    ∙ map-append (λ (e : Event). e.change) (got ++ queued_events q) xs

-- the story goes on
pub goes_on : (story : Story) (got : List Event) (w : Watch) (own m from : ℕ) (cs : List Change) → rises from (story w.ask.range) ≡ true → w.start ≤ own → Kept story got w own
    → cs ≡ wanted w.ask (between own m (story w.ask.range))
    → changes (got ++ queued_events w.queue) ++ cs ≡ wanted w.ask (between w.start (max own m) (story w.ask.range))
goes_on story got w own m from cs r l k e =
    ap (λ (l : List Change). l ++ cs) k
    ∙ ap (λ (l : List Change). wanted w.ask (between w.start own (story w.ask.range)) ++ l) e
    ∙ sym (filter-append (change_passes w.ask) (between w.start own (story w.ask.range)) (between own m (story w.ask.range)))
    ∙ ap (wanted w.ask) (between-join w.start own m from (story w.ask.range) r l)

same_next : (a n m p : ℕ) → p ≡ max n m → max (max a n) m ≡ max a p
same_next a n m p e = omega arith

still_starts : (s a n m p : ℕ) → s ≤ max a n → p ≡ max n m → s ≤ max a p
still_starts s a n m p l e = omega arith

split_next : (a : ℕ) → a ≡ max a 0
split_next a = omega arith

-- w is a member of a stream, `o` before the batch and `p` after it; xs is what was chosen for it
pub queued_ok : (story : Story) (got : Received) (o p : Option Stream) (header : Header) (w : Watch) (m from : ℕ) (xs : List Event)
    → rises from (story w.ask.range) ≡ true → WatchOk story (got w.ticket) o w → next_of p ≡ max (next_of o) m → is_some p ≡ is_member w.place → ((s : Stream) → p ≡ Some s → s.stream.range ≡ w.ask.range) → ((s : Stream) → p ≡ Some s → (w.next == 0) ≡ (s.stream.next == 0))
    → changes xs ≡ wanted w.ask (between (max w.next (next_of o)) m (story w.ask.range)) → (ss : List Stream) → place_stream ss w.place ≡ p
    → let v : Watch = queued header (max w.next (next_of o)) xs w in WatchOk story (got v.ticket) (place_stream ss v.place) v
queued_ok story got o p header w m from [] r h e d k z c ss q =
    subst (λ (p : Option Stream). WatchOk story (got w.ticket) p w) (sym q) (record {
      member = d;
      range = k;
      decided = z;
      starts = still_starts w.start w.next (next_of o) m (next_of p) h.starts e;
      kept =
          sym (append-nil (changes (got w.ticket ++ queued_events w.queue)))
          ∙ goes_on story (got w.ticket) w (max w.next (next_of o)) m from [] r h.starts h.kept c
          ∙ ap (λ (n : ℕ). wanted w.ask (between w.start n (story w.ask.range))) (same_next w.next (next_of o) m (next_of p) e);
    })
queued_ok story got o p header w m from (x ∷ xs) r h e d k z c ss q =
    let own = max w.next (next_of o) in
    let away : Watch = record w { next = own; place = place.Split } in
    let more : Watch = record w { queue = w.queue ++ item.Events header (x ∷ xs) ∷ [] } in
    elim (would_pass w.queue (length (x ∷ xs))) as (λ b. WatchOk story (got (cond b away more).ticket) (place_stream ss (cond b away more).place) (cond b away more)) [
      | true ↦ record {
        member = refl;
        range = λ s f. absurd (cc);
        decided = λ s f. absurd (cc);
        starts = subst (λ (n : ℕ). w.start ≤ n) (split_next own) h.starts;
        kept = h.kept ∙ ap (λ (n : ℕ). wanted w.ask (between w.start n (story w.ask.range))) (split_next own);
      }
      | false ↦ subst (λ (p : Option Stream). WatchOk story (got w.ticket) p more) (sym q) (record {
        member = d;
        range = k;
        decided = z;
        starts = still_starts w.start w.next (next_of o) m (next_of p) h.starts e;
        kept =
            queue_more (got w.ticket) w.queue header (x ∷ xs)
            ∙ goes_on story (got w.ticket) w own m from (changes (x ∷ xs)) r h.starts h.kept c
            ∙ ap (λ (n : ℕ). wanted w.ask (between w.start n (story w.ask.range))) (same_next w.next (next_of o) m (next_of p) e);
      })
    ]

at_least : (a n : ℕ) → n ≤ max a n
at_least a n = omega arith

later : (n m : ℕ) → (n == 0) ≡ false → (max n m == 0) ≡ false
later n m e = grind (arith, nat_tests)

-- a member is given a batch
pub given_ok : (story : Story) (got : Received) (s : Stream) (header : Header) (es : List Event) (w : Watch) (m : ℕ) (p : Stream)
    → rises 0 (story w.ask.range) ≡ true → (s.stream.next == 0) ≡ false → WatchOk story (got w.ticket) (Some s) w → p.stream.next ≡ max s.stream.next m → p.stream.range ≡ s.stream.range
    → changes es ≡ between s.stream.next m (story s.stream.range) → (ss : List Stream) → place_stream ss w.place ≡ Some p
    → let v : Watch = given_batch s.stream.next header es w in WatchOk story (got v.ticket) (place_stream ss v.place) v
given_ok story got s header es w m p r z h e k c ss q =
    let own = max w.next s.stream.next in
    let same : s.stream.range ≡ w.ask.range = h.range s refl in
    let told : changes (shown_events w.ask (chosen w.ask own es)) ≡ wanted w.ask (between own m (story w.ask.range)) =
    changes_shown w.ask.prev_kv (chosen w.ask own es)
    ∙ told_between w.ask s.stream.next own m (story w.ask.range) es (at_least w.next s.stream.next) (c ∙ ap (λ (r : KeyRange). between s.stream.next m (story r)) same) in
    queued_ok story got (Some s) (Some p) header w m 0 (shown_events w.ask (chosen w.ask own es)) r h e h.member (λ t f. let one : p ≡ t = cc in ap (λ (x : Stream). x.stream.range) (sym one) ∙ k ∙ same)
    (λ t f. let one : p ≡ t = cc in h.decided s refl ∙ z ∙ sym (ap (λ (x : Stream). x.stream.next == 0) (sym one) ∙ ap (λ (n : ℕ). n == 0) e ∙ later s.stream.next m z)) told ss q
