-- What is kept of a watch behind one message more.
use Rattle.std.proofs.Common.{◌≡◌, ℕ, ◌==◌, Bool, true, false, cond, ◌||◌, List, [], ◌∷◌, ◌++◌, append_assoc, append-nil, Option, None, Some, refl, sym, ◌∙◌, ap, subst}
use Rattle.std.specs.List.{list_any}
use Rattle.std.proofs.lemmas.List.Folds.{list_any-append}
use Rattle.etcd_types.specs.declared.request.WatchAsk.{WatchAsk}
use Rattle.etcd_types.specs.declared.watch.Event.{Event}
use Rattle.etcd_types.specs.declared.watch.WatchItem.{WatchItem}
use Rattle.etcd_types.specs.declared.watch.WatchItem.TheVariants.{Created, Events, Canceled}
use Rattle.etcd_types.proofs.Bools.{or_false}
use Rattle.store_model.specs.Events.{event_revision}
use Rattle.watch_model.specs.Queues.{is_nil, item_events, queued_events}
use Rattle.world_model.specs.Received.{created_start, or_zero, start_of}
use Rattle.audit_model.specs.Streams.{is_cancellation}
use Rattle.audit_model.specs.Takes.{after_message, next_taken}
use Rattle.audit_clients.specs.Spots.{next_spot, spot_behind}
use Rattle.audit_clients.specs.Takings.{Tracks, first_revision}
use Rattle.audit_clients.specs.declared.takings.Taking.{Taking}

created_stays : (t : WatchItem) (ts : List WatchItem) (i : WatchItem) → created_start ((t ∷ ts) ++ i ∷ []) ≡ created_start (t ∷ ts)
created_stays (Created h) ts i = refl
created_stays (Events h events) ts i = refl
created_stays (Canceled h compaction) ts i = refl

-- the first message decides the start
pub start_decided : (ask : WatchAsk) (taken : List WatchItem) (i : WatchItem) → is_nil taken ≡ false → start_of ask (taken ++ i ∷ []) ≡ start_of ask taken
start_decided ask [] i e = absurd (cc)
start_decided ask (t ∷ ts) i e = ap (λ (o : Option ℕ). cond (ask.start == 0) o (Some ask.start)) (created_stays t ts i)

next_more : (next : ℕ) (taken : List WatchItem) (i : WatchItem) → next_taken next (taken ++ i ∷ []) ≡ after_message (next_taken next taken) i
next_more next [] i = refl
next_more next (t ∷ ts) i = next_more (after_message next t) ts i

pub queued_more : (taken : List WatchItem) (i : WatchItem) → queued_events (taken ++ i ∷ []) ≡ queued_events taken ++ item_events i
queued_more [] i = append-nil (item_events i)
queued_more (t ∷ ts) i = ap (λ (es : List Event). item_events t ++ es) (queued_more ts i) ∙ sym (append_assoc (item_events t) (queued_events ts) (item_events i))

pub spot_more : (spot : ℕ × ℕ) (es fs : List Event) → spot_behind spot (es ++ fs) ≡ spot_behind (spot_behind spot es) fs
spot_more spot [] fs = refl
spot_more spot (e ∷ es) fs = spot_more (next_spot spot (event_revision e)) es fs

some_more : (taken : List WatchItem) (i : WatchItem) → is_nil (taken ++ i ∷ []) ≡ false
some_more [] i = refl
some_more (t ∷ ts) i = refl

pub first_tracks : (new : Taking) (ask : WatchAsk) (i : WatchItem) → new.start ≡ start_of ask (i ∷ []) → new.cancelled ≡ is_cancellation i
    → new.next ≡ after_message (or_zero new.start) i → (new.revision, new.count) ≡ spot_behind (or_zero new.start, 0) (item_events i) → Tracks new ask (i ∷ [])
first_tracks new ask i s c n p = record {
  some = refl;
  start = s;
  cancelled = c ∙ sym (or_false (is_cancellation i));
  next = n ∙ ap (λ (o : Option ℕ). after_message (or_zero o) i) s;
  spot = p ∙ (λ k. spot_behind (or_zero (s k), 0) (sym (append-nil (item_events i)) k));
}

pub next_tracks : (old new : Taking) (ask : WatchAsk) (taken : List WatchItem) (i : WatchItem) → Tracks old ask taken → new.start ≡ old.start → new.cancelled ≡ old.cancelled || is_cancellation i
    → new.next ≡ after_message old.next i → (new.revision, new.count) ≡ spot_behind (old.revision, old.count) (item_events i) → Tracks new ask (taken ++ i ∷ [])
next_tracks old new ask taken i t s c n p =
    let first : first_revision ask (taken ++ i ∷ []) ≡ first_revision ask taken = ap or_zero (start_decided ask taken i t.some) in
    record {
      some = some_more taken i;
      start = s ∙ t.start ∙ sym (start_decided ask taken i t.some);
      cancelled = c ∙ (λ k. t.cancelled k || sym (or_false (is_cancellation i)) k) ∙ sym (list_any-append is_cancellation taken (i ∷ []));
      next = n ∙ ap (λ (m : ℕ). after_message m i) t.next ∙ sym (ap (λ (m : ℕ). next_taken m (taken ++ i ∷ [])) first ∙ next_more (first_revision ask taken) taken i);
      spot =
          p
          ∙ ap (λ (spot : ℕ × ℕ). spot_behind spot (item_events i)) t.spot
          ∙ sym (spot_more (first_revision ask taken, 0) (queued_events taken) (item_events i))
          ∙ sym (λ k. spot_behind (first k, 0) (queued_more taken i k));
    }
