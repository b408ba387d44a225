-- Of each watch: what was taken of it and what stands in its queue are its messages in order; and what the small changes do to that.
use Rattle.std.proofs.Common.{◌≡◌, ℕ, ◌+◌, ◌-◌, ◌≤◌, ◌<◌, max, Bool, true, false, cond, ◌&&◌, ◌==◌, nat_le, List, [], ◌∷◌, ◌++◌, length, append_assoc, refl, ap, sym, subst, ◌∙◌, arith}
use Rattle.std.proofs.lemmas.Bool.Decides.{nat_tests}
use Rattle.etcd_types.specs.declared.record.Header.{Header}
use Rattle.etcd_types.specs.declared.request.WatchAsk.{WatchAsk}
use Rattle.etcd_types.specs.declared.watch.Event.{Event}
use Rattle.etcd_types.specs.declared.watch.WatchItem.{WatchItem}
use Rattle.etcd_types.specs.declared.watch.WatchItem.TheVariants as item
use Rattle.watch_model.specs.declared.place.WatchPlace.{WatchPlace}
use Rattle.watch_model.specs.declared.place.WatchPlace.TheVariants as place
use Rattle.watch_model.specs.State.{Watch}
use Rattle.watch_model.specs.Queues.{is_nil, queued_events, would_pass, chosen, with_progress}
use Rattle.watch_model.specs.Joining.{created_header, told, told_if, decided, new_watch}
use Rattle.watch_model.specs.Cuts.{ended, leaving}
use Rattle.watch_model.specs.Delivery.{shown_events, queued, given_batch, progressed, created_watch}
use Rattle.watch_model.specs.Story.{Story, between, changes, wanted}
use Rattle.watch_laws.proofs.Steps.{two_tests}
use Rattle.world_model.specs.Received.{last_from, WasPushed}
use Rattle.held_laws.proofs.Messages.{AreMessages, is_over, over_push, messages_push, messages_progress}
use Rattle.held_laws.proofs.Pushes.{Whole}

abbrev pub is_ended : WatchPlace → Bool
is_ended (place.In n) = false
is_ended place.Split = false
is_ended place.Ended = true

-- by ticket, what was taken (`got`)
pub record HasMessages (story : Story) (whole : Whole) (got : ℕ → List WatchItem) (w : Watch) : Type 0 where
  pub messages : AreMessages story whole w.ask w.start (got w.ticket ++ w.queue)
  pub untold : w.told ≡ false → got w.ticket ++ w.queue ≡ []
  pub told : w.told ≡ true → (is_nil (got w.ticket ++ w.queue) ≡ false) × ((w.next == 0) ≡ false)
  pub live : is_ended w.place ≡ false → is_over (got w.ticket ++ w.queue) ≡ false
  -- a start that is decided isn't 0
  pub starts : (w.next == 0) ≡ false → (w.start == 0) ≡ false

contrary : {A : Type 0} (b : Bool) → b ≡ true → b ≡ false → A
contrary b t f = absurd (let no' : true ≡ false = sym t ∙ f in cc)

above : (n m : ℕ) → (n == 0) ≡ false → n ≤ m → (m == 0) ≡ false
above n m e l = grind (arith, nat_tests)

some_last : (xs : List WatchItem) (i : WatchItem) → is_nil (xs ++ i ∷ []) ≡ false
some_last [] i = refl
some_last (x ∷ xs) i = refl

pub placed_has : (story : Story) (whole : Whole) (got : ℕ → List WatchItem) (w : Watch) (p : WatchPlace) → (is_ended p ≡ false → is_ended w.place ≡ false) → HasMessages story whole got w
    → HasMessages story whole got (record w { place = p })
placed_has story whole got w p k h = record { messages = h.messages; untold = h.untold; told = h.told; live = λ e. h.live (k e); starts = h.starts }

-- a new watch, of which nothing was taken
pub new_has : (story : Story) (whole : Whole) (got : ℕ → List WatchItem) (ticket : ℕ) (ask : WatchAsk) → got ticket ≡ [] → HasMessages story whole got (new_watch ticket ask)
new_has story whole got ticket ask e =
    let none : got ticket ++ [] ≡ [] = ap (λ (l : List WatchItem). l ++ []) e in
    record {
      messages = subst (AreMessages story whole (new_watch ticket ask).ask ask.start) (sym none) tt;
      untold = λ q. none;
      told = λ q. absurd (cc);
      live = λ q. ap is_over none;
      starts = λ q. q;
    }

-- ---- a start that is decided, and the created message

pub decided_has : (story : Story) (whole : Whole) (got : ℕ → List WatchItem) (n : ℕ) (w : Watch) → HasMessages story whole got w → HasMessages story whole got (decided n w)
decided_has story whole got n w h = by (w.next == 0) refl
  where
    v : Watch
    v = record w { start = n; next = n }

    fresh : (w.next == 0) ≡ true → w.told ≡ false
    fresh z = by_told w.told refl
      where
        by_told : (b : Bool) → w.told ≡ b → w.told ≡ false
        by_told true e = contrary (w.next == 0) z (h.told e).1
        by_told false e = e

    by : (b : Bool) → (w.next == 0) ≡ b → HasMessages story whole got (decided n w)
    by true z = subst (HasMessages story whole got) (sym (ap (λ b. cond b v w) z)) (record {
      messages = subst (AreMessages story whole w.ask n) (sym (h.untold (fresh z))) tt;
      untold = h.untold;
      told = λ e. contrary w.told e (fresh z);
      live = h.live;
      starts = λ e. e;
    })
    by false z = subst (HasMessages story whole got) (sym (ap (λ b. cond b v w) z)) h

header_start : (s : ℕ) → (s == 0) ≡ false → (s - 1) + 1 ≡ s
header_start s e = grind (arith, nat_tests)

pub told_has : (story : Story) (whole : Whole) (got : ℕ → List WatchItem) (last : Header) (w : Watch) → (w.next == 0) ≡ false → is_ended w.place ≡ false → HasMessages story whole got w → HasMessages story whole got (told last w)
told_has story whole got last w z l h = by w.told refl
  where
    i : WatchItem
    i = item.Created (created_header last w)

    v : Watch
    v = record w { told = true; queue = w.queue ++ i ∷ [] }

    shows : (w.ask.start == 0) ≡ true → (created_header last w).revision + 1 ≡ w.start
    shows e = ap (λ b. (cond b (record last { revision = w.start - 1 }) last).revision + 1) e ∙ header_start w.start (h.starts z)

    by : (b : Bool) → w.told ≡ b → HasMessages story whole got (told last w)
    by true e = subst (HasMessages story whole got) (sym (ap (λ b. cond b w v) e)) h
    by false e =
        let one : got w.ticket ++ (w.queue ++ i ∷ []) ≡ i ∷ [] = sym (append_assoc (got w.ticket) w.queue (i ∷ [])) ∙ ap (λ (l : List WatchItem). l ++ i ∷ []) (h.untold e) in
        subst (HasMessages story whole got) (sym (ap (λ b. cond b w v) e)) (record {
          messages = subst (AreMessages story whole w.ask w.start) (sym one) (shows, tt);
          untold = λ q. absurd (cc);
          told = λ q. (ap is_nil one, z);
          live = λ q. ap is_over one;
          starts = h.starts;
        })

pub told_if_has : (story : Story) (whole : Whole) (got : ℕ → List WatchItem) (b : Bool) (last : Header) (w : Watch) → (b ≡ true → (w.next == 0) ≡ false) → is_ended w.place ≡ false → HasMessages story whole got w
    → HasMessages story whole got (told_if b last w)
told_if_has story whole got true last w z l h = told_has story whole got last w (z refl) l h
told_if_has story whole got false last w z l h = h

-- where the stream's next is known, so is the watch's
pub decided_known : (n : ℕ) (w : Watch) → (n == 0) ≡ false → ((decided n w).next == 0) ≡ false
decided_known n w e = by (w.next == 0) refl
  where
    by : (b : Bool) → (w.next == 0) ≡ b → ((decided n w).next == 0) ≡ false
    by true z = ap (λ b. ((cond b (record w { start = n; next = n }) w).next == 0)) z ∙ e
    by false z = ap (λ b. ((cond b (record w { start = n; next = n }) w).next == 0)) z ∙ z

pub decided_place : (n : ℕ) (w : Watch) → (decided n w).place ≡ w.place
decided_place n w = elim (w.next == 0) as (λ b. (cond b (record w { start = n; next = n }) w).place ≡ w.place) [ true ↦ refl | false ↦ refl ]

pub created_has : (story : Story) (whole : Whole) (got : ℕ → List WatchItem) (n : ℕ) (last : Header) (w : Watch) → (n == 0) ≡ false → is_ended w.place ≡ false → HasMessages story whole got w → HasMessages story whole got (created_watch n last w)
created_has story whole got n last w z l h = told_has story whole got last (decided n w) (decided_known n w z) (ap is_ended (decided_place n w) ∙ l) (decided_has story whole got n w h)

-- ---- a batch

pub queued_has : (story : Story) (whole : Whole) (got : ℕ → List WatchItem) (g : Header) (own : ℕ) (es : List Event) (w : Watch) → w.told ≡ true → is_ended w.place ≡ false → w.next ≤ own → HasMessages story whole got w
    → HasMessages story whole got (queued g own es w)
queued_has story whole got g own [] w t l a h = h
queued_has story whole got g own (e ∷ es) w t l a h =
    let i = item.Events g (e ∷ es) in
    let all = got w.ticket ++ w.queue in
    let same : all ++ i ∷ [] ≡ got w.ticket ++ (w.queue ++ i ∷ []) = append_assoc (got w.ticket) w.queue (i ∷ []) in
    elim (would_pass w.queue (length (e ∷ es))) as (λ b. HasMessages story whole got (cond b (record w { next = own; place = place.Split }) (record w { queue = w.queue ++ i ∷ [] }))) [
      | true ↦ record {
        messages = h.messages;
        untold = h.untold;
        told = λ q. ((h.told q).0, above w.next own (h.told q).1 a);
        live = λ q. h.live l;
        starts = λ q. h.starts (h.told t).1;
      }
      | false ↦ record {
        messages = subst (AreMessages story whole w.ask w.start) same (messages_push story whole w.ask w.start all i (h.told t).0 (h.live l) h.messages tt);
        untold = λ q. contrary w.told t q;
        told = λ q. (ap is_nil (sym same) ∙ some_last all i, (h.told q).1);
        live = λ q. ap is_over (sym same) ∙ over_push all i (h.live l) refl;
        starts = h.starts;
      }
    ]

pub given_has : (story : Story) (whole : Whole) (got : ℕ → List WatchItem) (next : ℕ) (g : Header) (es : List Event) (w : Watch) → w.told ≡ true → is_ended w.place ≡ false → HasMessages story whole got w → HasMessages story whole got (given_batch next g es w)
given_has story whole got next g es w t l h = queued_has story whole got g (max w.next next) (shown_events w.ask (chosen w.ask (max w.next next) es)) w t l (omega arith) h

-- ---- a message without events

pub progressed_has : (story : Story) (whole : Whole) (got : ℕ → List WatchItem) (next : ℕ) (g : Header) (w : Watch) → w.told ≡ true → is_ended w.place ≡ false
    → (nat_le (max w.next next) (g.revision + 1) ≡ true → changes (queued_events (got w.ticket ++ w.queue)) ≡ wanted w.ask (between w.start (g.revision + 1) (story w.ask.range)))
    → HasMessages story whole got w → HasMessages story whole got (progressed next g w)
progressed_has story whole got next g w t l true' h = by (w.ask.progress && nat_le (max w.next next) (g.revision + 1)) refl
  where
    v : Watch
    v = record w { queue = with_progress w.queue (item.Events g []) }

    by : (b : Bool) → (w.ask.progress && nat_le (max w.next next) (g.revision + 1)) ≡ b → HasMessages story whole got (progressed next g w)
    by true e =
        let p = two_tests w.ask.progress (nat_le (max w.next next) (g.revision + 1)) e in
        let k = messages_progress story whole w.ask w.start (got w.ticket) w.queue g (h.told t).0 (h.live l) h.messages (p.0, true' p.1) in
        subst (HasMessages story whole got) (sym (ap (λ b. cond b v w) e)) (record {
          messages = k.0;
          untold = λ q. contrary w.told t q;
          told = λ q. (k.1, (h.told q).1);
          live = λ q. k.2;
          starts = h.starts;
        })
    by false e = subst (HasMessages story whole got) (sym (ap (λ b. cond b v w) e)) h

-- ---- a cancellation

pub leaving_has : (story : Story) (whole : Whole) (got : ℕ → List WatchItem) (next : ℕ) (w : Watch) → w.told ≡ true → is_ended w.place ≡ false → HasMessages story whole got w → HasMessages story whole got (leaving next w)
leaving_has story whole got next w t l h = record {
  messages = h.messages;
  untold = h.untold;
  told = λ q. ((h.told q).0, above w.next (max w.next next) (h.told q).1 (omega arith));
  live = λ q. h.live l;
  starts = λ q. h.starts (h.told t).1;
}

pub ended_has : (story : Story) (whole : Whole) (got : ℕ → List WatchItem) (g : Header) (compaction : ℕ) (w : Watch) → w.told ≡ true → is_ended w.place ≡ false → WasPushed whole.items compaction
    → last_from w.start (queued_events (got w.ticket ++ w.queue)) < compaction → HasMessages story whole got w → HasMessages story whole got (ended g compaction w)
ended_has story whole got g compaction w t l pushed behind h =
    let i = item.Canceled g compaction in
    let all = got w.ticket ++ w.queue in
    let same : all ++ i ∷ [] ≡ got w.ticket ++ (w.queue ++ i ∷ []) = append_assoc (got w.ticket) w.queue (i ∷ []) in
    record {
      messages = subst (AreMessages story whole w.ask w.start) same (messages_push story whole w.ask w.start all i (h.told t).0 (h.live l) h.messages (pushed, behind));
      untold = λ q. contrary w.told t q;
      told = λ q. (ap is_nil (sym same) ∙ some_last all i, (h.told q).1);
      live = λ q. absurd (cc);
      starts = h.starts;
    }
