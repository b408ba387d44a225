-- Every step of a proxy keeps that no queue has more than 1,024 events, or more than one message.
use Rattle.std.proofs.Common.{◌≡◌, ℕ, suc, ◌≤◌, max, List, [], ◌∷◌, ◌++◌, length, length-append, Ok, Err, refl, sym, ap, subst, arith}
use Rattle.etcd_types.specs.declared.record.Header.{Header}
use Rattle.etcd_types.specs.declared.watch.Event.{Event}
use Rattle.etcd_types.specs.declared.watch.WatchItem.{WatchItem}
use Rattle.etcd_types.specs.declared.watch.WatchItem.TheVariants as item
use Rattle.proxy_model.specs.Unwrapped.{Unwrapped, ◌>>=◌, event_without, events_without}
use Rattle.watch_model.specs.Delivery.{shown_events}
use Rattle.watch_model.specs.Queues.{item_events, queued_events, events_in, chosen, with_progress}
use Rattle.watch_model.specs.State.{Watch}
use Rattle.watch_laws.proofs.Bounds.{queued_bound}
use Rattle.watch_laws.proofs.Items.{no_more, none_more}
use Rattle.watch_laws.proofs.Steady.{Steady}
use Rattle.watch_laws.proofs.Steps.{no_more_events}
use Rattle.core_model.specs.declared.event.CoreEvent.{CoreEvent}
use Rattle.core_model.specs.declared.event.CoreEvent.TheVariants as event
use Rattle.core_laws.specs.Watches.Streams.{HasAtMost, StepsKeepBounded}
use Rattle.core_laws.proofs.Watches.Lasting.{Lasts, SoOf, NewHas, MessageIs, step_lasts}

abbrev IsBounded : ℕ → Watch → Type 0
IsBounded most w = events_in w.queue ≤ max 1024 most

as_many : (most : ℕ) (q r : List WatchItem) → queued_events r ≡ queued_events q → events_in q ≤ max 1024 most → events_in r ≤ max 1024 most
as_many most q r e h = subst (λ (l : List Event). length l ≤ max 1024 most) (sym e) h

bounded_steady : (most : ℕ) → Steady (IsBounded most)
bounded_steady most = record {
  placed = λ w p h. h;
  told = λ w header h. as_many most w.queue (w.queue ++ item.Created header ∷ []) (none_more w.queue (item.Created header) refl) h;
  decided = λ w n e h. h;
  ahead = λ w n l h. h;
  ended = λ w header compact h. as_many most w.queue (w.queue ++ item.Canceled header compact ∷ []) (none_more w.queue (item.Canceled header compact) refl) h;
}

abbrev IsAtMost : ℕ → List Event → Type 0
IsAtMost most es = length es ≤ most

bounded_lasts : (most : ℕ) → Lasts (IsBounded most) (IsAtMost most)
bounded_lasts most = record {
  steady = bounded_steady most;
  batch = λ next h es w l b. (let own = max w.next next in let n = no_more w.ask own es in queued_bound h own most (shown_events w.ask (chosen w.ask own es)) w (omega (arith, n, l)) b);
  progress = λ h w b. as_many most w.queue (with_progress w.queue (item.Events h [])) (no_more_events h w.queue) b;
  took = λ w i is e b. fewer i is (subst (λ (q : List WatchItem). events_in q ≤ max 1024 most) e b);
}
  where
    fewer : (i : WatchItem) (is : List WatchItem) → events_in (i ∷ is) ≤ max 1024 most → events_in is ≤ max 1024 most
    fewer i is b = (let c = length-append (item_events i) (queued_events is) in omega (arith, b, c))

new_bounded : (most : ℕ) (e : CoreEvent) → NewHas (IsBounded most) e
new_bounded most (event.Ask ticket q word) = λ ask s. omega arith
new_bounded most (event.Answer call a) = tt
new_bounded most (event.Lost call) = tt
new_bounded most (event.Tick word) = tt
new_bounded most (event.Item number x) = tt
new_bounded most (event.Cut number) = tt
new_bounded most (event.Take ticket) = tt
new_bounded most (event.Leave ticket) = tt
new_bounded most event.Work = tt

-- ---- without the namespace a message has as many events

abbrev SameLength : List Event → Unwrapped (List Event) → Type 0
SameLength es (Ok xs) = length xs ≡ length es
SameLength es (Err k) = Unit {0}

same_length : (p : List ℕ) (es : List Event) → SameLength es (events_without p es)
same_length p [] = refl
same_length p (x ∷ es) = by (event_without p x) (events_without p es) (same_length p es)
  where
    by : (a : Unwrapped Event) (r : Unwrapped (List Event)) → SameLength es r → SameLength (x ∷ es) (a >>= λ y. r >>= λ ys. Ok (y ∷ ys))
    by (Err k) r h = tt
    by (Ok y) (Err k) h = tt
    by (Ok y) (Ok ys) h = ap suc h

at_most : (most : ℕ) (h : Header) (es : List Event) (r : Unwrapped (List Event)) → SameLength es r → length es ≤ most → SoOf (IsAtMost most) (r >>= λ xs. Ok (item.Events h xs))
at_most most h es (Ok xs) s l = omega (arith, s, l)
at_most most h es (Err k) s l = tt

message_bounded : (most : ℕ) (p : List ℕ) (e : CoreEvent) → HasAtMost most e → MessageIs (IsAtMost most) p e
message_bounded most p (event.Item number (item.Events h es)) l = at_most most h es (events_without p es) (same_length p es) l
message_bounded most p (event.Item number (item.Created h)) l = tt
message_bounded most p (event.Item number (item.Canceled h compact)) l = tt
message_bounded most p (event.Ask ticket q word) l = tt
message_bounded most p (event.Answer call a) l = tt
message_bounded most p (event.Lost call) l = tt
message_bounded most p (event.Tick word) l = tt
message_bounded most p (event.Cut number) l = tt
message_bounded most p (event.Take ticket) l = tt
message_bounded most p (event.Leave ticket) l = tt
message_bounded most p event.Work l = tt

pub steps_keep_bounded : StepsKeepBounded
steps_keep_bounded most c e now l h =
    step_lasts (IsBounded most) (IsAtMost most) (bounded_lasts most) c e now (new_bounded most e) (message_bounded most c.settings.namespace e l) h
