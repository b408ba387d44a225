-- Every step of a proxy keeps that each watch waits, and so does a run.
use Rattle.std.proofs.Common.{◌≡◌, inl, inr, ℕ, true, false, cond, List, [], ◌∷◌, Some, Ok, Err, Result, refl, sym, ap, subst, ◌∙◌}
use Rattle.etcd_types.specs.declared.record.Header.{Header}
use Rattle.etcd_types.specs.declared.watch.WatchItem.{WatchItem}
use Rattle.etcd_types.specs.declared.watch.WatchItem.TheVariants as item
use Rattle.proxy_model.specs.Unwrapped.{Unwrapped, item_without}
use Rattle.watch_model.specs.Lookups.{stream_at, is_begun}
use Rattle.watch_model.specs.State.{Stream, Watch, Broadcasts}
use Rattle.watch_model.specs.Story.{EachWatch}
use Rattle.watch_model.proofs.Streams.{at_number}
use Rattle.watch_laws.proofs.Seating.{EachStream, each_found}
use Rattle.core_model.specs.declared.event.CoreEvent.{CoreEvent}
use Rattle.core_model.specs.declared.event.Outcome.{Outcome}
use Rattle.core_model.specs.declared.event.StepFault.{StepFault}
use Rattle.core_model.specs.State.{Core, first_core}
use Rattle.core_model.specs.Stepped.{Stepped}
use Rattle.core_model.specs.WaitsFor.{WatchWaits, AllWatchesWait}
use Rattle.core_laws.specs.Steps.Kept.{Timed, after, ran}
use Rattle.core_laws.specs.Watches.Laws.{AreWaiting, StartWaits, WaitingNoneIsIdle, StepsKeepWaiting, RunsLeaveNoWatchIdle}
use Rattle.core_laws.proofs.Watches.Touches.{Side, with_step, told_message, told_unwrapped, told_stream, numbered_anew, IsAmong, Touch, leaves, hears, ticks, joins, heard_leasing, broke_leasing, cut_leasing, told, cut, took, left_it, opens_leasing, sends, step_touches}
use Rattle.core_laws.proofs.Watches.Waiting.{cuts_keep, deliveries_keep, creations_keep, joins_keep, cancellations_keep, takes_keep, leaving_keeps, jobs_keep, given_on}

pub itself : (number : ℕ) (ss : List Stream) (s : Stream) → stream_at number ss ≡ Some s → stream_at s.number ss ≡ Some s
itself number ss s e = ap (λ (k : ℕ). stream_at k ss) (at_number number ss s e) ∙ e

pub among : (P : Stream → Type 0) (ss : List Stream) (s : Stream) → IsAmong s ss → EachStream P ss → P s
among P [] s i h = absurd i
among P (t ∷ ss) s (inl e) h = subst P (sym e) h.0
among P (t ∷ ss) s (inr i) h = among P ss s i h.1

-- the step that is counted changes nothing
aged : (b : Broadcasts) (n : ℕ) → AreWaiting b → AreWaiting (with_step b n)
aged b n h = record { numbers = h.numbers; watches = h.watches }

-- the leasing stream is given a number
numbered_waits : (a : Side) (header : Header) → AreWaiting a.broadcasts → AreWaiting (numbered_anew a header).broadcasts
numbered_waits a header h = record { numbers = given_on 0 a.broadcasts.given a.broadcasts.streams h.numbers; watches = h.watches }

-- A message of a stream.

message_keeps : (b : Broadcasts) (s : Stream) (last : Header) (x : WatchItem) → stream_at s.number b.streams ≡ Some s → AreWaiting b → AreWaiting (told_message b s last x)
message_keeps b s last (item.Created header) e h = creations_keep b s header last h
message_keeps b s last (item.Events header events) e h = deliveries_keep b s header events e h
message_keeps b s last (item.Canceled header compact) e h = cancellations_keep b s header compact last e h

unwrapped_keeps : (b : Broadcasts) (s : Stream) (last : Header) (x : Unwrapped WatchItem) → stream_at s.number b.streams ≡ Some s → AreWaiting b → AreWaiting (told_unwrapped b s last x)
unwrapped_keeps b s last (Ok x) e h = message_keeps b s last x e h
unwrapped_keeps b s last (Err foreign) e h = cuts_keep b s e h

told_keeps : (b : Broadcasts) (s : Stream) (last : Header) (namespace : List ℕ) (x : WatchItem) → stream_at s.number b.streams ≡ Some s → AreWaiting b → AreWaiting (told_stream b s last namespace x)
told_keeps b s last namespace x e h =
    elim (is_begun s.phase) as (λ c. AreWaiting (cond c (told_unwrapped b s last (item_without namespace x)) b)) [ true ↦ unwrapped_keeps b s last (item_without namespace x) e h | false ↦ h ]

-- Whatever a step does to the watches.

touch_keeps : (namespace : List ℕ) (a d : Side) (e : CoreEvent) (o : Result Outcome StepFault) → AreWaiting a.broadcasts → Touch namespace a e d o → AreWaiting d.broadcasts
touch_keeps namespace a _ _ _ h (leaves e o p) = h
touch_keeps namespace a _ _ _ h (hears call reply o p) = h
touch_keeps namespace a _ _ _ h (ticks word) = numbered_waits a a.header h
touch_keeps namespace a _ _ _ h (joins ticket ask word n) = joins_keep a.broadcasts ticket ask a.header h
touch_keeps namespace a _ _ _ h (heard_leasing number x l) = h
touch_keeps namespace a _ _ _ h (broke_leasing number x l) = numbered_waits a a.header h
touch_keeps namespace a _ _ _ h (cut_leasing number l) = numbered_waits a a.header h
touch_keeps namespace a _ _ _ h (told number x s f) = told_keeps a.broadcasts s _ namespace x (itself number a.broadcasts.streams s f) h
touch_keeps namespace a _ _ _ h (cut number s f) = cuts_keep a.broadcasts s (itself number a.broadcasts.streams s f) h
touch_keeps namespace a _ _ _ h (took ticket w i is f q) = takes_keep a.broadcasts a.header ticket w f h
touch_keeps namespace a _ _ _ h (left_it ticket) = leaving_keeps a.broadcasts ticket h
touch_keeps namespace a _ _ _ h (opens_leasing number member q l) = h
touch_keeps namespace a _ _ _ h (sends c s m l i) =
    jobs_keep a.broadcasts s (among (λ t. stream_at t.number a.broadcasts.streams ≡ Some t) a.broadcasts.streams s i (each_found a.broadcasts.given a.broadcasts.streams h.numbers)) h

-- Steps and runs.

pub steps_keep : StepsKeepWaiting
steps_keep c e now h =
    elim (step_touches c e now) [
      | inl worn ↦ subst (λ (s : Stepped). AreWaiting s.core.watches) (sym worn) h
      | inr t ↦ touch_keeps c.settings.namespace _ _ e _ (aged c.watches c.steps h) t
    ]

pub start_waits : StartWaits
start_waits settings = record { numbers = refl; watches = tt }

run_keeps : (c : Core) (xs : List Timed) → AreWaiting c.watches → AreWaiting (ran c xs).watches
run_keeps c [] h = h
run_keeps c (x ∷ xs) h = run_keeps (after c x) xs (steps_keep c x.event x.now h)

all_wait : (ss : List Stream) (ws : List Watch) → EachWatch (λ w. WatchWaits ss w.place w.queue) ws → AllWatchesWait ss ws
all_wait ss [] h = tt
all_wait ss (w ∷ ws) h = (h.0, all_wait ss ws h.1)

pub none_is_idle : WaitingNoneIsIdle
none_is_idle c h = all_wait c.watches.streams c.watches.watches h.watches

pub runs_leave_none : RunsLeaveNoWatchIdle
runs_leave_none settings xs = none_is_idle (ran (first_core settings) xs) (run_keeps (first_core settings) xs (start_waits settings))
