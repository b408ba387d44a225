-- What each step of a proxy keeps of its streams and watches. Nothing is held back: what a watch's takers have and what stands in its queue
-- are all changes of its range from its start to below its next. Streams merge: no two of one range that stand created have equal next, and
-- a watch that is asked opens a stream only where it finds none to join. Queues are bounded: by 1,024 events, or by those of one message.
use Rattle.std.specs.Prelude.{◌≡◌, ◌≤◌, ℕ, true, false, ◌==◌, max, List, [], length, Some, is_some, Result, Ok}
use Rattle.etcd_types.specs.declared.record.Header.{Header}
use Rattle.etcd_types.specs.declared.request.Request.TheVariants as request
use Rattle.etcd_types.specs.declared.watch.Event.{Event}
use Rattle.etcd_types.specs.declared.watch.WatchItem.TheVariants as item
use Rattle.proxy_model.specs.Unwrapped.{item_without}
use Rattle.core_model.specs.declared.event.CoreEvent.{CoreEvent}
use Rattle.core_model.specs.declared.event.CoreEvent.TheVariants as event
use Rattle.core_model.specs.declared.event.Outcome.{Outcome}
use Rattle.core_model.specs.declared.event.Outcome.TheVariants as outcome
use Rattle.core_model.specs.declared.event.StepFault.{StepFault}
use Rattle.core_model.specs.State.{Core}
use Rattle.core_model.specs.Step.{stepped}
use Rattle.watch_model.specs.Joining.{stream_to_join, watched_range}
use Rattle.watch_model.specs.Lookups.{stream_at, is_begun}
use Rattle.watch_model.specs.Queues.{events_in}
use Rattle.watch_model.specs.State.{Stream, Broadcasts}
use Rattle.watch_model.specs.Story.{Story, Received, received, Rising, EachWatch, Holds}
use Rattle.watch_laws.specs.Alone.{StandAlone}
use Rattle.watch_laws.specs.Calls.{TellsMessage}
use Rattle.core_laws.specs.Watches.Laws.{AreWaiting}

-- ---- nothing is held back

-- a message of a stream that was begun, and whose next is known, tells what the story has
abbrev pub IsTold : Story → List ℕ → Broadcasts → CoreEvent → Type 0
IsTold story namespace b (event.Item number x) =
    (s : Stream) (h : Header) (es : List Event) → stream_at number b.streams ≡ Some s → is_begun s.phase ≡ true → (s.stream.next == 0) ≡ false → item_without namespace x ≡ Ok (item.Events h es) → TellsMessage story s h es
IsTold story namespace b _ = Unit {0}

-- nothing was taken yet under a ticket that is asked
abbrev pub IsNew : Received → CoreEvent → Type 0
IsNew got (event.Ask ticket q word) = got ticket ≡ []
IsNew got _ = Unit {0}

abbrev pub ticket_of : CoreEvent → ℕ
ticket_of (event.Take ticket) = ticket
ticket_of _ = 0

-- what the takers have behind an event
abbrev pub received_by : Received → CoreEvent → Result Outcome StepFault → Received
received_by got e (Ok (outcome.Item i)) = received got (ticket_of e) i
received_by got e _ = got

abbrev pub StepsHoldNothingBack : Type 0
StepsHoldNothingBack =
    (story : Story) (got : Received) (c : Core) (e : CoreEvent) (now : ℕ) → Rising story → IsTold story c.settings.namespace c.watches e → IsNew got e → AreWaiting c.watches → Holds story got c.watches
    → Holds story (received_by got e (stepped c e now).outcome) (stepped c e now).core.watches

-- ---- streams merge

abbrev pub StepsLeaveAlone : Type 0
StepsLeaveAlone = (c : Core) (e : CoreEvent) (now : ℕ) → AreWaiting c.watches → StandAlone c.watches.streams → StandAlone (stepped c e now).core.watches.streams

-- where one of the streams can be joined by a watch as it is asked, with this header, the streams stay as they are
abbrev pub JoinsAmong : List Stream → Header → CoreEvent → List Stream → Type 0
JoinsAmong ss header (event.Ask ticket (request.Watch ask) word) us = is_some (stream_to_join ss (watched_range ask.range) ask.start header.revision) ≡ true → us ≡ ss
JoinsAmong ss header _ us = Unit {0}

abbrev pub JoinsWhereItCan : Core → CoreEvent → Core → Type 0
JoinsWhereItCan old e new = JoinsAmong old.watches.streams old.header e new.watches.streams

abbrev pub StepsJoin : Type 0
StepsJoin = (c : Core) (e : CoreEvent) (now : ℕ) → JoinsWhereItCan c e (stepped c e now).core

-- ---- queues are bounded

-- no queue has more than 1,024 events, or more than a message of so many
abbrev pub QueuesAreBounded : ℕ → Core → Type 0
QueuesAreBounded most c = EachWatch (λ w. events_in w.queue ≤ max 1024 most) c.watches.watches

-- a message has at most so many events
abbrev pub HasAtMost : ℕ → CoreEvent → Type 0
HasAtMost most (event.Item number (item.Events h es)) = length es ≤ most
HasAtMost most _ = Unit {0}

abbrev pub StepsKeepBounded : Type 0
StepsKeepBounded = (most : ℕ) (c : Core) (e : CoreEvent) (now : ℕ) → HasAtMost most e → QueuesAreBounded most c → QueuesAreBounded most (stepped c e now).core
