-- What each step of a sound proxy promises to whoever waits on it, as long as what answers show is made of bytes. The proxy is sound after
-- it, whatever the result, and no request and no watch waits for nothing. Nothing is held back of its watches, its streams are merged, and
-- its queues are bounded.
use Rattle.std.specs.Prelude.{ℕ, Result}
use Rattle.etcd_types.specs.declared.key_range.KeyRange.{KeyRange}
use Rattle.core_model.specs.declared.event.CoreEvent.{CoreEvent}
use Rattle.core_model.specs.declared.event.Outcome.{Outcome}
use Rattle.core_model.specs.declared.event.StepFault.{StepFault}
use Rattle.core_model.specs.State.{Core}
use Rattle.core_laws.specs.Steps.Kept.{IsHeard}
use Rattle.core_laws.specs.Watches.Streams.{IsTold, IsNew, received_by, QueuesAreBounded, HasAtMost}
use Rattle.waiting_laws.specs.Sound.{IsSound}
use Rattle.waiting_laws.specs.Waiting.{NothingIsIdle}
use Rattle.watch_model.specs.Story.{Story, Received, Rising, Holds, NoTwins}

abbrev pub StaysSound : Core → CoreEvent → Core → Type 0
StaysSound old e new = IsHeard old e → IsSound old → IsSound new

-- no request and no watch waits for nothing
abbrev pub LeavesNoneIdle : Core → CoreEvent → Core → Type 0
LeavesNoneIdle old e new = IsHeard old e → IsSound old → NothingIsIdle new

-- what takers have of a watch and what is queued for it stay all changes of its range from its start to below its next, by any history of
-- the ranges that the messages report
abbrev pub HoldsNothingBack : Core → CoreEvent → Core → Result Outcome StepFault → Type 0
HoldsNothingBack old e new result =
    (story : Story) (got : Received) → Rising story → IsTold story old.settings.namespace old.watches e → IsNew got e → IsSound old → Holds story got old.watches
    → Holds story (received_by got e result) new.watches

-- no two streams of one range that stand created have equal next
abbrev pub LeavesStreamsMerged : Core → CoreEvent → Core → Type 0
LeavesStreamsMerged old e new = IsHeard old e → IsSound old → (range : KeyRange) → NoTwins range new.watches.streams

-- no queue has more than 1,024 events, or than one message, where no message has more than `most`
abbrev pub LeavesQueuesBounded : Core → CoreEvent → Core → Type 0
LeavesQueuesBounded old e new = (most : ℕ) → HasAtMost most e → QueuesAreBounded most old → QueuesAreBounded most new
