-- A call is executed at the store, answered or lost. It is executed at most once, whatever became of it at its proxy, and answered
-- or lost at most once.
use Rattle.std.specs.Prelude.{ℕ, true, [], ◌∷◌, Option, None, Some}
use Rattle.etcd_types.specs.declared.answer.Answer.{Answer}
use Rattle.store_model.specs.State.{State}
use Rattle.store_model.specs.Step.{exec}
use Rattle.core_model.specs.declared.event.CoreEvent.TheVariants as event
use Rattle.core_model.specs.declared.event.Outcome.{Outcome}
use Rattle.script_text.specs.declared.item.Item.TheVariants as item
use Rattle.world_model.specs.declared.fault.WorldFault.TheVariants as fault
use Rattle.world_model.specs.declared.sent_call.SentCall.{SentCall}
use Rattle.world_model.specs.Floors.{floors_after}
use Rattle.world_model.specs.Gains.{gained}
use Rattle.world_model.specs.Places.{nth, with_nth, with_call, call_place}
use Rattle.world_model.specs.State.{Place, World}
use Rattle.world_model.specs.Steps.{Step, gains, refuses, steps}

-- Executions, at the member that the call was sent to.

abbrev pub executed_as : World → ℕ → SentCall → State × Answer → Step
executed_as w number call done =
    gains
    (record w {
      calls = with_nth w.calls number (record call { executed = Some done.1 });
      store = done.0;
      floors = floors_after call done.1 w.floors;
    })
    (item.Executed number done.1 ∷ [])

abbrev pub executed_if : World → ℕ → SentCall → Option Answer → Step
executed_if w number call (Some a) = refuses w (fault.NoSuchCall number)
executed_if w number call None = executed_as w number call (exec w.store call.member call.request)

abbrev pub executed_of : World → ℕ → Option SentCall → Step
executed_of w number None = refuses w (fault.NoSuchCall number)
executed_of w number (Some call) = executed_if w number call call.executed

abbrev pub executed : World → ℕ → Step
executed w number = executed_of w number (nth w.calls number)

-- Answers.

abbrev pub was_answered : World → ℕ → SentCall → Place → Outcome → Step
was_answered w number call x o =
    gained (with_call w number (record call { settled = true })) call.proxy x (item.Answered number ∷ []) []

abbrev pub answered_as : World → ℕ → SentCall → Place → Option Answer → Step
answered_as w number call x None = refuses w (fault.NotExecuted number)
answered_as w number call x (Some a) =
    steps w call.proxy x (event.Answer call.own a) (fault.NoSuchCall number) (was_answered w number call)

abbrev pub answered_at : World → ℕ → SentCall → Option Place → Step
answered_at w number call None = refuses w (fault.NoSuchCall number)
answered_at w number call (Some x) = answered_as w number call x call.executed

abbrev pub answered_of : World → ℕ → Option SentCall → Step
answered_of w number None = refuses w (fault.NoSuchCall number)
answered_of w number (Some call) = answered_at w number call (call_place w call)

abbrev pub answered : World → ℕ → Step
answered w number = answered_of w number (nth w.calls number)

-- Losses.

abbrev pub was_lost : World → ℕ → SentCall → Place → Outcome → Step
was_lost w number call x o =
    gained (with_call w number (record call { settled = true })) call.proxy x (item.Lost number ∷ []) []

abbrev pub lost_at : World → ℕ → SentCall → Option Place → Step
lost_at w number call None = refuses w (fault.NoSuchCall number)
lost_at w number call (Some x) =
    steps w call.proxy x (event.Lost call.own) (fault.NoSuchCall number) (was_lost w number call)

abbrev pub lost_of : World → ℕ → Option SentCall → Step
lost_of w number None = refuses w (fault.NoSuchCall number)
lost_of w number (Some call) = lost_at w number call (call_place w call)

abbrev pub lost : World → ℕ → Step
lost w number = lost_of w number (nth w.calls number)
