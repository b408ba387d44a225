-- Replies that stand ready: the least ready ticket names one, whoever takes it has it, and then it is no request any more.
use Rattle.std.specs.Prelude.{◌≡◌, ℕ, ◌+◌, false, length, None, Some, Ok}
use Rattle.etcd_types.specs.declared.answer.Answer.{Answer}
use Rattle.core_model.specs.declared.event.CoreEvent.TheVariants as event
use Rattle.core_model.specs.declared.event.Outcome.TheVariants as outcome
use Rattle.core_model.specs.ClockWork.{is_replied}
use Rattle.core_model.specs.Fits.{CoreOk}
use Rattle.core_model.specs.State.{Core}
use Rattle.core_model.specs.Step.{is_worn, stepped}
use Rattle.core_model.specs.Takes.{ready}
use Rattle.core_fits.specs.Fits.{EachOf}

-- No reply stands ready.
abbrev pub NoneIsReplied : Core → Type 0
NoneIsReplied c = EachOf (λ a. is_replied a.stage ≡ false) c.asks

abbrev pub NothingReadyIsNoneReplied : Type 0
NothingReadyIsNoneReplied = (c : Core) → ready c ≡ None → NoneIsReplied c

-- its reply is given, and it is no request any more
pub record TakesReply (c : Core) (ticket now : ℕ) : Type 0 where
  pub answer : Answer
  pub replied : (stepped c (event.Take ticket) now).outcome ≡ Ok (outcome.Replied answer)
  pub fewer : length (stepped c (event.Take ticket) now).core.asks + 1 ≡ length c.asks

abbrev pub ReadyIsTaken : Type 0
ReadyIsTaken = (c : Core) (now ticket : ℕ) → CoreOk c → is_worn c ≡ false → ready c ≡ Some ticket → TakesReply c ticket now
