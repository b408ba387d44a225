-- Where the ok replies come from that a line tells: the line's step of the proxy gave it, or it stood ready behind that step and was fetched.
use Rattle.std.specs.Prelude.{◌≡◌, ℕ, [], ◌∷◌, Some, Ok}
use Rattle.etcd_types.specs.declared.answer.Answer.TheVariants.{Done}
use Rattle.etcd_types.specs.declared.answer.Reply.{Reply}
use Rattle.etcd_types.specs.declared.request.Request.{Request}
use Rattle.read_model.specs.declared.asked.Asked.{Asked}
use Rattle.read_model.specs.declared.asked.Stage.TheVariants as stage
use Rattle.read_model.specs.declared.asked.Verdict.TheVariants as verdict
use Rattle.core_model.specs.declared.event.CoreEvent.{CoreEvent}
use Rattle.core_model.specs.declared.event.CoreEvent.TheVariants as event
use Rattle.core_model.specs.declared.event.Outcome.{Outcome}
use Rattle.core_model.specs.declared.event.Outcome.TheVariants as outcome
use Rattle.core_model.specs.Fits.{CoreOk}
use Rattle.core_model.specs.Lookups.{ask_at}
use Rattle.core_model.specs.State.{Core}
use Rattle.core_model.specs.Step.{stepped}
use Rattle.world_model.specs.Asks.{told_at_once}
use Rattle.world_model.specs.Gains.{Replies, all_fetched}
use Rattle.world_model.specs.State.{Place}

-- it stands ready under this ticket
pub record IsReady (c : Core) (ticket : ℕ) (reply : Reply) : Type 0 where
  pub ask : Asked
  pub there : ask_at ticket c.asks ≡ Some ask
  pub stage : ask.stage ≡ stage.Replied (verdict.Said (Done reply))

pub data Comes (c : Core) (e : CoreEvent) (now ticket : ℕ) (reply : Reply) : Type 0 where
  at_once : (q : Request) (word : ℕ) → e ≡ event.Ask ticket q word → (stepped c e now).outcome ≡ Ok (outcome.Replied (Done reply)) → Comes c e now ticket reply
  fetched : IsReady (stepped c e now).core ticket reply → Comes c e now ticket reply

-- each ok one of these
abbrev pub AllCome : Core → CoreEvent → ℕ → Replies → Type 0
AllCome c e now [] = Unit {0}
AllCome c e now (r ∷ rs) = ((reply : Reply) → r.1 ≡ Done reply → Comes c e now r.0 reply) × AllCome c e now rs

-- the replies that a line tells behind its step, at the proxy's place then: where those come so that the step gave, all do that are told
abbrev pub ToldRepliesCome : Type 0
ToldRepliesCome =
    (c : Core) (e : CoreEvent) (now : ℕ) (z : Place) (given : Replies) → CoreOk (stepped c e now).core → z.core ≡ (stepped c e now).core
    → AllCome c e now given → AllCome c e now (all_fetched z given).replies

-- an asked request is told at once what its step gave
abbrev pub AskedReplyComes : Type 0
AskedReplyComes =
    (c : Core) (now ticket : ℕ) (q : Request) (word : ℕ) (o : Outcome) → (stepped c (event.Ask ticket q word) now).outcome ≡ Ok o
    → AllCome c (event.Ask ticket q word) now (told_at_once ticket o)
