-- Each ok reply of a proxy has a source, at the step at which it comes to stand and at the step that gives it; and what is out is named by
-- what was sent.
use Rattle.std.specs.Prelude.{◌≡◌, ℕ, Bool, Some, Ok}
use Rattle.etcd_types.specs.declared.answer.Answer.TheVariants.{Done}
use Rattle.etcd_types.specs.declared.answer.Reply.{Reply}
use Rattle.read_model.specs.declared.asked.Asked.{Asked}
use Rattle.read_model.specs.declared.asked.Stage.TheVariants as stage
use Rattle.read_model.specs.declared.asked.Verdict.TheVariants as verdict
use Rattle.core_model.specs.declared.event.CoreEvent.{CoreEvent}
use Rattle.core_model.specs.declared.event.Outcome.TheVariants as outcome
use Rattle.core_model.specs.declared.settings.Settings.{Settings}
use Rattle.core_model.specs.Fits.{CoreOk}
use Rattle.core_model.specs.Lookups.{ask_at}
use Rattle.core_model.specs.State.{Core, first_core}
use Rattle.core_model.specs.Step.{stepped}
use Rattle.reply_laws.specs.Named.{AreNamed, NamesMore}
use Rattle.reply_laws.specs.Sources.{Source, Given}

-- a request that stands ready
abbrev pub RepliesHaveSources : Type 0
RepliesHaveSources =
    (c : Core) (e : CoreEvent) (now ticket : ℕ) (a : Asked) (reply : Reply) → CoreOk c → ask_at ticket (stepped c e now).core.asks ≡ Some a
    → a.stage ≡ stage.Replied (verdict.Said (Done reply)) → Source c e now a reply

-- a reply that the step gives
abbrev pub GivenRepliesHaveSources : Type 0
GivenRepliesHaveSources =
    (c : Core) (e : CoreEvent) (now : ℕ) (reply : Reply) → CoreOk c → (stepped c e now).outcome ≡ Ok (outcome.Replied (Done reply)) → Given c e now reply

-- What is out is named.

abbrev pub StartsNamed : Type 0
StartsNamed = (named : ℕ → Bool) (settings : Settings) → AreNamed named (first_core settings)

abbrev pub StepsName : Type 0
StepsName =
    (named next : ℕ → Bool) (c : Core) (e : CoreEvent) (now : ℕ) → CoreOk c → NamesMore named next e (stepped c e now).outcome → AreNamed named c
    → AreNamed next (stepped c e now).core
