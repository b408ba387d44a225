-- What a proxy sends has a text, where what it is asked and hears has one.
use Rattle.std.specs.Prelude.{ℕ, ◌+◌, ◌≤◌}
use Rattle.text_model.specs.Words.{max_number}
use Rattle.core_model.specs.declared.event.CoreEvent.{CoreEvent}
use Rattle.core_model.specs.declared.settings.Settings.{Settings}
use Rattle.core_model.specs.State.{Core, first_core}
use Rattle.core_model.specs.Step.{stepped}
use Rattle.text_laws.specs.Sent.Sends.{SettingsFit, CoreFits, EventFits, OutcomeFits}

abbrev pub StartsFit : Type 0
StartsFit = (settings : Settings) → SettingsFit settings → CoreFits (first_core settings)

abbrev pub StepsFit : Type 0
StepsFit = (most : ℕ) (c : Core) (e : CoreEvent) (now : ℕ) → most + 1 ≤ max_number → CoreFits c → EventFits most e → CoreFits (stepped c e now).core × OutcomeFits (stepped c e now).outcome
