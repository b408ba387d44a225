-- Every proxy begins so, and every step keeps each of these facts, whatever comes and whenever; so they hold after every run.
use Rattle.std.specs.Prelude.{ℕ, List}
use Rattle.core_model.specs.declared.event.CoreEvent.{CoreEvent}
use Rattle.core_model.specs.declared.settings.Settings.{Settings}
use Rattle.core_model.specs.Fits.{CoreOk}
use Rattle.core_model.specs.State.{Core, first_core}
use Rattle.core_model.specs.Step.{stepped}
use Rattle.core_laws.specs.Steps.Kept.{Timed, ran, AllHeard}
use Rattle.core_fits.specs.Fits.{CoreFits}

-- it holds of each proxy at its start
abbrev pub Starts : (Core → Type 0) → Type 0
Starts P = (settings : Settings) → P (first_core settings)

-- where it holds of a proxy whose parts agree, it holds after each step
abbrev pub Lasts : (Core → Type 0) → Type 0
Lasts P = (c : Core) (e : CoreEvent) (now : ℕ) → CoreOk c → P c → P (stepped c e now).core

abbrev pub RunsFit : Type 0
RunsFit = (settings : Settings) (xs : List Timed) → AllHeard (first_core settings) xs → CoreFits (ran (first_core settings) xs)
