-- Of one proxy: it begins so that nothing that it may send has an empty key, every step keeps that, and so each request that it
-- sends has none and goes out under the namespace.
use Rattle.std.specs.Prelude.{◌≡◌, ℕ, List, Some, Ok}
use Rattle.core_model.specs.declared.event.CoreEvent.{CoreEvent}
use Rattle.core_model.specs.declared.event.Job.{Job}
use Rattle.core_model.specs.declared.event.Outcome.TheVariants as outcome
use Rattle.core_model.specs.declared.settings.Settings.{Settings}
use Rattle.core_model.specs.State.{Core, first_core}
use Rattle.core_model.specs.Step.{stepped}
use Rattle.namespace_laws.specs.Images.Named.{CoreNamed, JobUnder}

abbrev pub StartsNamed : Type 0
StartsNamed = (settings : Settings) → CoreNamed settings.leasing (first_core settings)

abbrev pub StepsStayNamed : Type 0
StepsStayNamed = (p : List ℕ) (c : Core) (e : CoreEvent) (now : ℕ) → CoreNamed p c → CoreNamed p (stepped c e now).core

abbrev pub JobsGoUnder : Type 0
JobsGoUnder =
    (p : List ℕ) (c : Core) (e : CoreEvent) (now : ℕ) (j : Job) → CoreNamed p c → (stepped c e now).outcome ≡ Ok (outcome.Job (Some j))
    → JobUnder c.settings.namespace j
