-- What every step of a proxy leaves: its settings, its leasing prefix, and that it has a leasing stream once it had one.
use Rattle.std.specs.Prelude.{◌≡◌, ℕ, true, is_some}
use Rattle.core_model.specs.declared.event.CoreEvent.{CoreEvent}
use Rattle.core_model.specs.State.{Core}
use Rattle.core_model.specs.Step.{stepped}

pub record Stays (c d : Core) : Type 0 where
  pub settings : d.settings ≡ c.settings
  pub prefix : d.own.waits.prefix ≡ c.own.waits.prefix
  pub leasing : is_some c.leasing ≡ true → is_some d.leasing ≡ true

abbrev pub StepsStay : Type 0
StepsStay = (c : Core) (e : CoreEvent) (now : ℕ) → Stays c (stepped c e now).core
