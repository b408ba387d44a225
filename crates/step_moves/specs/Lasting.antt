-- What the sending of a job asks for beside lasts: entries stand in the order of their keys, and clients' own calls write nothing.
use Rattle.std.specs.Prelude.{◌≡◌, ℕ, true, false, List}
use Rattle.etcd_types.specs.Keys.{is_empty}
use Rattle.proxy_model.specs.Keyed.{is_in_order}
use Rattle.core_model.specs.declared.event.CoreEvent.{CoreEvent}
use Rattle.core_model.specs.declared.settings.Settings.{Settings}
use Rattle.core_model.specs.Fits.{CoreOk}
use Rattle.core_model.specs.State.{Core, first_core}
use Rattle.core_model.specs.Step.{stepped}
use Rattle.core_laws.specs.Steps.Kept.{Timed, ran, AllHeard}
use Rattle.core_fits.specs.Fits.{ReadsAlone}
use Rattle.step_moves.specs.Work.{ClientsFit}

-- with leasing off clients' writes are calls of their own
pub record SendingFits (c : Core) : Type 0 where
  pub in_order : is_in_order c.own.entries ≡ true
  pub clients : is_empty c.own.waits.prefix ≡ false → ClientsFit c

abbrev pub SendingStarts : Type 0
SendingStarts = (settings : Settings) → SendingFits (first_core settings)

abbrev pub SendingLasts : Type 0
SendingLasts = (c : Core) (e : CoreEvent) (now : ℕ) → CoreOk c → ReadsAlone c → SendingFits c → SendingFits (stepped c e now).core

-- so it holds after every run
abbrev pub SendingRuns : Type 0
SendingRuns = (settings : Settings) (xs : List Timed) → AllHeard (first_core settings) xs → SendingFits (ran (first_core settings) xs)
