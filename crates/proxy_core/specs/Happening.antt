-- What an event finds of a proxy that isn't worn, and what it leaves of the ranges that are kept beside.
use Rattle.std.specs.Prelude.{◌≡◌, ◌<◌, ◌^◌}
use Rattle.proxy_model.specs.Prefixes.{leasing_range}
use Rattle.core_model.specs.declared.event.CoreEvent.{CoreEvent}
use Rattle.core_model.specs.declared.event.CoreEvent.TheVariants as event
use Rattle.core_model.specs.Fits.{CoreOk}
use Rattle.core_machine.specs.Keeping.{Kept, IsFirst, RangesOk}

pub record IsReady (k : Kept) : Type 0 where
  pub ok : CoreOk k.core
  pub ranges : RangesOk k
  -- there are further numbers for steps and streams
  pub steps : k.core.steps < 2 ^ 62
  pub given : k.core.watches.given < 2 ^ 62

-- a tick may take the range that the leasing stream is first opened with
abbrev pub RangesAfter : CoreEvent → Kept → Kept → Type 0
RangesAfter (event.Tick word) old new =
    (new.ranges.leasing ≡ old.ranges.leasing) × IsFirst new.core.leasing (leasing_range old.core.own.waits.prefix) new.ranges.first
RangesAfter _ old new = new.ranges ≡ old.ranges
