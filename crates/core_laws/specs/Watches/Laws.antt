-- No watch waits for nothing. A watch that wasn't cancelled is a member of a stream that isn't due to be closed, or was split off and
-- has items in its queue, by whose taking it joins again; every step of a proxy keeps it so.
use Rattle.std.specs.Prelude.{◌≡◌, ℕ, true, List}
use Rattle.core_model.specs.declared.event.CoreEvent.{CoreEvent}
use Rattle.core_model.specs.declared.settings.Settings.{Settings}
use Rattle.core_model.specs.State.{Core, first_core}
use Rattle.core_model.specs.Step.{stepped}
use Rattle.core_model.specs.WaitsFor.{WatchWaits, NoWatchIsIdle}
use Rattle.watch_model.specs.Lookups.{numbered}
use Rattle.watch_model.specs.State.{Broadcasts}
use Rattle.watch_model.specs.Story.{EachWatch}
use Rattle.core_laws.specs.Steps.Kept.{Timed, ran}

-- the streams' numbers rise, to those that were given, and each watch waits for its stream or for its queue to be taken
pub record AreWaiting (b : Broadcasts) : Type 0 where
  pub numbers : numbered 0 b.given b.streams ≡ true
  pub watches : EachWatch (λ w. WatchWaits b.streams w.place w.queue) b.watches

abbrev pub StartWaits : Type 0
StartWaits = (settings : Settings) → AreWaiting (first_core settings).watches

abbrev pub WaitingNoneIsIdle : Type 0
WaitingNoneIsIdle = (c : Core) → AreWaiting c.watches → NoWatchIsIdle c

abbrev pub StepsKeepWaiting : Type 0
StepsKeepWaiting = (c : Core) (e : CoreEvent) (now : ℕ) → AreWaiting c.watches → AreWaiting (stepped c e now).core.watches

-- any events, each at any reading of the clock
abbrev pub RunsLeaveNoWatchIdle : Type 0
RunsLeaveNoWatchIdle = (settings : Settings) (xs : List Timed) → NoWatchIsIdle (ran (first_core settings) xs)
