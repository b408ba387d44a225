-- What a proxy's state keeps, whatever comes to it and whenever, as long as what answers show is made of bytes. Of a proxy that is sound no
-- request and no watch waits for nothing, and no two of its streams that stand created are of one range with equal next.
use Rattle.std.specs.Prelude.{◌≡◌, ℕ, true}
use Rattle.proxy_model.specs.Keyed.{is_in_order}
use Rattle.watch_laws.specs.Alone.{StandAlone}
use Rattle.core_model.specs.declared.event.CoreEvent.{CoreEvent}
use Rattle.core_model.specs.declared.settings.Settings.{Settings}
use Rattle.core_model.specs.ClockWork.{clock_work}
use Rattle.core_model.specs.Fits.{CoreOk}
use Rattle.core_model.specs.State.{Core, first_core}
use Rattle.core_model.specs.Step.{stepped}
use Rattle.core_laws.specs.Steps.Kept.{IsHeard}
use Rattle.core_fits.specs.Fits.{CoreFits}
use Rattle.core_laws.specs.Watches.Laws.{AreWaiting}
use Rattle.waiting_laws.specs.Laws.{RescindsAreOut}
use Rattle.waiting_laws.specs.Waiting.{NothingIsIdle}

pub record IsSound (c : Core) : Type 0 where
  -- its parts agree on what is asked, owned, due and out, and what waits is served
  pub parts_agree : CoreOk c
  pub parts_fit : CoreFits c
  -- entries stand by their keys, and each rescind that was sent is out
  pub entries_in_order : is_in_order c.own.entries ≡ true
  pub rescinds_are_out : RescindsAreOut c
  -- each watch that wasn't cancelled waits for its stream, or for its queue to be taken
  pub watches_wait : AreWaiting c.watches
  -- streams of one range that stand created have different next
  pub streams_stand_alone : StandAlone c.watches.streams

abbrev pub StartsSound : Type 0
StartsSound = (settings : Settings) → IsSound (first_core settings)

abbrev pub StepsStaySound : Type 0
StepsStaySound = (c : Core) (e : CoreEvent) (now : ℕ) → IsHeard c e → IsSound c → IsSound (stepped c e now).core

-- what a fault leaves
abbrev pub ClockWorkStaysSound : Type 0
ClockWorkStaysSound = (c : Core) (now : ℕ) → IsSound c → IsSound (clock_work now c)

abbrev pub SoundIsNotIdle : Type 0
SoundIsNotIdle = (c : Core) → IsSound c → NothingIsIdle c
