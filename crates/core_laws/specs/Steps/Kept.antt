-- Every step keeps what is to hold of a proxy. So after each step of a run from its start it holds: no request waits for nothing,
-- and of each lease one keepalive is out at most, and none is due beside it.
use Rattle.std.specs.Prelude.{ℕ, List, [], ◌∷◌, Option, None, Some}
use Rattle.etcd_types.specs.declared.answer.Answer.{Answer}
use Rattle.core_laws.specs.Writes.Written.{ShowsBytes}
use Rattle.core_model.specs.declared.event.CoreEvent.{CoreEvent}
use Rattle.core_model.specs.declared.event.CoreEvent.TheVariants as event
use Rattle.core_model.specs.declared.settings.Settings.{Settings}
use Rattle.core_model.specs.Fits.{GroupsOk, CoreOk}
use Rattle.core_model.specs.Heard.{heard}
use Rattle.core_model.specs.State.{Core, first_core}
use Rattle.core_model.specs.Step.{stepped}
use Rattle.core_model.specs.WaitsFor.{NoneIsIdle}

-- the ownership keys that an answer shows, as it is heard, are bytes
abbrev pub HeardBytes : Option Answer → Type 0
HeardBytes None = Unit {0}
HeardBytes (Some a) = ShowsBytes a

-- what comes to a proxy is made of bytes, as far as a law asks for it
abbrev pub IsHeard : Core → CoreEvent → Type 0
IsHeard c (event.Answer call a) = HeardBytes (heard c.settings.namespace a)
IsHeard c _ = Unit {0}

abbrev pub StepsKeep : Type 0
StepsKeep = (c : Core) (e : CoreEvent) (now : ℕ) → IsHeard c e → CoreOk c → CoreOk (stepped c e now).core

-- Runs: any events, each at any reading of the clock.

pub record Timed : Type 0 where
  pub event : CoreEvent
  pub now : ℕ

abbrev pub after : Core → Timed → Core
after c x = (stepped c x.event x.now).core

abbrev pub ran : Core → List Timed → Core
ran c [] = c
ran c (x ∷ xs) = ran (after c x) xs

abbrev pub AllHeard : Core → List Timed → Type 0
AllHeard c [] = Unit {0}
AllHeard c (x ∷ xs) = IsHeard c x.event × AllHeard (after c x) xs

abbrev pub RunsKeep : Type 0
RunsKeep = (settings : Settings) (xs : List Timed) → AllHeard (first_core settings) xs → CoreOk (ran (first_core settings) xs)

abbrev pub RunsLeaveNoneIdle : Type 0
RunsLeaveNoneIdle = (settings : Settings) (xs : List Timed) → AllHeard (first_core settings) xs → NoneIsIdle (ran (first_core settings) xs)

abbrev pub RunsShareKeepalives : Type 0
RunsShareKeepalives =
    (settings : Settings) (xs : List Timed) → AllHeard (first_core settings) xs → GroupsOk (ran (first_core settings) xs).out (ran (first_core settings) xs).asks
