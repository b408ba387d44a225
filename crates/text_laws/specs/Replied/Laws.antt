-- What a proxy replies, and the messages that it gives to its watches, have a text, where what it is asked and hears has one.
use Rattle.std.specs.Prelude.{ℕ}
use Rattle.core_model.specs.declared.event.CoreEvent.{CoreEvent}
use Rattle.core_model.specs.declared.settings.Settings.{Settings}
use Rattle.core_model.specs.State.{Core, first_core}
use Rattle.core_model.specs.Step.{stepped}
use Rattle.text_laws.specs.Sent.Sends.{CoreFits, EventFits}
use Rattle.text_laws.specs.Replied.Holds.{CoreHolds, IsTicketed, OutcomeHolds, risen, Bounds}

abbrev pub StartsHold : Type 0
StartsHold = (most : ℕ) (settings : Settings) → CoreHolds most (first_core settings)

abbrev pub StepsHold : Type 0
StepsHold =
    (heard most : ℕ) (c : Core) (e : CoreEvent) (now : ℕ) → Bounds heard most → CoreFits c → EventFits heard e → IsTicketed e → CoreHolds most c
    → CoreHolds (risen e most) (stepped c e now).core × OutcomeHolds (stepped c e now).outcome
