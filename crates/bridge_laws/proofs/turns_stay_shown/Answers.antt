use Rattle.bridge_laws.proofs.Senders.{senders_last}
use Rattle.bridge_laws.proofs.Turns.{turns_stay_shown, ticks_stay_shown}
use Rattle.bridge_laws.proofs.turns_stay_shown.Goals as goal

pub returns : goal.returns
returns c = record { turns = turns_stay_shown; ticks = ticks_stay_shown; senders = senders_last }
