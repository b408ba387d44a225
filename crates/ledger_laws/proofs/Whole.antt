-- Behind each prefix of a script its items tell its world.
use Rattle.std.proofs.Common.{List, subst}
use Rattle.script_text.specs.declared.item.Item.{Item}
use Rattle.prefix_laws.proofs.Prefixes.{every_told}
use Rattle.world_model.specs.State.{World}
use Rattle.world_model.specs.Transcript.{transcript}
use Rattle.ledger_laws.specs.Laws.{IsTold, EachWorldIsTold}
use Rattle.ledger_laws.proofs.Calls.{CallSays}
use Rattle.ledger_laws.proofs.Starts.{StartSays}
use Rattle.ledger_laws.proofs.Streams.{StreamSays}
use Rattle.ledger_laws.proofs.Worlds.{Ledger, ledger_kept}

pub told_by : (items : List Item) (w : World) → Ledger items w → IsTold items w
told_by items w h = record {
  started = λ p. (h.starts_say p).started;
  clocks = λ p x at. (subst (StartSays items p) at (h.starts_say p)).clock;
  count = h.calls_say.count;
  calls = λ n call at. let k = subst (CallSays items n) at (h.calls_say.each n) in record { sender = k.sender; executed = k.ran; settled = k.settled };
  opened = h.streams_say.count;
  streams = λ n s at. let k = subst (StreamSays items n) at (h.streams_say.each n) in record { opener = k.opener; ended = k.ended; cancelled = k.cancelled };
  floors = h.floors_say;
}

pub worlds_told : EachWorldIsTold
worlds_told lines w s e = told_by (transcript lines) w (every_told Ledger lines (ledger_kept lines) w s e).so
