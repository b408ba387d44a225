use Rattle.row_laws.proofs.Wrote.{wrote_turns}
use Rattle.row_laws.proofs.FoundRows.{blocked_turns}
use Rattle.row_laws.proofs.Ended.{refused_turns, lost_turns}
use Rattle.row_laws.proofs.writes_turn.Goals as goal

pub returns : goal.returns
returns c = record { done = wrote_turns; blocked = blocked_turns; refused = refused_turns; lost = lost_turns }
