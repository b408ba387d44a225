-- The part turns by one place, so its last row comes first.
use Rattle.std.proofs.Common.{◌+◌, refl}
use Rattle.end_rows.proofs.Moves.{first_now}
use Rattle.end_rows.proofs.to_front.Goals as goal

pub returns-clause-rest : goal.returns-clause-rest
returns-clause-rest g c = first_now c.args.place (c.args.place + 1) c.args.rows.now _ c.requires refl c.rotate_right.ensures.after
