use Rattle.std.proofs.Common.{arith}
use Rattle.turn_hub.proofs.Seats.{splits_allows}
use Rattle.turn_hub.proofs.turn.split_seat.Goals as goal

pub split_seat-requires : goal.split_seat-requires
split_seat-requires g c =
    let sits = c.requires.sits in let words = sits.words in
    (sits.at_table, omega arith, splits_allows g.M.Machine.steps c.args.board.now.key.machine.value c.args.board.now.key.base c.args.seat.now.id c.args.seat.now.me.0)
