use Rattle.std.proofs.Common.{arith}
use Rattle.turn_hub.proofs.Seats.{joins_allows}
use Rattle.turn_hub.proofs.turn.join_seat.Goals as goal

pub join_seat-requires : goal.join_seat-requires
join_seat-requires g c =
    let sits = c.requires.sits in let words = sits.words in (
      sits.at_table,
      c.requires.other.at_table,
      c.requires.carried,
      omega arith,
      joins_allows g.M.Machine.steps c.args.board.now.key.machine.value c.args.board.now.key.base c.args.seat.now.id c.args.seat.now.me.0 c.args.other.id c.args.other.me.0 c.requires.away,
    )
