use Rattle.std.proofs.Common.{arith}
use Rattle.turn_hub.proofs.Takes.{takes_allows}
use Rattle.turn_hub.proofs.turn.try_turn.Goals as goal

pub compare_exchange-requires : goal.compare_exchange-requires
compare_exchange-requires g c =
    let sits = c.requires.sits in let words = sits.words in (
      sits.at_table,
      omega arith,
      takes_allows g.M.Machine.steps c.args.board.now.key.machine.value c.args.board.now.key.base c.args.board.now.table_id.slots c.args.seat.now.id c.args.seat.now.me,
    )
