use Rattle.std.proofs.Common.{arith}
use Rattle.turn_hub.proofs.Looks.{recalls_allows}
use Rattle.turn_hub.proofs.turn.recall.Goals as goal

pub load-requires : goal.load-requires
load-requires g c =
    let sits = c.requires.sits in let words = sits.words in (
      sits.at_table,
      omega arith,
      recalls_allows g.M.Machine.steps c.args.board.now.key.machine.value c.args.board.now.key.base c.args.board.now.table_id.slots c.args.seat.now.id c.args.seat.now.me c.requires.told,
    )
