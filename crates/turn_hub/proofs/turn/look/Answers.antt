use Rattle.std.proofs.Common.{arith}
use Rattle.turn_hub.proofs.Looks.{looks_allows}
use Rattle.turn_hub.proofs.Sitting.{sits_on}
use Rattle.turn_hub.proofs.turn.look.Goals as goal

pub load-requires : goal.load-requires
load-requires g c =
    let sits = c.requires.sits in let words = sits.words in (
      sits.at_table,
      omega arith,
      looks_allows g.M.Machine.steps c.args.board.now.key.machine.value c.args.board.now.key.base c.args.board.now.table_id.slots c.args.seat.now.id c.args.seat.now.me,
    )

pub returns-clause-sits : goal.returns-clause-sits
returns-clause-sits g c =
    let sits = c.requires.sits in let told = (c.load.ensures.2 c.args.board.now.key.machine.value sits.opens).1 in
    sits_on c.args.board.now.table_id c.args.board.now.key.machine.value c.args.board.now.key.base c.args.seat.now.table_id c.load.new.seat.table_id c.args.seat.now.me.0 c.load.new.seat.me.0 sits c.load.ensures.0 (λ i. (told.after i).opening) (λ i. (told.after i).base)

pub returns-clause-carried : goal.returns-clause-carried
returns-clause-carried g c = (c.load.ensures.2 c.args.board.now.key.machine.value c.requires.sits.opens).0
