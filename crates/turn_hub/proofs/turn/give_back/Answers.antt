use Rattle.std.proofs.Common.{◌∙◌, ap, arith, ◌∷◌}
use Rattle.atomic_table.specs.Table.{rest}
use Rattle.turn_hub.specs.declared.view.Stowed.TheVariants.{Machine}
use Rattle.turn_hub.proofs.Gives.{gives_allows}
use Rattle.turn_hub.proofs.turn.give_back.Goals as goal

pub store-requires : goal.store-requires
store-requires g c =
    let sits = c.requires.sits in
    let words = sits.words in
    let a = c.exchange.ensures in
    let empty = ap rest c.requires.carried.1 in
    let me = a.3 ∙ (λ i. (c.args.seat.now.me.0, (0, Machine c.args.machine) ∷ empty i)) in (
      a.0 ∙ sits.at_table,
      omega arith,
      gives_allows g.M.Machine.steps c.args.board.now.key.machine.value c.args.board.now.key.base c.args.board.now.table_id.slots c.exchange.new.seat.id c.exchange.new.seat.me c.args.seat.now.me.0 c.args.machine me c.requires.known sits.slots,
    )
