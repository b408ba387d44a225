use Rattle.std.proofs.Common.{◌∙◌, ap, subst, arith, ◌∷◌}
use Rattle.atomic_table.specs.Table.{rest}
use Rattle.turn_hub.specs.declared.view.Stowed.TheVariants.{Noted}
use Rattle.atomic_table.specs.Table.{Me}
use Rattle.turn_hub.specs.declared.view.View.{View}
use Rattle.turn_hub.specs.declared.view.Stowed.{Stowed}
use Rattle.turn_hub.specs.Kinds.{adds_noted}
use Rattle.turn_hub.proofs.Adds.{adds_allows}
use Rattle.turn_hub.proofs.turn.raise.Goals as goal

pub fetch_add-requires : goal.fetch_add-requires
fetch_add-requires g c =
    let sits = c.requires.sits in
    let words = sits.words in
    let a = c.exchange.ensures in
    let empty = ap rest c.requires.carried in
    let me = a.3 ∙ (λ i. (c.args.seat.now.me.0, (0, Noted c.args.note) ∷ empty i)) in (
      a.0 ∙ sits.at_table,
      omega arith,
      adds_allows g.M.Machine.steps c.args.board.now.key.machine.value c.args.board.now.key.base c.args.board.now.table_id.slots c.exchange.new.seat.id c.exchange.new.seat.me c.args.seat.now.me.0 c.args.note c.requires.step.0 me c.requires.step.1 c.requires.step.2 c.requires.room c.args.board.now.key.machine.value sits.opens,
    )

pub returns-clause-added : goal.returns-clause-added
returns-clause-added g c =
    let a = c.exchange.ensures in
    let empty = ap rest c.requires.carried in
    let me = a.3 ∙ (λ i. (c.args.seat.now.me.0, (0, Noted c.args.note) ∷ empty i)) in
    (subst (λ (x : Me (Stowed g.row.M.Denot g.row.M-Event.Denot g.row.M-Outcome.Denot g.row.M-Fault.Denot) (View g.row.M.Denot g.row.M-Event.Denot g.row.M-Outcome.Denot g.row.M-Fault.Denot)). adds_noted g.M.Machine.steps x c.fetch_add.new.seat.me x.1) me c.fetch_add.ensures.2).1 c.args.board.now.key.machine.value c.requires.sits.opens
