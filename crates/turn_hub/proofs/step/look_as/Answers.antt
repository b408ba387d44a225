-- The turn was taken, the machine looked at, and the turn given back.
use Rattle.std.proofs.Common.{rules}
use Rattle.turn_hub.proofs.Made.{sees_step}
use Rattle.turn_hub.proofs.step.look_as.Goals as goal

pub returns-clause-looked : goal.returns-clause-looked
returns-clause-looked g c = (
  c.take_turn-machine.result,
  sees_step g.M.Machine.steps c.args.board.now.table_id c.args.board.now.key c.args.seat.now.me.0 c.take_turn-machine.new.seat.me.0 c.look.new.seat.me.0 c.give_back.new.seat.me.0
      c.take_turn-machine.result c.look.result c.requires.rests.stands.within (λ i. (c.take_turn-machine.ensures.me i).0) c.look.ensures.looked c.look.ensures.sits.counts (λ i. (c.give_back.ensures.me i).0),
  search rules,
)
