use Rattle.replay_places.proofs.Greatest.{none_greater}
use Rattle.replay_places.proofs.tickets.Tickets.insert.Goals as goal

pub invariant_of-self-2 : goal.invariant_of-self-2
invariant_of-self-2 c =
    none_greater c.self.inside.all.keys c.insert.new.self.keys c.self.inside.most _ c.args.ticket c.self.invariant c.in_ok-insert.ensures.keys c.max-self-inside.ensures
