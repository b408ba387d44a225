use Rattle.watch_streams.proofs.Places.{numbered-more}
use Rattle.watch_merge.proofs.broadcasts.Broadcasts.take_number.Goals as goal

pub invariant_of-self : goal.invariant_of-self
invariant_of-self c = record { numbers = numbered-more 0 c.self.inside.given c.self.inside.streams.items c.self.invariant.numbers; tickets = c.self.invariant.tickets; index = c.self.invariant.index; idle = c.self.invariant.idle }
