-- One more is counted for the pair.
use Rattle.first_places.specs.Places.{value_at}
use Rattle.first_places.proofs.Counted.{put_before, raised}
use Rattle.first_places.proofs.counts.Counts.raise.Goals as goal

pub returns-clause-raised : goal.returns-clause-raised
returns-clause-raised c = λ l.
    raised c.args.whose c.args.number c.args.place c.of-count.result (value_at c.args.starts.now) c.args.self.now c.put.new.self c.of-count.ensures c.in_ok-put.ensures l

pub returns-clause-before : goal.returns-clause-before
returns-clause-before c = λ f. put_before c.args.whose c.args.number c.args.place _ c.args.self.now c.put.new.self c.in_ok-put.ensures f
