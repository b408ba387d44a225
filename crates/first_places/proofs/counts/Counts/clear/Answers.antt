-- The pair's count is 0 now, or it was.
use Rattle.std.proofs.Common.{sym, ◌∙◌}
use Rattle.first_places.specs.Places.{value_at}
use Rattle.first_places.proofs.Counted.{cleared, put_before, was_clear}
use Rattle.first_places.proofs.counts.Counts.clear.Goals as goal

pub returns-clause-cleared : goal.returns-clause-cleared
returns-clause-cleared c =
    cleared c.args.whose c.args.number c.args.place (value_at c.args.starts.now) c.args.self.now c.put.new.self c.in_ok-put.ensures

pub returns-clause-before : goal.returns-clause-before
returns-clause-before c = λ f. put_before c.args.whose c.args.number c.args.place 0 c.args.self.now c.put.new.self c.in_ok-put.ensures f

pub returns-then-count-eq0-clause-cleared : goal.returns-then-count-eq0-clause-cleared
returns-then-count-eq0-clause-cleared c = was_clear c.args.whose c.args.number (value_at c.args.starts.now) c.args.self.now (sym c.of-count.ensures ∙ c.if-count-eq0.true)

pub returns-then-count-eq0-clause-before : goal.returns-then-count-eq0-clause-before
returns-then-count-eq0-clause-before c = λ f. f
