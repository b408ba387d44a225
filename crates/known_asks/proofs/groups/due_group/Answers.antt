-- The first one in the due group tells it.
use Rattle.std.proofs.Common.{Option, ap, ◌∙◌}
use Rattle.read_model.specs.declared.asked.Asked.{Asked}
use Rattle.known_asks.proofs.GroupMarks.{since_of, since_first}
use Rattle.known_asks.proofs.groups.due_group.Goals as goal

pub returns-in-Some : goal.returns-in-Some
returns-in-Some c =
    c.due_since.ensures ∙ ap (λ (o : Option Asked). since_of o) c.in-Some.ensures ∙ since_first c.args.lease c.args.asks.now

pub returns-in-None : goal.returns-in-None
returns-in-None c =
    ap (λ (o : Option Asked). since_of o) c.in-None.ensures ∙ since_first c.args.lease c.args.asks.now
