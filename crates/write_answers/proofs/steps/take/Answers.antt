-- The stages that were made are those of the table then; what is settled is replied.
use Rattle.std.proofs.Common.{map, ◌∙◌, ap}
use Rattle.known_asks.specs.Changes.{staged_by}
use Rattle.read_model.specs.WriteAnswers.{settled_ask}
use Rattle.wait_model.specs.State.{owned}
use Rattle.write_answers.specs.Answered.{stage_after}
use Rattle.write_answers.proofs.steps.take.Goals as goal

pub returns-clause-asks : goal.returns-clause-asks
returns-clause-asks c =
    let xs = c.args.asks.now in
    let own = owned c.args.table.now.entries c.args.waits.now in
    let stage = stage_after c.args.when c.args.call c.args.read own c.args.acquires.now in
    c.reply.ensures ∙ ap (λ ys. map (settled_ask c.in_ok-settled.settled) ys) (c.set_stages.ensures ∙ c.in_ok-changes.ensures) ∙ ap (λ s. map (settled_ask s) (map (staged_by stage) xs)) c.in_ok-settled.ensures.settled
