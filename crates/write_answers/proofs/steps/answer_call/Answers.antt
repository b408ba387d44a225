-- What was read is taken, and that is what the definition leaves.
use Rattle.std.proofs.Common.{Ok, sym}
use Rattle.write_answers.specs.Answered.{parts, moment}
use Rattle.write_answers.proofs.Placed.{taken_leaves, placed_answers}
use Rattle.write_answers.proofs.steps.answer_call.Goals as goal

pub returns-in_ok-take-in-Ok-clause-in_place : goal.returns-in_ok-take-in-Ok-clause-in_place
returns-in_ok-take-in-Ok-clause-in_place c = λ created.
    let t = c.args.told in
    let r = parts c.args.table.now.entries c.args.waits.now c.args.acquires.now c.args.asks.now in
    let done = c.in_ok-take-in-Ok.ensures in
    let next = parts c.take.new.table.entries c.take.new.waits c.args.acquires.now c.take.new.asks in
    taken_leaves created t.when t.call t.answer c.in-Ok.read r next c.requires.step (c.in-Ok.ensures t.when.session t.when.now) (λ i. parts (sym done.entries i) (sym done.waits i) c.args.acquires.now (sym done.asks i))

pub returns-in_ok-take-in-Ok-clause-answered : goal.returns-in_ok-take-in-Ok-clause-answered
returns-in_ok-take-in-Ok-clause-answered c = λ standing created fits.
    let t = c.args.told in
    let r = parts c.args.table.now.entries c.args.waits.now c.args.acquires.now c.args.asks.now in
    let next = parts c.take.new.table.entries c.take.new.waits c.args.acquires.now c.take.new.asks in
    placed_answers (Ok tt) standing (moment created t.when) t.call t.answer r next fits (returns-in_ok-take-in-Ok-clause-in_place c created)
