-- What falls is the acquire of the request's own key.
use Rattle.std.proofs.Common.{sym, ◌∙◌, ap}
use Rattle.proxy_model.specs.Keyed.{Keyed}
use Rattle.std.specs.Prelude.{Bool}
use Rattle.read_steps.proofs.Falling.{due_falls, none_falls}
use Rattle.read_steps.proofs.over.drop_due.Goals as goal

pub returns-then-acquires_due : goal.returns-then-acquires_due
returns-then-acquires_due c =
    let t = sym c.acquires_due.ensures ∙ c.if-acquires_due.true in
    record {
      waits = c.end_acquire.ensures.waits ∙ ap (λ (s : Keyed Bool). record c.args.waits.now { spoiled = s }) (due_falls c.args.ask.now c.args.acquires.now c.args.waits.now.spoiled c.key_of-key.result.now c.key_of-key.ensures t);
      acquires = c.remove.ensures ∙ due_falls c.args.ask.now c.args.acquires.now c.args.acquires.now c.key_of-key.result.now c.key_of-key.ensures t;
    }

pub returns : goal.returns
returns c =
    let f = sym c.acquires_due.ensures ∙ c.if-acquires_due.false in
    record {
      waits = ap (λ (s : Keyed Bool). record c.args.waits.now { spoiled = s }) (none_falls c.args.ask.now c.args.acquires.now c.args.waits.now.spoiled f);
      acquires = none_falls c.args.ask.now c.args.acquires.now c.args.acquires.now f;
    }
