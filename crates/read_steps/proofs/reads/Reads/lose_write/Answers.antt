-- Part by part, and then the release.
use Rattle.std.proofs.Common.{refl, ◌∙◌, ap, map}
use Rattle.wait_model.specs.declared.wait.Settled.{Settled}
use Rattle.wait_model.specs.Endings.{lost}
use Rattle.read_model.specs.State.{ground_of}
use Rattle.read_model.specs.WriteAnswers.{ending, settled_ask, wait_lost}
use Rattle.read_steps.specs.Parts.{reads}
use Rattle.read_steps.proofs.Standing.{released_parts}
use Rattle.read_steps.proofs.reads.Reads.lose_write.Goals as goal

pub returns : goal.returns
returns c =
    let r = reads c.self.inside.table.entries c.self.inside.waits c.self.inside.acquires c.self.inside.asks in
    let m = c.args.m.now in
    let x = ending (lost c.args.call r.own) r in
    released_parts m (ground_of x) x.asks _ _ _ _ _ _
    c.lost-settled.ensures.entries c.lost-settled.ensures.waits refl
    (c.settle.ensures ∙ ap (λ (s : Settled). map (settled_ask s) r.asks) c.lost-settled.ensures.settled)
    c.step.ensures c.release.ensures
    ∙ ap (wait_lost m c.args.call) c.self.view_is
