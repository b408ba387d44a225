-- Part by part, and then the release.
use Rattle.std.proofs.Common.{refl, ◌∙◌, ap}
use Rattle.proxy_model.specs.Keyed.{at}
use Rattle.wait_model.specs.Edits.{without}
use Rattle.wait_model.specs.State.{Waits}
use Rattle.read_model.specs.SessionEnd.{is_due_acquire, over, session_over}
use Rattle.read_model.specs.State.{ground_of}
use Rattle.read_steps.specs.Parts.{reads}
use Rattle.read_steps.proofs.Standing.{released_parts}
use Rattle.read_steps.proofs.reads.Reads.end_session.Goals as goal

pub returns : goal.returns
returns c =
    let r = reads c.self.inside.table.entries c.self.inside.waits c.self.inside.acquires c.self.inside.asks in
    released_parts c.args.m.now (over (ground_of r)) r.asks _ _ _ _ _ _
    c.end_session.ensures.entries
    (c.end_due.ensures.waits ∙ ap (λ (w : Waits). record w { spoiled = without (λ k. is_due_acquire (at r.acquires k)) w.spoiled }) c.end_session.ensures.waits)
    c.end_due.ensures.acquires refl c.step.ensures c.release.ensures
    ∙ ap (session_over c.args.m.now) c.self.view_is
