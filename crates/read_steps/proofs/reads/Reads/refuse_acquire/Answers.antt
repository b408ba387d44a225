-- The acquire is over, and then the session is, or the reads are released.
use Rattle.std.proofs.Common.{refl, sym, ◌∙◌, ap, subst}
use Rattle.proxy_model.specs.Keyed.{Keyed}
use Rattle.read_model.specs.declared.acquire.Acquire.{Acquire}
use Rattle.read_model.specs.Acquires.{acquire_gone, acquire_refused}
use Rattle.read_model.specs.Fits.{AllStand}
use Rattle.read_model.specs.SessionEnd.{session_over}
use Rattle.read_model.specs.State.{Reads, ground_of}
use Rattle.read_core.specs.Falls.{stand_elsewhere}
use Rattle.read_steps.specs.Parts.{reads}
use Rattle.read_steps.proofs.Elsewhere.{all_elsewhere}
use Rattle.read_steps.proofs.Standing.{released_parts}
use Rattle.read_steps.proofs.reads.Reads.refuse_acquire.Goals as goal

pub release_at-requires : goal.release_at-requires
release_at-requires c =
    let r = reads c.self.inside.table.entries c.self.inside.waits c.self.inside.acquires c.self.inside.asks in
    let stand = subst (λ (x : Reads). AllStand (ground_of x) x.asks) (sym c.self.view_is) c.requires.1.asks in
    ap (λ (acquires : Keyed Acquire). stand_elsewhere c.args.key.now r.own.entries acquires r.asks) c.remove.ensures
    ∙ all_elsewhere c.args.key.now r.own.entries r.acquires r.asks stand

pub returns-then-ends : goal.returns-then-ends
returns-then-ends c =
    let r = reads c.self.inside.table.entries c.self.inside.waits c.self.inside.acquires c.self.inside.asks in
    let m = c.args.m.now in
    let k = c.args.key.now in
    c.end_session.ensures
    ∙ (λ i. session_over m (reads c.self.inside.table.entries (c.end_acquire.ensures.waits i) (c.remove.ensures i) c.self.inside.asks))
    ∙ ap (λ b. (acquire_refused m k b r).reads) (sym c.if-ends.true)
    ∙ ap (λ (x : Reads). (acquire_refused m k c.args.ends x).reads) c.self.view_is

pub returns-else-ends : goal.returns-else-ends
returns-else-ends c =
    let r = reads c.self.inside.table.entries c.self.inside.waits c.self.inside.acquires c.self.inside.asks in
    let m = c.args.m.now in
    let k = c.args.key.now in
    released_parts m (acquire_gone k (ground_of r)) r.asks _ _ _ _ _ _ refl c.end_acquire.ensures.waits c.remove.ensures refl c.step.ensures c.release_at.ensures
    ∙ ap (λ b. (acquire_refused m k b r).reads) (sym c.if-ends.false)
    ∙ ap (λ (x : Reads). (acquire_refused m k c.args.ends x).reads) c.self.view_is
