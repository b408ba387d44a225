-- Part by part, and then the release.
use Rattle.std.proofs.Common.{ℕ, refl, sym, ◌∙◌, ap, map, subst}
use Rattle.wait_model.specs.State.{Waits}
use Rattle.read_model.specs.Acquires.{acquire_gone, acquire_lost, told_lost}
use Rattle.read_model.specs.Fits.{AllStand}
use Rattle.read_model.specs.State.{Reads, ground_of}
use Rattle.read_core.specs.Falls.{stand_elsewhere}
use Rattle.read_steps.specs.Parts.{reads}
use Rattle.read_steps.proofs.Elsewhere.{lost_elsewhere}
use Rattle.read_steps.proofs.Standing.{released_parts}
use Rattle.read_steps.proofs.reads.Reads.lose_acquire.Goals as goal

pub release_at-requires : goal.release_at-requires
release_at-requires c =
    let r = reads c.self.inside.table.entries c.self.inside.waits c.self.inside.acquires c.self.inside.asks in
    let stand = subst (λ (x : Reads). AllStand (ground_of x) x.asks) (sym c.self.view_is) c.requires.1.asks in
    (λ i. stand_elsewhere c.args.key.now r.own.entries (c.remove.ensures i) (c.lose_reader.ensures i))
    ∙ lost_elsewhere c.args.members _ c.args.key.now r.own.entries r.acquires r.asks stand

pub returns : goal.returns
returns c =
    let r = reads c.self.inside.table.entries c.self.inside.waits c.self.inside.acquires c.self.inside.asks in
    let m = c.args.m.now in
    let k = c.args.key.now in
    let n = c.args.members in
    released_parts m (acquire_gone k (ground_of r)) (map (told_lost n r.own.waits.step k) r.asks) _ _ _ _ _ _
    refl c.end_acquire.ensures.waits c.remove.ensures
    (c.lose_reader.ensures ∙ ap (λ (step : ℕ). map (told_lost n step k) r.asks) (c.step-step.ensures ∙ ap (λ (w : Waits). w.step) c.end_acquire.ensures.waits))
    c.step-step.ensures c.release_at.ensures
    ∙ ap (λ (x : Reads). acquire_lost n m k x) c.self.view_is
