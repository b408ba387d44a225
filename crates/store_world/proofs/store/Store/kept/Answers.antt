use Rattle.std.proofs.Common.{sym, ◌∙◌, ap, subst, min}
use Rattle.store_model.specs.State.{State}
use Rattle.store_index.specs.declared.index.Index.{Index}
use Rattle.store_index.specs.Index.{HoldsKept}
use Rattle.store_index.specs.Count.{count_kept}
use Rattle.store_world.proofs.store.Store.kept.Goals as goal

pub returns : goal.returns
returns c = λ s stands.
    c.kept.ensures s.history (subst (λ (i : Index). HoldsKept i s.history) (sym c.get.ensures) stands.history)
    ∙ ap (λ (i : Index). min (count_kept s.history i.compacted) 0xffff_ffff_ffff_ffff) c.get.ensures
    ∙ ap (λ n. min (count_kept s.history n) 0xffff_ffff_ffff_ffff) (sym (ap (λ (t : State). t.compacted) stands.rest))
