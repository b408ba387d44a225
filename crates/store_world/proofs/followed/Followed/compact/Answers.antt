-- What is noted stays true where revisions are compacted.
use Rattle.std.proofs.Common.{◌≤◌, sym, subst, arith}
use Rattle.store_index.specs.declared.index.Index.{Index}
use Rattle.store_world.proofs.LookedLemmas.{all_compacted}
use Rattle.store_world.proofs.followed.Followed.compact.Goals as goal

pub invariant_of-self : goal.invariant_of-self
invariant_of-self c =
    let past = subst (λ (i : Index). i.compacted ≤ c.args.revision) (sym c.self.view_is) c.requires.past in
    let to = c.compact.ensures.compacted in
    all_compacted c.self.inside.index c.compact.new.self c.self.inside.looked.items c.compact.ensures.kept (omega (arith, past, to)) c.self.invariant
