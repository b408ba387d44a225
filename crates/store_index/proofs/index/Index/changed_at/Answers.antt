use Rattle.std.proofs.Common.{◌≡◌, ◌+◌, ◌-◌, ◌∙◌, arith}
use Rattle.store_index.proofs.IndexLemmas.{place_of_revision}
use Rattle.store_index.proofs.index.Index.changed_at.Goals as goal

pub returns : goal.returns
returns c =
    let here : c.args.self.now.compacted - 2 + (c.args.revision - c.max.result) ≡ c.args.revision - 2 = omega arith in
    λ h holds. c.in_ok-at.ensures ∙ place_of_revision _ _ c.args.revision _ _ _ h holds c.requires.first c.requires.last here
