use Rattle.std.proofs.Common.{List, ◌++◌, ◌∷◌, [], take, sym, ◌∙◌, ap}
use Rattle.std.proofs.lemmas.List.{take_more}
use Rattle.store_model.specs.declared.history.KeyChange.{KeyChange}
use Rattle.store_index.specs.Adding.{with_change, added_all}
use Rattle.store_index.proofs.AddingLemmas.{added_all-push}
use Rattle.store_index.proofs.versions.Versions.add_copies.Goals as goal

pub loop-change-preserved : goal.loop-change-preserved
loop-change-preserved c =
    let passed : List KeyChange = take c.loop-change.change-index c.args.changes.now in
    c.in_ok-add_change.ensures.ok ∙ ap (λ (d : KeyChange). with_change c.args.revision d c.loop-change.self) c.in_ok-copy.ensures
    ∙ ap (with_change c.args.revision c.change-item.result) c.loop-change.invariant
    ∙ sym (added_all-push c.args.revision passed c.change-item.result c.args.self.now)
    ∙ ap (λ (cs : List KeyChange). added_all c.args.revision cs c.args.self.now)
    (sym (take_more c.args.changes.now c.loop-change.change-index c.change-item.result c.loop-change-test.true ∙ ap (λ (d : KeyChange). passed ++ d ∷ []) (sym c.change-item.is)))
