use Rattle.std.proofs.Common.{sym, ◌∙◌, ap, subst}
use Rattle.store_model.specs.History.{with_revision, up_to_revision}
use Rattle.store_model.specs.Reads.{read}
use Rattle.store_index.specs.declared.index.Index.{Index}
use Rattle.store_index.specs.Index.{HoldsKept}
use Rattle.store_world.proofs.RunProofs.{newest_read}
use Rattle.store_world.proofs.store.Store.run_range.Goals as goal

pub returns : goal.returns
returns c = λ h holds.
    let held : HoldsKept c.get-index.result.now h = subst (λ (i : Index). HoldsKept i h) (sym c.get-index.ensures) holds in
    newest_read h c.args.made.now c.as_slice-changes.result.now c.latest-latest.result c.args.self.now.index.compacted c.args.ask.now c.in_ok-told.told
    c.as_slice-changes.ensures (c.latest-latest.ensures.newest h held)
    (c.in_ok-told.ensures h held
    ∙ ap (λ (i : Index). read (up_to_revision (with_revision h c.as_slice-changes.result.now) c.latest-latest.result) c.latest-latest.result i.compacted c.args.ask.now) c.get-index.ensures)
