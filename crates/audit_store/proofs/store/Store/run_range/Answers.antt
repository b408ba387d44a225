use Rattle.audit_store.proofs.RunProofs.{newest_read}
use Rattle.audit_store.proofs.store.Store.run_range.Goals as goal

pub returns : goal.returns
returns c = λ h holds.
    newest_read h c.args.made.now c.as_slice-changes.result.now c.latest-latest.result c.args.self.now.compacted c.args.ask.now c.in_ok-told.told
    c.as_slice-changes.ensures (c.latest-latest.ensures.newest h holds) (c.in_ok-told.ensures h holds)
