-- What is left to do leads from here to the same record.
use Rattle.std.proofs.Common.{◌≡◌, drop}
use Rattle.store_model.specs.Records.{after_changes}
use Rattle.store_history.proofs.records.after_changes.Given as goal

abbrev pub invariant-loop-change : goal.invariant-loop-change
invariant-loop-change l =
    after_changes l.revision l.key (drop l.change-index l.changes) l.record ≡ after_changes l.revision l.key l.changes l.fn.old
