-- The deletions so far are those of the front of the list.
use Rattle.std.proofs.Common.{◌≡◌, ◌++◌, take, map}
use Rattle.store_model.specs.Transactions.{deletion}
use Rattle.audit_store.proofs.run.add_deletions.Given as goal

abbrev pub invariant-loop-record : goal.invariant-loop-record
invariant-loop-record l = l.made ≡ l.initial.made ++ map deletion (take l.record-index l.gone)
