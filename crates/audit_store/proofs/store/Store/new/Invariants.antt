-- So many members have an applied revision.
use Rattle.std.proofs.Common.{◌≡◌, replicate}
use Rattle.audit_store.proofs.store.Store.new.Given as goal

abbrev pub invariant-loop : goal.invariant-loop
invariant-loop l = l.applied ≡ replicate l.counter 1
