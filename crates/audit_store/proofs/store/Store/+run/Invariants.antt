-- What the operations left give from here, behind the bodies so far, is what all give from the start.
use Rattle.std.proofs.Common.{◌≡◌, drop}
use Rattle.store_model.specs.History.{History}
use Rattle.store_model.specs.Transactions.{run_all}
use Rattle.store_index.specs.Index.{HoldsKept}
use Rattle.audit_store.specs.Store.{state_of}
use Rattle.audit_store.specs.Running.{with_bodies}
use Rattle.audit_store.proofs.store.Store.+run.Given as goal

abbrev pub invariant-run_all-loop-operation : goal.invariant-run_all-loop-operation
invariant-run_all-loop-operation l =
    (h : History) → HoldsKept l.self.index h
    → with_bodies l.bodies (run_all (state_of l.self h) (drop l.operation-index l.operations) l.made)
    ≡ run_all (state_of l.self h) l.operations l.initial.made
