use Rattle.std.proofs.Common.{sym, ◌∙◌, subst}
use Rattle.store_model.specs.Step.{Step}
use Rattle.store_model.proofs.StepLemmas.{exec_txn-runs}
use Rattle.audit_store.specs.Store.{state_of, Takes}
use Rattle.audit_store.proofs.store.Store.exec_txn.Goals as goal

pub returns-in_ok-exec_lists-in-None-clause-step : goal.returns-in_ok-exec_lists-in-None-clause-step
returns-in_ok-exec_lists-in-None-clause-step c = λ h holds.
    let ran = exec_txn-runs (state_of c.args.self.now h) c.args.member c.args.txn.now (sym c.in_ok-refusal.ensures ∙ c.in-None.is) in
    let Taken : Step → Type 0 = λ step. Takes c.exec_lists.new.self c.in_ok-exec_lists-in-None.field-0 step in
    subst Taken (sym ran) (c.in_ok-exec_lists-in-None.ensures.step h holds)
