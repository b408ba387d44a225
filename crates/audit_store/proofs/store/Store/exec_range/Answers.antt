use Rattle.std.proofs.Common.{sym, ◌∙◌, subst}
use Rattle.store_model.specs.Step.{Step}
use Rattle.audit_store.specs.Store.{state_of, Takes}
use Rattle.audit_store.proofs.RunProofs.{range_settled}
use Rattle.audit_store.proofs.store.Store.exec_range.Goals as goal

pub returns-clause-step : goal.returns-clause-step
returns-clause-step c = λ h holds.
    let settled = range_settled (state_of c.args.self.now h) c.args.member c.args.ask.now c.new-made.result c.in_ok-told.told c.new-made.ensures c.if-ask.false
    (sym c.is_empty.ensures ∙ c.if-is_empty.false) (c.in_ok-told.ensures h holds) in
    let Taken : Step → Type 0 = λ step. Takes c.settle.new.self c.in_ok-settle.field-0 step in
    subst Taken (sym settled) (c.in_ok-settle.ensures.step h holds)
