-- The transaction writes nothing, so the store stays.
use Rattle.std.proofs.Common.{sym, subst}
use Rattle.store_model.specs.Step.{IsExecuted}
use Rattle.audit_clients.proofs.Quiet.{left_so}
use Rattle.audit_clients.proofs.snapshots.answer_now.Goals as goal

pub execute-requires-clause-executed : goal.execute-requires-clause-executed
execute-requires-clause-executed c = subst IsExecuted (sym c.in_ok-wrapped.ensures) tt

pub returns : goal.returns
returns c = λ s h.
    left_so s c.args.namespace.now c.args.txn.now c.in_ok-wrapped.wrapped c.execute.new.self c.in_ok-answer.answer c.in_ok-wrapped.ensures c.requires (c.in_ok-answer.ensures.step s h)
