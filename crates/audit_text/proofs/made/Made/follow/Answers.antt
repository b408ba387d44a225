-- The rules of both sides are all rules.
use Rattle.audit_text.proofs.Clients.{keeps_each, fault_of_store, fault_of_clients}
use Rattle.audit_text.proofs.Rules.{on_ok, if_err}
use Rattle.audit_text.proofs.made.Made.follow.Goals as goal

pub returns-in-Ok-clause-taken : goal.returns-in-Ok-clause-taken
returns-in-Ok-clause-taken c =
    on_ok c.give.result (λ t items m g.
    let x = c.in-Ok.ensures.taken items m g in
    let y = t items x.1 g in
    (keeps_each items c.args.item.now x.0 y.0, y.1)) c.give.ensures.taken

pub returns-in-Ok-clause-fault : goal.returns-in-Ok-clause-fault
returns-in-Ok-clause-fault c =
    if_err c.give.result (λ f r items m g.
    let x = c.in-Ok.ensures.taken items m g in
    fault_of_clients items c.args.item.now f x.0 (r items x.1 g)) c.give.ensures.fault

pub returns-in-Err-clause-fault : goal.returns-in-Err-clause-fault
returns-in-Err-clause-fault c = λ items m g. fault_of_store items c.args.item.now c.in-Err.fault (c.in-Err.ensures.fault items m g)
