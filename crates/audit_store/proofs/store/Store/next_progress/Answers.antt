use Rattle.std.proofs.Common.{sym}
use Rattle.store_model.proofs.WatchLemmas.{progressed-some}
use Rattle.audit_store.specs.Store.{state_of}
use Rattle.audit_store.proofs.PushLemmas.{push_found, fault_found}
use Rattle.audit_store.proofs.store.Store.next_progress.Goals as goal

pub returns-in-Some-clause-step : goal.returns-in-Some-clause-step
returns-in-Some-clause-step c =
    push_found c.progress_for.result c.args.self.now.index (state_of c.args.self.now) c.args.number c.in-Some.watch.now _ _ (λ h. c.in-Some.ensures)
    (λ h. progressed-some (state_of c.args.self.now h) c.args.number c.in-Some.watch.now (sym c.in-Some.ensures)) c.progress_for.ensures.step

pub returns-in-Some-clause-fault : goal.returns-in-Some-clause-fault
returns-in-Some-clause-fault c =
    fault_found c.progress_for.result c.args.self.now.index _ _
    (λ h. progressed-some (state_of c.args.self.now h) c.args.number c.in-Some.watch.now (sym c.in-Some.ensures)) c.progress_for.ensures.fault
