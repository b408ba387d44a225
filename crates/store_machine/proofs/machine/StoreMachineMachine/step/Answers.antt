-- Each shop that it represents makes the step, and its leases keep their deadlines.
use Rattle.std.proofs.Common.{sym, subst}
use Rattle.store_machine.specs.declared.kept.Kept.{Kept}
use Rattle.store_machine.specs.Holding.{Holds, Timed}
use Rattle.store_machine.proofs.Steps.{timed_after}
use Rattle.store_machine.proofs.Machines.{steps_so}
use Rattle.store_machine.proofs.machine.StoreMachineMachine.step.Goals as goal

pub step-answer-requires-clause-timed : goal.step-answer-requires-clause-timed
step-answer-requires-clause-timed c = subst (λ (k : Kept). ∥ Timed k ∥₁) (sym c.deref_mut.ensures.value) c.args.self.now.timed

pub invariant_of-self : goal.invariant_of-self
invariant_of-self c = record {
  timed = timed_after c.deref_mut.result.now c.step-answer.new.self c.args.event c.args.now c.step-answer.result
      (subst (λ (k : Kept). ∥ Timed k ∥₁) (sym c.deref_mut.ensures.value) c.args.self.now.timed) c.step-answer.ensures;
}

pub returns : goal.returns
returns c = steps_so c.args.self.now _ c.args.event c.args.now c.step-answer.result
    (λ s h t. c.step-answer.ensures s (subst (λ (k : Kept). Holds k s) (sym c.deref_mut.ensures.value) h) t)
