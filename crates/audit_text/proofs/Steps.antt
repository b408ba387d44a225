-- What the store answers to a call that is kept, and what its other steps give.
use Rattle.std.proofs.Common.{◌≡◌, ℕ, true, List, Option, Some, Result, refl, sym, ◌∙◌, ap, subst}
use Rattle.std.specs.Option.{option_map}
use Rattle.etcd_types.specs.declared.answer.Answer.{Answer}
use Rattle.etcd_types.specs.declared.request.Request.{Request}
use Rattle.audit_store.specs.declared.store.Store.{Store}
use Rattle.etcd_types.specs.declared.watch.WatchItem.{WatchItem}
use Rattle.audit_store.specs.Faults.{Gives, StepsTo}
use Rattle.audit_store.specs.Store.{Stands}
use Rattle.store_model.specs.declared.store_fault.StoreFault.{StoreFault}
use Rattle.store_model.specs.State.{State}
use Rattle.store_model.specs.Watches.{Pushed}
use Rattle.store_model.specs.Step.{exec}
use Rattle.world_model.specs.Answers.{Seen, after_call, answer_to, sent_call}
use Rattle.audit_text.specs.Stored.{Answers, Comes, Steps}

-- the call of this number, as it was sent
pub executed_as : (s : Seen) (number : ℕ) (new : Store) (due : Option Answer) (entry : Option (ℕ × Request)) → entry ≡ sent_call s number → Answers s.store entry new due
    → (due ≡ answer_to s number) × Stands new (after_call s.store (sent_call s number))
executed_as s number new due entry call a =
    (a.answered ∙ ap (λ (o : Option (ℕ × Request)). option_map (λ k. (exec s.store k.0 k.1).1) o) call, subst (λ (o : Option (ℕ × Request)). Stands new (after_call s.store o)) call a.state)

-- a step that is taken, and a message that comes
pub steps_so : (s : State) (step : Result State StoreFault) (new : Store) → StepsTo new step → Steps s step new true
steps_so s step new h = subst (λ (r : Result State StoreFault). Steps s r new true) (sym h.1) (record { taken = refl; state = h.2 })

pub comes_so : (s : State) (step : Pushed) (new : Store) (m : WatchItem) → Gives new m step → Comes s step new (Some m)
comes_so s step new m h = subst (λ (r : Pushed). Comes s r new (Some m)) (sym h.1) (record { message = refl; state = h.2 })
