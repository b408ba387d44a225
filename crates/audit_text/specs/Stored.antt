-- What a step of the store gives, where it may give nothing: the store is then as it was.
use Rattle.std.specs.Prelude.{◌≡◌, ℕ, Bool, true, false, Option, Result}
use Rattle.std.specs.Option.{option_map}
use Rattle.etcd_types.specs.declared.answer.Answer.{Answer}
use Rattle.etcd_types.specs.declared.request.Request.{Request}
use Rattle.etcd_types.specs.declared.watch.WatchItem.{WatchItem}
use Rattle.store_model.specs.declared.store_fault.StoreFault.{StoreFault}
use Rattle.store_model.specs.declared.store_fault.StoreFault.TheVariants as fault
use Rattle.store_model.specs.State.{State}
use Rattle.store_model.specs.Step.{exec}
use Rattle.store_model.specs.Watches.{Pushed}
use Rattle.audit_store.specs.declared.store.Store.{Store}
use Rattle.audit_store.specs.Store.{Stands}
use Rattle.world_model.specs.Answers.{after_call, after_push, after_step, message_of}
use Rattle.audit_model.specs.Order.{is_ok}

abbrev pub is_out_of_memory : StoreFault → Bool
is_out_of_memory fault.NoMemory = true
is_out_of_memory _ = false

-- the answer to a call at its member, and the store after it
pub record Answers (s : State) (call : Option (ℕ × Request)) (new : Store) (due : Option Answer) : Type 0 where
  pub answered : due ≡ option_map (λ c. (exec s c.0 c.1).1) call
  pub state : Stands new (after_call s call)

-- the message of a push, and the store after it
pub record Comes (s : State) (step : Pushed) (new : Store) (due : Option WatchItem) : Type 0 where
  pub message : due ≡ message_of step
  pub state : Stands new (after_push s step)

-- whether the step can be taken, and the store after it
pub record Steps (s : State) (step : Result State StoreFault) (new : Store) (there : Bool) : Type 0 where
  pub taken : there ≡ is_ok step
  pub state : Stands new (after_step s step)
