-- A proxy sends a call in a world that is shown: the view gains the call behind all others, in its form, and the world stays shown.
use Rattle.std.specs.Prelude.{◌≡◌, ℕ, ◌≤◌, [], ◌∷◌, ◌++◌, length, Some, Ok}
use Rattle.etcd_types.specs.declared.request.Request.{Request}
use Rattle.core_model.specs.declared.event.CoreEvent.TheVariants as event
use Rattle.core_model.specs.declared.event.Job.TheVariants as job
use Rattle.core_model.specs.declared.event.Outcome.TheVariants as outcome
use Rattle.core_model.specs.Step.{stepped}
use Rattle.world_model.specs.Places.{place_at, with_core, with_place}
use Rattle.world_model.specs.Sends.{next_call, new_call}
use Rattle.world_model.specs.State.{Place, World}
use Rattle.bridge_laws.specs.Shown.{numbers, Shown}

-- each number that a proxy has of a call is of one that was sent
abbrev pub CallsAreSent : World → Type 0
CallsAreSent w = (p : ℕ) (x : Place) → place_at w p ≡ Some x → (n : ℕ) → numbers x.calls n ≤ length w.calls

-- the place behind the step, with the number of the call
abbrev pub sender : World → Place → Place
sender w x = record (with_core x (stepped x.core event.Work x.clock).core) { calls = x.calls ++ next_call w ∷ [] }

abbrev pub with_sent : World → ℕ → Place → ℕ → ℕ → Request → World
with_sent w p x own member q = record w { calls = w.calls ++ new_call p (with_core x (stepped x.core event.Work x.clock).core) own member q ∷ [] }

abbrev pub SendingsStayShown : Type 0
SendingsStayShown =
    (holder : ℕ → ℕ) (w : World) (p : ℕ) (x : Place) (own member ticket : ℕ) (q : Request) → place_at w p ≡ Some x → length x.calls ≡ x.core.calls → CallsAreSent w
    → (stepped x.core event.Work x.clock).outcome ≡ Ok (outcome.Job (Some (job.Call own member ticket q))) → Shown holder w → Shown holder (with_place (with_sent w p x own member q) p (sender w x))
