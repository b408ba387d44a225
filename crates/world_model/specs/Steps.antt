-- What a line does: it leaves a world, and gains items or can't be taken. A line that can't be taken leaves the world as it
-- was, but for what a proxy's step does before its fault: its clock work and its count.
use Rattle.std.specs.Prelude.{ℕ, List, Option, None, Some, Result, Ok, Err}
use Rattle.core_model.specs.declared.event.CoreEvent.{CoreEvent}
use Rattle.core_model.specs.declared.event.Outcome.{Outcome}
use Rattle.core_model.specs.declared.event.StepFault.{StepFault}
use Rattle.core_model.specs.declared.event.StepFault.TheVariants as core
use Rattle.core_model.specs.Step.{stepped}
use Rattle.core_model.specs.Stepped.{Stepped}
use Rattle.script_text.specs.declared.item.Item.{Item}
use Rattle.store_model.specs.declared.store_fault.StoreFault.{StoreFault}
use Rattle.store_model.specs.declared.store_fault.StoreFault.TheVariants as store
use Rattle.world_model.specs.declared.fault.WorldFault.{WorldFault}
use Rattle.world_model.specs.declared.fault.WorldFault.TheVariants as fault
use Rattle.world_model.specs.Places.{place_at, with_place, with_core}
use Rattle.world_model.specs.State.{Place, World}

pub record Step : Type 0 where
  pub world : World
  pub gained : Result (List Item) WorldFault

abbrev pub gains : World → List Item → Step
gains w items = record { world = w; gained = Ok items }

abbrev pub refuses : World → WorldFault → Step
refuses w why = record { world = w; gained = Err why }

-- Lines of a proxy need that it was started.

abbrev pub at_place_of : World → ℕ → Option Place → (Place → Step) → Step
at_place_of w p None step = refuses w (fault.NoSuchProxy p)
at_place_of w p (Some x) step = step x

abbrev pub at_place : World → ℕ → (Place → Step) → Step
at_place w p step = at_place_of w p (place_at w p) step

-- A proxy makes a step, at its clock's reading. What comes of its outcome is `next`; of a fault, the line's own fault, and a
-- proxy that is worn is told as that.

abbrev pub of_core : ℕ → WorldFault → StepFault → WorldFault
of_core p why core.Worn = fault.Worn p
of_core p why core.NoMemory = fault.NoMemory
of_core p why (core.TicketUsed ticket) = why
of_core p why (core.NoSuchTicket ticket) = why
of_core p why (core.NoSuchCall call) = why
of_core p why (core.NoSuchStream stream) = why

abbrev pub by_outcome : World → ℕ → Place → WorldFault → (Place → Outcome → Step) → Result Outcome StepFault → Step
by_outcome w p x why next (Ok o) = next x o
by_outcome w p x why next (Err f) = refuses (with_place w p x) (of_core p why f)

abbrev pub after_core : World → ℕ → Place → WorldFault → (Place → Outcome → Step) → Stepped → Step
after_core w p x why next s = by_outcome w p (with_core x s.core) why next s.outcome

abbrev pub steps : World → ℕ → Place → CoreEvent → WorldFault → (Place → Outcome → Step) → Step
steps w p x event why next = after_core w p x why next (stepped x.core event x.clock)

-- The store's faults, of a stream that has this number.
abbrev pub of_store : ℕ → StoreFault → WorldFault
of_store stream (store.NoSuchLease lease) = fault.NoSuchLease lease
of_store stream (store.BadApply applied newest) = fault.BadApply applied newest
of_store stream (store.NoSuchMember member) = fault.NoSuchMember member
of_store stream (store.NoSuchWatch watch) = fault.NoSuchStream stream
of_store stream (store.NothingToPush watch) = fault.NothingToPush stream
of_store stream (store.NotAsked watch) = fault.NotAsked stream
of_store stream (store.NotSynced next newest) = fault.NotSynced next newest
of_store stream store.NoMemory = fault.NoMemory
