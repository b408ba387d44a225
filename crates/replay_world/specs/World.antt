-- How the code's world stands for the world of the definitions, and what a line makes of it.
use Rattle.std.specs.Prelude.{◌≡◌, ◌≢◌, ℕ, Bool, List, Result, Ok, Err}
use Rattle.script_text.specs.declared.item.Item.{Item}
use Rattle.store_world.specs.declared.store.Store.{Store}
use Rattle.store_world.specs.Store as store
use Rattle.world_model.specs.declared.fault.WorldFault.{WorldFault}
use Rattle.world_model.specs.declared.fault.WorldFault.TheVariants as fault
use Rattle.world_model.specs.declared.floor.Floor.{Floor}
use Rattle.world_model.specs.declared.sent_call.SentCall.{SentCall}
use Rattle.world_model.specs.State.{Numbered, Place, OpenedStream, World as Model}
use Rattle.world_model.specs.Steps.{Step}

-- What clauses see of a world: its parts, the store among them as it is, which may stand for more than one state.
pub record Parts : Type 0 where
  pub members : ℕ
  pub namespace : List ℕ
  pub leasing : List ℕ
  pub places : Numbered Place
  pub calls : List SentCall
  pub streams : List OpenedStream
  pub floors : Numbered Floor
  pub store : Store
  -- the lines taken behind the first
  pub lines : ℕ
  -- memory was wanting once
  pub spent : Bool

-- this world stands for that one
pub record Stands (x : Parts) (w : Model) : Type 0 where
  pub members : w.members ≡ x.members
  pub namespace : w.namespace ≡ x.namespace
  pub leasing : w.leasing ≡ x.leasing
  pub places : w.places ≡ x.places
  pub calls : w.calls ≡ x.calls
  pub streams : w.streams ≡ x.streams
  pub floors : w.floors ≡ x.floors
  pub store : store.Stands x.store w.store
  pub lines : w.lines ≡ x.lines

-- the line gains these items, or has this fault, and the world that it leaves stands for the one that it is to leave; want of memory
-- says nothing
pub record Leaves (new : Parts) (step : Step) (gained : Result (List Item) WorldFault) : Type 0 where
  pub after : Model
  pub so : step ≡ record { world = after; gained = gained }
  pub stands : Stands new after

abbrev pub Gives : Parts → Result (List Item) WorldFault → Step → Type 0
Gives new (Ok items) step = Leaves new step (Ok items)
Gives new (Err why) step = why ≢ fault.NoMemory → Leaves new step (Err why)
