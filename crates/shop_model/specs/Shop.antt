-- What the server holds, a store of one member and a deadline for each lease, and what a step does first: the leases that are due
-- expire, and the member applies the newest revision, so that it serves serializable reads as a cluster of one member does.
use Rattle.std.specs.Prelude.{ℕ, List, [], ◌∷◌, Result, Ok, Err}
use Rattle.store_model.specs.declared.store_fault.StoreFault.{StoreFault}
use Rattle.store_model.specs.History.{newest}
use Rattle.store_model.specs.State.{State, starting}
use Rattle.store_model.specs.Leases.{expired}
use Rattle.store_model.specs.Members.{applied}
use Rattle.shop_model.specs.declared.deadline.Deadline.{Deadline}
use Rattle.shop_model.specs.Deadlines.{due, without_deadline}

pub record Shop : Type 0 where
  pub store : State
  -- by rising numbers of the leases
  pub deadlines : List Deadline

abbrev pub first_shop : Shop
first_shop = record { store = starting 1; deadlines = [] }

-- a step of the store that is refused leaves it as it was
abbrev pub taken : State → Result State StoreFault → State
taken s (Ok t) = t
taken s (Err fault) = s

abbrev pub lease_ended : ℕ → Shop → Shop
lease_ended number s = record { store = taken s.store (expired s.store number); deadlines = without_deadline number s.deadlines }

-- these leases end, one after the other
abbrev pub all_ended : List ℕ → Shop → Shop
all_ended [] s = s
all_ended (number ∷ numbers) s = all_ended numbers (lease_ended number s)

abbrev pub caught_up : Shop → Shop
caught_up s = record { store = taken s.store (applied s.store 1 (newest s.store.history)); deadlines = s.deadlines }

-- the shop as an event finds it
abbrev pub settled : ℕ → Shop → Shop
settled now s = caught_up (all_ended (due now s.deadlines) s)
