-- What the store's server does outside, from its start to its end: by `Goes`, all its parts at one hub, whose machine was a store with nothing
-- in it.
use Rattle.std.specs.Prelude.{◌≡◌, ℕ, List, Option, ◌⊎◌}
use Rattle.outside.specs.Calls.{HostCall, Handed}
use Rattle.outside.specs.declared.parts.Part.{Part}
use Rattle.turn_hub.specs.Known.{opening_of}
use Rattle.shop_model.specs.Shop.{first_shop}
use Rattle.store_machine.specs.Standing.{Stands}
use Rattle.store_serve.specs.Homes.{Home, home_of}
use Rattle.store_serve.specs.declared.place.StorePlace.{StorePlace}
use Rattle.proxy_service.specs.declared.ends.ServeEnd.{ServeEnd}
use Rattle.proxy_service.specs.declared.ends.ServeEnd.TheVariants.{NoMemory}
use Rattle.shop_service.specs.Told.{IsServed}

-- what a host and a spawner tell at a moment, and how often the host has failed
pub record Seen (C : Type 0) : Type 0 where
  pub made : Option (List (HostCall C))
  pub host_faults : ℕ
  pub handed : Option (List (Handed (Part StorePlace C)))

abbrev pub seen : {C : Type 0} → Option (List (HostCall C)) → ℕ → Option (List (Handed (Part StorePlace C))) → Seen C
seen made host_faults handed = record { made = made; host_faults = host_faults; handed = handed }

-- it went at this home, whose store was fresh, and of its start this line was told
pub record Went {C : Type 0} (address line : List ℕ) (told told' : Option (List ℕ)) (tells tells' : ℕ) (before after : Seen C) (end : ServeEnd) : Type 0 where
  pub home : Home
  pub fresh : Stands (opening_of home.hub) first_shop
  pub goes : IsServed home_of home address before.made after.made before.host_faults after.host_faults before.handed after.handed line told told' tells tells' end

-- or memory was wanting for its hub, and nothing was called, nor told
abbrev pub Serves : {C : Type 0} → List ℕ → List ℕ → Option (List ℕ) → Option (List ℕ) → ℕ → ℕ → Seen C → Seen C → ServeEnd → Type 0
Serves address line told told' tells tells' before after end =
    ((end ≡ NoMemory) × (after ≡ before) × (told' ≡ told)) ⊎ Went address line told told' tells tells' before after end
