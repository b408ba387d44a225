-- What a server does outside, from its start to its end: by `Goes`, all its parts at one hub whose core was fresh, and with its hosts and its limit of a message and its
-- form of refusals.
use Rattle.std.specs.Prelude.{◌≡◌, ℕ, List, Option, ◌⊎◌}
use Rattle.outside.specs.Calls.{HostCall, Handed}
use Rattle.outside.specs.declared.parts.Part.{Part}
use Rattle.http_talk.specs.declared.form.RefusalForm.{RefusalForm}
use Rattle.turn_hub.specs.Known.{Known, opening_of}
use Rattle.turn_hub.specs.declared.view.Opening.{Opening}
use Rattle.core_model.specs.State.{Core, first_core}
use Rattle.server_model.specs.Steps.{Step}
use Rattle.proxy_parts.specs.Homes.{home_of}
use Rattle.proxy_parts.specs.declared.place.Place.{Place}
use Rattle.proxy_service.specs.declared.ends.ServeEnd.{ServeEnd}
use Rattle.proxy_service.specs.declared.ends.ServeEnd.TheVariants.{NoMemory}
use Rattle.proxy_service.specs.declared.service.Service.{Service}
use Rattle.proxy_service.specs.Told.{IsServed}

-- what a host and a spawner tell at a moment, and how often each has failed
pub record Seen (C : Type 0) : Type 0 where
  pub made : Option (List (HostCall C))
  pub host_faults : ℕ
  pub handed : Option (List (Handed (Part Place C)))
  pub spawner_faults : ℕ

abbrev pub seen : {C : Type 0} → Option (List (HostCall C)) → ℕ → Option (List (Handed (Part Place C))) → ℕ → Seen C
seen made host_faults handed spawner_faults =
    record { made = made; host_faults = host_faults; handed = handed; spawner_faults = spawner_faults }

-- a hub, hosts, how many bytes a message of a watch may have, and how refusals are written
abbrev pub Home : Type 0
Home = Known (Opening Core) Step × List (List ℕ) × ℕ × RefusalForm

-- the hub's core was fresh, the hosts are those of the members, and the limit and the form are the service's own
pub record IsHome (service : Service) (home : Home) : Type 0 where
  pub fresh : opening_of home.0.hub ≡ first_core service.core
  pub hosts : home.1 ≡ service.hosts
  pub message_limit : home.2 ≡ service.message_limit
  pub form : home.3 ≡ service.form

-- it went at this home, and of its start this line was told
pub record Went {C : Type 0} (service : Service) (line : List ℕ) (told told' : Option (List ℕ)) (tells tells' : ℕ) (before after : Seen C) (end : ServeEnd) : Type 0 where
  pub home : Home
  pub is : IsHome service home
  pub goes : IsServed home_of home service.listen service.workers before.made after.made before.host_faults after.host_faults before.handed after.handed before.spawner_faults after.spawner_faults line told told' tells tells' end

-- or memory was wanting for its hub, and nothing was called, nor told
abbrev pub Serves : {C : Type 0} → Service → List ℕ → Option (List ℕ) → Option (List ℕ) → ℕ → ℕ → Seen C → Seen C → ServeEnd → Type 0
Serves service line told told' tells tells' before after end =
    ((end ≡ NoMemory) × (after ≡ before) × (told' ≡ told)) ⊎ Went service line told told' tells tells' before after end
