-- How a server goes: what it calls on its host, and which parts it hands to its spawner, in order, up to the cause of its end. It listens
-- once, and then accepts alone. `home` is what all its parts have: the hub, the hosts and the limit of a message.
use Rattle.std.specs.Prelude.{ℕ, List, [], ◌∷◌, ◌++◌, map, Option, None, Some, Result, Ok, Err}
use Rattle.outside.specs.Calls.{Handed, HostCall, Listened, Accepted}
use Rattle.outside.specs.declared.parts.Part.{Part}
use Rattle.outside.specs.declared.source.Failed.{Failed}
use Rattle.proxy_service.specs.declared.ends.ServeEnd.{ServeEnd}
use Rattle.proxy_service.specs.declared.ends.ServeEnd.TheVariants.{Stopped, NoMemory, ListenerFault, SpawnerFault}
use Rattle.proxy_service.specs.Parts.{started, refused, staff, Client, accepts, connections}

-- Of these parts, which are to be started in order, all were, or it ended by the first that wasn't: it was handed over and refused, or
-- memory was wanting for its place
pub data Starts {Q : Type 0} : List Q → List (Handed Q) → Result (Unit {0}) ServeEnd → Type 0 where
  all : (parts : List Q) → Starts parts (map started parts) (Ok tt)
  unstarted : (front : List Q) (part : Q) (rest : List Q) → Starts (front ++ (part ∷ rest)) (map started front ++ (refused part ∷ [])) (Err SpawnerFault)
  unplaced : (front : List Q) (part : Q) (rest : List Q) → Starts (front ++ (part ∷ rest)) (map started front) (Err NoMemory)

-- Clients were accepted, and parts handed over for them, until the host answered that it was told to stop, or no further one came, or memory
-- was wanting for the place of the last one
pub data Tends {H C : Type 0} (home : H) : List (HostCall C) → List (Handed (Part H C)) → ServeEnd → Type 0 where
  stopped : (clients : List (Client C)) → Tends home (accepts clients ++ (Accepted (Ok None) ∷ [])) (connections home 0 clients) Stopped
  closed : (clients : List (Client C)) (why : Failed) → Tends home (accepts clients ++ (Accepted (Err why) ∷ [])) (connections home 0 clients) ListenerFault
  unplaced : (clients : List (Client C)) (last : C) → Tends home (accepts clients ++ (Accepted (Ok (Some last)) ∷ [])) (connections home 0 clients) NoMemory

pub data Goes {H C : Type 0} (home : H) (address : List ℕ) (workers : ℕ) : List (HostCall C) → List (Handed (Part H C)) → ServeEnd → Type 0 where
  deaf : (why : Failed) → Goes home address workers (Listened address (Err why) ∷ []) [] ListenerFault
  unstaffed : (parts : List (Handed (Part H C))) (end : ServeEnd) → Starts (staff home workers) parts (Err end)
      → Goes home address workers (Listened address (Ok tt) ∷ []) parts end
  served : (calls : List (HostCall C)) (parts : List (Handed (Part H C))) (end : ServeEnd) → Tends home calls parts end
      → Goes home address workers (Listened address (Ok tt) ∷ calls) (map started (staff home workers) ++ parts) end
