-- How the store's server goes: what it calls on its host, and which parts it hands over, in order, up to the cause of its end. It listens
-- once, and then accepts alone. `home` is what all its parts have: the hub.
use Rattle.std.specs.Prelude.{List, [], ◌∷◌, ◌++◌, map, None, Some, Option, ℕ, Ok, Err}
use Rattle.outside.specs.Calls.{Handed, HostCall, Listened, Accepted}
use Rattle.outside.specs.declared.parts.Part.{Part}
use Rattle.outside.specs.declared.parts.Part.TheVariants.{Connection}
use Rattle.outside.specs.declared.source.Failed.{Failed}
use Rattle.proxy_service.specs.declared.ends.ServeEnd.{ServeEnd}
use Rattle.proxy_service.specs.declared.ends.ServeEnd.TheVariants.{Stopped, NoMemory, ListenerFault}
use Rattle.proxy_service.specs.Parts.{Client, accepts}

-- a client's part: a connection without tickets
abbrev pub connection : {H C : Type 0} → H → Client C → Handed (Part H C)
connection home client = record { part = Connection home client.connection (record { next = 1; end = 1 }); started = client.started }

abbrev pub connections : {H C : Type 0} → H → List (Client C) → List (Handed (Part H C))
connections home clients = map (connection home) clients

-- Clients were accepted, and parts handed over for them, until the host answered that it was told to stop, or no further one came, or memory
-- was wanting for the place of the last one
pub data Tends {H C : Type 0} (home : H) : List (HostCall C) → List (Handed (Part H C)) → ServeEnd → Type 0 where
  stopped : (clients : List (Client C)) → Tends home (accepts clients ++ (Accepted (Ok None) ∷ [])) (connections home clients) Stopped
  closed : (clients : List (Client C)) (why : Failed) → Tends home (accepts clients ++ (Accepted (Err why) ∷ [])) (connections home clients) ListenerFault
  unplaced : (clients : List (Client C)) (last : C) → Tends home (accepts clients ++ (Accepted (Ok (Some last)) ∷ [])) (connections home clients) NoMemory

pub data Goes {H C : Type 0} (home : H) (address : List ℕ) : List (HostCall C) → List (Handed (Part H C)) → ServeEnd → Type 0 where
  deaf : (why : Failed) → Goes home address (Listened address (Err why) ∷ []) [] ListenerFault
  served : (calls : List (HostCall C)) (parts : List (Handed (Part H C))) (end : ServeEnd) → Tends home calls parts end
      → Goes home address (Listened address (Ok tt) ∷ calls) parts end
