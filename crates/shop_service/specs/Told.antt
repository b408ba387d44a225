-- What a host and a spawner tell of the store's server between two moments, and how often the host has failed.
use Rattle.std.specs.Prelude.{◌≡◌, ℕ, ◌≤◌, List, [], ◌∷◌, Option, None, Some, Result, Ok, Err}
use Rattle.outside.specs.Calls.{Adds, Handed, HostCall, Accepted}
use Rattle.outside.specs.Faults.{Rose}
use Rattle.outside.specs.declared.parts.Part.{Part}
use Rattle.outside.specs.declared.source.Failed.{Failed}
use Rattle.proxy_service.specs.declared.ends.ServeEnd.{ServeEnd}
use Rattle.proxy_service.specs.declared.ends.ServeEnd.TheVariants.{Stopped, NoMemory, ListenerFault}
use Rattle.proxy_service.specs.Announced.{Announces, listens}
use Rattle.proxy_service.specs.Parts.{Client, accepts}
use Rattle.proxy_service.specs.Told.{Hands}
use Rattle.shop_service.specs.Serving.{Tends, Goes, connection, connections}

-- one client was served, or the host was told to stop, or none came any more, or memory was wanting for its place
pub data TendsOne {H C : Type 0} (home : H) : List (HostCall C) → List (Handed (Part H C)) → Result (Unit {0}) ServeEnd → Type 0 where
  served : (client : Client C) → TendsOne home (Accepted (Ok (Some client.connection)) ∷ []) (connection home client ∷ []) (Ok tt)
  stopped : TendsOne home (Accepted (Ok None) ∷ []) [] (Err Stopped)
  closed : (why : Failed) → TendsOne home (Accepted (Err why) ∷ []) [] (Err ListenerFault)
  unplaced : (last : C) → TendsOne home (Accepted (Ok (Some last)) ∷ []) [] (Err NoMemory)

pub record IsTendedOne {P H C : Type 0} (home_of : P → H) (home : H) (made made' : Option (List (HostCall C))) (handed handed' : Option (List (Handed (Part P C)))) (faults faults' : ℕ) (result : Result (Unit {0}) ServeEnd) : Type 0 where
  pub calls : List (HostCall C)
  pub parts : List (Handed (Part H C))
  pub tends : TendsOne home calls parts result
  pub asks : Adds made made' calls
  pub hands : Hands home_of handed handed' parts
  pub kept : faults ≤ faults'
  pub caused : result ≡ Err ListenerFault → Rose faults faults'

-- clients were served so far
pub record IsTending {P H C : Type 0} (home_of : P → H) (home : H) (made made' : Option (List (HostCall C))) (handed handed' : Option (List (Handed (Part P C)))) (faults faults' : ℕ) : Type 0 where
  pub clients : List (Client C)
  pub asks : Adds made made' (accepts clients)
  pub hands : Hands home_of handed handed' (connections home clients)
  pub kept : faults ≤ faults'

-- clients were served until no further one was
pub record IsTended {P H C : Type 0} (home_of : P → H) (home : H) (made made' : Option (List (HostCall C))) (handed handed' : Option (List (Handed (Part P C)))) (faults faults' : ℕ) (end : ServeEnd) : Type 0 where
  pub calls : List (HostCall C)
  pub parts : List (Handed (Part H C))
  pub tends : Tends home calls parts end
  pub asks : Adds made made' calls
  pub hands : Hands home_of handed handed' parts
  pub kept : faults ≤ faults'
  pub caused : end ≡ ListenerFault → Rose faults faults'

-- a server went, up to its end, and of its start this line was told
pub record IsServed {P H C : Type 0} (home_of : P → H) (home : H) (address : List ℕ) (made made' : Option (List (HostCall C))) (faults faults' : ℕ)
    (handed handed' : Option (List (Handed (Part P C)))) (line : List ℕ) (told told' : Option (List ℕ)) (tells tells' : ℕ) (end : ServeEnd) : Type 0 where
  pub calls : List (HostCall C)
  pub parts : List (Handed (Part H C))
  pub goes : Goes home address calls parts end
  pub asks : Adds made made' calls
  pub hands : Hands home_of handed handed' parts
  pub announced : Announces line told told' tells tells' (listens calls)
  pub unheard : end ≡ ListenerFault → Rose faults faults'
