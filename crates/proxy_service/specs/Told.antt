-- What a host and a spawner tell of a server between two moments, and how often each of them has failed.
use Rattle.std.specs.Prelude.{◌≡◌, ℕ, ◌≤◌, ◌^◌, min, List, [], ◌∷◌, map, length, Option, None, Some, Result, Ok, Err}
use Rattle.outside.specs.Calls.{Adds, Handed, HostCall, Accepted}
use Rattle.outside.specs.Faults.{Rose}
use Rattle.outside.specs.declared.parts.Part.{Part}
use Rattle.outside.specs.declared.source.Failed.{Failed}
use Rattle.proxy_service.specs.declared.ends.ServeEnd.{ServeEnd}
use Rattle.proxy_service.specs.declared.ends.ServeEnd.TheVariants.{Stopped, NoMemory, ListenerFault, SpawnerFault}
use Rattle.proxy_service.specs.Announced.{Announces, listens}
use Rattle.proxy_service.specs.Parts.{handed_at, Client, accepts, connection, connections}
use Rattle.proxy_service.specs.Serving.{Starts, Tends, Goes}

-- parts were handed over that are these, each with its place
pub record Hands {P H C : Type 0} (home_of : P → H) (old new : Option (List (Handed (Part P C)))) (parts : List (Handed (Part H C))) : Type 0 where
  pub whole : List (Handed (Part P C))
  pub placed : map (handed_at home_of) whole ≡ parts
  pub told : Adds old new whole

-- these were to be started, in order
pub record IsStarted {P H C : Type 0} (home_of : P → H) (parts : List (Part H C)) (old new : Option (List (Handed (Part P C)))) (faults faults' : ℕ) (result : Result (Unit {0}) ServeEnd) : Type 0 where
  pub handed : List (Handed (Part H C))
  pub starts : Starts parts handed result
  pub hands : Hands home_of old new handed
  pub kept : faults ≤ faults'
  pub caused : result ≡ Err SpawnerFault → Rose faults faults'

-- one client was served, or the host was told to stop, or none came any more, or memory was wanting for its place
pub data TendsOne {H C : Type 0} (home : H) (number : ℕ) : List (HostCall C) → List (Handed (Part H C)) → Result (Unit {0}) ServeEnd → Type 0 where
  served : (client : Client C) → TendsOne home number (Accepted (Ok (Some client.connection)) ∷ []) (connection home number client ∷ []) (Ok tt)
  stopped : TendsOne home number (Accepted (Ok None) ∷ []) [] (Err Stopped)
  closed : (why : Failed) → TendsOne home number (Accepted (Err why) ∷ []) [] (Err ListenerFault)
  unplaced : (last : C) → TendsOne home number (Accepted (Ok (Some last)) ∷ []) [] (Err NoMemory)

pub record IsTendedOne {P H C : Type 0} (home_of : P → H) (home : H) (number : ℕ) (made made' : Option (List (HostCall C))) (handed handed' : Option (List (Handed (Part P C)))) (faults faults' : ℕ) (result : Result (Unit {0}) ServeEnd) : Type 0 where
  pub calls : List (HostCall C)
  pub parts : List (Handed (Part H C))
  pub tends : TendsOne home number calls parts result
  pub asks : Adds made made' calls
  pub hands : Hands home_of handed handed' parts
  pub kept : faults ≤ faults'
  pub caused : result ≡ Err ListenerFault → Rose faults faults'

-- clients were served so far, and this is the next one's number
pub record IsTending {P H C : Type 0} (home_of : P → H) (home : H) (number : ℕ) (made made' : Option (List (HostCall C))) (handed handed' : Option (List (Handed (Part P C)))) (faults faults' : ℕ) : Type 0 where
  pub clients : List (Client C)
  pub numbered : number ≡ min (length clients) (2 ^ 31)
  pub asks : Adds made made' (accepts clients)
  pub hands : Hands home_of handed handed' (connections home 0 clients)
  pub kept : faults ≤ faults'

-- clients were served until no further one was
pub record IsTended {P H C : Type 0} (home_of : P → H) (home : H) (made made' : Option (List (HostCall C))) (handed handed' : Option (List (Handed (Part P C)))) (faults faults' : ℕ) (end : ServeEnd) : Type 0 where
  pub calls : List (HostCall C)
  pub parts : List (Handed (Part H C))
  pub tends : Tends home calls parts end
  pub asks : Adds made made' calls
  pub hands : Hands home_of handed handed' parts
  pub kept : faults ≤ faults'
  pub caused : end ≡ ListenerFault → Rose faults faults'

-- a server went, up to its end, and of its start this line was told
pub record IsServed {P H C : Type 0} (home_of : P → H) (home : H) (address : List ℕ) (workers : ℕ) (made made' : Option (List (HostCall C))) (faults faults' : ℕ)
    (handed handed' : Option (List (Handed (Part P C)))) (refusals refusals' : ℕ) (line : List ℕ) (told told' : Option (List ℕ)) (tells tells' : ℕ) (end : ServeEnd) : Type 0 where
  pub calls : List (HostCall C)
  pub parts : List (Handed (Part H C))
  pub goes : Goes home address workers calls parts end
  pub asks : Adds made made' calls
  pub hands : Hands home_of handed handed' parts
  pub announced : Announces line told told' tells tells' (listens calls)
  pub unheard : end ≡ ListenerFault → Rose faults faults'
  pub unstarted : end ≡ SpawnerFault → Rose refusals refusals'
