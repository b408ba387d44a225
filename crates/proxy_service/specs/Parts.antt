-- Parts as they are handed over, each seen by the home of its place: which hub it steps, which hosts it knows, and its limit of a message.
use Rattle.std.specs.Prelude.{◌≡◌, ℕ, ◌+◌, ◌*◌, ◌^◌, min, Bool, true, false, List, [], ◌∷◌, ◌++◌, map, replicate, Option, Some, Result, Ok}
use Rattle.outside.specs.Calls.{Handed, HostCall, Accepted}
use Rattle.outside.specs.declared.parts.Part.{Part}
use Rattle.outside.specs.declared.parts.Part.TheVariants.{Worker, Ticker, Connection, Follower}
use Rattle.outside.specs.declared.parts.TicketRange.{TicketRange}

abbrev pub at_home : {P H C : Type 0} → (P → H) → Part P C → Part H C
at_home home_of (Worker place) = Worker (home_of place)
at_home home_of (Ticker place) = Ticker (home_of place)
at_home home_of (Connection place connection tickets) = Connection (home_of place) connection tickets
at_home home_of (Follower place follow) = Follower (home_of place) follow

abbrev pub handed_at : {P H C : Type 0} → (P → H) → Handed (Part P C) → Handed (Part H C)
handed_at home_of handed = record { part = at_home home_of handed.part; started = handed.started }

abbrev pub started : {Q : Type 0} → Q → Handed Q
started part = record { part = part; started = true }

abbrev pub refused : {Q : Type 0} → Q → Handed Q
refused part = record { part = part; started = false }

-- ---- those without which no client is served

abbrev pub workers : {H C : Type 0} → H → ℕ → List (Part H C)
workers home count = replicate count (Worker home)

-- so many workers, and then the ticker
abbrev pub staff : {H C : Type 0} → H → ℕ → List (Part H C)
staff home count = workers home count ++ (Ticker home ∷ [])

-- ---- those of clients

-- a client that was accepted, and whether a part was started for it
pub record Client (C : Type 0) : Type 0 where
  pub connection : C
  pub started : Bool

abbrev pub accepts : {C : Type 0} → List (Client C) → List (HostCall C)
accepts clients = map (λ c. Accepted (Ok (Some c.connection))) clients

-- the tickets of the connection of this number, the first one's 0: 2^32 for each of the first 2^31 connections, and none for the others
abbrev pub tickets_of : ℕ → TicketRange
tickets_of number = record { next = min number (2 ^ 31) * 2 ^ 32 + 1; end = min (number + 1) (2 ^ 31) * 2 ^ 32 + 1 }

abbrev pub connection : {H C : Type 0} → H → ℕ → Client C → Handed (Part H C)
connection home number client = record { part = Connection home client.connection (tickets_of number); started = client.started }

-- the parts of these clients, where this is the first one's number
abbrev pub connections : {H C : Type 0} → H → ℕ → List (Client C) → List (Handed (Part H C))
connections home number [] = []
connections home number (client ∷ clients) = connection home number client ∷ connections home (number + 1) clients
