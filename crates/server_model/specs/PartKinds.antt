-- The kinds of parts, each with what it carries. A place is a part's own; a connection and a stream come with it.
use Rattle.std.specs.Prelude.{Bool, true, false, ⊤}
use Rattle.outside.specs.declared.parts.Part.{Part}
use Rattle.outside.specs.declared.parts.Part.TheVariants.{Worker, Ticker, Connection, Follower}
use Rattle.outside.specs.declared.parts.TicketRange.{TicketRange}
use Rattle.outside.specs.declared.parts.Follow.{Follow}

abbrev pub place_in : {P C : Type 0} → Part P C → P
place_in (Worker place) = place
place_in (Ticker place) = place
place_in (Connection place connection tickets) = place
place_in (Follower place follow) = place

abbrev pub IfWorker : {P C : Type 0} → Part P C → (P → Type 0) → Type 0
IfWorker (Worker place) T = T place
IfWorker _ T = ⊤

abbrev pub IfTicker : {P C : Type 0} → Part P C → (P → Type 0) → Type 0
IfTicker (Ticker place) T = T place
IfTicker _ T = ⊤

abbrev pub IfConnection : {P C : Type 0} → Part P C → (P → C → TicketRange → Type 0) → Type 0
IfConnection (Connection place connection tickets) T = T place connection tickets
IfConnection _ T = ⊤

abbrev pub IfFollower : {P C : Type 0} → Part P C → (P → Follow → Type 0) → Type 0
IfFollower (Follower place follow) T = T place follow
IfFollower _ T = ⊤

-- it makes calls on the link
abbrev pub links : {P C : Type 0} → Part P C → Bool
links (Worker place) = true
links (Follower place follow) = true
links _ = false

-- it hands parts over
abbrev pub spawns : {P C : Type 0} → Part P C → Bool
spawns (Worker place) = true
spawns _ = false

-- it draws words
abbrev pub draws : {P C : Type 0} → Part P C → Bool
draws (Ticker place) = true
draws (Connection place connection tickets) = true
draws _ = false
