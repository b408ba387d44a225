-- What the forms over memory hold, and what their calls do. Counts end at the last number of 64 bits, where they stay.
use Rattle.std.specs.Prelude.{◌≡◌, ◌==◌, ℕ, Bool, true, false, min, max, List, [], ◌∷◌, ◌++◌, drop, take, length, map, Option, None, Some, Result, Ok, Err}
use Rattle.std.specs.List.{list_any}
use Rattle.outside.specs.Faults.{one_more}
use Rattle.outside.specs.declared.source.Failed.{Failed}
use Rattle.outside.specs.Calls.{LinkCall, Handed, HostCall}

-- a source over memory: what wasn't read yet, how much a call gives at most, which calls fail (numbered from 1), how often
-- it was called, and how often it has failed
pub record Supply : Type 0 where
  pub left : List ℕ
  pub piece : ℕ
  pub failing : List ℕ
  pub calls : ℕ
  pub faults : ℕ

-- a sink over memory: what was written, how much a call takes at most, which calls fail (numbered from 1), how often it
-- was called, and how often it has failed
pub record Store : Type 0 where
  pub stored : List ℕ
  pub piece : ℕ
  pub failing : List ℕ
  pub calls : ℕ
  pub faults : ℕ

-- whether the next call is one of those that fail
abbrev pub is_failing : List ℕ → ℕ → Bool
is_failing failing calls = list_any (λ n. n == one_more calls) failing

-- how many bytes the next read gives into a room of this size
abbrev pub given_to : Supply → ℕ → ℕ
given_to s room = min (min (length s.left) room) s.piece

-- a source after a read of so many bytes
abbrev pub gave : Supply → ℕ → Supply
gave s count = record s { left = drop count s.left; calls = one_more s.calls }

-- a source after a read that failed
abbrev pub gave_none : Supply → Supply
gave_none s = record s { calls = one_more s.calls; faults = one_more s.faults }

-- a source's reads: each gives as much as it has, as the room takes and as one piece may have, or fails
abbrev pub Supplies : Supply → ℕ → Result (List ℕ) Failed → Supply → Type 0
Supplies old size (Ok piece) new = new ≡ gave old (given_to old size)
Supplies old size (Err why) new = new ≡ gave_none old

-- a sink after it took so many bytes of a piece
abbrev pub took : Store → List ℕ → ℕ → Store
took s bytes count = record s { stored = s.stored ++ take count bytes; calls = one_more s.calls }

-- a sink after a write that failed
abbrev pub took_none : Store → Store
took_none s = record s { calls = one_more s.calls; faults = one_more s.faults }

-- ---- what a form tells of its calls, as long as it found memory to note them

abbrev pub noted : {N A : Type 0} → (N → A) → Bool → List N → Option (List A)
noted of true notes = Some (map of notes)
noted of false notes = None

-- a link over memory: what each call is answered with, in order; how much an answer gives in one read at most; the calls that
-- were made, where it tells them; which calls fail (numbered from 1), how often it was called, and how often it has failed
pub record LinkState : Type 0 where
  pub replies : List (List ℕ)
  pub piece : ℕ
  pub made : Option (List LinkCall)
  pub failing : List ℕ
  pub calls : ℕ
  pub faults : ℕ

-- an answer of a link over memory, which no read was made of yet: these bytes, in pieces of at most this size (0 counts as 1)
abbrev pub fresh_answer : List ℕ → ℕ → Supply
fresh_answer bytes piece = record { left = bytes; piece = max piece 1; failing = []; calls = 0; faults = 0 }

-- it was called once more; what it is to answer stays
pub record IsCalled (before now : LinkState) : Type 0 where
  pub replies : now.replies ≡ before.replies
  pub piece : now.piece ≡ before.piece
  pub failing : now.failing ≡ before.failing
  pub calls : now.calls ≡ one_more before.calls

-- a spawner over memory: the parts that it started and has kept; all that were handed to it, where it tells them; which calls
-- fail (numbered from 1), how often it was called, and how often it has failed
pub record SpawnerState (P : Type 0) : Type 0 where
  pub parts : List P
  pub handed : Option (List (Handed P))
  pub failing : List ℕ
  pub calls : ℕ
  pub faults : ℕ

-- what taking the part that was started last leaves: all parts but this one; or there was none
abbrev pub TakesLast : {P : Type 0} → List P → List P → Option P → Type 0
TakesLast old new (Some part) = old ≡ new ++ part ∷ []
TakesLast old new None = (old ≡ []) × (new ≡ [])

-- a host over memory: the connections that it still accepts, in order; whether it stops once none is left; the calls that were
-- made, where it tells them; which calls fail (numbered from 1), how often it was called, and how often it has failed
pub record HostState (C : Type 0) : Type 0 where
  pub waiting : List C
  pub stops : Bool
  pub made : Option (List (HostCall C))
  pub failing : List ℕ
  pub calls : ℕ
  pub faults : ℕ

-- an accept whose call isn't one of those that fail does so only where no connection is left and it doesn't stop then
abbrev pub FailsToAccept : {C : Type 0} → HostState C → Type 0
FailsToAccept old = is_failing old.failing old.calls ≡ false → (old.waiting ≡ []) × (old.stops ≡ false)

-- what an accept leaves: all connections but the first, which came; or none came, since none was left and it stops then
abbrev pub Accepts : {C : Type 0} → HostState C → HostState C → Option C → Type 0
Accepts old new (Some conn) = old.waiting ≡ conn ∷ new.waiting
Accepts old new None = (old.stops ≡ true) × (old.waiting ≡ []) × (new.waiting ≡ [])
