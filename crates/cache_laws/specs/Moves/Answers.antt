-- What becomes of a proxy's keys where an answer, a loss, a message of the leasing stream or a client comes to it.
use Rattle.std.specs.Prelude.{◌≡◌, ◌≢◌, ℕ, ◌≤◌, true, false, List, [], ◌∷◌, None}
use Rattle.cache_laws.specs.Moves.View.{Absent, Held, Writing, Leaving, Owner, Slot, View, live}
use Rattle.cache_laws.specs.Moves.Invariant.{Inv}
use Rattle.cache_laws.specs.Moves.Sends.{put_row}

-- an owner of the key that was found in the answer to a call, or told by the event of a revision
pub data IsShown (v : View) (k : List ℕ) (o : Owner) : Type 0 where
  in_answer : (i : ℕ) → o ≡ (v.outcomes i).owners k → IsShown v k o
  in_event : (rev : ℕ) → rev ≤ v.rev → o ≡ v.told rev k → IsShown v k o

-- one slot of the proxy, before and after
pub data Turns (v : View) (p : ℕ) (k : List ℕ) (x y : Slot) : Type 0 where
  stays : y ≡ x → Turns v p k x y
  -- An acquire's answer: it succeeded under the live session and wasn't spoiled,
  holds : live v p ≢ 0 → x.acquire ≢ 0 → x.spoiled ≡ false → (v.calls x.acquire).session ≡ live v p → (v.outcomes x.acquire).done ≡ true → (v.outcomes x.acquire).ok ≡ true
      → y ≡ record x { phase = Held; create = (v.outcomes x.acquire).create; kv = (v.outcomes x.acquire).kvs k; acquire = 0; write = 0 } → Turns v p k x y
  -- it succeeded otherwise,
  gives_back : x.acquire ≢ 0 → (v.outcomes x.acquire).ok ≡ true
      → y ≡ record x { phase = Leaving; create = (v.outcomes x.acquire).create; acquire = 0; spoiled = false; write = 0 } → Turns v p k x y
  -- or it was answered otherwise, or lost
  ends_acquire : y ≡ record x { acquire = 0; spoiled = false } → Turns v p k x y
  -- an acquire that is out is spoiled
  spoils : y ≡ record x { spoiled = true } → Turns v p k x y
  -- An owner call becomes due,
  begins : x.phase ≡ Held → y ≡ record x { phase = Writing; write = 0 } → Turns v p k x y
  -- is taken away while it is due,
  withdraws : x.phase ≡ Writing → x.write ≡ 0 → y ≡ record x { phase = Held } → Turns v p k x y
  -- is answered as succeeded: the entry takes what the operations that ran leave of its record,
  rests : x.phase ≡ Writing → x.write ≢ 0 → (v.outcomes x.write).done ≡ true → (v.outcomes x.write).ok ≡ true
      → y ≡ record x { phase = Held; kv = (v.outcomes x.write).leaves k x.kv; write = 0 } → Turns v p k x y
  -- or failed or was refused: the entry has its old record
  returns : x.phase ≡ Writing → x.write ≢ 0 → (v.outcomes x.write).done ≡ true → (v.outcomes x.write).ok ≡ false
      → y ≡ record x { phase = Held; write = 0 } → Turns v p k x y
  -- An entry in any phase is given up, or forgotten.
  gives_up : x.phase ≢ Absent → y ≡ record x { phase = Leaving; write = 0 } → Turns v p k x y
  forgets : y ≡ record x { phase = Absent; create = 0; kv = None; write = 0 } → Turns v p k x y
  -- An ownership under the proxy's session that was shown: it becomes an entry that is given up, in place of an acquire.
  finds : (o : Owner) → IsShown v k o → (v.terms p).number ≢ 0 → o.session ≡ (v.terms p).number
      → y ≡ record x { phase = Leaving; create = o.create; acquire = 0; spoiled = false; write = 0 } → Turns v p k x y

abbrev pub turned : View → ℕ → (List ℕ → Slot) → View
turned v p row = record v { slots = put_row v.slots p row }

abbrev pub TurnsKeep : Type 0
TurnsKeep = (holder : ℕ → ℕ) (v : View) (p : ℕ) (row : List ℕ → Slot) → ((k : List ℕ) → Turns v p k (v.slots p k) (row k)) → Inv holder v → Inv holder (turned v p row)

-- What becomes of one slot by several turns, one after the other.

abbrev pub Chain : View → ℕ → List ℕ → Slot → List Slot → Slot → Type 0
Chain v p k x [] y = y ≡ x
Chain v p k x (z ∷ zs) y = Turns v p k x z × Chain v p k z zs y

pub record Reaches (v : View) (p : ℕ) (k : List ℕ) (x y : Slot) : Type 0 where
  pub through : List Slot
  pub chain : Chain v p k x through y

-- of a proxy's keys each may have turns of its own, as many as there are
abbrev pub ReachesKeep : Type 0
ReachesKeep = (holder : ℕ → ℕ) (v : View) (p : ℕ) (row : List ℕ → Slot) → ((k : List ℕ) → Reaches v p k (v.slots p k) (row k)) → Inv holder v → Inv holder (turned v p row)
