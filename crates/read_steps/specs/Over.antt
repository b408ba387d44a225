-- What ends with requests that end without an answer, request by request.
use Rattle.std.specs.Prelude.{◌≡◌, ℕ, Bool, true, ◌&&◌, if◌then◌else◌, List}
use Rattle.proxy_model.specs.Keyed.{Keyed, at}
use Rattle.wait_model.specs.Endings.{forgotten}
use Rattle.wait_model.specs.Fits.{only_first}
use Rattle.wait_model.specs.State.{Ownership}
use Rattle.read_model.specs.declared.acquire.Acquire.{Acquire}
use Rattle.read_model.specs.declared.asked.Asked.{Asked}
use Rattle.read_model.specs.Acquires.{acquires_at}
use Rattle.read_model.specs.SessionEnd.{is_due_acquire, dropped}
use Rattle.read_model.specs.State.{Reads, Ground, ground_of}
use Rattle.read_model.specs.TakingOff.{is_writes, forgotten_all, falls}

-- its write, where it is one
abbrev pub forgot : Asked → Ownership → Ownership
forgot a own = if is_writes a.stage then forgotten a.ticket own else own

-- its own acquire, where that is due
abbrev pub falls_with : Asked → Keyed Acquire → List ℕ → Bool
falls_with a acquires k = acquires_at k a && is_due_acquire (at acquires k)

-- what reads wait on then, where those that pass end
abbrev pub ended : (Asked → Bool) → Reads → Ground
ended p r = dropped (falls p r) (record (ground_of r) { own = forgotten_all p r.asks r.own })

-- and where this request ends
abbrev pub ended_with : Asked → Ground → Ground
ended_with a g = dropped (falls_with a g.acquires) (record g { own = forgot a g.own })

-- of the writes that cover a key, only the first may be active; so no key is compared by two
abbrev pub OneOwner : Ownership → Type 0
OneOwner own = (k : List ℕ) → only_first k own.waits.writes ≡ true
