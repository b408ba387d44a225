-- Requests that end without an answer, by time or since the client left: all that end change first, then what stood on them falls.
use Rattle.std.specs.Prelude.{ℕ, Bool, true, false, ◌&&◌, if◌then◌else◌, List, [], ◌∷◌}
use Rattle.std.specs.List.{list_any}
use Rattle.proxy_model.specs.Keyed.{at}
use Rattle.wait_model.specs.Endings.{forgotten}
use Rattle.wait_model.specs.State.{Ownership}
use Rattle.read_model.specs.declared.asked.Asked.{Asked}
use Rattle.read_model.specs.declared.asked.Stage.{Stage}
use Rattle.read_model.specs.declared.asked.Stage.TheVariants as stage
use Rattle.read_model.specs.Acquires.{acquires_at}
use Rattle.read_model.specs.Release.{released}
use Rattle.read_model.specs.SessionEnd.{is_due_acquire, dropped}
use Rattle.read_model.specs.State.{Reads, Moment, ground_of, on}

abbrev pub is_writes : Stage → Bool
is_writes stage.Writes = true
is_writes _ = false

abbrev pub forgotten_all : (Asked → Bool) → List Asked → Ownership → Ownership
forgotten_all p [] own = own
forgotten_all p (a ∷ rest) own = forgotten_all p rest (if p a && is_writes a.stage then forgotten a.ticket own else own)

-- the due acquire of a request that ends
abbrev pub falls : (Asked → Bool) → Reads → List ℕ → Bool
falls p r k = list_any (λ a. p a && acquires_at k a) r.asks && is_due_acquire (at r.acquires k)

-- those that pass end, and these requests stand after it
abbrev pub taken_off : Moment → (Asked → Bool) → List Asked → Reads → Reads
taken_off m p xs r = released false m (on (dropped (falls p r) (record (ground_of r) { own = forgotten_all p r.asks r.own })) xs)
