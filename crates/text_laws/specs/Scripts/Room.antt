-- How long the store of a script stays as small as the numbers of texts tell.
use Rattle.std.specs.Prelude.{ℕ, List, [], ◌∷◌, None, Some, Ok, Err}
use Rattle.script_text.specs.declared.line.Line.{Line}
use Rattle.text_laws.specs.Stores.Stores.{HasRoom}
use Rattle.world_model.specs.State.{World}
use Rattle.world_model.specs.Transcript.{Taken, next}

-- the store has room at each world of the script
abbrev pub GoesOnWithRoom : (World → Type 0) → Taken → Type 0
GoesOnWithRoom rest (Ok gained) = rest gained.0
GoesOnWithRoom rest (Err why) = Unit {0}

abbrev pub RoomFrom : ℕ → World → List Line → Type 0
RoomFrom most w [] = HasRoom most w.store
RoomFrom most w (l ∷ lines) = HasRoom most w.store × GoesOnWithRoom (λ after. RoomFrom most after lines) (next (Some w) l)

abbrev pub StaysSmall : ℕ → List Line → Type 0
StaysSmall most [] = Unit {0}
StaysSmall most (l ∷ lines) = GoesOnWithRoom (λ after. RoomFrom most after lines) (next None l)
