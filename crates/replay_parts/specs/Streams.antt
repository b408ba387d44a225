-- What waits in a stream, and the streams once one of them is ended.
use Rattle.std.specs.Prelude.{ℕ, List, [], ◌∷◌, Option, None, Some}
use Rattle.world_model.specs.Places.{ended, with_nth}
use Rattle.world_model.specs.State.{OpenedStream}

abbrev pub first_of : {A : Type 0} → List A → Option A
first_of [] = None
first_of (x ∷ xs) = Some x

abbrev pub without_messages : List OpenedStream → ℕ → Option OpenedStream → List OpenedStream
without_messages streams number None = streams
without_messages streams number (Some s) = with_nth streams number (ended s)
