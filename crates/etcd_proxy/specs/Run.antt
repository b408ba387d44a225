-- What `replay` answers, and what it tells.
use Rattle.std.specs.Prelude.{◌≡◌, ℕ, ◌++◌, Bool, true, false, List, [], Option, Some, Result, Ok, Err, codes}
use Rattle.std.specs.Io.KnownBytes.{Appends}
use Rattle.std.specs.Fmt.{decimal}
use Rattle.outside.specs.Faults.{Rose}
use Rattle.outside.specs.Streams.{WritesFront}
use Rattle.world_model.specs.Refusals.{refusal_text}
use Rattle.world_model.specs.declared.fault.LineRefusal.{LineRefusal}
use Rattle.replay_model.specs.Progress.{finished}
use Rattle.replay_model.specs.declared.ending.Ending.{Ending}
use Rattle.replay_model.specs.declared.ending.Ending.TheVariants as ending
use Rattle.replay_input.specs.Replays.{Replays, Stops}
use Rattle.replay_input.specs.declared.stop.Stop.{Stop}
use Rattle.replay_input.specs.declared.stop.Stop.TheVariants as stop

abbrev pub status_of : Result Ending Stop → ℕ
status_of (Ok ending.Open) = 0
status_of (Ok (ending.Refused number refusal)) = 1
status_of (Ok ending.PastLimit) = 6
status_of (Err stop.ReadFault) = 3
status_of (Err stop.WriteFault) = 4
status_of (Err stop.NoMemory) = 5

abbrev pub refused_text : ℕ → LineRefusal → List ℕ
refused_text number refusal = codes "line " ++ decimal number ++ codes ": " ++ refusal_text refusal ++ codes "\n"

-- the text of a status, which names a refused line by its number and its fault
abbrev pub text_of_status : Result Ending Stop → List ℕ
text_of_status (Ok ending.Open) = []
text_of_status (Ok (ending.Refused number refusal)) = refused_text number refusal
text_of_status (Ok ending.PastLimit) = codes "limit\n"
text_of_status (Err stop.ReadFault) = codes "read fault\n"
text_of_status (Err stop.WriteFault) = codes "write fault\n"
text_of_status (Err stop.NoMemory) = codes "no memory\n"

-- the text was written, or a front of it where that failed
pub record Tells (old new : Option (List ℕ)) (faults faults' : ℕ) (text : List ℕ) : Type 0 where
  pub whole : Bool
  pub all : whole ≡ true → Appends old new text
  pub front : whole ≡ false → WritesFront old new text
  pub cause : whole ≡ false → Rose faults faults'

-- what a replay took and wrote, by how it ended
abbrev pub Leaves : Option (List ℕ) → Option (List ℕ) → Option (List ℕ) → Option (List ℕ) → Result Ending Stop → Type 0
Leaves left left' written written' (Ok ending) = Replays left left' written written' ending
Leaves left left' written written' (Err stop) = Stops left left' written written' stop

-- A replay ended so: with this status, which tells how; its input was taken and its output written so far, and the status's text is
-- told. Memory may have been wanting for the text alone.
pub record Runs (left left' written written' told told' : Option (List ℕ)) (faults faults' status : ℕ) : Type 0 where
  pub outcome : Result Ending Stop
  pub status_is : status ≡ status_of outcome
  pub leaves : Leaves left left' written written' outcome
  pub tells : Tells told told' faults faults' (text_of_status outcome)

-- The input tells its bytes, and they are a script within the limits whose lines can all be taken.
pub record IsWholeScript (left : Option (List ℕ)) : Type 0 where
  pub bytes : List ℕ
  pub told : left ≡ Some bytes
  pub taken : (finished bytes).ending ≡ ending.Open

-- A text is written to the output with status 0, and nothing is told; or the output failed with status 4, a front of the text is
-- written, and that is told.
pub record Prints (written written' : Option (List ℕ)) (faults faults' : ℕ) (told told' : Option (List ℕ)) (told_faults told_faults' : ℕ) (text : List ℕ) (status : ℕ) : Type 0 where
  pub whole : Bool
  pub all : whole ≡ true → (status ≡ 0) × Appends written written' text × (told' ≡ told)
  pub front : whole ≡ false → (status ≡ 4) × WritesFront written written' text × Rose faults faults'
  pub tells : whole ≡ false → Tells told told' told_faults told_faults' (text_of_status (Err stop.WriteFault))
