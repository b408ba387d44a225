-- What a whole replay takes of its input and writes to its output.
use Rattle.std.specs.Prelude.{◌≡◌, ◌≤◌, ◌⊎◌, ℕ, List, [], ◌++◌, length, Option, None, Some, Result, Ok, Err, string_bytes}
use Rattle.std.specs.Io.KnownBytes.{Appends, Consumes, IsAtEnd}
use Rattle.replay_model.specs.Progress.{finished, progress}
use Rattle.transcript_laws.specs.Truth.{IsTrueTranscript, TranscriptIsTrue}
use Rattle.replay_model.specs.declared.ending.Ending.{Ending}
use Rattle.replay_model.specs.declared.ending.Ending.TheVariants.{Open, Refused}
use Rattle.outside.specs.Streams.{WritesFront}
use Rattle.replay_input.specs.Replay.{Follows, BeginsWithin, Writes, text_of, text_so_far}
use Rattle.replay_input.specs.declared.replay.Replay.{Replay}
use Rattle.replay_input.specs.declared.stop.Stop.{Stop}
use Rattle.replay_input.specs.declared.stop.Stop.TheVariants as stop

-- the most bytes that are read at once
abbrev pub most_at_once : ℕ
most_at_once = 65536

-- the script was read to its end, none of its lines is refused, and its transcript is written
pub record ReadsAll (left left' written written' : Option (List ℕ)) : Type 0 where
  pub read : List ℕ
  pub consumed : Consumes left left' read
  pub at_end : IsAtEnd left'
  pub ended : (finished read).ending ≡ Open
  pub writes : Appends written written' (text_of read)
  pub headline : IsTrueTranscript (finished read)

-- no whole line of these bytes is refused, and a line that has begun passes no limit so far
pub record NoneIsRefused (bytes : List ℕ) : Type 0 where
  pub whole : (progress bytes).ending ≡ Open
  pub within : BeginsWithin bytes

-- A line is refused for its words or for its step once it is whole: its line feed was read, or the input is at its end. One that
-- passes a limit is refused with the piece that has the byte that does.
abbrev pub IsWhole : Option (List ℕ) → List ℕ → Ending → Type 0
IsWhole left read (Refused number refusal) = ((progress read).ending ≡ Refused number refusal) ⊎ IsAtEnd left
IsWhole left read _ = Unit {0}

-- A line of the bytes read is the first that is refused, and the transcript of those before it is written. The last piece of them
-- was read while none was refused, and is at most what is read at once.
pub record Refuses (left left' written written' : Option (List ℕ)) (ending : Ending) : Type 0 where
  pub before : List ℕ
  pub piece : List ℕ
  pub consumed : Consumes left left' (before ++ piece)
  pub none_before : NoneIsRefused before
  pub one_piece : length piece ≤ most_at_once
  pub ended : (finished (before ++ piece)).ending ≡ ending
  pub whole : IsWhole left' (before ++ piece) ending
  pub writes : Appends written written' (text_of (before ++ piece))
  pub headline : IsTrueTranscript (finished (before ++ piece))

abbrev pub Replays : Option (List ℕ) → Option (List ℕ) → Option (List ℕ) → Option (List ℕ) → Ending → Type 0
Replays left left' written written' Open = ReadsAll left left' written written'
Replays left left' written written' ending = Refuses left left' written written' ending

-- no line of the bytes read is refused, and the transcript of the whole ones is written
pub record Interrupts (left left' written written' : Option (List ℕ)) : Type 0 where
  pub read : List ℕ
  pub consumed : Consumes left left' read
  pub none_refused : NoneIsRefused read
  pub writes : Appends written written' (text_so_far read)
  pub headline : IsTrueTranscript (progress read)

-- A front of the transcript of the lines before the first refused one is written, which is true as a whole. A last line without line feed is a line only where
-- the input is at its end. The last piece was read while no line was refused.
pub record BreaksOff (left left' written written' : Option (List ℕ)) : Type 0 where
  pub before : List ℕ
  pub piece : List ℕ
  pub consumed : Consumes left left' (before ++ piece)
  pub none_before : NoneIsRefused before
  pub one_piece : length piece ≤ most_at_once
  pub headline : TranscriptIsTrue (before ++ piece)
  pub writes : WritesFront written written' (text_so_far (before ++ piece)) ⊎ (IsAtEnd left' × WritesFront written written' (text_of (before ++ piece)))

abbrev pub Stops : Option (List ℕ) → Option (List ℕ) → Option (List ℕ) → Option (List ℕ) → Stop → Type 0
Stops left left' written written' stop.ReadFault = Interrupts left left' written written'
Stops left left' written written' stop.WriteFault = BreaksOff left left' written written'
Stops left left' written written' stop.NoMemory = BreaksOff left left' written written'

-- The bytes read so far are taken, none of their lines is refused, and all that they gained is written. The input was at `left`
-- and the output at `start`.
pub record Has {C : _} {g : _} (left start left' written : Option (List ℕ)) (replay : Replay C g) (read : List ℕ) : Type 0 where
  pub consumed : Consumes left left' read
  pub follows : Follows replay read
  pub nothing : string_bytes replay.pending ≡ []
  pub writes : Writes start written [] (text_so_far read)

-- it goes on, or it ended, or it was stopped
abbrev pub Turns : {C : _} {g : _} → Option (List ℕ) → Option (List ℕ) → Option (List ℕ) → Option (List ℕ) → Replay C g → Result (Option Ending) Stop → Type 0
Turns left start left' written replay (Ok None) = (read : List ℕ) × Has left start left' written replay read
Turns left start left' written replay (Ok (Some ending)) = Replays left left' start written ending
Turns left start left' written replay (Err stop) = Stops left left' start written stop
