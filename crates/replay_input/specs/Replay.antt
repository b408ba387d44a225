-- How the program's replay stands for the bytes of a script that it took, and what stands written.
use Rattle.std.specs.Prelude.{◌≡◌, ◌==◌, false, ℕ, ◌+◌, length, List, ◌++◌, Option, string_bytes}
use Rattle.std.specs.List.{list_any}
use Rattle.std.specs.Io.KnownBytes.{Appends}
use Rattle.etcd_types.specs.Keys.{is_empty}
use Rattle.replay_model.specs.Endings.{is_open}
use Rattle.replay_model.specs.Progress.{progress, finished, passes_limit, HasPassed}
use Rattle.replay_model.specs.Script.{begun_line, line_feed}
use Rattle.replay_model.specs.Transcript.{transcript_text}
use Rattle.replay_model.specs.declared.ending.Ending.{Ending}
use Rattle.replay_model.specs.declared.ending.Ending.TheVariants.{Open, Refused, PastLimit}
use Rattle.outside.specs.Streams.{WritesFront}
use Rattle.replay_input.specs.Script as script
use Rattle.replay_input.specs.declared.replay.Replay.{Replay}

-- the text of what the whole lines of these bytes gained
abbrev pub text_so_far : List ℕ → List ℕ
text_so_far bytes = transcript_text (progress bytes).items

-- the text of what all lines of these bytes gained
abbrev pub text_of : List ℕ → List ℕ
text_of bytes = transcript_text (finished bytes).items

-- where a line has begun behind these bytes' line feeds, it passes no limit so far
abbrev pub BeginsWithin : List ℕ → Type 0
BeginsWithin bytes =
    is_empty (begun_line bytes) ≡ false → passes_limit (progress bytes) (length (begun_line bytes)) (length (begun_line bytes)) ≡ false

-- the replay took these bytes, and none of their lines is refused
pub record Follows {C : _} {g : _} (replay : Replay C g) (bytes : List ℕ) : Type 0 where
  pub stands : script.Stands replay.script (progress bytes)
  pub within : BeginsWithin bytes
  pub ready : script.IsReady replay.script
  pub begun : replay.line.items ≡ begun_line bytes

-- there are bytes that it took
abbrev pub IsUnderWay : {C : _} {g : _} → Replay C g → Type 0
IsUnderWay replay = (bytes : List ℕ) × Follows replay bytes

-- of this text a front was written, and the rest is pending
pub record Writes (old new : Option (List ℕ)) (pending text : List ℕ) : Type 0 where
  pub front : List ℕ
  pub parts : text ≡ front ++ pending
  pub written : Appends old new front

-- These bytes have the first refused line, and this is why: a whole line is refused, or one that has begun passes a limit.
abbrev pub HasRefused : List ℕ → Ending → Type 0
HasRefused bytes Open = ⊥
HasRefused bytes (Refused number refusal) = (progress bytes).ending ≡ Refused number refusal
HasRefused bytes PastLimit = HasPassed bytes

-- none of these bytes is a line feed
abbrev pub HasNoFeed : List ℕ → Type 0
HasNoFeed bytes = list_any (λ b. b == line_feed) bytes ≡ false

-- what more bytes add to the text, and where they leave the replay
pub record TakesPart {C : _} {g : _} (old new : Replay C g) (bytes part : List ℕ) (ending : Ending) : Type 0 where
  pub refused : is_open ending ≡ false → HasRefused (bytes ++ part) ending
  pub follows : ending ≡ Open → Follows new (bytes ++ part)
  pub added : List ℕ
  pub text : text_so_far (bytes ++ part) ≡ text_so_far bytes ++ added
  pub pending : string_bytes new.pending ≡ string_bytes old.pending ++ added

-- what the end of the input adds: a last line without line feed is taken
pub record TakesEnd {C : _} {g : _} (old new : Replay C g) (bytes : List ℕ) (ending : Ending) : Type 0 where
  pub ended : (finished bytes).ending ≡ ending
  pub added : List ℕ
  pub text : text_of bytes ≡ text_so_far bytes ++ added
  pub pending : string_bytes new.pending ≡ string_bytes old.pending ++ added

-- these bytes were taken, and of their lines' text the rest is pending
pub record Fed {C : _} {g : _} (start written : Option (List ℕ)) (new : Replay C g) (bytes : List ℕ) : Type 0 where
  pub follows : Follows new bytes
  pub writes : Writes start written (string_bytes new.pending) (text_so_far bytes)

-- a line of these bytes was refused, and of the text of those before it the rest is pending
pub record Stopped {C : _} {g : _} (start written : Option (List ℕ)) (new : Replay C g) (bytes : List ℕ) (ending : Ending) : Type 0 where
  pub refused : HasRefused bytes ending
  pub writes : Writes start written (string_bytes new.pending) (text_so_far bytes)

abbrev pub Feeds : {C : _} {g : _} → Option (List ℕ) → Option (List ℕ) → Replay C g → List ℕ → Ending → Type 0
Feeds start written new bytes Open = Fed start written new bytes
Feeds start written new bytes ending = Stopped start written new bytes ending

-- what was pending, with what is pending now, is written as far as it isn't pending
abbrev pub Moves : Option (List ℕ) → Option (List ℕ) → List ℕ → List ℕ → Type 0
Moves old new before after =
    (start : Option (List ℕ)) (text : List ℕ) → Writes start old before text → Writes start new after text

-- a front of what was pending is written
abbrev pub Breaks : Option (List ℕ) → Option (List ℕ) → List ℕ → Type 0
Breaks old new before = (start : Option (List ℕ)) (text : List ℕ) → Writes start old before text → WritesFront start new text

-- how many bytes were taken
abbrev pub taken_of : {C : _} {g : _} → Replay C g → ℕ
taken_of replay = replay.script.bytes + length replay.line.items

-- all lines of these bytes were taken, or the last one was refused, and the text of what they gained is written
pub record Finishes (start written : Option (List ℕ)) (bytes : List ℕ) (ending : Ending) : Type 0 where
  pub ended : (finished bytes).ending ≡ ending
  pub writes : Appends start written (text_of bytes)
