-- What reading the words of `grpc-proxy start` gives.
use Rattle.std.specs.Prelude.{◌≡◌, List, Result, Ok, Err, ⊤}
use Rattle.clap.specs.Walk.{Text}
use Rattle.clap.specs.Faults.{fault_of}
use Rattle.clap.specs.Kinds.{IsAmong}
use Rattle.clap.specs.declared.error.kind.ErrorKind.{ErrorKind}
use Rattle.clap.specs.declared.error.kind.ErrorKind.TheVariants.{DisplayHelp, OutOfMemory}
use Rattle.start_words.specs.declared.settings.StartSettings.{StartSettings}
use Rattle.start_words.specs.declared.start_fault.StartFault.{StartFault}
use Rattle.start_words.specs.declared.start_fault.StartFault.TheVariants as start
use Rattle.start_words.specs.declared.wrong.ValueFault.{ValueFault}
use Rattle.start_words.specs.declared.wrong.ValueFault.TheVariants as fault
use Rattle.start_words.specs.Start.{start_app, Names}

abbrev pub start_fault : ValueFault → StartFault
start_fault (fault.Wrong w) = start.Wrong w
start_fault fault.NoMemory = start.NoMemory

-- what a refusal of this kind is told as
abbrev pub IsRefusal : ErrorKind → StartFault → Type 0
IsRefusal kind (start.Help text) = (kind ≡ DisplayHelp) × (kind ≡ OutOfMemory → ⊥)
IsRefusal kind (start.Usage text) = (kind ≡ DisplayHelp → ⊥) × (kind ≡ OutOfMemory → ⊥)
IsRefusal kind start.NoMemory = ⊤
IsRefusal kind (start.Wrong w) = ⊥

-- the settings that the words name, or the first value that isn't of its form, or clap refuses the words, with help where that was
-- asked for
abbrev pub Reads : List Text → Result StartSettings StartFault → Type 0
Reads words (Ok settings) = Names words (Ok settings)
Reads words (Err (start.Wrong w)) = Names words (Err w)
Reads words (Err (start.Help text)) = IsAmong DisplayHelp (fault_of start_app words)
Reads words (Err (start.Usage text)) = (kind : ErrorKind) × IsAmong kind (fault_of start_app words) × (kind ≡ DisplayHelp → ⊥)
Reads words (Err start.NoMemory) = ⊤
