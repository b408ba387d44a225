-- How the program's script stands for a progress of the definitions.
use Rattle.std.specs.Prelude.{◌≡◌, ◌≤◌, ℕ, ◌+◌, List, ◌++◌, length, Option, None, Some, Result, Ok, Err}
use Rattle.script_text.specs.declared.line.Line.{Line}
use Rattle.script_text.specs.declared.line.Line.TheVariants as line
use Rattle.script_text.specs.declared.item.Item.{Item}
use Rattle.world_model.specs.State.{World as Model}
use Rattle.world_model.specs.Transcript.{Taken, next}
use Rattle.world_model.specs.declared.fault.LineRefusal.{LineRefusal}
use Rattle.world_model.specs.declared.fault.LineRefusal.TheVariants.{BadLine}
use Rattle.replay_world.specs.World.{Parts}
use Rattle.replay_world.specs.World as world
use Rattle.replay_model.specs.Progress.{Progress}
use Rattle.replay_model.specs.Transcript.{transcript_text}
use Rattle.replay_model.specs.declared.ending.Ending.{Ending}
use Rattle.replay_model.specs.declared.ending.Ending.TheVariants.{Open}
use Rattle.replay_input.specs.declared.refused.NotTaken.{NotTaken}
use Rattle.replay_input.specs.declared.refused.NotTaken.TheVariants.{Refused, NoMemory}
use Rattle.replay_input.specs.declared.script.Script.{Script}

-- both are there, or neither
abbrev pub StandsIfThere : Option Parts → Option Model → Type 0
StandsIfThere None None = Unit {0}
StandsIfThere (Some x) (Some w) = world.Stands x w
StandsIfThere None (Some w) = ⊥
StandsIfThere (Some x) None = ⊥

-- so many lines were taken: the first, which made the world, and those that the world counts behind it
abbrev pub CountsIfThere : ℕ → Option Parts → Type 0
CountsIfThere lines None = lines ≡ 0
CountsIfThere lines (Some x) = lines ≡ x.lines + 1

pub record Stands {C : _} {g : _} (script : Script C g) (p : Progress) : Type 0 where
  pub world : StandsIfThere script.world p.world
  pub lines : script.lines ≡ length p.lines
  pub bytes : script.bytes ≡ p.bytes
  pub ending : p.ending ≡ Open

-- the script can be given a line
abbrev pub IsReady : {C : _} {g : _} → Script C g → Type 0
IsReady script = CountsIfThere script.lines script.world

-- a first line is of a world of 1 to 9 members
abbrev pub IsWorld : Line → Type 0
IsWorld (line.World members namespace leasing) = (1 ≤ members) × (members ≤ 9)
IsWorld _ = Unit {0}

-- a line was taken as the definition says: these items, and a world that stands for the one that it leaves
pub record Takes (new : Parts) (items : List Item) (taken : Taken) : Type 0 where
  pub after : Model
  pub taken_so : taken ≡ Ok (after, items)
  pub stands : world.Stands new after

-- a line was refused as the definition says; want of memory says nothing of it
abbrev pub IsRefused : NotTaken → Taken → Type 0
IsRefused (Refused why) taken = taken ≡ Err why
IsRefused NoMemory taken = Unit {0}

-- what the world gives for a line behind the first
abbrev pub GivesLater : Parts → Result (List Item) NotTaken → Taken → Type 0
GivesLater new (Ok items) taken = Takes new items taken
GivesLater new (Err why) taken = IsRefused why taken

-- the world that a first line makes
abbrev pub Begins : Result (Parts × List Item) NotTaken → Taken → Type 0
Begins (Ok made) taken = Takes made.0 made.1 taken
Begins (Err why) taken = IsRefused why taken

-- a line was read and taken, and gained these items
pub record Gains (new : Option Parts) (items : List Item) (w : Option Model) (read : Result Line ℕ) : Type 0 where
  pub line : Line
  pub after : Model
  pub read_so : read ≡ Ok line
  pub taken_so : next w line ≡ Ok (after, items)
  pub stands : StandsIfThere new (Some after)

-- why a line was refused, by its reading or its step
abbrev pub Refuses : LineRefusal → Option Model → Result Line ℕ → Type 0
Refuses why w (Ok line) = next w line ≡ Err why
Refuses why w (Err place) = why ≡ BadLine place

-- want of memory says nothing of the line
abbrev pub Gives : Option Parts → Result (List Item) NotTaken → Option Model → Result Line ℕ → Type 0
Gives new (Ok items) w read = Gains new items w read
Gives new (Err (Refused why)) w read = Refuses why w read
Gives new (Err NoMemory) w read = Unit {0}

-- what a line adds to the transcript's text, and where it leaves the script
pub record Adds {C : _} {g : _} (new : Script C g) (before after : List ℕ) (ending : Ending) (p p' : Progress) : Type 0 where
  pub ended : p'.ending ≡ ending
  pub stands : ending ≡ Open → Stands new p'
  pub ready : ending ≡ Open → IsReady new
  pub added : List ℕ
  pub text : transcript_text p'.items ≡ transcript_text p.items ++ added
  pub out : after ≡ before ++ added
