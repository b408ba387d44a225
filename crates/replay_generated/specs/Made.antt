-- How the code's making of a script stands for that of the definitions.
use Rattle.std.specs.Prelude.{◌≡◌, ℕ, ◌+◌, ◌==◌, Bool, false, not, List, [], ◌∷◌, length, codes, Option, None, Some, Ok, Err}
use Rattle.replay_generated.specs.declared.summary.Summary.{Summary}
use Rattle.replay_counts.specs.declared.tally.Tally.{Tally}
use Rattle.replay_counts.specs.Tallies.{no_tally, noted_all}
use Rattle.replay_world.specs.Step.{StepsTo}
use Rattle.replay_world.specs.World.{Parts, Stands}
use Rattle.script_text.specs.declared.item.Item.{Item}
use Rattle.script_text.specs.declared.line.Line.{Line}
use Rattle.script_text.specs.declared.line.Line.TheVariants as line
use Rattle.store_model.specs.History.{newest}
use Rattle.world_model.specs.declared.fault.WorldFault.{WorldFault}
use Rattle.world_model.specs.Generated.{Making, add, add_all, call_in, gained_by, made, of_world, summary, turn}
use Rattle.world_model.specs.Questions.{has_due, streams}
use Rattle.world_model.specs.State.{World}
use Rattle.world_model.specs.Transcript.{done, next}

-- What clauses see: the world that the lines made, what is counted of what they gained, and the state of the generator.
pub record Made : Type 0 where
  pub world : Parts
  pub tally : Tally
  pub state : ℕ

-- it is this far
pub record IsOf (x : Made) (m : Making) : Type 0 where
  pub world : World
  pub made : m.world ≡ Some world
  pub stands : Stands x.world world
  pub tally : x.tally ≡ noted_all no_tally m.items
  pub state : m.state ≡ x.state
  pub lines : length m.lines ≡ x.world.lines + 1

-- What the code does from one making to another, for each making of the definitions that it may be at. These facts are each in a case of
-- its own: a step that is written out, as a turn is, would be worked out wherever a proof looks into it.

-- it is this step of theirs
pub data Makes (step : Making → Making) (x y : Made) : Type 0 where
  makes : ((m : Making) → IsOf x m → IsOf y (step m)) → Makes step x y

-- The line is taken and gains these items, and the code has come to what it adds.
pub record Gains (l : Line) (items : List Item) (y : Made) (m : Making) : Type 0 where
  pub is : IsOf y (add l m)
  pub after : World
  pub so : next m.world l ≡ Ok (after, items)

pub data Takes (l : Line) (items : List Item) (x y : Made) : Type 0 where
  takes : ((m : Making) → IsOf x m → Gains l items y m) → Takes l items x y

-- The line is refused, and nothing but the world is another one.
pub record Refuses (l : Line) (why : WorldFault) (x y : Made) : Type 0 where
  pub steps : (w : World) → Stands x.world w → StepsTo y.world (Err why) (done w l)
  pub lines : y.world.lines ≡ x.world.lines
  pub same : y ≡ record x { world = y.world }

-- What is due first at the proxy is sent, and this is the call of it, where it is one.
pub record Sent (p : ℕ) (call : Option ℕ) (y : Made) (m : Making) : Type 0 where
  pub is : IsOf y (add (line.Send p) m)
  pub call_is : call_in (gained_by (next m.world (line.Send p))) ≡ call

pub data Sends (p : ℕ) (call : Option ℕ) (x y : Made) : Type 0 where
  sends : ((m : Making) → IsOf x m → Sent p call y m) → Sends p call x y

-- A turn is made, and this is whether it adds a line.
pub record Turned (more : Bool) (y : Made) (m : Making) : Type 0 where
  pub is : IsOf y (turn m)
  pub more_is : (length (turn m).lines == length m.lines) ≡ not more

pub data Turns (more : Bool) (x y : Made) : Type 0 where
  turns : ((m : Making) → IsOf x m → Turned more y m) → Turns more x y

-- What can be asked of a making: whether something is due at a proxy, and the number of streams.

pub data IsDue (p : ℕ) (due : Bool) (x : Made) : Type 0 where
  is_due : ((m : Making) → IsOf x m → of_world false (λ w. has_due w p) m.world ≡ due) → IsDue p due x

pub data HasStreams (count : ℕ) (x : Made) : Type 0 where
  has_streams : ((m : Making) → IsOf x m → of_world 0 streams m.world ≡ count) → HasStreams count x

-- The script of a number, whole. It is a name of its own, and so is its first line, since an opening that is written out would be
-- worked out wherever it stands.
unfoldable pub script : ℕ → Making
script number = made number

-- The opening of the script of a number, in two parts: the line that makes the world, and three proxies that start.

unfoldable pub begun : ℕ → Making
begun number = add (line.World 2 [] (codes "L/")) (record { lines = []; items = []; world = None; state = number })

abbrev pub starting : List Line
starting = line.Start 1 ∷ line.Start 2 ∷ line.Start 3 ∷ line.Tick 1 ∷ line.Tick 2 ∷ line.Tick 3 ∷ []

abbrev pub all_started : Making → Making
all_started m = add_all starting m

-- these are the counts of its items, and the newest revision of its store
pub record Tells (s : Summary) (m : Making) : Type 0 where
  pub asked : s.asked ≡ (summary m.items).asked
  pub replied : s.replied ≡ (summary m.items).replied
  pub unsent : s.unsent ≡ (summary m.items).unsent
  pub revision : (w : World) → m.world ≡ Some w → s.revision ≡ newest w.store.history
