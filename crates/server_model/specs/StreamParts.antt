-- What the parts of following a stream do.
use Rattle.std.specs.Prelude.{◌≡◌, ℕ, ◌≤◌, Bool, true, false, List, [], ◌∷◌, Option, None, Some, IfSome, Result, Ok, Err}
use Rattle.etcd_types.specs.declared.watch.WatchItem.{WatchItem}
use Rattle.outside.specs.Calls.{Adds as Tells, LinkCall, Begun, Ended}
use Rattle.outside.specs.declared.link.AnswerEnd.{AnswerEnd}
use Rattle.outside.specs.declared.link.AnswerEnd.TheVariants as answer
use Rattle.outside.specs.declared.link.CallKind.TheVariants.{Watches}
use Rattle.outside.specs.declared.link.LinkFault.{LinkFault}
use Rattle.outside.specs.declared.link.LinkFault.TheVariants as link
use Rattle.outside.specs.declared.parts.Follow.{Follow}
use Rattle.outside.specs.Faults.{Rose}
use Rattle.json_model.specs.declared.fault.NotReply.TheVariants.{Unreadable}
use Rattle.json_model.specs.WatchItems.{item_of}
use Rattle.http_wire.specs.declared.fault.WireFault.{WireFault}
use Rattle.http_wire.specs.declared.message.Framing.{Framing}
use Rattle.http_wire.specs.Held.{ReadsAhead}
use Rattle.http_wire.specs.Steps.{NextLine}
use Rattle.turn_hub.specs.History.{entry_of}
use Rattle.core_model.specs.declared.event.CoreEvent.TheVariants.{Item}
use Rattle.core_model.specs.declared.event.Outcome.TheVariants.{Noted}
use Rattle.core_model.specs.declared.event.StepFault.TheVariants as step
use Rattle.server_model.specs.declared.fault.TurnFault.{TurnFault}
use Rattle.server_model.specs.declared.fault.TurnFault.TheVariants as turn
use Rattle.server_model.specs.Steps.{Step, Adds}
use Rattle.server_model.specs.declared.ends.StreamEnd.{StreamEnd}
use Rattle.server_model.specs.declared.ends.StreamEnd.TheVariants as how
use Rattle.server_model.specs.declared.ends.StreamStop.{StreamStop}
use Rattle.server_model.specs.Following.{Cause, IsGood, Reads, Stands, HasRisen, IsQuiet, wanted, end_by, read_to, Cuts, Following}
use Rattle.server_model.specs.Following.Cause.{Broken, Ended, Unread, NoMessage}

-- a stream ends so, and its answer isn't read on
abbrev pub cut_at : StreamEnd → StreamStop
cut_at end = record { end = end; read = answer.Broken }

-- how a stream stops whose body is broken by this fault
abbrev pub stop_by : WireFault → StreamStop
stop_by fault = record { end = end_by fault; read = read_to (Broken fault) }

-- a cause by which the stream stops so, which comes of no message
abbrev pub Stops : Cause → StreamStop → ℕ → ℕ → Type 0
Stops cause stop earlier later =
    IsQuiet cause × (wanted cause ≡ Some stop.end) × (stop.read ≡ read_to cause) × HasRisen cause earlier later

-- an answer of status 200 was opened, whose body goes on so, or the stream is to be cut
abbrev pub Opens : ℕ → Option (List ℕ) → Option (List ℕ) → ℕ → ℕ → Result Framing StreamStop → Type 0
Opens most had rest earlier later (Ok framing) = Reads IsGood had framing rest
Opens most had rest earlier later (Err stop) = (cause : Cause) × Stops cause stop earlier later × IfSome had (Stands most cause [])

-- why no message comes, by the bytes of the body that are still ahead
abbrev pub StandsNext : ℕ → Cause → Framing → List ℕ → Type 0
StandsNext most (Broken fault) old all = (new : Framing) × (rest : List ℕ) × NextLine most old new all rest (Err fault)
StandsNext most Ended old all = (new : Framing) × (rest : List ℕ) × NextLine most old new all rest (Ok None)
StandsNext most (Unread line) old all = (new : Framing) × (rest : List ℕ) × NextLine most old new all rest (Ok (Some line))
StandsNext most (NoMessage line) old all =
    ((new : Framing) × (rest : List ℕ) × NextLine most old new all rest (Ok (Some line))) × (item_of line ≡ Err Unreadable)
StandsNext most _ old all = ⊥

-- the next message, or why none comes
abbrev pub Nexts : ℕ → Framing → Framing → Option (List ℕ) → Option (List ℕ) → ℕ → ℕ → Result WatchItem StreamStop → Type 0
Nexts most old new had rest earlier later (Ok item) =
    (line : List ℕ) × ReadsAhead (NextLine most old new) had rest (Ok (Some line)) × (item_of line ≡ Ok item)
Nexts most old new had rest earlier later (Err stop) =
    (cause : Cause) × Stops cause stop earlier later × IfSome had (StandsNext most cause old)

-- the end by another fault of the step
abbrev pub end_of : TurnFault → StreamEnd
end_of (turn.Core (step.NoSuchStream stream)) = how.Gone
end_of _ = how.Worn

-- a message couldn't be fed
pub data Refuses (worn : Type 0) (stream : ℕ) (item : WatchItem) : StreamEnd → List Step → Type 0 where
  cutting : (now : ℕ) (end : StreamEnd) (steps : List Step) → Cuts worn stream how.NoMemory end steps
      → Refuses worn stream item end (entry_of (Item stream item) now (Err step.NoMemory) ∷ steps)
  gone : (now : ℕ) → Refuses worn stream item how.Gone (entry_of (Item stream item) now (Err (step.NoSuchStream stream)) ∷ [])
  spent : (now : ℕ) → Refuses worn stream item how.Worn (entry_of (Item stream item) now (Err step.Worn) ∷ [])
  late : worn → Refuses worn stream item how.Worn []

-- a message was fed, and the core took it
abbrev pub IsTaken : ℕ → WatchItem → Option (List Step) → Option (List Step) → Type 0
IsTaken stream item made made' = (now : ℕ) × Adds made made' (entry_of (Item stream item) now (Ok Noted) ∷ [])

-- a message was fed. Where an end is named the stream goes on no more
abbrev pub Feeds : Type 0 → ℕ → WatchItem → Option (List Step) → Option (List Step) → Option StreamEnd → Type 0
Feeds worn stream item made made' None = IsTaken stream item made made'
Feeds worn stream item made made' (Some end) = (steps : List Step) × Refuses worn stream item end steps × Adds made made' steps

-- the stream was cut
abbrev pub IsCut : Type 0 → ℕ → StreamEnd → StreamEnd → Option (List Step) → Option (List Step) → Type 0
IsCut worn stream first end made made' = (steps : List Step) × Cuts worn stream first end steps × Adds made made' steps

-- a stream was begun on a link, once, and this came of it
abbrev pub begun : Follow → Result (Option (List ℕ)) LinkFault → LinkCall
begun follow came = Begun follow.member (Watches follow.stream) follow.call came

-- A stream that is to be followed, by what was done on the link: its answer was followed and given back, or it couldn't be begun, and the
-- stream was cut at once. The answer's failed reads are counted from none on.
pub data Follows (worn : Type 0) (most : ℕ) (follow : Follow) (earlier later : ℕ) (made made' : Option (List Step)) : List LinkCall → StreamEnd → Type 0 where
  followed : (had left : Option (List ℕ)) (count : ℕ) (how : AnswerEnd) (end : StreamEnd)
      → Following worn most follow.stream had 0 count made made' how end
      → Follows worn most follow earlier later made made' (begun follow (Ok had) ∷ Ended left count how ∷ []) end
  failed : (end : StreamEnd) → Rose earlier later → IsCut worn follow.stream how.Cut end made made'
      → Follows worn most follow earlier later made made' (begun follow (Err link.Failed) ∷ []) end
  unbegun : (end : StreamEnd) → IsCut worn follow.stream how.NoMemory end made made'
      → Follows worn most follow earlier later made made' (begun follow (Err link.NoMemory) ∷ []) end

-- a stream was followed, with these calls on the link between two moments
pub record IsFollowed (worn : Type 0) (most : ℕ) (follow : Follow) (called called' : Option (List LinkCall)) (faults faults' : ℕ) (made made' : Option (List Step)) (end : StreamEnd) : Type 0 where
  pub calls : List LinkCall
  pub told : Tells called called' calls
  pub kept : faults ≤ faults'
  pub follows : Follows worn most follow faults faults' made made' calls end
