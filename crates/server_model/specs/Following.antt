-- A stream of a member, followed: an answer of status 200 whose body comes in lines, each of them a message, as etcd's JSON gateway
-- sends them; one step on Item for each, in order; and at its end one on Cut. It ends behind the message that cancels its watch, since
-- a member leaves the body of such a stream open. `worn` says that the machine is worn at the end,
-- `most` how many bytes a line may have, its line feed counted.
use Rattle.std.specs.Prelude.{◌≡◌, ℕ, true, false, List, [], ◌∷◌, ◌++◌, map, Option, None, Some, IfSome, Result, Ok, Err, ⊤}
use Rattle.outside.specs.Faults.{Rose}
use Rattle.outside.specs.declared.link.AnswerEnd.{AnswerEnd}
use Rattle.outside.specs.declared.link.AnswerEnd.TheVariants as answer
use Rattle.etcd_types.specs.declared.watch.WatchItem.{WatchItem}
use Rattle.json_model.specs.declared.fault.NotReply.TheVariants.{Unreadable}
use Rattle.json_model.specs.WatchItems.{item_of}
use Rattle.http_talk.specs.Replies.{is_cancel}
use Rattle.http_wire.specs.declared.fault.WireFault.{WireFault}
use Rattle.http_wire.specs.declared.fault.WireFault.TheVariants as wire
use Rattle.http_wire.specs.declared.message.AnswerHead.{AnswerHead}
use Rattle.http_wire.specs.declared.message.Framing.{Framing}
use Rattle.http_wire.specs.Heads.{AnswerRead}
use Rattle.http_wire.specs.Steps.{NextLine}
use Rattle.turn_hub.specs.History.{entry_of}
use Rattle.core_model.specs.declared.event.CoreEvent.TheVariants.{Item, Cut}
use Rattle.core_model.specs.declared.event.Outcome.{Outcome}
use Rattle.core_model.specs.declared.event.Outcome.TheVariants.{Noted}
use Rattle.core_model.specs.declared.event.StepFault.{StepFault}
use Rattle.core_model.specs.declared.event.StepFault.TheVariants as step
use Rattle.server_model.specs.Steps.{Step, Every, Adds}
use Rattle.server_model.specs.declared.ends.StreamEnd.{StreamEnd}
use Rattle.server_model.specs.declared.ends.StreamEnd.TheVariants as how

-- ---- what the member sends

-- these lines stand in the bytes of a body, one behind the other; the framing says how the body goes on
abbrev pub Lines : ℕ → Framing → List (List ℕ) → List ℕ → Framing → List ℕ → Type 0
Lines most old [] all new rest = (old ≡ new) × (all ≡ rest)
Lines most old (line ∷ lines) all new rest =
    (next : Framing) × (mid : List ℕ) × NextLine most old next all mid (Ok (Some line)) × Lines most next lines mid new rest

-- an answer of status 200, whose body goes on so
abbrev pub IsGood : List ℕ → Framing → List ℕ → Type 0
IsGood all framing rest = (head : AnswerHead) × (head.status ≡ 200) × (head.framing ≡ framing) × AnswerRead all rest (Ok head)

-- an answer of status 200, and these lines of its body
abbrev pub Opened : ℕ → List (List ℕ) → List ℕ → Framing → List ℕ → Type 0
Opened most lines all framing rest = (first : Framing) × (mid : List ℕ) × IsGood all first mid × Lines most first lines mid framing rest

-- the same where the bytes are told
abbrev pub Reads : (List ℕ → Framing → List ℕ → Type 0) → Option (List ℕ) → Framing → Option (List ℕ) → Type 0
Reads P None framing new = ⊤
Reads P (Some all) framing None = ⊥
Reads P (Some all) framing (Some rest) = P all framing rest

-- a line that was fed as the message that it is, at this time
pub record Message : Type 0 where
  pub line : List ℕ
  pub item : WatchItem
  pub now : ℕ

abbrev pub lines_of : List Message → List (List ℕ)
lines_of messages = map (λ m. m.line) messages

abbrev pub AreRead : List Message → Type 0
AreRead messages = Every (λ m. item_of m.line ≡ Ok m.item) messages

-- none of them ends the watch
abbrev pub AllGo : List Message → Type 0
AllGo messages = Every (λ m. is_cancel m.item ≡ false) messages

-- ---- why it ended

-- no memory for a wire; no answer; an answer of another status; what follows is no line; the body's end; the last message was fed and ended
-- the watch; a line that memory was wanting to read; a line that is no message; a message that the core refused; a message after the hub's
-- last step
pub data Cause : Type 0 where
  Unready : Cause
  Unanswered : WireFault → Cause
  Refused : AnswerHead → Cause
  Broken : WireFault → Cause
  Ended : Cause
  Over : Cause
  Unread : List ℕ → Cause
  NoMessage : List ℕ → Cause
  Unfed : Message → StepFault → Cause
  Late : Message → Cause

-- one line more, and perhaps what is behind it
abbrev pub OpenedMore : ℕ → List Message → List ℕ → List ℕ → Type 0
OpenedMore most messages line all = (framing : Framing) × (rest : List ℕ) × Opened most (lines_of messages ++ line ∷ []) all framing rest

-- what stands in the bytes behind the messages that were fed
abbrev pub Stands : ℕ → Cause → List Message → List ℕ → Type 0
Stands most Unready messages all = messages ≡ []
Stands most (Unanswered fault) messages all = (messages ≡ []) × ((rest : List ℕ) × AnswerRead all rest (Err fault))
Stands most (Refused head) messages all = (messages ≡ []) × (head.status ≡ 200 → ⊥) × ((rest : List ℕ) × AnswerRead all rest (Ok head))
Stands most (Broken fault) messages all =
    (old : Framing) × (new : Framing) × (mid : List ℕ) × (rest : List ℕ) × Opened most (lines_of messages) all old mid × NextLine most old new mid rest (Err fault)
Stands most Ended messages all =
    (old : Framing) × (new : Framing) × (mid : List ℕ) × (rest : List ℕ) × Opened most (lines_of messages) all old mid × NextLine most old new mid rest (Ok None)
Stands most Over messages all = (framing : Framing) × (rest : List ℕ) × Opened most (lines_of messages) all framing rest
Stands most (Unread line) messages all = OpenedMore most messages line all
Stands most (NoMessage line) messages all = OpenedMore most messages line all × (item_of line ≡ Err Unreadable)
Stands most (Unfed m fault) messages all = OpenedMore most messages m.line all × (item_of m.line ≡ Ok m.item)
Stands most (Late m) messages all = OpenedMore most messages m.line all × (item_of m.line ≡ Ok m.item)

-- the end that a fault of the wire asks for
abbrev pub end_by : WireFault → StreamEnd
end_by wire.NoMemory = how.NoMemory
end_by _ = how.Cut

-- where the stream is cut, the end that its cause asks for
abbrev pub wanted : Cause → Option StreamEnd
wanted Unready = Some how.NoMemory
wanted (Unanswered fault) = Some (end_by fault)
wanted (Refused head) = Some how.Cut
wanted (Broken fault) = Some (end_by fault)
wanted Ended = Some how.Cut
wanted Over = Some how.Cut
wanted (Unread line) = Some how.NoMemory
wanted (NoMessage line) = Some how.Cut
wanted (Unfed m step.NoMemory) = Some how.NoMemory
wanted (Unfed m fault) = None
wanted (Late m) = None

-- how far its answer was read by then: a line of it passes the limit, or it broke off in another way
abbrev pub read_to : Cause → AnswerEnd
read_to (Broken wire.BodyTooLong) = answer.TooLong
read_to _ = answer.Broken

-- a read of the source failed
abbrev pub HasRisen : Cause → ℕ → ℕ → Type 0
HasRisen (Unanswered wire.ReadFault) earlier later = Rose earlier later
HasRisen (Broken wire.ReadFault) earlier later = Rose earlier later
HasRisen _ earlier later = ⊤

-- the last message ended the watch, and no other one did
abbrev pub Goes : Cause → List Message → Type 0
Goes Over messages = (front : List Message) × (m : Message) × (messages ≡ front ++ m ∷ []) × (is_cancel m.item ≡ true) × AllGo front
Goes _ messages = AllGo messages

-- it comes of no message
abbrev pub IsQuiet : Cause → Type 0
IsQuiet Over = ⊥
IsQuiet (Unfed m fault) = ⊥
IsQuiet _ = ⊤

-- ---- its steps

abbrev pub steps_of : ℕ → List Message → List Step
steps_of stream messages = map (λ m. entry_of (Item stream m.item) m.now (Ok Noted)) messages

-- the step that failed, if one did
abbrev pub failed : ℕ → Cause → List Step
failed stream (Unfed m fault) = entry_of (Item stream m.item) m.now (Err fault) ∷ []
failed stream _ = []

-- the stream is cut, unless the machine is worn, which then is the end
pub data Cuts (worn : Type 0) (stream : ℕ) : StreamEnd → StreamEnd → List Step → Type 0 where
  cut : (end : StreamEnd) (now : ℕ) (given : Result Outcome StepFault) → Cuts worn stream end end (entry_of (Cut stream) now given ∷ [])
  late : (end : StreamEnd) → worn → Cuts worn stream end how.Worn []

-- the last steps by this cause, and the end: the stream is cut; or it was cut before, or no further step can be made
pub data Ends (worn : Type 0) (stream : ℕ) : Cause → StreamEnd → List Step → Type 0 where
  cutting : (cause : Cause) (first end : StreamEnd) (steps : List Step) → wanted cause ≡ Some first → Cuts worn stream first end steps
      → Ends worn stream cause end (failed stream cause ++ steps)
  gone : (m : Message)
      → Ends worn stream (Unfed m (step.NoSuchStream stream)) how.Gone (entry_of (Item stream m.item) m.now (Err (step.NoSuchStream stream)) ∷ [])
  spent : (m : Message) → Ends worn stream (Unfed m step.Worn) how.Worn (entry_of (Item stream m.item) m.now (Err step.Worn) ∷ [])
  late : (m : Message) → worn → Ends worn stream (Late m) how.Worn []

-- A whole stream. `had` are the bytes that its answer had to give, `earlier` and `later` are the answer's counts of failed reads.
pub record Following (worn : Type 0) (most : ℕ) (stream : ℕ) (had : Option (List ℕ)) (earlier later : ℕ) (made made' : Option (List Step)) (read_so : AnswerEnd) (end : StreamEnd) : Type 0 where
  pub messages : List Message
  pub read : AreRead messages
  pub cause : Cause
  pub goes : Goes cause messages
  pub stands : IfSome had (Stands most cause messages)
  pub risen : HasRisen cause earlier later
  pub ended : read_so ≡ read_to cause
  pub tail : List Step
  pub ends : Ends worn stream cause end tail
  pub adds : Adds made made' (steps_of stream messages ++ tail)

-- the messages that were fed so far, where the watch goes on
pub record Fed (most : ℕ) (stream : ℕ) (left rest : Option (List ℕ)) (framing : Framing) (made made' : Option (List Step)) : Type 0 where
  pub messages : List Message
  pub read : AreRead messages
  pub goes : AllGo messages
  pub opened : Reads (Opened most (lines_of messages)) left framing rest
  pub adds : Adds made made' (steps_of stream messages)
