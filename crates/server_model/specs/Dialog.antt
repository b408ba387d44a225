-- A connection's dialog: the requests among the bytes that were read, the steps that were made for them, and the bytes that
-- were written. What speaks of bytes alone is `http_talk`'s.
use Rattle.std.specs.Prelude.{◌≡◌, ℕ, Bool, true, false, not, List, [], ◌∷◌, ◌++◌, ◌||◌, Option, None, Some, IfSome, Result, Ok, Err, if◌then◌else◌, IsTrue, ⊤}
use Rattle.std.specs.List.{flat_map}
use Rattle.std.specs.Io.KnownBytes.{Appends}
use Rattle.outside.specs.Streams.{WritesFront}
use Rattle.etcd_types.specs.declared.request.Request.{Request}
use Rattle.etcd_types.specs.declared.answer.Answer.{Answer}
use Rattle.json_model.specs.declared.extra.Reading.TheVariants.{Client}
use Rattle.http_wire.specs.declared.fault.WireFault.{WireFault}
use Rattle.http_wire.specs.declared.message.Head.{Head}
use Rattle.http_wire.specs.Bodies.{BodyRead, is_of_bytes}
use Rattle.http_wire.specs.Heads.{HeadRead}
use Rattle.http_talk.specs.declared.form.RefusalForm.{RefusalForm}
use Rattle.http_talk.specs.declared.ready.Ready.{Ready}
use Rattle.http_talk.specs.declared.refused.Refused.TheVariants as refused
use Rattle.http_talk.specs.Direct.{Direct, Undecided, Decides, IsSaid, direct_said}
use Rattle.http_talk.specs.Refusals.{refusal}
use Rattle.http_talk.specs.Replies.{is_cancel, said_in_chunk, said_as_reply, go_on_of}
use Rattle.http_talk.specs.Requests.{Ahead, IsRequest, asked_of}
use Rattle.turn_hub.specs.History.{entry_of}
use Rattle.core_model.specs.declared.event.CoreEvent.{CoreEvent}
use Rattle.core_model.specs.declared.event.CoreEvent.TheVariants.{Ask, Take, Leave}
use Rattle.core_model.specs.declared.event.Outcome.{Outcome}
use Rattle.core_model.specs.declared.event.Outcome.TheVariants.{Replied, Waiting, Pending, Item}
use Rattle.core_model.specs.declared.event.StepFault.{StepFault}
use Rattle.core_model.specs.declared.event.StepFault.TheVariants as step
use Rattle.server_model.specs.declared.fault.TurnFault.{TurnFault}
use Rattle.server_model.specs.declared.fault.TurnFault.TheVariants as turn
use Rattle.server_model.specs.declared.ends.SessionEnd.{SessionEnd}
use Rattle.server_model.specs.declared.ends.SessionEnd.TheVariants.{Closed, BadRequest, ReadFault, WriteFault, OutOfTickets, TicketTaken, Worn, NoMemory}
use Rattle.server_model.specs.Steps.{Step, Did, Every, FitsFault, IsOfRest}

-- ---- what is done for it

-- a take that brought the reply, or the last message of a watch
abbrev pub is_final : Result Outcome StepFault → Bool
is_final (Ok (Replied answer)) = true
is_final (Ok (Item item)) = is_cancel item
is_final _ = false

-- a take behind which more is to come: nothing was there yet, or a message that isn't the last
abbrev pub goes_on : Result Outcome StepFault → Bool
goes_on (Ok Pending) = true
goes_on (Ok (Item item)) = not (is_cancel item)
goes_on _ = false

-- takes of a ticket behind which more is to come
abbrev pub ArePartial : ℕ → List Step → Type 0
ArePartial ticket steps = Every (λ e. (e.event ≡ Take ticket) × (goes_on e.answer ≡ true)) steps

-- the takes of a ticket whose reply was taken whole
pub data TakesAll (ticket : ℕ) : List Step → Type 0 where
  up_to : (now : ℕ) (takes : List Step) (last : Result Outcome StepFault) → ArePartial ticket takes → is_final last ≡ true
      → TakesAll ticket (takes ++ entry_of (Take ticket) now last ∷ [])

-- the steps of a request that was answered whole: by the step that asked it, or by takes
pub data Whole (request : Request) : List Step → Type 0 where
  at_once : (ticket word now : ℕ) (answer : Answer) → Whole request (entry_of (Ask ticket request word) now (Ok (Replied answer)) ∷ [])
  waited : (ticket word at : ℕ) (takes : List Step) → TakesAll ticket takes → Whole request (entry_of (Ask ticket request word) at (Ok Waiting) ∷ takes)

-- the end of a connection because of a fault of the core: it is worn, where it isn't one of the others
abbrev pub end_of_step : StepFault → SessionEnd
end_of_step (step.NoSuchTicket ticket) = TicketTaken ticket
end_of_step step.NoMemory = NoMemory
end_of_step _ = Worn

abbrev pub end_of : TurnFault → SessionEnd
end_of turn.Worn = Worn
end_of (turn.Core fault) = end_of_step fault

-- an end in the midst of a request that was read
abbrev pub Breaking : SessionEnd → Type 0
Breaking Closed = ⊥
Breaking (BadRequest fault) = ⊥
Breaking _ = ⊤

-- an end before the request was asked: no ticket is left, the turn makes no more steps, or memory was wanting
abbrev pub IsUnasked : Type 0 → SessionEnd → Type 0
IsUnasked worn OutOfTickets = ⊤
IsUnasked worn Worn = worn
IsUnasked worn NoMemory = ⊤
IsUnasked worn _ = ⊥

-- an end because the reply wasn't written whole
abbrev pub IsUntold : SessionEnd → Type 0
IsUntold WriteFault = ⊤
IsUntold NoMemory = ⊤
IsUntold _ = ⊥

-- the turn makes no more steps
abbrev pub is_worn : Result Outcome TurnFault → Bool
is_worn (Err turn.Worn) = true
is_worn _ = false

-- the ticket that was asked is in use
abbrev pub is_in_use : TurnFault → Bool
is_in_use (turn.Core (step.TicketUsed used)) = true
is_in_use _ = false

-- `worn` says here that the turn makes no more steps.

-- A connection was to end so, and ends so with these steps: the ticket is left; or the turn makes no more steps, which then is the
-- end. It isn't left where no step is made any more, or where it isn't known.
pub data Gone (worn : Type 0) (ticket : ℕ) : SessionEnd → SessionEnd → List Step → Type 0 where
  leaves : (end : SessionEnd) (now : ℕ) (answer : Result Outcome StepFault) → Gone worn ticket end end (entry_of (Leave ticket) now answer ∷ [])
  late : (end : SessionEnd) → worn → Gone worn ticket end Worn []
  stands : Gone worn ticket Worn Worn []
  taken : Gone worn ticket (TicketTaken ticket) (TicketTaken ticket) []

-- why a connection ends while a ticket waits, and the step that shows it, if one does: the turn makes no more steps, a take failed, the
-- client went away, memory was wanting, or what a take brought wasn't written
pub data Stopping (worn : Type 0) (ticket : ℕ) : SessionEnd → List Step → Type 0 where
  late : worn → Stopping worn ticket Worn []
  taking : (now : ℕ) (fault : StepFault) → FitsFault (Take ticket) fault → Stopping worn ticket (end_of_step fault) (entry_of (Take ticket) now (Err fault) ∷ [])
  went : Stopping worn ticket ReadFault []
  untold : (end : SessionEnd) → IsUntold end → Stopping worn ticket end []

-- The takes of a ticket in whose midst the connection ended: those before the end's cause, its step, and the one that left the ticket; or
-- all of them, where the last thing couldn't be written.
pub data Stops (worn : Type 0) (ticket : ℕ) : SessionEnd → List Step → Type 0 where
  gone : (first end : SessionEnd) (takes failed tail : List Step) → ArePartial ticket takes → Stopping worn ticket first failed → Gone worn ticket first end tail
      → Stops worn ticket end (takes ++ failed ++ tail)
  unsaid : (end : SessionEnd) (takes : List Step) → IsUntold end → TakesAll ticket takes → Stops worn ticket end takes

-- The steps of a request in whose midst the connection ended: none; the one that asked it, with a fault, or with a reply that couldn't be
-- written; or that one and takes.
pub data Breaks (worn : Type 0) (request : Request) : SessionEnd → List Step → Type 0 where
  unasked : (end : SessionEnd) → IsUnasked worn end → Breaks worn request end []
  fails : (ticket word now : ℕ) (fault : StepFault) → IsOfRest (turn.Core fault)
      → Breaks worn request (end_of_step fault) (entry_of (Ask ticket request word) now (Err fault) ∷ [])
  unsaid : (ticket word now : ℕ) (answer : Answer) (end : SessionEnd) → IsUntold end
      → Breaks worn request end (entry_of (Ask ticket request word) now (Ok (Replied answer)) ∷ [])
  waiting : (ticket word at : ℕ) (end : SessionEnd) (takes : List Step) → Stops worn ticket end takes
      → Breaks worn request end (entry_of (Ask ticket request word) at (Ok Waiting) ∷ takes)

-- asks of the request with a ticket that was in use
abbrev pub AreInUse : Request → List Step → Type 0
AreInUse request steps = Every (λ e. (ticket : ℕ) × (word : ℕ) × (e.event ≡ Ask ticket request word) × (e.answer ≡ Err (step.TicketUsed ticket))) steps

-- steps of the request: first it was asked with tickets that were in use, and then P
pub record AfterUsed (request : Request) (P : List Step → Type 0) (steps : List Step) : Type 0 where
  pub tries : List Step
  pub rest : List Step
  pub in_use : AreInUse request tries
  pub parts : steps ≡ tries ++ rest
  pub last : P rest

-- ---- what is written for it

-- `form` says here how refusals are written.

-- what a step says to the client, where the head of the chunks was written or wasn't
abbrev pub said_at : RefusalForm → Bool → Result Outcome StepFault → List ℕ
said_at form begun (Ok (Replied answer)) = said_as_reply form begun answer
said_at form begun (Ok (Item item)) = said_in_chunk begun item
said_at form begun _ = []

abbrev pub begins : Result Outcome StepFault → Bool
begins (Ok (Item item)) = true
begins _ = false

abbrev pub said_from : RefusalForm → Bool → List Step → List ℕ
said_from form begun [] = []
said_from form begun (e ∷ es) = said_at form begun e.answer ++ said_from form (begun || begins e.answer) es

-- what is said for a request with this method
abbrev pub said_for : RefusalForm → List ℕ → Result Request Direct → List Step → List ℕ
said_for form method (Ok request) steps = said_from form false steps
said_for form method (Err direct) steps = direct_said form method direct

-- a request, how it was decided, and the steps that were made for it
pub record Exchange : Type 0 where
  pub head : Head
  pub body : List ℕ
  pub asked : Result Request Direct
  pub steps : List Step

abbrev pub said_in : RefusalForm → Exchange → List ℕ
said_in form x = go_on_of x.head ++ said_for form x.head.method x.asked x.steps

-- refusals and answers that need no step make none, and a request has its whole reply
abbrev pub Answers : Result Request Direct → List Step → Type 0
Answers (Err direct) steps = (steps ≡ []) × IsSaid direct
Answers (Ok request) steps = AfterUsed request (Whole request) steps

-- an end with no step: memory was wanting to say how it is answered, or that wasn't written whole
abbrev pub IsUnsaid : Direct → SessionEnd → Type 0
IsUnsaid Undecided end = end ≡ NoMemory
IsUnsaid _ end = IsUntold end

abbrev pub StopsIn : Type 0 → Result Request Direct → SessionEnd → List Step → Type 0
StopsIn worn (Err direct) end steps = (steps ≡ []) × IsUnsaid direct end
StopsIn worn (Ok request) end steps = AfterUsed request (Breaks worn request end) steps

-- ---- the end of a connection

-- What a connection ends with, behind the requests that were answered whole: the input's end; the last request, with `close`;
-- bytes that are no request, or no body of this head; or a request in whose midst it ended, of which nothing, the head alone or
-- all was read.
pub data Last : Type 0 where
  Ended : Last
  Closing : Exchange → Last
  Unread : WireFault → Last
  BadBody : Head → WireFault → Last
  Nothing : Last
  Announced : Head → Last
  Broken : Exchange → Last

abbrev pub last_steps : Last → List Step
last_steps (Closing x) = x.steps
last_steps (Broken x) = x.steps
last_steps _ = []

abbrev pub last_said : RefusalForm → Last → List ℕ
last_said form (Closing x) = said_in form x
last_said form (Unread fault) = refusal form refused.Bytes
last_said form (BadBody head fault) = go_on_of head ++ refusal form refused.Bytes
last_said form (Announced head) = go_on_of head
last_said form (Broken x) = said_in form x
last_said form _ = []

-- what it is among the bytes that were still ahead
abbrev pub IsLast : Last → List ℕ → Type 0
IsLast Ended all = all ≡ []
IsLast (Closing x) all = (rest : List ℕ) × IsRequest x.head x.body all rest
IsLast (Unread fault) all = (rest : List ℕ) × HeadRead all rest (Err fault)
IsLast (BadBody head fault) all = (mid : List ℕ) × (rest : List ℕ) × HeadRead all mid (Ok (Some head)) × BodyRead head.framing mid rest (Err fault)
IsLast Nothing all = ⊤
IsLast (Announced head) all = (mid : List ℕ) × HeadRead all mid (Ok (Some head))
IsLast (Broken x) all = (rest : List ℕ) × IsRequest x.head x.body all rest

-- which end goes with it where no request was read whole: the input's end, bytes that are none, or a read, a write or memory that failed
abbrev pub SuitsUnread : SessionEnd → Last → Type 0
SuitsUnread Closed Ended = ⊤
SuitsUnread (BadRequest f) (Unread fault) = (f ≡ fault) × IsTrue (is_of_bytes fault)
SuitsUnread (BadRequest f) (BadBody head fault) = (f ≡ fault) × IsTrue (is_of_bytes fault)
SuitsUnread ReadFault Nothing = ⊤
SuitsUnread NoMemory Nothing = ⊤
SuitsUnread ReadFault (Announced head) = ⊤
SuitsUnread WriteFault (Announced head) = ⊤
SuitsUnread NoMemory (Announced head) = ⊤
SuitsUnread _ _ = ⊥

-- `gives` says which answers with no step may be given to a head and a body that the mapping refuses, none among them.
module _ (gives : Head → List ℕ → Option Ready → Type 0) where
  -- it is asked as the mapping says; where the mapping refuses it, the answer that is given decides, or that none is
  abbrev pub IsDecided : Exchange → Type 0
  IsDecided x = Decides (gives x.head x.body) (asked_of Client x.head x.body) x.asked

  -- which of them goes with which end
  abbrev pub Suits : Type 0 → SessionEnd → Last → Type 0
  Suits worn end (Closing x) = (end ≡ Closed) × IsDecided x × Answers x.asked x.steps × (x.head.close ≡ true)
  Suits worn end (Broken x) = Breaking end × IsDecided x × StopsIn worn x.asked end x.steps
  Suits worn end last = SuitsUnread end last

-- all of it was written, or a front of it
abbrev pub Said : SessionEnd → Option (List ℕ) → Option (List ℕ) → List ℕ → Type 0
Said Closed old new bytes = Appends old new bytes
Said _ old new bytes = WritesFront old new bytes

-- ---- the dialog

-- these requests stand in the bytes, one behind the other
abbrev pub Requests : List Exchange → List ℕ → List ℕ → Type 0
Requests [] all rest = all ≡ rest
Requests (x ∷ xs) all rest = (mid : List ℕ) × IsRequest x.head x.body all mid × Requests xs mid rest

module _ (gives : Head → List ℕ → Option Ready → Type 0) where
  -- each was answered whole, and none of them closes
  abbrev pub AreAnswered : List Exchange → Type 0
  AreAnswered xs = Every (λ x. IsDecided gives x × Answers x.asked x.steps × (x.head.close ≡ false)) xs

module _ (form : RefusalForm) (gives : Head → List ℕ → Option Ready → Type 0) (rests : CoreEvent → Type 0) where
  -- a request was read and answered whole
  pub record Exchanged (left left' : Option (List ℕ)) (made made' : Option (List Step)) (written written' : Option (List ℕ)) (x : Exchange) : Type 0 where
    pub read : Ahead (IsRequest x.head x.body) left left'
    pub decided : IsDecided gives x
    pub answers : Answers x.asked x.steps
    pub did : Did rests made made' x.steps
    pub said : Appends written written' (said_in form x)

  -- such a request, and the connection goes on
  abbrev pub GoesOn : Option (List ℕ) → Option (List ℕ) → Option (List Step) → Option (List Step) → Option (List ℕ) → Option (List ℕ) → Type 0
  GoesOn left left' made made' written written' = (x : Exchange) × Exchanged left left' made made' written written' x × (x.head.close ≡ false)

  -- the requests that were answered whole so far
  pub record Has (left left' : Option (List ℕ)) (made made' : Option (List Step)) (written written' : Option (List ℕ)) : Type 0 where
    pub whole : List Exchange
    pub read : Ahead (Requests whole) left left'
    pub answered : AreAnswered gives whole
    pub did : Did rests made made' (flat_map (λ x. x.steps) whole)
    pub said : Appends written written' (flat_map (said_in form) whole)

module _ (form : RefusalForm) (gives : Head → List ℕ → Option Ready → Type 0) (rests : CoreEvent → Type 0) (worn : Type 0) where
  -- the connection ended
  pub record Ends (left : Option (List ℕ)) (made made' : Option (List Step)) (written written' : Option (List ℕ)) (end : SessionEnd) : Type 0 where
    pub last : Last
    pub suits : Suits gives worn end last
    pub is_last : IfSome left (IsLast last)
    pub did : Did rests made made' (last_steps last)
    pub said : Said end written written' (last_said form last)

  -- one request, and how it goes on
  abbrev pub Turned : Option (List ℕ) → Option (List ℕ) → Option (List Step) → Option (List Step) → Option (List ℕ) → Option (List ℕ) → Option SessionEnd → Type 0
  Turned left left' made made' written written' None = GoesOn form gives rests left left' made made' written written'
  Turned left left' made made' written written' (Some end) = Ends left made made' written written' end

  -- A whole connection. `left` are the bytes that the source had to give.
  pub record Dialog (left : Option (List ℕ)) (made made' : Option (List Step)) (written written' : Option (List ℕ)) (end : SessionEnd) : Type 0 where
    pub whole : List Exchange
    pub last : Last
    pub read : IfSome left (λ all. (mid : List ℕ) × Requests whole all mid × IsLast last mid)
    pub answered : AreAnswered gives whole
    pub suits : Suits gives worn end last
    pub did : Did rests made made' (flat_map (λ x. x.steps) whole ++ last_steps last)
    pub said : Said end written written' (flat_map (said_in form) whole ++ last_said form last)
