-- What the parts of one exchange do.
use Rattle.std.specs.Prelude.{◌≡◌, ℕ, Bool, true, false, ◌||◌, List, [], ◌∷◌, ◌++◌, Option, None, Some, IfSome, Result, Ok, Err, ⊤}
use Rattle.std.specs.Io.KnownBytes.{Appends}
use Rattle.outside.specs.Streams.{WritesFront}
use Rattle.etcd_types.specs.declared.request.Request.{Request}
use Rattle.etcd_types.specs.declared.watch.WatchItem.{WatchItem}
use Rattle.http_wire.specs.declared.fault.WireFault.{WireFault}
use Rattle.http_wire.specs.declared.fault.WireFault.TheVariants as wire
use Rattle.http_talk.specs.declared.form.RefusalForm.{RefusalForm}
use Rattle.http_talk.specs.declared.ready.Ready.{Ready}
use Rattle.http_talk.specs.declared.received.Received as received
use Rattle.http_talk.specs.declared.refused.Refused.{Refused}
use Rattle.http_talk.specs.Direct.{Direct, Decides, IsSaid, direct_said}
use Rattle.http_talk.specs.Replies.{is_cancel, said_in_chunk, go_on_of}
use Rattle.http_talk.specs.Requests.{Ahead, IsRequest}
use Rattle.turn_hub.specs.History.{entry_of}
use Rattle.core_model.specs.declared.event.CoreEvent.{CoreEvent}
use Rattle.core_model.specs.declared.event.CoreEvent.TheVariants.{Take}
use Rattle.core_model.specs.declared.event.Outcome.{Outcome}
use Rattle.core_model.specs.declared.event.Outcome.TheVariants.{Pending}
use Rattle.core_model.specs.declared.event.StepFault.{StepFault}
use Rattle.server_model.specs.declared.ends.SessionEnd.{SessionEnd}
use Rattle.server_model.specs.declared.ends.SessionEnd.TheVariants.{BadRequest, ReadFault, WriteFault, TicketTaken, NoMemory}
use Rattle.server_model.specs.declared.progress.Attempt.{Attempt}
use Rattle.server_model.specs.declared.progress.Attempt.TheVariants as attempt
use Rattle.server_model.specs.declared.progress.Stop.{Stop}
use Rattle.server_model.specs.declared.progress.Stop.TheVariants as stop
use Rattle.server_model.specs.declared.progress.Taken.{Taken}
use Rattle.server_model.specs.declared.progress.Taken.TheVariants as taken
use Rattle.server_model.specs.Steps.{Step, Did}
use Rattle.server_model.specs.Dialog.{Last, IsLast, SuitsUnread, Said, last_steps, last_said, Whole, ArePartial, TakesAll, Stopping, Gone, Breaks, AreInUse, IsUntold, IsUnsaid, Answers, StopsIn, is_final, goes_on, begins, said_at, said_from, said_for}

abbrev pub end_by : WireFault → SessionEnd
end_by wire.ReadFault = ReadFault
end_by wire.WriteFault = WriteFault
end_by wire.NoMemory = NoMemory
end_by fault = BadRequest fault

-- what a take brought
abbrev pub IsTaken : Taken → Result Outcome StepFault → Type 0
IsTaken taken.Nothing answer = answer ≡ Ok Pending
IsTaken taken.Part answer = (goes_on answer ≡ true) × (begins answer ≡ true)
IsTaken taken.Last answer = is_final answer ≡ true

-- a message of a watch was told
abbrev pub PassesOn : Bool → WatchItem → Option (List ℕ) → Option (List ℕ) → Result Taken Stop → Type 0
PassesOn begun item written written' (Ok taken.Nothing) = ⊥
PassesOn begun item written written' (Ok taken.Part) = (is_cancel item ≡ false) × Appends written written' (said_in_chunk begun item)
PassesOn begun item written written' (Ok taken.Last) = (is_cancel item ≡ true) × Appends written written' (said_in_chunk begun item)
PassesOn begun item written written' (Err (stop.Unanswered end)) =
    (is_cancel item ≡ false) × IsUntold end × WritesFront written written' (said_in_chunk begun item)
PassesOn begun item written written' (Err (stop.Answered end)) =
    (is_cancel item ≡ true) × IsUntold end × WritesFront written written' (said_in_chunk begun item)

-- one of these takes brought a message
abbrev pub begun_by : List Step → Bool
begun_by [] = false
begun_by (e ∷ es) = begins e.answer || begun_by es

-- a request that the mapping refuses so is answered with no step, or why it isn't, where `gives` says which answers may be given to it
abbrev pub Directly : RefusalForm → (Option Ready → Type 0) → List ℕ → Refused → Option (List ℕ) → Option (List ℕ) → Option SessionEnd → Type 0
Directly form gives method refused written written' None =
    (direct : Direct) × Decides gives (Err refused) (Err direct) × IsSaid direct × Appends written written' (direct_said form method direct)
Directly form gives method refused written written' (Some end) =
    (direct : Direct) × Decides gives (Err refused) (Err direct) × IsUnsaid direct end × WritesFront written written' (direct_said form method direct)

-- the end of a connection that stopped so
abbrev pub end_in : Stop → SessionEnd
end_in (stop.Unanswered end) = end
end_in (stop.Answered end) = end

-- the connection ended with no step
pub record EndsUnasked (form : RefusalForm) (left written written' : Option (List ℕ)) (end : SessionEnd) : Type 0 where
  pub last : Last
  pub suits : SuitsUnread end last
  pub is_last : IfSome left (IsLast last)
  pub no_steps : last_steps last ≡ []
  pub said : Said end written written' (last_said form last)

-- the next request, or the connection's end
abbrev pub Received : RefusalForm → Option (List ℕ) → Option (List ℕ) → Option (List ℕ) → Option (List ℕ) → Result received.Received SessionEnd → Type 0
Received form left left' written written' (Ok r) = Ahead (IsRequest r.head r.body) left left' × Appends written written' (go_on_of r.head)
Received form left left' written written' (Err end) = EndsUnasked form left written written' end

-- it isn't for want of another ticket than this one
abbrev pub IsOfTicket : ℕ → SessionEnd → Type 0
IsOfTicket ticket (TicketTaken other) = other ≡ ticket
IsOfTicket ticket _ = ⊤

module _ (rests : CoreEvent → Type 0) where
  -- it was asked with tickets that were in use, or, where it is refused with no step, not at all
  abbrev pub Tried : Result Request Refused → Option (List Step) → Option (List Step) → Option (List ℕ) → Option (List ℕ) → Type 0
  Tried (Ok request) made made' written written' =
      (tries : List Step) × AreInUse request tries × Did rests made made' tries × (written' ≡ written)
  Tried (Err refused) made made' written written' = (made' ≡ made) × (written' ≡ written)

-- `form` says how refusals are written
module _ (form : RefusalForm) (rests : CoreEvent → Type 0) where
  -- takes behind which more is to come, all of whose messages are written
  pub record Partly (ticket : ℕ) (begun : Bool) (made made' : Option (List Step)) (written written' : Option (List ℕ)) : Type 0 where
    pub takes : List Step
    pub partial : ArePartial ticket takes
    pub did : Did rests made made' takes
    pub said : Appends written written' (said_from form false takes)
    pub begun_so : begun_by takes ≡ begun

  -- one take, and what it says, where the head of the chunks was written or wasn't
  abbrev pub Took : ℕ → Bool → Option (List Step) → Option (List Step) → Option (List ℕ) → Option (List ℕ) → Taken → Type 0
  Took ticket begun made made' written written' taken =
      (now : ℕ) × (answer : Result Outcome StepFault) × IsTaken taken answer × Did rests made made' (entry_of (Take ticket) now answer ∷ [])
      × Appends written written' (said_at form begun answer)

  -- rests and takes, until the last thing was taken and written
  abbrev pub FollowsAll : ℕ → Option (List Step) → Option (List Step) → Option (List ℕ) → Option (List ℕ) → Type 0
  FollowsAll ticket made made' written written' =
      (takes : List Step) × TakesAll ticket takes × Did rests made made' takes × Appends written written' (said_from form false takes)

  -- a request was asked with one ticket: it was answered whole, or the ticket was in use
  abbrev pub AskedOnce : Request → Option (List Step) → Option (List Step) → Option (List ℕ) → Option (List ℕ) → Attempt → Type 0
  AskedOnce request made made' written written' attempt.Whole =
      (steps : List Step) × Whole request steps × Did rests made made' steps × Appends written written' (said_from form false steps)
  AskedOnce request made made' written written' attempt.InUse =
      (steps : List Step) × AreInUse request steps × Did rests made made' steps × (written' ≡ written)

  -- a request of this method was answered
  abbrev pub Responded : List ℕ → Result Request Direct → Option (List Step) → Option (List Step) → Option (List ℕ) → Option (List ℕ) → Type 0
  Responded method asked made made' written written' =
      (steps : List Step) × Answers asked steps × Did rests made made' steps × Appends written written' (said_for form method asked steps)

-- `worn` says that the turn makes no more steps
module _ (rests : CoreEvent → Type 0) (worn : Type 0) where
  -- a ticket was left, or needn't be: the connection was to end so, and ends so
  abbrev pub Left : ℕ → SessionEnd → SessionEnd → Option (List Step) → Option (List Step) → Type 0
  Left ticket first end made made' = (tail : List Step) × Gone worn ticket first end tail × Did rests made made' tail

module _ (form : RefusalForm) (rests : CoreEvent → Type 0) (worn : Type 0) where
  -- no more is taken of a ticket: what its takes say was written up to some place
  abbrev pub Stopped : ℕ → Bool → Option (List Step) → Option (List Step) → Option (List ℕ) → Option (List ℕ) → Stop → Type 0
  Stopped ticket begun made made' written written' (stop.Unanswered end) =
      (takes : List Step) × (failed : List Step) × ArePartial ticket takes × Stopping worn ticket end failed × Did rests made made' (takes ++ failed)
      × WritesFront written written' (said_from form begun takes)
  Stopped ticket begun made made' written written' (stop.Answered end) =
      (takes : List Step) × TakesAll ticket takes × IsUntold end × Did rests made made' takes × WritesFront written written' (said_from form begun takes)

  -- one take, or why no more is taken
  abbrev pub Takes : ℕ → Bool → Option (List Step) → Option (List Step) → Option (List ℕ) → Option (List ℕ) → Result Taken Stop → Type 0
  Takes ticket begun made made' written written' (Ok taken) = Took form rests ticket begun made made' written written' taken
  Takes ticket begun made made' written written' (Err why) = Stopped ticket begun made made' written written' why

  -- all that comes for a ticket, or why no more is taken
  abbrev pub Follows : ℕ → Option (List Step) → Option (List Step) → Option (List ℕ) → Option (List ℕ) → Result (Unit {0}) Stop → Type 0
  Follows ticket made made' written written' (Ok done) = FollowsAll form rests ticket made made' written written'
  Follows ticket made made' written written' (Err why) = Stopped ticket false made made' written written' why

  -- the steps of one request with one ticket
  abbrev pub Asks : Request → Option (List Step) → Option (List Step) → Option (List ℕ) → Option (List ℕ) → Result Attempt SessionEnd → Type 0
  Asks request made made' written written' (Ok attempt) = AskedOnce form rests request made made' written written' attempt
  Asks request made made' written written' (Err end) =
      (steps : List Step) × Breaks worn request end steps × Did rests made made' steps × WritesFront written written' (said_from form false steps)

  -- what is done and written for a request of this method that was read
  abbrev pub Responds : List ℕ → Result Request Direct → Option (List Step) → Option (List Step) → Option (List ℕ) → Option (List ℕ) → Option SessionEnd → Type 0
  Responds method asked made made' written written' None = Responded form rests method asked made made' written written'
  Responds method asked made made' written written' (Some end) =
      (steps : List Step) × StopsIn worn asked end steps × Did rests made made' steps × WritesFront written written' (said_for form method asked steps)

  -- the same of a request of which the mapping says `wanted`, where `gives` says which answers with no step may be given to it
  pub record Replies (gives : Option Ready → Type 0) (method : List ℕ) (wanted : Result Request Refused) (made made' : Option (List Step)) (written written' : Option (List ℕ)) (end : Option SessionEnd) : Type 0 where
    pub asked : Result Request Direct
    pub decided : Decides gives wanted asked
    pub does : Responds method asked made made' written written' end
