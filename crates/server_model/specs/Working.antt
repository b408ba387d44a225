-- A worker: it draws what is due, one job after the other, and makes it. A call is made once, and its answer or its loss is fed;
-- a stream is handed over to be followed, or is cut; a closing needs no step and no call. What is due is the core's own rule. Each part of
-- it ends early for want of memory, or where the machine is worn: `worn` says that it is, at the end, where it still is.
use Rattle.std.specs.Prelude.{◌≡◌, ℕ, ◌+◌, ◌-◌, ◌<◌, ◌≤◌, Bool, true, false, List, [], ◌∷◌, ◌++◌, Option, None, Some, Result, Ok, Err, IsTrue, slice_get, unwrap_or}
use Rattle.outside.specs.Calls.{Adds as Tells, LinkCall, Handed}
use Rattle.outside.specs.Faults.{Rose}
use Rattle.outside.specs.declared.parts.Part.{Part}
use Rattle.outside.specs.declared.parts.Part.TheVariants.{Follower}
use Rattle.etcd_types.specs.declared.request.Request.{Request}
use Rattle.etcd_types.specs.declared.answer.Answer.{Answer}
use Rattle.turn_hub.specs.History.{entry_of}
use Rattle.core_model.specs.declared.event.CoreEvent.{CoreEvent}
use Rattle.core_model.specs.declared.event.CoreEvent.TheVariants.{Answer as Answered, Lost, Cut, Work}
use Rattle.core_model.specs.declared.event.Job.{Job}
use Rattle.core_model.specs.declared.event.Job.TheVariants.{Call, Begin, Close}
use Rattle.core_model.specs.declared.event.Outcome.{Outcome}
use Rattle.core_model.specs.declared.event.Outcome.TheVariants.{Job as Due}
use Rattle.core_model.specs.declared.event.StepFault.{StepFault}
use Rattle.core_model.specs.declared.event.StepFault.TheVariants as step
use Rattle.server_model.specs.Steps.{Step, Every, Adds, IsOfRest, is_for_memory, is_late}
use Rattle.server_model.specs.declared.fault.TurnFault.{TurnFault}
use Rattle.server_model.specs.declared.fault.TurnFault.TheVariants as turn
use Rattle.server_model.specs.declared.ends.WorkEnd.{WorkEnd}
use Rattle.server_model.specs.declared.ends.WorkEnd.TheVariants as how
use Rattle.server_model.specs.declared.fault.CallFault.{CallFault}
use Rattle.server_model.specs.declared.fault.CallFault.TheVariants as fault
use Rattle.server_model.specs.Calls.{call_of, Calls, OnLink}
use Rattle.server_model.specs.CallKinds.{kind_of}

-- the host of a member, from 1 on
abbrev pub host_of : List (List ℕ) → ℕ → List ℕ
host_of hosts member = unwrap_or (slice_get hosts (member - 1)) []

-- memory was wanting for a step that gave this
abbrev pub is_full : Result Outcome TurnFault → Bool
is_full (Ok outcome) = false
is_full (Err why) = is_for_memory why

-- ---- steps

-- a step on this event, whatever it gives; or the machine is worn, which then is the end
pub data Fed (worn : Type 0) (event : CoreEvent) (end : Option WorkEnd) : List Step → Option WorkEnd → Type 0 where
  stepped : (now : ℕ) (given : Result Outcome StepFault) → Fed worn event end (entry_of event now given ∷ []) end
  late : worn → Fed worn event end [] (Some how.Worn)

-- the answer to a call is fed; where the core has no room for it the call counts as lost
pub data Reports (worn : Type 0) (call : ℕ) (answer : Answer) : List Step → Option WorkEnd → Type 0 where
  taken : (now : ℕ) (given : Result Outcome StepFault) → (given ≡ Err step.NoMemory → ⊥)
      → Reports worn call answer (entry_of (Answered call answer) now given ∷ []) None
  full : (now : ℕ) (steps : List Step) (end : Option WorkEnd) → Fed worn (Lost call) (Some how.NoMemory) steps end
      → Reports worn call answer (entry_of (Answered call answer) now (Err step.NoMemory) ∷ steps) end
  late : worn → Reports worn call answer [] (Some how.Worn)

-- ---- one job

-- the end by a call that has no answer, if it is one
abbrev pub lost_end : CallFault → Option WorkEnd
lost_end fault.Lost = None
lost_end fault.NoMemory = Some how.NoMemory

-- a stream that is to be followed, with a place of its own; its connection carries no other call
abbrev pub follower : {P C : Type 0} → P → ℕ → ℕ → List ℕ → Part P C
follower place stream member bytes = Follower place (record { stream = stream; member = member; call = bytes })

-- a request's stream, handed over to be followed, and whether that was started
abbrev pub handed_as : {P C : Type 0} → List ℕ → P → ℕ → ℕ → Request → Bool → Handed (Part P C)
handed_as host place stream member request started =
    record { part = follower place stream member (call_of host request); started = started }

-- A call is made once, and its answer or its loss is fed: the steps, the calls on the link, and an end, where it is one
pub data CallDoes (worn : Type 0) (host : List ℕ) (call member : ℕ) (request : Request) : List Step → List LinkCall → Option WorkEnd → Type 0 where
  answered : (answer : Answer) (steps : List Step) (calls : List LinkCall) (end : Option WorkEnd)
      → Calls host member (kind_of request) request calls (Ok answer) → Reports worn call answer steps end
      → CallDoes worn host call member request steps calls end
  unanswered : (why : CallFault) (steps : List Step) (calls : List LinkCall) (end : Option WorkEnd)
      → Calls host member (kind_of request) request calls (Err why) → Fed worn (Lost call) (lost_end why) steps end
      → CallDoes worn host call member request steps calls end

-- A stream is handed over to be followed: the steps, what was handed over, and an end, where it is one. `homed` says which places
-- are of this hub
pub data BeginDoes {P C : Type 0} (worn : Type 0) (host : List ℕ) (homed : P → Type 0) (stream member : ℕ) (request : Request) : List Step → List (Handed (Part P C)) → Option WorkEnd → Type 0 where
  begun : (place : P) → homed place
      → BeginDoes worn host homed stream member request [] (handed_as host place stream member request true ∷ []) None
  refused : (place : P) (steps : List Step) (end : Option WorkEnd) → homed place → Fed worn (Cut stream) None steps end
      → BeginDoes worn host homed stream member request steps (handed_as host place stream member request false ∷ []) end
  unsent : (steps : List Step) (end : Option WorkEnd) → Fed worn (Cut stream) (Some how.NoMemory) steps end
      → BeginDoes worn host homed stream member request steps [] end

-- What is done for a job. `hosts` are those of the members. A closing is done by the stream's own end
pub data Does {P C : Type 0} (hosts : List (List ℕ)) (homed : P → Type 0) (worn : Type 0) : Job → List Step → List LinkCall → List (Handed (Part P C)) → Option WorkEnd → Type 0 where
  called : (call member ticket : ℕ) (request : Request) (steps : List Step) (calls : List LinkCall) (end : Option WorkEnd)
      → CallDoes worn (host_of hosts member) call member request steps calls end
      → Does hosts homed worn (Call call member ticket request) steps calls [] end
  begun : (stream member : ℕ) (request : Request) (steps : List Step) (handed : List (Handed (Part P C))) (end : Option WorkEnd)
      → BeginDoes worn (host_of hosts member) homed stream member request steps handed end
      → Does hosts homed worn (Begin stream member request) steps [] handed end
  closed : (stream : ℕ) → Does hosts homed worn (Close stream) [] [] [] None

-- ---- what is due

-- the end by a fault of a step, or of a rest
abbrev pub ended_by : TurnFault → WorkEnd
ended_by (turn.Core step.NoMemory) = how.NoMemory
ended_by _ = how.Worn

-- nothing was due so often, and each time it rested. `rests` are the events that a rest may step on
pub data Idles (rests : CoreEvent → Type 0) : List Step → Type 0 where
  none : Idles rests []
  more : (steps : List Step) (now : ℕ) (rested : List Step) → Idles rests steps → Every (λ e. rests e.event) rested
      → Idles rests (steps ++ (entry_of Work now (Ok (Due None)) ∷ rested))

-- what is due is drawn, once something is; or nothing is drawn any more
pub data Draws (rests : CoreEvent → Type 0) (worn : Type 0) : List Step → Result Job WorkEnd → Type 0 where
  drew : (idle : List Step) (now : ℕ) (job : Job) → Idles rests idle
      → Draws rests worn (idle ++ (entry_of Work now (Ok (Due (Some job))) ∷ [])) (Ok job)
  restless : (idle : List Step) (now : ℕ) (rested : List Step) (why : TurnFault) → Idles rests idle → Every (λ e. rests e.event) rested
      → IsOfRest why → (IsTrue (is_late why) → worn)
      → Draws rests worn (idle ++ (entry_of Work now (Ok (Due None)) ∷ rested)) (Err (ended_by why))
  spent : (idle : List Step) (now : ℕ) → Idles rests idle
      → Draws rests worn (idle ++ (entry_of Work now (Err step.Worn) ∷ [])) (Err how.Worn)
  full : (idle : List Step) (now : ℕ) → Idles rests idle
      → Draws rests worn (idle ++ (entry_of Work now (Err step.NoMemory) ∷ [])) (Err how.NoMemory)
  late : (idle : List Step) → Idles rests idle → worn → Draws rests worn idle (Err how.Worn)

-- ---- all of them

-- so many jobs were drawn and done, and it goes on
pub data Working {P C : Type 0} (hosts : List (List ℕ)) (homed : P → Type 0) (rests : CoreEvent → Type 0) (worn : Type 0) : ℕ → List Step → List LinkCall → List (Handed (Part P C)) → Type 0 where
  begin : Working hosts homed rests worn 0 [] [] []
  more : (jobs : ℕ) (steps : List Step) (calls : List LinkCall) (handed : List (Handed (Part P C))) (job : Job) (drawn steps' : List Step)
      (calls' : List LinkCall) (handed' : List (Handed (Part P C))) → Working hosts homed rests worn jobs steps calls handed
      → Draws rests worn drawn (Ok job) → Does hosts homed worn job steps' calls' handed' None
      → Working hosts homed rests worn (jobs + 1) (steps ++ (drawn ++ steps')) (calls ++ calls') (handed ++ handed')

-- a worker's turns, so many at the most
pub data Works {P C : Type 0} (hosts : List (List ℕ)) (homed : P → Type 0) (rests : CoreEvent → Type 0) (worn : Type 0) (turns : ℕ) : List Step → List LinkCall → List (Handed (Part P C)) → WorkEnd → Type 0 where
  turned : (steps : List Step) (calls : List LinkCall) (handed : List (Handed (Part P C))) → Working hosts homed rests worn turns steps calls handed
      → Works hosts homed rests worn turns steps calls handed how.Turns
  undrawn : (jobs : ℕ) (steps : List Step) (calls : List LinkCall) (handed : List (Handed (Part P C))) (drawn : List Step) (end : WorkEnd)
      → jobs < turns → Working hosts homed rests worn jobs steps calls handed → Draws rests worn drawn (Err end)
      → Works hosts homed rests worn turns (steps ++ drawn) calls handed end
  stopped : (jobs : ℕ) (steps : List Step) (calls : List LinkCall) (handed : List (Handed (Part P C))) (job : Job) (drawn steps' : List Step)
      (calls' : List LinkCall) (handed' : List (Handed (Part P C))) (end : WorkEnd) → jobs < turns
      → Working hosts homed rests worn jobs steps calls handed → Draws rests worn drawn (Ok job)
      → Does hosts homed worn job steps' calls' handed' (Some end)
      → Works hosts homed rests worn turns (steps ++ (drawn ++ steps')) (calls ++ calls') (handed ++ handed') end

-- ---- causes

-- the spawner's count rose, where a part wasn't started
abbrev pub IsRefused : {Q : Type 0} → ℕ → ℕ → Handed Q → Type 0
IsRefused earlier later h = h.started ≡ false → Rose earlier later

-- ---- what is told of it

-- these parts were handed to a spawner between two moments, each refusal with its cause
pub record OnSpawner {Q : Type 0} (old new : Option (List (Handed Q))) (faults faults' : ℕ) (handed : List (Handed Q)) : Type 0 where
  pub told : Tells old new handed
  pub kept : faults ≤ faults'
  pub caused : Every (IsRefused faults faults') handed

-- what a turn, a link and a spawner tell at a moment, and how often the latter two have failed
pub record Ledger (Q : Type 0) : Type 0 where
  pub made : Option (List Step)
  pub calls : Option (List LinkCall)
  pub handed : Option (List (Handed Q))
  pub link_faults : ℕ
  pub spawner_faults : ℕ

abbrev pub ledger : {Q : Type 0} → Option (List Step) → Option (List LinkCall) → Option (List (Handed Q)) → ℕ → ℕ → Ledger Q
ledger made calls handed link_faults spawner_faults =
    record { made = made; calls = calls; handed = handed; link_faults = link_faults; spawner_faults = spawner_faults }

-- these steps, calls and parts came between two moments
pub record Between {Q : Type 0} (before after : Ledger Q) (steps : List Step) (calls : List LinkCall) (handed : List (Handed Q)) : Type 0 where
  pub made : Adds before.made after.made steps
  pub link : OnLink before.calls after.calls before.link_faults after.link_faults calls
  pub spawner : OnSpawner before.handed after.handed before.spawner_faults after.spawner_faults handed

-- the place is of this home
abbrev pub IsAt : {P H : Type 0} → (P → H) → H → P → Type 0
IsAt home_of home place = home_of place ≡ home

-- a step was fed between two moments
pub record IsFed (worn : Type 0) (event : CoreEvent) (end : Option WorkEnd) (made made' : Option (List Step)) (result : Option WorkEnd) : Type 0 where
  pub steps : List Step
  pub fed : Fed worn event end steps result
  pub adds : Adds made made' steps

-- the answer to a call was fed
pub record IsReported (worn : Type 0) (call : ℕ) (answer : Answer) (made made' : Option (List Step)) (result : Option WorkEnd) : Type 0 where
  pub steps : List Step
  pub reports : Reports worn call answer steps result
  pub adds : Adds made made' steps

-- a call was made, and its answer or its loss fed
pub record IsCallMade (worn : Type 0) (host : List ℕ) (call member : ℕ) (request : Request) (made made' : Option (List Step)) (told told' : Option (List LinkCall)) (faults faults' : ℕ) (result : Option WorkEnd) : Type 0 where
  pub steps : List Step
  pub calls : List LinkCall
  pub does : CallDoes worn host call member request steps calls result
  pub adds : Adds made made' steps
  pub link : OnLink told told' faults faults' calls

-- a stream was handed over, or is cut
pub record IsHandedOver {P C : Type 0} (worn : Type 0) (host : List ℕ) (homed : P → Type 0) (stream member : ℕ) (request : Request) (made made' : Option (List Step)) (told told' : Option (List (Handed (Part P C)))) (faults faults' : ℕ) (result : Option WorkEnd) : Type 0 where
  pub steps : List Step
  pub handed : List (Handed (Part P C))
  pub does : BeginDoes worn host homed stream member request steps handed result
  pub adds : Adds made made' steps
  pub spawner : OnSpawner told told' faults faults' handed

-- what is due was drawn, or nothing is any more
pub record IsDrawn (rests : CoreEvent → Type 0) (worn : Type 0) (made made' : Option (List Step)) (result : Result Job WorkEnd) : Type 0 where
  pub steps : List Step
  pub draws : Draws rests worn steps result
  pub adds : Adds made made' steps

-- nothing was due so far
pub record IsIdle (rests : CoreEvent → Type 0) (made made' : Option (List Step)) : Type 0 where
  pub steps : List Step
  pub idles : Idles rests steps
  pub adds : Adds made made' steps

-- a job was done
pub record IsDone {P C : Type 0} (hosts : List (List ℕ)) (homed : P → Type 0) (worn : Type 0) (job : Job) (before after : Ledger (Part P C)) (end : Option WorkEnd) : Type 0 where
  pub steps : List Step
  pub calls : List LinkCall
  pub handed : List (Handed (Part P C))
  pub does : Does hosts homed worn job steps calls handed end
  pub between : Between before after steps calls handed

-- a worker's turns were made
pub record IsWorked {P C : Type 0} (hosts : List (List ℕ)) (homed : P → Type 0) (rests : CoreEvent → Type 0) (worn : Type 0) (turns : ℕ) (before after : Ledger (Part P C)) (end : WorkEnd) : Type 0 where
  pub steps : List Step
  pub calls : List LinkCall
  pub handed : List (Handed (Part P C))
  pub works : Works hosts homed rests worn turns steps calls handed end
  pub between : Between before after steps calls handed

-- so many of them were made so far
pub record IsWorking {P C : Type 0} (hosts : List (List ℕ)) (homed : P → Type 0) (rests : CoreEvent → Type 0) (worn : Type 0) (jobs : ℕ) (before after : Ledger (Part P C)) : Type 0 where
  pub steps : List Step
  pub calls : List LinkCall
  pub handed : List (Handed (Part P C))
  pub working : Working hosts homed rests worn jobs steps calls handed
  pub between : Between before after steps calls handed
