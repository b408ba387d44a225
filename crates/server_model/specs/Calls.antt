-- One call of a proxy to a member: the bytes that are sent, what its answer says, and how far that was read. The call is a request of
-- etcd's JSON gateway over HTTP/1.1 (RFC 9112), whose section 9.3 says when a connection may carry another one.
use Rattle.std.specs.Prelude.{◌≡◌, ℕ, ◌≤◌, Bool, true, false, not, ◌&&◌, List, [], ◌∷◌, ◌++◌, Option, None, Some, Result, Ok, Err, IsTrue, if◌then◌else◌, nat_le, ⊤}
use Rattle.outside.specs.Calls.{Adds, LinkCall, Begun, Ended}
use Rattle.outside.specs.Faults.{Rose}
use Rattle.outside.specs.declared.link.AnswerEnd.{AnswerEnd}
use Rattle.outside.specs.declared.link.AnswerEnd.TheVariants.{Whole, Broken}
use Rattle.outside.specs.declared.link.CallKind.{CallKind}
use Rattle.outside.specs.declared.link.LinkFault.{LinkFault}
use Rattle.outside.specs.declared.link.LinkFault.TheVariants as link
use Rattle.outside.specs.declared.link.TheConstants.{CALL_LIMIT}
use Rattle.etcd_types.specs.Keys.{is_empty}
use Rattle.etcd_types.specs.declared.request.Request.{Request}
use Rattle.etcd_types.specs.declared.answer.Answer.{Answer}
use Rattle.etcd_types.specs.declared.answer.Answer.TheVariants.{Done, Refused}
use Rattle.json_model.specs.Answers.{answer_of}
use Rattle.json_model.specs.Paths.{path_text}
use Rattle.json_model.specs.WrittenRequests.{request_path, request_text}
use Rattle.json_model.specs.declared.fault.NotReply.{NotReply}
use Rattle.json_model.specs.declared.fault.NotReply.TheVariants as reply
use Rattle.http_wire.specs.Bodies.{WholeRead, is_of_bytes}
use Rattle.http_wire.specs.Heads.{AnswerRead}
use Rattle.http_wire.specs.Written.{call, kept_call}
use Rattle.http_wire.specs.declared.fault.WireFault.{WireFault}
use Rattle.http_wire.specs.declared.fault.WireFault.TheVariants as wire
use Rattle.http_wire.specs.declared.message.AnswerHead.{AnswerHead}
use Rattle.http_wire.specs.declared.message.Framing.{Framing}
use Rattle.http_wire.specs.declared.message.Framing.TheVariants.{ToEnd}
use Rattle.core_model.specs.Heard.{is_known}
use Rattle.server_model.specs.Steps.{Every}
use Rattle.server_model.specs.declared.fault.CallFault.{CallFault}
use Rattle.server_model.specs.declared.fault.CallFault.TheVariants as fault

-- ---- what is sent

-- the bytes of a request's call to a host, behind whose answer the connection may stay
abbrev pub kept_call_of : List ℕ → Request → List ℕ
kept_call_of host request = kept_call host (path_text (request_path request)) (request_text request)

-- the same for a connection that it asks to be closed behind it
abbrev pub call_of : List ℕ → Request → List ℕ
call_of host request = call host (path_text (request_path request)) (request_text request)

-- ---- what a whole answer says

-- a reply, or a refusal by a code that says that nothing was done
abbrev pub tells : Answer → Bool
tells (Done reply) = true
tells (Refused refusal) = is_known refusal.code

-- no reply to the request, or a refusal by another code: it doesn't say what became of the call
abbrev pub IsUnclear : Result Answer NotReply → Type 0
IsUnclear (Ok answer) = tells answer ≡ false
IsUnclear (Err reply.Unreadable) = ⊤
IsUnclear (Err reply.NoMemory) = ⊥

-- what an answer of this status and body says to a request
abbrev pub Says : Request → ℕ → List ℕ → Result Answer CallFault → Type 0
Says request status body (Ok answer) = (answer_of request status body ≡ Ok answer) × (tells answer ≡ true)
Says request status body (Err fault.Lost) = IsUnclear (answer_of request status body)
Says request status body (Err fault.NoMemory) = ⊤

-- ---- how far it was read

abbrev pub is_to_end : Framing → Bool
is_to_end ToEnd = true
is_to_end _ = false

-- behind such an answer its connection may carry another call: it has an end of its own, and asks for none of the connection's. One
-- with a status below 200 is an interim one, behind which the answer itself is still to come
abbrev pub lasts : AnswerHead → Bool
lasts head = not head.closes && nat_le 200 head.status && not (is_to_end head.framing)

-- how an answer with this head ended that was read whole, by whether nothing was read beyond it
abbrev pub end_of : AnswerHead → Bool → AnswerEnd
end_of head is_clear = if lasts head && is_clear then Whole else Broken

-- an answer with this head and body is the front of the bytes, of which these are left, and so it ended
pub record IsRead (all left : List ℕ) (head : AnswerHead) (body : List ℕ) (how : AnswerEnd) : Type 0 where
  pub mid : List ℕ
  pub beyond : List ℕ
  pub opened : AnswerRead all mid (Ok head)
  pub whole : WholeRead CALL_LIMIT head.framing mid (beyond ++ left) (Ok body)
  pub ended : how ≡ end_of head (is_empty beyond)

-- what was heard of an answer, by its bytes, those that are left, and how often reading it failed: it was read whole; it has no head,
-- or no body; a read failed; or memory was wanting
pub data Hears (request : Request) (all left : List ℕ) (count : ℕ) : AnswerEnd → Result Answer CallFault → Type 0 where
  whole : (head : AnswerHead) (body : List ℕ) (how : AnswerEnd) (result : Result Answer CallFault) → IsRead all left head body how
      → Says request head.status body result → Hears request all left count how result
  headless : (bad : WireFault) (rest : List ℕ) → IsTrue (is_of_bytes bad) → AnswerRead all rest (Err bad)
      → Hears request all left count Broken (Err fault.Lost)
  bodiless : (bad : WireFault) (head : AnswerHead) (mid rest : List ℕ) → IsTrue (is_of_bytes bad) → AnswerRead all mid (Ok head)
      → WholeRead CALL_LIMIT head.framing mid rest (Err bad) → Hears request all left count Broken (Err fault.Lost)
  failed : Rose 0 count → Hears request all left count Broken (Err fault.Lost)
  wanting : Hears request all left count Broken (Err fault.NoMemory)

-- the same of an answer that had these bytes to give, where they are told
abbrev pub Heard : Request → Option (List ℕ) → Option (List ℕ) → ℕ → AnswerEnd → Result Answer CallFault → Type 0
Heard request None left count how result = ⊤
Heard request (Some all) None count how result = ⊥
Heard request (Some all) (Some left) count how result = Hears request all left count how result

-- what a fault of the wire over an answer says
abbrev pub lost_by : WireFault → CallFault
lost_by wire.WriteFault = fault.NoMemory
lost_by wire.NoMemory = fault.NoMemory
lost_by _ = fault.Lost

-- what a link's failure says of its call
abbrev pub lost_on : LinkFault → CallFault
lost_on link.Failed = fault.Lost
lost_on link.NoMemory = fault.NoMemory

-- ---- the call on the link

-- a call of a request on a link, and what came of it
abbrev pub begun : List ℕ → ℕ → CallKind → Request → Result (Option (List ℕ)) LinkFault → LinkCall
begun host member kind request came = Begun member kind (kept_call_of host request) came

-- A request is called once: its answer was heard and given back; the link failed, or had no memory; or for want of memory there was no
-- call.
pub data Calls (host : List ℕ) (member : ℕ) (kind : CallKind) (request : Request) : List LinkCall → Result Answer CallFault → Type 0 where
  exchanged : (had left : Option (List ℕ)) (count : ℕ) (how : AnswerEnd) (result : Result Answer CallFault)
      → Heard request had left count how result
      → Calls host member kind request (begun host member kind request (Ok had) ∷ Ended left count how ∷ []) result
  failed : Calls host member kind request (begun host member kind request (Err link.Failed) ∷ []) (Err fault.Lost)
  unbegun : Calls host member kind request (begun host member kind request (Err link.NoMemory) ∷ []) (Err fault.NoMemory)
  unsent : Calls host member kind request [] (Err fault.NoMemory)

-- the link's count rose, where the link failed
abbrev pub IsCaused : ℕ → ℕ → LinkCall → Type 0
IsCaused earlier later (Begun member kind bytes (Err link.Failed)) = Rose earlier later
IsCaused earlier later _ = ⊤

-- these calls came on a link between two moments, each failure with its cause
pub record OnLink (old new : Option (List LinkCall)) (faults faults' : ℕ) (calls : List LinkCall) : Type 0 where
  pub told : Adds old new calls
  pub kept : faults ≤ faults'
  pub caused : Every (IsCaused faults faults') calls

-- a request was called between two moments
pub record IsCalled (host : List ℕ) (member : ℕ) (kind : CallKind) (request : Request) (old new : Option (List LinkCall)) (faults faults' : ℕ) (result : Result Answer CallFault) : Type 0 where
  pub calls : List LinkCall
  pub called : Calls host member kind request calls result
  pub link : OnLink old new faults faults' calls
