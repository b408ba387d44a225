-- A call of a client that is passed on to a member: for the status of that member (etcd API reference, service Maintenance, Status), which
-- changes nothing. The body of the call and the answer are passed on as they come.
use Rattle.std.specs.Prelude.{◌≡◌, ℕ, List, [], ◌∷◌, Option, None, Some, IfSome, Result, Ok, Err, codes, ⊤}
use Rattle.outside.specs.Calls.{Adds, LinkCall, Begun, Ended}
use Rattle.outside.specs.declared.link.AnswerEnd.TheVariants.{Broken}
use Rattle.outside.specs.declared.link.CallKind.TheVariants.{Asks}
use Rattle.outside.specs.declared.link.LinkFault.{LinkFault}
use Rattle.http_wire.specs.Bodies.{WholeRead}
use Rattle.http_wire.specs.Heads.{AnswerRead}
use Rattle.http_wire.specs.Written.{call}
use Rattle.http_wire.specs.declared.message.AnswerHead.{AnswerHead}
use Rattle.member_asks.specs.declared.call.AskFault.{AskFault}
use Rattle.member_asks.specs.declared.call.AskFault.TheVariants.{NoMemory}
use Rattle.member_asks.specs.declared.pass.Passed.{Passed}
use Rattle.member_asks.specs.declared.pass.TheConstants.{STATUS_LIMIT}

-- its bytes, behind whose answer the connection is closed
abbrev pub status_call : List ℕ → List ℕ → List ℕ
status_call host body = call host (codes "/v3/maintenance/status") body

-- an answer with this status and this body is the front of the bytes
abbrev pub IsAnswer : ℕ → List ℕ → List ℕ → Type 0
IsAnswer status body all =
    (head : AnswerHead) × (mid : List ℕ) × (rest : List ℕ) × AnswerRead all mid (Ok head) × WholeRead STATUS_LIMIT head.framing mid rest (Ok body) × (status ≡ head.status)

-- where they are told
abbrev pub Reads : Option (List ℕ) → ℕ → List ℕ → Type 0
Reads had status body = IfSome had (IsAnswer status body)

-- the call was made once, and what came of it: its answer was read, or it wasn't; or the link has none to it; or it wasn't made
pub data Calls (host : List ℕ) (member : ℕ) (body : List ℕ) : List LinkCall → Result Passed AskFault → Type 0 where
  answered : (had left : Option (List ℕ)) (count : ℕ) (passed : Passed) → Reads had passed.status passed.body
      → Calls host member body (Begun member Asks (status_call host body) (Ok had) ∷ Ended left count Broken ∷ []) (Ok passed)
  unheard : (had left : Option (List ℕ)) (count : ℕ) (fault : AskFault)
      → Calls host member body (Begun member Asks (status_call host body) (Ok had) ∷ Ended left count Broken ∷ []) (Err fault)
  unbegun : (why : LinkFault) (fault : AskFault) → Calls host member body (Begun member Asks (status_call host body) (Err why) ∷ []) (Err fault)
  unsent : Calls host member body [] (Err NoMemory)

-- these calls came on a link between two moments
pub record Passes (host : List ℕ) (member : ℕ) (body : List ℕ) (made made' : Option (List LinkCall)) (result : Result Passed AskFault) : Type 0 where
  pub calls : List LinkCall
  pub called : Calls host member body calls result
  pub told : Adds made made' calls
