-- A call for a member's status, and what was read of its answer.
use Rattle.std.proofs.Common.{◌≡◌, ℕ, List, [], ◌∷◌, ◌++◌, Option, None, Some, Result, Ok, Err, IfOk, refl, subst}
use Rattle.outside.specs.Calls.{Adds, LinkCall, Begun, Ended}
use Rattle.outside.specs.declared.link.AnswerEnd.TheVariants.{Broken}
use Rattle.outside.specs.declared.link.CallKind.TheVariants.{Asks}
use Rattle.outside.specs.declared.link.LinkFault.{LinkFault}
use Rattle.http_wire.specs.Bodies.{WholeRead}
use Rattle.http_wire.specs.Connections.{WireState, bytes_ahead}
use Rattle.http_wire.specs.Heads.{AnswerRead}
use Rattle.http_wire.specs.Held.{ReadsAhead}
use Rattle.http_wire.specs.declared.message.AnswerHead.{AnswerHead}
use Rattle.server_model.proofs.Links.{tells_then, tells_none}
use Rattle.member_asks.specs.Passing as passing
use Rattle.member_asks.specs.Passing.{Passes, Reads, status_call}
use Rattle.member_asks.specs.declared.call.AskFault.{AskFault}
use Rattle.member_asks.specs.declared.call.AskFault.TheVariants.{NoMemory}
use Rattle.member_asks.specs.declared.pass.Passed.{Passed}
use Rattle.member_asks.specs.declared.pass.TheConstants.{STATUS_LIMIT}

-- a new wire read a head, and then a whole body
pub read_whole : (left mid after : Option (List ℕ)) (w w' : WireState) (head : AnswerHead) (body : List ℕ) → w.held ≡ [] → ReadsAhead AnswerRead (bytes_ahead left w) mid (Ok head)
    → ReadsAhead (WholeRead STATUS_LIMIT head.framing) mid (bytes_ahead after w') (Ok body) → Reads left head.status body
read_whole None mid after w w' head body h r b = tt
read_whole (Some all) None after w w' head body h r b = absurd r
read_whole (Some all) (Some bytes) None w w' head body h r b = absurd b
read_whole (Some all) (Some bytes) (Some left) w w' head body h r b =
    (head, bytes, w'.held ++ left, subst (λ (held : List ℕ). AnswerRead (held ++ all) bytes (Ok head)) h r, b, refl)

-- for want of memory there was no call
pub not_passed : (host body : List ℕ) (member : ℕ) (made : Option (List LinkCall)) → Passes host member body made made (Err NoMemory)
not_passed host body member made = record { calls = []; called = passing.unsent; told = tells_none made }

-- the link has no answer to it
pub unanswered : (host body bytes : List ℕ) (member : ℕ) (made made' : Option (List LinkCall)) (why : LinkFault) (fault : AskFault) → bytes ≡ status_call host body
    → Adds made made' (Begun member Asks bytes (Err why) ∷ []) → Passes host member body made made' (Err fault)
unanswered host body bytes member made made' why fault e t = record {
  calls = Begun member Asks (status_call host body) (Err why) ∷ [];
  called = passing.unbegun why fault;
  told = subst (λ (x : List ℕ). Adds made made' (Begun member Asks x (Err why) ∷ [])) e t;
}

called : (host body : List ℕ) (member : ℕ) (had left : Option (List ℕ)) (count : ℕ) (result : Result Passed AskFault) → IfOk result (λ (p : Passed). Reads had p.status p.body)
    → passing.Calls host member body (Begun member Asks (status_call host body) (Ok had) ∷ Ended left count Broken ∷ []) result
called host body member had left count (Ok passed) r = passing.answered had left count passed r
called host body member had left count (Err fault) r = passing.unheard had left count fault

-- its answer was read, or wasn't, and given back
pub passed_on : (host body bytes : List ℕ) (member : ℕ) (made mid made' : Option (List LinkCall)) (had left : Option (List ℕ)) (count : ℕ) (result : Result Passed AskFault)
    → bytes ≡ status_call host body → Adds made mid (Begun member Asks bytes (Ok had) ∷ []) → Adds mid made' (Ended left count Broken ∷ [])
    → IfOk result (λ (p : Passed). Reads had p.status p.body) → Passes host member body made made' result
passed_on host body bytes member made mid made' had left count result e b t r =
    let first = Begun member Asks (status_call host body) (Ok had) in record {
      calls = first ∷ Ended left count Broken ∷ [];
      called = called host body member had left count result r;
      told = tells_then made mid made' (first ∷ []) (Ended left count Broken ∷ []) (subst (λ (x : List ℕ). Adds made mid (Begun member Asks x (Ok had) ∷ [])) e b) t;
    }
