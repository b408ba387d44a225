-- A member was asked by a call, or for want of memory it wasn't.
use Rattle.std.proofs.Common.{◌≡◌, ℕ, List, Option, Result, Err, refl, subst}
use Rattle.etcd_types.specs.declared.request.Request.{Request}
use Rattle.etcd_types.specs.declared.answer.Answer.{Answer}
use Rattle.outside.specs.Calls.{LinkCall}
use Rattle.outside.specs.declared.link.CallKind.TheVariants as kind
use Rattle.server_model.specs.Calls.{IsCalled}
use Rattle.server_model.specs.declared.fault.CallFault.{CallFault}
use Rattle.server_model.specs.declared.fault.CallFault.TheVariants as fault
use Rattle.server_model.proofs.Hears.{not_called}
use Rattle.member_asks.specs.Asking.{Asks, asking, told_by}
use Rattle.member_asks.specs.declared.call.AskFault.{AskFault}
use Rattle.member_asks.specs.declared.call.AskFault.TheVariants as ask
use Rattle.member_asks.specs.declared.standing.Standing.{Standing}

pub was_asked : (host : List ℕ) (member : ℕ) (old new : Option (List LinkCall)) (n m : ℕ) (request : Request) (answer : Result Answer CallFault) (result : Result Standing AskFault)
    → request ≡ asking → IsCalled host member kind.Asks request old new n m answer → result ≡ told_by answer → Asks host member old new n m result
was_asked host member old new n m request answer result e called told =
    record { answer = answer; called = subst (λ (r : Request). IsCalled host member kind.Asks r old new n m answer) e called; told = told }

pub not_asked : (host : List ℕ) (member : ℕ) (old : Option (List LinkCall)) (n : ℕ) → Asks host member old old n n (Err ask.NoMemory)
not_asked host member old n = record { answer = Err fault.NoMemory; called = not_called host member kind.Asks asking old n; told = refl }
