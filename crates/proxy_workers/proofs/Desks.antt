-- What a worker works with stays the same, and what was done for a job while a part of it was left alone.
use Rattle.std.proofs.Common.{◌≡◌, ℕ, List, Option, refl, sym, subst}
use Rattle.outside.specs.Calls.{LinkCall, Handed}
use Rattle.outside.specs.declared.parts.Part.{Part}
use Rattle.etcd_types.specs.declared.request.Request.{Request}
use Rattle.core_model.specs.declared.event.Job.{Job}
use Rattle.core_model.specs.declared.event.Job.TheVariants.{Call, Begin}
use Rattle.server_model.specs.Steps.{Step}
use Rattle.server_model.specs.Working.{IsCallMade, IsDone, IsHandedOver, host_of, ledger}
use Rattle.server_model.specs.declared.ends.WorkEnd.{WorkEnd}
use Rattle.server_model.proofs.Works.{did_begin, did_call}
use Rattle.proxy_workers.specs.declared.desk.Desk.{Desk}
use Rattle.proxy_workers.specs.Desks.{IsSame}

module _ {T C L P : Type 0} where
  pub same_itself : (a : Desk T C L P) → IsSame a a
  same_itself a = record { turn = refl; clock = refl; link = refl; spawner = refl }

-- a call was made, and the spawner left alone
pub called_at : {P C S : Type 0} (handed : S → Option (List (Handed (Part P C)))) (faults : S → ℕ) (hosts : List (List ℕ)) (homed : P → Type 0) (worn : Type 0) (host : List ℕ) (call member ticket : ℕ)
    (request : Request) (job : Job) (end : Option WorkEnd) (a b : Option (List Step)) (told told' : Option (List LinkCall)) (n m : ℕ) (old new : S) → job ≡ Call call member ticket request → new ≡ old
    → host ≡ host_of hosts member → IsCallMade worn host call member request a b told told' n m end
    → IsDone hosts homed worn job (ledger a told (handed old) n (faults old)) (ledger b told' (handed new) m (faults new)) end
called_at handed faults hosts homed worn host call member ticket request job end a b told told' n m old new is same of made =
    subst (λ (s : _). IsDone hosts homed worn job (ledger a told (handed old) n (faults old)) (ledger b told' (handed s) m (faults s)) end) (sym same)
    (subst (λ (j : Job). IsDone hosts homed worn j (ledger a told (handed old) n (faults old)) (ledger b told' (handed old) m (faults old)) end) (sym is)
    (did_call hosts homed worn host call member ticket request end a b told told' (handed old) n m (faults old) of made))

-- a stream was handed over, or is cut, and the link left alone
pub begun_at : {P C K : Type 0} (calls : K → Option (List LinkCall)) (faults : K → ℕ) (hosts : List (List ℕ)) (homed : P → Type 0) (worn : Type 0) (host : List ℕ) (stream member : ℕ)
    (request : Request) (job : Job) (end : Option WorkEnd) (a b : Option (List Step)) (given given' : Option (List (Handed (Part P C)))) (n m : ℕ) (old new : K) → job ≡ Begin stream member request → new ≡ old
    → host ≡ host_of hosts member → IsHandedOver {P = P} {C = C} worn host homed stream member request a b given given' n m end
    → IsDone hosts homed worn job (ledger a (calls old) given (faults old) n) (ledger b (calls new) given' (faults new) m) end
begun_at {P} {C} calls faults hosts homed worn host stream member request job end a b given given' n m old new is same of over =
    subst (λ (k : _). IsDone hosts homed worn job (ledger a (calls old) given (faults old) n) (ledger b (calls k) given' (faults k) m) end) (sym same)
    (subst (λ (j : Job). IsDone hosts homed worn j (ledger a (calls old) given (faults old) n) (ledger b (calls old) given' (faults old) m) end) (sym is)
    (did_begin hosts homed worn host stream member request end a b (calls old) given given' (faults old) n m of over))
