-- What ended by a worn machine did so at any later moment, since a machine stays worn.
use Rattle.std.proofs.Common.{ℕ, List, Option, Result, Ok, Err, None, Some}
use Rattle.outside.specs.Calls.{LinkCall, Handed}
use Rattle.outside.specs.declared.parts.Part.{Part}
use Rattle.etcd_types.specs.declared.answer.Answer.{Answer}
use Rattle.etcd_types.specs.declared.request.Request.{Request}
use Rattle.core_model.specs.declared.event.CoreEvent.{CoreEvent}
use Rattle.core_model.specs.declared.event.Job.{Job}
use Rattle.server_model.specs.Steps.{Step}
use Rattle.server_model.specs.declared.ends.WorkEnd.{WorkEnd}
use Rattle.server_model.specs.Working.{Fed, Reports, CallDoes, BeginDoes, Does, Draws, Working, Works, Ledger, IsWorked}

fed_late : {v w : Type 0} (event : CoreEvent) (end result : Option WorkEnd) (steps : List Step) → (v → w) → Fed v event end steps result → Fed w event end steps result
fed_late event end _ _ f (Fed.stepped now given) = Fed.stepped now given
fed_late event end _ _ f (Fed.late l) = Fed.late (f l)

reports_late : {v w : Type 0} (call : ℕ) (answer : Answer) (end : Option WorkEnd) (steps : List Step) → (v → w) → Reports v call answer steps end → Reports w call answer steps end
reports_late call answer _ _ f (Reports.taken now given n) = Reports.taken now given n
reports_late call answer _ _ f (Reports.full now steps end l) = Reports.full now steps end (fed_late _ _ end steps f l)
reports_late call answer _ _ f (Reports.late l) = Reports.late (f l)

call_late : {v w : Type 0} (host : List ℕ) (call member : ℕ) (request : Request) (steps : List Step) (calls : List LinkCall) (end : Option WorkEnd) → (v → w)
    → CallDoes v host call member request steps calls end → CallDoes w host call member request steps calls end
call_late host call member request _ _ _ f (CallDoes.answered answer steps calls end c r) = CallDoes.answered answer steps calls end c (reports_late call answer end steps f r)
call_late host call member request _ _ _ f (CallDoes.unanswered why steps calls end c r) = CallDoes.unanswered why steps calls end c (fed_late _ _ end steps f r)

begin_late : {P C v w : Type 0} (host : List ℕ) (homed : P → Type 0) (stream member : ℕ) (request : Request) (steps : List Step) (handed : List (Handed (Part P C))) (end : Option WorkEnd)
    → (v → w) → BeginDoes v host homed stream member request steps handed end → BeginDoes w host homed stream member request steps handed end
begin_late host homed stream member request _ _ _ f (BeginDoes.begun place h) = BeginDoes.begun place h
begin_late host homed stream member request _ _ _ f (BeginDoes.refused place steps end h r) = BeginDoes.refused place steps end h (fed_late _ _ end steps f r)
begin_late host homed stream member request _ _ _ f (BeginDoes.unsent steps end r) = BeginDoes.unsent steps end (fed_late _ _ end steps f r)

does_late : {P C v w : Type 0} (hosts : List (List ℕ)) (homed : P → Type 0) (job : Job) (steps : List Step) (calls : List LinkCall) (handed : List (Handed (Part P C))) (end : Option WorkEnd)
    → (v → w) → Does hosts homed v job steps calls handed end → Does hosts homed w job steps calls handed end
does_late hosts homed _ _ _ _ _ f (Does.called call member ticket request steps calls end c) = Does.called call member ticket request steps calls end (call_late _ call member request steps calls end f c)
does_late hosts homed _ _ _ _ _ f (Does.begun stream member request steps handed end b) = Does.begun stream member request steps handed end (begin_late _ homed stream member request steps handed end f b)
does_late hosts homed _ _ _ _ _ f (Does.closed stream) = Does.closed stream

draws_late : {v w : Type 0} (rests : CoreEvent → Type 0) (steps : List Step) (result : Result Job WorkEnd) → (v → w) → Draws rests v steps result → Draws rests w steps result
draws_late rests _ _ f (Draws.drew idle now job i) = Draws.drew idle now job i
draws_late rests _ _ f (Draws.restless idle now rested why i e o l) = Draws.restless idle now rested why i e o (λ x. f (l x))
draws_late rests _ _ f (Draws.spent idle now i) = Draws.spent idle now i
draws_late rests _ _ f (Draws.full idle now i) = Draws.full idle now i
draws_late rests _ _ f (Draws.late idle i l) = Draws.late idle i (f l)

pub working_late : {P C v w : Type 0} (hosts : List (List ℕ)) (homed : P → Type 0) (rests : CoreEvent → Type 0) (jobs : ℕ) (steps : List Step) (calls : List LinkCall) (handed : List (Handed (Part P C)))
    → (v → w) → Working hosts homed rests v jobs steps calls handed → Working hosts homed rests w jobs steps calls handed
working_late hosts homed rests _ _ _ _ f Working.begin = Working.begin
working_late hosts homed rests _ _ _ _ f (Working.more jobs steps calls handed job drawn steps' calls' handed' w d j) =
    Working.more jobs steps calls handed job drawn steps' calls' handed' (working_late hosts homed rests jobs steps calls handed f w) (draws_late rests drawn (Ok job) f d)
    (does_late hosts homed job steps' calls' handed' None f j)

works_late : {P C v w : Type 0} (hosts : List (List ℕ)) (homed : P → Type 0) (rests : CoreEvent → Type 0) (turns : ℕ) (steps : List Step) (calls : List LinkCall) (handed : List (Handed (Part P C)))
    (end : WorkEnd) → (v → w) → Works hosts homed rests v turns steps calls handed end → Works hosts homed rests w turns steps calls handed end
works_late hosts homed rests turns _ _ _ _ f (Works.turned steps calls handed w) = Works.turned steps calls handed (working_late hosts homed rests turns steps calls handed f w)
works_late hosts homed rests turns _ _ _ _ f (Works.undrawn jobs steps calls handed drawn end lt w d) =
    Works.undrawn jobs steps calls handed drawn end lt (working_late hosts homed rests jobs steps calls handed f w) (draws_late rests drawn (Err end) f d)
works_late hosts homed rests turns _ _ _ _ f (Works.stopped jobs steps calls handed job drawn steps' calls' handed' end lt w d j) =
    Works.stopped jobs steps calls handed job drawn steps' calls' handed' end lt (working_late hosts homed rests jobs steps calls handed f w) (draws_late rests drawn (Ok job) f d)
    (does_late hosts homed job steps' calls' handed' (Some end) f j)

pub worked_late : {P C v w : Type 0} (hosts : List (List ℕ)) (homed : P → Type 0) (rests : CoreEvent → Type 0) (turns : ℕ) (a b : Ledger (Part P C)) (end : WorkEnd) → (v → w)
    → IsWorked hosts homed rests v turns a b end → IsWorked hosts homed rests w turns a b end
worked_late hosts homed rests turns a b end f w =
    record { steps = w.steps; calls = w.calls; handed = w.handed; works = works_late hosts homed rests turns w.steps w.calls w.handed end f w.works; between = w.between }

pub drawn_late : {v w : Type 0} (rests : CoreEvent → Type 0) (steps : List Step) (job : Job) → (v → w) → Draws rests v steps (Ok job) → Draws rests w steps (Ok job)
drawn_late rests steps job f d = draws_late rests steps (Ok job) f d
