-- A worker's turns: each step, each job, and all of them, one after the other.
use Rattle.std.proofs.Common.{◌≡◌, ℕ, ◌+◌, ◌<◌, ◌≤◌, arith, true, false, List, [], ◌∷◌, ◌++◌, Option, None, Some, Result, Ok, Err, IsTrue, refl, sym, subst, append-nil}
use Rattle.outside.specs.Calls.{Adds as Tells, LinkCall, Handed}
use Rattle.outside.specs.Faults.{Rose}
use Rattle.outside.specs.declared.parts.Part.{Part}
use Rattle.etcd_types.specs.declared.answer.Answer.{Answer}
use Rattle.etcd_types.specs.declared.request.Request.{Request}
use Rattle.turn_hub.specs.History.{entry_of}
use Rattle.core_model.specs.declared.event.CoreEvent.{CoreEvent}
use Rattle.core_model.specs.declared.event.CoreEvent.TheVariants.{Answer as Answered, Lost, Cut, Work}
use Rattle.core_model.specs.declared.event.Job.{Job}
use Rattle.core_model.specs.declared.event.Job.TheVariants.{Call, Begin, Close}
use Rattle.core_model.specs.declared.event.Outcome.{Outcome}
use Rattle.core_model.specs.declared.event.Outcome.TheVariants.{Job as Due}
use Rattle.core_model.specs.declared.event.StepFault.{StepFault}
use Rattle.core_model.specs.declared.event.StepFault.TheVariants as step
use Rattle.server_model.specs.declared.fault.TurnFault.{TurnFault}
use Rattle.server_model.specs.declared.fault.TurnFault.TheVariants as turn
use Rattle.server_model.specs.Dialog.{is_worn}
use Rattle.server_model.specs.Steps.{Step, Adds, MadeBy, Rested, Fits, IsOfRest, is_late}
use Rattle.server_model.proofs.Steps.{adds_then, adds_none, every_append}
use Rattle.server_model.specs.declared.ends.WorkEnd.{WorkEnd}
use Rattle.server_model.specs.declared.ends.WorkEnd.TheVariants as how
use Rattle.server_model.specs.declared.fault.CallFault.{CallFault}
use Rattle.server_model.specs.Calls.{IsCalled}
use Rattle.server_model.specs.CallKinds.{kind_of}
use Rattle.server_model.specs.Working.{host_of, is_full, Fed, Reports, lost_end, handed_as, CallDoes, BeginDoes, Does, ended_by, Idles, Draws, Working, Works, IsRefused, OnSpawner, Ledger, ledger, Between, IsAt, IsFed, IsReported, IsCallMade, IsHandedOver, IsDrawn, IsIdle, IsDone, IsWorked, IsWorking}
use Rattle.server_model.proofs.Late.{working_late, drawn_late}
use Rattle.server_model.proofs.Links.{tells_then, tells_none, every_as, link_none, link_then}

-- ---- what is told

refused_wider : {Q : Type 0} (a b c d : ℕ) → a ≤ b → c ≤ d → (h : Handed Q) → IsRefused b c h → IsRefused a d h
refused_wider a b c d p q h r = λ n. let rose = r n in omega (arith, rose)

pub spawner_none : {Q : Type 0} (told : Option (List (Handed Q))) (faults : ℕ) → OnSpawner told told faults faults []
spawner_none told faults = record { told = tells_none told; kept = omega arith; caused = tt }

spawner_then : {Q : Type 0} (a b c : Option (List (Handed Q))) (n m k : ℕ) (handed handed' : List (Handed Q)) → OnSpawner a b n m handed → OnSpawner b c m k handed'
    → OnSpawner a c n k (handed ++ handed')
spawner_then {Q} a b c n m k handed handed' p q = record {
  told = tells_then a b c handed handed' p.told q.told;
  kept = let l = p.kept in let r = q.kept in omega (arith, l, r);
  caused = every_append (IsRefused {Q = Q} n k) handed handed'
      (every_as (IsRefused {Q = Q} n m) (IsRefused {Q = Q} n k) handed (refused_wider n n m k (omega arith) q.kept) p.caused)
      (every_as (IsRefused {Q = Q} m k) (IsRefused {Q = Q} n k) handed' (refused_wider n m k k p.kept (omega arith)) q.caused);
}

between_none : {Q : Type 0} (a : Ledger Q) → Between a a [] [] []
between_none a = record { made = adds_none a.made; link = link_none a.calls a.link_faults; spawner = spawner_none a.handed a.spawner_faults }

between_then : {Q : Type 0} (a b c : Ledger Q) (steps steps' : List Step) (calls calls' : List LinkCall) (handed handed' : List (Handed Q))
    → Between a b steps calls handed → Between b c steps' calls' handed' → Between a c (steps ++ steps') (calls ++ calls') (handed ++ handed')
between_then a b c steps steps' calls calls' handed handed' p q = record {
  made = adds_then a.made b.made c.made steps steps' p.made q.made;
  link = link_then a.calls b.calls c.calls a.link_faults b.link_faults c.link_faults calls calls' p.link q.link;
  spawner = spawner_then a.handed b.handed c.handed a.spawner_faults b.spawner_faults c.spawner_faults handed handed' p.spawner q.spawner;
}

-- ---- one step

pub was_fed : (worn : Type 0) (event : CoreEvent) (now : ℕ) (a b : Option (List Step)) (end : Option WorkEnd) (given : Result Outcome TurnFault) → MadeBy a b event now given
    → is_worn given ≡ false → IsFed worn event end a b end
was_fed worn event now a b end (Ok outcome) m n = record { steps = _; fed = Fed.stepped now (Ok outcome); adds = m }
was_fed worn event now a b end (Err (turn.Core fault)) m n = record { steps = _; fed = Fed.stepped now (Err fault); adds = m }
was_fed worn event now a b end (Err turn.Worn) m n = absurd (cc)

pub was_late : (worn : Type 0) (event : CoreEvent) (now : ℕ) (a b : Option (List Step)) (end : Option WorkEnd) (why : TurnFault) → MadeBy a b event now (Err why)
    → (why ≡ turn.Worn → worn) → is_worn (Err why) ≡ true → IsFed worn event end a b (Some how.Worn)
was_late worn event now a b end turn.Worn m l n = record { steps = []; fed = Fed.late (l refl); adds = m }
was_late worn event now a b end (turn.Core fault) m l n = absurd (cc)

pub reported_late : (worn : Type 0) (call : ℕ) (answer : Answer) (now : ℕ) (a b : Option (List Step)) (why : TurnFault) → MadeBy a b (Answered call answer) now (Err why)
    → (why ≡ turn.Worn → worn) → is_worn (Err why) ≡ true → IsReported worn call answer a b (Some how.Worn)
reported_late worn call answer now a b turn.Worn m l n = record { steps = []; reports = Reports.late (l refl); adds = m }
reported_late worn call answer now a b (turn.Core fault) m l n = absurd (cc)

taken_by : (worn : Type 0) (call : ℕ) (answer : Answer) (now : ℕ) (a b : Option (List Step)) (given : Result Outcome StepFault) → Adds a b (entry_of (Answered call answer) now given ∷ [])
    → (given ≡ Err step.NoMemory → ⊥) → IsReported worn call answer a b None
taken_by worn call answer now a b given m n = record { steps = _; reports = Reports.taken now given n; adds = m }

pub reported : (worn : Type 0) (call : ℕ) (answer : Answer) (now : ℕ) (a b : Option (List Step)) (given : Result Outcome TurnFault) → MadeBy a b (Answered call answer) now given
    → is_worn given ≡ false → is_full given ≡ false → IsReported worn call answer a b None
reported worn call answer now a b (Ok outcome) m n f = taken_by worn call answer now a b (Ok outcome) m (λ e. cc)
reported worn call answer now a b (Err turn.Worn) m n f = absurd (cc)
reported worn call answer now a b (Err (turn.Core step.NoMemory)) m n f = absurd (cc)
reported worn call answer now a b (Err (turn.Core step.Worn)) m n f = taken_by worn call answer now a b (Err step.Worn) m (λ e. cc)
reported worn call answer now a b (Err (turn.Core (step.TicketUsed k))) m n f = taken_by worn call answer now a b (Err (step.TicketUsed k)) m (λ e. cc)
reported worn call answer now a b (Err (turn.Core (step.NoSuchTicket k))) m n f = taken_by worn call answer now a b (Err (step.NoSuchTicket k)) m (λ e. cc)
reported worn call answer now a b (Err (turn.Core (step.NoSuchCall k))) m n f = taken_by worn call answer now a b (Err (step.NoSuchCall k)) m (λ e. cc)
reported worn call answer now a b (Err (turn.Core (step.NoSuchStream k))) m n f = taken_by worn call answer now a b (Err (step.NoSuchStream k)) m (λ e. cc)

pub reported_full : (worn : Type 0) (call : ℕ) (answer : Answer) (now : ℕ) (a b c : Option (List Step)) (given : Result Outcome TurnFault) (end : Option WorkEnd)
    → MadeBy a b (Answered call answer) now given → is_full given ≡ true → IsFed worn (Lost call) (Some how.NoMemory) b c end → IsReported worn call answer a c end
reported_full worn call answer now a b c (Err (turn.Core step.NoMemory)) end m f r =
    let e = entry_of (Answered call answer) now (Err step.NoMemory) in
    record { steps = e ∷ r.steps; reports = Reports.full now r.steps end r.fed; adds = adds_then a b c (e ∷ []) r.steps m r.adds }
reported_full worn call answer now a b c (Ok outcome) end m f r = absurd (cc)
reported_full worn call answer now a b c (Err turn.Worn) end m f r = absurd (cc)
reported_full worn call answer now a b c (Err (turn.Core step.Worn)) end m f r = absurd (cc)
reported_full worn call answer now a b c (Err (turn.Core (step.TicketUsed k))) end m f r = absurd (cc)
reported_full worn call answer now a b c (Err (turn.Core (step.NoSuchTicket k))) end m f r = absurd (cc)
reported_full worn call answer now a b c (Err (turn.Core (step.NoSuchCall k))) end m f r = absurd (cc)
reported_full worn call answer now a b c (Err (turn.Core (step.NoSuchStream k))) end m f r = absurd (cc)

-- ---- a call

pub call_answered : (worn : Type 0) (host : List ℕ) (call member : ℕ) (request : Request) (answer : Answer) (a b : Option (List Step)) (told told' : Option (List LinkCall)) (n m : ℕ)
    (end : Option WorkEnd) → IsCalled host member (kind_of request) request told told' n m (Ok answer) → IsReported worn call answer a b end
    → IsCallMade worn host call member request a b told told' n m end
call_answered worn host call member request answer a b told told' n m end c r =
    record { steps = r.steps; calls = c.calls; does = CallDoes.answered answer r.steps c.calls end c.called r.reports; adds = r.adds; link = c.link }

pub call_unanswered : (worn : Type 0) (host : List ℕ) (call member : ℕ) (request : Request) (why : CallFault) (first end : Option WorkEnd) (a b : Option (List Step))
    (told told' : Option (List LinkCall)) (n m : ℕ) → first ≡ lost_end why → IsCalled host member (kind_of request) request told told' n m (Err why) → IsFed worn (Lost call) first a b end
    → IsCallMade worn host call member request a b told told' n m end
call_unanswered worn host call member request why first end a b told told' n m e c r = record {
  steps = r.steps;
  calls = c.calls;
  does = CallDoes.unanswered why r.steps c.calls end c.called (subst (λ (x : Option WorkEnd). Fed worn (Lost call) x r.steps end) e r.fed);
  adds = r.adds;
  link = c.link;
}

-- ---- a stream

pub not_sent : {P C : Type 0} (worn : Type 0) (host : List ℕ) (homed : P → Type 0) (stream member : ℕ) (request : Request) (end : Option WorkEnd) (a b : Option (List Step))
    (told : Option (List (Handed (Part P C)))) (n : ℕ) → IsFed worn (Cut stream) (Some how.NoMemory) a b end
    → IsHandedOver worn host homed stream member request a b told told n n end
not_sent worn host homed stream member request end a b told n r =
    record { steps = r.steps; handed = []; does = BeginDoes.unsent r.steps end r.fed; adds = r.adds; spawner = spawner_none told n }

pub was_begun : {P C : Type 0} (worn : Type 0) (host : List ℕ) (homed : P → Type 0) (stream member : ℕ) (request : Request) (a b : Option (List Step)) (told told' : Option (List (Handed (Part P C))))
    (n m : ℕ) (place : P) → homed place → b ≡ a → Tells told told' (handed_as host place stream member request true ∷ []) → n ≤ m
    → IsHandedOver worn host homed stream member request a b told told' n m None
was_begun {P} {C} worn host homed stream member request a b told told' n m place h same t le = record {
  steps = [];
  handed = handed_as host place stream member request true ∷ [];
  does = BeginDoes.begun place h;
  adds = subst (λ (x : Option (List Step)). Adds a x []) (sym same) (adds_none a);
  spawner = record { told = t; kept = le; caused = (λ s. absurd (cc), tt) };
}

pub was_refused : {P C : Type 0} (worn : Type 0) (host : List ℕ) (homed : P → Type 0) (stream member : ℕ) (request : Request) (end : Option WorkEnd) (a b : Option (List Step))
    (told told' : Option (List (Handed (Part P C)))) (n m : ℕ) (place : P) → homed place → Tells told told' (handed_as host place stream member request false ∷ []) → n ≤ m → Rose n m
    → IsFed worn (Cut stream) None a b end → IsHandedOver worn host homed stream member request a b told told' n m end
was_refused {P} {C} worn host homed stream member request end a b told told' n m place h t le rose r = record {
  steps = r.steps;
  handed = handed_as host place stream member request false ∷ [];
  does = BeginDoes.refused place r.steps end h r.fed;
  adds = r.adds;
  spawner = record { told = t; kept = le; caused = (λ s. rose, tt) };
}

-- ---- a job

pub did_call : {P C : Type 0} (hosts : List (List ℕ)) (homed : P → Type 0) (worn : Type 0) (host : List ℕ) (call member ticket : ℕ) (request : Request) (end : Option WorkEnd) (a b : Option (List Step))
    (told told' : Option (List LinkCall)) (given : Option (List (Handed (Part P C)))) (n m k : ℕ) → host ≡ host_of hosts member
    → IsCallMade worn host call member request a b told told' n m end
    → IsDone hosts homed worn (Call call member ticket request) (ledger a told given n k) (ledger b told' given m k) end
did_call hosts homed worn host call member ticket request end a b told told' given n m k e c = record {
  steps = c.steps;
  calls = c.calls;
  handed = [];
  does = Does.called call member ticket request c.steps c.calls end (subst (λ (x : List ℕ). CallDoes worn x call member request c.steps c.calls end) e c.does);
  between = record { made = c.adds; link = c.link; spawner = spawner_none given k };
}

pub did_begin : {P C : Type 0} (hosts : List (List ℕ)) (homed : P → Type 0) (worn : Type 0) (host : List ℕ) (stream member : ℕ) (request : Request) (end : Option WorkEnd) (a b : Option (List Step))
    (told : Option (List LinkCall)) (given given' : Option (List (Handed (Part P C)))) (n k j : ℕ) → host ≡ host_of hosts member
    → IsHandedOver {P = P} {C = C} worn host homed stream member request a b given given' k j end
    → IsDone hosts homed worn (Begin stream member request) (ledger a told given n k) (ledger b told given' n j) end
did_begin {P} {C} hosts homed worn host stream member request end a b told given given' n k j e c = record {
  steps = c.steps;
  calls = [];
  handed = c.handed;
  does = Does.begun stream member request c.steps c.handed end
      (subst (λ (x : List ℕ). BeginDoes {P = P} {C = C} worn x homed stream member request c.steps c.handed end) e c.does);
  between = record { made = c.adds; link = link_none told n; spawner = c.spawner };
}

-- the link may hear of it, and makes no call
pub did_close : {P C : Type 0} (hosts : List (List ℕ)) (homed : P → Type 0) (worn : Type 0) (stream : ℕ) (a : Option (List Step)) (told told' : Option (List LinkCall))
    (given : Option (List (Handed (Part P C)))) (n m k : ℕ) → told' ≡ told → m ≡ n → IsDone hosts homed worn (Close stream) (ledger a told given n k) (ledger a told' given m k) None
did_close {P} {C} hosts homed worn stream a told told' given n m k t e = record {
  steps = [];
  calls = [];
  handed = [];
  does = Does.closed stream;
  between = subst (λ (x : Option (List LinkCall)). Between (ledger a told given n k) (ledger a x given m k) [] [] []) (sym t)
      (subst (λ (x : ℕ). Between (ledger a told given n k) (ledger a told given x k) [] [] []) (sym e) (between_none (ledger a told given n k)));
}

-- ---- what is due

pub not_idle_yet : (rests : CoreEvent → Type 0) (a : Option (List Step)) → IsIdle rests a a
not_idle_yet rests a = record { steps = []; idles = Idles.none; adds = adds_none a }

-- the outcome of a step under its own name
pub made_as : (a b : Option (List Step)) (now : ℕ) (x y : Outcome) → x ≡ y → MadeBy a b Work now (Ok x) → MadeBy a b Work now (Ok y)
made_as a b now x y e m = subst (λ (z : Outcome). MadeBy a b Work now (Ok z)) e m

pub was_drawn : (rests : CoreEvent → Type 0) (worn : Type 0) (a b c : Option (List Step)) (now : ℕ) (job : Job) → IsIdle rests a b → MadeBy b c Work now (Ok (Due (Some job)))
    → IsDrawn rests worn a c (Ok job)
was_drawn rests worn a b c now job i m = record {
  steps = i.steps ++ (entry_of Work now (Ok (Due (Some job))) ∷ []);
  draws = Draws.drew i.steps now job i.idles;
  adds = adds_then a b c i.steps (entry_of Work now (Ok (Due (Some job))) ∷ []) i.adds m;
}

pub not_drawn : (rests : CoreEvent → Type 0) (worn : Type 0) (a b c : Option (List Step)) (now : ℕ) (why : TurnFault) → IsIdle rests a b → Fits Work (Err why) → MadeBy b c Work now (Err why)
    → (why ≡ turn.Worn → worn) → IsDrawn rests worn a c (Err (ended_by why))
not_drawn rests worn a b c now turn.Worn i f m l = record {
  steps = i.steps ++ [];
  draws = subst (λ (x : List Step). Draws rests worn x (Err how.Worn)) (sym (append-nil i.steps)) (Draws.late i.steps i.idles (l refl));
  adds = adds_then a b c i.steps [] i.adds m;
}
not_drawn rests worn a b c now (turn.Core step.Worn) i f m l =
    record { steps = _; draws = Draws.spent i.steps now i.idles; adds = adds_then a b c i.steps (entry_of Work now (Err step.Worn) ∷ []) i.adds m }
not_drawn rests worn a b c now (turn.Core step.NoMemory) i f m l =
    record { steps = _; draws = Draws.full i.steps now i.idles; adds = adds_then a b c i.steps (entry_of Work now (Err step.NoMemory) ∷ []) i.adds m }
not_drawn rests worn a b c now (turn.Core (step.TicketUsed k)) i f m l = absurd f
not_drawn rests worn a b c now (turn.Core (step.NoSuchTicket k)) i f m l = absurd f
not_drawn rests worn a b c now (turn.Core (step.NoSuchCall k)) i f m l = absurd f
not_drawn rests worn a b c now (turn.Core (step.NoSuchStream k)) i f m l = absurd f

rested_adds : (rests : CoreEvent → Type 0) (a b c d : Option (List Step)) (now : ℕ) (i : IsIdle rests a b) → MadeBy b c Work now (Ok (Due None)) → (r : Rested rests c d)
    → Adds a d (i.steps ++ (entry_of Work now (Ok (Due None)) ∷ r.steps))
rested_adds rests a b c d now i m r =
    let e = entry_of Work now (Ok (Due None)) in
    adds_then a b d i.steps (e ∷ r.steps) i.adds (adds_then b c d (e ∷ []) r.steps m r.adds)

pub idled : (rests : CoreEvent → Type 0) (a b c d : Option (List Step)) (now : ℕ) → IsIdle rests a b → MadeBy b c Work now (Ok (Due None)) → Rested rests c d → IsIdle rests a d
idled rests a b c d now i m r = record {
  steps = i.steps ++ (entry_of Work now (Ok (Due None)) ∷ r.steps);
  idles = Idles.more i.steps now r.steps i.idles r.others;
  adds = rested_adds rests a b c d now i m r;
}

pub no_rest : (rests : CoreEvent → Type 0) (worn : Type 0) (a b c d : Option (List Step)) (now : ℕ) (why : TurnFault) → IsIdle rests a b → MadeBy b c Work now (Ok (Due None)) → Rested rests c d
    → IsOfRest why → (IsTrue (is_late why) → worn) → IsDrawn rests worn a d (Err (ended_by why))
no_rest rests worn a b c d now why i m r o l = record {
  steps = i.steps ++ (entry_of Work now (Ok (Due None)) ∷ r.steps);
  draws = Draws.restless i.steps now r.steps why i.idles r.others o l;
  adds = rested_adds rests a b c d now i m r;
}

pub ends_as : (rests : CoreEvent → Type 0) (worn : Type 0) (a b : Option (List Step)) (x y : WorkEnd) → x ≡ y → IsDrawn rests worn a b (Err y) → IsDrawn rests worn a b (Err x)
ends_as rests worn a b x y e d = subst (λ (z : WorkEnd). IsDrawn rests worn a b (Err z)) (sym e) d

-- ---- all of them

pub none_worked : {P C : Type 0} (hosts : List (List ℕ)) (homed : P → Type 0) (rests : CoreEvent → Type 0) (worn : Type 0) (at : Ledger (Part P C)) → IsWorking hosts homed rests worn 0 at at
none_worked hosts homed rests worn at = record { steps = []; calls = []; handed = []; working = Working.begin; between = between_none at }

-- a draw moves the turn alone
drawn_between : {Q : Type 0} (a : Ledger Q) (made : Option (List Step)) (steps : List Step) → Adds a.made made steps → Between a (record a { made = made }) steps [] []
drawn_between a made steps t = record { made = t; link = link_none a.calls a.link_faults; spawner = spawner_none a.handed a.spawner_faults }

-- a job was drawn behind others, and done
drawn_and_done : {P C : Type 0} (hosts : List (List ℕ)) (homed : P → Type 0) (rests : CoreEvent → Type 0) (u v w : Type 0) (jobs : ℕ) (a b c : Ledger (Part P C)) (made : Option (List Step)) (job : Job)
    (end : Option WorkEnd) (x : IsWorking hosts homed rests u jobs a b) (d : IsDrawn rests v b.made made (Ok job)) (j : IsDone hosts homed w job (record b { made = made }) c end)
    → Between a c (x.steps ++ (d.steps ++ j.steps)) (x.calls ++ j.calls) (x.handed ++ j.handed)
drawn_and_done hosts homed rests u v w jobs a b c made job end x d j =
    between_then a b c x.steps (d.steps ++ j.steps) x.calls j.calls x.handed j.handed x.between
    (between_then b (record b { made = made }) c d.steps j.steps [] j.calls [] j.handed (drawn_between b made d.steps d.adds) j.between)

pub one_more : {P C : Type 0} (hosts : List (List ℕ)) (homed : P → Type 0) (rests : CoreEvent → Type 0) (u v w : Type 0) (jobs : ℕ) (a b c : Ledger (Part P C)) (made : Option (List Step)) (job : Job)
    → (u → w) → (v → w) → IsWorking hosts homed rests u jobs a b → IsDrawn rests v b.made made (Ok job) → IsDone hosts homed w job (record b { made = made }) c None
    → IsWorking hosts homed rests w (jobs + 1) a c
one_more hosts homed rests u v w jobs a b c made job f g x d j = record {
  steps = x.steps ++ (d.steps ++ j.steps);
  calls = x.calls ++ j.calls;
  handed = x.handed ++ j.handed;
  working = Working.more jobs x.steps x.calls x.handed job d.steps j.steps j.calls j.handed (working_late hosts homed rests jobs x.steps x.calls x.handed f x.working)
      (drawn_late rests d.steps job g d.draws) j.does;
  between = drawn_and_done hosts homed rests u v w jobs a b c made job None x d j;
}

pub undrawn : {P C : Type 0} (hosts : List (List ℕ)) (homed : P → Type 0) (rests : CoreEvent → Type 0) (u w : Type 0) (jobs turns : ℕ) (a b : Ledger (Part P C)) (made : Option (List Step)) (end : WorkEnd)
    → (u → w) → jobs < turns → IsWorking hosts homed rests u jobs a b → IsDrawn rests w b.made made (Err end) → IsWorked hosts homed rests w turns a (record b { made = made }) end
undrawn {P} {C} hosts homed rests u w jobs turns a b made end f lt x d = record {
  steps = x.steps ++ d.steps;
  calls = x.calls;
  handed = x.handed;
  works = Works.undrawn jobs x.steps x.calls x.handed d.steps end lt (working_late hosts homed rests jobs x.steps x.calls x.handed f x.working) d.draws;
  between = subst (λ (y : List LinkCall). Between a (record b { made = made }) (x.steps ++ d.steps) y x.handed) (append-nil x.calls)
      (subst (λ (y : List (Handed (Part P C))). Between a (record b { made = made }) (x.steps ++ d.steps) (x.calls ++ []) y) (append-nil x.handed)
      (between_then a b (record b { made = made }) x.steps d.steps x.calls [] x.handed [] x.between (drawn_between b made d.steps d.adds)));
}

pub stopped : {P C : Type 0} (hosts : List (List ℕ)) (homed : P → Type 0) (rests : CoreEvent → Type 0) (u v w : Type 0) (jobs turns : ℕ) (a b c : Ledger (Part P C)) (made : Option (List Step)) (job : Job)
    (end : WorkEnd) → (u → w) → (v → w) → jobs < turns → IsWorking hosts homed rests u jobs a b → IsDrawn rests v b.made made (Ok job)
    → IsDone hosts homed w job (record b { made = made }) c (Some end) → IsWorked hosts homed rests w turns a c end
stopped hosts homed rests u v w jobs turns a b c made job end f g lt x d j = record {
  steps = x.steps ++ (d.steps ++ j.steps);
  calls = x.calls ++ j.calls;
  handed = x.handed ++ j.handed;
  works = Works.stopped jobs x.steps x.calls x.handed job d.steps j.steps j.calls j.handed end lt
      (working_late hosts homed rests jobs x.steps x.calls x.handed f x.working) (drawn_late rests d.steps job g d.draws) j.does;
  between = drawn_and_done hosts homed rests u v w jobs a b c made job (Some end) x d j;
}

pub turned : {P C : Type 0} (hosts : List (List ℕ)) (homed : P → Type 0) (rests : CoreEvent → Type 0) (worn : Type 0) (jobs turns : ℕ) (a b : Ledger (Part P C)) → jobs ≡ turns
    → IsWorking hosts homed rests worn jobs a b → IsWorked hosts homed rests worn turns a b how.Turns
turned hosts homed rests worn jobs turns a b e x = record {
  steps = x.steps;
  calls = x.calls;
  handed = x.handed;
  works = subst (λ (n : ℕ). Works hosts homed rests worn n x.steps x.calls x.handed how.Turns) e (Works.turned x.steps x.calls x.handed x.working);
  between = x.between;
}

-- what was done for a job, from another name of the same home
pub done_at : {P C H : Type 0} (home_of : P → H) (hosts : List (List ℕ)) (worn : Type 0) (old new : H) (job : Job) (a b : Ledger (Part P C)) (end : Option WorkEnd) → new ≡ old
    → IsDone hosts (IsAt home_of new) worn job a b end → IsDone hosts (IsAt home_of old) worn job a b end
done_at home_of hosts worn old new job a b end e d = subst (λ (h : _). IsDone hosts (IsAt home_of h) worn job a b end) e d
