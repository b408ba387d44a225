-- Every step keeps a proxy fit, and what it sends has a text.
use Rattle.std.proofs.Common.{◌≡◌, ℕ, ◌+◌, ◌≤◌, None, Some, Result, Ok, Err, refl, sym, ◌∙◌, ap, subst, arith}
use Rattle.text_model.specs.Words.{max_number}
use Rattle.core_model.specs.declared.event.CoreEvent.{CoreEvent}
use Rattle.core_model.specs.declared.event.CoreEvent.TheVariants as event
use Rattle.core_model.specs.declared.event.Job.{Job}
use Rattle.core_model.specs.declared.event.Outcome.{Outcome}
use Rattle.core_model.specs.declared.event.Outcome.TheVariants as outcome
use Rattle.core_model.specs.declared.event.StepFault.{StepFault}
use Rattle.core_model.specs.declared.event.StepFault.TheVariants as fault
use Rattle.core_model.specs.ClockWork.{clock_work}
use Rattle.core_model.specs.DueJobs.{first_job}
use Rattle.core_model.specs.Ends.{on_answer, on_lost}
use Rattle.core_model.specs.Lookups.{ask_at, out_at}
use Rattle.core_model.specs.Sending.{on_work}
use Rattle.core_model.specs.State.{Core}
use Rattle.core_model.specs.Step.{opening_at, on_item, on_cut, happened, is_worn, stepped}
use Rattle.core_model.specs.Stepped.{Stepped, faults, counted, counted_by}
use Rattle.core_model.specs.Takes.{on_take, on_leave}
use Rattle.core_laws.proofs.Steps.Jobs.{gives_job}
use Rattle.text_laws.proofs.Values.Alls.{either}
use Rattle.text_laws.specs.Sent.Laws.{StartsFit, StepsFit}
use Rattle.text_laws.specs.Sent.Sends.{CoreFits, EventFits, SentFits, OutcomeFits}
use Rattle.text_laws.proofs.Sent.Cores.{Leaves, clock_fits, ask_fits, answer_event, loss_event, out_there, tick_event, opening_fits, item_event, cut_event, take_event, leave_event}
use Rattle.text_laws.proofs.Sent.Jobs.{first_due, work_fits}

pub starts_fit : StartsFit
starts_fit settings h = record {
  settings = h;
  members = record { some = h.members; current = h.members; few = h.few };
  seat = tt;
  leasing = tt;
  reads = record { ground = record { own = record { prefix = h.leasing; entries = tt; writes = tt }; acquires = tt }; asks = tt };
  out = tt;
  watches = record { streams = tt; watches = tt };
}

happened_fits : (most now : ℕ) (e : CoreEvent) (c : Core) → most + 1 ≤ max_number → EventFits most e → CoreFits c → Leaves (happened now e c)
unfolding on_answer on_lost on_item on_cut on_take on_leave on_work
happened_fits most now (event.Ask ticket q word) c l f h = ask_fits now ticket q word c f.0 f.1 h
happened_fits most now (event.Answer call a) c l f h = answer_event most now call a (out_at call c.out) c (omega (arith, l)) (out_there call c h) f h
happened_fits most now (event.Lost call) c l f h = loss_event now call (out_at call c.out) c h
happened_fits most now (event.Tick word) c l f h = tick_event now word c h
happened_fits most now (event.Item number x) c l f h = item_event most now number x (opening_at number c.leasing) c l f (opening_fits number c h) h
happened_fits most now (event.Cut number) c l f h = cut_event number (opening_at number c.leasing) c (opening_fits number c h) h
happened_fits most now (event.Take ticket) c l f h = take_event ticket (ask_at ticket c.asks) c h
happened_fits most now (event.Leave ticket) c l f h = leave_event now ticket (ask_at ticket c.asks) c h
happened_fits most now event.Work c l f h = (work_fits now (first_job c) c (first_due c h) h).core

counted_fits : (s : Stepped) → Leaves s → Leaves (counted s)
counted_fits s h = by_outcome s.outcome
  where
    by_outcome : (o : Result Outcome StepFault) → Leaves (counted_by s.core o)
    by_outcome (Ok o) = record { settings = h.settings; members = h.members; seat = h.seat; leasing = h.leasing; reads = record { ground = record { own = h.reads.ground.own; acquires = h.reads.ground.acquires }; asks = h.reads.asks }; out = h.out; watches = h.watches }
    by_outcome (Err f) = h

core_stays : (most : ℕ) (c : Core) (e : CoreEvent) (now : ℕ) → most + 1 ≤ max_number → EventFits most e → CoreFits c → Leaves (stepped c e now)
unfolding stepped
core_stays most c e now l f h =
    either Leaves (is_worn c) (faults c fault.Worn) (counted (happened now e (clock_work now c))) h
    (counted_fits (happened now e (clock_work now c)) (happened_fits most now e (clock_work now c) l f (clock_fits now c h)))

-- ---- what is sent

counted_sent : (s : Stepped) → OutcomeFits s.outcome → OutcomeFits (counted s).outcome
counted_sent s h = by_outcome s.outcome h
  where
    by_outcome : (o : Result Outcome StepFault) → OutcomeFits o → OutcomeFits (counted_by s.core o).outcome
    by_outcome (Ok o) k = k
    by_outcome (Err f) k = tt

work_sends : (c : Core) (now : ℕ) → CoreFits c → OutcomeFits (stepped c event.Work now).outcome
unfolding stepped on_work
work_sends c now h =
    let d = clock_work now c in
    let n = clock_fits now c h in
    either (λ (s : Stepped). OutcomeFits s.outcome) (is_worn c) (faults c fault.Worn) (counted (happened now event.Work d)) tt
    (counted_sent (happened now event.Work d) (work_fits now (first_job d) d (first_due d n) n).sent)

jobs_fit : (c : Core) (e : CoreEvent) (now : ℕ) (j : Job) → CoreFits c → (stepped c e now).outcome ≡ Ok (outcome.Job (Some j)) → SentFits j
jobs_fit c e now j h is =
    let works : (stepped c event.Work now).outcome ≡ Ok (outcome.Job (Some j)) = ap (λ (x : CoreEvent). (stepped c x now).outcome) (sym (gives_job c e now j is)) ∙ is in
    subst OutcomeFits works (work_sends c now h)

outcome_fits : (c : Core) (e : CoreEvent) (now : ℕ) → CoreFits c → OutcomeFits (stepped c e now).outcome
outcome_fits c e now h = by_outcome (stepped c e now).outcome refl
  where
    by_outcome : (r : Result Outcome StepFault) → (stepped c e now).outcome ≡ r → OutcomeFits r
    by_outcome (Ok (outcome.Job (Some j))) is = jobs_fit c e now j h is
    by_outcome (Ok (outcome.Job None)) is = tt
    by_outcome (Ok (outcome.Replied a)) is = tt
    by_outcome (Ok outcome.Waiting) is = tt
    by_outcome (Ok outcome.Pending) is = tt
    by_outcome (Ok (outcome.Item x)) is = tt
    by_outcome (Ok outcome.Noted) is = tt
    by_outcome (Err f) is = tt

pub steps_fit : StepsFit
steps_fit most c e now l h f = (core_stays most c e now l f h, outcome_fits c e now h)
