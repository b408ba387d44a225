-- Every step keeps named all that may be sent, and what it sends goes out under the namespace.
use Rattle.std.proofs.Common.{◌≡◌, ℕ, List, None, Some, Result, Ok, Err, refl, sym, ◌∙◌, ap, subst}
use Rattle.core_model.specs.declared.event.CoreEvent.{CoreEvent}
use Rattle.core_model.specs.declared.event.CoreEvent.TheVariants as event
use Rattle.core_model.specs.declared.event.Job.{Job}
use Rattle.core_model.specs.declared.event.Outcome.{Outcome}
use Rattle.core_model.specs.declared.event.Outcome.TheVariants as outcome
use Rattle.core_model.specs.declared.event.StepFault.{StepFault}
use Rattle.core_model.specs.declared.event.StepFault.TheVariants as fault
use Rattle.core_model.specs.ClockWork.{begun, clock_work}
use Rattle.core_model.specs.DueJobs.{first_job}
use Rattle.core_model.specs.Ends.{on_answer, on_lost}
use Rattle.core_model.specs.Sessions.{without_session, seat_is_over}
use Rattle.core_model.specs.Lookups.{ask_at, out_at}
use Rattle.core_model.specs.Sending.{on_work}
use Rattle.core_model.specs.declared.settings.Settings.{Settings}
use Rattle.core_model.specs.State.{Core}
use Rattle.core_model.specs.Step.{opening_at, on_item, on_cut, happened, is_worn, stepped}
use Rattle.core_model.specs.Stepped.{Stepped, faults, counted, counted_by}
use Rattle.core_model.specs.Takes.{on_take, on_leave}
use Rattle.core_laws.proofs.Steps.Jobs.{gives_job}
use Rattle.namespace_laws.specs.Images.Named.{CoreNamed}
use Rattle.namespace_laws.specs.Images.Laws.{StartsNamed, StepsStayNamed, JobsGoUnder}
use Rattle.namespace_laws.proofs.Images.CoreNaming.{Leaves, still, clock_named, ask_stays_named, answer_named, loss_named, tick_named, opening_named, item_named, cut_named, take_named, leave_named}
use Rattle.namespace_laws.proofs.Images.JobNaming.{OutcomeUnder, first_due, sent_named}
use Rattle.namespace_laws.proofs.Images.OwnNaming.{either}

pub starts_named : StartsNamed
starts_named settings = record {
  reads = record { ground = record { own = record { prefix = refl; entries = refl; writes = refl }; acquires = refl }; asks = refl };
  leasing = λ t. absurd (cc);
}

happened_named : (p : List ℕ) (now : ℕ) (e : CoreEvent) (c : Core) → CoreNamed p c → Leaves p (happened now e c)
unfolding on_answer on_lost on_item on_cut on_take on_leave on_work
happened_named p now (event.Ask ticket q word) c h = ask_stays_named p now ticket q word c h
happened_named p now (event.Answer call a) c h = answer_named p now call a (out_at call c.out) c h
happened_named p now (event.Lost call) c h = loss_named p now call (out_at call c.out) c h
happened_named p now (event.Tick word) c h = tick_named p now word c h
happened_named p now (event.Item number x) c h = item_named p now number x (opening_at number c.leasing) c (opening_named p number c h) h
happened_named p now (event.Cut number) c h = cut_named p number (opening_at number c.leasing) c (opening_named p number c h) h
happened_named p now (event.Take ticket) c h = take_named p ticket (ask_at ticket c.asks) c h
happened_named p now (event.Leave ticket) c h = leave_named p now ticket (ask_at ticket c.asks) c h
happened_named p now event.Work c h = (sent_named p now (first_job c) c (first_due p c h) h).named

counted_named : (p : List ℕ) (s : Stepped) → Leaves p s → Leaves p (counted s)
counted_named p s h = by_outcome s.outcome
  where
    by_outcome : (o : Result Outcome StepFault) → Leaves p (counted_by s.core o)
    by_outcome (Ok o) = still p s.core _ refl refl h
    by_outcome (Err f) = h

pub steps_stay_named : StepsStayNamed
unfolding stepped
steps_stay_named p c e now h =
    either (Leaves p) (is_worn c) (faults c fault.Worn) (counted (happened now e (clock_work now c))) h
    (counted_named p (happened now e (clock_work now c)) (happened_named p now e (clock_work now c) (clock_named p now c h)))

-- What is sent.

clock_settings : (now : ℕ) (c : Core) → (clock_work now c).settings ≡ c.settings
unfolding clock_work
clock_settings now c = either (λ (d : Core). d.settings ≡ c.settings) (seat_is_over c.seat now) (without_session now (begun c)) (begun c) refl refl

counted_under : (ns : List ℕ) (s : Stepped) → OutcomeUnder ns s.outcome → OutcomeUnder ns (counted s).outcome
counted_under ns s h = by_outcome s.outcome h
  where
    by_outcome : (o : Result Outcome StepFault) → OutcomeUnder ns o → OutcomeUnder ns (counted_by s.core o).outcome
    by_outcome (Ok o) k = k
    by_outcome (Err f) k = tt

work_goes : (p : List ℕ) (c : Core) (now : ℕ) → CoreNamed p c → OutcomeUnder c.settings.namespace (stepped c event.Work now).outcome
unfolding stepped on_work
work_goes p c now h =
    let d = clock_work now c in
    let n = clock_named p now c h in
    let sent = (sent_named p now (first_job d) d (first_due p d n) n).under in
    either (λ (s : Stepped). OutcomeUnder c.settings.namespace s.outcome) (is_worn c) (faults c fault.Worn) (counted (happened now event.Work d)) tt
    (counted_under c.settings.namespace (happened now event.Work d) (subst (λ (ns : List ℕ). OutcomeUnder ns (happened now event.Work d).outcome) (ap (λ (s : Settings). s.namespace) (clock_settings now c)) sent))

pub jobs_go_under : JobsGoUnder
jobs_go_under p c e now j h is =
    let works : (stepped c event.Work now).outcome ≡ Ok (outcome.Job (Some j)) = ap (λ (x : CoreEvent). (stepped c x now).outcome) (sym (gives_job c e now j is)) ∙ is in
    subst (OutcomeUnder c.settings.namespace) works (work_goes p c now h)

pub outcomes_under : (p : List ℕ) (c : Core) (e : CoreEvent) (now : ℕ) → CoreNamed p c → OutcomeUnder c.settings.namespace (stepped c e now).outcome
outcomes_under p c e now h = by_outcome (stepped c e now).outcome refl
  where
    by_outcome : (r : Result Outcome StepFault) → (stepped c e now).outcome ≡ r → OutcomeUnder c.settings.namespace r
    by_outcome (Ok (outcome.Job (Some j))) is = jobs_go_under p c e now j h is
    by_outcome (Ok (outcome.Job None)) is = tt
    by_outcome (Ok (outcome.Replied a)) is = tt
    by_outcome (Ok outcome.Waiting) is = tt
    by_outcome (Ok outcome.Pending) is = tt
    by_outcome (Ok (outcome.Item x)) is = tt
    by_outcome (Ok outcome.Noted) is = tt
    by_outcome (Err f) is = tt
