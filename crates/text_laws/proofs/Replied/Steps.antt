-- Every step keeps what a proxy holds fit, and what it replies and gives has a text.
use Rattle.std.proofs.Common.{ℕ, ◌≤◌, Result, Ok, Err, arith}
use Rattle.core_model.specs.declared.event.CoreEvent.{CoreEvent}
use Rattle.core_model.specs.declared.event.CoreEvent.TheVariants as event
use Rattle.core_model.specs.declared.event.Outcome.{Outcome}
use Rattle.core_model.specs.declared.event.StepFault.{StepFault}
use Rattle.core_model.specs.declared.event.StepFault.TheVariants as fault
use Rattle.core_model.specs.ClockWork.{clock_work}
use Rattle.core_model.specs.DueJobs.{first_job}
use Rattle.core_model.specs.Ends.{on_answer, on_lost}
use Rattle.core_model.specs.Lookups.{ask_at, out_at}
use Rattle.core_model.specs.Sending.{on_work}
use Rattle.core_model.specs.State.{Core}
use Rattle.core_model.specs.Step.{opening_at, on_item, on_cut, happened, is_worn, stepped}
use Rattle.core_model.specs.Stepped.{Stepped, faults, counted, counted_by}
use Rattle.core_model.specs.Takes.{on_take, on_leave}
use Rattle.text_laws.proofs.Values.Alls.{either}
use Rattle.text_laws.specs.Sent.Sends.{CoreFits, EventFits}
use Rattle.text_laws.proofs.Sent.Cores.{clock_fits}
use Rattle.text_laws.specs.Replied.Holds.{CoreHolds, IsTicketed, OutcomeHolds, risen, Bounds}
use Rattle.text_laws.specs.Replied.Laws.{StartsHold, StepsHold}
use Rattle.text_laws.proofs.Replied.Cores.{core_weaker, clock_holds, StepHolds, ask_holds, within, answer_event, loss_event, tick_event, item_event, cut_event, ask_found, take_event, leave_event}
use Rattle.text_laws.proofs.Replied.Sent.{work_holds}

pub starts_hold : StartsHold
starts_hold most settings = record { header = record { cluster = omega arith; member = omega arith; revision = omega arith; term = omega arith }; entries = tt; asks = tt; watches = tt }

risen_more : (e : CoreEvent) (most : ℕ) → most ≤ risen e most
risen_more (event.Answer call a) most = omega arith
risen_more (event.Ask ticket q word) most = omega arith
risen_more (event.Lost call) most = omega arith
risen_more (event.Tick word) most = omega arith
risen_more (event.Item number x) most = omega arith
risen_more (event.Cut number) most = omega arith
risen_more (event.Take ticket) most = omega arith
risen_more (event.Leave ticket) most = omega arith
risen_more event.Work most = omega arith

happened_holds : (heard most now : ℕ) (e : CoreEvent) (c : Core) → Bounds heard most → CoreFits c → EventFits heard e → IsTicketed e → CoreHolds most c → StepHolds (risen e most) (happened now e c)
unfolding on_answer on_lost on_item on_cut on_take on_leave on_work
happened_holds heard most now (event.Ask ticket q word) c l b f t h = ask_holds most now ticket q word c (within heard most l) (t, f.0) f.1 b.watches h
happened_holds heard most now (event.Answer call a) c l b f t h = answer_event heard most now call a (out_at call c.out) c l f b.reads.ground.own h
happened_holds heard most now (event.Lost call) c l b f t h = loss_event most now call (out_at call c.out) c (within heard most l) h
happened_holds heard most now (event.Tick word) c l b f t h = tick_event most now word c h
happened_holds heard most now (event.Item number x) c l b f t h = item_event heard most now number x (opening_at number c.leasing) c l f b.watches h
happened_holds heard most now (event.Cut number) c l b f t h = cut_event most number (opening_at number c.leasing) c h
happened_holds heard most now (event.Take ticket) c l b f t h = take_event most ticket (ask_at ticket c.asks) c b.watches (ask_found ticket c.asks h.asks) h
happened_holds heard most now (event.Leave ticket) c l b f t h = leave_event most now ticket (ask_at ticket c.asks) c (within heard most l) h
happened_holds heard most now event.Work c l b f t h = work_holds most now (first_job c) c h

counted_holds : (most : ℕ) (s : Stepped) → StepHolds most s → StepHolds most (counted s)
counted_holds most s h = by_outcome s.outcome h.outcome
  where
    by_outcome : (o : Result Outcome StepFault) → OutcomeHolds o → StepHolds most (counted_by s.core o)
    by_outcome (Ok o) k = record { core = record { header = h.core.header; entries = h.core.entries; asks = h.core.asks; watches = h.core.watches }; outcome = k }
    by_outcome (Err f) k = record { core = h.core; outcome = tt }

step_holds : (heard most : ℕ) (c : Core) (e : CoreEvent) (now : ℕ) → Bounds heard most → CoreFits c → EventFits heard e → IsTicketed e → CoreHolds most c → StepHolds (risen e most) (stepped c e now)
unfolding stepped
step_holds heard most c e now l b f t h =
    either (StepHolds (risen e most)) (is_worn c) (faults c fault.Worn) (counted (happened now e (clock_work now c))) (record { core = core_weaker most (risen e most) c (risen_more e most) h; outcome = tt })
    (counted_holds (risen e most) (happened now e (clock_work now c)) (happened_holds heard most now e (clock_work now c) l (clock_fits now c b) f t (clock_holds most now c (within heard most l) h)))

pub steps_hold : StepsHold
steps_hold heard most c e now l b f t h = let x = step_holds heard most c e now l b f t h in (x.core, x.outcome)
