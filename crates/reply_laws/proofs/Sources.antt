-- Where the ok replies of one proxy come from, by its whole steps.
use Rattle.std.proofs.Common.{◌≡◌, ℕ, false, Result, Ok, Err}
use Rattle.read_model.specs.declared.asked.Asked.{Asked}
use Rattle.core_model.specs.declared.event.CoreEvent.{CoreEvent}
use Rattle.core_model.specs.declared.event.CoreEvent.TheVariants as event
use Rattle.core_model.specs.declared.event.Outcome.{Outcome}
use Rattle.core_model.specs.declared.event.StepFault.{StepFault}
use Rattle.core_model.specs.declared.event.StepFault.TheVariants as fault
use Rattle.core_model.specs.ClockWork.{clock_work}
use Rattle.core_model.specs.Fits.{CoreOk}
use Rattle.core_model.specs.State.{Core}
use Rattle.core_model.specs.Step.{is_worn, happened, stepped}
use Rattle.core_model.specs.Stepped.{Stepped, faults, counted, counted_by}
use Rattle.core_laws.proofs.Steps.Comes.{by_test}
use Rattle.keep_laws.proofs.Rows.{All}
use Rattle.keep_laws.proofs.Runs.{found}
use Rattle.keep_laws.proofs.Steps.{tick_step, item_step, cut_step, take_step}
use Rattle.reply_laws.specs.Laws.{RepliesHaveSources}
use Rattle.reply_laws.proofs.Before.{since_start, clock_since}
use Rattle.reply_laws.proofs.Events.{StepAll, lost_all, leave_all, work_all, ask_all}
use Rattle.reply_laws.proofs.Heard.{Sourced, unsaid_sourced, all_sourced}
use Rattle.reply_laws.proofs.Answered.{answer_all}

happened_all : (c : Core) (now : ℕ) (e : CoreEvent) → is_worn c ≡ false → CoreOk c → All (Sourced c e now) (clock_work now c).asks → StepAll (Sourced c e now) (happened now e (clock_work now c))
happened_all c now (event.Ask ticket q word) n ok t = ask_all (Sourced c (event.Ask ticket q word) now) (unsaid_sourced c (event.Ask ticket q word) now) now ticket q word (clock_work now c) t
happened_all c now (event.Answer call a) n ok t = answer_all c now call a n ok
happened_all c now (event.Lost call) n ok t = lost_all (Sourced c (event.Lost call) now) (unsaid_sourced c (event.Lost call) now) now call (clock_work now c) t
happened_all c now (event.Tick word) n ok t = tick_step (Sourced c (event.Tick word) now) now word (clock_work now c) t
happened_all c now (event.Item number x) n ok t = item_step (Sourced c (event.Item number x) now) now number x (clock_work now c) t
happened_all c now (event.Cut number) n ok t = cut_step (Sourced c (event.Cut number) now) number (clock_work now c) t
happened_all c now (event.Take ticket) n ok t = take_step (Sourced c (event.Take ticket) now) ticket (clock_work now c) t
happened_all c now (event.Leave ticket) n ok t = leave_all (Sourced c (event.Leave ticket) now) (unsaid_sourced c (event.Leave ticket) now) now ticket (clock_work now c) t
happened_all c now event.Work n ok t = work_all (Sourced c event.Work now) (unsaid_sourced c event.Work now) now (clock_work now c) t

counted_all : (P : Asked → Type 0) (s : Stepped) → StepAll P s → StepAll P (counted s)
counted_all P s t = by_outcome s.outcome
  where
    by_outcome : (o : Result Outcome StepFault) → StepAll P (counted_by s.core o)
    by_outcome (Ok o) = t
    by_outcome (Err f) = t

stepped_all : (c : Core) (e : CoreEvent) (now : ℕ) → CoreOk c → StepAll (Sourced c e now) (stepped c e now)
unfolding stepped
stepped_all c e now ok =
    by_test (StepAll (Sourced c e now)) (is_worn c) (faults c fault.Worn) (counted (happened now e (clock_work now c)))
    (λ w. all_sourced c e now c.asks (since_start c ok.agrees.asks.once))
    (λ w. counted_all (Sourced c e now) (happened now e (clock_work now c)) (happened_all c now e w ok (all_sourced c e now _ (clock_since c now ok.agrees.asks.once))))

pub replies_have_sources : RepliesHaveSources
replies_have_sources c e now ticket a reply ok f s = (found (Sourced c e now) ticket (stepped c e now).core.asks a f (stepped_all c e now ok)).0 reply s
