-- A proxy's step that begins or closes a stream moves nothing beside its clock work.
use Rattle.std.proofs.Common.{◌≡◌, ◌⊎◌, ℕ, Bool, true, false, cond, List, None, Some, Result, Ok, Err, refl, sym, ◌∙◌, ap, subst}
use Rattle.etcd_types.specs.declared.request.Request.TheVariants as request
use Rattle.etcd_types.specs.declared.request.WatchAsk.{WatchAsk}
use Rattle.proxy_model.specs.Prefixes.{leasing_range}
use Rattle.proxy_model.specs.Wrapped.{watch_under}
use Rattle.read_model.specs.State.{Ground}
use Rattle.watch_model.specs.State.{Stream}
use Rattle.core_model.specs.declared.event.CoreEvent.TheVariants as event
use Rattle.core_model.specs.declared.event.Job.TheVariants as sent
use Rattle.core_model.specs.declared.event.Outcome.{Outcome}
use Rattle.core_model.specs.declared.event.Outcome.TheVariants as outcome
use Rattle.core_model.specs.declared.event.StepFault.{StepFault}
use Rattle.core_model.specs.declared.event.StepFault.TheVariants as fault
use Rattle.core_model.specs.declared.settings.Settings.{Settings}
use Rattle.core_model.specs.ClockWork.{clock_work}
use Rattle.core_model.specs.Fits.{CoreOk, is_standing}
use Rattle.core_model.specs.Sending.{on_work}
use Rattle.core_model.specs.State.{Core}
use Rattle.core_model.specs.Step.{is_worn, stepped}
use Rattle.core_model.specs.Stepped.{Stepped, faults, counted, counted_by}
use Rattle.core_fits.specs.Fits.{IsOfLeasing}
use Rattle.cache_laws.specs.Moves.Invariant.{Inv}
use Rattle.cache_laws.specs.Moves.View.{View}
use Rattle.row_laws.specs.Rows.{row_of}
use Rattle.core_moves.specs.Sees.{term_of, Sees, Moves}
use Rattle.core_moves.proofs.Clocks.{clocks_move}
use Rattle.step_moves.specs.Work.{call_in}
use Rattle.core_laws.proofs.Watches.Touches.{IsAmong}
use Rattle.turn_laws.proofs.Clocked.{not_worn, clock_leasing, clock_settings, clock_streams}
use Rattle.turn_laws.proofs.Openings.{Unmoved, work_unmoved, Opened, work_opened}

counted_unmoved : (c : Core) (s : Stepped) → Unmoved c s.core → Unmoved c (counted s).core
counted_unmoved c s h = by s.outcome
  where
    by : (o : Result Outcome StepFault) → Unmoved c (counted_by s.core o).core
    by (Ok o) = record { seat = h.seat; ground = h.ground }
    by (Err why) = h

counted_gives : (s : Stepped) (o : Outcome) → (counted s).outcome ≡ Ok o → s.outcome ≡ Ok o
counted_gives s o e = by s.outcome e
  where
    by : (r : Result Outcome StepFault) → (counted_by s.core r).outcome ≡ Ok o → r ≡ Ok o
    by (Ok q) f = f
    by (Err why) f = f

-- a step that isn't a worn proxy's
pub is_step : (c : Core) (now : ℕ) (o : Outcome) → (stepped c event.Work now).outcome ≡ Ok o → stepped c event.Work now ≡ counted (on_work now (clock_work now c))
unfolding stepped
is_step c now o e = by (is_worn c) (not_worn c event.Work now o e)
  where
    by : (b : Bool) → b ≡ false → cond b (faults c fault.Worn) (counted (on_work now (clock_work now c))) ≡ counted (on_work now (clock_work now c))
    by true w = absurd (cc)
    by false w = refl

pub gave : (c : Core) (now : ℕ) (o : Outcome) → (stepped c event.Work now).outcome ≡ Ok o → (on_work now (clock_work now c)).outcome ≡ Ok o
gave c now o e = counted_gives (on_work now (clock_work now c)) o (ap (λ (s : Stepped). s.outcome) (sym (is_step c now o e)) ∙ e)

step_unmoved : (c : Core) (now : ℕ) (o : Outcome) → (stepped c event.Work now).outcome ≡ Ok o → call_in (Ok o) ≡ None → Unmoved (clock_work now c) (stepped c event.Work now).core
step_unmoved c now o e n =
    subst (λ (s : Stepped). Unmoved (clock_work now c) s.core) (sym (is_step c now o e))
    (counted_unmoved (clock_work now c) (on_work now (clock_work now c)) (work_unmoved now (clock_work now c) (ap call_in (gave c now o e) ∙ n)))

-- as moves of the view
pub job_moves : (holder : ℕ → ℕ) (v : View) (p now : ℕ) (own : ℕ → ℕ) (c : Core) (o : Outcome) → (stepped c event.Work now).outcome ≡ Ok o → call_in (Ok o) ≡ None → CoreOk c → Sees v p now own c → Inv holder v
    → Moves holder v p now own (stepped c event.Work now).core
job_moves holder v p now own c o e n k s h =
    let m = clocks_move holder v p now own (is_standing c.seat) c k.reads.ground s h in
    let u = step_unmoved c now o e n in
    record {
      after = m.after;
      inv = m.inv;
      sees = record { clock = m.sees.clock; term = m.sees.term ∙ ap term_of (sym u.seat); row = λ j. m.sees.row j ∙ ap (λ (g : Ground). row_of own g j) (sym u.ground) };
      alike = m.alike;
    }

-- the stream that it begins
pub job_begins : (prefix : List ℕ) (c : Core) (now own member : ℕ) (ask : WatchAsk) → (stepped c event.Work now).outcome ≡ Ok (outcome.Job (Some (sent.Begin own member (request.Watch ask)))) → IsOfLeasing prefix c.leasing → Opened prefix c own ask
job_begins prefix c now own member ask e h =
    let d = clock_work now c in
    let b = work_opened prefix own member ask now d (subst (IsOfLeasing prefix) (sym (clock_leasing now c)) h) (gave c now _ e) in
    record {
      bare = b.bare;
      under = b.under ∙ ap (λ (s : Settings). watch_under s.namespace b.bare) (clock_settings now c);
      of = subst (λ (ss : List Stream). (b.bare.range ≡ leasing_range prefix) ⊎ ((s : Stream) × IsAmong s ss × (s.number ≡ own))) (clock_streams now c) b.of;
    }
