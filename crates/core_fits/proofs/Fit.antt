-- All of it: at the start, by each step and its clock work, after each run.
use Rattle.std.proofs.Common.{ℕ, List, [], ◌∷◌, refl, sym, subst}
use Rattle.core_model.specs.ClockWork.{clock_work}
use Rattle.core_model.specs.Fits.{CoreOk}
use Rattle.core_model.specs.State.{Core, first_core}
use Rattle.core_model.specs.Step.{stepped}
use Rattle.core_laws.specs.Steps.Kept.{after, ran, Timed, AllHeard}
use Rattle.core_laws.proofs.Steps.Middle.{clock_whole}
use Rattle.core_laws.proofs.Steps.Start.{start_fits}
use Rattle.core_laws.proofs.Steps.Staying.{steps_stay}
use Rattle.core_laws.proofs.Steps.Stepping.{steps_keep}
use Rattle.core_laws.proofs.Steps.Whole.{of_ok}
use Rattle.core_fits.specs.Fits.{IsOfLeasing, CoreFits}
use Rattle.core_fits.specs.Laws.{Starts, Lasts, RunsFit}
use Rattle.core_fits.proofs.Beside.{stepped_beside}
use Rattle.core_fits.proofs.CallsBeside.{Beside, clock_beside}
use Rattle.core_fits.proofs.Prefix.{clock_prefix}
use Rattle.core_fits.proofs.Same.{same_starts, same_steps, clock_same}
use Rattle.core_fits.proofs.Served.{served_starts, served_steps, served_clock, reads_start, reads_step, reads_clock}

pub fits_start : Starts CoreFits
fits_start settings = record {
  served = served_starts settings;
  read = reads_start settings;
  write = same_starts settings;
  seat_job = tt;
  numbered = tt;
  range = tt;
  header = refl;
}

pub fits_step : Lasts CoreFits
fits_step c e now k h =
    let d = (stepped c e now).core in
    let b : Beside c.own.waits.prefix d = stepped_beside e now c (clock_whole 0 now c (of_ok c k).mid).mid.agrees (clock_prefix now c) ((h.seat_job, h.numbered), (h.range, h.header)) in
    record {
      served = served_steps c e now k h.served;
      read = reads_step c e now k h.read;
      write = same_steps c e now k h.write;
      seat_job = b.0.0;
      numbered = b.0.1;
      range = subst (λ (p : List ℕ). IsOfLeasing p d.leasing) (sym (steps_stay c e now).prefix) b.1.0;
      header = b.1.1;
    }

pub fits_clock : (now : ℕ) (c : Core) → CoreFits c → CoreFits (clock_work now c)
fits_clock now c h =
    let d = clock_work now c in
    let b : Beside c.own.waits.prefix d = clock_beside c.own.waits.prefix now c ((h.seat_job, h.numbered), (h.range, h.header)) in
    record {
      served = served_clock now c h.served;
      read = reads_clock now c h.read;
      write = clock_same now c h.write;
      seat_job = b.0.0;
      numbered = b.0.1;
      range = subst (λ (p : List ℕ). IsOfLeasing p d.leasing) (sym (clock_prefix now c)) b.1.0;
      header = b.1.1;
    }

run_fits : (c : Core) (xs : List Timed) → CoreOk c → CoreFits c → AllHeard c xs → CoreFits (ran c xs)
run_fits c [] k h b = h
run_fits c (x ∷ xs) k h b = run_fits (after c x) xs (steps_keep c x.event x.now b.0 k) (fits_step c x.event x.now k h) b.1

pub runs_fit : RunsFit
runs_fit settings xs b = run_fits (first_core settings) xs (start_fits settings) (fits_start settings) b
