-- What the sending of a job asks for beside: at the start, by each step, after each run.
use Rattle.std.proofs.Common.{◌≡◌, Bool, true, false, List, [], ◌∷◌, refl, sym, ◌∙◌, ap}
use Rattle.etcd_types.specs.Keys.{is_empty}
use Rattle.read_model.specs.declared.asked.Asked.{Asked}
use Rattle.core_model.specs.Asking.{is_leased_read}
use Rattle.core_model.specs.Fits.{CoreOk}
use Rattle.core_model.specs.State.{Core, first_core}
use Rattle.core_model.specs.Step.{stepped}
use Rattle.core_laws.specs.Steps.Kept.{after, ran, Timed, AllHeard}
use Rattle.core_laws.proofs.Steps.Middle.{clock_whole}
use Rattle.core_laws.proofs.Steps.Start.{start_fits}
use Rattle.core_laws.proofs.Steps.Staying.{steps_stay}
use Rattle.core_laws.proofs.Steps.Stepping.{steps_keep}
use Rattle.core_laws.proofs.Steps.Whole.{of_ok}
use Rattle.core_fits.specs.Fits.{EachOf, is_reading, CoreFits}
use Rattle.core_fits.proofs.Eachs.{each_kept}
use Rattle.core_fits.proofs.Fit.{fits_start, fits_step}
use Rattle.core_fits.proofs.Prefix.{clock_prefix}
use Rattle.step_moves.specs.Work.{is_calling, is_called}
use Rattle.step_moves.specs.Lasting.{SendingFits, SendingStarts, SendingLasts, SendingRuns}
use Rattle.step_moves.proofs.Stages.{Fits}
use Rattle.step_moves.proofs.Walk.{stepped_fit}

pub sending_starts : SendingStarts
sending_starts settings = record { in_order = refl; clients = λ e. tt }

pub sending_lasts : SendingLasts
sending_lasts c e now ok reads h =
    let p = c.own.waits.prefix in
    let s = stepped_fit p e now c (clock_whole 0 now c (of_ok c ok).mid).mid.agrees (clock_prefix now c) (h.in_order, zipped (is_empty p) refl) in
    record {
      in_order = s.0;
      clients = λ l. each_kept (Fits p) (λ a. is_calling a.stage ≡ true → is_called a.request ≡ true) (λ a f. f.calls (ap is_empty (sym (steps_stay c e now).prefix) ∙ l)) (stepped c e now).core.asks s.1;
    }
  where
    alone : (xs : List Asked) → (is_empty c.own.waits.prefix ≡ true) → EachOf (λ a. is_reading a.stage ≡ true → is_leased_read c.own.waits.prefix a.request ≡ true) xs → EachOf (Fits c.own.waits.prefix) xs
    alone [] e r = tt
    alone (x ∷ xs) e r = (record { reads = r.0; calls = λ f g. absurd (cc) }, alone xs e r.1)

    both : (xs : List Asked) → EachOf (λ a. is_calling a.stage ≡ true → is_called a.request ≡ true) xs → EachOf (λ a. is_reading a.stage ≡ true → is_leased_read c.own.waits.prefix a.request ≡ true) xs → EachOf (Fits c.own.waits.prefix) xs
    both [] k r = tt
    both (x ∷ xs) k r = (record { reads = r.0; calls = λ f g. k.0 g }, both xs k.1 r.1)

    zipped : (b : Bool) → is_empty c.own.waits.prefix ≡ b → EachOf (Fits c.own.waits.prefix) c.asks
    zipped true e = alone c.asks e reads
    zipped false e = both c.asks (h.clients e) reads

run_fits : (c : Core) (xs : List Timed) → CoreOk c → CoreFits c → SendingFits c → AllHeard c xs → SendingFits (ran c xs)
run_fits c [] k h s b = s
run_fits c (x ∷ xs) k h s b = run_fits (after c x) xs (steps_keep c x.event x.now b.0 k) (fits_step c x.event x.now k h) (sending_lasts c x.event x.now k h.read s) b.1

pub sending_runs : SendingRuns
sending_runs settings xs b = run_fits (first_core settings) xs (start_fits settings) (fits_start settings) (sending_starts settings) b
