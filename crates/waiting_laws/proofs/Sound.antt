-- A proxy is sound at its start, and every step keeps it so, and so does its clock work.
use Rattle.std.proofs.Common.{refl, sym, subst}
use Rattle.core_model.specs.ClockWork.{clock_work}
use Rattle.core_model.specs.State.{Core}
use Rattle.core_model.specs.Step.{stepped}
use Rattle.core_laws.proofs.Steps.Middle.{clock_whole}
use Rattle.core_laws.proofs.Steps.Start.{start_fits}
use Rattle.core_laws.proofs.Steps.Stepping.{steps_keep}
use Rattle.core_laws.proofs.Steps.Whole.{is_ok, of_ok}
use Rattle.core_fits.proofs.Fit.{fits_start, fits_step, fits_clock}
use Rattle.core_laws.proofs.Watches.Alone.{steps_leave_alone}
use Rattle.core_laws.proofs.Watches.Runs as watches
use Rattle.watch_model.specs.State.{Broadcasts}
use Rattle.watch_laws.specs.Alone.{StandAlone}
use Rattle.core_laws.specs.Watches.Laws.{AreWaiting}
use Rattle.core_laws.proofs.Watches.Touches.{clock_watches}
use Rattle.waiting_laws.specs.Sound.{StartsSound, StepsStaySound, ClockWorkStaysSound, SoundIsNotIdle}
use Rattle.waiting_laws.proofs.Ends.{CoreOut, clock_out}
use Rattle.waiting_laws.proofs.Requests.{requests_wait}
use Rattle.waiting_laws.proofs.Steps.{step_out, they_are_out, rescinds_out}
use Rattle.waiting_laws.proofs.Watches.{watches_wait}

pub starts_sound : StartsSound
starts_sound settings = record {
  parts_agree = start_fits settings;
  parts_fit = fits_start settings;
  entries_in_order = refl;
  rescinds_are_out = λ k e f p. absurd (cc);
  watches_wait = watches.start_waits settings;
  streams_stand_alone = record { alone = λ range j k s t a b d e n. absurd (cc); fresh = λ k s e d. absurd (cc) };
}

pub steps_stay_sound : StepsStaySound
steps_stay_sound c e now b h =
    let d = (stepped c e now).core in
    let out : CoreOut d = step_out c e now (rescinds_out c h.entries_in_order h.rescinds_are_out) in
    record {
      parts_agree = steps_keep c e now b h.parts_agree;
      parts_fit = fits_step c e now h.parts_agree h.parts_fit;
      entries_in_order = out.order;
      rescinds_are_out = they_are_out d out;
      watches_wait = watches.steps_keep c e now h.watches_wait;
      streams_stand_alone = steps_leave_alone c e now h.watches_wait h.streams_stand_alone;
    }

pub clock_stays_sound : ClockWorkStaysSound
clock_stays_sound c now h =
    let d = clock_work now c in
    let out : CoreOut d = clock_out now c (rescinds_out c h.entries_in_order h.rescinds_are_out) in
    record {
      parts_agree = is_ok d (clock_whole 0 now c (of_ok c h.parts_agree).mid);
      parts_fit = fits_clock now c h.parts_fit;
      entries_in_order = out.order;
      rescinds_are_out = they_are_out d out;
      watches_wait = subst (λ (b : Broadcasts). AreWaiting b) (sym (clock_watches now c)) (record { numbers = h.watches_wait.numbers; watches = h.watches_wait.watches });
      streams_stand_alone = subst (λ (b : Broadcasts). StandAlone b.streams) (sym (clock_watches now c)) h.streams_stand_alone;
    }

pub sound_not_idle : SoundIsNotIdle
sound_not_idle c h = record { requests = requests_wait c h.parts_agree h.parts_fit h.rescinds_are_out; watches = watches_wait c h.watches_wait }
