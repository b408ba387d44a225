-- Each watch that wasn't cancelled waits for its stream, or for its queue to be taken.
use Rattle.std.proofs.Common.{◌≡◌, ℕ, ◌==◌, true, false, not, List, [], ◌∷◌, Option, None, Some, refl, sym, ◌∙◌, ap}
use Rattle.std.specs.List.{list_any}
use Rattle.etcd_types.proofs.Bools.{or_left}
use Rattle.core_fits.specs.Fits.{EachOf}
use Rattle.core_laws.proofs.Steps.Lists.{number_itself}
use Rattle.core_model.specs.DueJobs.{due_phase}
use Rattle.core_model.specs.State.{Core}
use Rattle.core_model.specs.WaitsFor as idle
use Rattle.watch_model.proofs.Streams.{at_number}
use Rattle.watch_model.specs.declared.place.WatchPlace.{WatchPlace}
use Rattle.watch_model.specs.declared.place.WatchPlace.TheVariants as place
use Rattle.watch_model.specs.declared.stream.StreamPhase.{StreamPhase}
use Rattle.watch_model.specs.declared.stream.StreamPhase.TheVariants as phase
use Rattle.watch_model.specs.Lookups.{stream_at, is_closing}
use Rattle.watch_model.specs.State.{Stream, Watch}
use Rattle.watch_model.specs.Story.{EachWatch}
use Rattle.waiting_laws.specs.Calls.{is_of_stream}
use Rattle.waiting_laws.specs.Waiting.{is_ended, StreamRuns, WatchWaitsFor, member, queued}
use Rattle.waiting_laws.specs.Laws.{WatchesWait}
use Rattle.waiting_laws.proofs.Due.{stream_due}

runs : (c : Core) (s : Stream) (n : ℕ) → stream_at n c.watches.streams ≡ Some s → (p : StreamPhase) → s.phase ≡ p → not (is_closing p) ≡ true → StreamRuns c s.number p
runs c s n e (phase.Due since) q t =
    stream_due (λ x. is_of_stream s.number x.job) c s n e
    (ap (λ (p : StreamPhase). list_any (λ x. is_of_stream s.number x.job) (due_phase s p)) q ∙ or_left (s.number == s.number) false (number_itself s.number))
runs c s n e phase.Begun q t = tt
runs c s n e (phase.Closing since) q t = absurd (cc)

watch_waits : (c : Core) (w : Watch) (p : WatchPlace) → w.place ≡ p → idle.WatchWaits c.watches.streams p w.queue → is_ended p ≡ false → WatchWaitsFor c w
watch_waits c w (place.In number) e h t = by (stream_at number c.watches.streams) refl h
  where
    by : (o : Option Stream) → stream_at number c.watches.streams ≡ o → idle.is_kept o ≡ true → WatchWaitsFor c w
    by None f u = absurd (cc)
    by (Some s) f u =
        let same = at_number number c.watches.streams s f in
        member (record { stream = s; joined = e ∙ ap place.In (sym same); stands = ap (λ n. stream_at n c.watches.streams) same ∙ f; runs = runs c s number f s.phase refl u })
watch_waits c w place.Split e h t = queued (record { split = e; queued = h })
watch_waits c w place.Ended e h t = absurd (cc)

all_wait : (c : Core) (ws : List Watch) → EachWatch (λ w. idle.WatchWaits c.watches.streams w.place w.queue) ws → EachOf (λ w. is_ended w.place ≡ false → WatchWaitsFor c w) ws
all_wait c [] h = tt
all_wait c (w ∷ ws) h = (watch_waits c w w.place refl h.0, all_wait c ws h.1)

pub watches_wait : WatchesWait
watches_wait c h = all_wait c c.watches.watches h.watches
