-- A proxy's first due job is the opening or the closing of a stream: nothing that the view sees moves, and the leasing stream is opened
-- as a watch of the ownership keys.
use Rattle.std.proofs.Common.{◌≡◌, ◌⊎◌, inl, inr, ℕ, true, false, List, Option, None, Some, Result, Ok, refl}
use Rattle.etcd_types.specs.declared.request.Request.{Request}
use Rattle.etcd_types.specs.declared.request.Request.TheVariants as request
use Rattle.etcd_types.specs.declared.request.WatchAsk.{WatchAsk}
use Rattle.proxy_model.specs.Prefixes.{leasing_range}
use Rattle.proxy_model.specs.Wrapped.{watch_under}
use Rattle.wait_model.specs.Sent.{JobSent, job_sent}
use Rattle.watch_model.specs.declared.stream.StreamJob.{StreamJob}
use Rattle.watch_model.specs.declared.stream.StreamJob.TheVariants as stream
use Rattle.watch_model.specs.declared.stream.StreamPhase.{StreamPhase}
use Rattle.watch_model.specs.declared.stream.StreamPhase.TheVariants as phase
use Rattle.watch_model.specs.Due.{next_job}
use Rattle.watch_model.specs.Due as due
use Rattle.watch_model.specs.State.{Stream, Broadcasts}
use Rattle.core_model.specs.declared.event.Job.TheVariants as sent
use Rattle.core_model.specs.declared.event.Outcome.{Outcome}
use Rattle.core_model.specs.declared.event.Outcome.TheVariants as outcome
use Rattle.core_model.specs.declared.event.StepFault.{StepFault}
use Rattle.core_model.specs.DueJobs.{DueJob, ForSession, ForWrites, ForAcquire, ForAsk, ForGroup, ToOpen, ForStream, first_job}
use Rattle.core_model.specs.Sending.{next_call, writes_sent, stream_opened, sent_by, on_work}
use Rattle.core_model.specs.State.{Opening, Core}
use Rattle.core_model.specs.Stepped.{Stepped}
use Rattle.core_model.specs.Watching.{streams_sent}
use Rattle.core_fits.specs.Fits.{IsOfLeasing}
use Rattle.core_fits.proofs.Openings.{OpensIf, first_opens}
use Rattle.core_moves.specs.Sees.{ground_in}
use Rattle.core_laws.proofs.Watches.Touches.{IsAmong}
use Rattle.step_moves.specs.Work.{call_in}
use Rattle.turn_laws.proofs.StreamJobs.{IsOneIf, first_is_one}

-- the session, and what rows are of
pub record Unmoved (c d : Core) : Type 0 where
  pub seat : d.seat ≡ c.seat
  pub ground : ground_in d ≡ ground_in c

abbrev pub UnmovedIf : Core → Stepped → Type 0
UnmovedIf c x = call_in x.outcome ≡ None → Unmoved c x.core

no_call : {A : Type 0} (q : Request) → Some q ≡ None → A
no_call q e = absurd (cc)

writes_unmoved : (now : ℕ) (x : Option JobSent) (c : Core) → UnmovedIf c (writes_sent now x c)
writes_unmoved now None c e = record { seat = refl; ground = refl }
writes_unmoved now (Some x) c e = no_call _ e

streams_unmoved : (c : Core) (x : Broadcasts × Option StreamJob) → UnmovedIf c (streams_sent c x)
streams_unmoved c (b, None) e = record { seat = refl; ground = refl }
streams_unmoved c (b, Some (stream.Close number)) e = record { seat = refl; ground = refl }
streams_unmoved c (b, Some (stream.Open number range start)) e = record { seat = refl; ground = refl }

job_unmoved : (now : ℕ) (j : Option DueJob) (c : Core) → UnmovedIf c (sent_by now j c)
job_unmoved now None c e = record { seat = refl; ground = refl }
job_unmoved now (Some (ForSession s)) c e = no_call _ e
job_unmoved now (Some ForWrites) c e = writes_unmoved now (job_sent (next_call c) c.own) c e
job_unmoved now (Some (ForAcquire k x)) c e = no_call _ e
job_unmoved now (Some (ForAsk a)) c e = no_call _ e
job_unmoved now (Some (ForGroup lease ticket)) c e = no_call _ e
job_unmoved now (Some (ToOpen o)) c e = record { seat = refl; ground = refl }
job_unmoved now (Some (ForStream s)) c e = streams_unmoved c (next_job c.watches (Some s)) e

pub work_unmoved : (now : ℕ) (c : Core) → UnmovedIf c (on_work now c)
unfolding on_work
work_unmoved now c = job_unmoved now (first_job c) c

-- What is opened: a watch of a bare range under the namespace, either of the ownership keys, or for one of the client streams, which
-- has this number.
pub record Opened (prefix : List ℕ) (c : Core) (own : ℕ) (ask : WatchAsk) : Type 0 where
  pub bare : WatchAsk
  pub under : ask ≡ watch_under c.settings.namespace bare
  pub of : (bare.range ≡ leasing_range prefix) ⊎ ((s : Stream) × IsAmong s c.watches.streams × (s.number ≡ own))

abbrev Begun : ℕ → ℕ → WatchAsk → Result Outcome StepFault → Type 0
Begun own member ask o = o ≡ Ok (outcome.Job (Some (sent.Begin own member (request.Watch ask))))

module _ (prefix : List ℕ) (own member : ℕ) (ask : WatchAsk) where
  writes_opened : (now : ℕ) (x : Option JobSent) (c : Core) → Begun own member ask (writes_sent now x c).outcome → Opened prefix c own ask
  writes_opened now None c e = absurd (cc)
  writes_opened now (Some x) c e = absurd (cc)

  opening_opened : (c : Core) (o : Opening) → IsOfLeasing prefix (Some o) → Begun own member ask (stream_opened o c).outcome → Opened prefix c own ask
  opening_opened c o h e = record {
    bare = record { range = o.stream.range; start = o.stream.next; no_put = false; no_delete = false; prev_kv = false; progress = false };
    under = cc;
    of = inl h;
  }

  stream_job_opened : (c : Core) (s : Stream) (p : StreamPhase) → IsAmong s c.watches.streams → Begun own member ask (streams_sent c (due.sent c.watches s p)).outcome → Opened prefix c own ask
  stream_job_opened c s (phase.Closing since) i e = absurd (cc)
  stream_job_opened c s phase.Begun i e = absurd (cc)
  stream_job_opened c s (phase.Due since) i e = record {
    bare = record { range = s.stream.range; start = s.stream.next; no_put = false; no_delete = false; prev_kv = true; progress = true };
    under = cc;
    of = inr (s, i, cc);
  }

  job_opened : (now : ℕ) (j : Option DueJob) (c : Core) → OpensIf prefix j → IsOneIf c.watches.streams j → Begun own member ask (sent_by now j c).outcome → Opened prefix c own ask
  job_opened now None c h i e = absurd (cc)
  job_opened now (Some (ForSession s)) c h i e = absurd (cc)
  job_opened now (Some ForWrites) c h i e = writes_opened now (job_sent (next_call c) c.own) c e
  job_opened now (Some (ForAcquire k x)) c h i e = absurd (cc)
  job_opened now (Some (ForAsk a)) c h i e = absurd (cc)
  job_opened now (Some (ForGroup lease ticket)) c h i e = absurd (cc)
  job_opened now (Some (ToOpen o)) c h i e = opening_opened c o h e
  job_opened now (Some (ForStream s)) c h i e = stream_job_opened c s s.phase i e

  pub work_opened : (now : ℕ) (c : Core) → IsOfLeasing prefix c.leasing → Begun own member ask (on_work now c).outcome → Opened prefix c own ask
  unfolding on_work
  work_opened now c h e = job_opened now (first_job c) c (first_opens prefix c h) (first_is_one c) e
