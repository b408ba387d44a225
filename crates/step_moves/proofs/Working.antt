-- The first due job is sent.
use Rattle.std.proofs.Common.{◌≡◌, ℕ, ◌+◌, cond, List, Option, None, Some, refl, subst}
use Rattle.proxy_model.specs.declared.lease.Entry.{Entry}
use Rattle.wait_model.specs.declared.due.DueCall.{DueCall}
use Rattle.wait_model.specs.declared.due.JobKind.{JobKind}
use Rattle.wait_model.specs.declared.due.JobKind.TheVariants as kind
use Rattle.wait_model.specs.declared.write.Write.{Write}
use Rattle.wait_model.specs.DueOrder.{first_call, first_rescind}
use Rattle.wait_model.specs.Sent.{is_revoke, revoke_job, write_job, call_of, call_sent, job_sent_after, job_sent}
use Rattle.wait_model.specs.Writes.{first_by, has_ticket}
use Rattle.watch_model.specs.declared.stream.StreamJob.{StreamJob}
use Rattle.watch_model.specs.declared.stream.StreamJob.TheVariants as stream
use Rattle.watch_model.specs.Due.{next_job}
use Rattle.watch_model.specs.State.{Broadcasts}
use Rattle.core_model.specs.DueJobs.{DueJob, ForSession, ForWrites, ForAcquire, ForAsk, ForGroup, ToOpen, ForStream, first_job}
use Rattle.core_model.specs.Sending.{next_call, writes_sent, sent_by, on_work}
use Rattle.core_model.specs.State.{Core}
use Rattle.core_model.specs.Watching.{streams_sent}
use Rattle.core_laws.proofs.Steps.Due.{DueIf, first_due}
use Rattle.core_laws.proofs.Steps.Requests.{once_writing}
use Rattle.cache_laws.specs.Moves.View.{View}
use Rattle.cache_laws.specs.Moves.Invariant.{Inv}
use Rattle.owner_fits.proofs.Runs.{due_acquires_stand}
use Rattle.core_moves.specs.Sees.{Sees}
use Rattle.core_moves.proofs.Clocks.{stays_so}
use Rattle.step_moves.specs.Work.{MaySend, Worked, WorkMoves}
use Rattle.step_moves.proofs.Sessions.{session_moves}
use Rattle.step_moves.proofs.Asks.{due_ask_fits, ask_moves, group_moves}
use Rattle.step_moves.proofs.Acquires.{acquire_moves}
use Rattle.step_moves.proofs.DueCalls.{rescind_stands, CallFits, CallIs, first_fits}
use Rattle.step_moves.proofs.Rescinds.{rescind_moves, revoke_moves}
use Rattle.step_moves.proofs.Writing.{write_moves}

module _ (holder : ℕ → ℕ) (v : View) (p now : ℕ) (own : ℕ → ℕ) (c : Core) (s : Sees v p now own c) (h : Inv holder v) (r : MaySend c) (number : own (next_call c) ≡ v.sent + 1) where
  -- entries and writes

  call_moves : (d : DueCall) (w : Write) → first_by (has_ticket d.place.number) c.own.waits.writes ≡ Some w → (k : JobKind) → CallIs c.own.waits.writes d k → Worked holder v p now own c (writes_sent now (Some (cond (is_revoke k) (revoke_job (next_call c) d w c.own) (write_job (next_call c) d w c.own))) c)
  call_moves d w f kind.Revoke fits = revoke_moves holder v p now own c s h r d w f fits
  call_moves d w f kind.Call fits = write_moves holder v p now own c s h r number d w f (fits w f)
  call_moves d w f kind.Close fits = absurd fits
  call_moves d w f kind.Open fits = absurd fits

  writes_move : Worked holder v p now own c (writes_sent now (job_sent (next_call c) c.own) c)
  unfolding job_sent
  writes_move = by_rescind (first_rescind c.own.entries) refl
    where
      by_write : (d : DueCall) (o : Option Write) → first_by (has_ticket d.place.number) c.own.waits.writes ≡ o → CallFits c.own.waits.writes d → Worked holder v p now own c (writes_sent now (call_of (next_call c) d o c.own) c)
      by_write d None f fits = stays_so holder v p now own c s h
      by_write d (Some w) f fits = call_moves d w f d.place.kind fits

      by_call : (o : Option DueCall) → first_call c.own.waits.writes ≡ o → Worked holder v p now own c (writes_sent now (call_sent (next_call c) o c.own) c)
      by_call None e = stays_so holder v p now own c s h
      by_call (Some d) e = by_write d (first_by (has_ticket d.place.number) c.own.waits.writes) refl (first_fits c.own.waits.writes d (once_writing c.asks c.own.waits.writes r.ok.agrees.asks) r.names.found e)

      by_rescind : (o : Option (List ℕ × Entry)) → first_rescind c.own.entries ≡ o → Worked holder v p now own c (writes_sent now (job_sent_after (next_call c) o c.own) c)
      by_rescind None e = by_call (first_call c.own.waits.writes) refl
      by_rescind (Some x) e = rescind_moves holder v p now own c s h r x (rescind_stands c.own.entries x r.in_order e)

  -- streams: no call goes out
  stream_moves : (x : Broadcasts × Option StreamJob) → Worked holder v p now own c (streams_sent c x)
  stream_moves (b, None) = stays_so holder v p now own (record c { watches = b }) (record { clock = s.clock; term = s.term; row = s.row }) h
  stream_moves (b, Some (stream.Close n)) = stays_so holder v p now own (record c { watches = b }) (record { clock = s.clock; term = s.term; row = s.row }) h
  stream_moves (b, Some (stream.Open n range start)) = stays_so holder v p now own (record c { watches = b }) (record { clock = s.clock; term = s.term; row = s.row }) h

  pub job_moves : (o : Option DueJob) → first_job c ≡ o → Worked holder v p now own c (sent_by now o c)
  job_moves None e = stays_so holder v p now own c s h
  job_moves (Some (ForSession x)) e = session_moves holder v p now own c s h x (subst (DueIf c) e (first_due c r.ok.agrees)) r.fits.numbered
  job_moves (Some ForWrites) e = writes_move
  job_moves (Some (ForAcquire k a)) e = acquire_moves holder v p now own c s h r number k a (due_acquires_stand c k a r.owners e)
  job_moves (Some (ForAsk a)) e = let f = due_ask_fits c a r.fits r.clients e in ask_moves holder v p now own c s h a f.0 f.1
  job_moves (Some (ForGroup lease ticket)) e = group_moves holder v p now own c s h lease ticket
  job_moves (Some (ToOpen o)) e = stays_so holder v p now own _ (record { clock = s.clock; term = s.term; row = s.row }) h
  job_moves (Some (ForStream x)) e = stream_moves (next_job c.watches (Some x))

pub work_moves : WorkMoves
unfolding on_work
work_moves holder v p now own c r number s h = job_moves holder v p now own c s h r number (first_job c) refl
