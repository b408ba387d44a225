-- A step that asks what is due does what becomes of the proxy when that is sent.
use Rattle.std.proofs.Common.{◌≡◌, ℕ, true, List, Option, None, Some, refl, sym, ◌∙◌, ap}
use Rattle.std.specs.Option.{option_map}
use Rattle.proxy_model.specs.declared.session.Standing.{Standing}
use Rattle.proxy_model.specs.Session.{Session}
use Rattle.wait_model.specs.declared.due.Due.{Due}
use Rattle.wait_model.specs.DueOrder.{first_place}
use Rattle.wait_model.specs.Sent.{JobSent, job_sent}
use Rattle.watch_model.specs.declared.stream.StreamPhase.{StreamPhase}
use Rattle.watch_model.specs.declared.stream.StreamPhase.TheVariants as phase
use Rattle.watch_model.specs.Due.{first_due, next_job, sent}
use Rattle.watch_model.specs.Lookups.{numbered}
use Rattle.watch_model.specs.State.{Stream}
use Rattle.core_model.specs.declared.event.Job.TheVariants as job
use Rattle.core_model.specs.declared.event.Outcome.TheVariants as outcome
use Rattle.core_model.specs.declared.out_call.OutJob.TheVariants.{Wait}
use Rattle.core_model.specs.DueJobs.{DueJob, ForSession, ForWrites, ForAcquire, ForAsk, ForGroup, ToOpen, ForStream, first_job}
use Rattle.core_model.specs.LeasingStream.{opening_sent, watch_of}
use Rattle.core_model.specs.Sending.{next_call, session_out, seat_sent, session_sent, writes_sent, sent_by}
use Rattle.core_model.specs.Sessions.{session_request}
use Rattle.core_model.specs.State.{Seat, Opening, Core}
use Rattle.core_model.specs.Stepped.{gives}
use Rattle.core_model.specs.Watching.{with_watches, watch_from, streams_sent}
use Rattle.proxy_model.specs.Wrapped.{request_under}
use Rattle.revoke_core.specs.Sends.{after_sending}
use Rattle.core_sends.specs.Sends.{sends, sent_for, due_write, call_sent, streams_after}
use Rattle.core_sends.specs.ToSend.{session_to_send, write_to_send, opening_to_send, stream_to_send}
use Rattle.core_sends.proofs.Firsts.{IsOfIf, first_is_of}

-- the request of the session's call names no key
session_alone : (namespace : List ℕ) (ttl : ℕ) (s : Session) (x : Option Standing) → request_under namespace (session_request ttl s x) ≡ session_request ttl s x
session_alone namespace ttl s None = refl
session_alone namespace ttl s (Some x) = refl

seats_sent : (call : ℕ) (seat : Option Seat) → option_map (λ x. seat_sent call x.session) seat ≡ option_map (seat_sent call) (option_map (λ x. x.session) seat)
seats_sent call None = refl
seats_sent call (Some x) = refl

session_is : (now : ℕ) (c : Core) (s : Session) → option_map (λ x. x.session) c.seat ≡ Some s → session_sent now s c ≡ sends now (Some (session_to_send c.settings.ttl s)) c
session_is now c s h =
    let out = session_out s.number s.standing in
    let q = session_request c.settings.ttl s s.standing in
    ap (λ r. call_sent now out 0 r c (record c { seat = Some (seat_sent (next_call c) s) })) (session_alone c.settings.namespace c.settings.ttl s s.standing)
    ∙ ap (λ x. call_sent now out 0 q c (record c { seat = x })) (sym (seats_sent (next_call c) c.seat ∙ ap (λ o. option_map (seat_sent (next_call c)) o) h))

writes_are : (now : ℕ) (c : Core) (x : Option JobSent) → job_sent (next_call c) c.own ≡ x → writes_sent now x c ≡ sends now (write_to_send c.settings.namespace (option_map (λ y. y.due) x)) c
writes_are now c None e = refl
writes_are now c (Some y) e =
    ap (λ o. call_sent now Wait y.due.ticket (request_under c.settings.namespace y.due.request) c (record c { own = after_sending c.own o })) (sym e)

stream_is : (now : ℕ) (c : Core) (s : Stream) → first_due c.watches.streams ≡ Some s → (p : StreamPhase) → s.phase ≡ p → streams_sent c (sent c.watches s p) ≡ sends now (stream_to_send c.settings.namespace s p) c
stream_is now c s h p e = by_phase p e
  where
    after : (q : StreamPhase) → s.phase ≡ q → streams_after c.watches ≡ (sent c.watches s q).0
    after q f = ap (λ o. (next_job c.watches o).0) h ∙ ap (λ r. (sent c.watches s r).0) f

    by_phase : (q : StreamPhase) → s.phase ≡ q → streams_sent c (sent c.watches s q) ≡ sends now (stream_to_send c.settings.namespace s q) c
    by_phase (phase.Due since) f =
        ap (λ b. gives (with_watches c b) (outcome.Job (Some (job.Begin s.number c.members.current (request_under c.settings.namespace (watch_from s.stream.range s.stream.next)))))) (sym (after (phase.Due since) f))
    by_phase (phase.Closing since) f = ap (λ b. gives (with_watches c b) (outcome.Job (Some (job.Close s.number)))) (sym (after (phase.Closing since) f))
    by_phase phase.Begun f = refl

opening_is : (now : ℕ) (c : Core) (o : Opening) → c.leasing ≡ Some o → sent_by now (Some (ToOpen o)) c ≡ sends now (Some (opening_to_send c.settings.namespace o)) c
opening_is now c o h =
    ap (λ l. gives (record c { leasing = l }) (outcome.Job (Some (job.Begin o.number c.members.current (request_under c.settings.namespace (watch_of o.stream)))))) (sym (ap (λ l. option_map opening_sent l) h))

-- `write` is the writes' first due job, where that is the first one
pub work_is_sends : (now : ℕ) (c : Core) (write : Option Due) → numbered 0 c.watches.given c.watches.streams ≡ true → (first_job c ≡ Some ForWrites → write ≡ due_write c) → sent_by now (first_job c) c ≡ sends now (sent_for c write (first_job c)) c
work_is_sends now c write n w =
    by_job (first_job c) refl (first_is_of c.seat c.own.entries (first_place c.own.waits.writes) c.acquires c.asks c.leasing c.watches.streams c.watches.given n)
  where
    by_job : (j : Option DueJob) → first_job c ≡ j → IsOfIf c.seat c.leasing c.watches.streams j → sent_by now j c ≡ sends now (sent_for c write j) c
    by_job None e h = refl
    by_job (Some (ForSession s)) e h = session_is now c s h
    by_job (Some ForWrites) e h =
        writes_are now c (job_sent (next_call c) c.own) refl ∙ ap (λ x. sends now (write_to_send c.settings.namespace x) c) (sym (w e))
    by_job (Some (ForAcquire k x)) e h = refl
    by_job (Some (ForAsk a)) e h = refl
    by_job (Some (ForGroup lease ticket)) e h = refl
    by_job (Some (ToOpen o)) e h = opening_is now c o h
    by_job (Some (ForStream s)) e h = stream_is now c s h s.phase refl
