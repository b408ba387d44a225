-- What is due is sent: the session's call becomes the one that is out, and every other call but an acquire names no session.
use Rattle.std.proofs.Common.{◌≡◌, ℕ, ◌+◌, ◌-◌, ◌%◌, ◌==◌, ◌<◌, nat_lt, nat_le, Bool, true, false, ◌||◌, cond, List, [], ◌∷◌, ◌++◌, map, mod-lt, Option, None, Some, Ok, refl, sym, ◌∙◌, ap, subst, arith}
use Rattle.std.proofs.lemmas.Bool.Decides.{nat_tests}
use Rattle.std.specs.List.{list_any}
use Rattle.etcd_types.specs.declared.key_range.KeyRange.{KeyRange}
use Rattle.etcd_types.specs.declared.operation.Op.{Op}
use Rattle.etcd_types.specs.declared.operation.Op.TheVariants as op
use Rattle.etcd_types.specs.declared.request.Request.{Request}
use Rattle.etcd_types.specs.declared.request.Request.TheVariants as request
use Rattle.etcd_types.proofs.Bools.{or_none, or_false}
use Rattle.proxy_model.specs.declared.lease.Entry.{Entry}
use Rattle.proxy_model.specs.declared.session.Standing.{Standing}
use Rattle.proxy_model.specs.declared.session.TheConstants.{FIRST_SESSION}
use Rattle.proxy_model.specs.Guarded.{guarded, write_ops, read_owners, delete_part}
use Rattle.proxy_model.specs.PassingOn.{chosen_lease, numbered}
use Rattle.proxy_model.specs.RequestRefusals.{is_session, names_session, op_names_session}
use Rattle.proxy_model.specs.Session.{Session}
use Rattle.proxy_model.specs.SeveralKeys.{written_ranges, parts}
use Rattle.proxy_model.specs.Wrapped.{request_under, operation_under}
use Rattle.wait_model.specs.declared.due.DueCall.{DueCall}
use Rattle.wait_model.specs.declared.sending.Sending.{Sending}
use Rattle.wait_model.specs.declared.sending.Sending.TheVariants as sending
use Rattle.wait_model.specs.declared.write.Write.{Write}
use Rattle.wait_model.specs.DueOrder.{first_call, first_rescind}
use Rattle.wait_model.specs.Sent.{JobSent, is_revoke, rescind_job, revoke_job, write_job, compared, call_of, call_sent, job_sent_after, job_sent}
use Rattle.wait_model.specs.Writes.{first_by, has_ticket}
use Rattle.watch_model.specs.declared.stream.StreamJob.{StreamJob}
use Rattle.watch_model.specs.declared.stream.StreamJob.TheVariants as stream
use Rattle.watch_model.specs.Due.{next_job}
use Rattle.core_model.specs.declared.event.Job.TheVariants as sent
use Rattle.core_model.specs.declared.event.Outcome.TheVariants as outcome
use Rattle.core_model.specs.declared.out_call.OutCall.{OutCall}
use Rattle.core_model.specs.declared.out_call.OutJob.{OutJob}
use Rattle.core_model.specs.declared.out_call.OutJob.TheVariants as job
use Rattle.core_model.specs.DueJobs.{DueJob, ForSession, ForWrites, ForAcquire, ForAsk, ForGroup, ToOpen, ForStream, first_job}
use Rattle.core_model.specs.Sending.{next_call, out_call, session_out, seat_sent, session_sent, writes_sent, sent_by, on_work}
use Rattle.core_model.specs.Sessions.{is_sent_as, seat_calls, session_request}
use Rattle.core_model.specs.State.{Seat, Core}
use Rattle.core_model.specs.Stepped.{Stepped}
use Rattle.core_model.specs.Watching.{with_watches, stream_job}
use Rattle.core_fits.specs.Fits.{EachOf}
use Rattle.core_fits.proofs.Eachs.{each_kept, each_pushed}
use Rattle.core_fits.proofs.Found.{each_write}
use Rattle.core_laws.proofs.Steps.Lists.{number_itself}
use Rattle.world_model.specs.LiveSessions as told
use Rattle.session_laws.specs.Told.{seat_live, standing_live}
use Rattle.session_laws.proofs.Firsts.{AreApart, IsDueFor, KnownIf, first_known}
use Rattle.session_laws.proofs.Known.{OfCall, JobKnown, OutKnown, IsBelow, AreAlike}

-- ---- requests under the namespace, and of writes

op_under : (namespace : List ℕ) (o : Op) → op_names_session (operation_under namespace o) ≡ op_names_session o
op_under namespace (op.Range ask) = refl
op_under namespace (op.Put ask) = refl
op_under namespace (op.Delete ask) = refl
op_under namespace (op.Txn' compare m success n failure) = refl

ops_under : (namespace : List ℕ) (ops : List Op) → list_any op_names_session (map (operation_under namespace) ops) ≡ list_any op_names_session ops
ops_under namespace [] = refl
ops_under namespace (o ∷ ops) = ap (λ (b : Bool). b || list_any op_names_session (map (operation_under namespace) ops)) (op_under namespace o) ∙ ap (λ (b : Bool). op_names_session o || b) (ops_under namespace ops)

pub under_apart : (namespace : List ℕ) (q : Request) → names_session q ≡ false → names_session (request_under namespace q) ≡ false
under_apart namespace (request.Txn t) n =
    ap (λ (b : Bool). b || list_any op_names_session (map (operation_under namespace) t.failure)) (ops_under namespace t.success) ∙ ap (λ (b : Bool). list_any op_names_session t.success || b) (ops_under namespace t.failure) ∙ n
under_apart namespace (request.Range ask) n = refl
under_apart namespace (request.Put ask) n = n
under_apart namespace (request.Delete ask) n = refl
under_apart namespace (request.Compact revision physical) n = refl
under_apart namespace (request.Grant ttl lease) n = n
under_apart namespace (request.Revoke lease) n = n
under_apart namespace (request.KeepAlive lease) n = n
under_apart namespace (request.TimeToLive lease keys) n = n
under_apart namespace request.Leases n = refl
under_apart namespace (request.Watch ask) n = refl

owners_apart : (p : List ℕ) (rs : List KeyRange) → list_any op_names_session (map (read_owners p) rs) ≡ false
owners_apart p [] = refl
owners_apart p (r ∷ rs) = owners_apart p rs

parts_apart : (prev_kv : Bool) (rs : List KeyRange) → list_any op_names_session (map (delete_part prev_kv) rs) ≡ false
parts_apart prev_kv [] = refl
parts_apart prev_kv (r ∷ rs) = parts_apart prev_kv rs

guarded_apart : (p : List ℕ) (q : Request) (created : List ℕ → ℕ) → names_session q ≡ false → names_session (request.Txn (guarded p q created)) ≡ false
guarded_apart p q created n = or_none (list_any op_names_session (write_ops p q)) (list_any op_names_session (map (read_owners p) (written_ranges q))) (by q n) (owners_apart p (written_ranges q))
  where
    by : (q : Request) → names_session q ≡ false → list_any op_names_session (write_ops p q) ≡ false
    by (request.Put ask) m = or_false (is_session ask.lease) ∙ m
    by (request.Delete ask) m = parts_apart ask.prev_kv (parts p ask.range)
    by (request.Txn t) m = refl
    by (request.Range ask) m = refl
    by (request.Compact revision physical) m = refl
    by (request.Grant ttl lease) m = refl
    by (request.Revoke lease) m = refl
    by (request.KeepAlive lease) m = refl
    by (request.TimeToLive lease keys) m = refl
    by request.Leases m = refl
    by (request.Watch ask) m = refl

-- a number that was chosen for a client's lease is no session's
chosen_below : (word : ℕ) → is_session (chosen_lease word) ≡ false
chosen_below word = above (word % (FIRST_SESSION - 1)) (mod-lt word (omega arith))
  where
    above : (n : ℕ) → n < FIRST_SESSION - 1 → nat_le FIRST_SESSION (1 + n) ≡ false
    above n l = grind (arith, nat_tests)

numbered_apart : (word : ℕ) (q : Request) → names_session q ≡ false → names_session (numbered word q) ≡ false
numbered_apart word (request.Grant ttl lease) n = by (lease == 0)
  where
    by : (b : Bool) → is_session (cond b (chosen_lease word) lease) ≡ false
    by true = chosen_below word
    by false = n
numbered_apart word (request.Range ask) n = n
numbered_apart word (request.Put ask) n = n
numbered_apart word (request.Delete ask) n = n
numbered_apart word (request.Txn t) n = n
numbered_apart word (request.Compact revision physical) n = n
numbered_apart word (request.Revoke lease) n = n
numbered_apart word (request.KeepAlive lease) n = n
numbered_apart word (request.TimeToLive lease keys) n = n
numbered_apart word request.Leases n = n
numbered_apart word (request.Watch ask) n = n

-- ---- what is sent

-- a call that a step sends is known, with the reading at which it was sent
abbrev pub SendsKnown : OfCall → ℕ → Stepped → Type 0
SendsKnown E now s = (own member ticket : ℕ) (q : Request) → s.outcome ≡ Ok (outcome.Job (Some (sent.Call own member ticket q))) → E own q now

module _ (E : OfCall) (bound now : ℕ) (s : Option told.Session) (c : Core) (alike : AreAlike now s c.seat) (k : EachOf (OutKnown E bound c.seat) c.out) (below : IsBelow bound c.seat) (apart : AreApart c) where
  abbrev pub Leaves : Stepped → Type 0
  Leaves x = AreAlike now s x.core.seat × (EachOf (OutKnown E bound x.core.seat) x.core.out × IsBelow bound x.core.seat)

  as_it_was : AreAlike now s c.seat × (EachOf (OutKnown E bound c.seat) c.out × IsBelow bound c.seat)
  as_it_was = (alike, (k, below))

  -- another call is out
  pushed : (j : OutJob) → JobKnown E bound c.seat (out_call now j c) j → AreAlike now s c.seat × (EachOf (OutKnown E bound c.seat) (c.out ++ out_call now j c ∷ []) × IsBelow bound c.seat)
  pushed j h = (alike, (each_pushed (OutKnown E bound c.seat) (out_call now j c) c.out k h, below))

  not_due : (call since : ℕ) (o : Option Sending) → o ≡ Some (sending.Due since) → is_sent_as call o ≡ true → ⊥
  not_due call since o e h = absurd (let f : false ≡ true = sym (ap (is_sent_as call) e) ∙ h in cc)

  session_leaves : (x : Session) → IsDueFor c.seat x → SendsKnown E now (session_sent now x c) → Leaves (session_sent now x c)
  session_leaves x d e = (
    λ t l f. alike t l f ∙ ap (seat_live t) d.stands ∙ ap (λ (y : Session). standing_live t y.number y.standing) d.session,
    (
      each_pushed (OutKnown E bound next) (out_call now (session_out x.number x.standing) c) c.out (each_kept (OutKnown E bound c.seat) (OutKnown E bound next) (λ o h. old o o.job h) c.out k) (by x.standing (e (next_call c) c.members.current 0 (request_under c.settings.namespace (session_request c.settings.ttl x x.standing)) refl)),
      λ r i. number r i,
    ),
  )
    where
      next : Option Seat
      next = Some (seat_sent (next_call c) x)

      number : (r : Seat) → next ≡ Some r → nat_lt r.session.number bound ≡ true
      number r i = let one : seat_sent (next_call c) x ≡ r = cc in ap (λ (y : Seat). nat_lt y.session.number bound) (sym one) ∙ ap (λ (y : Session). nat_lt y.number bound) (sym d.session) ∙ below d.sits d.stands

      old : (o : OutCall) (j : OutJob) → JobKnown E bound c.seat o j → JobKnown E bound next o j
      old o (job.Grant lease) h = absurd (not_due o.call d.since d.sits.call d.due (subst (λ (y : Option Seat). seat_calls o.call y ≡ true) d.stands h.1))
      old o (job.Keep lease) h = (
        h.0,
        h.1,
        λ r i m. absurd (not_due o.call d.since d.sits.call d.due (h.2 d.sits d.stands (ap (λ (y : Session). y.number) d.session ∙ (let one : seat_sent (next_call c) x ≡ r = cc in ap (λ (y : Seat). y.session.number) one) ∙ m))),
      )
      old o (job.Acquire j) h = h
      old o job.Wait h = h
      old o (job.Ask kind) h = h
      old o (job.Group lease) h = h

      by : (st : Option Standing) → E (next_call c) (request_under c.settings.namespace (session_request c.settings.ttl x st)) now → JobKnown E bound next (out_call now (session_out x.number st) c) (session_out x.number st)
      by None h = ((c.settings.ttl, h), number_itself (next_call c))
      by (Some y) h = (
        h,
        ap (λ (z : Session). nat_lt z.number bound) (sym d.session) ∙ below d.sits d.stands,
        λ r i m. (let one : seat_sent (next_call c) x ≡ r = cc in ap (λ (z : Seat). is_sent_as (next_call c) z.call) (sym one)) ∙ number_itself (next_call c),
      )

  writes_leave : SendsKnown E now (writes_sent now (job_sent (next_call c) c.own) c) → Leaves (writes_sent now (job_sent (next_call c) c.own) c)
  unfolding job_sent
  writes_leave = by_rescind (first_rescind c.own.entries)
    where
      goes : (x : JobSent) → names_session x.due.request ≡ false → SendsKnown E now (writes_sent now (Some x) c) → Leaves (writes_sent now (Some x) c)
      goes x n e =
          pushed job.Wait (request_under c.settings.namespace x.due.request, e (next_call c) c.members.current x.due.ticket (request_under c.settings.namespace x.due.request) refl, under_apart c.settings.namespace x.due.request n)

      by_kind : (d : DueCall) (w : Write) → names_session w.request ≡ false → (b : Bool) → SendsKnown E now (writes_sent now (Some (cond b (revoke_job (next_call c) d w c.own) (write_job (next_call c) d w c.own))) c)
          → Leaves (writes_sent now (Some (cond b (revoke_job (next_call c) d w c.own) (write_job (next_call c) d w c.own))) c)
      by_kind d w n true = goes (revoke_job (next_call c) d w c.own) refl
      by_kind d w n false = goes (write_job (next_call c) d w c.own) (guarded_apart c.own.waits.prefix w.request (compared w c.own.entries) n)

      by_write : (d : DueCall) (o : Option Write) → first_by (has_ticket d.place.number) c.own.waits.writes ≡ o → SendsKnown E now (writes_sent now (call_of (next_call c) d o c.own) c) → Leaves (writes_sent now (call_of (next_call c) d o c.own) c)
      by_write d None f e = as_it_was
      by_write d (Some w) f e = by_kind d w (each_write (λ v. names_session v.request ≡ false) (has_ticket d.place.number) c.own.waits.writes w apart.1 f) (is_revoke d.place.kind) e

      by_call : (o : Option DueCall) → SendsKnown E now (writes_sent now (call_sent (next_call c) o c.own) c) → Leaves (writes_sent now (call_sent (next_call c) o c.own) c)
      by_call None e = as_it_was
      by_call (Some d) e = by_write d (first_by (has_ticket d.place.number) c.own.waits.writes) refl e

      by_rescind : (o : Option (List ℕ × Entry)) → SendsKnown E now (writes_sent now (job_sent_after (next_call c) o c.own) c) → Leaves (writes_sent now (job_sent_after (next_call c) o c.own) c)
      by_rescind None e = by_call (first_call c.own.waits.writes) e
      by_rescind (Some x) e = goes (rescind_job (next_call c) x c.own) refl e

  sent_leaves : (j : Option DueJob) → KnownIf c.seat j → SendsKnown E now (sent_by now j c) → Leaves (sent_by now j c)
  sent_leaves None d e = as_it_was
  sent_leaves (Some (ForSession x)) d e = session_leaves x d e
  sent_leaves (Some ForWrites) d e = writes_leave e
  sent_leaves (Some (ForAcquire i x)) d e = pushed (job.Acquire i) tt
  sent_leaves (Some (ForAsk a)) d e =
      pushed (job.Ask (Rattle.core_model.specs.Kinds.kind_of a.request))
      (request_under c.settings.namespace (numbered a.word a.request), e (next_call c) c.members.current a.ticket (request_under c.settings.namespace (numbered a.word a.request)) refl, under_apart c.settings.namespace (numbered a.word a.request) (numbered_apart a.word a.request d))
  sent_leaves (Some (ForGroup lease ticket)) d e = pushed (job.Group lease) (request.KeepAlive lease, e (next_call c) c.members.current ticket (request.KeepAlive lease) refl, d)
  sent_leaves (Some (ToOpen o)) d e = as_it_was
  sent_leaves (Some (ForStream x)) d e = by (next_job c.watches (Some x)).1
    where
      by : (i : Option StreamJob) → Leaves (stream_job i (with_watches c (next_job c.watches (Some x)).0))
      by None = as_it_was
      by (Some (stream.Close number)) = as_it_was
      by (Some (stream.Open number range start)) = as_it_was

  pub work_leaves : SendsKnown E now (on_work now c) → Leaves (on_work now c)
  unfolding on_work
  work_leaves e = sent_leaves (first_job c) (first_known c apart) e
