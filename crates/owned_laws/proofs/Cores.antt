-- A key that is watched, step by step: the clock's work, ends of calls, requests, messages and sent jobs leave it so.
use Rattle.std.proofs.Common.{◌≡◌, ℕ, ◌==◌, Bool, true, false, cond, ◌&&◌, List, [], ◌∷◌, ◌++◌, map, Option, None, Some, Ok, Err, refl, sym, ◌∙◌, ap, subst}
use Rattle.etcd_types.specs.declared.answer.Answer.{Answer}
use Rattle.etcd_types.specs.declared.answer.Answer.TheVariants.{Done, Refused}
use Rattle.etcd_types.specs.declared.answer.Body.{Body}
use Rattle.etcd_types.specs.declared.answer.Body.TheVariants as body
use Rattle.etcd_types.specs.declared.answer.Refusal.{Refusal}
use Rattle.etcd_types.specs.declared.request.Request.{Request}
use Rattle.etcd_types.specs.declared.request.Request.TheVariants as request
use Rattle.etcd_types.specs.declared.watch.WatchItem.{WatchItem}
use Rattle.etcd_types.specs.declared.watch.WatchItem.TheVariants as item
use Rattle.proxy_model.specs.Keyed.{at}
use Rattle.proxy_model.specs.SeveralKeys.{written_ranges}
use Rattle.proxy_model.specs.Unwrapped.{Unwrapped, item_without}
use Rattle.wait_model.specs.Asked.{submitted}
use Rattle.wait_model.specs.Covers.{covered}
use Rattle.wait_model.specs.LeasingStream.{resynced, all_given_up}
use Rattle.wait_model.specs.Notices.{all_noticed}
use Rattle.wait_model.specs.Passes.{proceeded}
use Rattle.wait_model.specs.Sent.{JobSent, job_sent}
use Rattle.wait_model.specs.State.{Ownership, step_begun}
use Rattle.read_model.specs.declared.asked.Asked.{Asked}
use Rattle.read_model.specs.declared.asked.Stage.{Stage}
use Rattle.read_model.specs.declared.asked.Stage.TheVariants as stage
use Rattle.read_model.specs.declared.asked.Verdict.TheVariants as verdict
use Rattle.read_model.specs.Acquires.{read_asked, AfterAcquire, acquire_answered}
use Rattle.read_model.specs.PlainRead.{decided_ask}
use Rattle.read_model.specs.SessionEnd.{is_due}
use Rattle.read_model.specs.State.{Reads, Moment, ground_of}
use Rattle.read_model.specs.WriteAnswers.{wait_answered}
use Rattle.watch_model.specs.Due as watches_due
use Rattle.watch_model.specs.Lookups.{stream_at, watch_at, is_begun}
use Rattle.watch_model.specs.State.{Stream, Watch, Broadcasts}
use Rattle.watch_model.specs.Takes as watches
use Rattle.watch_model.specs.declared.stream.StreamJob.{StreamJob}
use Rattle.watch_model.specs.declared.stream.StreamJob.TheVariants as stream
use Rattle.core_model.specs.declared.event.StepFault.TheVariants as fault
use Rattle.core_model.specs.declared.out_call.CallKind.{CallKind}
use Rattle.core_model.specs.declared.out_call.OutCall.{OutCall}
use Rattle.core_model.specs.declared.out_call.OutJob.{OutJob}
use Rattle.core_model.specs.declared.out_call.OutJob.TheVariants as job
use Rattle.core_model.specs.Asking.{asked_at, is_leased_read, read_by, read_is_asked, write_is_asked, held_body, if_live, call_is_asked, answered_or_called, leased_ask, taken_in, request_asked, refused_or_taken, on_ask}
use Rattle.core_model.specs.ClockWork.{times_out, timed_out_ask, begun, writes_go_on, requests_timed_out, clock_work}
use Rattle.core_model.specs.Ends.{with_caller, member_failed, stale_once, said, is_stale_reply, ask_done, ask_answered, lost_job, lost_call, acquire_if, reads_if, answered_job, or_lost, heard_call, answered_call, call_gone, answer_of, on_answer, loss_of, on_lost}
use Rattle.core_model.specs.Ends.{is_keepalive as answers_keepalive}
use Rattle.core_model.specs.Groups.{groups_ended}
use Rattle.core_model.specs.Heard.{heard, header_taken}
use Rattle.core_model.specs.Kinds.{is_body_of, writes_keys}
use Rattle.core_model.specs.LeasingStream as leasing
use Rattle.core_model.specs.LeasingStream.{leasing_ticked, leasing_cut, is_readable, leasing_message, message_if_sent, item_header, leasing_item}
use Rattle.core_model.specs.Lookups.{leases, is_known, live_number, moment, reads_of, with_reads, ask_at, out_at}
use Rattle.core_model.specs.Refusals.{refusal_of}
use Rattle.core_model.specs.Sending.{next_call, writes_sent, sent_by, on_work}
use Rattle.core_model.specs.Sessions.{drawn_session, without_session, seat_is_over, deadline_passed, seat_ticked, seat_granted, seat_renewed, seat_free, seat_calls, granted_by, grant_failed, keep_failed, kept, kept_by}
use Rattle.core_model.specs.DueJobs.{DueJob, ForSession, ForWrites, ForAcquire, ForAsk, ForGroup, ToOpen, ForStream, first_job}
use Rattle.core_model.specs.State.{Seat, Opening, Core}
use Rattle.core_model.specs.Step.{ticked, on_tick, opening_at, client_item, item_of, on_item, client_cut, cut_of, on_cut}
use Rattle.core_model.specs.Stepped.{Stepped, faults}
use Rattle.core_model.specs.Takes as takes
use Rattle.core_model.specs.Takes.{item_taken, taken, on_take, watcher_left, left, on_leave}
use Rattle.core_model.specs.Watching as watching
use Rattle.core_model.specs.Watching.{stream_message, stream_item, stream_job, stream_sent, taken_item}
use Rattle.owned_laws.specs.OwnWrites.{OwnWrite}
use Rattle.owned_laws.specs.Watched.{AllSpare, seat_is}
use Rattle.owned_laws.proofs.Modes.{Mode, Seated}
use Rattle.owned_laws.proofs.Own.{Misses as MissesBy, ThereMisses, no_own, OwnSo, pass_so, message_so as own_message_so, resync_so, compaction_so, submitted_so, SentSo, job_sent_so}
use Rattle.core_fits.specs.Fits.{EachOf}
use Rattle.core_laws.proofs.Steps.Lists.{same_number}
use Rattle.read_model.specs.TakingOff.{is_writes}
use Rattle.wait_model.specs.declared.write.Write.{Write}
use Rattle.wait_model.specs.Writes as writes
use Rattle.owned_laws.proofs.Grounds.{Spared, ReadsSo, MayEnd, AfterSo, ReadsIf, decided_so, over_reads, taken_off_so, acquire_answered_so, acquire_lost_so, acquire_sent_so, wait_answered_so, wait_lost_so}

either : {A : Type 0} (P : A → Type 0) (b : Bool) (x y : A) → P x → P y → P (cond b x y)
either P true x y h i = h
either P false x y h i = i

-- ---- seats of one number

granted_back : (o : Option ℕ) (sent ttl : ℕ) (s : Option Seat) → Seated o (seat_granted sent ttl s) → Seated o s
granted_back None sent ttl s h = tt
granted_back (Some n) sent ttl None h = h
granted_back (Some n) sent ttl (Some s) h = h

renewed_back : (o : Option ℕ) (sent ttl : ℕ) (s : Option Seat) → Seated o (seat_renewed sent ttl s) → Seated o s
renewed_back None sent ttl s h = tt
renewed_back (Some n) sent ttl None h = h
renewed_back (Some n) sent ttl (Some s) h = h

free_back : (o : Option ℕ) (s : Option Seat) → Seated o (seat_free s) → Seated o s
free_back None s h = tt
free_back (Some n) None h = h
free_back (Some n) (Some s) h = h

-- it draws no session of this number
abbrev pub Draws : Option ℕ → ℕ → Type 0
Draws None word = Unit {0}
Draws (Some n) word = (drawn_session word == n) ≡ false

ticked_back : (o : Option ℕ) (word ttl step now : ℕ) (s : Option Seat) → Draws o word → Seated o (Some (seat_ticked word ttl step now s)) → Seated o s
ticked_back None word ttl step now s d h = tt
ticked_back (Some n) word ttl step now None d h = absurd (let e : true ≡ false = sym h ∙ d in cc)
ticked_back (Some n) word ttl step now (Some s) d h = h

-- what the first due job is of stands
abbrev pub Stands : Core → Option DueJob → Type 0
Stands c (Some (ForSession s)) = (r : Seat) × (c.seat ≡ Some r) × (r.session ≡ s)
Stands c (Some (ForAcquire k x)) = (at c.acquires k ≡ Some x) × (is_due x.sending ≡ true)
Stands c _ = Unit {0}

sent_back : (o : Option ℕ) (call : ℕ) (s : Rattle.proxy_model.specs.Session.Session) (seat : Option Seat) (r : Seat) → seat ≡ Some r → r.session ≡ s → Seated o (Some (Rattle.core_model.specs.Sending.seat_sent call s)) → Seated o seat
sent_back None call s seat r e f h = tt
sent_back (Some n) call s seat r e f h = ap (seat_is n) e ∙ ap (λ (y : Rattle.proxy_model.specs.Session.Session). y.number == n) f ∙ h

module _ (M : Mode) where
  abbrev k : List ℕ
  k = M.key

  abbrev pub CoreSo : Core → Type 0
  CoreSo c = Seated M.session c.seat → ReadsSo M (reads_of c)

  abbrev pub StepSo : Stepped → Type 0
  StepSo s = CoreSo s.core

  none_seated : Seated M.session None → (M.hold ≡ true → ⊥) × ((s : Option Seat) → Seated M.session s)
  none_seated h = by M.session refl h
    where
      none : {A : Type 0} (n : ℕ) → ◌≡◌ {A = Option ℕ} None (Some n) → A
      none n e = absurd (cc)

      by : (o : Option ℕ) → M.session ≡ o → Seated o None → (M.hold ≡ true → ⊥) × ((s : Option Seat) → Seated M.session s)
      by None e h = ((λ y. let s = M.seated y in none s.0 (sym e ∙ s.1)), (λ s. subst (λ (o : Option ℕ). Seated o s) (sym e) tt))
      by (Some n) e h = absurd (cc)

  -- another ownership, where that leaves the key so
  with_own : (c : Core) (own : Ownership) → (OwnSo M c.own → OwnSo M own) → CoreSo c → CoreSo (record c { own = own })
  with_own c own f t = λ s i. let r = t s i in (f r.0, r.1)

  pub go_on : (c : Core) → CoreSo c → CoreSo (writes_go_on c)
  go_on c t = with_own c (proceeded c.own) (pass_so M c.own) t

  -- ---- the clock's work

  ended_so : (now : ℕ) (c : Core) → CoreSo c → CoreSo (without_session now c)
  ended_so now c t = λ s.
      let d = record c { seat = None } in
      let n = none_seated s in
      over_reads M (moment d now) (reads_of d) n.0 (t (n.1 c.seat))

  -- the owner's own write doesn't time out
  abbrev pub OnTime : ℕ → Core → Type 0
  OnTime now c = EachOf (Spared M (times_out now)) (deadline_passed now (begun c)).asks

  pub clock_by : (now : ℕ) (c : Core) → OnTime now c → CoreSo c → CoreSo (clock_work now c)
  unfolding clock_work
  clock_by now c l t =
      let b : CoreSo (begun c) = with_own c (step_begun c.steps c.own) (λ r. record { case = r.case; outs = r.outs; there = r.there; over = r.over; mark = r.mark; entry = r.entry }) t in
      let d = deadline_passed now (begun c) in
      let e : CoreSo d = either CoreSo (seat_is_over c.seat now) (without_session now (begun c)) (begun c) (ended_so now (begun c) b) b in
      go_on (requests_timed_out now d) (λ s. taken_off_so M (moment d now) (times_out now) (map (timed_out_ask now) d.asks) (reads_of d) l (e s))

  all_spared : (p : Asked → Bool) (xs : List Asked) → ((q : Write → Bool) → MissesBy M q) → EachOf (Spared M p) xs
  all_spared p [] n = tt
  all_spared p (a ∷ xs) n = ((λ e. n (writes.has_ticket a.ticket)), all_spared p xs n)

  -- where no write is the owner's own
  abbrev pub HasNone : Type 0
  HasNone = ((c : M.Case) → M.mine c ≡ []) × (M.there ≡ [])

  pub none_late : HasNone → (now : ℕ) (c : Core) → OnTime now c
  none_late n now c = all_spared (times_out now) (deadline_passed now (begun c)).asks (λ q. ((λ i. no_own (M.mine i) q (n.0 i)), subst (λ (vs : List OwnWrite). ThereMisses k vs q) (sym n.1) tt))

  pub clock_so : HasNone → (now : ℕ) (c : Core) → CoreSo c → CoreSo (clock_work now c)
  clock_so n now c t = clock_by now c (none_late n now c) t

  -- ---- calls end

  abbrev IfSo : Option Core → Type 0
  IfSo None = Unit {0}
  IfSo (Some c) = CoreSo c

  kept_so : (now : ℕ) (o : OutCall) (ttl : ℕ) (c : Core) → CoreSo c → CoreSo (kept now o ttl c)
  kept_so now o ttl c t = either CoreSo (ttl == 0) (without_session now c) (record c { seat = seat_renewed o.sent_at ttl c.seat }) (ended_so now c t) (λ s. t (renewed_back M.session o.sent_at ttl c.seat s))

  renewed_so : (now : ℕ) (o : OutCall) (b : Body) (c : Core) → CoreSo c → IfSo (kept_by now o b c)
  renewed_so now o (body.KeepAlive lease ttl) c t = either CoreSo (seat_calls o.call c.seat) (kept now o ttl c) c (kept_so now o ttl c t) t
  renewed_so now o (body.Range count more kvs) c t = tt
  renewed_so now o (body.Put prev) c t = tt
  renewed_so now o (body.Delete deleted prevs) c t = tt
  renewed_so now o (body.Txn' succeeded m bodies) c t = tt
  renewed_so now o body.Compact c t = tt
  renewed_so now o (body.Grant lease ttl) c t = tt
  renewed_so now o body.Revoke c t = tt
  renewed_so now o (body.TimeToLive lease ttl granted keys) c t = tt
  renewed_so now o (body.Leases leases) c t = tt

  granted_so : (o : OutCall) (b : Body) (c : Core) → CoreSo c → IfSo (granted_by o b c)
  granted_so o (body.Grant lease ttl) c t = either CoreSo (seat_calls o.call c.seat) (record c { seat = seat_granted o.sent_at ttl c.seat }) c (λ s. t (granted_back M.session o.sent_at ttl c.seat s)) t
  granted_so o (body.Range count more kvs) c t = tt
  granted_so o (body.Put prev) c t = tt
  granted_so o (body.Delete deleted prevs) c t = tt
  granted_so o (body.Txn' succeeded m bodies) c t = tt
  granted_so o body.Compact c t = tt
  granted_so o (body.KeepAlive lease ttl) c t = tt
  granted_so o body.Revoke c t = tt
  granted_so o (body.TimeToLive lease ttl granted keys) c t = tt
  granted_so o (body.Leases leases) c t = tt

  unseated : (c : Core) → CoreSo c → (M.hold ≡ true → ⊥) × ((s : Option Seat) → Seated M.session s) → CoreSo (record c { seat = None })
  unseated c t n = λ s. t (n.1 c.seat)

  grant_failed_so : (o : OutCall) (c : Core) → CoreSo c → CoreSo (grant_failed o c)
  grant_failed_so o c t = either CoreSo (seat_calls o.call c.seat) (record c { seat = None }) c (λ s. t ((none_seated s).1 c.seat)) t

  keep_failed_so : (o : OutCall) (c : Core) → CoreSo c → CoreSo (keep_failed o c)
  keep_failed_so o c t = either CoreSo (seat_calls o.call c.seat) (record c { seat = seat_free c.seat }) c (λ s. t (free_back M.session c.seat s)) t

  ask_so : (j : CallKind) (o : OutCall) (a : Answer) (c : Core) → CoreSo c → IfSo (ask_answered j o a c)
  ask_so j o (Refused r) c t = t
  ask_so j o (Done reply) c t =
      either IfSo (is_body_of j reply.body) (Some (ask_done j o reply c)) None
      (either CoreSo (is_stale_reply j o reply) (with_caller o.call (stale_once c.members.count c.own.waits.step) (member_failed o c)) (with_caller o.call (said (Done reply)) c) t t) tt

  -- a call's job may end, where that is an acquire
  abbrev pub MayEndAs : Option Seat → OutJob → Type 0
  MayEndAs s j = Seated M.session s → (i : List ℕ) → j ≡ job.Acquire i → MayEnd M i

  -- and isn't the call of the owner's own write
  abbrev pub EndsAs : Option Seat → OutCall → OutJob → Type 0
  EndsAs s o j = MayEndAs s j × MissesBy M (writes.sends o.call)

  lost_job_so : (now : ℕ) (o : OutCall) (j : OutJob) (c : Core) → EndsAs c.seat o j → CoreSo c → CoreSo (lost_job now o j c)
  lost_job_so now o (job.Grant lease) c f t = grant_failed_so o c t
  lost_job_so now o (job.Keep lease) c f t = keep_failed_so o c t
  lost_job_so now o (job.Acquire i) c f t = λ s. acquire_lost_so M c.members.count (moment c now) i (reads_of c) (f.0 s i refl) (t s)
  lost_job_so now o job.Wait c f t = λ s. wait_lost_so M (moment c now) o.call (reads_of c) f.1 (t s)
  lost_job_so now o (job.Ask j) c f t = t
  lost_job_so now o (job.Group lease) c f t = t

  lost_call_so : (now : ℕ) (o : OutCall) (c : Core) → EndsAs c.seat o o.job → CoreSo c → CoreSo (lost_call now o c)
  lost_call_so now o c f t = lost_job_so now o o.job (member_failed o c) f t

  job_so : (now : ℕ) (o : OutCall) (j : OutJob) (a : Answer) (c : Core) → EndsAs c.seat o j → CoreSo c → IfSo (answered_job now o j a c)
  job_so now o (job.Grant lease) (Done reply) c f t = granted_so o reply.body c t
  job_so now o (job.Grant lease) (Refused r) c f t = grant_failed_so o c t
  job_so now o (job.Keep lease) (Done reply) c f t = renewed_so now o reply.body c t
  job_so now o (job.Keep lease) (Refused r) c f t = keep_failed_so o c t
  job_so now o (job.Acquire i) a c f t = by (acquire_answered (moment c now) i a (reads_of c)) (λ s. acquire_answered_so M (moment c now) i a (reads_of c) (f.0 s i refl) (t s))
    where
      by_end : (ends : Bool) (r : Reads) → (Seated M.session c.seat → (ends ≡ true → M.hold ≡ true → ⊥) → ReadsSo M r) → CoreSo (with_reads (cond ends (record c { seat = None }) c) r)
      by_end true r h = λ s. let n = none_seated s in h (n.1 c.seat) (λ e. n.0)
      by_end false r h = λ s. h s (λ e. absurd (cc))

      by : (q : Option AfterAcquire) → (Seated M.session c.seat → AfterSo M q) → IfSo (acquire_if c q)
      by None h = tt
      by (Some x) h = by_end x.ends x.reads h
  job_so now o job.Wait a c f t = by (wait_answered (moment c now) o.call a (reads_of c)) (λ s. wait_answered_so M (moment c now) o.call a (reads_of c) f.1 (t s))
    where
      by : (q : Option Reads) → (Seated M.session c.seat → ReadsIf M q) → IfSo (reads_if c q)
      by None h = tt
      by (Some r) h = h
  job_so now o (job.Ask j) a c f t = ask_so j o a c t
  job_so now o (job.Group lease) a c f t =
      either IfSo (answers_keepalive a) (Some (record c { asks = groups_ended c.own.waits.step o.call lease (verdict.Said a) c.asks })) None t tt

  heard_so : (now : ℕ) (o : OutCall) (h : Option Answer) (c : Core) → EndsAs c.seat o o.job → CoreSo c → CoreSo (heard_call now o h c)
  heard_so now o None c f t = lost_call_so now o c f t
  heard_so now o (Some a) c f t = by (answered_job now o o.job a c) (job_so now o o.job a c f t)
    where
      by : (q : Option Core) → IfSo q → CoreSo (or_lost now o c q)
      by None h = lost_call_so now o c f t
      by (Some d) h = h

  pub answered_so : (now call : ℕ) (a : Answer) (c : Core) → ((o : OutCall) → out_at call c.out ≡ Some o → EndsAs c.seat o o.job) → CoreSo c → StepSo (on_answer now call a c)
  unfolding on_answer
  answered_so now call a c f t = by (out_at call c.out) refl
    where
      by_answer : (o : OutCall) (b : Answer) → EndsAs c.seat o o.job → CoreSo (writes_go_on (answered_call now o b (call_gone call c)))
      by_answer o (Done reply) g = let d = header_taken reply.header (call_gone call c) in go_on (heard_call now o (heard c.settings.namespace (Done reply)) d) (heard_so now o (heard c.settings.namespace (Done reply)) d g t)
      by_answer o (Refused r) g = go_on (heard_call now o (heard c.settings.namespace (Refused r)) (call_gone call c)) (heard_so now o (heard c.settings.namespace (Refused r)) (call_gone call c) g t)

      by : (q : Option OutCall) → out_at call c.out ≡ q → StepSo (answer_of now call a q c)
      by None e = t
      by (Some o) e = by_answer o a (f o e)

  pub lost_so : (now call : ℕ) (c : Core) → ((o : OutCall) → out_at call c.out ≡ Some o → EndsAs c.seat o o.job) → CoreSo c → StepSo (on_lost now call c)
  unfolding on_lost
  lost_so now call c f t = by (out_at call c.out) refl
    where
      by : (q : Option OutCall) → out_at call c.out ≡ q → StepSo (loss_of now call q c)
      by None e = t
      by (Some o) e = go_on (lost_call now o (call_gone call c)) (lost_call_so now o (call_gone call c) (f o e) t)

  -- ---- a request is asked

  call_asked_so : (a : Asked) (c : Core) → CoreSo c → StepSo (call_is_asked a c)
  call_asked_so a c t = go_on (record c { asks = c.asks ++ Rattle.read_model.specs.PlainRead.in_stage (Rattle.core_model.specs.Asking.call_stage a.request c) a ∷ [] }) t

  read_so : (m : Moment) (a : Asked) (c : Core) → CoreSo c → StepSo (read_is_asked m a c)
  read_so m a c t = by (decided_ask m (ground_of (reads_of c)) a).stage
    where
      pushed : CoreSo (with_reads c (read_asked m a (reads_of c)))
      pushed = λ s. decided_so M m (ground_of (reads_of c)) a (t s)

      by : (s : Stage) → StepSo (read_by s c (with_reads c (read_asked m a (reads_of c))))
      by (stage.Replied v) = t
      by (stage.Calling s) = go_on (with_reads c (read_asked m a (reads_of c))) pushed
      by stage.Acquiring = go_on (with_reads c (read_asked m a (reads_of c))) pushed
      by stage.Joined = go_on (with_reads c (read_asked m a (reads_of c))) pushed
      by stage.Behind = go_on (with_reads c (read_asked m a (reads_of c))) pushed
      by stage.Writes = go_on (with_reads c (read_asked m a (reads_of c))) pushed
      by (stage.Grouped s) = go_on (with_reads c (read_asked m a (reads_of c))) pushed

  write_so : (a : Asked) (c : Core) → (M.over ≡ true → covered (written_ranges a.request) k ≡ false) → CoreSo c → StepSo (write_is_asked a c)
  write_so a c n t =
      go_on (record c { own = submitted a.ticket a.request c.own; asks = c.asks ++ Rattle.read_model.specs.PlainRead.in_stage stage.Writes a ∷ [] }) (with_own c (submitted a.ticket a.request c.own) (submitted_so M a.ticket a.request c.own n) t)

  taken_so : (m : Moment) (a : Asked) (c : Core) → (M.over ≡ true → covered (written_ranges a.request) k ≡ false) → CoreSo c → StepSo (taken_in m a c)
  taken_so m a c n t =
      either StepSo (leases c) (leased_ask m a c) (call_is_asked a c)
      (either StepSo (is_leased_read c.own.waits.prefix a.request) (read_is_asked m a c) (cond (writes_keys a.request) (write_is_asked a c) (answered_or_called (if_live m.session (held_body c.own.entries a.request)) a c)) (read_so m a c t)
      (either StepSo (writes_keys a.request) (write_is_asked a c) (answered_or_called (if_live m.session (held_body c.own.entries a.request)) a c) (write_so a c n t) (by_body (if_live m.session (held_body c.own.entries a.request)))))
      (call_asked_so a c t)
    where
      by_body : (b : Option Body) → StepSo (answered_or_called b a c)
      by_body None = call_asked_so a c t
      by_body (Some b) = t

  request_so : (q : Request) (m : Moment) (a : Asked) (c : Core) → (M.over ≡ true → covered (written_ranges a.request) k ≡ false) → CoreSo c → StepSo (request_asked q m a c)
  request_so (request.Watch ask) m a c n t = t
  request_so (request.KeepAlive lease) m a c n t = taken_so m a c n t
  request_so (request.Range ask) m a c n t = taken_so m a c n t
  request_so (request.Put ask) m a c n t = taken_so m a c n t
  request_so (request.Delete ask) m a c n t = taken_so m a c n t
  request_so (request.Txn x) m a c n t = taken_so m a c n t
  request_so (request.Compact revision physical) m a c n t = taken_so m a c n t
  request_so (request.Grant ttl lease) m a c n t = taken_so m a c n t
  request_so (request.Revoke lease) m a c n t = taken_so m a c n t
  request_so (request.TimeToLive lease keys) m a c n t = taken_so m a c n t
  request_so request.Leases m a c n t = taken_so m a c n t

  -- a request that is refused leaves all as it was
  abbrev pub Misses : Core → Request → Type 0
  Misses c q = refusal_of c.own.waits.prefix q ≡ None → M.over ≡ true → covered (written_ranges q) k ≡ false

  pub asked_so : (now ticket : ℕ) (q : Request) (word : ℕ) (c : Core) → Misses c q → CoreSo c → StepSo (on_ask now ticket q word c)
  unfolding on_ask
  asked_so now ticket q word c n t =
      either StepSo (is_known ticket c) (faults c (fault.TicketUsed ticket)) (refused_or_taken (refusal_of c.own.waits.prefix q) (moment c now) (asked_at now ticket q word) c) t (by (refusal_of c.own.waits.prefix q) refl)
    where
      by : (o : Option Refusal) → refusal_of c.own.waits.prefix q ≡ o → StepSo (refused_or_taken o (moment c now) (asked_at now ticket q word) c)
      by None e = request_so q (moment c now) (asked_at now ticket q word) c (n e) t
      by (Some r) e = t

  -- ---- a request is taken or left

  pub take_so : (ticket : ℕ) (c : Core) → CoreSo c → StepSo (on_take ticket c)
  unfolding on_take
  take_so ticket c t = by_ask (ask_at ticket c.asks)
    where
      by_pair : (x : Broadcasts × Option WatchItem) → StepSo (taken_item c x)
      by_pair (b, None) = t
      by_pair (b, Some x) = t

      by_watch : (w : Option Watch) → StepSo (item_taken ticket w c)
      by_watch None = t
      by_watch (Some w) = by_pair (watches.taken_from c.watches c.header w w.queue)

      by_stage : (s : Stage) → StepSo (takes.taken_from ticket s c)
      by_stage (stage.Replied v) = t
      by_stage (stage.Calling s) = t
      by_stage stage.Acquiring = t
      by_stage stage.Joined = t
      by_stage stage.Behind = t
      by_stage stage.Writes = t
      by_stage (stage.Grouped s) = t

      by_ask : (o : Option Asked) → StepSo (taken ticket o c)
      by_ask None = by_watch (watch_at ticket c.watches.watches)
      by_ask (Some a) = by_stage a.stage

  leaves_spared : (ticket : ℕ) (xs : List Asked) → MissesBy M (writes.has_ticket ticket) → EachOf (Spared M (Rattle.core_model.specs.Lookups.has_ticket ticket)) xs
  leaves_spared ticket [] n = tt
  leaves_spared ticket (a ∷ xs) n = (by (a.ticket == ticket) refl, leaves_spared ticket xs n)
    where
      by : (b : Bool) → (a.ticket == ticket) ≡ b → b && is_writes a.stage ≡ true → MissesBy M (writes.has_ticket a.ticket)
      by true e f = subst (λ (i : ℕ). MissesBy M (writes.has_ticket i)) (sym (same_number a.ticket ticket e)) n
      by false e f = absurd (cc)

  pub leave_so : (now ticket : ℕ) (c : Core) → MissesBy M (writes.has_ticket ticket) → CoreSo c → StepSo (on_leave now ticket c)
  unfolding on_leave
  leave_so now ticket c n t = by_ask (ask_at ticket c.asks)
    where
      by_watch : (w : Option Watch) → StepSo (watcher_left ticket w c)
      by_watch None = t
      by_watch (Some w) = t

      by_ask : (o : Option Asked) → StepSo (left now ticket o c)
      by_ask None = by_watch (watch_at ticket c.watches.watches)
      by_ask (Some a) = go_on (takes.has_left now ticket c) (λ s. taken_off_so M (moment c now) (Rattle.core_model.specs.Lookups.has_ticket ticket) (Rattle.core_model.specs.Lookups.without_ask ticket c.asks) (reads_of c) (leaves_spared ticket c.asks n) (t s))

  -- ---- ticks, messages and cuts

  pub tick_so : (now word : ℕ) (c : Core) → Draws M.session word → CoreSo c → StepSo (on_tick now word c)
  unfolding on_tick
  tick_so now word c d t = either CoreSo (leases c) (ticked now word c) c (by c.leasing) t
    where
      back : Seated M.session (Some (seat_ticked word c.settings.ttl c.own.waits.step now c.seat)) → Seated M.session c.seat
      back s = ticked_back M.session word c.settings.ttl c.own.waits.step now c.seat d s

      by : (o : Option Opening) → CoreSo (leasing_ticked o (record c { seat = Some (seat_ticked word c.settings.ttl c.own.waits.step now c.seat) }))
      by None = λ s. t (back s)
      by (Some o) = λ s. t (back s)

  -- what a message of the leasing stream may not tell
  abbrev pub Passes : Core → Opening → WatchItem → Type 0
  Passes c o (item.Created h) = Unit {0}
  Passes c o (item.Events h es) = is_readable o.stream es ≡ true → AllSpare k M.over M.hold M.entry.create c.own.waits.prefix es
  Passes c o (item.Canceled h compaction) = (compaction == 0) ≡ false → M.over ≡ true → ⊥

  message_so : (now : ℕ) (o : Opening) (x : WatchItem) (c : Core) → Passes c o x → CoreSo c → CoreSo (leasing_message now o x c)
  message_so now o (item.Created d) c p t =
      either CoreSo o.stream.created c (record (leasing.stream_is o (Rattle.proxy_model.specs.Upstream.created o.stream d.revision) c) { own = leasing.own_created o.stream.next c.own }) t
      (with_own c (leasing.own_created o.stream.next c.own) (λ r. either (OwnSo M) (o.stream.next == 0) (resynced c.own) c.own (resync_so M c.own r) r) t)
  message_so now o (item.Events d es) c p t = by (is_readable o.stream es) refl
    where
      by : (b : Bool) → is_readable o.stream es ≡ b → CoreSo (cond b (record (leasing.stream_is o (Rattle.proxy_model.specs.Upstream.advance o.stream (leasing.told_revision d es)) c) { own = all_noticed (live_number c.seat now) es c.own }) (leasing_cut o c))
      by true e = with_own c (all_noticed (live_number c.seat now) es c.own) (own_message_so M (live_number c.seat now) es c.own (p e)) t
      by false e = t
  message_so now o (item.Canceled d compaction) c p t = by (compaction == 0) refl
    where
      by : (b : Bool) → (compaction == 0) ≡ b → CoreSo (cond b (leasing_cut o c) (leasing.due_anew (Rattle.proxy_model.specs.Upstream.opened o.stream.range 0) (record c { own = all_given_up c.own })))
      by true e = t
      by false e = with_own c (all_given_up c.own) (compaction_so M c.own (p e)) t

  -- in each message of the leasing stream
  abbrev pub PassesIn : Core → ℕ → WatchItem → Type 0
  PassesIn c number x = (o : Opening) (y : WatchItem) → opening_at number c.leasing ≡ Some o → o.due ≡ None → item_without c.settings.namespace x ≡ Ok y → Passes c o y

  leasing_so : (now number : ℕ) (o : Opening) (x : WatchItem) (c : Core) → opening_at number c.leasing ≡ Some o → PassesIn c number x → CoreSo c → CoreSo (leasing_item now o x c)
  leasing_so now number o x c f p t = by_due o.due refl
    where
      same_passes : (y : WatchItem) → Passes c o y → Passes (header_taken (item_header x) c) o y
      same_passes (item.Created h) q = q
      same_passes (item.Events h es) q = q
      same_passes (item.Canceled h compaction) q = q

      by_text : (u : Unwrapped WatchItem) → o.due ≡ None → item_without c.settings.namespace x ≡ u → CoreSo (leasing.unwrapped_message now o u (header_taken (item_header x) c))
      by_text (Ok y) d e = message_so now o y (header_taken (item_header x) c) (same_passes y (p o y f d e)) t
      by_text (Err foreign) d e = t

      by_due : (d : Option ℕ) → o.due ≡ d → CoreSo (message_if_sent now o d x (header_taken (item_header x) c))
      by_due None d = by_text (item_without c.settings.namespace x) d refl
      by_due (Some since) d = t

  stream_so : (s : Stream) (x : WatchItem) (c : Core) → CoreSo c → CoreSo (stream_item s x c)
  stream_so s x c t = either CoreSo (is_begun s.phase) (watching.unwrapped_message s (item_without c.settings.namespace x) (header_taken (item_header x) c)) (header_taken (item_header x) c) (by_text (item_without c.settings.namespace x)) t
    where
      by_message : (y : WatchItem) → CoreSo (stream_message s y (header_taken (item_header x) c))
      by_message (item.Created d) = t
      by_message (item.Events d es) = t
      by_message (item.Canceled d compaction) = t

      by_text : (u : Unwrapped WatchItem) → CoreSo (watching.unwrapped_message s u (header_taken (item_header x) c))
      by_text (Ok y) = by_message y
      by_text (Err foreign) = t

  pub item_so : (now number : ℕ) (x : WatchItem) (c : Core) → PassesIn c number x → CoreSo c → StepSo (on_item now number x c)
  unfolding on_item
  item_so now number x c p t = by_opening (opening_at number c.leasing) refl
    where
      by_stream : (r : Option Stream) → StepSo (client_item number x r c)
      by_stream None = t
      by_stream (Some r) = go_on (stream_item r x c) (stream_so r x c t)

      by_opening : (o : Option Opening) → opening_at number c.leasing ≡ o → StepSo (item_of now number x o c)
      by_opening None f = by_stream (stream_at number c.watches.streams)
      by_opening (Some o) f = go_on (leasing_item now o x c) (leasing_so now number o x c f p t)

  pub cut_so : (number : ℕ) (c : Core) → CoreSo c → StepSo (on_cut number c)
  unfolding on_cut
  cut_so number c t = by_opening (opening_at number c.leasing)
    where
      by_stream : (s : Option Stream) → StepSo (client_cut number s c)
      by_stream None = t
      by_stream (Some s) = t

      by_opening : (o : Option Opening) → StepSo (cut_of number o c)
      by_opening None = by_stream (stream_at number c.watches.streams)
      by_opening (Some o) = t

  -- ---- a job is sent

  -- a call of writes or entries that goes out
  abbrev pub GoesOut : Option DueJob → Core → Type 0
  GoesOut j c = j ≡ Some ForWrites → (x : JobSent) → job_sent (next_call c) c.own ≡ Some x → OwnSo M c.own → M.Outs x.own.waits.out × MissesBy M (writes.has_ticket x.due.ticket)

  sent_so : (now : ℕ) (j : Option DueJob) (c : Core) → Stands c j → GoesOut j c → CoreSo c → StepSo (sent_by now j c)
  sent_so now None c s g t = t
  sent_so now (Some (ForSession x)) c s g t = λ i. t (sent_back M.session (next_call c) x c.seat s.0 s.1 s.2 i)
  sent_so now (Some ForWrites) c s g t = by (job_sent (next_call c) c.own) refl
    where
      by : (o : Option JobSent) → job_sent (next_call c) c.own ≡ o → StepSo (writes_sent now o c)
      by None e = t
      by (Some x) e = with_own c x.own (λ r. let o = g refl x e r in subst (SentSo M) e (job_sent_so M (next_call c) c.own r) o.1 o.0) t
  sent_so now (Some (ForAcquire i x)) c s g t = λ y. acquire_sent_so M (next_call c) i x (reads_of c) s.0 s.1 (t y)
  sent_so now (Some (ForAsk a)) c s g t = t
  sent_so now (Some (ForGroup lease ticket)) c s g t = t
  sent_so now (Some (ToOpen o)) c s g t = t
  sent_so now (Some (ForStream r)) c s g t = by (watches_due.next_job c.watches (Some r)).1
    where
      by : (j : Option StreamJob) → StepSo (stream_job j (watching.with_watches c (watches_due.next_job c.watches (Some r)).0))
      by None = t
      by (Some (stream.Close number)) = t
      by (Some (stream.Open number range start)) = t

  pub work_so : (now : ℕ) (c : Core) → Stands c (first_job c) → GoesOut (first_job c) c → CoreSo c → StepSo (on_work now c)
  unfolding on_work
  work_so now c s g t = sent_so now (first_job c) c s g t
