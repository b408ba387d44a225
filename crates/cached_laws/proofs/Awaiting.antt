-- A read that waits for the acquire that is due for it, step by step, while the session is the same: it goes on so until a call names it.
use Rattle.std.proofs.Common.{◌≡◌, ℕ, ◌+◌, ◌==◌, nat_le, Bool, true, false, not, cond, ◌&&◌, ◌||◌, List, [], ◌∷◌, ◌++◌, map, Option, None, Some, is_some, Ok, Err, refl, sym, ◌∙◌, ap, subst}
use Rattle.etcd_types.specs.declared.answer.Answer.{Answer}
use Rattle.etcd_types.specs.declared.answer.Answer.TheVariants.{Done, Refused}
use Rattle.etcd_types.specs.declared.answer.Body.{Body}
use Rattle.etcd_types.specs.declared.answer.Body.TheVariants as body
use Rattle.etcd_types.specs.declared.answer.Refusal.{Refusal}
use Rattle.etcd_types.specs.declared.record.Header.{Header}
use Rattle.etcd_types.specs.declared.record.Kv.{Kv}
use Rattle.etcd_types.specs.declared.request.Request.{Request}
use Rattle.etcd_types.specs.declared.request.Request.TheVariants as request
use Rattle.etcd_types.specs.declared.watch.WatchItem.{WatchItem}
use Rattle.etcd_types.specs.declared.watch.WatchItem.TheVariants as item
use Rattle.proxy_model.specs.declared.lease.Entry.{Entry}
use Rattle.proxy_model.specs.declared.lease.Phase.{Phase}
use Rattle.proxy_model.specs.declared.lease.Phase.TheVariants.{Held, Writing, Leaving}
use Rattle.proxy_model.specs.declared.ownership.Claim.{Claim}
use Rattle.proxy_model.specs.declared.ownership.Claim.TheVariants.{Acquired, OwnedBy}
use Rattle.proxy_model.specs.Acquire.{claimed}
use Rattle.proxy_model.specs.Keyed.{Keyed, at, with_at}
use Rattle.proxy_model.specs.Limits.{capped}
use Rattle.proxy_model.specs.Unwrapped.{Unwrapped, item_without}
use Rattle.wait_model.specs.declared.sending.Sending.TheVariants as sending
use Rattle.wait_model.specs.declared.wait.Settled.{Settled}
use Rattle.wait_model.specs.declared.wait.Settled.TheVariants as settled
use Rattle.wait_model.specs.Edits.{without}
use Rattle.wait_model.specs.Endings as endings
use Rattle.wait_model.specs.GuardedAnswers.{Ending}
use Rattle.read_model.specs.declared.acquire.Acquire.{Acquire}
use Rattle.read_model.specs.declared.asked.Asked.{Asked}
use Rattle.read_model.specs.declared.asked.Stage.{Stage}
use Rattle.read_model.specs.declared.asked.Stage.TheVariants as stage
use Rattle.read_model.specs.declared.asked.Verdict.{Verdict}
use Rattle.read_model.specs.declared.asked.Verdict.TheVariants as verdict
use Rattle.read_model.specs.Acquires.{read_asked, acquires_at, told, acquire_gone, acquire_done, AfterAcquire, done_by, acquire_refused, is_to_be_held, answered_acquire, acquire_answered, lost_once, acquire_lost}
use Rattle.read_model.specs.PlainRead.{ask_key, shown, called, acquirable, held_turn, read_turn, decision, begun_under, in_stage, decided_ground, decided_ask}
use Rattle.read_model.specs.Release.{ask_stands, released_ground, released_ask, released_from}
use Rattle.read_model.specs.SessionEnd.{is_due, dropped, session_over}
use Rattle.read_model.specs.State.{Reads, Moment, Ground, ground_of, on}
use Rattle.read_model.specs.TakingOff.{forgotten_all, falls, taken_off}
use Rattle.read_model.specs.WriteAnswers.{settled_ask, ending, answered_by, wait_answered}
use Rattle.watch_model.specs.Lookups.{stream_at, watch_at, is_begun}
use Rattle.watch_model.specs.State.{Stream, Watch, Broadcasts}
use Rattle.watch_model.specs.Takes as watches
use Rattle.core_model.specs.declared.out_call.CallKind.{CallKind}
use Rattle.core_model.specs.declared.out_call.OutCall.{OutCall}
use Rattle.core_model.specs.declared.out_call.OutJob.{OutJob}
use Rattle.core_model.specs.declared.out_call.OutJob.TheVariants as job
use Rattle.core_model.specs.Asking.{asked_at, is_leased_read, read_by, read_is_asked, held_body, if_live, call_stage, call_is_asked, answered_or_called, leased_ask, taken_in, request_asked, refused_or_taken, on_ask}
use Rattle.core_model.specs.ClockWork.{times_out, timed_out_ask, begun, clock_work}
use Rattle.core_model.specs.Ends.{with_caller, member_failed, stale_once, stales_limit, said, is_stale_reply, ask_done, ask_answered, lost_ask, lost_job, lost_call, acquire_if, reads_if, answered_job, or_lost, heard_call, answered_call, call_gone, answer_of, on_answer, loss_of, on_lost}
use Rattle.core_model.specs.Ends.{is_keepalive as answers_keepalive}
use Rattle.core_model.specs.Groups.{keeps, is_out_stage, waits_next, is_out_for, group_since, joining, group_ended}
use Rattle.core_model.specs.Heard.{heard, header_taken}
use Rattle.core_model.specs.Kinds.{is_read, is_body_of, writes_keys}
use Rattle.core_model.specs.LeasingStream.{leasing_ticked, leasing_cut, is_readable, leasing_message, message_if_sent, item_header, leasing_item}
use Rattle.core_model.specs.LeasingStream as leasing
use Rattle.core_model.specs.Lookups.{leases, is_known, moment, reads_of, with_reads, has_ticket, ask_at, calls_as, out_at}
use Rattle.core_model.specs.Refusals.{refusal_of}
use Rattle.core_model.specs.Sessions.{without_session, seat_is_over, deadline_passed, seat_ticked, seat_calls, granted_by, grant_failed, keep_failed, kept, kept_by}
use Rattle.core_model.specs.State.{Opening, Core}
use Rattle.core_model.specs.Step.{ticked, on_tick, opening_at, client_item, item_of, on_item, client_cut, cut_of, on_cut}
use Rattle.core_model.specs.Stepped.{Stepped}
use Rattle.core_model.specs.Takes.{item_taken, taken, on_take, watcher_left, left, on_leave}
use Rattle.core_model.specs.Takes as takes
use Rattle.core_model.specs.Watching.{stream_message, stream_item, taken_item}
use Rattle.core_model.specs.Watching as watching
use Rattle.core_laws.proofs.Steps.Lists.{all_filtered, all_pushed, same_number}
use Rattle.watch_model.specs.Due as watches_due
use Rattle.std.specs.Option.{option_map}
use Rattle.etcd_types.proofs.KeyOrder.{same-equal}
use Rattle.etcd_types.specs.declared.watch.Event.{Event}
use Rattle.proxy_model.proofs.KeyedLaws.{at-with_at}
use Rattle.proxy_model.specs.Keyed.{at}
use Rattle.etcd_types.specs.Keys.{same}
use Rattle.etcd_types.proofs.Bools.{and_first, and_second, and_both}
use Rattle.proxy_model.specs.SeveralKeys.{written_ranges}
use Rattle.wait_model.specs.Asked.{submitted}
use Rattle.wait_model.specs.Covers.{covered}
use Rattle.wait_model.specs.Sent.{JobSent, job_sent}
use Rattle.wait_model.specs.Writes.{sends}
use Rattle.core_laws.specs.Writes.Laws.{OwnersCovered}
use Rattle.read_model.specs.Acquires.{acquire_sent, sent_out}
use Rattle.read_model.specs.PlainRead.{key_of}
use Rattle.core_model.specs.Asking.{write_is_asked}
use Rattle.core_model.specs.ClockWork.{writes_go_on, requests_timed_out}
use Rattle.core_model.specs.DueJobs.{DueJob, ForSession, ForWrites, ForAcquire, ForAsk, ForGroup, ToOpen, ForStream, first_job}
use Rattle.core_model.specs.Groups.{group_sent}
use Rattle.core_model.specs.Sending.{next_call, called_as, writes_sent, stream_opened, sent_by, on_work}
use Rattle.core_model.specs.Watching.{stream_job, stream_sent}
use Rattle.watch_model.specs.declared.stream.StreamJob.{StreamJob}
use Rattle.watch_model.specs.declared.stream.StreamJob.TheVariants as stream
use Rattle.core_model.specs.declared.event.CoreEvent.{CoreEvent}
use Rattle.core_model.specs.declared.event.CoreEvent.TheVariants as event
use Rattle.core_model.specs.Step.{happened, stepped, is_worn}
use Rattle.core_fits.specs.Fits.{is_reading}
use Rattle.core_model.specs.State.{Seat}
use Rattle.core_model.specs.Sessions.{drawn_session, seat_granted, seat_renewed, seat_free}
use Rattle.core_model.specs.declared.event.Outcome.{Outcome}
use Rattle.core_model.specs.declared.event.Outcome.TheVariants as outcome
use Rattle.core_model.specs.declared.event.StepFault.{StepFault}
use Rattle.core_model.specs.declared.event.Job.TheVariants as sent
use Rattle.std.specs.Prelude.{Result}
use Rattle.core_model.specs.ClockWork.{is_replied}
use Rattle.read_model.specs.Acquires.{is_acquiring}
use Rattle.cached_laws.specs.Awaited.{is_due_for, holds, is_over, Waits, waits, over, seat_is, Calls}
use Rattle.cached_laws.proofs.Jobs.{StandsIf}
use Rattle.cached_laws.proofs.Waiting.{ReadsWait, AfterSo, ReadsIf, IsOut, decided_waits, other_holds, other_over, elsewhere, others_so, replied_so, times_so, leaves_so, taken_so, acquire_answered_so, acquire_lost_so, wait_answered_so, wait_lost_so, acquire_sent_so}

either : {A : Type 0} (P : A → Type 0) (b : Bool) (x y : A) → P x → P y → P (cond b x y)
either P true x y h i = h
either P false x y h i = i

not_both : {A : Type 0} (b : Bool) → b ≡ true → b ≡ false → A
not_both b h i = absurd (let e : true ≡ false = sym h ∙ i in cc)

granted_is : (n sent ttl : ℕ) (s : Option Seat) → seat_is n (seat_granted sent ttl s) ≡ seat_is n s
granted_is n sent ttl None = refl
granted_is n sent ttl (Some s) = refl

renewed_is : (n sent ttl : ℕ) (s : Option Seat) → seat_is n (seat_renewed sent ttl s) ≡ seat_is n s
renewed_is n sent ttl None = refl
renewed_is n sent ttl (Some s) = refl

free_is : (n : ℕ) (s : Option Seat) → seat_is n (seat_free s) ≡ seat_is n s
free_is n None = refl
free_is n (Some s) = refl

ticked_is : (n word ttl step now : ℕ) (s : Option Seat) → (drawn_session word == n) ≡ false → seat_is n (Some (seat_ticked word ttl step now s)) ≡ true → seat_is n s ≡ true
ticked_is n word ttl step now None d e = not_both (drawn_session word == n) e d
ticked_is n word ttl step now (Some s) d e = e

calling : (call : ℕ) (s : Stage) → Rattle.core_model.specs.Lookups.stage_calls call s ≡ true → (is_acquiring s ≡ false) × (is_replied s ≡ false)
calling call (stage.Calling s) h = (refl, refl)
calling call (stage.Replied v) h = absurd (cc)
calling call stage.Acquiring h = absurd (cc)
calling call stage.Joined h = absurd (cc)
calling call stage.Behind h = absurd (cc)
calling call stage.Writes h = absurd (cc)
calling call (stage.Grouped s) h = absurd (cc)

next_waiting : (s : Stage) → waits_next s ≡ true → (is_acquiring s ≡ false) × (is_replied s ≡ false)
next_waiting (stage.Grouped s) h = (refl, refl)
next_waiting (stage.Calling s) h = absurd (cc)
next_waiting (stage.Replied v) h = absurd (cc)
next_waiting stage.Acquiring h = absurd (cc)
next_waiting stage.Joined h = absurd (cc)
next_waiting stage.Behind h = absurd (cc)
next_waiting stage.Writes h = absurd (cc)

due_waiting : (s : Stage) → Rattle.core_model.specs.Groups.is_due_stage s ≡ true → (is_acquiring s ≡ false) × (is_replied s ≡ false)
due_waiting (stage.Grouped s) h = (refl, refl)
due_waiting (stage.Calling s) h = absurd (cc)
due_waiting (stage.Replied v) h = absurd (cc)
due_waiting stage.Acquiring h = absurd (cc)
due_waiting stage.Joined h = absurd (cc)
due_waiting stage.Behind h = absurd (cc)
due_waiting stage.Writes h = absurd (cc)

lost_calm : (members step : ℕ) (a : Asked) → is_acquiring (lost_once members step a).stage ≡ false
lost_calm members step a = either (λ (s : Stage). is_acquiring s ≡ false) (nat_le members (capped (a.losses + 1))) (stage.Replied verdict.Lost) (called step) refl refl

stale_calm : (members step : ℕ) (a : Asked) → is_acquiring (stale_once members step a).stage ≡ false
stale_calm members step a = either (λ (s : Stage). is_acquiring s ≡ false) (nat_le (stales_limit members) (capped (a.stales + 1))) (stage.Replied verdict.Stale) (called step) refl refl

lost_ask_calm : (j : CallKind) (o : OutCall) (c : Core) (a : Asked) → (is_acquiring (lost_ask j o c a).stage ≡ false) × ((lost_ask j o c a).ticket ≡ a.ticket)
lost_ask_calm j o c a =
    either (λ (x : Asked). (is_acquiring x.stage ≡ false) × (x.ticket ≡ a.ticket)) (is_read j) (lost_once c.members.count c.own.waits.step a) (in_stage (stage.Replied verdict.Lost) a) (lost_calm c.members.count c.own.waits.step a, refl) (refl, refl)

call_calm : (q : Request) (c : Core) → is_acquiring (call_stage q c) ≡ false
call_calm (request.KeepAlive lease) c = either (λ (s : Stage). is_acquiring s ≡ false) (is_out_for lease c.out) (stage.Grouped None) (joining c.own.waits.step (group_since lease c.asks)) refl (by (group_since lease c.asks))
  where
    by : (o : Option ℕ) → is_acquiring (joining c.own.waits.step o) ≡ false
    by None = refl
    by (Some since) = refl
call_calm (request.Range ask) c = refl
call_calm (request.Put ask) c = refl
call_calm (request.Delete ask) c = refl
call_calm (request.Txn t) c = refl
call_calm (request.Compact revision physical) c = refl
call_calm (request.Grant ttl lease) c = refl
call_calm (request.Revoke lease) c = refl
call_calm (request.TimeToLive lease keys) c = refl
call_calm request.Leases c = refl
call_calm (request.Watch ask) c = refl

-- where a call is out as an acquire, the acquire of its key is out
abbrev pub OutStands : Core → Type 0
OutStands c = (call : ℕ) (o : OutCall) (j : List ℕ) → out_at call c.out ≡ Some o → o.job ≡ job.Acquire j → (x : Acquire) × (at c.acquires j ≡ Some x) × (is_due x.sending ≡ false)

-- of the read of this ticket and key, asked at this reading under the session of this number
module _ (ticket : ℕ) (k : List ℕ) (since n : ℕ) where
  abbrev pub CoreSo : Core → Type 0
  CoreSo c = seat_is n c.seat ≡ true → Waits ticket k since c.acquires c.asks

  abbrev pub StepSo : Stepped → Type 0
  StepSo s = CoreSo s.core

  abbrev All : List Asked → Keyed Acquire → Type 0
  All xs acquires = Waits ticket k since acquires xs

  -- ---- the clock's work

  ended_so : (now : ℕ) (c : Core) → CoreSo (without_session now c)
  ended_so now c = λ e. absurd (cc)

  pub clock_so : (now : ℕ) (c : Core) → CoreSo c → CoreSo (clock_work now c)
  unfolding clock_work
  clock_so now c h =
      let d = deadline_passed now (begun c) in
      let t : CoreSo d = either CoreSo (seat_is_over c.seat now) (without_session now (begun c)) (begun c) (ended_so now (begun c)) h in
      λ e. times_so ticket k since now (moment d now) (reads_of d) (t e)

  -- ---- calls end

  abbrev IfSo : Option Core → Type 0
  IfSo None = Unit {0}
  IfSo (Some c) = CoreSo c

  kept_so : (now : ℕ) (o : OutCall) (ttl : ℕ) (c : Core) → CoreSo c → CoreSo (kept now o ttl c)
  kept_so now o ttl c t = either CoreSo (ttl == 0) (without_session now c) (record c { seat = seat_renewed o.sent_at ttl c.seat }) (ended_so now c) (λ e. t (sym (renewed_is n o.sent_at ttl c.seat) ∙ e))

  renewed_so : (now : ℕ) (o : OutCall) (b : Body) (c : Core) → CoreSo c → IfSo (kept_by now o b c)
  renewed_so now o (body.KeepAlive lease ttl) c t = either CoreSo (seat_calls o.call c.seat) (kept now o ttl c) c (kept_so now o ttl c t) t
  renewed_so now o (body.Range count more kvs) c t = tt
  renewed_so now o (body.Put prev) c t = tt
  renewed_so now o (body.Delete deleted prevs) c t = tt
  renewed_so now o (body.Txn' succeeded m bodies) c t = tt
  renewed_so now o body.Compact c t = tt
  renewed_so now o (body.Grant lease ttl) c t = tt
  renewed_so now o body.Revoke c t = tt
  renewed_so now o (body.TimeToLive lease ttl granted keys) c t = tt
  renewed_so now o (body.Leases leases) c t = tt

  granted_so : (o : OutCall) (b : Body) (c : Core) → CoreSo c → IfSo (granted_by o b c)
  granted_so o (body.Grant lease ttl) c t = either CoreSo (seat_calls o.call c.seat) (record c { seat = seat_granted o.sent_at ttl c.seat }) c (λ e. t (sym (granted_is n o.sent_at ttl c.seat) ∙ e)) t
  granted_so o (body.Range count more kvs) c t = tt
  granted_so o (body.Put prev) c t = tt
  granted_so o (body.Delete deleted prevs) c t = tt
  granted_so o (body.Txn' succeeded m bodies) c t = tt
  granted_so o body.Compact c t = tt
  granted_so o (body.KeepAlive lease ttl) c t = tt
  granted_so o body.Revoke c t = tt
  granted_so o (body.TimeToLive lease ttl granted keys) c t = tt
  granted_so o (body.Leases leases) c t = tt

  grant_failed_so : (o : OutCall) (c : Core) → CoreSo c → CoreSo (grant_failed o c)
  grant_failed_so o c t = either CoreSo (seat_calls o.call c.seat) (record c { seat = None }) c (λ e. absurd (cc)) t

  keep_failed_so : (o : OutCall) (c : Core) → CoreSo c → CoreSo (keep_failed o c)
  keep_failed_so o c t = either CoreSo (seat_calls o.call c.seat) (record c { seat = seat_free c.seat }) c (λ e. t (sym (free_is n c.seat) ∙ e)) t

  caller_so : (f : Asked → Asked) (call : ℕ) (c : Core) → ((a : Asked) → (f a).ticket ≡ a.ticket) → ((a : Asked) → is_acquiring (f a).stage ≡ false) → CoreSo c → CoreSo (with_caller call f c)
  caller_so f call c s m t =
      λ e. others_so ticket k since c.acquires (calls_as call) f c.asks s m (λ a h. let p = calling call a.stage h in elsewhere ticket k since a p.0 p.1) (t e)

  ask_so : (j : CallKind) (o : OutCall) (a : Answer) (c : Core) → CoreSo c → IfSo (ask_answered j o a c)
  ask_so j o (Refused r) c t = caller_so (said (Refused r)) o.call c (λ x. refl) (λ x. refl) t
  ask_so j o (Done reply) c t =
      either IfSo (is_body_of j reply.body) (Some (ask_done j o reply c)) None
      (either CoreSo (is_stale_reply j o reply) (with_caller o.call (stale_once c.members.count c.own.waits.step) (member_failed o c)) (with_caller o.call (said (Done reply)) c)
      (caller_so (stale_once c.members.count c.own.waits.step) o.call (member_failed o c) (λ x. refl) (stale_calm c.members.count c.own.waits.step) t) (caller_so (said (Done reply)) o.call c (λ x. refl) (λ x. refl) t))
      tt

  group_one : (step call lease : ℕ) (v : Verdict) (xs : List Asked) (acquires : Keyed Acquire) → All xs acquires → All (map (group_ended step call lease v) xs) acquires
  group_one step call lease v xs acquires w =
      subst (λ (ys : List Asked). All ys acquires) (two_maps xs)
      (replied_so ticket k since acquires (λ a. is_out_stage call a.stage) v (map first xs) (others_so ticket k since acquires passes second xs (λ a. refl) (λ a. refl) (λ a h. let p = next_waiting a.stage (waits_for a h) in elsewhere ticket k since a p.0 p.1) w))
    where
      passes : Asked → Bool
      passes a = not (is_out_stage call a.stage) && (keeps lease a.request && waits_next a.stage)

      second : Asked → Asked
      second a = in_stage (stage.Grouped (Some (sending.Due step))) a

      first : Asked → Asked
      first a = cond (passes a) (second a) a

      waits_for : (a : Asked) → passes a ≡ true → waits_next a.stage ≡ true
      waits_for a h = and_second (keeps lease a.request) (waits_next a.stage) (and_second (not (is_out_stage call a.stage)) (keeps lease a.request && waits_next a.stage) h)

      one : (a : Asked) → cond (is_out_stage call (first a).stage) (in_stage (stage.Replied v) (first a)) (first a) ≡ group_ended step call lease v a
      one a = by (is_out_stage call a.stage) refl (keeps lease a.request && waits_next a.stage) refl
        where
          by : (b : Bool) → is_out_stage call a.stage ≡ b → (d : Bool) → (keeps lease a.request && waits_next a.stage) ≡ d
              → cond (is_out_stage call (cond (not b && d) (second a) a).stage) (in_stage (stage.Replied v) (cond (not b && d) (second a) a)) (cond (not b && d) (second a) a) ≡ cond b (in_stage (stage.Replied v) a) (cond d (second a) a)
          by true e d f = ap (λ (x : Bool). cond x (in_stage (stage.Replied v) a) a) e
          by false e true f = refl
          by false e false f = ap (λ (x : Bool). cond x (in_stage (stage.Replied v) a) a) e

      two_maps : (ys : List Asked) → map (λ a. cond (is_out_stage call a.stage) (in_stage (stage.Replied v) a) a) (map first ys) ≡ map (group_ended step call lease v) ys
      two_maps [] = refl
      two_maps (y ∷ ys) = λ i. one y i ∷ two_maps ys i

  group_so : (step call lease : ℕ) (v : Verdict) (c : Core) → CoreSo c → CoreSo (record c { asks = map (group_ended step call lease v) c.asks })
  group_so step call lease v c t = λ e. group_one step call lease v c.asks c.acquires (t e)

  lost_job_so : (now : ℕ) (o : OutCall) (j : OutJob) (c : Core) → ((i : List ℕ) → j ≡ job.Acquire i → (x : Acquire) × (at c.acquires i ≡ Some x) × (is_due x.sending ≡ false)) → CoreSo c → CoreSo (lost_job now o j c)
  lost_job_so now o (job.Grant lease) c s t = grant_failed_so o c t
  lost_job_so now o (job.Keep lease) c s t = keep_failed_so o c t
  lost_job_so now o (job.Acquire i) c s t = λ e. let x = s i refl in acquire_lost_so ticket k since c.members.count (moment c now) i (reads_of c) x.0 x.1 x.2 (t e)
  lost_job_so now o job.Wait c s t = λ e. wait_lost_so ticket k since (moment c now) o.call (reads_of c) (t e)
  lost_job_so now o (job.Ask j) c s t = caller_so (lost_ask j o c) o.call c (λ a. (lost_ask_calm j o c a).1) (λ a. (lost_ask_calm j o c a).0) t
  lost_job_so now o (job.Group lease) c s t = group_so c.own.waits.step o.call lease verdict.Lost c t

  lost_call_so : (now : ℕ) (o : OutCall) (c : Core) → ((i : List ℕ) → o.job ≡ job.Acquire i → (x : Acquire) × (at c.acquires i ≡ Some x) × (is_due x.sending ≡ false)) → CoreSo c → CoreSo (lost_call now o c)
  lost_call_so now o c s t = lost_job_so now o o.job (member_failed o c) s t

  is_out : {o : Option Acquire} → (x : Acquire) × (o ≡ Some x) × (is_due x.sending ≡ false) → IsOut ticket k since o
  is_out {o} s c e = let f : Some c ≡ Some s.0 = sym e ∙ s.1 in subst (λ (y : Acquire). is_due y.sending ≡ false) (same_acquire s.0 c (sym f)) s.2
    where
      same_acquire : (x y : Acquire) → Some x ≡ Some y → x ≡ y
      same_acquire x y e = cc

  job_so : (now : ℕ) (o : OutCall) (j : OutJob) (a : Answer) (c : Core) → ((i : List ℕ) → j ≡ job.Acquire i → (x : Acquire) × (at c.acquires i ≡ Some x) × (is_due x.sending ≡ false)) → CoreSo c → IfSo (answered_job now o j a c)
  job_so now o (job.Grant lease) (Done reply) c s t = granted_so o reply.body c t
  job_so now o (job.Grant lease) (Refused r) c s t = grant_failed_so o c t
  job_so now o (job.Keep lease) (Done reply) c s t = renewed_so now o reply.body c t
  job_so now o (job.Keep lease) (Refused r) c s t = keep_failed_so o c t
  job_so now o (job.Acquire i) a c s t = by (acquire_answered (moment c now) i a (reads_of c)) (λ e. acquire_answered_so ticket k since (moment c now) i a (reads_of c) (is_out (s i refl)) (t e))
    where
      by_end : (ends : Bool) (r : Reads) → (seat_is n c.seat ≡ true → ends ≡ false → ReadsWait ticket k since r) → CoreSo (with_reads (cond ends (record c { seat = None }) c) r)
      by_end true r h = λ e. absurd (cc)
      by_end false r h = λ e. h e refl

      by : (q : Option AfterAcquire) → (seat_is n c.seat ≡ true → AfterSo ticket k since q) → IfSo (acquire_if c q)
      by None h = tt
      by (Some x) h = by_end x.ends x.reads h
  job_so now o job.Wait a c s t = by (wait_answered (moment c now) o.call a (reads_of c)) (λ e. wait_answered_so ticket k since (moment c now) o.call a (reads_of c) (t e))
    where
      by : (q : Option Reads) → (seat_is n c.seat ≡ true → ReadsIf ticket k since q) → IfSo (reads_if c q)
      by None h = tt
      by (Some r) h = h
  job_so now o (job.Ask j) a c s t = ask_so j o a c t
  job_so now o (job.Group lease) a c s t =
      either IfSo (answers_keepalive a) (Some (record c { asks = Rattle.core_model.specs.Groups.groups_ended c.own.waits.step o.call lease (verdict.Said a) c.asks })) None
      (group_so c.own.waits.step o.call lease (verdict.Said a) c t) tt

  heard_so : (now : ℕ) (o : OutCall) (h : Option Answer) (c : Core) → ((i : List ℕ) → o.job ≡ job.Acquire i → (x : Acquire) × (at c.acquires i ≡ Some x) × (is_due x.sending ≡ false)) → CoreSo c → CoreSo (heard_call now o h c)
  heard_so now o None c s t = lost_call_so now o c s t
  heard_so now o (Some a) c s t = by (answered_job now o o.job a c) (job_so now o o.job a c s t)
    where
      by : (q : Option Core) → IfSo q → CoreSo (or_lost now o c q)
      by None h = lost_call_so now o c s t
      by (Some d) h = h

  pub answered_so : (now call : ℕ) (a : Answer) (c : Core) → OutStands c → CoreSo c → StepSo (on_answer now call a c)
  unfolding on_answer
  answered_so now call a c s t = by (out_at call c.out) refl
    where
      by_answer : (o : OutCall) (b : Answer) → ((i : List ℕ) → o.job ≡ job.Acquire i → (x : Acquire) × (at c.acquires i ≡ Some x) × (is_due x.sending ≡ false)) → CoreSo (answered_call now o b (call_gone call c))
      by_answer o (Done reply) u = heard_so now o (heard c.settings.namespace (Done reply)) (header_taken reply.header (call_gone call c)) u t
      by_answer o (Refused r) u = heard_so now o (heard c.settings.namespace (Refused r)) (call_gone call c) u t

      by : (q : Option OutCall) → out_at call c.out ≡ q → StepSo (answer_of now call a q c)
      by None f = t
      by (Some o) f = by_answer o a (λ i e. s call o i f e)

  pub lost_so : (now call : ℕ) (c : Core) → OutStands c → CoreSo c → StepSo (on_lost now call c)
  unfolding on_lost
  lost_so now call c s t = by (out_at call c.out) refl
    where
      by : (q : Option OutCall) → out_at call c.out ≡ q → StepSo (loss_of now call q c)
      by None f = t
      by (Some o) f = lost_call_so now o (call_gone call c) (λ i e. s call o i f e) t

  -- ---- another request is asked

  pushed_so : (a : Asked) (acquires after : Keyed Acquire) (xs : List Asked) → (a.ticket == ticket) ≡ false → (is_due_for ticket (at acquires k) ≡ true → (is_due_for ticket (at after k) ≡ true) × (acquires_at k a ≡ false)) → All xs acquires → All (xs ++ a ∷ []) after
  pushed_so a acquires after xs o g (waits d h) = waits (g d).0 (all_pushed (holds ticket k since) a xs h (other_holds ticket k since a o (g d).1))
  pushed_so a acquires after xs o g (over h) = over (all_pushed (is_over ticket k since) a xs h (other_over ticket k since a o))

  calm_at : (a : Asked) → is_acquiring a.stage ≡ false → acquires_at k a ≡ false
  calm_at a h = ap (λ (b : Bool). b && same (ask_key a) k) h

  calm_pushed : (a : Asked) (c : Core) → (a.ticket == ticket) ≡ false → is_acquiring a.stage ≡ false → CoreSo c → CoreSo (record c { asks = c.asks ++ a ∷ [] })
  calm_pushed a c o m t = λ e. pushed_so a c.acquires c.acquires c.asks o (λ d. (d, calm_at a m)) (t e)

  call_asked_so : (a : Asked) (c : Core) → (a.ticket == ticket) ≡ false → CoreSo c → StepSo (call_is_asked a c)
  call_asked_so a c o t = calm_pushed (in_stage (call_stage a.request c) a) c o (call_calm a.request c) t

  read_so : (m : Moment) (a : Asked) (c : Core) → (a.ticket == ticket) ≡ false → CoreSo c → StepSo (read_is_asked m a c)
  read_so m a c o t = by (decided_ask m (ground_of (reads_of c)) a).stage
    where
      pushed : CoreSo (with_reads c (read_asked m a (reads_of c)))
      pushed = λ e.
          pushed_so (decided_ask m (ground_of (reads_of c)) a) c.acquires (Rattle.read_model.specs.PlainRead.decided_ground m (ground_of (reads_of c)) a).acquires c.asks o
          (λ d. let p = decided_waits ticket k since m (ground_of (reads_of c)) a d in (p.1, p.0)) (t e)

      by : (s : Stage) → StepSo (read_by s c (with_reads c (read_asked m a (reads_of c))))
      by (stage.Replied v) = t
      by (stage.Calling s) = pushed
      by stage.Acquiring = pushed
      by stage.Joined = pushed
      by stage.Behind = pushed
      by stage.Writes = pushed
      by (stage.Grouped s) = pushed

  taken_in_so : (m : Moment) (a : Asked) (c : Core) → (a.ticket == ticket) ≡ false → CoreSo c → StepSo (taken_in m a c)
  taken_in_so m a c o t =
      either StepSo (leases c) (leased_ask m a c) (call_is_asked a c)
      (either StepSo (is_leased_read c.own.waits.prefix a.request) (read_is_asked m a c) (cond (writes_keys a.request) (write_is_asked a c) (answered_or_called (if_live m.session (held_body c.own.entries a.request)) a c)) (read_so m a c o t)
      (either StepSo (writes_keys a.request) (write_is_asked a c) (answered_or_called (if_live m.session (held_body c.own.entries a.request)) a c) (calm_pushed (in_stage stage.Writes a) c o refl t) (by_body (if_live m.session (held_body c.own.entries a.request)))))
      (call_asked_so a c o t)
    where
      by_body : (b : Option Body) → StepSo (answered_or_called b a c)
      by_body None = call_asked_so a c o t
      by_body (Some b) = t

  request_so : (q : Request) (m : Moment) (a : Asked) (c : Core) → (a.ticket == ticket) ≡ false → CoreSo c → StepSo (request_asked q m a c)
  request_so (request.Watch ask) m a c o t = t
  request_so (request.KeepAlive lease) m a c o t = taken_in_so m a c o t
  request_so (request.Range ask) m a c o t = taken_in_so m a c o t
  request_so (request.Put ask) m a c o t = taken_in_so m a c o t
  request_so (request.Delete ask) m a c o t = taken_in_so m a c o t
  request_so (request.Txn x) m a c o t = taken_in_so m a c o t
  request_so (request.Compact revision physical) m a c o t = taken_in_so m a c o t
  request_so (request.Grant ttl lease) m a c o t = taken_in_so m a c o t
  request_so (request.Revoke lease) m a c o t = taken_in_so m a c o t
  request_so (request.TimeToLive lease keys) m a c o t = taken_in_so m a c o t
  request_so request.Leases m a c o t = taken_in_so m a c o t

  pub asked_so : (now other : ℕ) (q : Request) (word : ℕ) (c : Core) → (other == ticket) ≡ false → CoreSo c → StepSo (on_ask now other q word c)
  unfolding on_ask
  asked_so now other q word c o t =
      either StepSo (is_known other c) (Rattle.core_model.specs.Stepped.faults c (Rattle.core_model.specs.declared.event.StepFault.TheVariants.TicketUsed other)) (refused_or_taken (refusal_of c.own.waits.prefix q) (moment c now) (asked_at now other q word) c) t (by (refusal_of c.own.waits.prefix q))
    where
      by : (r : Option Refusal) → StepSo (refused_or_taken r (moment c now) (asked_at now other q word) c)
      by None = request_so q (moment c now) (asked_at now other q word) c o t
      by (Some r) = t

  -- ---- a request is taken or left

  pub take_so : (other : ℕ) (c : Core) → CoreSo c → StepSo (on_take other c)
  unfolding on_take
  take_so other c t = by_ask (ask_at other c.asks)
    where
      by_pair : (x : Broadcasts × Option WatchItem) → StepSo (taken_item c x)
      by_pair (b, None) = t
      by_pair (b, Some x) = t

      by_watch : (w : Option Watch) → StepSo (item_taken other w c)
      by_watch None = t
      by_watch (Some w) = by_pair (watches.taken_from c.watches c.header w w.queue)

      by_stage : (s : Stage) → StepSo (takes.taken_from other s c)
      by_stage (stage.Replied v) = λ e. taken_so ticket k since other c.acquires c.asks (t e)
      by_stage (stage.Calling s) = t
      by_stage stage.Acquiring = t
      by_stage stage.Joined = t
      by_stage stage.Behind = t
      by_stage stage.Writes = t
      by_stage (stage.Grouped s) = t

      by_ask : (o : Option Asked) → StepSo (taken other o c)
      by_ask None = by_watch (watch_at other c.watches.watches)
      by_ask (Some a) = by_stage a.stage

  pub leave_so : (now other : ℕ) (c : Core) → CoreSo c → StepSo (on_leave now other c)
  unfolding on_leave
  leave_so now other c t = by_ask (ask_at other c.asks)
    where
      by_watch : (w : Option Watch) → StepSo (watcher_left other w c)
      by_watch None = t
      by_watch (Some w) = t

      by_ask : (o : Option Asked) → StepSo (left now other o c)
      by_ask None = by_watch (watch_at other c.watches.watches)
      by_ask (Some a) = λ e. leaves_so ticket k since other (moment c now) (reads_of c) (t e)

  -- ---- ticks, messages and cuts

  pub tick_so : (now word : ℕ) (c : Core) → (drawn_session word == n) ≡ false → CoreSo c → StepSo (on_tick now word c)
  unfolding on_tick
  tick_so now word c d t = either CoreSo (leases c) (ticked now word c) c (by c.leasing) t
    where
      by : (o : Option Opening) → CoreSo (leasing_ticked o (record c { seat = Some (seat_ticked word c.settings.ttl c.own.waits.step now c.seat) }))
      by None = λ e. t (ticked_is n word c.settings.ttl c.own.waits.step now c.seat d e)
      by (Some o) = λ e. t (ticked_is n word c.settings.ttl c.own.waits.step now c.seat d e)

  message_so : (now : ℕ) (o : Opening) (x : WatchItem) (c : Core) → CoreSo c → CoreSo (leasing_message now o x c)
  message_so now o (item.Created d) c t = either CoreSo o.stream.created c (record (leasing.stream_is o (Rattle.proxy_model.specs.Upstream.created o.stream d.revision) c) { own = leasing.own_created o.stream.next c.own }) t t
  message_so now o (item.Events d es) c t =
      either CoreSo (is_readable o.stream es) (record (leasing.stream_is o (Rattle.proxy_model.specs.Upstream.advance o.stream (leasing.told_revision d es)) c) { own = Rattle.wait_model.specs.Notices.all_noticed (Rattle.core_model.specs.Lookups.live_number c.seat now) es c.own }) (leasing_cut o c) t t
  message_so now o (item.Canceled d compaction) c t =
      either CoreSo (compaction == 0) (leasing_cut o c) (leasing.due_anew (Rattle.proxy_model.specs.Upstream.opened o.stream.range 0) (record c { own = Rattle.wait_model.specs.LeasingStream.all_given_up c.own })) t t

  leasing_so : (now : ℕ) (o : Opening) (x : WatchItem) (c : Core) → CoreSo c → CoreSo (leasing_item now o x c)
  leasing_so now o x c t = by_due o.due
    where
      by_text : (u : Unwrapped WatchItem) → CoreSo (leasing.unwrapped_message now o u (header_taken (item_header x) c))
      by_text (Ok y) = message_so now o y (header_taken (item_header x) c) t
      by_text (Err foreign) = t

      by_due : (d : Option ℕ) → CoreSo (message_if_sent now o d x (header_taken (item_header x) c))
      by_due None = by_text (item_without c.settings.namespace x)
      by_due (Some since) = t

  stream_so : (s : Stream) (x : WatchItem) (c : Core) → CoreSo c → CoreSo (stream_item s x c)
  stream_so s x c t = either CoreSo (is_begun s.phase) (watching.unwrapped_message s (item_without c.settings.namespace x) (header_taken (item_header x) c)) (header_taken (item_header x) c) (by_text (item_without c.settings.namespace x)) t
    where
      by_message : (y : WatchItem) → CoreSo (stream_message s y (header_taken (item_header x) c))
      by_message (item.Created d) = t
      by_message (item.Events d es) = t
      by_message (item.Canceled d compaction) = t

      by_text : (u : Unwrapped WatchItem) → CoreSo (watching.unwrapped_message s u (header_taken (item_header x) c))
      by_text (Ok y) = by_message y
      by_text (Err foreign) = t

  pub item_so : (now number : ℕ) (x : WatchItem) (c : Core) → CoreSo c → StepSo (on_item now number x c)
  unfolding on_item
  item_so now number x c t = by_opening (opening_at number c.leasing)
    where
      by_stream : (r : Option Stream) → StepSo (client_item number x r c)
      by_stream None = t
      by_stream (Some r) = stream_so r x c t

      by_opening : (o : Option Opening) → StepSo (item_of now number x o c)
      by_opening None = by_stream (stream_at number c.watches.streams)
      by_opening (Some o) = leasing_so now o x c t

  pub cut_so : (number : ℕ) (c : Core) → CoreSo c → StepSo (on_cut number c)
  unfolding on_cut
  cut_so number c t = by_opening (opening_at number c.leasing)
    where
      by_stream : (s : Option Stream) → StepSo (client_cut number s c)
      by_stream None = t
      by_stream (Some s) = t

      by_opening : (o : Option Opening) → StepSo (cut_of number o c)
      by_opening None = by_stream (stream_at number c.watches.streams)
      by_opening (Some o) = t

  -- ---- a job is sent that doesn't name the read

  unnamed : (t : ℕ) (r : Result Outcome StepFault) (own member : ℕ) (q : Request) → r ≡ Ok (outcome.Job (Some (sent.Call own member t q))) → ((q : Request) → Calls r ticket q → ⊥) → (t == ticket) ≡ false
  unnamed t r own member q e u = by (t == ticket) refl
    where
      by : (b : Bool) → (t == ticket) ≡ b → b ≡ false
      by true f = absurd (u q (own, member, e ∙ ap (λ (m : ℕ). Ok (outcome.Job (Some (sent.Call own member m q)))) (same_number t ticket f)))
      by false f = refl

  sent_so : (now : ℕ) (j : Option DueJob) (c : Core) → StandsIf ticket c j → ((q : Request) → Calls (sent_by now j c).outcome ticket q → ⊥) → CoreSo c → StepSo (sent_by now j c)
  sent_so now None c s u t = t
  sent_so now (Some (ForSession x)) c s u t = λ e. t (ap (seat_is n) s.1 ∙ ap (λ (y : Rattle.proxy_model.specs.Session.Session). y.number == n) s.2 ∙ e)
  sent_so now (Some ForWrites) c s u t = by (job_sent (next_call c) c.own)
    where
      by : (o : Option JobSent) → StepSo (writes_sent now o c)
      by None = t
      by (Some x) = t
  sent_so now (Some (ForAcquire i x)) c s u t = λ e. goes (t e)
    where
      other : (x.ticket == ticket) ≡ false
      other = unnamed x.ticket (sent_by now (Some (ForAcquire i x)) c).outcome (next_call c) c.members.current _ refl u

      apart : is_due_for ticket (at c.acquires k) ≡ true → same i k ≡ false
      apart d = by (same i k) refl
        where
          by : (b : Bool) → same i k ≡ b → b ≡ false
          by true e = not_both (x.ticket == ticket) (and_first (x.ticket == ticket) (is_due x.sending) (ap (is_due_for ticket) (sym s.0 ∙ ap (at c.acquires) (same-equal i k e)) ∙ d)) other
          by false e = refl

      goes : Waits ticket k since c.acquires c.asks → Waits ticket k since (Rattle.proxy_model.specs.Keyed.changed_at c.acquires i (sent_out (next_call c))) c.asks
      goes (waits d h) = acquire_sent_so ticket k since i (next_call c) c.acquires c.asks (apart d) (waits d h)
      goes (over h) = over h
  sent_so now (Some (ForAsk a)) c s u t = λ e.
      others_so ticket k since c.acquires (has_ticket a.ticket) (in_stage (stage.Calling (sending.Out (next_call c)))) c.asks (λ x. refl) (λ x. refl) (λ x h. (λ i. others x h, λ i. others x h)) (t e)
    where
      others : (x : Asked) → has_ticket a.ticket x ≡ true → (x.ticket == ticket) ≡ false
      others x h = ap (λ (m : ℕ). m == ticket) (same_number x.ticket a.ticket h) ∙ unnamed a.ticket (sent_by now (Some (ForAsk a)) c).outcome (next_call c) c.members.current _ refl u
  sent_so now (Some (ForGroup lease t')) c s u t = λ e.
      others_so ticket k since c.acquires (λ a. keeps lease a.request && Rattle.core_model.specs.Groups.is_due_stage a.stage) (in_stage (stage.Grouped (Some (sending.Out (next_call c))))) c.asks (λ x. refl) (λ x. refl)
      (λ x h. let p = due_waiting x.stage (and_second (keeps lease x.request) (Rattle.core_model.specs.Groups.is_due_stage x.stage) h) in elsewhere ticket k since x p.0 p.1) (t e)
  sent_so now (Some (ToOpen o)) c s u t = t
  sent_so now (Some (ForStream r)) c s u t = by (watches_due.next_job c.watches (Some r)).1
    where
      by : (j : Option StreamJob) → StepSo (stream_job j (watching.with_watches c (watches_due.next_job c.watches (Some r)).0))
      by None = t
      by (Some (stream.Close number)) = t
      by (Some (stream.Open number range start)) = t

  pub work_so : (now : ℕ) (c : Core) → StandsIf ticket c (first_job c) → ((q : Request) → Calls (on_work now c).outcome ticket q → ⊥) → CoreSo c → StepSo (on_work now c)
  unfolding on_work
  work_so now c s u t = sent_so now (first_job c) c s u t
