-- Each event, as far as keepalives go: a request is new, a group's call is sent, or it is answered; else each stays as it is, or tells of no
-- call any more.
use Rattle.std.proofs.Common.{◌≡◌, ◌⊎◌, inl, inr, ℕ, ◌==◌, Bool, true, false, not, cond, ◌&&◌, ◌||◌, List, [], ◌∷◌, ◌++◌, map, Option, None, Some, Result, Ok, Err, refl, sym, ◌∙◌, ap, subst}
use Rattle.std.specs.List.{list_any}
use Rattle.etcd_types.specs.declared.answer.Answer.{Answer}
use Rattle.etcd_types.specs.declared.answer.Answer.TheVariants.{Done, Refused}
use Rattle.etcd_types.specs.declared.answer.Body.{Body}
use Rattle.etcd_types.specs.declared.answer.Body.TheVariants as body
use Rattle.etcd_types.specs.declared.answer.Refusal.{Refusal}
use Rattle.etcd_types.specs.declared.answer.Reply.{Reply}
use Rattle.etcd_types.specs.declared.record.Header.{Header}
use Rattle.etcd_types.specs.declared.request.Request.{Request}
use Rattle.etcd_types.specs.declared.request.Request.TheVariants as request
use Rattle.etcd_types.specs.declared.watch.WatchItem.{WatchItem}
use Rattle.etcd_types.specs.declared.watch.WatchItem.TheVariants as item
use Rattle.etcd_types.specs.declared.watch.Event.{Event}
use Rattle.etcd_types.proofs.Bools.{and_first, and_second, or_first, or_second, or_none, or_either, not_true}
use Rattle.proxy_model.specs.Acquire.{claimed}
use Rattle.proxy_model.specs.Unwrapped.{Unwrapped, item_without}
use Rattle.wait_model.specs.declared.sending.Sending.TheVariants as sending
use Rattle.wait_model.specs.declared.wait.Settled.{Settled}
use Rattle.wait_model.specs.declared.wait.Settled.TheVariants as settled
use Rattle.wait_model.specs.Endings as endings
use Rattle.wait_model.specs.GuardedAnswers.{Ending}
use Rattle.wait_model.specs.Sent.{JobSent, job_sent}
use Rattle.wait_model.specs.declared.write.Write.{Write}
use Rattle.read_model.specs.declared.asked.Asked.{Asked}
use Rattle.read_model.specs.declared.asked.Stage.{Stage}
use Rattle.read_model.specs.declared.asked.Stage.TheVariants as stage
use Rattle.read_model.specs.declared.asked.Verdict.TheVariants as verdict
use Rattle.read_model.specs.declared.acquire.Acquire.{Acquire}
use Rattle.proxy_model.specs.declared.ownership.Claim.{Claim}
use Rattle.proxy_model.specs.declared.ownership.Claim.TheVariants.{Acquired, OwnedBy}
use Rattle.read_model.specs.Acquires.{read_asked, AfterAcquire, told, told_lost, acquire_done, done_by, acquire_refused, answered_acquire, is_to_be_held, acquire_lost, acquire_answered}
use Rattle.read_model.specs.PlainRead.{in_stage, shown}
use Rattle.read_model.specs.WriteAnswers.{ending, answered_by, wait_answered}
use Rattle.read_model.specs.State.{Moment, Reads, ground_of}
use Rattle.read_model.specs.PlainRead.{decided_ask}
use Rattle.core_model.specs.declared.event.CoreEvent.{CoreEvent}
use Rattle.core_model.specs.declared.event.CoreEvent.TheVariants as event
use Rattle.core_model.specs.declared.event.Job.TheVariants as sent
use Rattle.core_model.specs.declared.event.Outcome.{Outcome}
use Rattle.core_model.specs.declared.event.Outcome.TheVariants as outcome
use Rattle.core_model.specs.declared.event.StepFault.{StepFault}
use Rattle.core_model.specs.declared.out_call.CallKind.{CallKind}
use Rattle.core_model.specs.declared.out_call.CallKind.TheVariants as kind
use Rattle.core_model.specs.declared.out_call.OutCall.{OutCall}
use Rattle.core_model.specs.declared.out_call.OutJob.{OutJob}
use Rattle.core_model.specs.declared.out_call.OutJob.TheVariants as job
use Rattle.core_model.specs.ClockWork.{timed_out_ask, clock_work, begun}
use Rattle.core_model.specs.Ends.{with_caller, member_failed, lost_ask, lost_job, lost_call, stale_once, said, is_stale_reply, ask_done, ask_answered, acquire_if, reads_if, is_keepalive as answers_keepalive, group_answered, answered_job, or_lost, heard_call, answered_call, call_gone, answer_of, loss_of}
use Rattle.core_model.specs.Fits.{has_number, writing_tickets, write_tickets, ask_tickets, once, is_keepalive, WritesOk, AsksOk, Agrees, CoreOk}
use Rattle.core_model.specs.Asking.{asked_at, is_leased_read, is_plain_request, read_by, read_is_asked, held_body, if_live, call_stage, call_is_asked, answered_or_called, leased_ask, taken_in, request_asked, refused_or_taken, on_ask}
use Rattle.core_model.specs.Groups.{keeps, is_out_for, group_since, joining, is_out_stage, waits_next, is_due_stage, group_sent, group_ended, groups_ended}
use Rattle.core_model.specs.DueJobs.{DueJob, ForSession, ForWrites, ForAcquire, ForAsk, ForGroup, ToOpen, ForStream, first_job}
use Rattle.core_model.specs.Ends.{on_answer, on_lost}
use Rattle.core_model.specs.Heard.{heard, answer_taken, header_taken}
use Rattle.core_model.specs.LeasingStream.{leasing_ticked, leasing_cut, leasing_told, leasing_message, message_if_sent, item_header, leasing_item, is_readable}
use Rattle.core_model.specs.LeasingStream as leasing
use Rattle.core_model.specs.Kinds.{is_read, is_body_of, writes_keys}
use Rattle.core_model.specs.Lookups.{leases, is_known, moment, reads_of, with_reads, has_ticket, ask_at, calls_as, out_at}
use Rattle.core_model.specs.Refusals.{refusal_of}
use Rattle.core_model.specs.Stepped.{Stepped, counted, counted_by}
use Rattle.core_model.specs.Sending.{next_call, called_as, writes_sent, keeps_sent, sent_by, on_work}
use Rattle.core_model.specs.Sessions.{seat_is_over, without_session, deadline_passed, seat_ticked, seat_calls, granted_by, grant_failed, keep_failed, kept, kept_by}
use Rattle.core_model.specs.State.{Opening, Core}
use Rattle.core_model.specs.Step.{happened, is_worn, stepped, ticked, on_tick, client_item, item_of, on_item, client_cut, cut_of, on_cut, opening_at}
use Rattle.core_model.specs.Takes.{item_taken, taken, on_take, watcher_left, left, on_leave}
use Rattle.core_model.specs.Takes as takes
use Rattle.core_model.specs.Watching.{with_watches, stream_message, stream_item, taken_item, stream_job}
use Rattle.core_model.specs.Watching as watching
use Rattle.watch_model.specs.declared.stream.StreamJob.{StreamJob}
use Rattle.watch_model.specs.declared.stream.StreamJob.TheVariants as stream
use Rattle.watch_model.specs.Due.{next_job}
use Rattle.watch_model.specs.Lookups.{stream_at, watch_at, is_begun}
use Rattle.watch_model.specs.State.{Stream, Watch, Broadcasts}
use Rattle.watch_model.specs.Takes as watches
use Rattle.core_laws.proofs.Steps.Comes.{by_test}
use Rattle.core_laws.proofs.Steps.Due.{is_called_due, DueIf, first_due}
use Rattle.core_laws.proofs.Steps.Lists.{same_number}
use Rattle.core_laws.proofs.Steps.Middle.{clock_whole}
use Rattle.core_laws.proofs.Steps.Whole.{of_ok}
use Rattle.core_laws.proofs.Steps.WaitEnds.{IsRemoved, EndsAs, Ended, EndedIf, answered_ends, lost_ends, found_ticket}
use Rattle.keep_laws.proofs.Rows.{All, all_mapped, all_kept, all_filtered, all_pushed, is_grouped, is_silent, hushes, Lasts, all_go, Settles, all_settled, all_write, released_all, told_goes, told_lost_goes, times_go, Keeps, caller_goes, lost_group_goes}

-- ---- the clock's work

pub over_all : (P : Asked → Type 0) → Lasts P → (now : ℕ) (c : Core) → All P c.asks → All P (without_session now c).asks
over_all P l now c t = released_all P l false _ _ c.asks t

deadline_all : (P : Asked → Type 0) → Lasts P → (now : ℕ) (c : Core) → All P c.asks → All P (deadline_passed now c).asks
deadline_all P l now c t = by_test (λ (d : Core). All P d.asks) (seat_is_over c.seat now) (without_session now c) c (λ e. over_all P l now c t) (λ e. t)

pub clock_all : (P : Asked → Type 0) → Lasts P → (now : ℕ) (c : Core) → All P c.asks → All P (clock_work now c).asks
unfolding clock_work
clock_all P l now c t =
    let d = deadline_passed now (begun c) in
    released_all P l false _ _ (map (timed_out_ask now) d.asks) (all_go P l (timed_out_ask now) (times_go now) d.asks (deadline_all P l now (begun c) t))

-- ---- calls that end

-- tickets stand once, and the writes are the requests at that stage
record Fit (c : Core) : Type 0 where
  asks : AsksOk c.asks c.own.waits.writes
  writes : WritesOk c.own.waits.writes c.own.waits.out

abbrev AllIf : (Asked → Type 0) → Option Core → Type 0
AllIf P None = Unit {0}
AllIf P (Some c) = All P c.asks

abbrev AllReads : (Asked → Type 0) → Option Reads → Type 0
AllReads P None = Unit {0}
AllReads P (Some r) = All P r.asks

-- of an acquire

abbrev AllAfter : (Asked → Type 0) → Option AfterAcquire → Type 0
AllAfter P None = Unit {0}
AllAfter P (Some x) = All P x.reads.asks

claim_all : (P : Asked → Type 0) → Lasts P → (m : Moment) (k : List ℕ) (held : Bool) (h : Header) (c : Claim) (r : Reads) → All P r.asks → All P (acquire_done m k held h c r).asks
claim_all P l m k held h (Acquired create kv) r t = released_all P l held m _ _ (all_go P l (told k (shown h kv)) (told_goes k (shown h kv)) r.asks t)
claim_all P l m k held h (OwnedBy kv owner) r t = released_all P l false m _ _ (all_go P l (told k (shown h kv)) (told_goes k (shown h kv)) r.asks t)

claimed_all : (P : Asked → Type 0) → Lasts P → (m : Moment) (k : List ℕ) (held : Bool) (h : Header) (o : Option Claim) (r : Reads) → All P r.asks → AllAfter P (done_by m k held h o r)
claimed_all P l m k held h None r t = tt
claimed_all P l m k held h (Some c) r t = claim_all P l m k held h c r t

refused_all : (P : Asked → Type 0) → Lasts P → (m : Moment) (k : List ℕ) (ends : Bool) (r : Reads) → All P r.asks → All P (acquire_refused m k ends r).reads.asks
refused_all P l m k ends r t =
    by_test (λ (x : AfterAcquire). All P x.reads.asks) ends _ _ (λ e. released_all P l false m _ r.asks t) (λ e. released_all P l false m _ r.asks t)

answered_all : (P : Asked → Type 0) → Lasts P → (m : Moment) (k : List ℕ) (o : Option Acquire) (a : Answer) (r : Reads) → All P r.asks → AllAfter P (answered_acquire m k o a r)
answered_all P l m k None a r t = t
answered_all P l m k (Some c) (Done reply) r t = claimed_all P l m k (is_to_be_held m k c r) reply.header (claimed r.own.waits.prefix k reply) r t
answered_all P l m k (Some c) (Refused x) r t = refused_all P l m k _ r t

acquire_all : (P : Asked → Type 0) (c d : Core) (o : Option AfterAcquire) → AllAfter P o → AllIf P (acquire_if c o)
acquire_all P c d None t = tt
acquire_all P c d (Some x) t = t

acquire_lost_all : (P : Asked → Type 0) → Lasts P → (members : ℕ) (m : Moment) (k : List ℕ) (r : Reads) → All P r.asks → All P (acquire_lost members m k r).asks
acquire_lost_all P l members m k r t = released_all P l false m _ _ (all_go P l (told_lost members r.own.waits.step k) (told_lost_goes members r.own.waits.step k) r.asks t)

-- of a write

removed_named : (ticket : ℕ) (c : Core) (vs : List Write) → Fit c → IsRemoved ticket c.own.waits.writes vs → has_number (writing_tickets c.asks) ticket ≡ true
removed_named ticket c vs h e = sym (ap (λ (ns : List ℕ). has_number ns ticket) h.asks.writes) ∙ ap (has_number (write_tickets c.own.waits.writes)) e.named ∙ found_ticket e.test e.write c.own.waits.writes e.first

settles_so : (c : Core) (s : Settled) (vs : List Write) → Fit c → EndsAs c.own.waits.writes s vs → All (Settles s) c.asks
settles_so c settled.Nothing vs h e = every c.asks
  where
    every : (xs : List Asked) → All (Settles settled.Nothing) xs
    every [] = tt
    every (x ∷ xs) = (tt, every xs)
settles_so c (settled.Reply ticket a) vs h e = all_write ticket c.asks h.asks.once (removed_named ticket c vs h e)
settles_so c (settled.Failed ticket) vs h e = all_write ticket c.asks h.asks.once (removed_named ticket c vs h e)

ending_all : (P : Asked → Type 0) → Lasts P → (c : Core) (n : ℕ) (x : Ending) → Fit c → Ended n (endings.without_out n c.own) x → All P c.asks → All P (ending x (reads_of c)).asks
ending_all P l c n x h e t = all_settled P l x.settled c.asks (settles_so c x.settled x.own.waits.writes h e.how) t

wait_all : (P : Asked → Type 0) → Lasts P → (c : Core) (m : Moment) (n : ℕ) (o : Option Ending) → Fit c → EndedIf n (endings.without_out n c.own) o → All P c.asks → AllReads P (answered_by m o (reads_of c))
wait_all P l c m n None h e t = tt
wait_all P l c m n (Some x) h e t = released_all P l true m _ _ (ending_all P l c n x h e t)

-- of a session: at most it ends

kept_all : (P : Asked → Type 0) → Lasts P → (now : ℕ) (o : OutCall) (ttl : ℕ) (c : Core) → All P c.asks → All P (kept now o ttl c).asks
kept_all P l now o ttl c t = by_test (λ (d : Core). All P d.asks) (ttl == 0) (without_session now c) _ (λ e. over_all P l now c t) (λ e. t)

renewed_all : (P : Asked → Type 0) → Lasts P → (now : ℕ) (o : OutCall) (b : Body) (c : Core) → All P c.asks → AllIf P (kept_by now o b c)
renewed_all P l now o (body.KeepAlive lease ttl) c t = by_test (λ (d : Core). All P d.asks) (seat_calls o.call c.seat) (kept now o ttl c) c (λ e. kept_all P l now o ttl c t) (λ e. t)
renewed_all P l now o (body.Range count more kvs) c t = tt
renewed_all P l now o (body.Put prev) c t = tt
renewed_all P l now o (body.Delete deleted prevs) c t = tt
renewed_all P l now o (body.Txn' succeeded n bodies) c t = tt
renewed_all P l now o body.Compact c t = tt
renewed_all P l now o (body.Grant lease ttl) c t = tt
renewed_all P l now o body.Revoke c t = tt
renewed_all P l now o (body.TimeToLive lease ttl granted keys) c t = tt
renewed_all P l now o (body.Leases leases) c t = tt

granted_all : (P : Asked → Type 0) → (o : OutCall) (b : Body) (c : Core) → All P c.asks → AllIf P (granted_by o b c)
granted_all P o (body.Grant lease ttl) c t = by_test (λ (d : Core). All P d.asks) (seat_calls o.call c.seat) _ c (λ e. t) (λ e. t)
granted_all P o (body.Range count more kvs) c t = tt
granted_all P o (body.Put prev) c t = tt
granted_all P o (body.Delete deleted prevs) c t = tt
granted_all P o (body.Txn' succeeded n bodies) c t = tt
granted_all P o body.Compact c t = tt
granted_all P o (body.KeepAlive lease ttl) c t = tt
granted_all P o body.Revoke c t = tt
granted_all P o (body.TimeToLive lease ttl granted keys) c t = tt
granted_all P o (body.Leases leases) c t = tt

grant_failed_all : (P : Asked → Type 0) (o : OutCall) (c : Core) → All P c.asks → All P (grant_failed o c).asks
grant_failed_all P o c t = by_test (λ (d : Core). All P d.asks) (seat_calls o.call c.seat) _ c (λ e. t) (λ e. t)

keep_failed_all : (P : Asked → Type 0) (o : OutCall) (c : Core) → All P c.asks → All P (keep_failed o c).asks
keep_failed_all P o c t = by_test (λ (d : Core). All P d.asks) (seat_calls o.call c.seat) _ c (λ e. t) (λ e. t)

-- of a request itself

lost_keeps : (k : CallKind) (o : OutCall) (c : Core) → Keeps (lost_ask k o c)
lost_keeps k o c = record {
  ticket = λ x. by_test (λ (y : Asked). y.ticket ≡ x.ticket) (is_read k) _ _ (λ e. refl) (λ e. refl);
  request = λ x. by_test (λ (y : Asked). y.request ≡ x.request) (is_read k) _ _ (λ e. refl) (λ e. refl);
}

caller_all : (P : Asked → Type 0) → Lasts P → (n : ℕ) (f : Asked → Asked) → Keeps f → (c : Core) → All P c.asks → All P (with_caller n f c).asks
caller_all P l n f k c t = all_go P l (λ a. cond (calls_as n a) (f a) a) (caller_goes n f k) c.asks t

done_all : (P : Asked → Type 0) → Lasts P → (k : CallKind) (o : OutCall) (reply : Reply) (c : Core) → All P c.asks → All P (ask_done k o reply c).asks
done_all P l k o reply c t =
    by_test (λ (d : Core). All P d.asks) (is_stale_reply k o reply) _ _
    (λ e. caller_all P l o.call (stale_once c.members.count c.own.waits.step) (record { ticket = λ x. refl; request = λ x. refl }) (member_failed o c) t)
    (λ e. caller_all P l o.call (said (Done reply)) (record { ticket = λ x. refl; request = λ x. refl }) c t)

ask_answered_all : (P : Asked → Type 0) → Lasts P → (k : CallKind) (o : OutCall) (a : Answer) (c : Core) → All P c.asks → AllIf P (ask_answered k o a c)
ask_answered_all P l k o (Done reply) c t = by_body (is_body_of k reply.body)
  where
    by_body : (b : Bool) → AllIf P (cond b (Some (ask_done k o reply c)) None)
    by_body true = done_all P l k o reply c t
    by_body false = tt
ask_answered_all P l k o (Refused r) c t = caller_all P l o.call (said (Refused r)) (record { ticket = λ x. refl; request = λ x. refl }) c t

-- of a group: those in it are told what was heard

-- what held of a request before the step still holds, now said of what stands after it
pub record Turns (P Q : Asked → Type 0) : Type 0 where
  pub turns : (x : Asked) → P x → Q x
  pub lasts : Lasts Q

-- what a reply to its call does to those in it
abbrev pub Tells : (Asked → Type 0) → (Asked → Type 0) → ℕ → Option Answer → Type 0
Tells P Q call a =
    (x : Asked) (reply : Reply) → a ≡ Some (Done reply) → is_body_of kind.KeepAlive reply.body ≡ true → is_out_stage call x.stage ≡ true
    → P x → Q (in_stage (stage.Replied (verdict.Said (Done reply))) x)

told_row : (P Q : Asked → Type 0) → Turns P Q → (step call lease : ℕ) (a : Answer) → Tells P Q call (Some a) → answers_keepalive a ≡ true → (x : Asked) → P x → Q (group_ended step call lease (verdict.Said a) x)
told_row P Q l step call lease (Refused r) h k x t = l.lasts x _ (lost_group_goes step call lease (verdict.Said (Refused r)) x refl) (l.turns x t)
told_row P Q l step call lease (Done reply) h k x t =
    by_test Q (is_out_stage call x.stage) (in_stage (stage.Replied (verdict.Said (Done reply))) x) (cond (keeps lease x.request && waits_next x.stage) (in_stage (stage.Grouped (Some (sending.Due step))) x) x)
    (λ e. h x reply refl k e t)
    (λ e. by_test Q (keeps lease x.request && waits_next x.stage) (in_stage (stage.Grouped (Some (sending.Due step))) x) x (λ u. l.lasts x _ (hushes refl refl (λ g. refl)) (l.turns x t)) (λ u. l.turns x t))

group_all : (P Q : Asked → Type 0) → Turns P Q → (o : OutCall) (lease : ℕ) (a : Answer) (c : Core) → Tells P Q o.call (Some a) → All P c.asks → AllIf Q (group_answered o lease a c)
group_all P Q l o lease a c h t = by_answer (answers_keepalive a) refl
  where
    by_answer : (b : Bool) → answers_keepalive a ≡ b → AllIf Q (cond b (Some (record c { asks = groups_ended c.own.waits.step o.call lease (verdict.Said a) c.asks })) None)
    by_answer true e = all_mapped P Q (group_ended c.own.waits.step o.call lease (verdict.Said a)) (told_row P Q l c.own.waits.step o.call lease a h e) c.asks t
    by_answer false e = tt

-- all that a call can be for

lost_all : (P : Asked → Type 0) → Lasts P → (now : ℕ) (o : OutCall) (j : OutJob) (c : Core) → Fit c → All P c.asks → All P (lost_job now o j c).asks
lost_all P l now o (job.Grant lease) c h t = grant_failed_all P o c t
lost_all P l now o (job.Keep lease) c h t = keep_failed_all P o c t
lost_all P l now o (job.Acquire k) c h t = acquire_lost_all P l c.members.count (moment c now) k (reads_of c) t
lost_all P l now o job.Wait c h t = released_all P l false (moment c now) _ _ (ending_all P l c o.call (endings.lost o.call c.own) h (lost_ends o.call c.own h.writes) t)
lost_all P l now o (job.Ask k) c h t = caller_all P l o.call (lost_ask k o c) (lost_keeps k o c) c t
lost_all P l now o (job.Group lease) c h t = all_go P l (group_ended c.own.waits.step o.call lease verdict.Lost) (λ x. lost_group_goes c.own.waits.step o.call lease verdict.Lost x refl) c.asks t

job_all : (P Q : Asked → Type 0) → Turns P Q → (now : ℕ) (o : OutCall) (j : OutJob) (a : Answer) (c : Core) → Fit c → Tells P Q o.call (Some a) → All P c.asks → All Q c.asks → AllIf Q (answered_job now o j a c)
job_all P Q l now o (job.Grant lease) (Done reply) c h s p t = granted_all Q o reply.body c t
job_all P Q l now o (job.Grant lease) (Refused r) c h s p t = grant_failed_all Q o c t
job_all P Q l now o (job.Keep lease) (Done reply) c h s p t = renewed_all Q l.lasts now o reply.body c t
job_all P Q l now o (job.Keep lease) (Refused r) c h s p t = keep_failed_all Q o c t
job_all P Q l now o (job.Acquire k) a c h s p t = acquire_all Q c c (acquire_answered (moment c now) k a (reads_of c)) (answered_all Q l.lasts (moment c now) k _ a (reads_of c) t)
job_all P Q l now o job.Wait a c h s p t = reads_all (wait_answered (moment c now) o.call a (reads_of c)) (wait_all Q l.lasts c (moment c now) o.call _ h (answered_ends o.call a (moment c now).session now c.own h.writes) t)
  where
    reads_all : (r : Option Reads) → AllReads Q r → AllIf Q (reads_if c r)
    reads_all None t = tt
    reads_all (Some r) t = t
job_all P Q l now o (job.Ask k) a c h s p t = ask_answered_all Q l.lasts k o a c t
job_all P Q l now o (job.Group lease) a c h s p t = group_all P Q l o lease a c s p

-- ---- a request is asked

-- what holds of a request that is new
abbrev pub IsFresh : (Asked → Type 0) → ℕ → Request → Type 0
IsFresh P ticket q = (y : Asked) → y.ticket ≡ ticket → y.request ≡ q → (is_keepalive q ≡ true → is_silent y.stage ≡ true) → P y

joining_silent : (step : ℕ) (o : Option ℕ) → is_silent (joining step o) ≡ true
joining_silent step None = refl
joining_silent step (Some since) = refl

call_silent : (q : Request) (c : Core) → is_keepalive q ≡ true → is_silent (call_stage q c) ≡ true
call_silent (request.KeepAlive lease) c h = by_test (λ (s : Stage). is_silent s ≡ true) (is_out_for lease c.out) (stage.Grouped None) (joining c.own.waits.step (group_since lease c.asks)) (λ t. refl) (λ t. joining_silent c.own.waits.step (group_since lease c.asks))
call_silent (request.Range ask) c h = absurd (cc)
call_silent (request.Put ask) c h = absurd (cc)
call_silent (request.Delete ask) c h = absurd (cc)
call_silent (request.Txn t) c h = absurd (cc)
call_silent (request.Compact revision physical) c h = absurd (cc)
call_silent (request.Grant ttl lease) c h = absurd (cc)
call_silent (request.Revoke lease) c h = absurd (cc)
call_silent (request.TimeToLive lease keys) c h = absurd (cc)
call_silent request.Leases c h = absurd (cc)
call_silent (request.Watch ask) c h = absurd (cc)

read_no_keepalive : (q : Request) → is_plain_request q ≡ true → is_keepalive q ≡ true → ⊥
read_no_keepalive (request.KeepAlive lease) p h = absurd (cc)
read_no_keepalive (request.Range ask) p h = absurd (cc)
read_no_keepalive (request.Put ask) p h = absurd (cc)
read_no_keepalive (request.Delete ask) p h = absurd (cc)
read_no_keepalive (request.Txn t) p h = absurd (cc)
read_no_keepalive (request.Compact revision physical) p h = absurd (cc)
read_no_keepalive (request.Grant ttl lease) p h = absurd (cc)
read_no_keepalive (request.Revoke lease) p h = absurd (cc)
read_no_keepalive (request.TimeToLive lease keys) p h = absurd (cc)
read_no_keepalive request.Leases p h = absurd (cc)
read_no_keepalive (request.Watch ask) p h = absurd (cc)

write_no_keepalive : (q : Request) → writes_keys q ≡ true → is_keepalive q ≡ true → ⊥
write_no_keepalive (request.KeepAlive lease) p h = absurd (cc)
write_no_keepalive (request.Range ask) p h = absurd (cc)
write_no_keepalive (request.Put ask) p h = absurd (cc)
write_no_keepalive (request.Delete ask) p h = absurd (cc)
write_no_keepalive (request.Txn t) p h = absurd (cc)
write_no_keepalive (request.Compact revision physical) p h = absurd (cc)
write_no_keepalive (request.Grant ttl lease) p h = absurd (cc)
write_no_keepalive (request.Revoke lease) p h = absurd (cc)
write_no_keepalive (request.TimeToLive lease keys) p h = absurd (cc)
write_no_keepalive request.Leases p h = absurd (cc)
write_no_keepalive (request.Watch ask) p h = absurd (cc)

abbrev StepAll : (Asked → Type 0) → Stepped → Type 0
StepAll P s = All P s.core.asks

either : (P : Asked → Type 0) (b : Bool) (x y : Stepped) → (b ≡ true → StepAll P x) → (b ≡ false → StepAll P y) → StepAll P (cond b x y)
either P b x y f g = by_test (StepAll P) b x y f g

call_asked : (P : Asked → Type 0) (a : Asked) (c : Core) → IsFresh P a.ticket a.request → All P c.asks → StepAll P (call_is_asked a c)
call_asked P a c f t = all_pushed P (in_stage (call_stage a.request c) a) c.asks t (f _ refl refl (λ k. call_silent a.request c k))

read_asked_all : (P : Asked → Type 0) (m : Moment) (a : Asked) (c : Core) → (is_keepalive a.request ≡ true → ⊥) → IsFresh P a.ticket a.request → All P c.asks → StepAll P (read_is_asked m a c)
read_asked_all P m a c n f t = by_stage (decided_ask m (ground_of (reads_of c)) a).stage
  where
    pushed : All P (c.asks ++ decided_ask m (ground_of (reads_of c)) a ∷ [])
    pushed = all_pushed P (decided_ask m (ground_of (reads_of c)) a) c.asks t (f _ refl refl (λ k. absurd (n k)))

    by_stage : (s : Stage) → StepAll P (read_by s c (with_reads c (read_asked m a (reads_of c))))
    by_stage (stage.Replied v) = t
    by_stage (stage.Calling s) = pushed
    by_stage stage.Acquiring = pushed
    by_stage stage.Joined = pushed
    by_stage stage.Behind = pushed
    by_stage stage.Writes = pushed
    by_stage (stage.Grouped s) = pushed

leased_all : (P : Asked → Type 0) (m : Moment) (a : Asked) (c : Core) → IsFresh P a.ticket a.request → All P c.asks → StepAll P (leased_ask m a c)
leased_all P m a c f t =
    either P (is_leased_read c.own.waits.prefix a.request) _ _
    (λ e. read_asked_all P m a c (read_no_keepalive a.request (and_first (is_plain_request a.request) _ e)) f t)
    (λ e. either P (writes_keys a.request) _ _
    (λ u. all_pushed P (in_stage stage.Writes a) c.asks t (f _ refl refl (λ k. absurd (write_no_keepalive a.request u k))))
    (λ u. by_body (if_live m.session (held_body c.own.entries a.request))))
  where
    by_body : (b : Option Body) → StepAll P (answered_or_called b a c)
    by_body None = call_asked P a c f t
    by_body (Some b) = t

taken_all : (P : Asked → Type 0) (m : Moment) (a : Asked) (c : Core) → IsFresh P a.ticket a.request → All P c.asks → StepAll P (taken_in m a c)
taken_all P m a c f t = either P (leases c) _ _ (λ e. leased_all P m a c f t) (λ e. call_asked P a c f t)

request_all : (P : Asked → Type 0) (q : Request) (m : Moment) (a : Asked) (c : Core) → IsFresh P a.ticket a.request → All P c.asks → StepAll P (request_asked q m a c)
request_all P (request.Watch ask) m a c f t = t
request_all P (request.KeepAlive lease) m a c f t = taken_all P m a c f t
request_all P (request.Range ask) m a c f t = taken_all P m a c f t
request_all P (request.Put ask) m a c f t = taken_all P m a c f t
request_all P (request.Delete ask) m a c f t = taken_all P m a c f t
request_all P (request.Txn x) m a c f t = taken_all P m a c f t
request_all P (request.Compact revision physical) m a c f t = taken_all P m a c f t
request_all P (request.Grant ttl lease) m a c f t = taken_all P m a c f t
request_all P (request.Revoke lease) m a c f t = taken_all P m a c f t
request_all P (request.TimeToLive lease keys) m a c f t = taken_all P m a c f t
request_all P request.Leases m a c f t = taken_all P m a c f t

pub asked_all : (P : Asked → Type 0) (now ticket : ℕ) (q : Request) (word : ℕ) (c : Core) → IsFresh P ticket q → All P c.asks → StepAll P (on_ask now ticket q word c)
unfolding on_ask
asked_all P now ticket q word c f t =
    either P (is_known ticket c) _ _ (λ e. t) (λ e. by_refusal (refusal_of c.own.waits.prefix q))
  where
    by_refusal : (o : Option Refusal) → StepAll P (refused_or_taken o (moment c now) (asked_at now ticket q word) c)
    by_refusal None = request_all P q (moment c now) (asked_at now ticket q word) c f t
    by_refusal (Some r) = t

-- ---- answers and losses

out_number : (call : ℕ) (out : List OutCall) (o : OutCall) → out_at call out ≡ Some o → o.call ≡ call
out_number call [] o e = absurd (cc)
out_number call (x ∷ xs) o e = by_head (λ t. out_number call xs o t) (x.call == call) refl e
  where
    by_head : (out_at call xs ≡ Some o → o.call ≡ call) → (b : Bool) → (x.call == call) ≡ b → cond b (Some x) (out_at call xs) ≡ Some o → o.call ≡ call
    by_head more true t e = let same : x ≡ o = cc in sym (ap (λ (y : OutCall). y.call) same) ∙ same_number x.call call t
    by_head more false t e = more e

lost_call_all : (P : Asked → Type 0) → Lasts P → (now : ℕ) (o : OutCall) (c : Core) → Fit c → All P c.asks → All P (lost_call now o c).asks
lost_call_all P l now o c h t = lost_all P l now o o.job (member_failed o c) (record { asks = h.asks; writes = h.writes }) t

heard_all : (P Q : Asked → Type 0) → Turns P Q → (now : ℕ) (o : OutCall) (a : Option Answer) (c : Core) → Fit c → Tells P Q o.call a → All P c.asks → All Q c.asks → All Q (heard_call now o a c).asks
heard_all P Q l now o None c h s p t = lost_call_all Q l.lasts now o c h t
heard_all P Q l now o (Some a) c h s p t = or_all (answered_job now o o.job a c) (job_all P Q l now o o.job a c h s p t)
  where
    or_all : (d : Option Core) → AllIf Q d → All Q (or_lost now o c d).asks
    or_all None u = lost_call_all Q l.lasts now o c h t
    or_all (Some d) u = u

answer_all : (P Q : Asked → Type 0) → Turns P Q → (now : ℕ) (o : OutCall) (a : Answer) (c : Core) → Fit c → Tells P Q o.call (heard c.settings.namespace a) → All P c.asks → All Q c.asks → All Q (answered_call now o a c).asks
answer_all P Q l now o (Done reply) c h s p t = heard_all P Q l now o (heard c.settings.namespace (Done reply)) (answer_taken (Done reply) c) (record { asks = h.asks; writes = h.writes }) s p t
answer_all P Q l now o (Refused r) c h s p t = heard_all P Q l now o (heard c.settings.namespace (Refused r)) c h s p t

pub answered_step : (P Q : Asked → Type 0) → Turns P Q → (now call : ℕ) (a : Answer) (c : Core) → Agrees c → Tells P Q call (heard c.settings.namespace a) → All P c.asks → All Q c.asks → StepAll Q (on_answer now call a c)
unfolding on_answer
answered_step P Q l now call a c h s p t = by_out (out_at call c.out) refl
  where
    by_out : (o : Option OutCall) → out_at call c.out ≡ o → StepAll Q (answer_of now call a o c)
    by_out None e = t
    by_out (Some o) e =
        answer_all P Q l now o a (call_gone call c) (record { asks = h.asks; writes = h.writes })
        (subst (λ (n : ℕ). Tells P Q n (heard c.settings.namespace a)) (sym (out_number call c.out o e)) s) p t

pub lost_step : (P : Asked → Type 0) → Lasts P → (now call : ℕ) (c : Core) → Agrees c → All P c.asks → StepAll P (on_lost now call c)
unfolding on_lost
lost_step P l now call c h t = by_out (out_at call c.out)
  where
    by_out : (o : Option OutCall) → StepAll P (loss_of now call o c)
    by_out None = t
    by_out (Some o) = lost_call_all P l now o (call_gone call c) (record { asks = h.asks; writes = h.writes }) t

-- ---- ticks, messages, cuts: no request changes

same_asks : (P : Asked → Type 0) (c : Core) (s : Stepped) → s.core.asks ≡ c.asks → All P c.asks → StepAll P s
same_asks P c s e t = subst (All P) (sym e) t

pub tick_step : (P : Asked → Type 0) (now word : ℕ) (c : Core) → All P c.asks → StepAll P (on_tick now word c)
unfolding on_tick
tick_step P now word c t = by_test (λ (d : Core). All P d.asks) (leases c) (ticked now word c) c (λ e. by_opening c.leasing) (λ e. t)
  where
    by_opening : (o : Option Opening) → All P (leasing_ticked o (record c { seat = Some (seat_ticked word c.settings.ttl c.own.waits.step now c.seat) })).asks
    by_opening None = t
    by_opening (Some o) = t

told_same : (now : ℕ) (o : Opening) (d : Header) (es : List Event) (c : Core) → (leasing_told now o d es c).asks ≡ c.asks
told_same now o d es c = by_test (λ (e : Core). e.asks ≡ c.asks) (is_readable o.stream es) _ (leasing_cut o c) (λ t. refl) (λ t. refl)

message_same : (now : ℕ) (o : Opening) (x : WatchItem) (c : Core) → (leasing_message now o x c).asks ≡ c.asks
message_same now o (item.Created d) c = by_test (λ (e : Core). e.asks ≡ c.asks) o.stream.created c _ (λ t. refl) (λ t. refl)
message_same now o (item.Events d es) c = told_same now o d es c
message_same now o (item.Canceled d compaction) c = by_test (λ (e : Core). e.asks ≡ c.asks) (compaction == 0) (leasing_cut o c) _ (λ t. refl) (λ t. refl)

leasing_same : (now : ℕ) (o : Opening) (x : WatchItem) (c : Core) → (leasing_item now o x c).asks ≡ c.asks
leasing_same now o x c = by_due o.due
  where
    by_text : (u : Unwrapped WatchItem) (d : Core) → d.asks ≡ c.asks → (leasing.unwrapped_message now o u d).asks ≡ c.asks
    by_text (Ok y) d e = message_same now o y d ∙ e
    by_text (Err foreign) d e = e

    by_due : (s : Option ℕ) → (message_if_sent now o s x (header_taken (item_header x) c)).asks ≡ c.asks
    by_due None = by_text (item_without c.settings.namespace x) (header_taken (item_header x) c) refl
    by_due (Some since) = refl

stream_same : (s : Stream) (x : WatchItem) (c : Core) → (stream_item s x c).asks ≡ c.asks
stream_same s x c = by_test (λ (e : Core). e.asks ≡ c.asks) (is_begun s.phase) _ (header_taken (item_header x) c) (λ t. by_text (item_without c.settings.namespace x)) (λ t. refl)
  where
    by_message : (y : WatchItem) → (stream_message s y (header_taken (item_header x) c)).asks ≡ c.asks
    by_message (item.Created d) = refl
    by_message (item.Events d es) = refl
    by_message (item.Canceled d compaction) = refl

    by_text : (u : Unwrapped WatchItem) → (watching.unwrapped_message s u (header_taken (item_header x) c)).asks ≡ c.asks
    by_text (Ok y) = by_message y
    by_text (Err foreign) = refl

pub item_step : (P : Asked → Type 0) (now number : ℕ) (x : WatchItem) (c : Core) → All P c.asks → StepAll P (on_item now number x c)
unfolding on_item
item_step P now number x c t = by_opening (opening_at number c.leasing)
  where
    by_stream : (s : Option Stream) → StepAll P (client_item number x s c)
    by_stream None = t
    by_stream (Some s) = subst (All P) (sym (stream_same s x c)) t

    by_opening : (o : Option Opening) → StepAll P (item_of now number x o c)
    by_opening None = by_stream (stream_at number c.watches.streams)
    by_opening (Some o) = subst (All P) (sym (leasing_same now o x c)) t

pub cut_step : (P : Asked → Type 0) (number : ℕ) (c : Core) → All P c.asks → StepAll P (on_cut number c)
unfolding on_cut
cut_step P number c t = by_opening (opening_at number c.leasing)
  where
    by_stream : (s : Option Stream) → StepAll P (client_cut number s c)
    by_stream None = t
    by_stream (Some s) = t

    by_opening : (o : Option Opening) → StepAll P (cut_of number o c)
    by_opening None = by_stream (stream_at number c.watches.streams)
    by_opening (Some o) = t

-- ---- takes and leaving

pub take_step : (P : Asked → Type 0) (ticket : ℕ) (c : Core) → All P c.asks → StepAll P (on_take ticket c)
unfolding on_take
take_step P ticket c t = by_ask (ask_at ticket c.asks)
  where
    by_pair : (x : Broadcasts × Option WatchItem) → StepAll P (taken_item c x)
    by_pair (b, None) = t
    by_pair (b, Some x) = t

    by_watch : (w : Option Watch) → StepAll P (item_taken ticket w c)
    by_watch None = t
    by_watch (Some w) = by_pair (watches.taken_from c.watches c.header w w.queue)

    by_stage : (s : Stage) → StepAll P (takes.taken_from ticket s c)
    by_stage (stage.Replied v) = all_filtered P (λ a. not (has_ticket ticket a)) c.asks t
    by_stage (stage.Calling s) = t
    by_stage stage.Acquiring = t
    by_stage stage.Joined = t
    by_stage stage.Behind = t
    by_stage stage.Writes = t
    by_stage (stage.Grouped s) = t

    by_ask : (o : Option Asked) → StepAll P (taken ticket o c)
    by_ask None = by_watch (watch_at ticket c.watches.watches)
    by_ask (Some a) = by_stage a.stage

pub leave_step : (P : Asked → Type 0) → Lasts P → (now ticket : ℕ) (c : Core) → All P c.asks → StepAll P (on_leave now ticket c)
unfolding on_leave
leave_step P l now ticket c t = by_ask (ask_at ticket c.asks)
  where
    by_watch : (w : Option Watch) → StepAll P (watcher_left ticket w c)
    by_watch None = t
    by_watch (Some w) = t

    by_ask : (o : Option Asked) → StepAll P (left now ticket o c)
    by_ask None = by_watch (watch_at ticket c.watches.watches)
    by_ask (Some a) = released_all P l false _ _ _ (all_filtered P (λ b. not (has_ticket ticket b)) c.asks t)

-- ---- what is due is sent

-- what the sending of a group's call does to those in it
abbrev pub Sends : (Asked → Type 0) → (Asked → Type 0) → Stepped → Type 0
Sends P Q s =
    (x : Asked) (own member ticket lease : ℕ) → s.outcome ≡ Ok (outcome.Job (Some (sent.Call own member ticket (request.KeepAlive lease)))) → keeps lease x.request ≡ true
    → P x → Q (in_stage (stage.Grouped (Some (sending.Out own))) x)

-- none has this ticket

none_due : (ticket : ℕ) (ys : List Asked) → has_number (ask_tickets ys) ticket ≡ false → list_any (λ b. has_ticket ticket b && is_called_due b.stage) ys ≡ false
none_due ticket [] n = refl
none_due ticket (y ∷ ys) n =
    or_none ((y.ticket == ticket) && is_called_due y.stage) (list_any (λ b. has_ticket ticket b && is_called_due b.stage) ys)
    (ap (λ b. b && is_called_due y.stage) (or_first (y.ticket == ticket) (has_number (ask_tickets ys) ticket) n)) (none_due ticket ys (or_second (y.ticket == ticket) (has_number (ask_tickets ys) ticket) n))

none_named : (ticket : ℕ) (ys : List Asked) → has_number (ask_tickets ys) ticket ≡ false → All (λ y. (y.ticket == ticket) ≡ true → is_called_due y.stage ≡ true) ys
none_named ticket [] n = tt
none_named ticket (y ∷ ys) n = (λ t. absurd (let e = or_first (y.ticket == ticket) (has_number (ask_tickets ys) ticket) n in cc), none_named ticket ys (or_second (y.ticket == ticket) (has_number (ask_tickets ys) ticket) n))

-- of this ticket only requests that are due by themselves
due_rows : (ticket : ℕ) (xs : List Asked) → once (ask_tickets xs) ≡ true → list_any (λ b. has_ticket ticket b && is_called_due b.stage) xs ≡ true → All (λ x. (x.ticket == ticket) ≡ true → is_called_due x.stage ≡ true) xs
due_rows ticket [] u h = tt
due_rows ticket (x ∷ xs) u h = by_ticket (λ t. due_rows ticket xs (and_second (not (has_number (ask_tickets xs) x.ticket)) (once (ask_tickets xs)) u) t) (x.ticket == ticket) refl
  where
    once_here : has_number (ask_tickets xs) x.ticket ≡ false
    once_here = not_true (has_number (ask_tickets xs) x.ticket) (and_first (not (has_number (ask_tickets xs) x.ticket)) (once (ask_tickets xs)) u)

    by_either : (x.ticket == ticket) ≡ true → has_number (ask_tickets xs) ticket ≡ false → (((x.ticket == ticket) && is_called_due x.stage) ≡ true) ⊎ (list_any (λ b. has_ticket ticket b && is_called_due b.stage) xs ≡ true) → is_called_due x.stage ≡ true
    by_either e n (inl t) = and_second (x.ticket == ticket) (is_called_due x.stage) t
    by_either e n (inr t) = absurd (let f : true ≡ false = sym t ∙ none_due ticket xs n in cc)

    rest_any : (x.ticket == ticket) ≡ false → list_any (λ b. has_ticket ticket b && is_called_due b.stage) xs ≡ true
    rest_any e = sym (ap (λ b. (b && is_called_due x.stage) || list_any (λ y. has_ticket ticket y && is_called_due y.stage) xs) e) ∙ h

    by_ticket : (list_any (λ b. has_ticket ticket b && is_called_due b.stage) xs ≡ true → All (λ y. (y.ticket == ticket) ≡ true → is_called_due y.stage ≡ true) xs) → (b : Bool) → (x.ticket == ticket) ≡ b → All (λ y. (y.ticket == ticket) ≡ true → is_called_due y.stage ≡ true) (x ∷ xs)
    by_ticket more true e =
        let n : has_number (ask_tickets xs) ticket ≡ false = subst (λ (i : ℕ). has_number (ask_tickets xs) i ≡ false) (same_number x.ticket ticket e) once_here in
        (λ t. by_either e n (or_either ((x.ticket == ticket) && is_called_due x.stage) (list_any (λ b. has_ticket ticket b && is_called_due b.stage) xs) h), none_named ticket xs n)
    by_ticket more false e = (λ t. absurd (let f : true ≡ false = sym t ∙ e in cc), more (rest_any e))

called_other : (s : Stage) → is_called_due s ≡ true → is_grouped s ≡ false
called_other (stage.Calling s) h = refl
called_other stage.Acquiring h = refl
called_other stage.Joined h = refl
called_other stage.Behind h = refl
called_other stage.Writes h = refl
called_other (stage.Grouped s) h = absurd (cc)
called_other (stage.Replied v) h = absurd (cc)

call_sent_all : (P : Asked → Type 0) → Lasts P → (call ticket : ℕ) (xs : List Asked) → All (λ x. (x.ticket == ticket) ≡ true → is_called_due x.stage ≡ true) xs → All P xs → All P (map (called_as call ticket) xs)
call_sent_all P l call ticket [] h t = tt
call_sent_all P l call ticket (x ∷ xs) h t = (
  by_test P (x.ticket == ticket) (in_stage (stage.Calling (sending.Out call)) x) x
      (λ e. l x _ (hushes refl refl (λ g. absurd (let f : true ≡ false = sym g ∙ called_other x.stage (h.0 e) in cc))) t.0) (λ e. t.0),
  call_sent_all P l call ticket xs h.1 t.1,
)

group_sent_all : (P Q : Asked → Type 0) → Turns P Q → (now lease ticket : ℕ) (c : Core) → Sends P Q (keeps_sent now lease ticket c) → All P c.asks → StepAll Q (keeps_sent now lease ticket c)
group_sent_all P Q l now lease ticket c s t =
    all_mapped P Q (group_sent (next_call c) lease)
    (λ x h. by_test Q (keeps lease x.request && is_due_stage x.stage) (in_stage (stage.Grouped (Some (sending.Out (next_call c)))) x) x (λ e. s x (next_call c) c.members.current ticket lease refl (and_first (keeps lease x.request) (is_due_stage x.stage) e) h) (λ e. l.turns x h))
    c.asks t

sent_all : (P Q : Asked → Type 0) → Turns P Q → (now : ℕ) (j : Option DueJob) (c : Core) → Agrees c → DueIf c j → Sends P Q (sent_by now j c) → All P c.asks → All Q c.asks → StepAll Q (sent_by now j c)
sent_all P Q l now None c h d s p t = t
sent_all P Q l now (Some (ForSession x)) c h d s p t = t
sent_all P Q l now (Some ForWrites) c h d s p t = by_job (job_sent (next_call c) c.own)
  where
    by_job : (x : Option JobSent) → StepAll Q (writes_sent now x c)
    by_job None = t
    by_job (Some x) = t
sent_all P Q l now (Some (ForAcquire k x)) c h d s p t = t
sent_all P Q l now (Some (ForAsk a)) c h d s p t = call_sent_all Q l.lasts (next_call c) a.ticket c.asks (due_rows a.ticket c.asks h.asks.once d) t
sent_all P Q l now (Some (ForGroup lease ticket)) c h d s p t = group_sent_all P Q l now lease ticket c s p
sent_all P Q l now (Some (ToOpen o)) c h d s p t = t
sent_all P Q l now (Some (ForStream x)) c h d s p t = by_job (next_job c.watches (Some x)).1
  where
    by_job : (o : Option StreamJob) → StepAll Q (stream_job o (with_watches c (next_job c.watches (Some x)).0))
    by_job None = t
    by_job (Some (stream.Close number)) = t
    by_job (Some (stream.Open number range start)) = t

pub work_step : (P Q : Asked → Type 0) → Turns P Q → (now : ℕ) (c : Core) → Agrees c → Sends P Q (on_work now c) → All P c.asks → All Q c.asks → StepAll Q (on_work now c)
unfolding on_work
work_step P Q l now c h s p t = sent_all P Q l now (first_job c) c h (first_due c h) s p t

-- ---- whole steps

-- what an event may bring: a new request, a reply that a group is told, a group's call that is sent
abbrev pub Brings : (Asked → Type 0) → (Asked → Type 0) → CoreEvent → ℕ → Core → Type 0
Brings P Q (event.Ask ticket q word) now c = IsFresh Q ticket q
Brings P Q (event.Answer call a) now c = Tells P Q call (heard c.settings.namespace a)
Brings P Q event.Work now c = Sends P Q (on_work now c)
Brings P Q _ now c = Unit {0}

happened_all : (P Q : Asked → Type 0) → Turns P Q → (now : ℕ) (e : CoreEvent) (c : Core) → Agrees c → Brings P Q e now c → All P c.asks → All Q c.asks → StepAll Q (happened now e c)
happened_all P Q l now (event.Ask ticket q word) c h b p t = asked_all Q now ticket q word c b t
happened_all P Q l now (event.Answer call a) c h b p t = answered_step P Q l now call a c h b p t
happened_all P Q l now (event.Lost call) c h b p t = lost_step Q l.lasts now call c h t
happened_all P Q l now (event.Tick word) c h b p t = tick_step Q now word c t
happened_all P Q l now (event.Item number x) c h b p t = item_step Q now number x c t
happened_all P Q l now (event.Cut number) c h b p t = cut_step Q number c t
happened_all P Q l now (event.Take ticket) c h b p t = take_step Q ticket c t
happened_all P Q l now (event.Leave ticket) c h b p t = leave_step Q l.lasts now ticket c t
happened_all P Q l now event.Work c h b p t = work_step P Q l now c h b p t

counted_all : (P : Asked → Type 0) (s : Stepped) → StepAll P s → StepAll P (counted s)
counted_all P s t = by_outcome s.outcome
  where
    by_outcome : (o : Result Outcome StepFault) → StepAll P (counted_by s.core o)
    by_outcome (Ok o) = t
    by_outcome (Err f) = t

-- What held of each request of a proxy holds of each after a step, where it holds of what the step brings.
pub stepped_all : (P Q : Asked → Type 0) → Lasts P → Turns P Q → (e : CoreEvent) (now : ℕ) (c : Core) → CoreOk c → (is_worn c ≡ false → Brings P Q e now (clock_work now c)) → All P c.asks → StepAll Q (stepped c e now)
unfolding stepped
stepped_all P Q k l e now c h b t =
    let p = clock_all P k now c t in
    by_test (StepAll Q) (is_worn c) _ _ (λ w. all_kept P Q l.turns c.asks t)
    (λ w. counted_all Q (happened now e (clock_work now c)) (happened_all P Q l now e (clock_work now c) (clock_whole 0 now c (of_ok c h).mid).mid.agrees (b w) p (all_kept P Q l.turns (clock_work now c).asks p)))
