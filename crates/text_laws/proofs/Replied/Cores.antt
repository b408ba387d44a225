-- Every event but work keeps what a proxy holds fit, and what it replies and gives has a text.
use Rattle.std.proofs.Common.{ℕ, ◌+◌, ◌≤◌, ◌==◌, Bool, true, false, not, cond, ◌&&◌, Option, None, Some, List, [], ◌∷◌, map, Ok, Err, arith}
use Rattle.std.specs.Prelude.{nat_le}
use Rattle.text_model.specs.Words.{max_number}
use Rattle.etcd_types.specs.declared.answer.Answer.{Answer}
use Rattle.etcd_types.specs.declared.answer.Answer.TheVariants as answer
use Rattle.etcd_types.specs.declared.answer.Body.{Body}
use Rattle.etcd_types.specs.declared.answer.Body.TheVariants as body
use Rattle.etcd_types.specs.declared.answer.Refusal.{Refusal}
use Rattle.etcd_types.specs.declared.record.Header.{Header}
use Rattle.etcd_types.specs.declared.request.Request.{Request}
use Rattle.etcd_types.specs.declared.request.Request.TheVariants as request
use Rattle.etcd_types.specs.declared.watch.Event.{Event}
use Rattle.etcd_types.specs.declared.watch.WatchItem.{WatchItem}
use Rattle.etcd_types.specs.declared.watch.WatchItem.TheVariants as item
use Rattle.proxy_model.specs.Limits.{capped}
use Rattle.proxy_model.specs.Unwrapped.{Unwrapped, item_without}
use Rattle.proxy_model.specs.Upstream.{Upstream}
use Rattle.wait_model.specs.Asked.{submitted}
use Rattle.wait_model.specs.LeasingStream.{resynced, all_given_up}
use Rattle.watch_model.specs.Lookups.{stream_at, watch_at, is_begun}
use Rattle.watch_model.specs.State.{Stream, Watch, Broadcasts}
use Rattle.watch_model.specs.Takes as watches
use Rattle.read_model.specs.declared.asked.Asked.{Asked}
use Rattle.read_model.specs.declared.asked.Stage.{Stage}
use Rattle.read_model.specs.declared.asked.Stage.TheVariants as stage
use Rattle.read_model.specs.declared.asked.Verdict.{Verdict}
use Rattle.read_model.specs.declared.asked.Verdict.TheVariants as verdict
use Rattle.read_model.specs.Acquires.{AfterAcquire, acquire_answered, read_asked, lost_once}
use Rattle.read_model.specs.PlainRead.{called, decided_ask, in_stage}
use Rattle.read_model.specs.State.{Reads, ground_of}
use Rattle.read_model.specs.WriteAnswers.{wait_answered}
use Rattle.core_model.specs.declared.event.StepFault.TheVariants as fault
use Rattle.core_model.specs.declared.out_call.CallKind.{CallKind}
use Rattle.core_model.specs.declared.out_call.OutCall.{OutCall}
use Rattle.core_model.specs.declared.out_call.OutJob.{OutJob}
use Rattle.core_model.specs.declared.out_call.OutJob.TheVariants as job
use Rattle.core_model.specs.Asking.{asked_at, is_leased_read, read_by, read_is_asked, with_ask, write_is_asked, held_body, if_live, call_stage, call_is_asked, answered_or_called, leased_ask, taken_in, request_asked, refused_or_taken, on_ask}
use Rattle.core_model.specs.ClockWork.{begun, clock_work, times_out, timed_out_ask, writes_go_on, requests_timed_out}
use Rattle.core_model.specs.Ends.{call_gone, is_stale_reply, ask_done, ask_answered, member_failed, acquire_if, reads_if, is_keepalive, group_answered, answered_job, lost_ask, lost_job, lost_call, or_lost, heard_call, answered_call, answer_of, loss_of, with_caller, stales_limit, stale_once, said}
use Rattle.core_model.specs.Groups.{keeps, is_out_for, group_since, joining, is_out_stage, waits_next, group_ended, groups_ended}
use Rattle.core_model.specs.Heard.{heard, header_taken}
use Rattle.core_model.specs.Kinds.{is_read, writes_keys, is_body_of}
use Rattle.core_model.specs.LeasingStream.{due_anew, leasing_ticked, leasing_cut, leasing_created, leasing_cancelled, is_readable, leasing_told, leasing_message, message_if_sent, leasing_item}
use Rattle.core_model.specs.LeasingStream as leasing
use Rattle.core_model.specs.Lookups.{leases, live_number, moment, reads_of, with_reads, is_known, calls_as, has_ticket, ask_at, without_ask}
use Rattle.core_model.specs.Refusals.{refusal_of}
use Rattle.core_model.specs.Sessions.{without_session, seat_is_over, deadline_passed, seat_calls, seat_ticked, granted_by, grant_failed, grant_answered, keep_failed, kept, kept_by, keep_answered}
use Rattle.core_model.specs.State.{Seat, Opening, Core}
use Rattle.core_model.specs.Step.{ticked, on_tick, client_item, item_of, client_cut, cut_of}
use Rattle.core_model.specs.Stepped.{Stepped, faults}
use Rattle.core_model.specs.Takes.{item_taken, taken, has_left, watcher_left, left}
use Rattle.core_model.specs.Takes as takes
use Rattle.core_model.specs.Watching.{with_watches, stream_message, stream_item, taken_item}
use Rattle.core_model.specs.Watching as watching
use Rattle.text_laws.specs.Values.Fits.{If, HeaderFits, BodyFits, AnswerFits, RefusalFits, MessageFits, RequestFits}
use Rattle.text_laws.proofs.Values.Alls.{either, all_push, all_map, all_filter}
use Rattle.text_laws.proofs.Values.Weaker.{header_weaker, answer_weaker, events_weaker}
use Rattle.text_laws.specs.Sent.Sends.{OwnFits, StreamFits, BroadcastsFit}
use Rattle.text_laws.proofs.Sent.Unwraps.{Stands, heard_fits, message_fits}
use Rattle.text_laws.proofs.Sent.Watching.{stream_found}
use Rattle.text_laws.specs.Replied.Holds.{EntriesHold, VerdictHolds, StageHolds, IsTicket, AskHolds, WatchHolds, CoreHolds, OutcomeHolds, Bounds}
use Rattle.text_laws.proofs.Replied.Bodies.{held_body_fits}
use Rattle.text_laws.proofs.Replied.Refusals.{refusals_fit, reply_fits}
use Rattle.text_laws.proofs.Replied.Owned.{entries_weaker, proceeded_holds, given_up_holds, all_noticed_holds}
use Rattle.text_laws.proofs.Replied.Reading.{AsksHold, ReadsHold, at_stage, decided_holds, read_asked_holds, session_over_holds, taken_off_holds, few_heard, AfterIf, acquire_answered_holds, lost_once_holds, acquire_lost_holds, ReadsIf, wait_answered_holds, wait_lost_holds}
use Rattle.text_laws.proofs.Replied.Watching.{QueuesIn, joined_holds, cut_holds, cancelled_holds, delivered_holds, created_holds, TakenHolds, taken_from_holds, removed_holds, queue_found}

-- ---- parts put back

pub core_weaker : (m n : ℕ) (c : Core) → m ≤ n → CoreHolds m c → CoreHolds n c
core_weaker m n c l h = record { header = h.header; entries = entries_weaker m n l c.own.entries h.entries; asks = h.asks; watches = h.watches }

pub reads_in : (most : ℕ) (c : Core) → CoreHolds most c → ReadsHold most (reads_of c)
reads_in most c h = record { entries = h.entries; asks = h.asks }

pub with_reads_hold : (most : ℕ) (c : Core) (r : Reads) → ReadsHold most r → CoreHolds most c → CoreHolds most (with_reads c r)
with_reads_hold most c r n h = record { header = h.header; entries = n.entries; asks = n.asks; watches = h.watches }

pub with_asks_hold : (most : ℕ) (c : Core) (xs : List Asked) → AsksHold xs → CoreHolds most c → CoreHolds most (record c { asks = xs })
with_asks_hold most c xs n h = record { header = h.header; entries = h.entries; asks = n; watches = h.watches }

with_seat_hold : (most : ℕ) (c : Core) (s : Option Seat) → CoreHolds most c → CoreHolds most (record c { seat = s })
with_seat_hold most c s h = record { header = h.header; entries = h.entries; asks = h.asks; watches = h.watches }

pub with_watches_hold : (most : ℕ) (c : Core) (b : Broadcasts) → QueuesIn b → CoreHolds most c → CoreHolds most (with_watches c b)
with_watches_hold most c b n h = record { header = h.header; entries = h.entries; asks = h.asks; watches = n }

pub go_on : (most : ℕ) (c : Core) → CoreHolds most c → CoreHolds most (writes_go_on c)
go_on most c h = record { header = h.header; entries = proceeded_holds most c.own h.entries; asks = h.asks; watches = h.watches }

-- ---- clock work

over_holds : (most now : ℕ) (c : Core) → most ≤ max_number → CoreHolds most c → CoreHolds most (without_session now c)
over_holds most now c l h =
    let d = record c { seat = None } in
    let n = with_seat_hold most c None h in
    with_reads_hold most d _ (session_over_holds most (moment d now) (reads_of d) l n.header (reads_in most d n)) n

timed_holds : (now : ℕ) (a : Asked) → AskHolds a → AskHolds (timed_out_ask now a)
timed_holds now a t = either AskHolds (times_out now a) (in_stage (stage.Replied verdict.TimedOut) a) a (at_stage a (stage.Replied verdict.TimedOut) t tt) t

pub clock_holds : (most now : ℕ) (c : Core) → most ≤ max_number → CoreHolds most c → CoreHolds most (clock_work now c)
unfolding clock_work
clock_holds most now c l h =
    let b = begun c in
    let n : CoreHolds most b = record { header = h.header; entries = h.entries; asks = h.asks; watches = h.watches } in
    let d = deadline_passed now b in
    let m : CoreHolds most d = either (CoreHolds most) (seat_is_over c.seat now) (without_session now b) b (over_holds most now b l n) n in
    let xs = map (timed_out_ask now) d.asks in
    let k : AsksHold xs = all_map AskHolds AskHolds (timed_out_ask now) (timed_holds now) d.asks m.asks in
    go_on most (requests_timed_out now d) (with_reads_hold most d _ (taken_off_holds most (moment d now) (times_out now) xs (reads_of d) l m.header k (reads_in most d m)) m)

-- ---- Ask

-- what stands after a step, and what it gives
pub record StepHolds (most : ℕ) (s : Stepped) : Type 0 where
  pub core : CoreHolds most s.core
  pub outcome : OutcomeHolds s.outcome

read_holds : (most now : ℕ) (a : Asked) (c : Core) → most ≤ max_number → AskHolds a → CoreHolds most c → StepHolds most (read_is_asked (moment c now) a c)
read_holds most now a c l k h = by_stage (decided_ask (moment c now) (ground_of (reads_of c)) a).stage (decided_holds most (moment c now) (ground_of (reads_of c)) a l h.header h.entries k).stage
  where
    waits : CoreHolds most (writes_go_on (with_reads c (read_asked (moment c now) a (reads_of c))))
    waits = go_on most (with_reads c (read_asked (moment c now) a (reads_of c))) (with_reads_hold most c _ (read_asked_holds most (moment c now) a (reads_of c) l h.header k (reads_in most c h)) h)

    by_stage : (s : Stage) → StageHolds s → StepHolds most (read_by s c (with_reads c (read_asked (moment c now) a (reads_of c))))
    by_stage (stage.Calling s) f = record { core = waits; outcome = tt }
    by_stage stage.Acquiring f = record { core = waits; outcome = tt }
    by_stage stage.Joined f = record { core = waits; outcome = tt }
    by_stage stage.Behind f = record { core = waits; outcome = tt }
    by_stage stage.Writes f = record { core = waits; outcome = tt }
    by_stage (stage.Grouped s) f = record { core = waits; outcome = tt }
    by_stage (stage.Replied v) f = record { core = h; outcome = reply_fits v f }

asked_more : (most : ℕ) (s : Stage) (a : Asked) (c : Core) → AskHolds a → StageHolds s → CoreHolds most c → CoreHolds most (with_ask s a c)
asked_more most s a c k f h = with_asks_hold most c _ (all_push AskHolds c.asks (in_stage s a) h.asks (at_stage a s k f)) h

joining_holds : (step : ℕ) (o : Option ℕ) → StageHolds (joining step o)
joining_holds step None = tt
joining_holds step (Some since) = tt

call_stage_holds : (q : Request) (c : Core) → StageHolds (call_stage q c)
call_stage_holds (request.KeepAlive lease) c =
    either StageHolds (is_out_for lease c.out) (stage.Grouped None) (joining c.own.waits.step (group_since lease c.asks)) tt (joining_holds c.own.waits.step (group_since lease c.asks))
call_stage_holds (request.Range ask) c = tt
call_stage_holds (request.Put ask) c = tt
call_stage_holds (request.Delete ask) c = tt
call_stage_holds (request.Txn t) c = tt
call_stage_holds (request.Compact revision physical) c = tt
call_stage_holds (request.Grant ttl lease) c = tt
call_stage_holds (request.Revoke lease) c = tt
call_stage_holds (request.TimeToLive lease keys) c = tt
call_stage_holds request.Leases c = tt
call_stage_holds (request.Watch ask) c = tt

call_holds : (most : ℕ) (a : Asked) (c : Core) → AskHolds a → CoreHolds most c → StepHolds most (call_is_asked a c)
call_holds most a c k h = record { core = go_on most (with_ask (call_stage a.request c) a c) (asked_more most (call_stage a.request c) a c k (call_stage_holds a.request c) h); outcome = tt }

write_holds : (most : ℕ) (a : Asked) (c : Core) → AskHolds a → CoreHolds most c → StepHolds most (write_is_asked a c)
write_holds most a c k h =
    let d = record c { own = submitted a.ticket a.request c.own } in
    record { core = go_on most (with_ask stage.Writes a d) (asked_more most stage.Writes a d k tt (record { header = h.header; entries = h.entries; asks = h.asks; watches = h.watches })); outcome = tt }

answered_at_once : (most : ℕ) (o : Option Body) (a : Asked) (c : Core) → If (BodyFits max_number 128) o → AskHolds a → CoreHolds most c → StepHolds most (answered_or_called o a c)
answered_at_once most None a c f k h = call_holds most a c k h
answered_at_once most (Some b) a c f k h = record { core = h; outcome = (h.header, f) }

taken_holds : (most now : ℕ) (a : Asked) (c : Core) → most ≤ max_number → AskHolds a → CoreHolds most c → StepHolds most (taken_in (moment c now) a c)
taken_holds most now a c l k h =
    let session = (moment c now).session in
    let held = if_live session (held_body c.own.entries a.request) in
    let other = answered_or_called held a c in
    either (StepHolds most) (leases c) (leased_ask (moment c now) a c) (call_is_asked a c)
    (either (StepHolds most) (is_leased_read c.own.waits.prefix a.request) (read_is_asked (moment c now) a c) (cond (writes_keys a.request) (write_is_asked a c) other) (read_holds most now a c l k h)
    (either (StepHolds most) (writes_keys a.request) (write_is_asked a c) other (write_holds most a c k h) (answered_at_once most held a c (held_body_fits most session c.own.entries a.request l h.entries) k h)))
    (call_holds most a c k h)

request_holds : (most : ℕ) (q : Request) (now : ℕ) (a : Asked) (c : Core) → most ≤ max_number → RequestFits 127 q → BroadcastsFit c.watches → AskHolds a → CoreHolds most c → StepHolds most (request_asked q (moment c now) a c)
request_holds most (request.Watch ask) now a c l f b k h = record { core = with_watches_hold most c _ (joined_holds c.watches a.ticket ask c.header h.header f.1 b h.watches) h; outcome = tt }
request_holds most (request.Range ask) now a c l f b k h = taken_holds most now a c l k h
request_holds most (request.Put ask) now a c l f b k h = taken_holds most now a c l k h
request_holds most (request.Delete ask) now a c l f b k h = taken_holds most now a c l k h
request_holds most (request.Txn t) now a c l f b k h = taken_holds most now a c l k h
request_holds most (request.Compact revision physical) now a c l f b k h = taken_holds most now a c l k h
request_holds most (request.Grant ttl lease) now a c l f b k h = taken_holds most now a c l k h
request_holds most (request.Revoke lease) now a c l f b k h = taken_holds most now a c l k h
request_holds most (request.KeepAlive lease) now a c l f b k h = taken_holds most now a c l k h
request_holds most (request.TimeToLive lease keys) now a c l f b k h = taken_holds most now a c l k h
request_holds most request.Leases now a c l f b k h = taken_holds most now a c l k h

pub ask_holds : (most now ticket : ℕ) (q : Request) (word : ℕ) (c : Core) → most ≤ max_number → IsTicket ticket → RequestFits 127 q → BroadcastsFit c.watches → CoreHolds most c → StepHolds most (on_ask now ticket q word c)
unfolding on_ask
ask_holds most now ticket q word c l t f b h =
    either (StepHolds most) (is_known ticket c) (faults c (fault.TicketUsed ticket)) (refused_or_taken (refusal_of c.own.waits.prefix q) (moment c now) (asked_at now ticket q word) c)
    (record { core = h; outcome = tt }) (by_refusal (refusal_of c.own.waits.prefix q) (refusals_fit c.own.waits.prefix q))
  where
    by_refusal : (r : Option Refusal) → If RefusalFits r → StepHolds most (refused_or_taken r (moment c now) (asked_at now ticket q word) c)
    by_refusal None g = request_holds most q now (asked_at now ticket q word) c l f b (record { ticket = t; stage = tt }) h
    by_refusal (Some r) g = record { core = h; outcome = g }

-- ---- Answer, Lost

failed_holds : (most : ℕ) (o : OutCall) (c : Core) → CoreHolds most c → CoreHolds most (member_failed o c)
failed_holds most o c h = record { header = h.header; entries = h.entries; asks = h.asks; watches = h.watches }

pub header_holds : (most : ℕ) (x : Header) (c : Core) → HeaderFits max_number x → CoreHolds most c → CoreHolds most (header_taken x c)
header_holds most x c f h = record { header = either (HeaderFits max_number) (nat_le c.header.revision x.revision) x c.header f h.header; entries = h.entries; asks = h.asks; watches = h.watches }

caller_holds : (most call : ℕ) (f : Asked → Asked) (c : Core) → ((a : Asked) → AskHolds a → AskHolds (f a)) → CoreHolds most c → CoreHolds most (with_caller call f c)
caller_holds most call f c k h = with_asks_hold most c _ (all_map AskHolds AskHolds (λ a. cond (calls_as call a) (f a) a) (λ a t. either AskHolds (calls_as call a) (f a) a (k a t) t) c.asks h.asks) h

groups_hold : (most step call lease : ℕ) (v : Verdict) (c : Core) → VerdictHolds v → CoreHolds most c → CoreHolds most (record c { asks = groups_ended step call lease v c.asks })
groups_hold most step call lease v c f h = with_asks_hold most c _ (all_map AskHolds AskHolds (group_ended step call lease v) one c.asks h.asks) h
  where
    one : (a : Asked) → AskHolds a → AskHolds (group_ended step call lease v a)
    one a t = either AskHolds (is_out_stage call a.stage) _ _ (at_stage a (stage.Replied v) t f) (either AskHolds (keeps lease a.request && waits_next a.stage) _ a (at_stage a _ t tt) t)

lost_ask_holds : (k : CallKind) (o : OutCall) (c : Core) (a : Asked) → AskHolds a → AskHolds (lost_ask k o c a)
lost_ask_holds k o c a t =
    either AskHolds (is_read k) (lost_once c.members.count c.own.waits.step a) (in_stage (stage.Replied verdict.Lost) a) (lost_once_holds c.members.count c.own.waits.step a t) (at_stage a (stage.Replied verdict.Lost) t tt)

grant_fails : (most : ℕ) (o : OutCall) (c : Core) → CoreHolds most c → CoreHolds most (grant_failed o c)
grant_fails most o c h = either (CoreHolds most) (seat_calls o.call c.seat) _ c (with_seat_hold most c None h) h

keep_fails : (most : ℕ) (o : OutCall) (c : Core) → CoreHolds most c → CoreHolds most (keep_failed o c)
keep_fails most o c h = either (CoreHolds most) (seat_calls o.call c.seat) _ c (with_seat_hold most c _ h) h

lost_job_holds : (most now : ℕ) (o : OutCall) (j : OutJob) (c : Core) → most ≤ max_number → CoreHolds most c → CoreHolds most (lost_job now o j c)
lost_job_holds most now o (job.Grant lease) c l h = grant_fails most o c h
lost_job_holds most now o (job.Keep lease) c l h = keep_fails most o c h
lost_job_holds most now o (job.Acquire k) c l h = with_reads_hold most c _ (acquire_lost_holds most c.members.count (moment c now) k (reads_of c) l h.header (reads_in most c h)) h
lost_job_holds most now o job.Wait c l h = with_reads_hold most c _ (wait_lost_holds most (moment c now) o.call (reads_of c) l h.header (reads_in most c h)) h
lost_job_holds most now o (job.Ask k) c l h = caller_holds most o.call (lost_ask k o c) c (lost_ask_holds k o c) h
lost_job_holds most now o (job.Group lease) c l h = groups_hold most c.own.waits.step o.call lease verdict.Lost c tt h

lost_holds : (most now : ℕ) (o : OutCall) (c : Core) → most ≤ max_number → CoreHolds most c → CoreHolds most (lost_call now o c)
lost_holds most now o c l h = lost_job_holds most now o o.job (member_failed o c) l (failed_holds most o c h)

abbrev KeptIf : ℕ → Option Core → Type 0
KeptIf most o = If (CoreHolds most) o

kept_weaker : (m n : ℕ) (o : Option Core) → m ≤ n → KeptIf m o → KeptIf n o
kept_weaker m n None l h = tt
kept_weaker m n (Some c) l h = core_weaker m n c l h

granted_holds : (most : ℕ) (o : OutCall) (b : Body) (c : Core) → CoreHolds most c → KeptIf most (granted_by o b c)
granted_holds most o (body.Grant lease ttl) c h = either (CoreHolds most) (seat_calls o.call c.seat) _ c (with_seat_hold most c _ h) h
granted_holds most o (body.Range count more kvs) c h = tt
granted_holds most o (body.Put prev) c h = tt
granted_holds most o (body.Delete deleted prevs) c h = tt
granted_holds most o (body.Txn' succeeded m bodies) c h = tt
granted_holds most o body.Compact c h = tt
granted_holds most o body.Revoke c h = tt
granted_holds most o (body.KeepAlive lease ttl) c h = tt
granted_holds most o (body.TimeToLive lease ttl granted keys) c h = tt
granted_holds most o (body.Leases leases) c h = tt

grant_holds : (most : ℕ) (o : OutCall) (a : Answer) (c : Core) → CoreHolds most c → KeptIf most (grant_answered o a c)
grant_holds most o (answer.Done reply) c h = granted_holds most o reply.body c h
grant_holds most o (answer.Refused r) c h = grant_fails most o c h

kept_holds : (most now : ℕ) (o : OutCall) (b : Body) (c : Core) → most ≤ max_number → CoreHolds most c → KeptIf most (kept_by now o b c)
kept_holds most now o (body.KeepAlive lease ttl) c l h =
    either (CoreHolds most) (seat_calls o.call c.seat) (kept now o ttl c) c (either (CoreHolds most) (ttl == 0) (without_session now c) _ (over_holds most now c l h) (with_seat_hold most c _ h)) h
kept_holds most now o (body.Range count more kvs) c l h = tt
kept_holds most now o (body.Put prev) c l h = tt
kept_holds most now o (body.Delete deleted prevs) c l h = tt
kept_holds most now o (body.Txn' succeeded m bodies) c l h = tt
kept_holds most now o body.Compact c l h = tt
kept_holds most now o (body.Grant lease ttl) c l h = tt
kept_holds most now o body.Revoke c l h = tt
kept_holds most now o (body.TimeToLive lease ttl granted keys) c l h = tt
kept_holds most now o (body.Leases leases) c l h = tt

keep_holds : (most now : ℕ) (o : OutCall) (a : Answer) (c : Core) → most ≤ max_number → CoreHolds most c → KeptIf most (keep_answered now o a c)
keep_holds most now o (answer.Done reply) c l h = kept_holds most now o reply.body c l h
keep_holds most now o (answer.Refused r) c l h = keep_fails most o c h

acquire_holds_if : (most : ℕ) (c : Core) (o : Option AfterAcquire) → AfterIf most o → CoreHolds most c → KeptIf most (acquire_if c o)
acquire_holds_if most c None n h = tt
acquire_holds_if most c (Some x) n h = by_end x.ends
  where
    by_end : (b : Bool) → CoreHolds most (with_reads (cond b (record c { seat = None }) c) x.reads)
    by_end true = with_reads_hold most (record c { seat = None }) x.reads n (with_seat_hold most c None h)
    by_end false = with_reads_hold most c x.reads n h

wait_holds_if : (most : ℕ) (c : Core) (o : Option Reads) → ReadsIf most o → CoreHolds most c → KeptIf most (reads_if c o)
wait_holds_if most c None n h = tt
wait_holds_if most c (Some r) n h = with_reads_hold most c r n h

stale_holds : (members step : ℕ) (a : Asked) → AskHolds a → AskHolds (stale_once members step a)
stale_holds members step a t = record { ticket = t.ticket; stage = either StageHolds (nat_le (stales_limit members) (capped (a.stales + 1))) (stage.Replied verdict.Stale) (called step) tt tt }

said_holds : (a : Answer) (x : Asked) → AnswerFits max_number a → AskHolds x → AskHolds (said a x)
said_holds a x f t = at_stage x (stage.Replied (verdict.Said a)) t f

ask_ends : (most : ℕ) (k : CallKind) (o : OutCall) (a : Answer) (c : Core) → AnswerFits max_number a → CoreHolds most c → KeptIf most (ask_answered k o a c)
ask_ends most k o (answer.Done reply) c f h =
    let stale = stale_once c.members.count c.own.waits.step in
    either (KeptIf most) (is_body_of k reply.body) (Some (ask_done k o reply c)) None
    (either (CoreHolds most) (is_stale_reply k o reply) (with_caller o.call stale (member_failed o c)) (with_caller o.call (said (answer.Done reply)) c)
    (caller_holds most o.call stale (member_failed o c) (stale_holds c.members.count c.own.waits.step) (failed_holds most o c h))
    (caller_holds most o.call (said (answer.Done reply)) c (λ x t. said_holds (answer.Done reply) x f t) h)) tt
ask_ends most k o (answer.Refused r) c f h = caller_holds most o.call (said (answer.Refused r)) c (λ x t. said_holds (answer.Refused r) x f t) h

group_ends : (most : ℕ) (o : OutCall) (lease : ℕ) (a : Answer) (c : Core) → AnswerFits max_number a → CoreHolds most c → KeptIf most (group_answered o lease a c)
group_ends most o lease a c f h = either (KeptIf most) (is_keepalive a) _ None (groups_hold most c.own.waits.step o.call lease (verdict.Said a) c f h) tt

more : (most : ℕ) → most ≤ most + 128
more most = omega arith

pub within : (heard most : ℕ) → Bounds heard most → most ≤ max_number
within heard most l = let r = l.room in omega (arith, r)

job_holds : (heard most now : ℕ) (o : OutCall) (j : OutJob) (a : Answer) (c : Core) → Bounds heard most → AnswerFits heard a → OwnFits c.own → CoreHolds most c → KeptIf (most + 128) (answered_job now o j a c)
job_holds heard most now o (job.Grant lease) a c l f b h = kept_weaker most (most + 128) (grant_answered o a c) (more most) (grant_holds most o a c h)
job_holds heard most now o (job.Keep lease) a c l f b h = kept_weaker most (most + 128) (keep_answered now o a c) (more most) (keep_holds most now o a c (within heard most l) h)
job_holds heard most now o (job.Acquire k) a c l f b h =
    let x = acquire_answered (moment c now) k a (reads_of c) in
    kept_weaker most (most + 128) (acquire_if c x) (more most) (acquire_holds_if most c x (acquire_answered_holds heard most (moment c now) k a (reads_of c) l h.header f (reads_in most c h)) h)
job_holds heard most now o job.Wait a c l f b h =
    wait_holds_if (most + 128) c (wait_answered (moment c now) o.call a (reads_of c)) (wait_answered_holds heard most (moment c now) o.call a (reads_of c) l h.header f b (reads_in most c h)) (core_weaker most (most + 128) c (more most) h)
job_holds heard most now o (job.Ask k) a c l f b h = kept_weaker most (most + 128) (ask_answered k o a c) (more most) (ask_ends most k o a c (answer_weaker heard max_number (few_heard heard most l) a f) h)
job_holds heard most now o (job.Group lease) a c l f b h = kept_weaker most (most + 128) (group_answered o lease a c) (more most) (group_ends most o lease a c (answer_weaker heard max_number (few_heard heard most l) a f) h)

or_lost_holds : (most now : ℕ) (o : OutCall) (c : Core) (x : Option Core) → most + 128 ≤ max_number → CoreHolds most c → KeptIf (most + 128) x → CoreHolds (most + 128) (or_lost now o c x)
or_lost_holds most now o c None l h n = lost_holds (most + 128) now o c l (core_weaker most (most + 128) c (more most) h)
or_lost_holds most now o c (Some d) l h n = n

heard_call_holds : (heard most now : ℕ) (o : OutCall) (x : Option Answer) (c : Core) → Bounds heard most → If (AnswerFits heard) x → OwnFits c.own → CoreHolds most c → CoreHolds (most + 128) (heard_call now o x c)
heard_call_holds heard most now o None c l f b h = lost_holds (most + 128) now o c l.room (core_weaker most (most + 128) c (more most) h)
heard_call_holds heard most now o (Some a) c l f b h = or_lost_holds most now o c (answered_job now o o.job a c) l.room h (job_holds heard most now o o.job a c l f b h)

answered_core : (past most now : ℕ) (o : OutCall) (a : Answer) (c : Core) → Bounds past most → AnswerFits past a → OwnFits c.own → CoreHolds most c → CoreHolds (most + 128) (answered_call now o a c)
answered_core past most now o (answer.Done reply) c l f b h =
    heard_call_holds past most now o (heard c.settings.namespace (answer.Done reply)) (header_taken reply.header c) l (heard_fits past c.settings.namespace (answer.Done reply) f) b
    (header_holds most reply.header c (header_weaker past max_number (few_heard past most l) reply.header f.0) h)
answered_core past most now o (answer.Refused r) c l f b h = heard_call_holds past most now o (heard c.settings.namespace (answer.Refused r)) c l (heard_fits past c.settings.namespace (answer.Refused r) f) b h

gone_call : (most call : ℕ) (c : Core) → CoreHolds most c → CoreHolds most (call_gone call c)
gone_call most call c h = record { header = h.header; entries = h.entries; asks = h.asks; watches = h.watches }

pub answer_event : (heard most now call : ℕ) (a : Answer) (x : Option OutCall) (c : Core) → Bounds heard most → AnswerFits heard a → OwnFits c.own → CoreHolds most c → StepHolds (most + 128) (answer_of now call a x c)
answer_event heard most now call a None c l f b h = record { core = core_weaker most (most + 128) c (more most) h; outcome = tt }
answer_event heard most now call a (Some o) c l f b h =
    record { core = go_on (most + 128) (answered_call now o a (call_gone call c)) (answered_core heard most now o a (call_gone call c) l f b (gone_call most call c h)); outcome = tt }

pub loss_event : (most now call : ℕ) (x : Option OutCall) (c : Core) → most ≤ max_number → CoreHolds most c → StepHolds most (loss_of now call x c)
loss_event most now call None c l h = record { core = h; outcome = tt }
loss_event most now call (Some o) c l h = record { core = go_on most (lost_call now o (call_gone call c)) (lost_holds most now o (call_gone call c) l (gone_call most call c h)); outcome = tt }

-- ---- Tick, Item, Cut

anew_holds : (most : ℕ) (u : Upstream) (c : Core) → CoreHolds most c → CoreHolds most (due_anew u c)
anew_holds most u c h = record { header = h.header; entries = h.entries; asks = h.asks; watches = h.watches }

leasing_ticked_holds : (most : ℕ) (o : Option Opening) (c : Core) → CoreHolds most c → CoreHolds most (leasing_ticked o c)
leasing_ticked_holds most None c h = anew_holds most _ c h
leasing_ticked_holds most (Some o) c h = h

pub tick_event : (most now word : ℕ) (c : Core) → CoreHolds most c → StepHolds most (on_tick now word c)
unfolding on_tick
tick_event most now word c h =
    let s = seat_ticked word c.settings.ttl c.own.waits.step now c.seat in
    record { core = either (CoreHolds most) (leases c) (ticked now word c) c (leasing_ticked_holds most c.leasing (record c { seat = Some s }) (with_seat_hold most c (Some s) h)) h; outcome = tt }

leasing_cut_holds : (most : ℕ) (o : Opening) (c : Core) → CoreHolds most c → CoreHolds most (leasing_cut o c)
leasing_cut_holds most o c h = anew_holds most _ c h

leasing_created_holds : (most : ℕ) (o : Opening) (x : Header) (c : Core) → CoreHolds most c → CoreHolds most (leasing_created o x c)
leasing_created_holds most o x c h =
    either (CoreHolds most) o.stream.created c _ h
    (record { header = h.header; entries = either (λ own. EntriesHold most own.entries) (o.stream.next == 0) (resynced c.own) c.own h.entries h.entries; asks = h.asks; watches = h.watches })

leasing_cancelled_holds : (most : ℕ) (o : Opening) (compaction : ℕ) (c : Core) → CoreHolds most c → CoreHolds most (leasing_cancelled o compaction c)
leasing_cancelled_holds most o compaction c h =
    either (CoreHolds most) (compaction == 0) (leasing_cut o c) _ (leasing_cut_holds most o c h)
    (anew_holds most _ (record c { own = all_given_up c.own }) (record { header = h.header; entries = given_up_holds most c.own h.entries; asks = h.asks; watches = h.watches }))

leasing_told_holds : (most now : ℕ) (o : Opening) (x : Header) (es : List Event) (c : Core) → CoreHolds most c → CoreHolds most (leasing_told now o x es c)
leasing_told_holds most now o x es c h =
    either (CoreHolds most) (is_readable o.stream es) _ (leasing_cut o c)
    (record { header = h.header; entries = all_noticed_holds most (live_number c.seat now) es c.own h.entries; asks = h.asks; watches = h.watches }) (leasing_cut_holds most o c h)

leasing_message_holds : (most now : ℕ) (o : Opening) (x : WatchItem) (c : Core) → CoreHolds most c → CoreHolds most (leasing_message now o x c)
leasing_message_holds most now o (item.Created y) c h = leasing_created_holds most o y c h
leasing_message_holds most now o (item.Events y es) c h = leasing_told_holds most now o y es c h
leasing_message_holds most now o (item.Canceled y compaction) c h = leasing_cancelled_holds most o compaction c h

leasing_unwrapped : (most now : ℕ) (o : Opening) (u : Unwrapped WatchItem) (c : Core) → CoreHolds most c → CoreHolds most (leasing.unwrapped_message now o u c)
leasing_unwrapped most now o (Ok x) c h = leasing_message_holds most now o x c h
leasing_unwrapped most now o (Err foreign) c h = leasing_cut_holds most o c h

leasing_sent : (most now : ℕ) (o : Opening) (s : Option ℕ) (x : WatchItem) (c : Core) → CoreHolds most c → CoreHolds most (message_if_sent now o s x c)
leasing_sent most now o None x c h = leasing_unwrapped most now o (item_without c.settings.namespace x) c h
leasing_sent most now o (Some since) x c h = h

-- each message has a header
item_head : (heard : ℕ) (x : WatchItem) → heard ≤ max_number → MessageFits heard x → HeaderFits max_number (leasing.item_header x)
item_head heard (item.Created y) l f = header_weaker heard max_number l y f
item_head heard (item.Events y es) l f = header_weaker heard max_number l y f.0
item_head heard (item.Canceled y compaction) l f = header_weaker heard max_number l y f.0

leasing_item_holds : (most now : ℕ) (o : Opening) (x : WatchItem) (c : Core) → HeaderFits max_number (leasing.item_header x) → CoreHolds most c → CoreHolds most (leasing_item now o x c)
leasing_item_holds most now o x c f h = leasing_sent most now o o.due x (header_taken (leasing.item_header x) c) (header_holds most (leasing.item_header x) c f h)

-- what is heard of a stream is counted up by one
next_heard : (heard most : ℕ) → Bounds heard most → heard + 1 ≤ max_number
next_heard heard most l = let t = l.twice in omega (arith, t)

stream_message_holds : (heard most : ℕ) (s : Stream) (x : WatchItem) (c : Core) → Bounds heard most → MessageFits heard x → StreamFits s → BroadcastsFit c.watches → CoreHolds most c → CoreHolds most (stream_message s x c)
stream_message_holds heard most s (item.Created y) c l f k b h = with_watches_hold most c _ (created_holds heard c.watches s y c.header (next_heard heard most l) f.revision h.header k h.watches) h
stream_message_holds heard most s (item.Events y es) c l f k b h =
    let few = few_heard heard most l in
    with_watches_hold most c _ (delivered_holds c.watches s y es (header_weaker heard max_number few y f.0) (events_weaker heard max_number few es f.1) h.watches) h
stream_message_holds heard most s (item.Canceled y compaction) c l f k b h =
    let few = few_heard heard most l in
    let g = f.1 in
    with_watches_hold most c _ (cancelled_holds c.watches s y compaction c.header (header_weaker heard max_number few y f.0) (omega (arith, g, few)) h.header k b h.watches) h

stream_unwrapped : (heard most : ℕ) (s : Stream) (u : Unwrapped WatchItem) (c : Core) → Bounds heard most → Stands (MessageFits heard) u → StreamFits s → BroadcastsFit c.watches → CoreHolds most c → CoreHolds most (watching.unwrapped_message s u c)
stream_unwrapped heard most s (Ok y) c l f k b h = stream_message_holds heard most s y c l f k b h
stream_unwrapped heard most s (Err foreign) c l f k b h = with_watches_hold most c _ (cut_holds c.watches s h.watches) h

stream_item_holds : (heard most : ℕ) (s : Stream) (x : WatchItem) (c : Core) → Bounds heard most → MessageFits heard x → StreamFits s → BroadcastsFit c.watches → CoreHolds most c → CoreHolds most (stream_item s x c)
stream_item_holds heard most s x c l f k b h =
    let d = header_taken (leasing.item_header x) c in
    let n = header_holds most (leasing.item_header x) c (item_head heard x (few_heard heard most l) f) h in
    either (CoreHolds most) (is_begun s.phase) (watching.unwrapped_message s (item_without d.settings.namespace x) d) d
    (stream_unwrapped heard most s (item_without d.settings.namespace x) d l (message_fits heard d.settings.namespace x f) k b n) n

client_item_holds : (heard most number : ℕ) (x : WatchItem) (s : Option Stream) (c : Core) → Bounds heard most → MessageFits heard x → If StreamFits s → BroadcastsFit c.watches → CoreHolds most c → StepHolds most (client_item number x s c)
client_item_holds heard most number x None c l f k b h = record { core = h; outcome = tt }
client_item_holds heard most number x (Some s) c l f k b h = record { core = go_on most (stream_item s x c) (stream_item_holds heard most s x c l f k b h); outcome = tt }

pub item_event : (heard most now number : ℕ) (x : WatchItem) (o : Option Opening) (c : Core) → Bounds heard most → MessageFits heard x → BroadcastsFit c.watches → CoreHolds most c → StepHolds most (item_of now number x o c)
item_event heard most now number x None c l f b h = client_item_holds heard most number x (stream_at number c.watches.streams) c l f (stream_found number c.watches.streams b.streams) b h
item_event heard most now number x (Some o) c l f b h = record { core = go_on most (leasing_item now o x c) (leasing_item_holds most now o x c (item_head heard x (few_heard heard most l) f) h); outcome = tt }

client_cut_holds : (most number : ℕ) (s : Option Stream) (c : Core) → CoreHolds most c → StepHolds most (client_cut number s c)
client_cut_holds most number None c h = record { core = h; outcome = tt }
client_cut_holds most number (Some s) c h = record { core = with_watches_hold most c _ (cut_holds c.watches s h.watches) h; outcome = tt }

pub cut_event : (most number : ℕ) (o : Option Opening) (c : Core) → CoreHolds most c → StepHolds most (cut_of number o c)
cut_event most number None c h = client_cut_holds most number (stream_at number c.watches.streams) c h
cut_event most number (Some o) c h = record { core = leasing_cut_holds most o c h; outcome = tt }

-- ---- Take, Leave

item_taken_holds : (most ticket : ℕ) (w : Option Watch) (c : Core) → BroadcastsFit c.watches → If WatchHolds w → CoreHolds most c → StepHolds most (item_taken ticket w c)
item_taken_holds most ticket None c b k h = record { core = h; outcome = tt }
item_taken_holds most ticket (Some w) c b k h = by_pair (watches.taken_from c.watches c.header w w.queue) (taken_from_holds c.watches c.header w w.queue h.header b k k.queue h.watches)
  where
    by_pair : (x : Broadcasts × Option WatchItem) → TakenHolds x → StepHolds most (taken_item c x)
    by_pair (b, None) n = record { core = h; outcome = tt }
    by_pair (b, Some x) n = record { core = with_watches_hold most c b n.queues h; outcome = n.item }

without_holds : (ticket : ℕ) (xs : List Asked) → AsksHold xs → AsksHold (without_ask ticket xs)
without_holds ticket xs h = all_filter AskHolds (λ a. not (has_ticket ticket a)) xs h

take_by_stage : (most ticket : ℕ) (s : Stage) (c : Core) → StageHolds s → CoreHolds most c → StepHolds most (takes.taken_from ticket s c)
take_by_stage most ticket (stage.Calling s) c f h = record { core = h; outcome = tt }
take_by_stage most ticket stage.Acquiring c f h = record { core = h; outcome = tt }
take_by_stage most ticket stage.Joined c f h = record { core = h; outcome = tt }
take_by_stage most ticket stage.Behind c f h = record { core = h; outcome = tt }
take_by_stage most ticket stage.Writes c f h = record { core = h; outcome = tt }
take_by_stage most ticket (stage.Grouped s) c f h = record { core = h; outcome = tt }
take_by_stage most ticket (stage.Replied v) c f h = record { core = with_asks_hold most c (without_ask ticket c.asks) (without_holds ticket c.asks h.asks) h; outcome = reply_fits v f }

pub ask_found : (ticket : ℕ) (xs : List Asked) → AsksHold xs → If AskHolds (ask_at ticket xs)
ask_found ticket [] h = tt
ask_found ticket (a ∷ rest) h = either (If AskHolds) (has_ticket ticket a) (Some a) (ask_at ticket rest) h.0 (ask_found ticket rest h.1)

pub take_event : (most ticket : ℕ) (o : Option Asked) (c : Core) → BroadcastsFit c.watches → If AskHolds o → CoreHolds most c → StepHolds most (taken ticket o c)
take_event most ticket None c b k h = item_taken_holds most ticket (watch_at ticket c.watches.watches) c b (queue_found ticket c.watches.watches h.watches) h
take_event most ticket (Some a) c b k h = take_by_stage most ticket a.stage c k.stage h

pub leave_event : (most now ticket : ℕ) (o : Option Asked) (c : Core) → most ≤ max_number → CoreHolds most c → StepHolds most (left now ticket o c)
leave_event most now ticket None c l h = by_watch (watch_at ticket c.watches.watches)
  where
    by_watch : (w : Option Watch) → StepHolds most (watcher_left ticket w c)
    by_watch None = record { core = h; outcome = tt }
    by_watch (Some w) = record { core = with_watches_hold most c _ (removed_holds c.watches ticket (watch_at ticket c.watches.watches) h.watches) h; outcome = tt }
leave_event most now ticket (Some a) c l h =
    let xs = without_ask ticket c.asks in
    record {
      core = go_on most (has_left now ticket c) (with_reads_hold most c _ (taken_off_holds most (moment c now) (has_ticket ticket) xs (reads_of c) l h.header (without_holds ticket c.asks h.asks) (reads_in most c h)) h);
      outcome = tt;
    }
