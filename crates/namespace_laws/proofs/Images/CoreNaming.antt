-- Every step of a proxy keeps named all that it may send.
use Rattle.std.proofs.Common.{◌≡◌, ℕ, ◌==◌, Bool, true, false, not, cond, ◌&&◌, Option, None, Some, is_some, List, Ok, Err, refl, sym, ap, subst, map, ◌∙◌}
use Rattle.etcd_types.specs.declared.answer.Answer.{Answer}
use Rattle.etcd_types.specs.declared.answer.Answer.TheVariants as answer
use Rattle.etcd_types.specs.declared.answer.Body.{Body}
use Rattle.etcd_types.specs.declared.answer.Body.TheVariants as body
use Rattle.etcd_types.specs.declared.answer.Refusal.{Refusal}
use Rattle.etcd_types.specs.declared.record.Header.{Header}
use Rattle.etcd_types.specs.declared.request.Request.{Request}
use Rattle.etcd_types.specs.declared.request.Request.TheVariants as request
use Rattle.etcd_types.specs.declared.watch.Event.{Event}
use Rattle.etcd_types.specs.declared.watch.WatchItem.{WatchItem}
use Rattle.etcd_types.specs.declared.watch.WatchItem.TheVariants as item
use Rattle.proxy_model.specs.Unwrapped.{Unwrapped, item_without}
use Rattle.wait_model.specs.Asked.{submitted}
use Rattle.wait_model.specs.LeasingStream.{resynced, all_given_up}
use Rattle.wait_model.specs.Notices.{all_noticed}
use Rattle.wait_model.specs.State.{Ownership}
use Rattle.watch_model.specs.Lookups.{stream_at, watch_at, is_begun}
use Rattle.watch_model.specs.State.{Stream, Watch, Broadcasts}
use Rattle.watch_model.specs.Takes as watches
use Rattle.read_model.specs.declared.asked.Asked.{Asked}
use Rattle.read_model.specs.declared.asked.Stage.{Stage}
use Rattle.read_model.specs.declared.asked.Stage.TheVariants as stage
use Rattle.read_model.specs.declared.asked.Verdict.TheVariants as verdict
use Rattle.read_model.specs.Acquires.{AfterAcquire, acquire_answered, read_asked, lost_once}
use Rattle.read_model.specs.PlainRead.{decided_ask, in_stage}
use Rattle.read_model.specs.State.{Reads, Moment, ground_of}
use Rattle.read_model.specs.WriteAnswers.{wait_answered}
use Rattle.core_model.specs.declared.event.StepFault.TheVariants as fault
use Rattle.core_model.specs.declared.out_call.CallKind.{CallKind}
use Rattle.core_model.specs.declared.out_call.OutCall.{OutCall}
use Rattle.core_model.specs.declared.out_call.OutJob.{OutJob}
use Rattle.core_model.specs.declared.out_call.OutJob.TheVariants as job
use Rattle.core_model.specs.Asking.{asked_at, is_leased_read, read_by, read_is_asked, with_ask, write_is_asked, held_body, if_live, call_stage, call_is_asked, answered_or_called, leased_ask, taken_in, request_asked, refused_or_taken, on_ask}
use Rattle.core_model.specs.ClockWork.{begun, clock_work, times_out, timed_out_ask, writes_go_on, requests_timed_out}
use Rattle.core_model.specs.Ends.{call_gone, is_stale_reply, ask_done, ask_answered, member_failed, acquire_if, reads_if, is_keepalive, group_answered, answered_job, lost_ask, lost_job, lost_call, or_lost, heard_call, answered_call, answer_of, loss_of, with_caller, stale_once, said}
use Rattle.core_model.specs.Groups.{keeps, is_out_stage, waits_next, group_ended, groups_ended}
use Rattle.core_model.specs.Heard.{heard, header_taken}
use Rattle.core_model.specs.Kinds.{is_read, writes_keys, is_body_of}
use Rattle.core_model.specs.LeasingStream.{own_created, leasing_ticked, leasing_cut, leasing_created, leasing_cancelled, is_readable, leasing_told, leasing_message, message_if_sent, leasing_item}
use Rattle.core_model.specs.LeasingStream as leasing
use Rattle.core_model.specs.Lookups.{leases, live_number, moment, reads_of, with_reads, is_known, calls_as, has_ticket, without_ask}
use Rattle.core_model.specs.Refusals.{refusal_of}
use Rattle.core_model.specs.Sessions.{without_session, seat_ticked, seat_is_over, deadline_passed, seat_calls, granted_by, grant_failed, grant_answered, keep_failed, kept, kept_by, keep_answered}
use Rattle.core_model.specs.State.{Opening, Core}
use Rattle.core_model.specs.Step.{ticked, on_tick, opening_at, client_item, item_of, client_cut, cut_of}
use Rattle.core_model.specs.Stepped.{Stepped, faults}
use Rattle.core_model.specs.Takes.{gone, item_taken, taken, on_take, has_left, watcher_left, left, on_leave}
use Rattle.core_model.specs.Takes as takes
use Rattle.core_model.specs.Watching.{stream_message, stream_item, taken_item}
use Rattle.core_model.specs.Watching as watching
use Rattle.core_laws.proofs.Steps.Lists.{all_mapped, all_pushed, all_filtered}
use Rattle.namespace_laws.specs.Images.Named.{is_leasing, ask_named, OwnNamed, ReadsNamed, CoreNamed}
use Rattle.namespace_laws.proofs.Images.Bare.{served_keys}
use Rattle.namespace_laws.proofs.Images.OwnNaming.{either, proceeded_named, submitted_named, gone_named, given_up_named, all_noticed_named}
use Rattle.namespace_laws.proofs.Images.ReadNaming.{AsksNamed, read_asked_named, session_over_named, taken_off_named, AfterNamed, acquire_answered_named, acquire_lost_named, ReadsIf, wait_answered_named, wait_lost_named}

abbrev pub Keeps : List ℕ → Core → Core → Type 0
Keeps p c d = CoreNamed p c → CoreNamed p d

-- a step that only changes other parts
pub still : (p : List ℕ) (c d : Core) → reads_of d ≡ reads_of c → d.leasing ≡ c.leasing → Keeps p c d
still p c d r l h = record { reads = subst (ReadsNamed p) (sym r) h.reads; leasing = λ t. h.leasing (ap is_some (sym l) ∙ t) }

-- with other reads
pub with_reads_named : (p : List ℕ) (c : Core) (r : Reads) → ReadsNamed p r → CoreNamed p c → CoreNamed p (with_reads c r)
with_reads_named p c r n h = record { reads = record { ground = record { own = n.ground.own; acquires = n.ground.acquires }; asks = n.asks }; leasing = h.leasing }

-- with another lease table and other writes
pub with_own_named : (p : List ℕ) (c : Core) (own : Ownership) → OwnNamed p own → CoreNamed p c → CoreNamed p (record c { own = own })
with_own_named p c own n h = record { reads = record { ground = record { own = n; acquires = h.reads.ground.acquires }; asks = h.reads.asks }; leasing = h.leasing }

-- with other requests
pub with_asks_named : (p : List ℕ) (c : Core) (xs : List Asked) → AsksNamed xs → CoreNamed p c → CoreNamed p (record c { asks = xs })
with_asks_named p c xs n h = record { reads = record { ground = record { own = h.reads.ground.own; acquires = h.reads.ground.acquires }; asks = n }; leasing = h.leasing }

pub go_on : (p : List ℕ) (c : Core) → Keeps p c (writes_go_on c)
go_on p c h = with_own_named p c _ (proceeded_named p c.own h.reads.ground.own) h

pub leasing_on : (p : List ℕ) (c : Core) → CoreNamed p c → leases c ≡ true → is_leasing p ≡ true
leasing_on p c h t = ap is_leasing (sym h.reads.ground.own.prefix) ∙ t

-- Clock work.

over_named : (p : List ℕ) (now : ℕ) (c : Core) → Keeps p c (without_session now c)
over_named p now c h =
    let d = record c { seat = None } in
    let n = still p c d refl refl h in
    with_reads_named p d _ (session_over_named p (moment d now) (reads_of d) n.reads) n

timed_named : (now : ℕ) (a : Asked) → ask_named a ≡ true → ask_named (timed_out_ask now a) ≡ true
timed_named now a t = either (λ (x : Asked). ask_named x ≡ true) (times_out now a) (in_stage (stage.Replied verdict.TimedOut) a) a t t

pub clock_named : (p : List ℕ) (now : ℕ) (c : Core) → Keeps p c (clock_work now c)
unfolding clock_work
clock_named p now c h =
    let b = begun c in
    let n : CoreNamed p b = record {
      reads = record { ground = record { own = record { prefix = h.reads.ground.own.prefix; entries = h.reads.ground.own.entries; writes = h.reads.ground.own.writes }; acquires = h.reads.ground.acquires }; asks = h.reads.asks };
      leasing = h.leasing;
    } in
    let d = deadline_passed now b in
    let m : CoreNamed p d = either (CoreNamed p) (seat_is_over c.seat now) (without_session now b) b (over_named p now b n) n in
    let xs = map (timed_out_ask now) d.asks in
    let k : AsksNamed xs = all_mapped ask_named ask_named (timed_out_ask now) (timed_named now) d.asks m.reads.asks in
    go_on p (requests_timed_out now d) (with_reads_named p d _ (taken_off_named p (moment d now) (times_out now) xs (reads_of d) k m.reads) m)

-- Ask.

abbrev pub Leaves : List ℕ → Stepped → Type 0
Leaves p s = CoreNamed p s.core

read_named : (p : List ℕ) (m : Moment) (a : Asked) (c : Core) → ask_named a ≡ true → CoreNamed p c → Leaves p (read_is_asked m a c)
read_named p m a c k h = by_stage (decided_ask m (ground_of (reads_of c)) a).stage
  where
    waits : CoreNamed p (writes_go_on (with_reads c (read_asked m a (reads_of c))))
    waits = go_on p _ (with_reads_named p c _ (read_asked_named p m a (reads_of c) k h.reads) h)

    by_stage : (s : Stage) → Leaves p (read_by s c (with_reads c (read_asked m a (reads_of c))))
    by_stage (stage.Calling s) = waits
    by_stage stage.Acquiring = waits
    by_stage stage.Joined = waits
    by_stage stage.Behind = waits
    by_stage stage.Writes = waits
    by_stage (stage.Grouped s) = waits
    by_stage (stage.Replied v) = h

asked_more : (p : List ℕ) (s : Stage) (a : Asked) (c : Core) → ask_named a ≡ true → Keeps p c (with_ask s a c)
asked_more p s a c k h = with_asks_named p c _ (all_pushed ask_named (in_stage s a) c.asks h.reads.asks k) h

call_named : (p : List ℕ) (a : Asked) (c : Core) → ask_named a ≡ true → CoreNamed p c → Leaves p (call_is_asked a c)
call_named p a c k h = go_on p _ (asked_more p (call_stage a.request c) a c k h)

write_named_asked : (p : List ℕ) (a : Asked) (c : Core) → is_leasing p ≡ true → ask_named a ≡ true → CoreNamed p c → Leaves p (write_is_asked a c)
write_named_asked p a c l k h =
    let own = submitted a.ticket a.request c.own in
    go_on p _ (asked_more p stage.Writes a (record c { own = own }) k (with_own_named p c own (submitted_named p a.ticket a.request c.own l k h.reads.ground.own) h))

answered_named_at_once : (p : List ℕ) (o : Option Body) (a : Asked) (c : Core) → ask_named a ≡ true → CoreNamed p c → Leaves p (answered_or_called o a c)
answered_named_at_once p None a c k h = call_named p a c k h
answered_named_at_once p (Some b) a c k h = h

taken_named : (p : List ℕ) (m : Moment) (a : Asked) (c : Core) → ask_named a ≡ true → CoreNamed p c → Leaves p (taken_in m a c)
taken_named p m a c k h = by_leasing (leases c) refl
  where
    leased : is_leasing p ≡ true → Leaves p (leased_ask m a c)
    leased l =
        let other = answered_or_called (if_live m.session (held_body c.own.entries a.request)) a c in
        either (Leaves p) (is_leased_read c.own.waits.prefix a.request) (read_is_asked m a c) (cond (writes_keys a.request) (write_is_asked a c) other)
        (read_named p m a c k h)
        (either (Leaves p) (writes_keys a.request) (write_is_asked a c) other (write_named_asked p a c l k h) (answered_named_at_once p (if_live m.session (held_body c.own.entries a.request)) a c k h))

    by_leasing : (b : Bool) → leases c ≡ b → Leaves p (cond b (leased_ask m a c) (call_is_asked a c))
    by_leasing true t = leased (leasing_on p c h t)
    by_leasing false t = call_named p a c k h

request_named : (p : List ℕ) (q : Request) (m : Moment) (a : Asked) (c : Core) → ask_named a ≡ true → CoreNamed p c → Leaves p (request_asked q m a c)
request_named p (request.Watch ask) m a c k h = still p c _ refl refl h
request_named p (request.Range ask) m a c k h = taken_named p m a c k h
request_named p (request.Put ask) m a c k h = taken_named p m a c k h
request_named p (request.Delete ask) m a c k h = taken_named p m a c k h
request_named p (request.Txn t) m a c k h = taken_named p m a c k h
request_named p (request.Compact revision physical) m a c k h = taken_named p m a c k h
request_named p (request.Grant ttl lease) m a c k h = taken_named p m a c k h
request_named p (request.Revoke lease) m a c k h = taken_named p m a c k h
request_named p (request.KeepAlive lease) m a c k h = taken_named p m a c k h
request_named p (request.TimeToLive lease keys) m a c k h = taken_named p m a c k h
request_named p request.Leases m a c k h = taken_named p m a c k h

pub ask_stays_named : (p : List ℕ) (now ticket : ℕ) (q : Request) (word : ℕ) (c : Core) → CoreNamed p c → Leaves p (on_ask now ticket q word c)
unfolding on_ask
ask_stays_named p now ticket q word c h =
    either (Leaves p) (is_known ticket c) (faults c (fault.TicketUsed ticket)) (refused_or_taken (refusal_of c.own.waits.prefix q) (moment c now) (asked_at now ticket q word) c)
    h (by_refusal (refusal_of c.own.waits.prefix q) refl)
  where
    by_refusal : (r : Option Refusal) → refusal_of c.own.waits.prefix q ≡ r → Leaves p (refused_or_taken r (moment c now) (asked_at now ticket q word) c)
    by_refusal None e = request_named p q (moment c now) (asked_at now ticket q word) c (served_keys c.own.waits.prefix q e) h
    by_refusal (Some r) e = h

-- Answer, Lost.

grant_fails : (p : List ℕ) (o : OutCall) (c : Core) → Keeps p c (grant_failed o c)
grant_fails p o c h = either (CoreNamed p) (seat_calls o.call c.seat) _ c (still p c _ refl refl h) h

keep_fails : (p : List ℕ) (o : OutCall) (c : Core) → Keeps p c (keep_failed o c)
keep_fails p o c h = either (CoreNamed p) (seat_calls o.call c.seat) _ c (still p c _ refl refl h) h

-- a request that is changed stays the same request
caller_named : (p : List ℕ) (call : ℕ) (f : Asked → Asked) (c : Core) → ((a : Asked) → ask_named a ≡ true → ask_named (f a) ≡ true) → Keeps p c (with_caller call f c)
caller_named p call f c k h =
    with_asks_named p c _ (all_mapped ask_named ask_named (λ a. cond (calls_as call a) (f a) a) (λ a t. either (λ (x : Asked). ask_named x ≡ true) (calls_as call a) (f a) a (k a t) t) c.asks h.reads.asks) h

groups_named : (p : List ℕ) (step call lease : ℕ) (v : _) (c : Core) → Keeps p c (record c { asks = groups_ended step call lease v c.asks })
groups_named p step call lease v c h = with_asks_named p c _ (all_mapped ask_named ask_named (group_ended step call lease v) one c.asks h.reads.asks) h
  where
    one : (a : Asked) → ask_named a ≡ true → ask_named (group_ended step call lease v a) ≡ true
    one a t = either (λ (x : Asked). ask_named x ≡ true) (is_out_stage call a.stage) _ _ t (either (λ (x : Asked). ask_named x ≡ true) (keeps lease a.request && waits_next a.stage) _ a t t)

lost_ask_named : (k : CallKind) (o : OutCall) (c : Core) (a : Asked) → ask_named a ≡ true → ask_named (lost_ask k o c a) ≡ true
lost_ask_named k o c a t = either (λ (x : Asked). ask_named x ≡ true) (is_read k) (lost_once c.members.count c.own.waits.step a) (in_stage (stage.Replied verdict.Lost) a) t t

lost_job_named : (p : List ℕ) (now : ℕ) (o : OutCall) (j : OutJob) (c : Core) → Keeps p c (lost_job now o j c)
lost_job_named p now o (job.Grant lease) c h = grant_fails p o c h
lost_job_named p now o (job.Keep lease) c h = keep_fails p o c h
lost_job_named p now o (job.Acquire k) c h = with_reads_named p c _ (acquire_lost_named p c.members.count (moment c now) k (reads_of c) h.reads) h
lost_job_named p now o job.Wait c h = with_reads_named p c _ (wait_lost_named p (moment c now) o.call (reads_of c) h.reads) h
lost_job_named p now o (job.Ask kind) c h = caller_named p o.call (lost_ask kind o c) c (lost_ask_named kind o c) h
lost_job_named p now o (job.Group lease) c h = groups_named p c.own.waits.step o.call lease verdict.Lost c h

lost_named : (p : List ℕ) (now : ℕ) (o : OutCall) (c : Core) → Keeps p c (lost_call now o c)
lost_named p now o c h = lost_job_named p now o o.job (member_failed o c) (still p c _ refl refl h)

abbrev KeptIf : List ℕ → Option Core → Type 0
KeptIf p None = Unit {0}
KeptIf p (Some d) = CoreNamed p d

granted_named : (p : List ℕ) (o : OutCall) (b : Body) (c : Core) → CoreNamed p c → KeptIf p (granted_by o b c)
granted_named p o (body.Grant lease ttl) c h = either (CoreNamed p) (seat_calls o.call c.seat) _ c (still p c _ refl refl h) h
granted_named p o (body.Range count more kvs) c h = tt
granted_named p o (body.Put prev) c h = tt
granted_named p o (body.Delete deleted prevs) c h = tt
granted_named p o (body.Txn' succeeded m bodies) c h = tt
granted_named p o body.Compact c h = tt
granted_named p o body.Revoke c h = tt
granted_named p o (body.KeepAlive lease ttl) c h = tt
granted_named p o (body.TimeToLive lease ttl granted keys) c h = tt
granted_named p o (body.Leases leases) c h = tt

grant_named : (p : List ℕ) (o : OutCall) (a : Answer) (c : Core) → CoreNamed p c → KeptIf p (grant_answered o a c)
grant_named p o (answer.Done reply) c h = granted_named p o reply.body c h
grant_named p o (answer.Refused r) c h = grant_fails p o c h

kept_named : (p : List ℕ) (now : ℕ) (o : OutCall) (b : Body) (c : Core) → CoreNamed p c → KeptIf p (kept_by now o b c)
kept_named p now o (body.KeepAlive lease ttl) c h =
    either (CoreNamed p) (seat_calls o.call c.seat) (kept now o ttl c) c
    (either (CoreNamed p) (ttl == 0) (without_session now c) _ (over_named p now c h) (still p c _ refl refl h)) h
kept_named p now o (body.Range count more kvs) c h = tt
kept_named p now o (body.Put prev) c h = tt
kept_named p now o (body.Delete deleted prevs) c h = tt
kept_named p now o (body.Txn' succeeded m bodies) c h = tt
kept_named p now o body.Compact c h = tt
kept_named p now o (body.Grant lease ttl) c h = tt
kept_named p now o body.Revoke c h = tt
kept_named p now o (body.TimeToLive lease ttl granted keys) c h = tt
kept_named p now o (body.Leases leases) c h = tt

keep_named : (p : List ℕ) (now : ℕ) (o : OutCall) (a : Answer) (c : Core) → CoreNamed p c → KeptIf p (keep_answered now o a c)
keep_named p now o (answer.Done reply) c h = kept_named p now o reply.body c h
keep_named p now o (answer.Refused r) c h = keep_fails p o c h

acquire_named_if : (p : List ℕ) (c : Core) (o : Option AfterAcquire) → AfterNamed p o → CoreNamed p c → KeptIf p (acquire_if c o)
acquire_named_if p c None n h = tt
acquire_named_if p c (Some x) n h = by_end x.ends
  where
    by_end : (b : Bool) → CoreNamed p (with_reads (cond b (record c { seat = None }) c) x.reads)
    by_end true = with_reads_named p (record c { seat = None }) x.reads n (still p c _ refl refl h)
    by_end false = with_reads_named p c x.reads n h

wait_named_if : (p : List ℕ) (c : Core) (o : Option Reads) → ReadsIf p o → CoreNamed p c → KeptIf p (reads_if c o)
wait_named_if p c None n h = tt
wait_named_if p c (Some r) n h = with_reads_named p c r n h

ask_ends : (p : List ℕ) (k : CallKind) (o : OutCall) (a : Answer) (c : Core) → CoreNamed p c → KeptIf p (ask_answered k o a c)
ask_ends p k o (answer.Done reply) c h =
    either (KeptIf p) (is_body_of k reply.body) (Some (ask_done k o reply c)) None
    (either (CoreNamed p) (is_stale_reply k o reply) (with_caller o.call (stale_once c.members.count c.own.waits.step) (member_failed o c)) (with_caller o.call (said (answer.Done reply)) c)
    (caller_named p o.call (stale_once c.members.count c.own.waits.step) (member_failed o c) (λ a t. t) (still p c _ refl refl h))
    (caller_named p o.call (said (answer.Done reply)) c (λ a t. t) h)) tt
ask_ends p k o (answer.Refused r) c h = caller_named p o.call (said (answer.Refused r)) c (λ a t. t) h

group_ends : (p : List ℕ) (o : OutCall) (lease : ℕ) (a : Answer) (c : Core) → CoreNamed p c → KeptIf p (group_answered o lease a c)
group_ends p o lease a c h = either (KeptIf p) (is_keepalive a) _ None (groups_named p c.own.waits.step o.call lease (verdict.Said a) c h) tt

job_named : (p : List ℕ) (now : ℕ) (o : OutCall) (j : OutJob) (a : Answer) (c : Core) → CoreNamed p c → KeptIf p (answered_job now o j a c)
job_named p now o (job.Grant lease) a c h = grant_named p o a c h
job_named p now o (job.Keep lease) a c h = keep_named p now o a c h
job_named p now o (job.Acquire k) a c h = acquire_named_if p c (acquire_answered (moment c now) k a (reads_of c)) (acquire_answered_named p (moment c now) k a (reads_of c) h.reads) h
job_named p now o job.Wait a c h = wait_named_if p c (wait_answered (moment c now) o.call a (reads_of c)) (wait_answered_named p (moment c now) o.call a (reads_of c) h.reads) h
job_named p now o (job.Ask k) a c h = ask_ends p k o a c h
job_named p now o (job.Group lease) a c h = group_ends p o lease a c h

or_lost_named : (p : List ℕ) (now : ℕ) (o : OutCall) (c : Core) (x : Option Core) → CoreNamed p c → KeptIf p x → CoreNamed p (or_lost now o c x)
or_lost_named p now o c None h n = lost_named p now o c h
or_lost_named p now o c (Some d) h n = n

heard_named : (p : List ℕ) (now : ℕ) (o : OutCall) (x : Option Answer) (c : Core) → Keeps p c (heard_call now o x c)
heard_named p now o None c h = lost_named p now o c h
heard_named p now o (Some a) c h = or_lost_named p now o c (answered_job now o o.job a c) h (job_named p now o o.job a c h)

answered_core_named : (p : List ℕ) (now : ℕ) (o : OutCall) (a : Answer) (c : Core) → Keeps p c (answered_call now o a c)
answered_core_named p now o (answer.Done reply) c h = heard_named p now o (heard c.settings.namespace (answer.Done reply)) (header_taken reply.header c) (still p c _ refl refl h)
answered_core_named p now o (answer.Refused r) c h = heard_named p now o (heard c.settings.namespace (answer.Refused r)) c h

pub answer_named : (p : List ℕ) (now call : ℕ) (a : Answer) (x : Option OutCall) (c : Core) → CoreNamed p c → Leaves p (answer_of now call a x c)
answer_named p now call a None c h = h
answer_named p now call a (Some o) c h = go_on p _ (answered_core_named p now o a (call_gone call c) (still p c _ refl refl h))

pub loss_named : (p : List ℕ) (now call : ℕ) (x : Option OutCall) (c : Core) → CoreNamed p c → Leaves p (loss_of now call x c)
loss_named p now call None c h = h
loss_named p now call (Some o) c h = go_on p _ (lost_named p now o (call_gone call c) (still p c _ refl refl h))

-- Tick, Item, Cut. The leasing stream stands only with leasing.

-- with a leasing stream, before and after
anew : (p : List ℕ) (c d : Core) → is_leasing p ≡ true → reads_of d ≡ reads_of c → Keeps p c d
anew p c d l r h = record { reads = subst (ReadsNamed p) (sym r) h.reads; leasing = λ t. l }

anew_own : (p : List ℕ) (c d : Core) (own : Ownership) → is_leasing p ≡ true → reads_of d ≡ reads_of (record c { own = own }) → OwnNamed p own → Keeps p c d
anew_own p c d own l r n h = anew p (record c { own = own }) d l r (with_own_named p c own n h)

pub tick_named : (p : List ℕ) (now word : ℕ) (c : Core) → CoreNamed p c → Leaves p (on_tick now word c)
unfolding on_tick
tick_named p now word c h = by_leasing (leases c) refl
  where
    by_opening : (o : Option Opening) → is_leasing p ≡ true → CoreNamed p (leasing_ticked o (record c { seat = Some (seat_ticked word c.settings.ttl c.own.waits.step now c.seat) }))
    by_opening None l = anew p c _ l refl h
    by_opening (Some o) l = still p c _ refl refl h

    by_leasing : (b : Bool) → leases c ≡ b → CoreNamed p (cond b (ticked now word c) c)
    by_leasing true t = by_opening c.leasing (leasing_on p c h t)
    by_leasing false t = h

created_named : (p : List ℕ) (o : Opening) (x : Header) (c : Core) → is_leasing p ≡ true → Keeps p c (leasing_created o x c)
created_named p o x c l h =
    either (CoreNamed p) o.stream.created c _ h
    (anew_own p c _ (own_created o.stream.next c.own) l refl (either (OwnNamed p) (o.stream.next == 0) (resynced c.own) c.own (gone_named p (λ k. true) c.own h.reads.ground.own) h.reads.ground.own) h)

cancelled_named : (p : List ℕ) (o : Opening) (compaction : ℕ) (c : Core) → is_leasing p ≡ true → Keeps p c (leasing_cancelled o compaction c)
cancelled_named p o compaction c l h =
    either (CoreNamed p) (compaction == 0) (leasing_cut o c) _ (anew p c _ l refl h) (anew_own p c _ (all_given_up c.own) l refl (given_up_named p c.own l h.reads.ground.own) h)

told_named : (p : List ℕ) (now : ℕ) (o : Opening) (x : Header) (es : List Event) (c : Core) → is_leasing p ≡ true → Keeps p c (leasing_told now o x es c)
told_named p now o x es c l h =
    either (CoreNamed p) (is_readable o.stream es) _ (leasing_cut o c)
    (anew_own p c _ (all_noticed (live_number c.seat now) es c.own) l refl (all_noticed_named p (live_number c.seat now) es c.own l h.reads.ground.own) h) (anew p c _ l refl h)

message_named : (p : List ℕ) (now : ℕ) (o : Opening) (x : WatchItem) (c : Core) → is_leasing p ≡ true → Keeps p c (leasing_message now o x c)
message_named p now o (item.Created y) c l h = created_named p o y c l h
message_named p now o (item.Events y es) c l h = told_named p now o y es c l h
message_named p now o (item.Canceled y compaction) c l h = cancelled_named p o compaction c l h

unwrapped_named : (p : List ℕ) (now : ℕ) (o : Opening) (u : Unwrapped WatchItem) (c : Core) → is_leasing p ≡ true → Keeps p c (leasing.unwrapped_message now o u c)
unwrapped_named p now o (Ok x) c l h = message_named p now o x c l h
unwrapped_named p now o (Err foreign) c l h = anew p c _ l refl h

sent_named : (p : List ℕ) (now : ℕ) (o : Opening) (s : Option ℕ) (x : WatchItem) (c : Core) → is_leasing p ≡ true → Keeps p c (message_if_sent now o s x c)
sent_named p now o None x c l h = unwrapped_named p now o (item_without c.settings.namespace x) c l h
sent_named p now o (Some since) x c l h = h

leasing_named : (p : List ℕ) (now : ℕ) (o : Opening) (x : WatchItem) (c : Core) → is_leasing p ≡ true → Keeps p c (leasing_item now o x c)
leasing_named p now o x c l h = sent_named p now o o.due x (header_taken (leasing.item_header x) c) l (still p c _ refl refl h)

stream_message_named : (p : List ℕ) (s : Stream) (x : WatchItem) (c : Core) → Keeps p c (stream_message s x c)
stream_message_named p s (item.Created y) c h = still p c _ refl refl h
stream_message_named p s (item.Events y es) c h = still p c _ refl refl h
stream_message_named p s (item.Canceled y compaction) c h = still p c _ refl refl h

stream_named : (p : List ℕ) (s : Stream) (x : WatchItem) (c : Core) → Keeps p c (stream_item s x c)
stream_named p s x c h =
    let d = header_taken (leasing.item_header x) c in
    let n : CoreNamed p d = still p c d refl refl h in
    either (CoreNamed p) (is_begun s.phase) (watching.unwrapped_message s (item_without d.settings.namespace x) d) d (by_text d n (item_without d.settings.namespace x)) n
  where
    by_text : (d : Core) → CoreNamed p d → (u : Unwrapped WatchItem) → CoreNamed p (watching.unwrapped_message s u d)
    by_text d n (Ok y) = stream_message_named p s y d n
    by_text d n (Err foreign) = still p d _ refl refl n

client_item_named : (p : List ℕ) (number : ℕ) (x : WatchItem) (s : Option Stream) (c : Core) → CoreNamed p c → Leaves p (client_item number x s c)
client_item_named p number x None c h = h
client_item_named p number x (Some s) c h = go_on p _ (stream_named p s x c h)

abbrev pub StreamIf : List ℕ → Option Opening → Type 0
StreamIf p None = Unit {0}
StreamIf p (Some o) = is_leasing p ≡ true

-- the leasing stream, where it has this number
pub opening_named : (p : List ℕ) (number : ℕ) (c : Core) → CoreNamed p c → StreamIf p (opening_at number c.leasing)
opening_named p number c h = by_opening c.leasing h.leasing
  where
    by_opening : (o : Option Opening) → (is_some o ≡ true → is_leasing p ≡ true) → StreamIf p (opening_at number o)
    by_opening None l = tt
    by_opening (Some o) l = either (StreamIf p) (o.number == number) (Some o) None (l refl) tt

pub item_named : (p : List ℕ) (now number : ℕ) (x : WatchItem) (o : Option Opening) (c : Core) → StreamIf p o → CoreNamed p c → Leaves p (item_of now number x o c)
item_named p now number x None c l h = client_item_named p number x (stream_at number c.watches.streams) c h
item_named p now number x (Some o) c l h = go_on p _ (leasing_named p now o x c l h)

client_cut_named : (p : List ℕ) (number : ℕ) (s : Option Stream) (c : Core) → CoreNamed p c → Leaves p (client_cut number s c)
client_cut_named p number None c h = h
client_cut_named p number (Some s) c h = still p c _ refl refl h

pub cut_named : (p : List ℕ) (number : ℕ) (o : Option Opening) (c : Core) → StreamIf p o → CoreNamed p c → Leaves p (cut_of number o c)
cut_named p number None c l h = client_cut_named p number (stream_at number c.watches.streams) c h
cut_named p number (Some o) c l h = anew p c _ l refl h

-- Take, Leave.

item_taken_named : (p : List ℕ) (ticket : ℕ) (w : Option Watch) (c : Core) → CoreNamed p c → Leaves p (item_taken ticket w c)
item_taken_named p ticket None c h = h
item_taken_named p ticket (Some w) c h = by_pair (watches.taken_from c.watches c.header w w.queue)
  where
    by_pair : (x : Broadcasts × Option WatchItem) → Leaves p (taken_item c x)
    by_pair (b, None) = h
    by_pair (b, Some x) = still p c _ refl refl h

without_named : (ticket : ℕ) (xs : List Asked) → AsksNamed xs → AsksNamed (without_ask ticket xs)
without_named ticket xs h = all_filtered ask_named (λ a. not (has_ticket ticket a)) xs h

take_by_stage : (p : List ℕ) (ticket : ℕ) (s : Stage) (c : Core) → CoreNamed p c → Leaves p (takes.taken_from ticket s c)
take_by_stage p ticket (stage.Calling s) c h = h
take_by_stage p ticket stage.Acquiring c h = h
take_by_stage p ticket stage.Joined c h = h
take_by_stage p ticket stage.Behind c h = h
take_by_stage p ticket stage.Writes c h = h
take_by_stage p ticket (stage.Grouped s) c h = h
take_by_stage p ticket (stage.Replied v) c h = with_asks_named p c (without_ask ticket c.asks) (without_named ticket c.asks h.reads.asks) h

pub take_named : (p : List ℕ) (ticket : ℕ) (o : Option Asked) (c : Core) → CoreNamed p c → Leaves p (taken ticket o c)
take_named p ticket None c h = item_taken_named p ticket (watch_at ticket c.watches.watches) c h
take_named p ticket (Some a) c h = take_by_stage p ticket a.stage c h

pub leave_named : (p : List ℕ) (now ticket : ℕ) (o : Option Asked) (c : Core) → CoreNamed p c → Leaves p (left now ticket o c)
leave_named p now ticket None c h = by_watch (watch_at ticket c.watches.watches)
  where
    by_watch : (w : Option Watch) → Leaves p (watcher_left ticket w c)
    by_watch None = h
    by_watch (Some w) = still p c _ refl refl h
leave_named p now ticket (Some a) c h =
    let xs = without_ask ticket c.asks in
    go_on p (has_left now ticket c) (with_reads_named p c _ (taken_off_named p (moment c now) (has_ticket ticket) xs (reads_of c) (without_named ticket c.asks h.reads.asks) h.reads) h)
