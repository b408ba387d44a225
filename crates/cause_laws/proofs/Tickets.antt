-- A step that asks, takes and leaves nothing lets the requests stay, each under its ticket.
use Rattle.std.proofs.Common.{◌≡◌, ℕ, ◌==◌, ◌&&◌, Bool, true, false, cond, Option, None, Some, List, map, Ok, Err, refl, ◌∙◌, [], ◌∷◌}
use Rattle.etcd_types.specs.declared.answer.Answer.{Answer}
use Rattle.etcd_types.specs.declared.answer.Answer.TheVariants as answer
use Rattle.etcd_types.specs.declared.answer.Body.{Body}
use Rattle.etcd_types.specs.declared.answer.Body.TheVariants as body
use Rattle.etcd_types.specs.declared.record.Header.{Header}
use Rattle.etcd_types.specs.declared.watch.Event.{Event}
use Rattle.etcd_types.specs.declared.watch.WatchItem.{WatchItem}
use Rattle.etcd_types.specs.declared.watch.WatchItem.TheVariants as item
use Rattle.proxy_model.specs.Unwrapped.{Unwrapped, item_without}
use Rattle.wait_model.specs.Sent.{JobSent, job_sent}
use Rattle.watch_model.specs.declared.stream.StreamJob.{StreamJob}
use Rattle.watch_model.specs.declared.stream.StreamJob.TheVariants as stream
use Rattle.watch_model.specs.Due.{next_job}
use Rattle.watch_model.specs.Lookups.{stream_at, is_begun}
use Rattle.watch_model.specs.State.{Stream}
use Rattle.read_model.specs.declared.asked.Asked.{Asked}
use Rattle.read_model.specs.declared.asked.Stage.TheVariants as stage
use Rattle.read_model.specs.Acquires.{AfterAcquire, acquire_answered}
use Rattle.read_model.specs.State.{Reads, Moment}
use Rattle.core_model.specs.declared.out_call.CallKind.{CallKind}
use Rattle.core_model.specs.declared.out_call.OutCall.{OutCall}
use Rattle.core_model.specs.declared.out_call.OutJob.{OutJob}
use Rattle.core_model.specs.declared.out_call.OutJob.TheVariants as job
use Rattle.core_model.specs.ClockWork.{begun, clock_work}
use Rattle.core_model.specs.DueJobs.{DueJob, ForSession, ForWrites, ForAcquire, ForAsk, ForGroup, ToOpen, ForStream}
use Rattle.core_model.specs.Ends.{call_gone, is_stale_reply, ask_done, ask_answered, member_failed, acquire_if, reads_if, is_keepalive, group_answered, answered_job, lost_job, lost_call, or_lost, heard_call, answered_call, answer_of, loss_of, with_caller, stale_once, said}
use Rattle.core_model.specs.Heard.{heard, header_taken}
use Rattle.core_model.specs.Kinds.{is_body_of}
use Rattle.core_model.specs.LeasingStream.{leasing_ticked, leasing_cut, leasing_created, leasing_cancelled, is_readable, leasing_told, leasing_message, message_if_sent, leasing_item}
use Rattle.core_model.specs.LeasingStream as leasing
use Rattle.core_model.specs.Lookups.{leases, moment, reads_of}
use Rattle.core_model.specs.Sending.{next_call, writes_sent, sent_by}
use Rattle.core_model.specs.Sessions.{without_session, seat_ticked, seat_is_over, deadline_passed, seat_calls, granted_by, grant_failed, grant_answered, keep_failed, kept, kept_by, keep_answered}
use Rattle.core_model.specs.Stepped.{Stepped}
use Rattle.core_model.specs.State.{Opening, Core}
use Rattle.core_model.specs.Step.{ticked, on_tick, client_item, item_of, client_cut, cut_of}
use Rattle.core_model.specs.Watching.{stream_message, stream_item, stream_job, with_watches}
use Rattle.core_model.specs.Watching as watching
use Rattle.wait_model.specs.declared.sending.Sending.TheVariants as sending
use Rattle.wait_model.specs.declared.wait.Settled.{Settled}
use Rattle.wait_model.specs.declared.wait.Settled.TheVariants as settled
use Rattle.wait_model.specs.Endings as endings
use Rattle.wait_model.specs.GuardedAnswers.{Ending}
use Rattle.wait_model.specs.Phases.{is_session}
use Rattle.proxy_model.specs.declared.ownership.Claim.{Claim}
use Rattle.proxy_model.specs.declared.ownership.Claim.TheVariants.{Acquired, OwnedBy}
use Rattle.proxy_model.specs.Acquire.{claimed}
use Rattle.proxy_model.specs.Keyed.{at}
use Rattle.etcd_types.specs.declared.code.TheConstants.{NOT_FOUND}
use Rattle.read_model.specs.declared.acquire.Acquire.{Acquire}
use Rattle.read_model.specs.declared.asked.Verdict.{Verdict}
use Rattle.read_model.specs.declared.asked.Verdict.TheVariants as verdict
use Rattle.read_model.specs.Acquires.{acquires_at, told, told_lost, lost_once, done_by, acquire_refused, is_to_be_held, answered_acquire}
use Rattle.read_model.specs.PlainRead.{in_stage, called, shown, decided_ask}
use Rattle.read_model.specs.Release.{ask_stands, released_ask, released_ground, released_from}
use Rattle.read_model.specs.State.{Ground}
use Rattle.read_model.specs.WriteAnswers.{settled_ask, answered_by}
use Rattle.core_model.specs.ClockWork.{times_out, timed_out_ask}
use Rattle.core_model.specs.Ends.{lost_ask}
use Rattle.core_model.specs.Fits.{ask_tickets}
use Rattle.core_model.specs.Groups.{keeps, is_out_stage, is_due_stage, waits_next, group_sent, group_ended}
use Rattle.core_model.specs.Kinds.{is_read}
use Rattle.core_model.specs.Lookups.{has_ticket, calls_as}
use Rattle.core_model.specs.Sending.{called_as}
use Rattle.core_laws.proofs.Steps.Requests.{same_tickets}

-- the same tickets
abbrev pub Stays : Core → Core → Type 0
Stays c d = ask_tickets d.asks ≡ ask_tickets c.asks

abbrev pub Leaves : Core → Stepped → Type 0
Leaves c s = Stays c s.core

on : (c d e : Core) → Stays c d → Stays d e → Stays c e
on c d e x y = y ∙ x

pub either : {A : Type 0} (P : A → Type 0) (b : Bool) (x y : A) → P x → P y → P (cond b x y)
either P true x y f g = f
either P false x y f g = g

-- Clock work.

-- one by one
changed : (f : Asked → Asked) (b : Asked → Bool) → ((x : Asked) → (f x).ticket ≡ x.ticket) → (x : Asked) → (cond (b x) (f x) x).ticket ≡ x.ticket
changed f b e x = either (λ (y : Asked). y.ticket ≡ x.ticket) (b x) (f x) x (e x) refl

pub released_stays : (again : Bool) (m : Moment) (g : Ground) (xs : List Asked) → ask_tickets (released_from again m g xs).asks ≡ ask_tickets xs
unfolding released_from
released_stays again m g [] = refl
released_stays again m g (x ∷ xs) =
    let same : (released_ask again m g x).ticket ≡ x.ticket = either (λ (y : Asked). y.ticket ≡ x.ticket) (ask_stands g x) x (cond again (decided_ask m g x) (in_stage (called g.own.waits.step) x)) refl
    (either (λ (y : Asked). y.ticket ≡ x.ticket) again (decided_ask m g x) (in_stage (called g.own.waits.step) x) refl refl) in
    (λ i. same i ∷ released_stays again m (released_ground again m g x) xs i)

settled_ticket : (s : Settled) (x : Asked) → (settled_ask s x).ticket ≡ x.ticket
settled_ticket settled.Nothing x = refl
settled_ticket (settled.Reply ticket a) x = either (λ (y : Asked). y.ticket ≡ x.ticket) (x.ticket == ticket) (in_stage (stage.Replied (verdict.Said a)) x) x refl refl
settled_ticket (settled.Failed ticket) x = either (λ (y : Asked). y.ticket ≡ x.ticket) (x.ticket == ticket) (in_stage (stage.Replied verdict.Lost) x) x refl refl

caller_stays : (call : ℕ) (f : Asked → Asked) → ((x : Asked) → (f x).ticket ≡ x.ticket) → (xs : List Asked) → ask_tickets (map (λ a. cond (calls_as call a) (f a) a) xs) ≡ ask_tickets xs
caller_stays call f e xs = same_tickets (λ a. cond (calls_as call a) (f a) a) (changed f (calls_as call) e) xs

group_stays : (step call lease : ℕ) (v : Verdict) (xs : List Asked) → ask_tickets (map (group_ended step call lease v) xs) ≡ ask_tickets xs
group_stays step call lease v xs =
    same_tickets (group_ended step call lease v)
    (λ x. either (λ (y : Asked). y.ticket ≡ x.ticket) (is_out_stage call x.stage) (in_stage (stage.Replied v) x) (cond (keeps lease x.request && waits_next x.stage) (in_stage (stage.Grouped (Some (sending.Due step))) x) x) refl
    (changed (in_stage (stage.Grouped (Some (sending.Due step)))) (λ y. keeps lease y.request && waits_next y.stage) (λ y. refl) x)) xs

lost_ask_ticket : (k : CallKind) (o : OutCall) (c : Core) (x : Asked) → (lost_ask k o c x).ticket ≡ x.ticket
lost_ask_ticket k o c x = either (λ (y : Asked). y.ticket ≡ x.ticket) (is_read k) (lost_once c.members.count c.own.waits.step x) (in_stage (stage.Replied verdict.Lost) x) refl refl

over_stays : (now : ℕ) (c : Core) → Stays c (without_session now c)
over_stays now c = released_stays false _ _ c.asks

pub clock_stays : (now : ℕ) (c : Core) → Stays c (clock_work now c)
unfolding clock_work
clock_stays now c =
    let d = deadline_passed now (begun c) in
    let deadline : Stays c d = either (Stays c) (seat_is_over c.seat now) (without_session now (begun c)) (begun c) (over_stays now (begun c)) refl in
    released_stays false _ _ (map (timed_out_ask now) d.asks) ∙ same_tickets (timed_out_ask now) (changed (in_stage (stage.Replied verdict.TimedOut)) (times_out now) (λ x. refl)) d.asks ∙ deadline

-- Answer, Lost.

grant_fails : (o : OutCall) (c : Core) → Stays c (grant_failed o c)
grant_fails o c = either (Stays c) (seat_calls o.call c.seat) _ c refl refl

keep_fails : (o : OutCall) (c : Core) → Stays c (keep_failed o c)
keep_fails o c = either (Stays c) (seat_calls o.call c.seat) _ c refl refl

lost_job_stays : (now : ℕ) (o : OutCall) (j : OutJob) (c : Core) → Stays c (lost_job now o j c)
lost_job_stays now o (job.Grant lease) c = grant_fails o c
lost_job_stays now o (job.Keep lease) c = keep_fails o c
lost_job_stays now o (job.Acquire k) c =
    let told = told_lost c.members.count c.own.waits.step k in
    released_stays false _ _ (map told c.asks) ∙ same_tickets told (changed (lost_once c.members.count c.own.waits.step) (acquires_at k) (λ x. refl)) c.asks
lost_job_stays now o job.Wait c =
    let s = (endings.lost o.call c.own).settled in
    released_stays false _ _ (map (settled_ask s) c.asks) ∙ same_tickets (settled_ask s) (settled_ticket s) c.asks
lost_job_stays now o (job.Ask kind) c = caller_stays o.call (lost_ask kind o c) (lost_ask_ticket kind o c) c.asks
lost_job_stays now o (job.Group lease) c = group_stays c.own.waits.step o.call lease verdict.Lost c.asks

lost_stays : (now : ℕ) (o : OutCall) (c : Core) → Stays c (lost_call now o c)
lost_stays now o c = lost_job_stays now o o.job (member_failed o c)

abbrev StaysIf : Core → Option Core → Type 0
StaysIf c None = Unit {0}
StaysIf c (Some d) = Stays c d

granted_stays : (o : OutCall) (b : Body) (c : Core) → StaysIf c (granted_by o b c)
granted_stays o (body.Grant lease ttl) c = either (Stays c) (seat_calls o.call c.seat) _ c refl refl
granted_stays o (body.Range count more kvs) c = tt
granted_stays o (body.Put prev) c = tt
granted_stays o (body.Delete deleted prevs) c = tt
granted_stays o (body.Txn' succeeded m bodies) c = tt
granted_stays o body.Compact c = tt
granted_stays o body.Revoke c = tt
granted_stays o (body.KeepAlive lease ttl) c = tt
granted_stays o (body.TimeToLive lease ttl granted keys) c = tt
granted_stays o (body.Leases leases) c = tt

grant_stays : (o : OutCall) (a : Answer) (c : Core) → StaysIf c (grant_answered o a c)
grant_stays o (answer.Done reply) c = granted_stays o reply.body c
grant_stays o (answer.Refused r) c = grant_fails o c

kept_stays : (now : ℕ) (o : OutCall) (b : Body) (c : Core) → StaysIf c (kept_by now o b c)
kept_stays now o (body.KeepAlive lease ttl) c =
    either (Stays c) (seat_calls o.call c.seat) (kept now o ttl c) c
    (either (Stays c) (ttl == 0) (without_session now c) _ (over_stays now c) refl) refl
kept_stays now o (body.Range count more kvs) c = tt
kept_stays now o (body.Put prev) c = tt
kept_stays now o (body.Delete deleted prevs) c = tt
kept_stays now o (body.Txn' succeeded m bodies) c = tt
kept_stays now o body.Compact c = tt
kept_stays now o (body.Grant lease ttl) c = tt
kept_stays now o body.Revoke c = tt
kept_stays now o (body.TimeToLive lease ttl granted keys) c = tt
kept_stays now o (body.Leases leases) c = tt

keep_stays : (now : ℕ) (o : OutCall) (a : Answer) (c : Core) → StaysIf c (keep_answered now o a c)
keep_stays now o (answer.Done reply) c = kept_stays now o reply.body c
keep_stays now o (answer.Refused r) c = keep_fails o c

-- of reads that are left by it
abbrev SameIf : List Asked → Option AfterAcquire → Type 0
SameIf xs None = Unit {0}
SameIf xs (Some x) = ask_tickets x.reads.asks ≡ ask_tickets xs

done_stays : (m : Moment) (k : List ℕ) (held : Bool) (h : Header) (q : Option Claim) (r : Reads) → SameIf r.asks (done_by m k held h q r)
done_stays m k held h None r = tt
done_stays m k held h (Some (Acquired create kv)) r = released_stays held m _ (map (told k (shown h kv)) r.asks) ∙ same_tickets (told k (shown h kv)) (changed (in_stage (shown h kv)) (acquires_at k) (λ x. refl)) r.asks
done_stays m k held h (Some (OwnedBy kv owner)) r = released_stays false m _ (map (told k (shown h kv)) r.asks) ∙ same_tickets (told k (shown h kv)) (changed (in_stage (shown h kv)) (acquires_at k) (λ x. refl)) r.asks

refused_stays : (m : Moment) (k : List ℕ) (ends : Bool) (r : Reads) → ask_tickets (acquire_refused m k ends r).reads.asks ≡ ask_tickets r.asks
refused_stays m k true r = released_stays false m _ r.asks
refused_stays m k false r = released_stays false m _ r.asks

acquire_same : (m : Moment) (k : List ℕ) (q : Option Acquire) (a : Answer) (r : Reads) → SameIf r.asks (answered_acquire m k q a r)
acquire_same m k None a r = refl
acquire_same m k (Some c) (answer.Done reply) r = done_stays m k (is_to_be_held m k c r) reply.header (claimed r.own.waits.prefix k reply) r
acquire_same m k (Some c) (answer.Refused x) r = refused_stays m k (is_session m.session c.session && (x.code == NOT_FOUND)) r

acquire_stays : (c : Core) (o : Option AfterAcquire) → SameIf c.asks o → StaysIf c (acquire_if c o)
acquire_stays c None h = tt
acquire_stays c (Some x) h = h

ending_stays : (m : Moment) (o : Option Ending) (c : Core) → StaysIf c (reads_if c (answered_by m o (reads_of c)))
ending_stays m None c = tt
ending_stays m (Some x) c = released_stays true m _ (map (settled_ask x.settled) c.asks) ∙ same_tickets (settled_ask x.settled) (settled_ticket x.settled) c.asks

ask_ends : (k : CallKind) (o : OutCall) (a : Answer) (c : Core) → StaysIf c (ask_answered k o a c)
ask_ends k o (answer.Done reply) c =
    either (StaysIf c) (is_body_of k reply.body) (Some (ask_done k o reply c)) None
    (either (Stays c) (is_stale_reply k o reply) (with_caller o.call (stale_once c.members.count c.own.waits.step) (member_failed o c)) (with_caller o.call (said (answer.Done reply)) c)
    (caller_stays o.call (stale_once c.members.count c.own.waits.step) (λ x. refl) c.asks) (caller_stays o.call (said (answer.Done reply)) (λ x. refl) c.asks)) tt
ask_ends k o (answer.Refused r) c = caller_stays o.call (said (answer.Refused r)) (λ x. refl) c.asks

group_ends : (o : OutCall) (lease : ℕ) (a : Answer) (c : Core) → StaysIf c (group_answered o lease a c)
group_ends o lease a c = either (StaysIf c) (is_keepalive a) _ None (group_stays c.own.waits.step o.call lease (verdict.Said a) c.asks) tt

job_stays : (now : ℕ) (o : OutCall) (j : OutJob) (a : Answer) (c : Core) → StaysIf c (answered_job now o j a c)
job_stays now o (job.Grant lease) a c = grant_stays o a c
job_stays now o (job.Keep lease) a c = keep_stays now o a c
job_stays now o (job.Acquire k) a c = acquire_stays c (acquire_answered (moment c now) k a (reads_of c)) (acquire_same (moment c now) k (at c.acquires k) a (reads_of c))
job_stays now o job.Wait a c = ending_stays (moment c now) (endings.answered o.call a (moment c now).session now c.own) c
job_stays now o (job.Ask k) a c = ask_ends k o a c
job_stays now o (job.Group lease) a c = group_ends o lease a c

or_lost_stays : (now : ℕ) (o : OutCall) (c : Core) (x : Option Core) → StaysIf c x → Stays c (or_lost now o c x)
or_lost_stays now o c None h = lost_stays now o c
or_lost_stays now o c (Some d) h = h

heard_stays : (now : ℕ) (o : OutCall) (x : Option Answer) (c : Core) → Stays c (heard_call now o x c)
heard_stays now o None c = lost_stays now o c
heard_stays now o (Some a) c = or_lost_stays now o c (answered_job now o o.job a c) (job_stays now o o.job a c)

answered_stays_as : (now : ℕ) (o : OutCall) (a : Answer) (c : Core) → Stays c (answered_call now o a c)
answered_stays_as now o (answer.Done reply) c =
    let d = header_taken reply.header c in
    on c d (answered_call now o (answer.Done reply) c) refl (heard_stays now o (heard c.settings.namespace (answer.Done reply)) d)
answered_stays_as now o (answer.Refused r) c = heard_stays now o (heard c.settings.namespace (answer.Refused r)) c

pub answer_stays : (now call : ℕ) (a : Answer) (x : Option OutCall) (c : Core) → Leaves c (answer_of now call a x c)
answer_stays now call a None c = refl
answer_stays now call a (Some o) c =
    let d = call_gone call c in
    let e = answered_call now o a d in
    let h : Stays d e = answered_stays_as now o a d in
    h

pub loss_stays : (now call : ℕ) (x : Option OutCall) (c : Core) → Leaves c (loss_of now call x c)
loss_stays now call None c = refl
loss_stays now call (Some o) c =
    let d = call_gone call c in
    let h : Stays d (lost_call now o d) = lost_stays now o d in
    h

-- Tick, Item, Cut.

pub tick_stays : (now word : ℕ) (c : Core) → Leaves c (on_tick now word c)
unfolding on_tick
tick_stays now word c = either (Stays c) (leases c) (ticked now word c) c (by_opening c.leasing) refl
  where
    by_opening : (o : Option Opening) → Stays c (leasing_ticked o (record c { seat = Some (seat_ticked word c.settings.ttl c.own.waits.step now c.seat) }))
    by_opening None = refl
    by_opening (Some o) = refl

created_stays : (o : Opening) (h : Header) (c : Core) → Stays c (leasing_created o h c)
created_stays o h c =
    either (Stays c) o.stream.created c _ refl
    refl

cancelled_stays : (o : Opening) (compaction : ℕ) (c : Core) → Stays c (leasing_cancelled o compaction c)
cancelled_stays o compaction c = either (Stays c) (compaction == 0) (leasing_cut o c) _ refl refl

told_stays : (now : ℕ) (o : Opening) (h : Header) (es : List Event) (c : Core) → Stays c (leasing_told now o h es c)
told_stays now o h es c =
    either (Stays c) (is_readable o.stream es) _ (leasing_cut o c)
    refl refl

message_stays : (now : ℕ) (o : Opening) (x : WatchItem) (c : Core) → Stays c (leasing_message now o x c)
message_stays now o (item.Created h) c = created_stays o h c
message_stays now o (item.Events h es) c = told_stays now o h es c
message_stays now o (item.Canceled h compaction) c = cancelled_stays o compaction c

unwrapped_stays : (now : ℕ) (o : Opening) (u : Unwrapped WatchItem) (c : Core) → Stays c (leasing.unwrapped_message now o u c)
unwrapped_stays now o (Ok x) c = message_stays now o x c
unwrapped_stays now o (Err foreign) c = refl

sent_stays : (now : ℕ) (o : Opening) (s : Option ℕ) (x : WatchItem) (c : Core) → Stays c (message_if_sent now o s x c)
sent_stays now o None x c = unwrapped_stays now o (item_without c.settings.namespace x) c
sent_stays now o (Some since) x c = refl

leasing_stays : (now : ℕ) (o : Opening) (x : WatchItem) (c : Core) → Stays c (leasing_item now o x c)
leasing_stays now o x c =
    let d = header_taken (leasing.item_header x) c in
    on c d (leasing_item now o x c) refl (sent_stays now o o.due x d)

stream_message_stays : (s : Stream) (x : WatchItem) (c : Core) → Stays c (stream_message s x c)
stream_message_stays s (item.Created h) c = refl
stream_message_stays s (item.Events h es) c = refl
stream_message_stays s (item.Canceled h compaction) c = refl

stream_stays : (s : Stream) (x : WatchItem) (c : Core) → Stays c (stream_item s x c)
stream_stays s x c =
    let d = header_taken (leasing.item_header x) c in
    on c d (stream_item s x c) refl (either (Stays d) (is_begun s.phase) (watching.unwrapped_message s (item_without d.settings.namespace x) d) d (by_text (item_without d.settings.namespace x)) refl)
  where
    by_text : (u : Unwrapped WatchItem) → Stays (header_taken (leasing.item_header x) c) (watching.unwrapped_message s u (header_taken (leasing.item_header x) c))
    by_text (Ok y) = stream_message_stays s y (header_taken (leasing.item_header x) c)
    by_text (Err foreign) = refl

client_item_stays : (number : ℕ) (x : WatchItem) (s : Option Stream) (c : Core) → Leaves c (client_item number x s c)
client_item_stays number x None c = refl
client_item_stays number x (Some s) c = let h : Stays c (stream_item s x c) = stream_stays s x c in h

pub item_stays : (now number : ℕ) (x : WatchItem) (o : Option Opening) (c : Core) → Leaves c (item_of now number x o c)
item_stays now number x None c = client_item_stays number x (stream_at number c.watches.streams) c
item_stays now number x (Some o) c = let h : Stays c (leasing_item now o x c) = leasing_stays now o x c in h

client_cut_stays : (number : ℕ) (s : Option Stream) (c : Core) → Leaves c (client_cut number s c)
client_cut_stays number None c = refl
client_cut_stays number (Some s) c = refl

pub cut_stays : (number : ℕ) (o : Option Opening) (c : Core) → Leaves c (cut_of number o c)
cut_stays number None c = client_cut_stays number (stream_at number c.watches.streams) c
cut_stays number (Some o) c = refl

-- Work.

writes_sent_stays : (now : ℕ) (x : Option JobSent) (c : Core) → Leaves c (writes_sent now x c)
writes_sent_stays now None c = refl
writes_sent_stays now (Some x) c = refl

stream_job_stays : (o : Option StreamJob) (c : Core) → Leaves c (stream_job o c)
stream_job_stays None c = refl
stream_job_stays (Some (stream.Close number)) c = refl
stream_job_stays (Some (stream.Open number range start)) c = refl

pub work_stays : (now : ℕ) (j : Option DueJob) (c : Core) → Leaves c (sent_by now j c)
work_stays now None c = refl
work_stays now (Some (ForSession s)) c = refl
work_stays now (Some ForWrites) c = writes_sent_stays now (job_sent (next_call c) c.own) c
work_stays now (Some (ForAcquire k x)) c = refl
work_stays now (Some (ForAsk a)) c = same_tickets (called_as (next_call c) a.ticket) (changed (in_stage (stage.Calling (sending.Out (next_call c)))) (has_ticket a.ticket) (λ x. refl)) c.asks
work_stays now (Some (ForGroup lease ticket)) c =
    same_tickets (group_sent (next_call c) lease) (changed (in_stage (stage.Grouped (Some (sending.Out (next_call c))))) (λ x. keeps lease x.request && is_due_stage x.stage) (λ x. refl)) c.asks
work_stays now (Some (ToOpen o)) c = refl
work_stays now (Some (ForStream s)) c =
    let x = next_job c.watches (Some s) in
    let h : Leaves (with_watches c x.0) (stream_job x.1 (with_watches c x.0)) = stream_job_stays x.1 (with_watches c x.0) in
    h
