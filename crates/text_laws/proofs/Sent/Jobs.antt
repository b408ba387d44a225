-- What is due fits; so the first due job is sent with a request that fits, and what stands then fits.
use Rattle.std.proofs.Common.{ℕ, Bool, true, false, ◌&&◌, List, [], ◌∷◌, ◌++◌, map, Option, None, Some, is_some, arith}
use Rattle.std.specs.List.{flat_map}
use Rattle.etcd_types.specs.declared.request.Request.{Request}
use Rattle.etcd_types.specs.declared.request.Request.TheVariants as request
use Rattle.proxy_model.specs.declared.lease.Entry.{Entry}
use Rattle.proxy_model.specs.declared.session.Standing.{Standing}
use Rattle.proxy_model.specs.Acquire.{acquire}
use Rattle.proxy_model.specs.Keyed.{Keyed, at}
use Rattle.proxy_model.specs.Session.{Session}
use Rattle.wait_model.specs.declared.due.DueCall.{DueCall}
use Rattle.wait_model.specs.declared.due.JobKind.TheVariants.{Call}
use Rattle.wait_model.specs.declared.due.Place.{Place}
use Rattle.wait_model.specs.declared.found.Asking.{Asking}
use Rattle.wait_model.specs.declared.found.Asking.TheVariants as asking
use Rattle.wait_model.specs.declared.found.Found.{Found}
use Rattle.wait_model.specs.declared.sending.Sending.{Sending}
use Rattle.wait_model.specs.declared.sending.Sending.TheVariants as sending
use Rattle.wait_model.specs.declared.write.Write.{Write}
use Rattle.wait_model.specs.declared.write.WriteStage.{WriteStage}
use Rattle.wait_model.specs.declared.write.WriteStage.TheVariants.{Waiting, Sends, Finds}
use Rattle.wait_model.specs.DueOrder.{place_at, is_earlier, is_sooner, due_own, due_asking, due_found, due_in, due_of, due_calls, sooner, soonest, first_call, first_place, first_rescind}
use Rattle.wait_model.specs.GuardedAnswers.{owns_at}
use Rattle.wait_model.specs.Phases.{is_rescind_due, rescind_sent}
use Rattle.wait_model.specs.Sent.{JobSent, found_sent, is_revoke, stage_revoking, stage_sent, create_or_zero, compared, revoke_job, write_job, call_of, call_sent, job_sent_after, job_sent}
use Rattle.wait_model.specs.State.{Ownership}
use Rattle.wait_model.specs.Writes.{first_by, has_ticket}
use Rattle.watch_model.specs.declared.stream.StreamJob.{StreamJob}
use Rattle.watch_model.specs.declared.stream.StreamJob.TheVariants as stream
use Rattle.watch_model.specs.declared.stream.StreamPhase.{StreamPhase}
use Rattle.watch_model.specs.declared.stream.StreamPhase.TheVariants as phase
use Rattle.watch_model.specs.Due.{next_job, sent}
use Rattle.watch_model.specs.State.{Stream, Broadcasts}
use Rattle.read_model.specs.declared.acquire.Acquire.{Acquire}
use Rattle.read_model.specs.declared.asked.Asked.{Asked}
use Rattle.read_model.specs.declared.asked.Stage.{Stage}
use Rattle.read_model.specs.declared.asked.Stage.TheVariants as stage
use Rattle.core_model.specs.declared.out_call.OutJob.{OutJob}
use Rattle.core_model.specs.declared.out_call.OutJob.TheVariants as job
use Rattle.core_model.specs.DueJobs.{DueJob, ForSession, ForWrites, ForAcquire, ForAsk, ForGroup, ToOpen, ForStream, Placed, placed, if_due, due_writes, due_acquire, lease_of, due_ask, due_stage, due_at, due_opening, due_phase, due_stream, due_jobs, earlier, earliest, job_of, session_job_of, session_job, rescind_or, or_else, first_job}
use Rattle.core_model.specs.Groups.{keeps, is_due_stage, group_sent}
use Rattle.core_model.specs.Lookups.{reads_of, with_reads, has_ticket as has_ask_ticket}
use Rattle.core_model.specs.Sending.{next_call, out_call, goes_out, seat_sent, session_out, writes_sent, acquires_sent, called_as, ask_sent, keeps_sent, stream_opened, sent_by}
use Rattle.core_model.specs.Sessions.{session_request}
use Rattle.core_model.specs.State.{Seat, Opening, Core}
use Rattle.core_model.specs.Stepped.{Stepped}
use Rattle.core_model.specs.Watching.{with_watches, stream_job, stream_sent}
use Rattle.text_laws.specs.Values.Fits.{AllOf, If, Bytes, Number, RangeFits, RequestFits}
use Rattle.text_laws.proofs.Values.Alls.{either, all_append, all_push, all_map}
use Rattle.text_laws.proofs.Sent.Nesting.{ask_narrow, narrow_under, numbered_flat, guarded_narrow}
use Rattle.text_laws.specs.Sent.Sends.{Narrow, KeyedFits, EntryFits, AcquireFits, FoundFits, StageFits, WriteFits, OwnFits, AskFits, StreamFits, OpeningFits, JobFits, OutFits, CoreFits, OutcomeFits}
use Rattle.text_laws.proofs.Sent.Requests.{request_under_fits, numbered_fits, acquire_fits, rescind_fits, revoke_fits, guarded_fits}
use Rattle.text_laws.proofs.Sent.Keys.{at_fits, changed_there}
use Rattle.text_laws.proofs.Sent.Owned.{first_fits, with_first_fits}
use Rattle.text_laws.proofs.Sent.Reading.{at_stage, acquire_sent_fits}
use Rattle.text_laws.proofs.Sent.Watching.{sent_fits}
use Rattle.text_laws.proofs.Sent.Cores.{with_reads_fits, with_own_fits, with_asks_fits, with_watches_fits}

zero_number : Number 0
zero_number = omega arith

-- ---- what is due

abbrev DueFits : DueJob → Type 0
DueFits (ForSession s) = Number s.number
DueFits ForWrites = Unit {0}
DueFits (ForAcquire k x) = Bytes k × AcquireFits x
DueFits (ForAsk a) = AskFits a
DueFits (ForGroup lease ticket) = Number lease × Number ticket
DueFits (ToOpen o) = OpeningFits o
DueFits (ForStream s) = StreamFits s

abbrev PlacedFits : Placed → Type 0
PlacedFits x = DueFits x.job

abbrev AllDue : List Placed → Type 0
AllDue xs = AllOf PlacedFits xs

writes_due : (o : Option Place) → AllDue (due_writes o)
writes_due None = tt
writes_due (Some x) = (tt, tt)

if_due_for : (s : Sending) (f : ℕ → Placed) → ((since : ℕ) → PlacedFits (f since)) → AllDue (if_due s f)
if_due_for (sending.Due since) f h = (h since, tt)
if_due_for (sending.Out call) f h = tt

acquires_due : (xs : Keyed Acquire) → KeyedFits AcquireFits xs → AllDue (flat_map due_acquire xs)
acquires_due [] h = tt
acquires_due (x ∷ xs) h =
    all_append PlacedFits (due_acquire x) (flat_map due_acquire xs)
    (if_due_for x.1.sending (λ since. placed (place_at since Call x.1.ticket) (ForAcquire x.0 x.1)) (λ since. (h.0.0, h.0.1))) (acquires_due xs h.1)

opening_due : (o : Option Opening) → If OpeningFits o → AllDue (due_opening o)
opening_due None h = tt
opening_due (Some o) h = by_since o.due
  where
    by_since : (s : Option ℕ) → AllDue (due_at o s)
    by_since None = tt
    by_since (Some since) = (h, tt)

streams_due : (ss : List Stream) → AllOf StreamFits ss → AllDue (flat_map due_stream ss)
streams_due [] h = tt
streams_due (s ∷ ss) h = all_append PlacedFits (due_stream s) (flat_map due_stream ss) (by_phase s.phase) (streams_due ss h.1)
  where
    by_phase : (x : StreamPhase) → AllDue (due_phase s x)
    by_phase (phase.Due since) = (h.0, tt)
    by_phase (phase.Closing since) = (h.0, tt)
    by_phase phase.Begun = tt

lease_fits : (q : Request) → RequestFits 127 q → Number (lease_of q)
lease_fits (request.KeepAlive lease) f = f
lease_fits (request.Range ask) f = zero_number
lease_fits (request.Put ask) f = zero_number
lease_fits (request.Delete ask) f = zero_number
lease_fits (request.Txn t) f = zero_number
lease_fits (request.Compact revision physical) f = zero_number
lease_fits (request.Grant ttl lease) f = zero_number
lease_fits (request.Revoke lease) f = zero_number
lease_fits (request.TimeToLive lease keys) f = zero_number
lease_fits request.Leases f = zero_number
lease_fits (request.Watch ask) f = zero_number

ask_due : (a : Asked) (s : Stage) → AskFits a → AllDue (due_stage a s)
ask_due a (stage.Calling (sending.Due since)) h = (h, tt)
ask_due a (stage.Calling (sending.Out call)) h = tt
ask_due a stage.Acquiring h = tt
ask_due a stage.Joined h = tt
ask_due a stage.Behind h = tt
ask_due a stage.Writes h = tt
ask_due a (stage.Grouped None) h = tt
ask_due a (stage.Grouped (Some (sending.Due since))) h = ((lease_fits a.request h.request, h.ticket), tt)
ask_due a (stage.Grouped (Some (sending.Out call))) h = tt
ask_due a (stage.Replied v) h = tt

asks_due : (xs : List Asked) → AllOf AskFits xs → AllDue (flat_map due_ask xs)
asks_due [] h = tt
asks_due (a ∷ xs) h = all_append PlacedFits (due_ask a) (flat_map due_ask xs) (ask_due a a.stage h.0) (asks_due xs h.1)

all_due : (c : Core) → CoreFits c → AllDue (due_jobs c)
all_due c h =
    let writes = due_writes (first_place c.own.waits.writes) in
    let acquires = flat_map due_acquire c.acquires in
    let asks = flat_map due_ask c.asks in
    all_append PlacedFits (writes ++ acquires ++ asks ++ due_opening c.leasing) (flat_map due_stream c.watches.streams)
    (all_append PlacedFits (writes ++ acquires ++ asks) (due_opening c.leasing)
    (all_append PlacedFits (writes ++ acquires) asks (all_append PlacedFits writes acquires (writes_due (first_place c.own.waits.writes)) (acquires_due c.acquires h.reads.ground.acquires)) (asks_due c.asks h.reads.asks))
    (opening_due c.leasing h.leasing))
    (streams_due c.watches.streams h.watches.streams)

earliest_due : (o : Option Placed) (xs : List Placed) → If PlacedFits o → AllDue xs → If PlacedFits (earliest o xs)
earliest_due o [] h k = h
earliest_due o (x ∷ xs) h k = earliest_due (Some (earlier o x)) xs (chosen o h) k.1
  where
    chosen : (o : Option Placed) → If PlacedFits o → PlacedFits (earlier o x)
    chosen None t = k.0
    chosen (Some y) t = either PlacedFits (is_earlier x.place y.place) x y k.0 t

job_due : (o : Option Placed) → If PlacedFits o → If DueFits (job_of o)
job_due None h = tt
job_due (Some x) h = h

rescind_due : (b : Bool) (o : Option DueJob) → If DueFits o → If DueFits (rescind_or b o)
rescind_due true o h = tt
rescind_due false o h = h

pub first_due : (c : Core) → CoreFits c → If DueFits (first_job c)
first_due c h = by_session (session_job c.seat) (session_due c.seat h.seat)
  where
    others : If DueFits (rescind_or (is_some (first_rescind c.own.entries)) (job_of (earliest None (due_jobs c))))
    others = rescind_due (is_some (first_rescind c.own.entries)) (job_of (earliest None (due_jobs c))) (job_due (earliest None (due_jobs c)) (earliest_due None (due_jobs c) tt (all_due c h)))

    by_call : (s : Seat) (o : Option Sending) → Number s.session.number → If DueFits (session_job_of s.session o)
    by_call s None f = tt
    by_call s (Some (sending.Due since)) f = f
    by_call s (Some (sending.Out call)) f = tt

    session_due : (s : Option Seat) → If (λ (x : Seat). Number x.session.number) s → If DueFits (session_job s)
    session_due None f = tt
    session_due (Some s) f = by_call s s.call f

    by_session : (o : Option DueJob) → If DueFits o → If DueFits (or_else o (rescind_or (is_some (first_rescind c.own.entries)) (job_of (earliest None (due_jobs c)))))
    by_session None t = others
    by_session (Some j) t = t

-- ---- what is sent

-- the core fits, and what is sent does
pub record SendsFit (s : Stepped) : Type 0 where
  pub core : CoreFits s.core
  pub sent : OutcomeFits s.outcome

current_fits : (c : Core) → CoreFits c → Number c.members.current
current_fits c h = let a = h.members.current in let b = h.members.few in omega (arith, a, b)

goes : (now : ℕ) (j : OutJob) (ticket : ℕ) (q : Request) (c d : Core) → JobFits j → Number ticket → RequestFits 127 q → Narrow q → CoreFits c → AllOf OutFits c.out → CoreFits d → SendsFit (goes_out now j ticket q c d)
goes now j ticket q c d b t f g h out k = record {
  core = record { settings = k.settings; members = k.members; seat = k.seat; leasing = k.leasing; reads = record { ground = record { own = k.reads.ground.own; acquires = k.reads.ground.acquires }; asks = k.reads.asks }; out = all_push OutFits c.out (out_call now j c) out b; watches = k.watches };
  sent = (current_fits c h, t, request_under_fits c.settings.namespace q h.settings.namespace f, narrow_under c.settings.namespace q g);
}

session_narrow : (ttl : ℕ) (s : Session) (o : Option Standing) → Narrow (session_request ttl s o)
session_narrow ttl s None = tt
session_narrow ttl s (Some x) = tt

session_fits : (ttl : ℕ) (s : Session) (o : Option Standing) → Number ttl → Number s.number → RequestFits 127 (session_request ttl s o)
session_fits ttl s None t n = (t, n)
session_fits ttl s (Some x) t n = n

session_job_fits : (number : ℕ) (o : Option Standing) → JobFits (session_out number o)
session_job_fits number None = tt
session_job_fits number (Some x) = tt

-- a job of the writes or of an entry

record JobSentFits (x : JobSent) : Type 0 where
  own : OwnFits x.own
  ticket : Number x.due.ticket
  request : RequestFits 127 x.due.request
  narrow : Narrow x.due.request

abbrev DueCallFits : DueCall → Type 0
DueCallFits d = Bytes d.key × Number d.create

asking_due : (ticket : ℕ) (f : Found) (a : Asking) → FoundFits f → AllOf DueCallFits (due_asking ticket f a)
asking_due ticket f (asking.Due since) h = (h, tt)
asking_due ticket f (asking.Out call) h = tt
asking_due ticket f asking.Done h = tt

founds_due : (ticket : ℕ) (found : List Found) → AllOf FoundFits found → AllOf DueCallFits (flat_map (due_found ticket) found)
founds_due ticket [] h = tt
founds_due ticket (f ∷ fs) h = all_append DueCallFits (due_found ticket f) (flat_map (due_found ticket) fs) (asking_due ticket f f.revoke h.0) (founds_due ticket fs h.1)

own_due : (ticket : ℕ) (s : Sending) → AllOf DueCallFits (due_own ticket s)
own_due ticket (sending.Due since) = ((tt, zero_number), tt)
own_due ticket (sending.Out call) = tt

stage_due : (ticket : ℕ) (s : WriteStage) → StageFits s → AllOf DueCallFits (due_in ticket s)
stage_due ticket Waiting h = tt
stage_due ticket (Sends owner s) h = own_due ticket s
stage_due ticket (Finds found) h = founds_due ticket found h

calls_due : (ws : List Write) → AllOf WriteFits ws → AllOf DueCallFits (due_calls ws)
calls_due [] h = tt
calls_due (w ∷ ws) h = all_append DueCallFits (due_of w) (flat_map due_of ws) (stage_due w.ticket w.stage h.0.stage) (calls_due ws h.1)

soonest_fits : (o : Option DueCall) (ds : List DueCall) → If DueCallFits o → AllOf DueCallFits ds → If DueCallFits (soonest o ds)
soonest_fits o [] f h = f
soonest_fits o (d ∷ ds) f h = soonest_fits (Some (sooner o d)) ds (chosen o f) h.1
  where
    chosen : (o : Option DueCall) → If DueCallFits o → DueCallFits (sooner o d)
    chosen None t = h.0
    chosen (Some c) t = either DueCallFits (is_sooner d c) d c h.0 t

first_call_fits : (ws : List Write) → AllOf WriteFits ws → If DueCallFits (first_call ws)
first_call_fits ws h = soonest_fits None (due_calls ws) tt (calls_due ws h)

rescind_found : (es : Keyed Entry) → KeyedFits EntryFits es → If (λ (e : List ℕ × Entry). Bytes e.0 × EntryFits e.1) (first_rescind es)
rescind_found [] h = tt
rescind_found (e ∷ es) h = either (If (λ (x : List ℕ × Entry). Bytes x.0 × EntryFits x.1)) (is_rescind_due e.1) (Some e) (first_rescind es) h.0 (rescind_found es h.1)

revoking_fits : (call : ℕ) (k : List ℕ) (s : WriteStage) → StageFits s → StageFits (stage_revoking call k s)
revoking_fits call k Waiting h = tt
revoking_fits call k (Sends owner s) h = tt
revoking_fits call k (Finds found) h = all_map FoundFits FoundFits (found_sent call k) (λ f n. either FoundFits _ _ f n n) found h

stage_sent_fits : (call : ℕ) (s : WriteStage) → StageFits s → StageFits (stage_sent call s)
stage_sent_fits call Waiting h = tt
stage_sent_fits call (Sends owner s) h = tt
stage_sent_fits call (Finds found) h = h

compared_fits : (w : Write) (es : Keyed Entry) (k : List ℕ) → KeyedFits EntryFits es → Number (compared w es k)
compared_fits w es k h = either Number (owns_at w es k) (create_or_zero (at es k)) 0 (by_entry (at es k) (at_fits EntryFits es k h)) zero_number
  where
    by_entry : (o : Option Entry) → If EntryFits o → Number (create_or_zero o)
    by_entry None f = zero_number
    by_entry (Some e) f = f

call_of_fits : (call : ℕ) (d : DueCall) (o : Option Write) (own : Ownership) → DueCallFits d → If WriteFits o → OwnFits own → If JobSentFits (call_of call d o own)
call_of_fits call d None own b k h = tt
call_of_fits call d (Some w) own b k h =
    either JobSentFits (is_revoke d.place.kind) (revoke_job call d w own) (write_job call d w own)
    (record {
      own = record { prefix = h.prefix; entries = h.entries; writes = with_first_fits (has_ticket d.place.number) (stage_revoking call d.key w.stage) own.waits.writes (revoking_fits call d.key w.stage k.stage) h.writes };
      ticket = k.ticket;
      request = revoke_fits own.waits.prefix d.key d.create h.prefix b.0 b.1;
      narrow = (tt, tt);
    })
    (record {
      own = record { prefix = h.prefix; entries = h.entries; writes = with_first_fits (has_ticket d.place.number) (stage_sent call w.stage) own.waits.writes (stage_sent_fits call w.stage k.stage) h.writes };
      ticket = k.ticket;
      request = guarded_fits own.waits.prefix w.request (compared w own.entries) h.prefix k.request k.few (λ j. compared_fits w own.entries j h.entries);
      narrow = guarded_narrow own.waits.prefix w.request (compared w own.entries) k.flat;
    })

call_sent_fits : (call : ℕ) (o : Option DueCall) (own : Ownership) → If DueCallFits o → OwnFits own → If JobSentFits (call_sent call o own)
call_sent_fits call None own f h = tt
call_sent_fits call (Some d) own f h = call_of_fits call d (first_by (has_ticket d.place.number) own.waits.writes) own f (first_fits (has_ticket d.place.number) own.waits.writes h.writes) h

after_fits : (call : ℕ) (o : Option (List ℕ × Entry)) (own : Ownership) → If (λ (e : List ℕ × Entry). Bytes e.0 × EntryFits e.1) o → OwnFits own → If JobSentFits (job_sent_after call o own)
after_fits call None own f h = call_sent_fits call (first_call own.waits.writes) own (first_call_fits own.waits.writes h.writes) h
after_fits call (Some e) own f h = record {
  own = record { prefix = h.prefix; entries = changed_there EntryFits own.entries e.0 (rescind_sent true) (λ x n. n) h.entries; writes = h.writes };
  ticket = zero_number;
  request = rescind_fits own.waits.prefix e.0 e.1.create h.prefix f.0 f.1;
  narrow = (tt, tt);
}

job_sent_fits : (call : ℕ) (own : Ownership) → OwnFits own → If JobSentFits (job_sent call own)
unfolding job_sent
job_sent_fits call own h = after_fits call (first_rescind own.entries) own (rescind_found own.entries h.entries) h

writes_sent_fits : (now : ℕ) (o : Option JobSent) (c : Core) → If JobSentFits o → CoreFits c → SendsFit (writes_sent now o c)
writes_sent_fits now None c n h = record { core = h; sent = tt }
writes_sent_fits now (Some x) c n h = goes now job.Wait x.due.ticket x.due.request c (record c { own = x.own }) tt n.ticket n.request n.narrow h h.out (with_own_fits c x.own n.own h)

-- the others

acquires_sent_fits : (now : ℕ) (k : List ℕ) (x : Acquire) (c : Core) → Bytes k → AcquireFits x → CoreFits c → SendsFit (acquires_sent now k x c)
acquires_sent_fits now k x c b f h =
    goes now (job.Acquire k) x.ticket (request.Txn (acquire c.own.waits.prefix k x.session)) c (with_reads c _) b f.ticket (acquire_fits c.own.waits.prefix k x.session h.reads.ground.own.prefix b f.session) ((tt, (tt, tt)), (tt, (tt, tt))) h h.out
    (with_reads_fits c _ (acquire_sent_fits (next_call c) k (reads_of c) h.reads) h)

ask_sent_fits : (now : ℕ) (a : Asked) (c : Core) → AskFits a → CoreFits c → SendsFit (ask_sent now a c)
ask_sent_fits now a c k h =
    goes now (job.Ask _) a.ticket _ c (record c { asks = map (called_as (next_call c) a.ticket) c.asks }) tt k.ticket (numbered_fits a.word a.request k.request) (ask_narrow _ (numbered_flat a.word a.request k.flat)) h h.out
    (with_asks_fits c _ (all_map AskFits AskFits (called_as (next_call c) a.ticket) (λ b t. either AskFits (has_ask_ticket a.ticket b) _ b (at_stage b _ t) t) c.asks h.reads.asks) h)

keeps_sent_fits : (now lease ticket : ℕ) (c : Core) → Number lease → Number ticket → CoreFits c → SendsFit (keeps_sent now lease ticket c)
keeps_sent_fits now lease ticket c l t h =
    goes now (job.Group lease) ticket (request.KeepAlive lease) c (record c { asks = map (group_sent (next_call c) lease) c.asks }) tt t l tt h h.out
    (with_asks_fits c _ (all_map AskFits AskFits (group_sent (next_call c) lease) (λ b t. either AskFits (keeps lease b.request && is_due_stage b.stage) _ b (at_stage b _ t) t) c.asks h.reads.asks) h)

opened_fits : (o : Opening) (c : Core) → OpeningFits o → CoreFits c → SendsFit (stream_opened o c)
opened_fits o c f h = record {
  core = record { settings = h.settings; members = h.members; seat = h.seat; leasing = record { range = f.range; next = f.next }; reads = record { ground = record { own = h.reads.ground.own; acquires = h.reads.ground.acquires }; asks = h.reads.asks }; out = h.out; watches = h.watches };
  sent = (current_fits c h, request_under_fits c.settings.namespace (request.Watch (record { range = o.stream.range; start = o.stream.next; no_put = false; no_delete = false; prev_kv = false; progress = false })) h.settings.namespace (f.range, f.next));
}

abbrev StreamJobFits : StreamJob → Type 0
StreamJobFits (stream.Close number) = Unit {0}
StreamJobFits (stream.Open number range start) = RangeFits range × Number start

stream_job_fits : (o : Option StreamJob) (c : Core) → If StreamJobFits o → CoreFits c → SendsFit (stream_job o c)
stream_job_fits None c f h = record { core = h; sent = tt }
stream_job_fits (Some (stream.Close number)) c f h = record { core = h; sent = tt }
stream_job_fits (Some (stream.Open number range start)) c f h = record {
  core = h;
  sent = (current_fits c h, request_under_fits c.settings.namespace (request.Watch (record { range = range; start = start; no_put = false; no_delete = false; prev_kv = true; progress = true })) h.settings.namespace f);
}

sent_job : (b : Broadcasts) (s : Stream) (p : StreamPhase) → StreamFits s → If StreamJobFits (sent b s p).1
sent_job b s (phase.Closing since) f = tt
sent_job b s (phase.Due since) f = (f.range, f.next)
sent_job b s phase.Begun f = tt

stream_sent_fits : (s : Stream) (c : Core) → StreamFits s → CoreFits c → SendsFit (stream_sent s c)
stream_sent_fits s c f h =
    let x = next_job c.watches (Some s) in
    let n = stream_job_fits x.1 (with_watches c x.0) (sent_job c.watches s s.phase f) (with_watches_fits c x.0 (sent_fits c.watches s s.phase h.watches) h) in
    record { core = n.core; sent = n.sent }

pub work_fits : (now : ℕ) (o : Option DueJob) (c : Core) → If DueFits o → CoreFits c → SendsFit (sent_by now o c)
work_fits now None c d h = record { core = h; sent = tt }
work_fits now (Some (ForSession s)) c d h =
    goes now (session_out s.number s.standing) 0 (session_request c.settings.ttl s s.standing) c (record c { seat = Some (seat_sent (next_call c) s) }) (session_job_fits s.number s.standing) zero_number
    (session_fits c.settings.ttl s s.standing h.settings.ttl d) (session_narrow c.settings.ttl s s.standing) h h.out
    (record { settings = h.settings; members = h.members; seat = d; leasing = h.leasing; reads = record { ground = record { own = h.reads.ground.own; acquires = h.reads.ground.acquires }; asks = h.reads.asks }; out = h.out; watches = h.watches })
work_fits now (Some ForWrites) c d h = writes_sent_fits now (job_sent (next_call c) c.own) c (job_sent_fits (next_call c) c.own h.reads.ground.own) h
work_fits now (Some (ForAcquire k x)) c d h = acquires_sent_fits now k x c d.0 d.1 h
work_fits now (Some (ForAsk a)) c d h = ask_sent_fits now a c d h
work_fits now (Some (ForGroup lease ticket)) c d h = keeps_sent_fits now lease ticket c d.0 d.1 h
work_fits now (Some (ToOpen o)) c d h = opened_fits o c d h
work_fits now (Some (ForStream s)) c d h = stream_sent_fits s c d h
