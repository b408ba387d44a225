-- What is due has its keys; so the first due job is sent with keys, under the namespace, and what stands then stays named.
use Rattle.std.proofs.Common.{◌≡◌, ℕ, Bool, true, false, not, ◌&&◌, List, [], ◌∷◌, ◌++◌, Option, None, Some, is_some, Result, Ok, refl, ap, ◌∙◌}
use Rattle.std.specs.List.{list_all, flat_map}
use Rattle.etcd_types.specs.Keys.{is_empty}
use Rattle.etcd_types.specs.declared.request.Request.{Request}
use Rattle.etcd_types.specs.declared.request.Request.TheVariants as request
use Rattle.etcd_types.proofs.Bools.{and_first, and_second, not_true}
use Rattle.proxy_model.specs.declared.lease.Entry.{Entry}
use Rattle.proxy_model.specs.declared.session.Standing.{Standing}
use Rattle.proxy_model.specs.Acquire.{acquire}
use Rattle.proxy_model.specs.Keyed.{Keyed}
use Rattle.proxy_model.specs.Session.{Session}
use Rattle.wait_model.specs.declared.due.DueCall.{DueCall}
use Rattle.wait_model.specs.declared.due.JobKind.TheVariants.{Call}
use Rattle.wait_model.specs.declared.due.Place.{Place}
use Rattle.wait_model.specs.declared.sending.Sending.{Sending}
use Rattle.wait_model.specs.declared.sending.Sending.TheVariants as sending
use Rattle.wait_model.specs.declared.write.Write.{Write}
use Rattle.wait_model.specs.DueOrder.{place_at, is_earlier, first_call, first_place, first_rescind}
use Rattle.wait_model.specs.Phases.{is_rescind_due}
use Rattle.wait_model.specs.Sent.{JobSent, is_revoke, stage_revoking, stage_sent, compared, rescind_job, revoke_job, write_job, call_of, call_sent, job_sent_after, job_sent}
use Rattle.wait_model.specs.State.{Ownership}
use Rattle.wait_model.specs.Writes.{first_by, has_ticket}
use Rattle.watch_model.specs.declared.stream.StreamJob.{StreamJob}
use Rattle.watch_model.specs.declared.stream.StreamJob.TheVariants as stream
use Rattle.watch_model.specs.declared.stream.StreamPhase.{StreamPhase}
use Rattle.watch_model.specs.declared.stream.StreamPhase.TheVariants as phase
use Rattle.watch_model.specs.Due.{next_job}
use Rattle.watch_model.specs.State.{Stream}
use Rattle.read_model.specs.declared.acquire.Acquire.{Acquire}
use Rattle.read_model.specs.declared.asked.Asked.{Asked}
use Rattle.read_model.specs.declared.asked.Stage.{Stage}
use Rattle.read_model.specs.declared.asked.Stage.TheVariants as stage
use Rattle.core_model.specs.declared.event.Outcome.{Outcome}
use Rattle.core_model.specs.declared.event.Outcome.TheVariants as outcome
use Rattle.core_model.specs.declared.event.StepFault.{StepFault}
use Rattle.core_model.specs.declared.out_call.OutJob.{OutJob}
use Rattle.core_model.specs.DueJobs.{DueJob, ForSession, ForWrites, ForAcquire, ForAsk, ForGroup, ToOpen, ForStream, Placed, placed, if_due, due_writes, due_acquire, due_ask, due_stage, due_at, due_opening, due_phase, due_stream, due_jobs, earlier, earliest, job_of, session_job_of, session_job, rescind_or, or_else, first_job}
use Rattle.core_model.specs.Groups.{keeps, is_due_stage, group_sent}
use Rattle.core_model.specs.Lookups.{reads_of, has_ticket as has_ask_ticket}
use Rattle.core_model.specs.Sending.{next_call, goes_out, seat_sent, writes_sent, acquires_sent, called_as, ask_sent, keeps_sent, stream_opened, sent_by}
use Rattle.core_model.specs.Sessions.{session_request}
use Rattle.core_model.specs.State.{Seat, Opening, Core}
use Rattle.core_model.specs.Stepped.{Stepped}
use Rattle.core_model.specs.Watching.{stream_job, stream_sent, with_watches}
use Rattle.core_laws.proofs.Steps.Lists.{all_mapped}
use Rattle.namespace_laws.specs.Stored.Laws.{request_lacks}
use Rattle.namespace_laws.specs.Images.Named.{is_leasing, has_keys, entry_named, acquire_named, ask_named, OwnNamed, CoreNamed, JobUnder}
use Rattle.namespace_laws.proofs.Images.Bare.{acquire_bare, rescind_bare, revoke_bare, guarded_bare, numbered_bare}
use Rattle.namespace_laws.proofs.Images.CoreNaming.{still, with_reads_named, with_own_named, with_asks_named}
use Rattle.namespace_laws.proofs.Images.OwnNaming.{either, leased_own, leased_by, WriteIf, first_named, with_first_named}
use Rattle.namespace_laws.proofs.Images.ReadNaming.{AcquiresNamed, AsksNamed, acquire_sent_named}

-- What is due.

abbrev DueNamed : List ℕ → DueJob → Type 0
DueNamed p (ForSession s) = Unit {0}
DueNamed p ForWrites = Unit {0}
DueNamed p (ForAcquire k x) = is_leasing p && not (is_empty k) ≡ true
DueNamed p (ForAsk a) = ask_named a ≡ true
DueNamed p (ForGroup lease ticket) = Unit {0}
DueNamed p (ToOpen o) = is_leasing p ≡ true
DueNamed p (ForStream s) = Unit {0}

abbrev DueIf : List ℕ → Option DueJob → Type 0
DueIf p None = Unit {0}
DueIf p (Some j) = DueNamed p j

abbrev AllDue : List ℕ → List Placed → Type 0
AllDue p [] = Unit {0}
AllDue p (x ∷ xs) = DueNamed p x.job × AllDue p xs

all_appended : (p : List ℕ) (xs ys : List Placed) → AllDue p xs → AllDue p ys → AllDue p (xs ++ ys)
all_appended p [] ys h k = k
all_appended p (x ∷ xs) ys h k = (h.0, all_appended p xs ys h.1 k)

writes_due : (p : List ℕ) (o : Option Place) → AllDue p (due_writes o)
writes_due p None = tt
writes_due p (Some x) = (tt, tt)

if_due_for : (p : List ℕ) (s : Sending) (f : ℕ → Placed) → ((since : ℕ) → DueNamed p (f since).job) → AllDue p (if_due s f)
if_due_for p (sending.Due since) f h = (h since, tt)
if_due_for p (sending.Out call) f h = tt

acquires_due : (p : List ℕ) (xs : Keyed Acquire) → AcquiresNamed p xs → AllDue p (flat_map due_acquire xs)
acquires_due p [] h = tt
acquires_due p (x ∷ xs) h =
    all_appended p (due_acquire x) (flat_map due_acquire xs)
    (if_due_for p x.1.sending (λ since. placed (place_at since Call x.1.ticket) (ForAcquire x.0 x.1)) (λ since. and_first (acquire_named p x) (list_all (acquire_named p) xs) h))
    (acquires_due p xs (and_second (acquire_named p x) (list_all (acquire_named p) xs) h))

opening_due : (p : List ℕ) (o : Option Opening) → (is_some o ≡ true → is_leasing p ≡ true) → AllDue p (due_opening o)
opening_due p None h = tt
opening_due p (Some o) h = by_since o.due
  where
    by_since : (s : Option ℕ) → AllDue p (due_at o s)
    by_since None = tt
    by_since (Some since) = (h refl, tt)

streams_due : (p : List ℕ) (ss : List Stream) → AllDue p (flat_map due_stream ss)
streams_due p [] = tt
streams_due p (s ∷ ss) = all_appended p (due_stream s) (flat_map due_stream ss) (by_phase s.phase) (streams_due p ss)
  where
    by_phase : (x : StreamPhase) → AllDue p (due_phase s x)
    by_phase (phase.Due since) = (tt, tt)
    by_phase (phase.Closing since) = (tt, tt)
    by_phase phase.Begun = tt

ask_due : (p : List ℕ) (a : Asked) (s : Stage) → ask_named a ≡ true → AllDue p (due_stage a s)
ask_due p a (stage.Calling (sending.Due since)) h = (h, tt)
ask_due p a (stage.Calling (sending.Out call)) h = tt
ask_due p a stage.Acquiring h = tt
ask_due p a stage.Joined h = tt
ask_due p a stage.Behind h = tt
ask_due p a stage.Writes h = tt
ask_due p a (stage.Grouped None) h = tt
ask_due p a (stage.Grouped (Some (sending.Due since))) h = (tt, tt)
ask_due p a (stage.Grouped (Some (sending.Out call))) h = tt
ask_due p a (stage.Replied v) h = tt

asks_due : (p : List ℕ) (xs : List Asked) → AsksNamed xs → AllDue p (flat_map due_ask xs)
asks_due p [] h = tt
asks_due p (a ∷ xs) h =
    all_appended p (due_ask a) (flat_map due_ask xs) (ask_due p a a.stage (and_first (ask_named a) (list_all ask_named xs) h)) (asks_due p xs (and_second (ask_named a) (list_all ask_named xs) h))

all_due : (p : List ℕ) (c : Core) → CoreNamed p c → AllDue p (due_jobs c)
all_due p c h =
    let writes = due_writes (first_place c.own.waits.writes) in
    let acquires = flat_map due_acquire c.acquires in
    let asks = flat_map due_ask c.asks in
    all_appended p (writes ++ acquires ++ asks ++ due_opening c.leasing) (flat_map due_stream c.watches.streams)
    (all_appended p (writes ++ acquires ++ asks) (due_opening c.leasing)
    (all_appended p (writes ++ acquires) asks (all_appended p writes acquires (writes_due p (first_place c.own.waits.writes)) (acquires_due p c.acquires h.reads.ground.acquires)) (asks_due p c.asks h.reads.asks))
    (opening_due p c.leasing h.leasing))
    (streams_due p c.watches.streams)

abbrev PlacedIf : List ℕ → Option Placed → Type 0
PlacedIf p None = Unit {0}
PlacedIf p (Some x) = DueNamed p x.job

earliest_due : (p : List ℕ) (o : Option Placed) (xs : List Placed) → PlacedIf p o → AllDue p xs → PlacedIf p (earliest o xs)
earliest_due p o [] h k = h
earliest_due p o (x ∷ xs) h k = earliest_due p (Some (earlier o x)) xs (chosen o h) k.1
  where
    chosen : (o : Option Placed) → PlacedIf p o → DueNamed p (earlier o x).job
    chosen None t = k.0
    chosen (Some y) t = either (λ (z : Placed). DueNamed p z.job) (is_earlier x.place y.place) x y k.0 t

job_due : (p : List ℕ) (o : Option Placed) → PlacedIf p o → DueIf p (job_of o)
job_due p None h = tt
job_due p (Some x) h = h

rescind_due : (p : List ℕ) (b : Bool) (o : Option DueJob) → DueIf p o → DueIf p (rescind_or b o)
rescind_due p true o h = tt
rescind_due p false o h = h

pub first_due : (p : List ℕ) (c : Core) → CoreNamed p c → DueIf p (first_job c)
first_due p c h = by_session (session_job c.seat) (session_due c.seat)
  where
    others : DueIf p (rescind_or (is_some (first_rescind c.own.entries)) (job_of (earliest None (due_jobs c))))
    others = rescind_due p (is_some (first_rescind c.own.entries)) (job_of (earliest None (due_jobs c))) (job_due p (earliest None (due_jobs c)) (earliest_due p None (due_jobs c) tt (all_due p c h)))

    session_due : (s : Option Seat) → DueIf p (session_job s)
    session_due None = tt
    session_due (Some s) = by_call s.call
      where
        by_call : (o : Option Sending) → DueIf p (session_job_of s.session o)
        by_call None = tt
        by_call (Some (sending.Due since)) = tt
        by_call (Some (sending.Out call)) = tt

    by_session : (o : Option DueJob) → DueIf p o → DueIf p (or_else o (rescind_or (is_some (first_rescind c.own.entries)) (job_of (earliest None (due_jobs c)))))
    by_session None t = others
    by_session (Some j) t = t

-- What is sent.

abbrev pub OutcomeUnder : List ℕ → Result Outcome StepFault → Type 0
OutcomeUnder ns (Ok (outcome.Job (Some j))) = JobUnder ns j
OutcomeUnder ns _ = Unit {0}

-- the core stays named, and what is sent goes out under the namespace
pub record Sends (p : List ℕ) (c : Core) (s : Stepped) : Type 0 where
  pub named : CoreNamed p s.core
  pub under : OutcomeUnder c.settings.namespace s.outcome

goes : (p : List ℕ) (now : ℕ) (j : OutJob) (ticket : ℕ) (q : Request) (c d : Core) → request_lacks q ≡ false → CoreNamed p d → Sends p c (goes_out now j ticket q c d)
goes p now j ticket q c d e h = record { named = still p d _ refl refl h; under = record { bare = q; under = refl; keys = e } }

session_bare : (ttl : ℕ) (s : Session) (o : Option Standing) → request_lacks (session_request ttl s o) ≡ false
session_bare ttl s None = refl
session_bare ttl s (Some x) = refl

-- a job of the writes or of an entry

record JobNamed (p : List ℕ) (x : JobSent) : Type 0 where
  own : OwnNamed p x.own
  keys : request_lacks x.due.request ≡ false

abbrev JobIf : List ℕ → Option JobSent → Type 0
JobIf p None = Unit {0}
JobIf p (Some x) = JobNamed p x

abbrev EntryIf : List ℕ → Option (List ℕ × Entry) → Type 0
EntryIf p None = Unit {0}
EntryIf p (Some e) = is_leasing p ≡ true

rescind_leased : (p : List ℕ) (es : Keyed Entry) → list_all (entry_named p) es ≡ true → EntryIf p (first_rescind es)
rescind_leased p [] h = tt
rescind_leased p (e ∷ es) h =
    either (EntryIf p) (is_rescind_due e.1) (Some e) (first_rescind es) (and_first (is_leasing p) (list_all (entry_named p) es) h) (rescind_leased p es (and_second (is_leasing p) (list_all (entry_named p) es) h))

on_prefix : (p : List ℕ) (own : Ownership) → is_leasing p ≡ true → OwnNamed p own → is_leasing own.waits.prefix ≡ true
on_prefix p own l h = ap is_leasing h.prefix ∙ l

call_of_named : (p : List ℕ) (call : ℕ) (d : DueCall) (o : Option Write) (own : Ownership) → WriteIf p o → OwnNamed p own → JobIf p (call_of call d o own)
call_of_named p call d None own k h = tt
call_of_named p call d (Some w) own k h =
    let l = leased_by p w k in
    let m = on_prefix p own l h in
    either (JobNamed p) (is_revoke d.place.kind) (revoke_job call d w own) (write_job call d w own)
    (record {
      own = leased_own p own _ l refl (with_first_named p (has_ticket d.place.number) (stage_revoking call d.key w.stage) own.waits.writes h.writes) h;
      keys = revoke_bare own.waits.prefix d.key d.create m;
    })
    (record {
      own = leased_own p own _ l refl (with_first_named p (has_ticket d.place.number) (stage_sent call w.stage) own.waits.writes h.writes) h;
      keys = guarded_bare own.waits.prefix w.request (compared w own.entries) m (not_true (request_lacks w.request) (and_second (is_leasing p) (has_keys w.request) k));
    })

call_sent_named : (p : List ℕ) (call : ℕ) (o : Option DueCall) (own : Ownership) → OwnNamed p own → JobIf p (call_sent call o own)
call_sent_named p call None own h = tt
call_sent_named p call (Some d) own h =
    call_of_named p call d (first_by (has_ticket d.place.number) own.waits.writes) own (first_named p (has_ticket d.place.number) own.waits.writes h.writes) h

after_named : (p : List ℕ) (call : ℕ) (o : Option (List ℕ × Entry)) (own : Ownership) → EntryIf p o → OwnNamed p own → JobIf p (job_sent_after call o own)
after_named p call None own l h = call_sent_named p call (first_call own.waits.writes) own h
after_named p call (Some e) own l h =
    record { own = leased_own p own (rescind_job call e own).own l refl h.writes h; keys = rescind_bare own.waits.prefix e.0 e.1.create (on_prefix p own l h) }

job_sent_named : (p : List ℕ) (call : ℕ) (own : Ownership) → OwnNamed p own → JobIf p (job_sent call own)
unfolding job_sent
job_sent_named p call own h = after_named p call (first_rescind own.entries) own (rescind_leased p own.entries h.entries) h

writes_sent_named : (p : List ℕ) (now : ℕ) (o : Option JobSent) (c : Core) → JobIf p o → CoreNamed p c → Sends p c (writes_sent now o c)
writes_sent_named p now None c n h = record { named = h; under = tt }
writes_sent_named p now (Some x) c n h = goes p now _ x.due.ticket x.due.request c (record c { own = x.own }) n.keys (with_own_named p c x.own n.own h)

-- the others

acquires_sent_named : (p : List ℕ) (now : ℕ) (k : List ℕ) (x : Acquire) (c : Core) → is_leasing p && not (is_empty k) ≡ true → CoreNamed p c → Sends p c (acquires_sent now k x c)
acquires_sent_named p now k x c e h =
    let keys : is_leasing c.own.waits.prefix && not (is_empty k) ≡ true = ap (λ (q : List ℕ). is_leasing q && not (is_empty k)) h.reads.ground.own.prefix ∙ e in
    goes p now _ x.ticket (request.Txn (acquire c.own.waits.prefix k x.session)) c _ (acquire_bare c.own.waits.prefix k x.session keys) (with_reads_named p c _ (acquire_sent_named p (next_call c) k (reads_of c) e h.reads) h)

ask_sent_named : (p : List ℕ) (now : ℕ) (a : Asked) (c : Core) → ask_named a ≡ true → CoreNamed p c → Sends p c (ask_sent now a c)
ask_sent_named p now a c k h =
    goes p now _ a.ticket _ c _ (numbered_bare a.word a.request (not_true (request_lacks a.request) k))
    (with_asks_named p c _ (all_mapped ask_named ask_named (called_as (next_call c) a.ticket) (λ b t. either (λ (x : Asked). ask_named x ≡ true) (has_ask_ticket a.ticket b) _ b t t) c.asks h.reads.asks) h)

keeps_sent_named : (p : List ℕ) (now lease ticket : ℕ) (c : Core) → CoreNamed p c → Sends p c (keeps_sent now lease ticket c)
keeps_sent_named p now lease ticket c h =
    goes p now _ ticket (request.KeepAlive lease) c _ refl
    (with_asks_named p c _ (all_mapped ask_named ask_named (group_sent (next_call c) lease) (λ b t. either (λ (x : Asked). ask_named x ≡ true) (keeps lease b.request && is_due_stage b.stage) _ b t t) c.asks h.reads.asks) h)

opened_named : (p : List ℕ) (o : Opening) (c : Core) → is_leasing p ≡ true → CoreNamed p c → Sends p c (stream_opened o c)
opened_named p o c l h = record {
  named = record { reads = h.reads; leasing = λ t. l };
  under = record { bare = record { range = o.stream.range; start = o.stream.next; no_put = false; no_delete = false; prev_kv = false; progress = false }; under = refl };
}

stream_job_named : (p : List ℕ) (o : Option StreamJob) (c : Core) → CoreNamed p c → Sends p c (stream_job o c)
stream_job_named p None c h = record { named = h; under = tt }
stream_job_named p (Some (stream.Close number)) c h = record { named = h; under = tt }
stream_job_named p (Some (stream.Open number range start)) c h =
    record { named = h; under = record { bare = record { range = range; start = start; no_put = false; no_delete = false; prev_kv = true; progress = true }; under = refl } }

stream_sent_named : (p : List ℕ) (s : Stream) (c : Core) → CoreNamed p c → Sends p c (stream_sent s c)
stream_sent_named p s c h =
    let x = next_job c.watches (Some s) in
    let n = stream_job_named p x.1 (with_watches c x.0) (still p c (with_watches c x.0) refl refl h) in
    record { named = n.named; under = n.under }

pub sent_named : (p : List ℕ) (now : ℕ) (o : Option DueJob) (c : Core) → DueIf p o → CoreNamed p c → Sends p c (sent_by now o c)
sent_named p now None c d h = record { named = h; under = tt }
sent_named p now (Some (ForSession s)) c d h =
    let e = record c { seat = Some (seat_sent (next_call c) s) } in
    goes p now _ 0 (session_request c.settings.ttl s s.standing) c e (session_bare c.settings.ttl s s.standing) (still p c e refl refl h)
sent_named p now (Some ForWrites) c d h = writes_sent_named p now (job_sent (next_call c) c.own) c (job_sent_named p (next_call c) c.own h.reads.ground.own) h
sent_named p now (Some (ForAcquire k x)) c d h = acquires_sent_named p now k x c d h
sent_named p now (Some (ForAsk a)) c d h = ask_sent_named p now a c d h
sent_named p now (Some (ForGroup lease ticket)) c d h = keeps_sent_named p now lease ticket c h
sent_named p now (Some (ToOpen o)) c d h = opened_named p o c d h
sent_named p now (Some (ForStream s)) c d h = stream_sent_named p s c h
