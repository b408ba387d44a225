-- What is known of each write that a proxy was asked, by the stage of its request: while a call of its own is out, that this call alone may have
-- done it; where one is due, and where it is refused by an answer, that none did. Each event but the sending of a job keeps it.
use Rattle.std.proofs.Common.{◌≡◌, ℕ, ◌==◌, Bool, true, false, not, cond, ◌&&◌, ◌||◌, List, [], ◌∷◌, ◌++◌, map, Option, None, Some, Ok, Err, refl, sym, ◌∙◌, ap, subst}
use Rattle.etcd_types.specs.declared.answer.Answer.{Answer}
use Rattle.etcd_types.specs.declared.answer.Answer.TheVariants.{Done, Refused}
use Rattle.etcd_types.specs.declared.answer.Body.{Body}
use Rattle.etcd_types.specs.declared.answer.Body.TheVariants as body
use Rattle.etcd_types.specs.declared.answer.Refusal.{Refusal}
use Rattle.etcd_types.specs.declared.answer.Reply.{Reply}
use Rattle.etcd_types.specs.declared.code.TheConstants.{NOT_FOUND}
use Rattle.etcd_types.specs.declared.record.Header.{Header}
use Rattle.etcd_types.specs.declared.request.Request.{Request}
use Rattle.etcd_types.specs.declared.request.Request.TheVariants as request
use Rattle.etcd_types.specs.declared.watch.WatchItem.{WatchItem}
use Rattle.etcd_types.specs.declared.watch.WatchItem.TheVariants as item
use Rattle.proxy_model.specs.declared.ownership.Claim.{Claim}
use Rattle.proxy_model.specs.declared.ownership.Claim.TheVariants.{Acquired, OwnedBy}
use Rattle.proxy_model.specs.Acquire.{claimed}
use Rattle.proxy_model.specs.Keyed.{at}
use Rattle.proxy_model.specs.Unwrapped.{Unwrapped, item_without}
use Rattle.wait_model.specs.Asked.{new_write}
use Rattle.wait_model.specs.GuardedAnswers.{Ending}
use Rattle.wait_model.specs.LeasingStream.{resynced}
use Rattle.wait_model.specs.Phases.{is_session}
use Rattle.wait_model.specs.State.{Ownership}
use Rattle.read_model.specs.declared.acquire.Acquire.{Acquire}
use Rattle.read_model.specs.declared.asked.Asked.{Asked}
use Rattle.read_model.specs.declared.asked.Stage.{Stage}
use Rattle.read_model.specs.declared.asked.Stage.TheVariants as stage
use Rattle.read_model.specs.Acquires.{read_asked, AfterAcquire, acquire_gone, acquire_done, done_by, acquire_refused, answered_acquire, is_to_be_held, acquire_answered}
use Rattle.read_model.specs.PlainRead.{decided_ground, decided_ask}
use Rattle.read_model.specs.Release.{ask_stands, released_ground, released_from, released}
use Rattle.read_model.specs.SessionEnd.{session_over}
use Rattle.read_model.specs.State.{Reads, Moment, Ground, ground_of, on}
use Rattle.read_model.specs.TakingOff.{is_writes, forgotten_all, taken_off}
use Rattle.read_model.specs.WriteAnswers.{answered_by, wait_answered}
use Rattle.watch_model.specs.Lookups.{stream_at, watch_at, is_begun}
use Rattle.watch_model.specs.State.{Stream, Watch, Broadcasts}
use Rattle.watch_model.specs.Takes as watches
use Rattle.core_model.specs.declared.out_call.CallKind.{CallKind}
use Rattle.core_model.specs.declared.out_call.CallKind.TheVariants as kind
use Rattle.core_model.specs.declared.out_call.OutCall.{OutCall}
use Rattle.core_model.specs.declared.out_call.OutJob.{OutJob}
use Rattle.core_model.specs.declared.out_call.OutJob.TheVariants as job
use Rattle.core_model.specs.Asking.{asked_at, is_leased_read, read_by, read_is_asked, held_body, if_live, with_ask, call_stage, call_is_asked, write_is_asked, answered_or_called, leased_ask, taken_in, request_asked, refused_or_taken, on_ask}
use Rattle.core_model.specs.ClockWork.{begun, clock_work, times_out, timed_out_ask, writes_go_on, requests_timed_out}
use Rattle.core_model.specs.Ends.{with_caller, member_failed, stale_once, said, is_stale_reply, ask_done, ask_answered, lost_job, lost_call, acquire_if, reads_if, answered_job, or_lost, heard_call, answered_call, call_gone, answer_of, on_answer, loss_of, on_lost}
use Rattle.core_model.specs.Ends.{is_keepalive as answers_keepalive}
use Rattle.core_model.specs.Heard.{heard, header_taken}
use Rattle.core_model.specs.LeasingStream.{leasing_ticked, leasing_cut, leasing_created, is_readable, leasing_message, message_if_sent, item_header, leasing_item}
use Rattle.core_model.specs.LeasingStream as leasing
use Rattle.core_model.specs.Lookups.{leases, is_known, moment, live_number, reads_of, with_reads, has_ticket, without_ask, ask_at, out_at}
use Rattle.core_model.specs.Refusals.{refusal_of}
use Rattle.core_model.specs.Sessions.{without_session, seat_is_over, deadline_passed, seat_ticked, seat_calls, granted_by, grant_failed, keep_failed, kept, kept_by}
use Rattle.core_model.specs.State.{Opening, Core}
use Rattle.core_model.specs.Step.{ticked, on_tick, opening_at, client_item, item_of, on_item, client_cut, cut_of, on_cut}
use Rattle.core_model.specs.Stepped.{Stepped}
use Rattle.core_model.specs.Takes.{has_left, item_taken, taken, on_take, watcher_left, left, on_leave}
use Rattle.core_model.specs.Takes as takes
use Rattle.core_model.specs.Watching.{stream_message, stream_item, taken_item}
use Rattle.core_model.specs.Watching as watching
use Rattle.core_laws.proofs.Steps.Comes.{by_test}
use Rattle.core_fits.proofs.Eachs.{each_pushed}
use Rattle.core_fits.proofs.ReadRows.{decided_writes}
use Rattle.std.specs.Prelude.{is_some, nat_le}
use Rattle.std.specs.List.{list_any}
use Rattle.etcd_types.proofs.Bools.{and_first, and_second}
use Rattle.proxy_model.specs.declared.ownership.Written.TheVariants.{Wrote, Blocked}
use Rattle.proxy_model.specs.Keyed.{with_at}
use Rattle.proxy_model.specs.Limits.{capped}
use Rattle.proxy_model.specs.SeveralKeys.{written_ranges}
use Rattle.wait_model.specs.declared.sending.Sending.{Sending}
use Rattle.wait_model.specs.declared.sending.Sending.TheVariants as sending
use Rattle.wait_model.specs.declared.wait.Settled.{Settled}
use Rattle.wait_model.specs.declared.wait.Settled.TheVariants as settled
use Rattle.wait_model.specs.declared.write.Write.{Write}
use Rattle.wait_model.specs.Endings as endings
use Rattle.wait_model.specs.Endings.{answered, forgotten, lost}
use Rattle.wait_model.specs.Writes.{first_by}
use Rattle.read_model.specs.declared.asked.Verdict.{Verdict}
use Rattle.read_model.specs.declared.asked.Verdict.TheVariants as verdict
use Rattle.read_model.specs.Acquires.{is_acquiring, acquires_at, told, told_lost, lost_once, acquire_lost}
use Rattle.read_model.specs.PlainRead.{in_stage, called, shown}
use Rattle.read_model.specs.Release.{stands, released_ask}
use Rattle.read_model.specs.WriteAnswers.{settled_ask, ending, wait_lost}
use Rattle.core_model.specs.Asking.{is_plain_request}
use Rattle.core_model.specs.ClockWork.{is_replied}
use Rattle.core_model.specs.Ends.{stales_limit, lost_ask}
use Rattle.core_model.specs.Groups.{keeps, is_out_stage, waits_next, group_ended}
use Rattle.core_model.specs.Kinds.{kind_of, is_read, is_ordered, is_body_of, writes_keys}
use Rattle.core_model.specs.Lookups.{stage_calls, calls_as}
use Rattle.core_laws.proofs.Steps.Lists.{same_number}
use Rattle.core_fits.specs.Fits.{EachOf, is_reading}
use Rattle.keep_laws.proofs.Rows.{All, all_mapped, all_kept, all_filtered, all_pushed}
use Rattle.once_laws.proofs.FreeWrites.{AreFree, OwnFree, SettledFree, EndFree, Settles, passed_free, answered_free, lost_free, forgotten_free, ended_free, gone_free, message_free}

-- ---- a write among requests

-- its answer shows no records that must not be old, and it isn't asked twice
write_kind : (q : Request) → writes_keys q ≡ true → (is_read (kind_of q) ≡ false) × (is_ordered (kind_of q) ≡ false)
write_kind (request.Put ask) w = (refl, refl)
write_kind (request.Delete ask) w = (refl, refl)
write_kind (request.Txn t) w = (ap (λ (b : Bool). is_read (cond b kind.WriteTxn kind.ReadTxn)) w, ap (λ (b : Bool). is_ordered (cond b kind.WriteTxn kind.ReadTxn)) w)
write_kind (request.Range ask) w = absurd (cc)
write_kind (request.Compact revision physical) w = absurd (cc)
write_kind (request.Grant ttl lease) w = absurd (cc)
write_kind (request.Revoke lease) w = absurd (cc)
write_kind (request.KeepAlive lease) w = absurd (cc)
write_kind (request.TimeToLive lease keys) w = absurd (cc)
write_kind request.Leases w = absurd (cc)
write_kind (request.Watch ask) w = absurd (cc)

read_writes_none : (q : Request) → is_plain_request q ≡ true → writes_keys q ≡ true → ⊥
read_writes_none (request.Range ask) p w = absurd (cc)
read_writes_none (request.Put ask) p w = absurd (cc)
read_writes_none (request.Delete ask) p w = absurd (cc)
read_writes_none (request.Txn t) p w = absurd (cc)
read_writes_none (request.Compact revision physical) p w = absurd (cc)
read_writes_none (request.Grant ttl lease) p w = absurd (cc)
read_writes_none (request.Revoke lease) p w = absurd (cc)
read_writes_none (request.KeepAlive lease) p w = absurd (cc)
read_writes_none (request.TimeToLive lease keys) p w = absurd (cc)
read_writes_none request.Leases p w = absurd (cc)
read_writes_none (request.Watch ask) p w = absurd (cc)

call_due : (q : Request) (c : Core) → writes_keys q ≡ true → call_stage q c ≡ called c.own.waits.step
call_due (request.Put ask) c w = refl
call_due (request.Delete ask) c w = refl
call_due (request.Txn t) c w = refl
call_due (request.Range ask) c w = refl
call_due (request.Compact revision physical) c w = refl
call_due (request.Grant ttl lease) c w = refl
call_due (request.Revoke lease) c w = refl
call_due (request.KeepAlive lease) c w = absurd (cc)
call_due (request.TimeToLive lease keys) c w = refl
call_due request.Leases c w = refl
call_due (request.Watch ask) c w = refl

unmet : (ticket : ℕ) (e : Option Rattle.proxy_model.specs.declared.lease.Entry.Entry) (x : Option Acquire) (s : Stage) → stands ticket e x s ≡ false → is_reading s ≡ true
unmet ticket e x stage.Acquiring h = refl
unmet ticket e x stage.Joined h = refl
unmet ticket e x stage.Behind h = refl
unmet ticket e x (stage.Calling s) h = absurd (cc)
unmet ticket e x stage.Writes h = absurd (cc)
unmet ticket e x (stage.Grouped s) h = absurd (cc)
unmet ticket e x (stage.Replied v) h = absurd (cc)

acquiring_reads : (s : Stage) → is_acquiring s ≡ true → is_reading s ≡ true
acquiring_reads stage.Acquiring h = refl
acquiring_reads stage.Joined h = absurd (cc)
acquiring_reads stage.Behind h = absurd (cc)
acquiring_reads (stage.Calling s) h = absurd (cc)
acquiring_reads stage.Writes h = absurd (cc)
acquiring_reads (stage.Grouped s) h = absurd (cc)
acquiring_reads (stage.Replied v) h = absurd (cc)

-- the requests whose own call this is are of the kind that it was sent for
abbrev pub AreOfKind : ℕ → CallKind → List Asked → Type 0
AreOfKind call k xs = All (λ x. calls_as call x ≡ true → kind_of x.request ≡ k) xs

-- where a fact of each is at hand
mapped_by : (P R : Asked → Type 0) (f : Asked → Asked) → ((x : Asked) → R x → P x → P (f x)) → (xs : List Asked) → All R xs → All P xs → All P (map f xs)
mapped_by P R f h [] r t = tt
mapped_by P R f h (x ∷ xs) r t = (h x r.0 t.0, mapped_by P R f h xs r.1 t.1)

pub no_kind : {A : Type 0} (b : Bool) → b ≡ true → b ≡ false → A
no_kind b t f = absurd (let e : true ≡ false = sym t ∙ f in cc)

-- ---- what is known lasts

-- by the ticket, that no call did it, or that one did; by the ticket and a call's number, that this call alone may have; and whether leasing is off, or on
module _ (N D : ℕ → Type 0) (A W : ℕ → ℕ → Type 0) (Off On : Type 0) where
  abbrev pub AtStage : ℕ → Stage → Type 0
  AtStage t (stage.Calling (sending.Due since)) = Off × N t
  AtStage t (stage.Calling (sending.Out call)) = Off × A t call
  AtStage t stage.Acquiring = ⊥
  AtStage t stage.Joined = ⊥
  AtStage t stage.Behind = ⊥
  AtStage t stage.Writes = On
  AtStage t (stage.Grouped s) = ⊥
  AtStage t (stage.Replied (verdict.Said (Done reply))) = D t
  AtStage t (stage.Replied (verdict.Said (Refused r))) = N t
  AtStage t (stage.Replied verdict.TimedOut) = Unit {0}
  AtStage t (stage.Replied verdict.Lost) = Unit {0}
  AtStage t (stage.Replied verdict.Stale) = ⊥

  abbrev pub AskFree : Asked → Type 0
  AskFree a = writes_keys a.request ≡ true → AtStage a.ticket a.stage

  abbrev ReadsFree : Reads → Type 0
  ReadsFree r = All AskFree r.asks × OwnFree N D W r.own

  abbrev pub CoreFree : Core → Type 0
  CoreFree c = All AskFree c.asks × OwnFree N D W c.own

  abbrev pub StepFree : Stepped → Type 0
  StepFree s = CoreFree s.core

  reading_none : {B : Type 0} (t : ℕ) (s : Stage) → is_reading s ≡ true → AtStage t s → B
  reading_none t stage.Acquiring e h = absurd h
  reading_none t stage.Joined e h = absurd h
  reading_none t stage.Behind e h = absurd h
  reading_none t (stage.Calling s) e h = absurd (cc)
  reading_none t stage.Writes e h = absurd (cc)
  reading_none t (stage.Grouped s) e h = absurd (cc)
  reading_none t (stage.Replied v) e h = absurd (cc)

  -- a read that goes on is no write
  reads_on : (x y : Asked) → is_reading x.stage ≡ true → y.request ≡ x.request → AskFree x → AskFree y
  reads_on x y e q h w = reading_none x.ticket x.stage e (h (ap writes_keys (sym q) ∙ w))

  grouped_none : {B : Type 0} (t : ℕ) (s : Stage) → (call : ℕ) → is_out_stage call s ≡ true → AtStage t s → B
  grouped_none t (stage.Grouped s) call e h = absurd h
  grouped_none t stage.Acquiring call e h = absurd (cc)
  grouped_none t stage.Joined call e h = absurd (cc)
  grouped_none t stage.Behind call e h = absurd (cc)
  grouped_none t (stage.Calling s) call e h = absurd (cc)
  grouped_none t stage.Writes call e h = absurd (cc)
  grouped_none t (stage.Replied v) call e h = absurd (cc)

  waiting_none : {B : Type 0} (t : ℕ) (s : Stage) → waits_next s ≡ true → AtStage t s → B
  waiting_none t (stage.Grouped s) e h = absurd h
  waiting_none t stage.Acquiring e h = absurd (cc)
  waiting_none t stage.Joined e h = absurd (cc)
  waiting_none t stage.Behind e h = absurd (cc)
  waiting_none t (stage.Calling s) e h = absurd (cc)
  waiting_none t stage.Writes e h = absurd (cc)
  waiting_none t (stage.Replied v) e h = absurd (cc)

  called_at : (t call : ℕ) (s : Stage) → stage_calls call s ≡ true → AtStage t s → A t call
  called_at t call (stage.Calling (sending.Due since)) e h = absurd (cc)
  called_at t call (stage.Calling (sending.Out n)) e h = subst (A t) (same_number n call e) h.1
  called_at t call stage.Acquiring e h = absurd (cc)
  called_at t call stage.Joined e h = absurd (cc)
  called_at t call stage.Behind e h = absurd (cc)
  called_at t call stage.Writes e h = absurd (cc)
  called_at t call (stage.Grouped s) e h = absurd (cc)
  called_at t call (stage.Replied v) e h = absurd (cc)

  either : (b : Bool) (x y : Core) → CoreFree x → CoreFree y → CoreFree (cond b x y)
  either b x y h i = by_test CoreFree b x y (λ t. h) (λ t. i)

  pub go_on : (c : Core) → CoreFree c → CoreFree (writes_go_on c)
  go_on c h = (h.0, passed_free N D W c.own.waits.step [] c.own.entries c.own.waits.spoiled c.own.waits.writes h.1)

  -- releases

  released_one : (again : Bool) (m : Moment) (g : Ground) (x : Asked) → AskFree x → AskFree (released_ask again m g x)
  released_one again m g x h =
      by_test AskFree (ask_stands g x) x (cond again (decided_ask m g x) (in_stage (called g.own.waits.step) x)) (λ e. h)
      (λ e. by_test AskFree again (decided_ask m g x) (in_stage (called g.own.waits.step) x) (λ f. reads_on x (decided_ask m g x) (unmet x.ticket _ _ x.stage e) refl h) (λ f. reads_on x (in_stage (called g.own.waits.step) x) (unmet x.ticket _ _ x.stage e) refl h))

  released_writes : (again : Bool) (m : Moment) (g : Ground) (x : Asked) → (released_ground again m g x).own.waits.writes ≡ g.own.waits.writes
  released_writes again m g x = by_test (λ (h : Ground). h.own.waits.writes ≡ g.own.waits.writes) (ask_stands g x || not again) g (decided_ground m g x) (λ t. refl) (λ t. decided_writes m g x)

  released_all : (again : Bool) (m : Moment) (g : Ground) (xs : List Asked) → All AskFree xs → OwnFree N D W g.own → All AskFree (released_from again m g xs).asks × OwnFree N D W (released_from again m g xs).ground.own
  unfolding released_from
  released_all again m g [] t h = (tt, h)
  released_all again m g (x ∷ xs) t h =
      let rest = released_all again m (released_ground again m g x) xs t.1 (subst (AreFree N D W) (sym (released_writes again m g x)) h) in
      ((released_one again m g x t.0, rest.0), rest.1)

  over_free : (m : Moment) (r : Reads) → ReadsFree r → ReadsFree (session_over m r)
  over_free m r h = released_all false m _ r.asks h.0 (ended_free N D W r.own.waits.writes h.1)

  forgets_free : (p : Asked → Bool) (xs : List Asked) (own : Ownership) → OwnFree N D W own → OwnFree N D W (forgotten_all p xs own)
  forgets_free p [] own h = h
  forgets_free p (a ∷ rest) own h =
      forgets_free p rest (cond (p a && is_writes a.stage) (forgotten a.ticket own) own) (by_test (OwnFree N D W) (p a && is_writes a.stage) (forgotten a.ticket own) own (λ t. forgotten_free N D W a.ticket own h) (λ t. h))

  taken_off_free : (m : Moment) (p : Asked → Bool) (xs : List Asked) (r : Reads) → All AskFree xs → OwnFree N D W r.own → ReadsFree (taken_off m p xs r)
  taken_off_free m p xs r t h = released_all false m _ xs t (forgets_free p r.asks r.own h)

  -- the clock's work

  ends_free : (now : ℕ) (c : Core) → CoreFree c → CoreFree (without_session now c)
  ends_free now c h = over_free (moment (record c { seat = None }) now) (reads_of (record c { seat = None })) h

  timed_free : (now : ℕ) (x : Asked) → AskFree x → AskFree (timed_out_ask now x)
  timed_free now x h = by_test AskFree (times_out now x) (in_stage (stage.Replied verdict.TimedOut) x) x (λ e w. tt) (λ e. h)

  pub clock_free : (now : ℕ) (c : Core) → CoreFree c → CoreFree (clock_work now c)
  unfolding clock_work
  clock_free now c h =
      let d = deadline_passed now (begun c) in
      let k : CoreFree d = either (seat_is_over c.seat now) (without_session now (begun c)) (begun c) (ends_free now (begun c) h) h in
      go_on (requests_timed_out now d) (taken_off_free (moment d now) (times_out now) (map (timed_out_ask now) d.asks) (reads_of d) (all_mapped AskFree AskFree (timed_out_ask now) (timed_free now) d.asks k.0) k.1)

  -- acquires

  told_free : (k : List ℕ) (s : Stage) (x : Asked) → AskFree x → AskFree (told k s x)
  told_free k s x h = by_test AskFree (acquires_at k x) (in_stage s x) x (λ e. reads_on x (in_stage s x) (acquiring_reads x.stage (and_first (is_acquiring x.stage) _ e)) refl h) (λ e. h)

  abbrev AfterFree : Option AfterAcquire → Type 0
  AfterFree None = Unit {0}
  AfterFree (Some x) = ReadsFree x.reads

  claim_free : (m : Moment) (k : List ℕ) (held : Bool) (h : Header) (c : Claim) (r : Reads) → ReadsFree r → ReadsFree (acquire_done m k held h c r)
  claim_free m k held h (Acquired create kv) r t = released_all held m _ (map (told k (shown h kv)) r.asks) (all_mapped AskFree AskFree (told k (shown h kv)) (told_free k (shown h kv)) r.asks t.0) t.1
  claim_free m k held h (OwnedBy kv owner) r t = released_all false m _ (map (told k (shown h kv)) r.asks) (all_mapped AskFree AskFree (told k (shown h kv)) (told_free k (shown h kv)) r.asks t.0) t.1

  claimed_free : (m : Moment) (k : List ℕ) (held : Bool) (h : Header) (o : Option Claim) (r : Reads) → ReadsFree r → AfterFree (done_by m k held h o r)
  claimed_free m k held h None r t = tt
  claimed_free m k held h (Some c) r t = claim_free m k held h c r t

  refused_free : (m : Moment) (k : List ℕ) (ends : Bool) (r : Reads) → ReadsFree r → ReadsFree (acquire_refused m k ends r).reads
  refused_free m k true r t = over_free m (on (acquire_gone k (ground_of r)) r.asks) t
  refused_free m k false r t = released_all false m (acquire_gone k (ground_of r)) r.asks t.0 t.1

  acquire_free : (m : Moment) (k : List ℕ) (o : Option Acquire) (a : Answer) (r : Reads) → ReadsFree r → AfterFree (answered_acquire m k o a r)
  acquire_free m k None a r t = t
  acquire_free m k (Some c) (Done reply) r t = claimed_free m k (is_to_be_held m k c r) reply.header (claimed r.own.waits.prefix k reply) r t
  acquire_free m k (Some c) (Refused x) r t = refused_free m k (is_session m.session c.session && (x.code == NOT_FOUND)) r t

  told_lost_free : (members step : ℕ) (k : List ℕ) (x : Asked) → AskFree x → AskFree (told_lost members step k x)
  told_lost_free members step k x h = by_test AskFree (acquires_at k x) (lost_once members step x) x (λ e. reads_on x (lost_once members step x) (acquiring_reads x.stage (and_first (is_acquiring x.stage) _ e)) refl h) (λ e. h)

  acquire_lost_free : (members : ℕ) (m : Moment) (k : List ℕ) (r : Reads) → ReadsFree r → ReadsFree (acquire_lost members m k r)
  acquire_lost_free members m k r t =
      released_all false m (acquire_gone k (ground_of r)) (map (told_lost members r.own.waits.step k) r.asks) (all_mapped AskFree AskFree (told_lost members r.own.waits.step k) (told_lost_free members r.own.waits.step k) r.asks t.0) t.1

  -- writes

  settled_free : (s : Settled) (x : Asked) → SettledFree N D W s → AskFree x → AskFree (settled_ask s x)
  settled_free settled.Nothing x n h = h
  settled_free (settled.Reply ticket (Done reply)) x n h = by_test AskFree (x.ticket == ticket) (in_stage (stage.Replied (verdict.Said (Done reply))) x) x (λ e w. subst D (sym (same_number x.ticket ticket e)) n) (λ e. h)
  settled_free (settled.Reply ticket (Refused r)) x n h =
      by_test AskFree (x.ticket == ticket) (in_stage (stage.Replied (verdict.Said (Refused r))) x) x (λ e w. subst N (sym (same_number x.ticket ticket e)) n) (λ e. h)
  settled_free (settled.Failed ticket) x n h = by_test AskFree (x.ticket == ticket) (in_stage (stage.Replied verdict.Lost) x) x (λ e w. tt) (λ e. h)

  abbrev ReadsIf : Option Reads → Type 0
  ReadsIf None = Unit {0}
  ReadsIf (Some r) = ReadsFree r

  ending_free : (x : Ending) (r : Reads) → EndFree N D W (Some x) → All AskFree r.asks → ReadsFree (ending x r)
  ending_free x r e t = (all_mapped AskFree AskFree (settled_ask x.settled) (λ y k. settled_free x.settled y e.1 k) r.asks t, e.0)

  endings_free : (m : Moment) (o : Option Ending) (r : Reads) → EndFree N D W o → All AskFree r.asks → ReadsIf (answered_by m o r)
  endings_free m None r e t = tt
  endings_free m (Some x) r e t = let k = ending_free x r e t in released_all true m (ground_of (ending x r)) (ending x r).asks k.0 k.1

  -- all that a call can be for

  abbrev IfFree : Option Core → Type 0
  IfFree None = Unit {0}
  IfFree (Some c) = CoreFree c

  kept_free : (now : ℕ) (o : OutCall) (b : Body) (c : Core) → CoreFree c → IfFree (kept_by now o b c)
  kept_free now o (body.KeepAlive lease ttl) c t = either (seat_calls o.call c.seat) (kept now o ttl c) c (by_test CoreFree (ttl == 0) (without_session now c) _ (λ e. ends_free now c t) (λ e. t)) t
  kept_free now o (body.Range count more kvs) c t = tt
  kept_free now o (body.Put prev) c t = tt
  kept_free now o (body.Delete deleted prevs) c t = tt
  kept_free now o (body.Txn' succeeded n bodies) c t = tt
  kept_free now o body.Compact c t = tt
  kept_free now o (body.Grant lease ttl) c t = tt
  kept_free now o body.Revoke c t = tt
  kept_free now o (body.TimeToLive lease ttl granted keys) c t = tt
  kept_free now o (body.Leases leases) c t = tt

  granted_free : (o : OutCall) (b : Body) (c : Core) → CoreFree c → IfFree (granted_by o b c)
  granted_free o (body.Grant lease ttl) c t = by_test CoreFree (seat_calls o.call c.seat) _ c (λ e. t) (λ e. t)
  granted_free o (body.Range count more kvs) c t = tt
  granted_free o (body.Put prev) c t = tt
  granted_free o (body.Delete deleted prevs) c t = tt
  granted_free o (body.Txn' succeeded n bodies) c t = tt
  granted_free o body.Compact c t = tt
  granted_free o (body.KeepAlive lease ttl) c t = tt
  granted_free o body.Revoke c t = tt
  granted_free o (body.TimeToLive lease ttl granted keys) c t = tt
  granted_free o (body.Leases leases) c t = tt

  grant_fails_free : (o : OutCall) (c : Core) → CoreFree c → CoreFree (grant_failed o c)
  grant_fails_free o c t = by_test CoreFree (seat_calls o.call c.seat) _ c (λ e. t) (λ e. t)

  keep_fails_free : (o : OutCall) (c : Core) → CoreFree c → CoreFree (keep_failed o c)
  keep_fails_free o c t = by_test CoreFree (seat_calls o.call c.seat) _ c (λ e. t) (λ e. t)

  -- the answer, or the loss, of a request's own call

  -- what the answer tells of the write whose own call it is
  pub record Ends (call : ℕ) (a : Answer) : Type 0 where
    pub writes : Settles N D W call a
    pub refused : (r : Refusal) → a ≡ Refused r → (t : ℕ) → A t call → N t
    pub done : (reply : Reply) → a ≡ Done reply → (t : ℕ) → A t call → D t

  said_free : (call : ℕ) (a : Answer) (x : Asked) → Ends call a → AskFree x → AskFree (cond (calls_as call x) (said a x) x)
  said_free call (Done reply) x s h = by_test AskFree (calls_as call x) (said (Done reply) x) x (λ e w. s.done reply refl x.ticket (called_at x.ticket call x.stage e (h w))) (λ e. h)
  said_free call (Refused r) x s h = by_test AskFree (calls_as call x) (said (Refused r) x) x (λ e w. s.refused r refl x.ticket (called_at x.ticket call x.stage e (h w))) (λ e. h)

  stale_free : (k : CallKind) (members step call : ℕ) (x : Asked) → is_ordered k ≡ true → (calls_as call x ≡ true → kind_of x.request ≡ k) → AskFree x → AskFree (cond (calls_as call x) (stale_once members step x) x)
  stale_free k members step call x o r h =
      by_test AskFree (calls_as call x) (stale_once members step x) x (λ e w. no_kind (is_ordered k) o (ap is_ordered (sym (r e)) ∙ (write_kind x.request w).1)) (λ e. h)

  lost_one : (k : CallKind) (o : OutCall) (c : Core) (x : Asked) → (calls_as o.call x ≡ true → kind_of x.request ≡ k) → AskFree x → AskFree (cond (calls_as o.call x) (lost_ask k o c x) x)
  lost_one k o c x r h =
      by_test AskFree (calls_as o.call x) (lost_ask k o c x) x
      (λ e. by_test AskFree (is_read k) (lost_once c.members.count c.own.waits.step x) (in_stage (stage.Replied verdict.Lost) x) (λ f w. no_kind (is_read k) f (ap is_read (sym (r e)) ∙ (write_kind x.request w).0)) (λ f w. tt)) (λ e. h)

  ask_free : (k : CallKind) (o : OutCall) (a : Answer) (c : Core) → Ends o.call a → AreOfKind o.call k c.asks → CoreFree c → IfFree (ask_answered k o a c)
  ask_free k o (Done reply) c s r t =
      by_test IfFree (is_body_of k reply.body) (Some (ask_done k o reply c)) None
      (λ e. by_test CoreFree (is_stale_reply k o reply) (with_caller o.call (stale_once c.members.count c.own.waits.step) (member_failed o c)) (with_caller o.call (said (Done reply)) c)
      (λ u. (mapped_by AskFree _ (λ x. cond (calls_as o.call x) (stale_once c.members.count c.own.waits.step x) x) (λ x q h. stale_free k c.members.count c.own.waits.step o.call x (and_first (is_ordered k) _ u) q h) c.asks r t.0, t.1))
      (λ u. (all_mapped AskFree AskFree (λ x. cond (calls_as o.call x) (said (Done reply) x) x) (λ x h. said_free o.call (Done reply) x s h) c.asks t.0, t.1))) (λ e. tt)
  ask_free k o (Refused x) c s r t = (all_mapped AskFree AskFree (λ y. cond (calls_as o.call y) (said (Refused x) y) y) (λ y h. said_free o.call (Refused x) y s h) c.asks t.0, t.1)

  group_free : (step call lease : ℕ) (v : Verdict) (x : Asked) → AskFree x → AskFree (group_ended step call lease v x)
  group_free step call lease v x h =
      by_test AskFree (is_out_stage call x.stage) (in_stage (stage.Replied v) x) (cond (keeps lease x.request && waits_next x.stage) (in_stage (stage.Grouped (Some (sending.Due step))) x) x)
      (λ e w. grouped_none x.ticket x.stage call e (h w))
      (λ e. by_test AskFree (keeps lease x.request && waits_next x.stage) (in_stage (stage.Grouped (Some (sending.Due step))) x) x (λ f w. waiting_none x.ticket x.stage (and_second (keeps lease x.request) (waits_next x.stage) f) (h w)) (λ f. h))

  -- where the call is one of a request's own, those requests are of its kind
  abbrev pub KindsOf : OutCall → OutJob → List Asked → Type 0
  KindsOf o (job.Ask k) xs = AreOfKind o.call k xs
  KindsOf o _ xs = Unit {0}

  lost_job_free : (now : ℕ) (o : OutCall) (j : OutJob) (c : Core) → KindsOf o j c.asks → CoreFree c → CoreFree (lost_job now o j c)
  lost_job_free now o (job.Grant lease) c r t = grant_fails_free o c t
  lost_job_free now o (job.Keep lease) c r t = keep_fails_free o c t
  lost_job_free now o (job.Acquire k) c r t = acquire_lost_free c.members.count (moment c now) k (reads_of c) t
  lost_job_free now o job.Wait c r t =
      let k = ending_free (lost o.call c.own) (reads_of c) (lost_free N D W o.call c.own t.1) t.0 in
      released_all false (moment c now) (ground_of (ending (lost o.call c.own) (reads_of c))) (ending (lost o.call c.own) (reads_of c)).asks k.0 k.1
  lost_job_free now o (job.Ask k) c r t = (mapped_by AskFree _ (λ x. cond (calls_as o.call x) (lost_ask k o c x) x) (λ x q h. lost_one k o c x q h) c.asks r t.0, t.1)
  lost_job_free now o (job.Group lease) c r t = (all_mapped AskFree AskFree (group_ended c.own.waits.step o.call lease verdict.Lost) (group_free c.own.waits.step o.call lease verdict.Lost) c.asks t.0, t.1)

  job_free : (now : ℕ) (o : OutCall) (j : OutJob) (a : Answer) (c : Core) → Ends o.call a → KindsOf o j c.asks → CoreFree c → IfFree (answered_job now o j a c)
  job_free now o (job.Grant lease) (Done reply) c s r t = granted_free o reply.body c t
  job_free now o (job.Grant lease) (Refused x) c s r t = grant_fails_free o c t
  job_free now o (job.Keep lease) (Done reply) c s r t = kept_free now o reply.body c t
  job_free now o (job.Keep lease) (Refused x) c s r t = keep_fails_free o c t
  job_free now o (job.Acquire k) a c s r t = by (acquire_answered (moment c now) k a (reads_of c)) (acquire_free (moment c now) k (at c.acquires k) a (reads_of c) t)
    where
      by : (q : Option AfterAcquire) → AfterFree q → IfFree (acquire_if c q)
      by None h = tt
      by (Some x) h = h
  job_free now o job.Wait a c s r t =
      by (wait_answered (moment c now) o.call a (reads_of c)) (endings_free (moment c now) (answered o.call a (moment c now).session now c.own) (reads_of c) (answered_free N D W o.call a (moment c now).session now c.own s.writes t.1) t.0)
    where
      by : (q : Option Reads) → ReadsIf q → IfFree (reads_if c q)
      by None h = tt
      by (Some x) h = h
  job_free now o (job.Ask k) a c s r t = ask_free k o a c s r t
  job_free now o (job.Group lease) a c s r t =
      by_test IfFree (answers_keepalive a) _ None (λ e. (all_mapped AskFree AskFree (group_ended c.own.waits.step o.call lease (verdict.Said a)) (group_free c.own.waits.step o.call lease (verdict.Said a)) c.asks t.0, t.1)) (λ e. tt)

  -- of what is heard
  abbrev pub EndsIf : ℕ → Option Answer → Type 0
  EndsIf call None = Unit {0}
  EndsIf call (Some a) = Ends call a

  heard_free : (now : ℕ) (o : OutCall) (q : Option Answer) (c : Core) → EndsIf o.call q → KindsOf o o.job c.asks → CoreFree c → CoreFree (heard_call now o q c)
  heard_free now o None c s r t = lost_job_free now o o.job (member_failed o c) r t
  heard_free now o (Some a) c s r t = by (answered_job now o o.job a c) (job_free now o o.job a c s r t)
    where
      by : (q : Option Core) → IfFree q → CoreFree (or_lost now o c q)
      by None h = lost_job_free now o o.job (member_failed o c) r t
      by (Some d) h = h

  -- of the call that is out
  abbrev pub KindsAt : Option OutCall → List Asked → Type 0
  KindsAt None xs = Unit {0}
  KindsAt (Some o) xs = KindsOf o o.job xs

  abbrev EndsAt : Option OutCall → Option Answer → Type 0
  EndsAt None q = Unit {0}
  EndsAt (Some o) q = EndsIf o.call q

  ends_at : (call : ℕ) (out : List OutCall) (q : Option Answer) → EndsIf call q → EndsAt (out_at call out) q
  ends_at call [] q s = tt
  ends_at call (x ∷ out) q s = by_test (λ (o : Option OutCall). EndsAt o q) (x.call == call) (Some x) (out_at call out) (λ e. subst (λ (n : ℕ). EndsIf n q) (sym (same_number x.call call e)) s) (λ e. ends_at call out q s)

  pub answered_so : (now call : ℕ) (a : Answer) (c : Core) → EndsIf call (heard c.settings.namespace a) → KindsAt (out_at call c.out) c.asks → CoreFree c → StepFree (on_answer now call a c)
  unfolding on_answer
  answered_so now call a c s r t = by (out_at call c.out) (ends_at call c.out (heard c.settings.namespace a) s) r
    where
      by_answer : (o : OutCall) (x : Answer) → EndsIf o.call (heard c.settings.namespace x) → KindsOf o o.job c.asks → CoreFree (answered_call now o x (call_gone call c))
      by_answer o (Done reply) s r = heard_free now o (heard c.settings.namespace (Done reply)) (header_taken reply.header (call_gone call c)) s r t
      by_answer o (Refused x) s r = heard_free now o (heard c.settings.namespace (Refused x)) (call_gone call c) s r t

      by : (q : Option OutCall) → EndsAt q (heard c.settings.namespace a) → KindsAt q c.asks → StepFree (answer_of now call a q c)
      by None s r = t
      by (Some o) s r = go_on (answered_call now o a (call_gone call c)) (by_answer o a s r)

  pub lost_so : (now call : ℕ) (c : Core) → KindsAt (out_at call c.out) c.asks → CoreFree c → StepFree (on_lost now call c)
  unfolding on_lost
  lost_so now call c r t = by (out_at call c.out) r
    where
      by : (q : Option OutCall) → KindsAt q c.asks → StepFree (loss_of now call q c)
      by None r = t
      by (Some o) r = go_on (lost_call now o (call_gone call c)) (lost_job_free now o o.job (member_failed o (call_gone call c)) r t)

  -- a request is asked

  -- none of its calls did it, and it goes by whether leasing is on
  pub record Begins (ticket : ℕ) (c : Core) : Type 0 where
    pub none : N ticket
    pub off : leases c ≡ false → Off
    pub on : leases c ≡ true → On

  call_asked_free : (a : Asked) (c : Core) → (writes_keys a.request ≡ true → Off × N a.ticket) → CoreFree c → StepFree (call_is_asked a c)
  call_asked_free a c f t =
      go_on (with_ask (call_stage a.request c) a c) (all_pushed AskFree (in_stage (call_stage a.request c) a) c.asks t.0 (λ w. subst (AtStage a.ticket) (sym (call_due a.request c w)) (f w)), t.1)

  read_free : (m : Moment) (a : Asked) (c : Core) → (writes_keys a.request ≡ true → ⊥) → CoreFree c → StepFree (read_is_asked m a c)
  read_free m a c n t = by (decided_ask m (ground_of (reads_of c)) a).stage
    where
      after : CoreFree (writes_go_on (with_reads c (read_asked m a (reads_of c))))
      after = go_on (with_reads c (read_asked m a (reads_of c))) (all_pushed AskFree (decided_ask m (ground_of (reads_of c)) a) c.asks t.0 (λ w. absurd (n w)), subst (AreFree N D W) (sym (decided_writes m (ground_of (reads_of c)) a)) t.1)

      by : (s : Stage) → StepFree (read_by s c (with_reads c (read_asked m a (reads_of c))))
      by (stage.Replied v) = t
      by (stage.Calling s) = after
      by stage.Acquiring = after
      by stage.Joined = after
      by stage.Behind = after
      by stage.Writes = after
      by (stage.Grouped s) = after

  write_free : (a : Asked) (c : Core) → On → N a.ticket → CoreFree c → StepFree (write_is_asked a c)
  write_free a c l n t = (
    all_pushed AskFree (in_stage stage.Writes a) c.asks t.0 (λ w. l),
    passed_free N D W c.own.waits.step [] c.own.entries c.own.waits.spoiled (c.own.waits.writes ++ new_write a.ticket a.request ∷ []) (each_pushed _ (new_write a.ticket a.request) c.own.waits.writes t.1 n),
  )

  taken_free : (m : Moment) (a : Asked) (c : Core) → Begins a.ticket c → CoreFree c → StepFree (taken_in m a c)
  taken_free m a c b t =
      by_test StepFree (leases c) (leased_ask m a c) (call_is_asked a c)
      (λ e. by_test StepFree (is_leased_read c.own.waits.prefix a.request) (read_is_asked m a c) _ (λ f. read_free m a c (read_writes_none a.request (and_first (is_plain_request a.request) _ f)) t)
      (λ f. by_test StepFree (writes_keys a.request) _ _ (λ w. write_free a c (b.on e) b.none t) (λ w. by_body w (if_live m.session (held_body c.own.entries a.request)))))
      (λ e. call_asked_free a c (λ w. (b.off e, b.none)) t)
    where
      by_body : writes_keys a.request ≡ false → (x : Option Body) → StepFree (answered_or_called x a c)
      by_body n None = call_asked_free a c (λ w. no_kind (writes_keys a.request) w n) t
      by_body n (Some x) = t

  request_free : (q : Request) (m : Moment) (a : Asked) (c : Core) → Begins a.ticket c → CoreFree c → StepFree (request_asked q m a c)
  request_free (request.Watch ask) m a c b t = t
  request_free (request.KeepAlive lease) m a c b t = taken_free m a c b t
  request_free (request.Range ask) m a c b t = taken_free m a c b t
  request_free (request.Put ask) m a c b t = taken_free m a c b t
  request_free (request.Delete ask) m a c b t = taken_free m a c b t
  request_free (request.Txn x) m a c b t = taken_free m a c b t
  request_free (request.Compact revision physical) m a c b t = taken_free m a c b t
  request_free (request.Grant ttl lease) m a c b t = taken_free m a c b t
  request_free (request.Revoke lease) m a c b t = taken_free m a c b t
  request_free (request.TimeToLive lease keys) m a c b t = taken_free m a c b t
  request_free request.Leases m a c b t = taken_free m a c b t

  pub asked_so : (now ticket : ℕ) (q : Request) (word : ℕ) (c : Core) → Begins ticket c → CoreFree c → StepFree (on_ask now ticket q word c)
  unfolding on_ask
  asked_so now ticket q word c b t = by_test StepFree (is_known ticket c) _ _ (λ e. t) (λ e. by (refusal_of c.own.waits.prefix q))
    where
      by : (o : Option Refusal) → StepFree (refused_or_taken o (moment c now) (asked_at now ticket q word) c)
      by None = request_free q (moment c now) (asked_at now ticket q word) c b t
      by (Some r) = t

  -- a request is taken or left

  pub take_so : (ticket : ℕ) (c : Core) → CoreFree c → StepFree (on_take ticket c)
  unfolding on_take
  take_so ticket c t = by_ask (ask_at ticket c.asks)
    where
      by_pair : (x : Broadcasts × Option WatchItem) → StepFree (taken_item c x)
      by_pair (b, None) = t
      by_pair (b, Some x) = t

      by_watch : (w : Option Watch) → StepFree (item_taken ticket w c)
      by_watch None = t
      by_watch (Some w) = by_pair (watches.taken_from c.watches c.header w w.queue)

      by_stage : (s : Stage) → StepFree (takes.taken_from ticket s c)
      by_stage (stage.Replied v) = (all_filtered AskFree (λ a. not (has_ticket ticket a)) c.asks t.0, t.1)
      by_stage (stage.Calling s) = t
      by_stage stage.Acquiring = t
      by_stage stage.Joined = t
      by_stage stage.Behind = t
      by_stage stage.Writes = t
      by_stage (stage.Grouped s) = t

      by_ask : (o : Option Asked) → StepFree (taken ticket o c)
      by_ask None = by_watch (watch_at ticket c.watches.watches)
      by_ask (Some a) = by_stage a.stage

  pub leave_so : (now ticket : ℕ) (c : Core) → CoreFree c → StepFree (on_leave now ticket c)
  unfolding on_leave
  leave_so now ticket c t = by_ask (ask_at ticket c.asks)
    where
      by_watch : (w : Option Watch) → StepFree (watcher_left ticket w c)
      by_watch None = t
      by_watch (Some w) = t

      by_ask : (o : Option Asked) → StepFree (left now ticket o c)
      by_ask None = by_watch (watch_at ticket c.watches.watches)
      by_ask (Some a) = go_on (has_left now ticket c) (taken_off_free (moment c now) (has_ticket ticket) (without_ask ticket c.asks) (reads_of c) (all_filtered AskFree (λ b. not (has_ticket ticket b)) c.asks t.0) t.1)

  -- ticks, messages and cuts

  pub tick_so : (now word : ℕ) (c : Core) → CoreFree c → StepFree (on_tick now word c)
  unfolding on_tick
  tick_so now word c t = by_test CoreFree (leases c) (ticked now word c) c (λ e. by c.leasing) (λ e. t)
    where
      by : (o : Option Opening) → CoreFree (leasing_ticked o (record c { seat = Some (seat_ticked word c.settings.ttl c.own.waits.step now c.seat) }))
      by None = t
      by (Some o) = t

  created_free : (o : Opening) (x : Header) (c : Core) → CoreFree c → CoreFree (leasing_created o x c)
  created_free o x c t =
      by_test CoreFree o.stream.created c _ (λ e. t) (λ e. (t.0, by_test (OwnFree N D W) (o.stream.next == 0) (resynced c.own) c.own (λ u. gone_free N D W (λ k. true) c.own.waits.writes t.1) (λ u. t.1)))

  message_so : (now : ℕ) (o : Opening) (x : WatchItem) (c : Core) → CoreFree c → CoreFree (leasing_message now o x c)
  message_so now o (item.Created d) c t = created_free o d c t
  message_so now o (item.Events d es) c t = by_test CoreFree (is_readable o.stream es) _ (leasing_cut o c) (λ e. (t.0, message_free N D W (live_number c.seat now) es c.own t.1)) (λ e. t)
  message_so now o (item.Canceled d compaction) c t = by_test CoreFree (compaction == 0) (leasing_cut o c) _ (λ e. t) (λ e. t)

  leasing_so : (now : ℕ) (o : Opening) (x : WatchItem) (c : Core) → CoreFree c → CoreFree (leasing_item now o x c)
  leasing_so now o x c t = by_due o.due
    where
      by_text : (u : Unwrapped WatchItem) (d : Core) → CoreFree d → CoreFree (leasing.unwrapped_message now o u d)
      by_text (Ok y) d h = message_so now o y d h
      by_text (Err foreign) d h = h

      by_due : (s : Option ℕ) → CoreFree (message_if_sent now o s x (header_taken (item_header x) c))
      by_due None = by_text (item_without c.settings.namespace x) (header_taken (item_header x) c) t
      by_due (Some since) = t

  stream_so : (s : Stream) (x : WatchItem) (c : Core) → CoreFree c → CoreFree (stream_item s x c)
  stream_so s x c t = by_test CoreFree (is_begun s.phase) _ (header_taken (item_header x) c) (λ e. by_text (item_without c.settings.namespace x)) (λ e. t)
    where
      by_message : (y : WatchItem) → CoreFree (stream_message s y (header_taken (item_header x) c))
      by_message (item.Created d) = t
      by_message (item.Events d es) = t
      by_message (item.Canceled d compaction) = t

      by_text : (u : Unwrapped WatchItem) → CoreFree (watching.unwrapped_message s u (header_taken (item_header x) c))
      by_text (Ok y) = by_message y
      by_text (Err foreign) = t

  pub item_so : (now number : ℕ) (x : WatchItem) (c : Core) → CoreFree c → StepFree (on_item now number x c)
  unfolding on_item
  item_so now number x c t = by_opening (opening_at number c.leasing)
    where
      by_stream : (s : Option Stream) → StepFree (client_item number x s c)
      by_stream None = t
      by_stream (Some s) = go_on (stream_item s x c) (stream_so s x c t)

      by_opening : (o : Option Opening) → StepFree (item_of now number x o c)
      by_opening None = by_stream (stream_at number c.watches.streams)
      by_opening (Some o) = go_on (leasing_item now o x c) (leasing_so now o x c t)

  pub cut_so : (number : ℕ) (c : Core) → CoreFree c → StepFree (on_cut number c)
  unfolding on_cut
  cut_so number c t = by_opening (opening_at number c.leasing)
    where
      by_stream : (s : Option Stream) → StepFree (client_cut number s c)
      by_stream None = t
      by_stream (Some s) = t

      by_opening : (o : Option Opening) → StepFree (cut_of number o c)
      by_opening None = by_stream (stream_at number c.watches.streams)
      by_opening (Some o) = t
