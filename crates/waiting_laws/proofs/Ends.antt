-- Releases, requests and calls that end, clock work and a session's end: each rescind that was sent is out behind them.
use Rattle.std.proofs.Common.{◌≡◌, ℕ, ◌==◌, Bool, true, false, not, cond, ◌&&◌, ◌||◌, List, [], ◌∷◌, map, Option, None, Some, refl}
use Rattle.std.proofs.Common.{is_some}
use Rattle.etcd_types.specs.declared.answer.Answer.{Answer}
use Rattle.etcd_types.specs.declared.answer.Answer.TheVariants as answer
use Rattle.etcd_types.specs.declared.answer.Body.{Body}
use Rattle.etcd_types.specs.declared.answer.Body.TheVariants as body
use Rattle.etcd_types.specs.declared.code.TheConstants.{NOT_FOUND}
use Rattle.etcd_types.specs.declared.record.Header.{Header}
use Rattle.proxy_model.specs.declared.lease.Entry.{Entry}
use Rattle.proxy_model.specs.declared.ownership.Claim.{Claim}
use Rattle.proxy_model.specs.declared.ownership.Claim.TheVariants.{Acquired, OwnedBy}
use Rattle.proxy_model.specs.declared.ownership.Owner.{Owner}
use Rattle.proxy_model.specs.Acquire.{claimed}
use Rattle.proxy_model.specs.Keyed.{at}
use Rattle.wait_model.specs.declared.wait.WaitCall.{WaitCall}
use Rattle.wait_model.specs.Asked.{is_spoiled}
use Rattle.wait_model.specs.Endings.{answered, lost, forgotten}
use Rattle.wait_model.specs.GuardedAnswers.{Ending}
use Rattle.wait_model.specs.Phases.{own_entry, is_session}
use Rattle.wait_model.specs.State.{Ownership}
use Rattle.read_model.specs.declared.acquire.Acquire.{Acquire}
use Rattle.read_model.specs.declared.asked.Asked.{Asked}
use Rattle.read_model.specs.declared.asked.Verdict.TheVariants as verdict
use Rattle.read_model.specs.Acquires.{acquire_gone, won, found_own, acquired, owned_by, AfterAcquire, done_by, acquire_refused, answered_acquire, acquire_answered, acquire_lost}
use Rattle.read_model.specs.PlainRead.{ask_key, decision, begun_under, decided_ground}
use Rattle.read_model.specs.Release.{ask_stands, released_ground, released_from}
use Rattle.read_model.specs.SessionEnd.{over, session_over}
use Rattle.read_model.specs.State.{Reads, Moment, Ground, ground_of, on}
use Rattle.read_model.specs.TakingOff.{is_writes, forgotten_all, taken_off}
use Rattle.read_model.specs.WriteAnswers.{ending, answered_by, wait_answered, wait_lost}
use Rattle.core_model.specs.declared.out_call.CallKind.{CallKind}
use Rattle.core_model.specs.declared.out_call.OutCall.{OutCall}
use Rattle.core_model.specs.declared.out_call.OutJob.{OutJob}
use Rattle.core_model.specs.declared.out_call.OutJob.TheVariants as job
use Rattle.core_model.specs.ClockWork.{begun, times_out, timed_out_ask, requests_timed_out, clock_work}
use Rattle.core_model.specs.Ends.{with_caller, stale_once, said, is_stale_reply, ask_done, ask_answered, member_failed, acquire_if, reads_if, is_keepalive, group_answered, answered_job, lost_job, lost_call, or_lost, heard_call, answered_call}
use Rattle.core_model.specs.Groups.{groups_ended}
use Rattle.core_model.specs.Heard.{heard, answer_taken}
use Rattle.core_model.specs.Kinds.{is_body_of}
use Rattle.core_model.specs.Lookups.{moment, reads_of}
use Rattle.core_model.specs.Sessions.{without_session, seat_is_over, deadline_passed, seat_calls, seat_granted, granted_by, grant_failed, grant_answered, seat_free, keep_failed, seat_renewed, kept, kept_by, keep_answered}
use Rattle.core_model.specs.State.{Core}
use Rattle.core_laws.proofs.Steps.Comes.{by_test}
use Rattle.waiting_laws.proofs.Entries.{entry_fits, put_out, none_out}
use Rattle.waiting_laws.proofs.Owned.{OwnOut, proceeded_out, forgotten_out, EndOut, answered_out, lost_out}

abbrev pub GroundOut : Ground → Type 0
GroundOut g = OwnOut g.own

-- ---- releases

begun_out : (ticket : ℕ) (k : List ℕ) (o : Option ℕ) (g : Ground) → GroundOut g → GroundOut (begun_under ticket k o g)
begun_out ticket k None g h = h
begun_out ticket k (Some n) g h = h

pub decided_out : (m : Moment) (g : Ground) (a : Asked) → GroundOut g → GroundOut (decided_ground m g a)
decided_out m g a h = begun_out a.ticket (ask_key a) (decision m g (ask_key a)).under g h

released_out : (again : Bool) (m : Moment) (g : Ground) (xs : List Asked) → GroundOut g → GroundOut (released_from again m g xs).ground
unfolding released_from
released_out again m g [] h = h
released_out again m g (a ∷ xs) h =
    released_out again m (released_ground again m g a) xs (by_test GroundOut (ask_stands g a || not again) g (decided_ground m g a) (λ t. h) (λ t. decided_out m g a h))

over_out : (m : Moment) (r : Reads) → GroundOut (ground_of (session_over m r))
over_out m r = released_out false m (over (ground_of r)) r.asks (none_out r.own.waits.out)

all_forgotten : (p : Asked → Bool) (xs : List Asked) (own : Ownership) → OwnOut own → OwnOut (forgotten_all p xs own)
all_forgotten p [] own h = h
all_forgotten p (a ∷ xs) own h =
    all_forgotten p xs (cond (p a && is_writes a.stage) (forgotten a.ticket own) own) (by_test OwnOut (p a && is_writes a.stage) (forgotten a.ticket own) own (λ t. forgotten_out a.ticket own h) (λ t. h))

pub off_out : (m : Moment) (p : Asked → Bool) (xs : List Asked) (r : Reads) → OwnOut r.own → GroundOut (ground_of (taken_off m p xs r))
off_out m p xs r h = released_out false m _ xs (all_forgotten p r.asks r.own h)

-- ---- calls that end

abbrev ReadsIf : Option Reads → Type 0
ReadsIf None = Unit {0}
ReadsIf (Some r) = OwnOut r.own

answers_out : (m : Moment) (call : ℕ) (a : Answer) (r : Reads) → OwnOut r.own → ReadsIf (wait_answered m call a r)
answers_out m call a r h = by (answered call a m.session m.now r.own) (answered_out call a m.session m.now r.own h)
  where
    by : (x : Option Ending) → EndOut x → ReadsIf (answered_by m x r)
    by None g = tt
    by (Some x) g = released_out true m (ground_of (ending x r)) (ending x r).asks g

losses_out : (m : Moment) (call : ℕ) (r : Reads) → OwnOut r.own → OwnOut (wait_lost m call r).own
losses_out m call r h = released_out false m (ground_of (ending (lost call r.own) r)) (ending (lost call r.own) r).asks (lost_out call r.own h)

acquire_losses_out : (members : ℕ) (m : Moment) (k : List ℕ) (r : Reads) → OwnOut r.own → OwnOut (acquire_lost members m k r).own
acquire_losses_out members m k r h = released_out false m (acquire_gone k (ground_of r)) _ h

found_fits : (out : List WaitCall) (session : Option ℕ) (k : List ℕ) (o : Option Owner) (e : Option Entry) → entry_fits out k e ≡ true → entry_fits out k (found_own session o e) ≡ true
found_fits out session k None e h = h
found_fits out session k (Some o) e h = by_test (λ (x : Option Entry). entry_fits out k x ≡ true) (is_session session o.lease && not (is_some e)) (Some (own_entry o.create)) e (λ t. refl) (λ t. h)

abbrev AfterIf : Option AfterAcquire → Type 0
AfterIf None = Unit {0}
AfterIf (Some x) = OwnOut x.reads.own

acquires_out : (m : Moment) (k : List ℕ) (a : Answer) (r : Reads) → OwnOut r.own → AfterIf (acquire_answered m k a r)
acquires_out m k a r h = by (at r.acquires k)
  where
    won_fits : (held : Bool) (create : ℕ) (kv : _) → entry_fits r.own.waits.out k (Some (won held create kv)) ≡ true
    won_fits true create kv = refl
    won_fits false create kv = refl

    done : (held : Bool) (d : Header) (c : Option Claim) → AfterIf (done_by m k held d c r)
    done held d None = tt
    done held d (Some (Acquired create kv)) =
        let x = acquired m k held d create kv r in
        released_out held m (ground_of x) x.asks (put_out r.own.waits.out r.own.entries k (Some (won held create kv)) (won_fits held create kv) h)
    done held d (Some (OwnedBy kv owner)) =
        let x = owned_by m k d kv owner r in
        released_out false m (ground_of x) x.asks (put_out r.own.waits.out r.own.entries k (found_own m.session owner (at r.own.entries k)) (found_fits r.own.waits.out m.session k owner (at r.own.entries k) (h.sent k)) h)

    refused : (ends : Bool) → AfterIf (Some (acquire_refused m k ends r))
    refused true = over_out m (on (acquire_gone k (ground_of r)) r.asks)
    refused false = released_out false m (acquire_gone k (ground_of r)) r.asks h

    with_claim : (c : Acquire) (a : Answer) → AfterIf (answered_acquire m k (Some c) a r)
    with_claim c (answer.Done reply) = done (is_session m.session c.session && not (is_spoiled k r.own)) reply.header (claimed r.own.waits.prefix k reply)
    with_claim c (answer.Refused x) = refused (is_session m.session c.session && (x.code == NOT_FOUND))

    by : (o : Option Acquire) → AfterIf (answered_acquire m k o a r)
    by None = h
    by (Some c) = with_claim c a

-- ---- of a whole proxy

abbrev pub CoreOut : Core → Type 0
CoreOut c = OwnOut c.own

over_core : (now : ℕ) (c : Core) → CoreOut (without_session now c)
over_core now c = over_out (moment (record c { seat = None }) now) (reads_of c)

pub clock_out : (now : ℕ) (c : Core) → CoreOut c → CoreOut (clock_work now c)
unfolding clock_work
clock_out now c h =
    let d = deadline_passed now (begun c) in
    let x : CoreOut (begun c) = h in
    let y : CoreOut d = by_test CoreOut (seat_is_over c.seat now) (without_session now (begun c)) (begun c) (λ t. over_core now (begun c)) (λ t. x) in
    proceeded_out (requests_timed_out now d).own (off_out (moment d now) (times_out now) (map (timed_out_ask now) d.asks) (reads_of d) y)

grant_fails : (o : OutCall) (c : Core) → CoreOut c → CoreOut (grant_failed o c)
grant_fails o c h = by_test CoreOut (seat_calls o.call c.seat) (record c { seat = None }) c (λ t. h) (λ t. h)

keep_fails : (o : OutCall) (c : Core) → CoreOut c → CoreOut (keep_failed o c)
keep_fails o c h = by_test CoreOut (seat_calls o.call c.seat) (record c { seat = seat_free c.seat }) c (λ t. h) (λ t. h)

lost_by : (now : ℕ) (o : OutCall) (j : OutJob) (c : Core) → CoreOut c → CoreOut (lost_job now o j c)
lost_by now o (job.Grant lease) c h = grant_fails o c h
lost_by now o (job.Keep lease) c h = keep_fails o c h
lost_by now o (job.Acquire k) c h = acquire_losses_out c.members.count (moment c now) k (reads_of c) h
lost_by now o job.Wait c h = losses_out (moment c now) o.call (reads_of c) h
lost_by now o (job.Ask k) c h = h
lost_by now o (job.Group lease) c h = h

pub lost_call_out : (now : ℕ) (o : OutCall) (c : Core) → CoreOut c → CoreOut (lost_call now o c)
lost_call_out now o c h = lost_by now o o.job (member_failed o c) h

abbrev CoreIf : Option Core → Type 0
CoreIf None = Unit {0}
CoreIf (Some c) = CoreOut c

grant_out : (o : OutCall) (a : Answer) (c : Core) → CoreOut c → CoreIf (grant_answered o a c)
grant_out o (answer.Refused r) c h = grant_fails o c h
grant_out o (answer.Done reply) c h = by reply.body
  where
    by : (b : Body) → CoreIf (granted_by o b c)
    by (body.Grant n ttl) = by_test CoreOut (seat_calls o.call c.seat) (record c { seat = seat_granted o.sent_at ttl c.seat }) c (λ t. h) (λ t. h)
    by _ = tt

keep_out : (now : ℕ) (o : OutCall) (a : Answer) (c : Core) → CoreOut c → CoreIf (keep_answered now o a c)
keep_out now o (answer.Refused r) c h = keep_fails o c h
keep_out now o (answer.Done reply) c h = by reply.body
  where
    by : (b : Body) → CoreIf (kept_by now o b c)
    by (body.KeepAlive n ttl) =
        by_test CoreOut (seat_calls o.call c.seat) (kept now o ttl c) c
        (λ t. by_test CoreOut (ttl == 0) (without_session now c) (record c { seat = seat_renewed o.sent_at ttl c.seat }) (λ u. over_core now c) (λ u. h))
        (λ t. h)
    by _ = tt

acquire_out : (now : ℕ) (k : List ℕ) (a : Answer) (c : Core) → CoreOut c → CoreIf (acquire_if c (acquire_answered (moment c now) k a (reads_of c)))
acquire_out now k a c h = by (acquire_answered (moment c now) k a (reads_of c)) (acquires_out (moment c now) k a (reads_of c) h)
  where
    by : (o : Option AfterAcquire) → AfterIf o → CoreIf (acquire_if c o)
    by None x = tt
    by (Some z) x = x

wait_out : (now n : ℕ) (a : Answer) (c : Core) → CoreOut c → CoreIf (reads_if c (wait_answered (moment c now) n a (reads_of c)))
wait_out now n a c h = by (wait_answered (moment c now) n a (reads_of c)) (answers_out (moment c now) n a (reads_of c) h)
  where
    by : (o : Option Reads) → ReadsIf o → CoreIf (reads_if c o)
    by None x = tt
    by (Some r) x = x

ask_out : (k : CallKind) (o : OutCall) (a : Answer) (c : Core) → CoreOut c → CoreIf (ask_answered k o a c)
ask_out k o (answer.Refused r) c h = h
ask_out k o (answer.Done reply) c h =
    by_test CoreIf (is_body_of k reply.body) (Some (ask_done k o reply c)) None
    (λ t. by_test CoreOut (is_stale_reply k o reply) (with_caller o.call (stale_once c.members.count c.own.waits.step) (member_failed o c)) (with_caller o.call (said (answer.Done reply)) c) (λ u. h) (λ u. h))
    (λ t. tt)

group_out : (o : OutCall) (lease : ℕ) (a : Answer) (c : Core) → CoreOut c → CoreIf (group_answered o lease a c)
group_out o lease a c h = by_test CoreIf (is_keepalive a) (Some (record c { asks = groups_ended c.own.waits.step o.call lease (verdict.Said a) c.asks })) None (λ t. h) (λ t. tt)

answered_by_job : (now : ℕ) (o : OutCall) (j : OutJob) (a : Answer) (c : Core) → CoreOut c → CoreIf (answered_job now o j a c)
answered_by_job now o (job.Grant lease) a c h = grant_out o a c h
answered_by_job now o (job.Keep lease) a c h = keep_out now o a c h
answered_by_job now o (job.Acquire k) a c h = acquire_out now k a c h
answered_by_job now o job.Wait a c h = wait_out now o.call a c h
answered_by_job now o (job.Ask k) a c h = ask_out k o a c h
answered_by_job now o (job.Group lease) a c h = group_out o lease a c h

heard_out : (now : ℕ) (o : OutCall) (x : Option Answer) (c : Core) → CoreOut c → CoreOut (heard_call now o x c)
heard_out now o None c h = lost_call_out now o c h
heard_out now o (Some a) c h = by (answered_job now o o.job a c) (answered_by_job now o o.job a c h)
  where
    by : (y : Option Core) → CoreIf y → CoreOut (or_lost now o c y)
    by None t = lost_call_out now o c h
    by (Some d) t = t

pub answered_call_out : (now : ℕ) (o : OutCall) (a : Answer) (c : Core) → CoreOut c → CoreOut (answered_call now o a c)
answered_call_out now o (answer.Done reply) c h = heard_out now o (heard c.settings.namespace (answer.Done reply)) (answer_taken (answer.Done reply) c) h
answered_call_out now o (answer.Refused r) c h = heard_out now o (heard c.settings.namespace (answer.Refused r)) c h
