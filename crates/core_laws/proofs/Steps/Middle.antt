-- Parts of a step keep what holds in its middle: the end of a session, requests that end, calls that end, and notices.
use Rattle.std.proofs.Common.{◌≡◌, ℕ, ◌+◌, ◌==◌, nat_le, Bool, true, false, cond, ◌&&◌, List, [], ◌∷◌, map, Option, None, Some, is_some, refl, sym, ◌∙◌, ap, subst}
use Rattle.etcd_types.specs.declared.answer.Answer.{Answer}
use Rattle.etcd_types.specs.declared.answer.Answer.TheVariants as answer
use Rattle.etcd_types.specs.declared.answer.Body.{Body}
use Rattle.etcd_types.specs.declared.answer.Body.TheVariants as body
use Rattle.etcd_types.specs.declared.watch.Change.{Change}
use Rattle.etcd_types.specs.declared.watch.Change.TheVariants as change
use Rattle.etcd_types.specs.declared.watch.Event.{Event}
use Rattle.etcd_types.specs.Keys.{same}
use Rattle.proxy_model.specs.Limits.{capped}
use Rattle.proxy_model.specs.declared.lease.Entry.{Entry}
use Rattle.proxy_model.specs.declared.session.Standing.{Standing}
use Rattle.proxy_model.specs.Foreign.{revoke_word}
use Rattle.proxy_model.specs.Keyed.{at, with_at}
use Rattle.proxy_model.specs.Session.{is_live}
use Rattle.wait_model.specs.declared.sending.Sending.TheVariants as sending
use Rattle.wait_model.specs.Asked.{acquire_spoiled}
use Rattle.wait_model.specs.ForeignOwnership.{found_gone, stage_gone}
use Rattle.wait_model.specs.LeasingStream.{resynced, all_given_up}
use Rattle.wait_model.specs.Notices.{owned_key, put_noticed, revoked_turn, deleted_turn, noticed, all_noticed}
use Rattle.wait_model.specs.State.{Ownership}
use Rattle.wait_model.specs.Writes.{sends}
use Rattle.core_laws.specs.Writes.Laws.{AreWritten, OwnersCovered}
use Rattle.core_laws.specs.Writes.Written.{IsWritten, ShowsBytes}
use Rattle.core_laws.proofs.Writes.OwnersShown.{owners_are_covered}
use Rattle.core_laws.proofs.Writes.WrittenKept.{ranges_stay}
use Rattle.read_model.specs.declared.acquire.Acquire.{Acquire}
use Rattle.read_model.specs.declared.asked.Asked.{Asked}
use Rattle.read_model.specs.declared.asked.Stage.{Stage}
use Rattle.read_model.specs.declared.asked.Stage.TheVariants as stage
use Rattle.read_model.specs.declared.asked.Verdict.{Verdict}
use Rattle.read_model.specs.declared.asked.Verdict.TheVariants as verdict
use Rattle.read_model.specs.Acquires.{AfterAcquire, acquire_answered, lost_once}
use Rattle.read_model.specs.Fits.{ReadsOk}
use Rattle.read_model.specs.PlainRead.{ask_key, in_stage, called}
use Rattle.read_model.specs.Release.{stands, ask_stands}
use Rattle.read_model.specs.State.{Reads, Moment, ground_of}
use Rattle.read_model.specs.WriteAnswers.{wait_answered}
use Rattle.core_laws.specs.PlainReads.Kept as keeps
use Rattle.core_laws.proofs.PlainReads.Kept as kept
use Rattle.core_model.specs.declared.out_call.CallKind.{CallKind}
use Rattle.core_model.specs.declared.out_call.OutCall.{OutCall}
use Rattle.core_model.specs.declared.out_call.OutJob.{OutJob}
use Rattle.core_model.specs.declared.out_call.OutJob.TheVariants as job
use Rattle.core_model.specs.ClockWork.{times_out, timed_out_ask, requests_timed_out, begun, clock_work}
use Rattle.core_model.specs.Ends.{call_gone, with_caller, lost_ask, lost_job, lost_call, stale_once, stales_limit, said, is_stale_reply, ask_done, ask_answered, member_failed, acquire_ended, acquire_if, reads_if, is_keepalive, answered_job, or_lost, heard_call, answered_call}
use Rattle.core_model.specs.Fits.{has_standing, is_standing, is_seat_out, is_session_job, job_at, Agrees}
use Rattle.core_model.specs.Groups.{keeps as keeps_lease, group_ended, groups_ended, is_out_stage, waits_next}
use Rattle.core_model.specs.Heard.{heard, answer_taken}
use Rattle.core_model.specs.Kinds.{is_read, is_body_of}
use Rattle.core_model.specs.Lookups.{reads_of, moment, live_number, number_if, calls_as, has_ticket, without_ask}
use Rattle.core_model.specs.Sessions.{without_session, seat_is_over, deadline_passed, seat_calls, seat_granted, granted_by, grant_failed, grant_answered, seat_free, keep_failed, seat_renewed, kept_by, keep_answered}
use Rattle.core_model.specs.Sessions as sessions
use Rattle.core_model.specs.State.{Seat, Core}
use Rattle.core_model.specs.Takes.{has_left}
use Rattle.core_laws.specs.Steps.Kept.{HeardBytes}
use Rattle.core_laws.proofs.Steps.Agreeing.{to_written, own_agrees, over_agrees}
use Rattle.core_laws.proofs.Steps.Comes.{by_test, AllCome, all_itself, all_on, all_staged, owner_gone, stage_gone_calms}
use Rattle.core_laws.proofs.Steps.Ends.{AgreesIf, grant_fails, grant_is_answered, keep_fails, keep_is_answered, seat_standing, renewed_standing, acquire_is_lost, acquire_is_answered, wait_is_lost, wait_is_answered, caller_ends, group_ends}
use Rattle.core_laws.proofs.Steps.Lists.{all_mapped}
use Rattle.core_laws.proofs.Steps.Requests.{Frees, caller, is_free}
use Rattle.core_laws.proofs.Steps.TakenOff.{times_agree, left_agrees}
use Rattle.core_laws.proofs.Steps.Whole.{Mid, Whole, goes_whole, begun_mid, beside_mid}

-- The end of the session.

unseated : (c : Core) → Agrees c → Agrees (record c { seat = None })
unseated c h = record { writes = h.writes; asks = h.asks; awaited = h.awaited; out = record { seat = refl; acquires = h.out.acquires; asks = h.out.asks }; numbers = h.numbers; groups = h.groups; seated = refl }

over_mid : (most now : ℕ) (c : Core) → Mid most c → Mid most (without_session now c)
over_mid most now c h = record {
  given = h.given;
  reads = kept.session_end_keeps (is_standing c.seat) (moment (record c { seat = None }) now) (reads_of c) h.reads.ground;
  agrees = over_agrees (moment (record c { seat = None }) now) c (unseated c h.agrees);
}

pub deadline_mid : (most now : ℕ) (c : Core) → Mid most c → Mid most (deadline_passed now c)
deadline_mid most now c h = by_test (Mid most) (seat_is_over c.seat now) (without_session now c) c (λ t. over_mid most now c h) (λ t. h)

-- Requests that end.

pub times_mid : (most now : ℕ) (c : Core) → Mid most c → Mid most (requests_timed_out now c)
times_mid most now c h = record {
  given = h.given;
  reads = kept.taking_off_keeps (is_standing c.seat) (moment c now) (times_out now) (map (timed_out_ask now) c.asks) (reads_of c) h.reads.ground;
  agrees = times_agree now c h.agrees;
}

pub left_mid : (most now ticket : ℕ) (c : Core) → Mid most c → Mid most (has_left now ticket c)
left_mid most now ticket c h = record {
  given = h.given;
  reads = kept.taking_off_keeps (is_standing c.seat) (moment c now) (has_ticket ticket) (without_ask ticket c.asks) (reads_of c) h.reads.ground;
  agrees = left_agrees now ticket c h.agrees;
}

pub clock_whole : (most now : ℕ) (c : Core) → Mid most c → Whole most (clock_work now c)
unfolding clock_work
clock_whole most now c h =
    let d = deadline_passed now (begun c) in
    goes_whole most (requests_timed_out now d) (times_mid most now d (deadline_mid most now (begun c) (begun_mid most c h)))

-- What is owned changes by a notice, and no call stands at a write that didn't.

own_mid : (most : ℕ) (c : Core) (next : Ownership) → AllCome c.own.waits.writes next.waits.writes → AreWritten next.waits.writes → next.waits.out ≡ c.own.waits.out → ReadsOk (is_standing c.seat) (record (reads_of c) { own = next }) → Mid most c → Mid most (record c { own = next })
own_mid most c next a r o k h = record { given = h.given; reads = k; agrees = own_agrees c next a r o h.agrees }

gone_come : (p : List ℕ → Bool) (own : Ownership) → AllCome own.waits.writes (found_gone p own).waits.writes
gone_come p own = all_staged (λ w. stage_gone p w.stage) (λ w. owner_gone p w.stage) (λ w. stage_gone_calms p w.stage) own.waits.writes

record Quiet (own next : Ownership) : Type 0 where
  come : AllCome own.waits.writes next.waits.writes
  out : next.waits.out ≡ own.waits.out

put_quiet : (session : Option ℕ) (k : List ℕ) (create lease : ℕ) (own : Ownership) → Quiet own (put_noticed session k create lease own)
put_quiet session k create lease own =
    by_test (Quiet own) (is_some (at own.waits.spoiled k)) (acquire_spoiled k own) (record own { entries = with_at own.entries k (revoked_turn session create lease (at own.entries k)) })
    (λ t. record { come = all_itself own.waits.writes; out = refl }) (λ t. record { come = all_itself own.waits.writes; out = refl })

notice_quiet : (session : Option ℕ) (x : Change) (own : Ownership) → Quiet own (noticed session x own)
notice_quiet session (change.Put kv) own =
    by_test (Quiet own) (same kv.value revoke_word) (put_noticed session (owned_key own.waits.prefix kv.key) kv.create kv.lease own) own
    (λ t. put_quiet session (owned_key own.waits.prefix kv.key) kv.create kv.lease own) (λ t. record { come = all_itself own.waits.writes; out = refl })
notice_quiet session (change.Delete k revision) own =
    let i = owned_key own.waits.prefix k in
    record { come = gone_come (same i) (record own { entries = with_at own.entries i (deleted_turn revision (at own.entries i)) }); out = refl }

message_quiet : (session : Option ℕ) (es : List Event) (own : Ownership) → Quiet own (all_noticed session es own)
message_quiet session [] own = record { come = all_itself own.waits.writes; out = refl }
message_quiet session (e ∷ es) own =
    let o = noticed session e.change own in
    let a = notice_quiet session e.change own in
    let b = message_quiet session es o in
    record { come = all_on own.waits.writes o.waits.writes (all_noticed session es o).waits.writes a.come b.come; out = b.out ∙ a.out }

written_now : (c : Core) → Agrees c → IsWritten c.own
written_now c h = to_written c.own.waits.writes h.writes.ranges

pub message_mid : (most : ℕ) (session : Option ℕ) (es : List Event) (c : Core) → Mid most c → Mid most (record c { own = all_noticed session es c.own })
message_mid most session es c h =
    let q = message_quiet session es c.own in
    own_mid most c (all_noticed session es c.own) q.come ((ranges_stay c.own (written_now c h.agrees)).message session es) q.out ((kept.notices_keep (is_standing c.seat) (reads_of c) h.reads).message session es) h

pub resynced_mid : (most : ℕ) (c : Core) → Mid most c → Mid most (record c { own = resynced c.own })
resynced_mid most c h = own_mid most c (resynced c.own) (gone_come (λ k. true) c.own) (ranges_stay c.own (written_now c h.agrees)).resync refl (kept.notices_keep (is_standing c.seat) (reads_of c) h.reads).resync h

pub given_up_mid : (most : ℕ) (c : Core) → Mid most c → Mid most (record c { own = all_given_up c.own })
given_up_mid most c h = own_mid most c (all_given_up c.own) (all_itself c.own.waits.writes) (ranges_stay c.own (written_now c h.agrees)).compaction refl (kept.notices_keep (is_standing c.seat) (reads_of c) h.reads).compaction h

-- Calls that end.

-- with a session nothing more has to hold of reads
stand_more : (b : Bool) (r : Reads) → ReadsOk b r → ReadsOk true r
stand_more b r h = record { ground = record { keys = h.ground.keys; marks = h.ground.marks; owned = λ n k. absurd (cc) }; asks = h.asks }

-- of a grant that is out there is no session yet
grant_reads : (c : Core) (n lease : ℕ) → job_at n c.out ≡ Some (job.Grant lease) → seat_calls n c.seat ≡ true → is_seat_out c.out c.seat ≡ true → is_standing c.seat ≡ false
grant_reads c n lease f t h =
    let x = seat_standing n (job.Grant lease) c.out c.seat f t h in
    ap is_standing x.1 ∙ not_yet x.0.session.standing x.2
  where
    not_yet : (y : Option Standing) → is_session_job y (job.Grant lease) ≡ true → has_standing y ≡ false
    not_yet None u = refl
    not_yet (Some z) u = absurd (cc)

grant_lost_mid : (most : ℕ) (c : Core) (o : OutCall) (lease : ℕ) → job_at o.call c.out ≡ Some (job.Grant lease) → Mid most c → Mid most (grant_failed o (call_gone o.call c))
grant_lost_mid most c o lease f h = record { given = by_test (λ (d : Core). nat_le d.calls (d.steps + most) ≡ true) (seat_calls o.call c.seat) (record (call_gone o.call c) { seat = None }) (call_gone o.call c) (λ t. h.given) (λ t. h.given); reads = reads; agrees = grant_fails c o lease f h.agrees }
  where
    reads : ReadsOk (is_standing (grant_failed o (call_gone o.call c)).seat) (reads_of (grant_failed o (call_gone o.call c)))
    reads =
        by_test (λ (d : Core). ReadsOk (is_standing d.seat) (reads_of d)) (seat_calls o.call c.seat) (record (call_gone o.call c) { seat = None }) (call_gone o.call c)
        (λ t. subst (λ b. ReadsOk b (reads_of c)) (grant_reads c o.call lease f t h.agrees.out.seat) h.reads) (λ t. h.reads)

free_standing : (s : Option Seat) → is_standing (seat_free s) ≡ is_standing s
free_standing None = refl
free_standing (Some s) = refl

keep_lost_mid : (most : ℕ) (c : Core) (o : OutCall) (lease : ℕ) → job_at o.call c.out ≡ Some (job.Keep lease) → Mid most c → Mid most (keep_failed o (call_gone o.call c))
keep_lost_mid most c o lease f h = record { given = by_test (λ (d : Core). nat_le d.calls (d.steps + most) ≡ true) (seat_calls o.call c.seat) (record (call_gone o.call c) { seat = seat_free c.seat }) (call_gone o.call c) (λ t. h.given) (λ t. h.given); reads = reads; agrees = keep_fails c o lease f h.agrees }
  where
    reads : ReadsOk (is_standing (keep_failed o (call_gone o.call c)).seat) (reads_of (keep_failed o (call_gone o.call c)))
    reads =
        by_test (λ (d : Core). ReadsOk (is_standing d.seat) (reads_of d)) (seat_calls o.call c.seat) (record (call_gone o.call c) { seat = seat_free c.seat }) (call_gone o.call c)
        (λ t. subst (λ b. ReadsOk b (reads_of c)) (sym (free_standing c.seat)) h.reads) (λ t. h.reads)

abbrev pub MidIf : ℕ → Option Core → Type 0
MidIf most None = Unit {0}
MidIf most (Some c) = Mid most c

abbrev ReadsIf : Option Core → Type 0
ReadsIf None = Unit {0}
ReadsIf (Some c) = ReadsOk (is_standing c.seat) (reads_of c)

abbrev GivenIf : ℕ → Option Core → Type 0
GivenIf most None = Unit {0}
GivenIf most (Some c) = nat_le c.calls (c.steps + most) ≡ true

mid_if : (most : ℕ) (o : Option Core) → GivenIf most o → ReadsIf o → AgreesIf o → MidIf most o
mid_if most None g r a = tt
mid_if most (Some c) g r a = record { given = g; reads = r; agrees = a }

granted_reads : (sent_at ttl : ℕ) (s : Option Seat) (r : Reads) → ReadsOk (is_standing s) r → ReadsOk (is_standing (seat_granted sent_at ttl s)) r
granted_reads sent_at ttl None r h = h
granted_reads sent_at ttl (Some s) r h = stand_more (has_standing s.session.standing) r h

grant_mid : (most : ℕ) (c : Core) (o : OutCall) (lease : ℕ) (a : Answer) → job_at o.call c.out ≡ Some (job.Grant lease) → Mid most c → MidIf most (grant_answered o a (call_gone o.call c))
grant_mid most c o lease (answer.Refused r) f h = grant_lost_mid most c o lease f h
grant_mid most c o lease (answer.Done reply) f h = mid_if most (grant_answered o (answer.Done reply) (call_gone o.call c)) (given_by reply.body) (reads_by reply.body) (grant_is_answered c o lease (answer.Done reply) f h.agrees)
  where
    given_by : (b : Body) → GivenIf most (granted_by o b (call_gone o.call c))
    given_by (body.Grant n ttl) = by_test (λ (d : Core). nat_le d.calls (d.steps + most) ≡ true) (seat_calls o.call c.seat) (record (call_gone o.call c) { seat = seat_granted o.sent_at ttl c.seat }) (call_gone o.call c) (λ t. h.given) (λ t. h.given)
    given_by _ = tt

    reads_by : (b : Body) → ReadsIf (granted_by o b (call_gone o.call c))
    reads_by (body.Grant n ttl) =
        by_test (λ (d : Core). ReadsOk (is_standing d.seat) (reads_of d)) (seat_calls o.call c.seat) (record (call_gone o.call c) { seat = seat_granted o.sent_at ttl c.seat }) (call_gone o.call c)
        (λ t. granted_reads o.sent_at ttl c.seat (reads_of c) h.reads) (λ t. h.reads)
    reads_by _ = tt

keep_mid : (most : ℕ) (c : Core) (now : ℕ) (o : OutCall) (lease : ℕ) (a : Answer) → job_at o.call c.out ≡ Some (job.Keep lease) → Mid most c → MidIf most (keep_answered now o a (call_gone o.call c))
keep_mid most c now o lease (answer.Refused r) f h = keep_lost_mid most c o lease f h
keep_mid most c now o lease (answer.Done reply) f h = mid_if most (keep_answered now o (answer.Done reply) (call_gone o.call c)) (given_by reply.body) (reads_by reply.body) (keep_is_answered c now o lease (answer.Done reply) f h.agrees)
  where
    kept_as : (P : Core → Type 0) (ttl : ℕ) → P (without_session now (call_gone o.call c)) → P (record (call_gone o.call c) { seat = seat_renewed o.sent_at ttl c.seat }) → P (call_gone o.call c) → P (cond (seat_calls o.call c.seat) (sessions.kept now o ttl (call_gone o.call c)) (call_gone o.call c))
    kept_as P ttl x y z =
        by_test P (seat_calls o.call c.seat) (sessions.kept now o ttl (call_gone o.call c)) (call_gone o.call c)
        (λ t. by_test P (ttl == 0) (without_session now (call_gone o.call c)) (record (call_gone o.call c) { seat = seat_renewed o.sent_at ttl c.seat }) (λ u. x) (λ u. y)) (λ t. z)

    given_by : (b : Body) → GivenIf most (kept_by now o b (call_gone o.call c))
    given_by (body.KeepAlive n ttl) = kept_as (λ (d : Core). nat_le d.calls (d.steps + most) ≡ true) ttl h.given h.given h.given
    given_by _ = tt

    reads_by : (b : Body) → ReadsIf (kept_by now o b (call_gone o.call c))
    reads_by (body.KeepAlive n ttl) =
        kept_as (λ (d : Core). ReadsOk (is_standing d.seat) (reads_of d)) ttl
        (kept.session_end_keeps (is_standing c.seat) (moment (record (call_gone o.call c) { seat = None }) now) (reads_of c) h.reads.ground)
        (subst (λ b. ReadsOk b (reads_of c)) (sym (renewed_standing o.sent_at ttl c.seat)) h.reads)
        h.reads
    reads_by _ = tt

live_stands : (s : Option Seat) (now : ℕ) → is_some (live_number s now) ≡ true → is_standing s ≡ true
live_stands None now t = absurd (cc)
live_stands (Some s) now t = by_standing s.session.standing refl (by_live (is_live s.session now) t)
  where
    by_live : (b : Bool) → is_some (number_if b s.session.number) ≡ true → b ≡ true
    by_live true t = refl
    by_live false t = absurd (cc)

    by_standing : (x : Option Standing) → s.session.standing ≡ x → is_live s.session now ≡ true → has_standing s.session.standing ≡ true
    by_standing None e u = absurd (let v = ap (λ (y : Option Standing). is_live (record s.session { standing = y }) now) e in cc)
    by_standing (Some y) e u = ap has_standing e

acquire_mid : (most : ℕ) (c : Core) (now n : ℕ) (k : List ℕ) (a : Answer) → job_at n c.out ≡ Some (job.Acquire k) → Mid most c → MidIf most (acquire_if (call_gone n c) (acquire_answered (moment (call_gone n c) now) k a (reads_of c)))
acquire_mid most c now n k a f h =
    by_after (acquire_answered (moment (call_gone n c) now) k a (reads_of c)) (kept.acquires_keep (is_standing c.seat) (moment (call_gone n c) now) k a (reads_of c) (live_stands c.seat now) h.reads) (acquire_is_answered (is_standing c.seat) c (moment (call_gone n c) now) n k a f h.reads h.agrees)
  where
    by_end : (ends : Bool) (r : Reads) → ReadsOk (cond ends false (is_standing c.seat)) r → Agrees (acquire_ended (call_gone n c) (record { reads = r; ends = ends })) → Mid most (acquire_ended (call_gone n c) (record { reads = r; ends = ends }))
    by_end true r x y = record { given = h.given; reads = x; agrees = y }
    by_end false r x y = record { given = h.given; reads = x; agrees = y }

    by_after : (o : Option AfterAcquire) → keeps.KeptAfter (is_standing c.seat) o → AgreesIf (acquire_if (call_gone n c) o) → MidIf most (acquire_if (call_gone n c) o)
    by_after None x y = tt
    by_after (Some z) x y = by_end z.ends z.reads x y

covered : (own : Ownership) (call : ℕ) (a : Answer) → IsWritten own → ShowsBytes a → OwnersCovered (sends call) a own
covered own call (answer.Done reply) h b = owners_are_covered own (sends call) reply h b
covered own call (answer.Refused r) h b = tt

wait_mid : (most : ℕ) (c : Core) (m : Moment) (n : ℕ) (a : Answer) → job_at n c.out ≡ Some job.Wait → ShowsBytes a → Mid most c → MidIf most (reads_if (call_gone n c) (wait_answered m n a (reads_of c)))
wait_mid most c m n a f b h =
    by_reads (wait_answered m n a (reads_of c)) (kept.answers_keep (is_standing c.seat) m n a (reads_of c) (covered c.own n a (written_now c h.agrees) b) h.reads.ground) (wait_is_answered (is_standing c.seat) c m n a f h.reads h.agrees)
  where
    by_reads : (o : Option Reads) → keeps.KeptIf (is_standing c.seat) o → AgreesIf (reads_if (call_gone n c) o) → MidIf most (reads_if (call_gone n c) o)
    by_reads None x y = tt
    by_reads (Some r) x y = record { given = h.given; reads = x; agrees = y }

-- A request's own call, and a group's: what they come to waits for nothing at a key.

record Rests (f : Asked → Asked) : Type 0 where
  frees : Frees f
  stand : (x : Asked) (ticket : ℕ) (e : Option Entry) (a : Option Acquire) → stands ticket e a (f x).stage ≡ true

caller_mid : (most : ℕ) (c : Core) (n : ℕ) (k : CallKind) (t : Asked → Asked) → job_at n c.out ≡ Some (job.Ask k) → Rests t → Mid most c → Mid most (with_caller n t (call_gone n c))
caller_mid most c n k t f r h = record {
  given = h.given;
  reads = record { ground = h.reads.ground; asks = all_mapped (ask_stands (ground_of (reads_of c))) (ask_stands (ground_of (reads_of c))) (caller n t) (λ x u. by_test (λ (y : Asked). ask_stands (ground_of (reads_of c)) y ≡ true) (calls_as n x) (t x) x (λ v. r.stand x (t x).ticket (at c.own.entries (ask_key (t x))) (at c.acquires (ask_key (t x)))) (λ v. u)) c.asks h.reads.asks };
  agrees = caller_ends c n k t f r.frees h.agrees;
}

lost_rests : (members step : ℕ) → Rests (lost_once members step)
lost_rests members step = record {
  frees = record { ticket = λ x. refl; free = λ x. by_test (λ (s : Stage). is_free s ≡ true) (nat_le members (capped (x.losses + 1))) (stage.Replied verdict.Lost) (called step) (λ t. refl) (λ t. refl) };
  stand = λ x ticket e a. by_test (λ (s : Stage). stands ticket e a s ≡ true) (nat_le members (capped (x.losses + 1))) (stage.Replied verdict.Lost) (called step) (λ t. refl) (λ t. refl);
}

replied_rests : (v : Verdict) → Rests (in_stage (stage.Replied v))
replied_rests v = record { frees = record { ticket = λ x. refl; free = λ x. refl }; stand = λ x ticket e a. refl }

stale_rests : (members step : ℕ) → Rests (stale_once members step)
stale_rests members step = record {
  frees = record { ticket = λ x. refl; free = λ x. by_test (λ (s : Stage). is_free s ≡ true) (nat_le (stales_limit members) (capped (x.stales + 1))) (stage.Replied verdict.Stale) (called step) (λ t. refl) (λ t. refl) };
  stand = λ x ticket e a. by_test (λ (s : Stage). stands ticket e a s ≡ true) (nat_le (stales_limit members) (capped (x.stales + 1))) (stage.Replied verdict.Stale) (called step) (λ t. refl) (λ t. refl);
}

lost_ask_rests : (k : CallKind) (o : OutCall) (c : Core) → Rests (lost_ask k o c)
lost_ask_rests k o c = by_read (is_read k)
  where
    by_read : (b : Bool) → Rests (λ a. cond b (lost_once c.members.count c.own.waits.step a) (in_stage (stage.Replied verdict.Lost) a))
    by_read true = lost_rests c.members.count c.own.waits.step
    by_read false = replied_rests verdict.Lost

group_mid : (most : ℕ) (c : Core) (step n lease : ℕ) (v : Verdict) → job_at n c.out ≡ Some (job.Group lease) → Mid most c → Mid most (record (call_gone n c) { asks = groups_ended step n lease v c.asks })
group_mid most c step n lease v f h = record {
  given = h.given;
  reads = record { ground = h.reads.ground; asks = all_mapped (ask_stands (ground_of (reads_of c))) (ask_stands (ground_of (reads_of c))) (group_ended step n lease v) each c.asks h.reads.asks };
  agrees = group_ends c step n lease v f h.agrees;
}
  where
    each : (x : Asked) → ask_stands (ground_of (reads_of c)) x ≡ true → ask_stands (ground_of (reads_of c)) (group_ended step n lease v x) ≡ true
    each x t =
        by_test (λ (y : Asked). ask_stands (ground_of (reads_of c)) y ≡ true) (is_out_stage n x.stage) (in_stage (stage.Replied v) x) (cond (keeps_lease lease x.request && waits_next x.stage) (in_stage (stage.Grouped (Some (sending.Due step))) x) x) (λ u. refl)
        (λ u. by_test (λ (y : Asked). ask_stands (ground_of (reads_of c)) y ≡ true) (keeps_lease lease x.request && waits_next x.stage) (in_stage (stage.Grouped (Some (sending.Due step))) x) x (λ w. refl) (λ w. t))

-- Losses.

lost_by : (most now : ℕ) (o : OutCall) (j : OutJob) (c : Core) → job_at o.call c.out ≡ Some j → Mid most c → Mid most (lost_job now o j (call_gone o.call c))
lost_by most now o (job.Grant lease) c f h = grant_lost_mid most c o lease f h
lost_by most now o (job.Keep lease) c f h = keep_lost_mid most c o lease f h
lost_by most now o (job.Acquire k) c f h = record {
  given = h.given;
  reads = kept.acquire_losses_keep (is_standing c.seat) c.members.count (moment (call_gone o.call c) now) k (reads_of c) h.reads.ground;
  agrees = acquire_is_lost c (moment (call_gone o.call c) now) c.members.count o.call k f h.agrees;
}
lost_by most now o job.Wait c f h = record {
  given = h.given;
  reads = kept.losses_keep (is_standing c.seat) (moment (call_gone o.call c) now) o.call (reads_of c) h.reads.ground;
  agrees = wait_is_lost c (moment (call_gone o.call c) now) o.call f h.agrees;
}
lost_by most now o (job.Ask k) c f h = caller_mid most c o.call k (lost_ask k o (call_gone o.call c)) f (lost_ask_rests k o (call_gone o.call c)) h
lost_by most now o (job.Group lease) c f h = group_mid most c c.own.waits.step o.call lease verdict.Lost f h

member_mid : (most : ℕ) (o : OutCall) (c : Core) → Mid most c → Mid most (member_failed o c)
member_mid most o c h = beside_mid most c (member_failed o c).members c.header c.leasing c.watches h

pub lost_mid : (most now : ℕ) (o : OutCall) (c : Core) → job_at o.call c.out ≡ Some o.job → Mid most c → Mid most (lost_call now o (call_gone o.call c))
lost_mid most now o c f h = lost_by most now o o.job (member_failed o c) f (member_mid most o c h)

-- Answers.

ask_mid : (most : ℕ) (k : CallKind) (o : OutCall) (a : Answer) (c : Core) → job_at o.call c.out ≡ Some (job.Ask k) → Mid most c → MidIf most (ask_answered k o a (call_gone o.call c))
ask_mid most k o (answer.Refused r) c f h = caller_mid most c o.call k (said (answer.Refused r)) f (replied_rests (verdict.Said (answer.Refused r))) h
ask_mid most k o (answer.Done reply) c f h =
    by_test (MidIf most) (is_body_of k reply.body) (Some (ask_done k o reply (call_gone o.call c))) None
    (λ t. by_test (Mid most) (is_stale_reply k o reply) (with_caller o.call (stale_once c.members.count c.own.waits.step) (member_failed o (call_gone o.call c))) (with_caller o.call (said (answer.Done reply)) (call_gone o.call c))
    (λ u. caller_mid most (member_failed o c) o.call k (stale_once c.members.count c.own.waits.step) f (stale_rests c.members.count c.own.waits.step) (member_mid most o c h))
    (λ u. caller_mid most c o.call k (said (answer.Done reply)) f (replied_rests (verdict.Said (answer.Done reply))) h))
    (λ t. tt)

answered_by : (most now : ℕ) (o : OutCall) (j : OutJob) (a : Answer) (c : Core) → job_at o.call c.out ≡ Some j → ShowsBytes a → Mid most c → MidIf most (answered_job now o j a (call_gone o.call c))
answered_by most now o (job.Grant lease) a c f b h = grant_mid most c o lease a f h
answered_by most now o (job.Keep lease) a c f b h = keep_mid most c now o lease a f h
answered_by most now o (job.Acquire k) a c f b h = acquire_mid most c now o.call k a f h
answered_by most now o job.Wait a c f b h = wait_mid most c (moment (call_gone o.call c) now) o.call a f b h
answered_by most now o (job.Ask k) a c f b h = ask_mid most k o a c f h
answered_by most now o (job.Group lease) a c f b h =
    by_test (MidIf most) (is_keepalive a) (Some (record (call_gone o.call c) { asks = groups_ended c.own.waits.step o.call lease (verdict.Said a) c.asks })) None (λ t. group_mid most c c.own.waits.step o.call lease (verdict.Said a) f h) (λ t. tt)

heard_mid : (most now : ℕ) (o : OutCall) (x : Option Answer) (c : Core) → job_at o.call c.out ≡ Some o.job → HeardBytes x → Mid most c → Mid most (heard_call now o x (call_gone o.call c))
heard_mid most now o None c f b h = lost_mid most now o c f h
heard_mid most now o (Some a) c f b h = by_answer (answered_job now o o.job a (call_gone o.call c)) (answered_by most now o o.job a c f b h)
  where
    by_answer : (y : Option Core) → MidIf most y → Mid most (or_lost now o (call_gone o.call c) y)
    by_answer None t = lost_mid most now o c f h
    by_answer (Some d) t = t

pub answered_mid : (most now : ℕ) (o : OutCall) (a : Answer) (c : Core) → job_at o.call c.out ≡ Some o.job → HeardBytes (heard c.settings.namespace a) → Mid most c → Mid most (answered_call now o a (call_gone o.call c))
answered_mid most now o (answer.Done reply) c f b h =
    let d = answer_taken (answer.Done reply) c in
    heard_mid most now o (heard c.settings.namespace (answer.Done reply)) d f b (beside_mid most c d.members d.header c.leasing c.watches h)
answered_mid most now o (answer.Refused r) c f b h = heard_mid most now o (heard c.settings.namespace (answer.Refused r)) c f b h
