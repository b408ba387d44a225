-- A call is answered or lost: what agrees before agrees after it, by what the call was for.
use Rattle.std.proofs.Common.{◌≡◌, ℕ, ◌+◌, ◌==◌, nat_le, Bool, true, false, cond, ◌&&◌, List, map, Option, None, Some, refl, sym, ◌∙◌, ap, subst}
use Rattle.std.specs.List.{list_any, list_all}
use Rattle.etcd_types.specs.declared.answer.Answer.{Answer}
use Rattle.etcd_types.specs.declared.answer.Answer.TheVariants as answer
use Rattle.etcd_types.specs.declared.answer.Body.{Body}
use Rattle.etcd_types.specs.declared.answer.Body.TheVariants as body
use Rattle.etcd_types.specs.declared.code.TheConstants.{NOT_FOUND}
use Rattle.etcd_types.specs.declared.record.Header.{Header}
use Rattle.etcd_types.specs.declared.record.Kv.{Kv}
use Rattle.etcd_types.specs.Keys.{same}
use Rattle.etcd_types.proofs.KeyOrder.{same-equal}
use Rattle.etcd_types.proofs.Bools.{and_second, and_false, or_false}
use Rattle.proxy_model.specs.Limits.{capped}
use Rattle.proxy_model.specs.declared.lease.Entry.{Entry}
use Rattle.proxy_model.specs.declared.ownership.Claim.{Claim}
use Rattle.proxy_model.specs.declared.ownership.Claim.TheVariants.{Acquired, OwnedBy}
use Rattle.proxy_model.specs.declared.session.Standing.{Standing}
use Rattle.proxy_model.specs.Acquire.{claimed}
use Rattle.proxy_model.specs.Keyed.{Keyed, at, with_at}
use Rattle.proxy_model.specs.Session.{renewed_standing as standing_renewed}
use Rattle.wait_model.specs.declared.sending.Sending.{Sending}
use Rattle.wait_model.specs.declared.sending.Sending.TheVariants as sending
use Rattle.wait_model.specs.declared.wait.WaitCall.{WaitCall}
use Rattle.wait_model.specs.Endings as endings
use Rattle.wait_model.specs.GuardedAnswers.{Ending}
use Rattle.core_laws.proofs.Writes.WrittenKept.{ranges_stay}
use Rattle.core_laws.specs.Writes.Written.{EndsWritten, IsWritten}
use Rattle.read_model.specs.declared.acquire.Acquire.{Acquire}
use Rattle.read_model.specs.declared.asked.Asked.{Asked}
use Rattle.read_model.specs.declared.asked.Stage.{Stage}
use Rattle.read_model.specs.declared.asked.Stage.TheVariants as stage
use Rattle.read_model.specs.declared.asked.Verdict.{Verdict}
use Rattle.read_model.specs.declared.asked.Verdict.TheVariants as verdict
use Rattle.read_model.specs.Acquires.{acquires_at, acquired, owned_by, acquire_gone, done_by, acquire_refused, answered_acquire, acquire_answered, is_to_be_held, lost_once, told_lost, acquire_lost}
use Rattle.read_model.specs.Fits.{ReadsOk}
use Rattle.read_model.specs.PlainRead.{in_stage, called, shown}
use Rattle.read_model.specs.Release.{released}
use Rattle.read_model.specs.State.{Reads, Moment, ground_of, on}
use Rattle.read_model.specs.TakingOff.{is_writes}
use Rattle.read_model.specs.WriteAnswers.{settled_ask, ending, wait_answered, wait_lost}
use Rattle.core_laws.proofs.PlainReads.InPlace.{answers_in_place, wins_in_place}
use Rattle.core_laws.specs.PlainReads.InPlace.{placed_by}
use Rattle.wait_model.specs.Phases.{is_session}
use Rattle.core_model.specs.declared.out_call.CallKind.{CallKind}
use Rattle.core_model.specs.declared.out_call.OutCall.{OutCall}
use Rattle.core_model.specs.declared.out_call.OutJob.{OutJob}
use Rattle.core_model.specs.declared.out_call.OutJob.TheVariants as job
use Rattle.core_model.specs.Ends.{call_gone, with_caller, acquire_ended, acquire_if, reads_if}
use Rattle.core_model.specs.Fits.{has_standing, is_standing, is_seated, job_at, passes, is_session_job, is_call_out, is_seat_out, is_acquire_of, is_acquire_out, is_ask_job, is_stage_out, is_wait, AsksOk, AreAwaited, GroupsOk, NumbersOk, Agrees}
use Rattle.core_model.specs.Groups.{group_ended, groups_ended, is_out_stage, waits_next, keeps}
use Rattle.core_model.specs.Lookups.{reads_of, with_reads, moment, without_out, calls_as, has_ticket}
use Rattle.core_model.specs.Sessions.{is_sent_as, seat_calls, seat_granted, granted_by, grant_failed, grant_answered, seat_free, keep_failed, seat_renewed, kept, kept_by, keep_answered, without_session}
use Rattle.core_model.specs.State.{Seat, Core}
use Rattle.core_laws.proofs.Steps.Agreeing.{to_written, from_written, placed_agrees, released_agrees, seat_left, seat_other, acquires_other, acquires_gone, awaited_gone, over_agrees, changed, changed_moves, told_agrees}
use Rattle.core_laws.proofs.Steps.Calls.{numbers_other, numbers_wait}
use Rattle.core_laws.proofs.Steps.Comes.{by_test}
use Rattle.core_laws.proofs.Steps.Groups.{NoGroup, groups_left, groups_end}
use Rattle.core_laws.proofs.Steps.Lists.{same_number, all_mapped, same_numbers, any_mapped, none_kept}
use Rattle.core_laws.proofs.Steps.Requests.{is_free, Frees, caller, caller_ok, none_moved, all_left, nobody_calls, all_out, all_groups, asks_changed, awaited_changed, acquires_is, settled_moves, settled_asks, settled_awaited}
use Rattle.core_laws.proofs.Steps.WaitEnds.{Ended, EndedIf, answered_ends, lost_ends, ended_writes}

abbrev pub AgreesIf : Option Core → Type 0
AgreesIf None = Unit {0}
AgreesIf (Some c) = Agrees c

-- The session's call.

-- a call that is no acquire's, no write's, no request's and no group's
pub record IsOther (j : OutJob) : Type 0 where
  pub acquire : (k : List ℕ) → is_acquire_of k j ≡ false
  pub ask : is_ask_job j ≡ false
  pub wait : is_wait j ≡ false
  pub group : NoGroup j

grant_other : (lease : ℕ) → IsOther (job.Grant lease)
grant_other lease = record { acquire = λ k. refl; ask = refl; wait = refl; group = λ l. refl }

keep_other : (lease : ℕ) → IsOther (job.Keep lease)
keep_other lease = record { acquire = λ k. refl; ask = refl; wait = refl; group = λ l. refl }

session_left : (c : Core) (n : ℕ) (j : OutJob) (s : Option Seat) → job_at n c.out ≡ Some j → IsOther j → Agrees c → is_seat_out (without_out n c.out) s ≡ true → is_seated s ≡ true → Agrees (record c { seat = s; out = without_out n c.out })
session_left c n j s f o h e t = record {
  writes = h.writes;
  asks = h.asks;
  awaited = h.awaited;
  out = record {
    seat = e;
    acquires = λ k. acquires_other n j c.out k (at c.acquires k) f (o.acquire k) (h.out.acquires k);
    asks = all_left n c.out c.asks (nobody_calls n j c.out c.asks f o.ask h.out.asks) h.out.asks;
  };
  numbers = numbers_other c.calls n j c.out c.own.waits.out f o.wait h.numbers;
  groups = groups_left n j c.out c.asks h.numbers.once f o.group h.groups;
  seated = t;
}

seat_stays : (c : Core) (n : ℕ) (j : OutJob) → job_at n c.out ≡ Some j → IsOther j → Agrees c → seat_calls n c.seat ≡ false → Agrees (call_gone n c)
seat_stays c n j f o h e = session_left c n j c.seat f o h (seat_left n c.out c.seat e h.out.seat) h.seated

pub grant_fails : (c : Core) (o : OutCall) (lease : ℕ) → job_at o.call c.out ≡ Some (job.Grant lease) → Agrees c → Agrees (grant_failed o (call_gone o.call c))
grant_fails c o lease f h =
    by_test (λ (d : Core). Agrees d) (seat_calls o.call c.seat) (record (call_gone o.call c) { seat = None }) (call_gone o.call c)
    (λ t. session_left c o.call (job.Grant lease) None f (grant_other lease) h refl refl)
    (λ t. seat_stays c o.call (job.Grant lease) f (grant_other lease) h t)

-- a keepalive is out of a session that stands, and a grant of one that doesn't yet
pub seat_standing : (n : ℕ) (j : OutJob) (out : List OutCall) (s : Option Seat) → job_at n out ≡ Some j → seat_calls n s ≡ true → is_seat_out out s ≡ true → (x : Seat) × (s ≡ Some x) × (is_session_job x.session.standing j ≡ true)
seat_standing n j out None f t h = absurd (cc)
seat_standing n j out (Some s) f t h = (s, refl, by_call s.session.standing s.call t h)
  where
    by_call : (x : Option Standing) (o : Option Sending) → is_sent_as n o ≡ true → is_call_out x out o ≡ true → is_session_job x j ≡ true
    by_call x None t h = absurd (cc)
    by_call x (Some (sending.Due since)) t h = absurd (cc)
    by_call x (Some (sending.Out m)) t h = sym (ap (passes (is_session_job x)) f) ∙ ap (λ i. passes (is_session_job x) (job_at i out)) (sym (same_number m n t)) ∙ h

keep_stands : (lease : ℕ) (x : Option Standing) → is_session_job x (job.Keep lease) ≡ true → has_standing x ≡ true
keep_stands lease None h = absurd (cc)
keep_stands lease (Some y) h = refl

standing_of : (n lease : ℕ) (out : List OutCall) (s : Option Seat) → job_at n out ≡ Some (job.Keep lease) → seat_calls n s ≡ true → is_seat_out out s ≡ true → is_standing s ≡ true
standing_of n lease out s f t h =
    let x = seat_standing n (job.Keep lease) out s f t h in
    ap is_standing x.1 ∙ keep_stands lease x.0.session.standing x.2

free_out : (out : List OutCall) (s : Option Seat) → is_seat_out out (seat_free s) ≡ true
free_out out None = refl
free_out out (Some s) = refl

free_seated : (s : Option Seat) → is_standing s ≡ true → is_seated (seat_free s) ≡ true
free_seated None t = refl
free_seated (Some s) t = or_false (has_standing s.session.standing) ∙ t

pub keep_fails : (c : Core) (o : OutCall) (lease : ℕ) → job_at o.call c.out ≡ Some (job.Keep lease) → Agrees c → Agrees (keep_failed o (call_gone o.call c))
keep_fails c o lease f h =
    by_test (λ (d : Core). Agrees d) (seat_calls o.call c.seat) (record (call_gone o.call c) { seat = seat_free c.seat }) (call_gone o.call c)
    (λ t. session_left c o.call (job.Keep lease) (seat_free c.seat) f (keep_other lease) h (free_out (without_out o.call c.out) c.seat) (free_seated c.seat (standing_of o.call lease c.out c.seat f t h.out.seat)))
    (λ t. seat_stays c o.call (job.Keep lease) f (keep_other lease) h t)

granted_out : (out : List OutCall) (sent_at ttl : ℕ) (s : Option Seat) → is_seat_out out (seat_granted sent_at ttl s) ≡ true
granted_out out sent_at ttl None = refl
granted_out out sent_at ttl (Some s) = refl

granted_seated : (sent_at ttl : ℕ) (s : Option Seat) → is_seated (seat_granted sent_at ttl s) ≡ true
granted_seated sent_at ttl None = refl
granted_seated sent_at ttl (Some s) = refl

pub grant_is_answered : (c : Core) (o : OutCall) (lease : ℕ) (a : Answer) → job_at o.call c.out ≡ Some (job.Grant lease) → Agrees c → AgreesIf (grant_answered o a (call_gone o.call c))
grant_is_answered c o lease (answer.Refused r) f h = grant_fails c o lease f h
grant_is_answered c o lease (answer.Done reply) f h = by_body reply.body
  where
    granted : (ttl : ℕ) → Agrees (cond (seat_calls o.call c.seat) (record (call_gone o.call c) { seat = seat_granted o.sent_at ttl c.seat }) (call_gone o.call c))
    granted ttl =
        by_test (λ (d : Core). Agrees d) (seat_calls o.call c.seat) (record (call_gone o.call c) { seat = seat_granted o.sent_at ttl c.seat }) (call_gone o.call c)
        (λ t. session_left c o.call (job.Grant lease) (seat_granted o.sent_at ttl c.seat) f (grant_other lease) h (granted_out (without_out o.call c.out) o.sent_at ttl c.seat) (granted_seated o.sent_at ttl c.seat))
        (λ t. seat_stays c o.call (job.Grant lease) f (grant_other lease) h t)

    by_body : (b : Body) → AgreesIf (granted_by o b (call_gone o.call c))
    by_body (body.Grant n ttl) = granted ttl
    by_body _ = tt

renewed_out : (out : List OutCall) (sent_at ttl : ℕ) (s : Option Seat) → is_seat_out out (seat_renewed sent_at ttl s) ≡ true
renewed_out out sent_at ttl None = refl
renewed_out out sent_at ttl (Some s) = refl

pub renewed_standing : (sent_at ttl : ℕ) (s : Option Seat) → is_standing (seat_renewed sent_at ttl s) ≡ is_standing s
renewed_standing sent_at ttl None = refl
renewed_standing sent_at ttl (Some s) = by_standing s.session.standing
  where
    by_standing : (x : Option Standing) → has_standing (standing_renewed x sent_at ttl) ≡ has_standing x
    by_standing None = refl
    by_standing (Some y) = refl

renewed_seated : (sent_at ttl : ℕ) (s : Option Seat) → is_standing s ≡ true → is_seated (seat_renewed sent_at ttl s) ≡ true
renewed_seated sent_at ttl None t = refl
renewed_seated sent_at ttl (Some s) t = or_false (is_standing (seat_renewed sent_at ttl (Some s))) ∙ renewed_standing sent_at ttl (Some s) ∙ t

pub keep_is_answered : (c : Core) (now : ℕ) (o : OutCall) (lease : ℕ) (a : Answer) → job_at o.call c.out ≡ Some (job.Keep lease) → Agrees c → AgreesIf (keep_answered now o a (call_gone o.call c))
keep_is_answered c now o lease (answer.Refused r) f h = keep_fails c o lease f h
keep_is_answered c now o lease (answer.Done reply) f h = by_body reply.body
  where
    g : Core
    g = call_gone o.call c

    ended : Agrees (without_session now (call_gone o.call c))
    ended = over_agrees (moment (record (call_gone o.call c) { seat = None }) now) (call_gone o.call c) (session_left c o.call (job.Keep lease) None f (keep_other lease) h refl refl)

    again : (ttl : ℕ) → seat_calls o.call c.seat ≡ true → Agrees (record (call_gone o.call c) { seat = seat_renewed o.sent_at ttl c.seat })
    again ttl t = session_left c o.call (job.Keep lease) (seat_renewed o.sent_at ttl c.seat) f (keep_other lease) h (renewed_out (without_out o.call c.out) o.sent_at ttl c.seat) (renewed_seated o.sent_at ttl c.seat (standing_of o.call lease c.out c.seat f t h.out.seat))

    is_kept : (ttl : ℕ) → Agrees (cond (seat_calls o.call c.seat) (kept now o ttl (call_gone o.call c)) (call_gone o.call c))
    is_kept ttl =
        by_test (λ (d : Core). Agrees d) (seat_calls o.call c.seat) (kept now o ttl (call_gone o.call c)) (call_gone o.call c)
        (λ t. by_test (λ (d : Core). Agrees d) (ttl == 0) (without_session now (call_gone o.call c)) (record (call_gone o.call c) { seat = seat_renewed o.sent_at ttl c.seat }) (λ u. ended) (λ u. again ttl t))
        (λ t. seat_stays c o.call (job.Keep lease) f (keep_other lease) h t)

    by_body : (b : Body) → AgreesIf (kept_by now o b (call_gone o.call c))
    by_body (body.KeepAlive n ttl) = is_kept ttl
    by_body _ = tt

-- An acquire.

not_session : (k : List ℕ) (x : Option Standing) → is_session_job x (job.Acquire k) ≡ false
not_session k None = refl
not_session k (Some y) = refl

-- it is gone from its key
acquire_left : (c : Core) (n : ℕ) (k : List ℕ) (xs : List Asked) (es : Keyed Entry) (ss : Keyed Bool) → job_at n c.out ≡ Some (job.Acquire k) → Agrees c → AsksOk xs c.own.waits.writes → AreAwaited xs (with_at c.acquires k None) → list_any (calls_as n) xs ≡ false → list_all (λ a. is_stage_out c.out a.stage) xs ≡ true → GroupsOk c.out xs → Agrees (record c { own = record { entries = es; waits = record c.own.waits { spoiled = ss } }; acquires = with_at c.acquires k None; asks = xs; out = without_out n c.out })
acquire_left c n k xs es ss f h a w e s g = record {
  writes = h.writes;
  asks = a;
  awaited = w;
  out = record {
    seat = seat_other n (job.Acquire k) c.out c.seat f (not_session k) h.out.seat;
    acquires = acquires_gone n k c.out c.acquires f h.out.acquires;
    asks = all_left n c.out xs e s;
  };
  numbers = numbers_other c.calls n (job.Acquire k) c.out c.own.waits.out f refl h.numbers;
  groups = groups_left n (job.Acquire k) c.out xs h.numbers.once f (λ l. refl) g;
  seated = h.seated;
}

told_left : (c : Core) (n : ℕ) (k : List ℕ) (t : Asked → Asked) (es : Keyed Entry) (ss : Keyed Bool) → job_at n c.out ≡ Some (job.Acquire k) → Frees t → Agrees c → Agrees (record c { own = record { entries = es; waits = record c.own.waits { spoiled = ss } }; acquires = with_at c.acquires k None; asks = map (changed (acquires_at k) t) c.asks; out = without_out n c.out })
told_left c n k t es ss f r h =
    let p = told_agrees k t c r h.asks h.awaited in
    let m = changed_moves (acquires_at k) t r in
    acquire_left c n k (map (changed (acquires_at k) t) c.asks) es ss f h p.0 p.1 (none_moved n (changed (acquires_at k) t) m c.asks (nobody_calls n (job.Acquire k) c.out c.asks f refl h.out.asks)) (all_out c.out (changed (acquires_at k) t) m c.asks h.out.asks) (all_groups c.out (changed (acquires_at k) t) m c.asks h.groups)

untold_left : (c : Core) (n : ℕ) (k : List ℕ) (es : Keyed Entry) (ss : Keyed Bool) → job_at n c.out ≡ Some (job.Acquire k) → Agrees c → Agrees (record c { own = record { entries = es; waits = record c.own.waits { spoiled = ss } }; acquires = with_at c.acquires k None; out = without_out n c.out })
untold_left c n k es ss f h = acquire_left c n k c.asks es ss f h h.asks (awaited_gone k c.asks c.acquires h.awaited) (nobody_calls n (job.Acquire k) c.out c.asks f refl h.out.asks) h.out.asks h.groups

stage_frees : (s : Stage) → is_free s ≡ true → Frees (in_stage s)
stage_frees s e = record { ticket = λ x. refl; free = λ x. e }

lost_frees : (members step : ℕ) → Frees (lost_once members step)
lost_frees members step = record { ticket = λ x. refl; free = λ x. by_test (λ (s : Stage). is_free s ≡ true) (nat_le members (capped (x.losses + 1))) (stage.Replied verdict.Lost) (called step) (λ t. refl) (λ t. refl) }

pub acquire_is_lost : (c : Core) (m : Moment) (members n : ℕ) (k : List ℕ) → job_at n c.out ≡ Some (job.Acquire k) → Agrees c → Agrees (with_reads (call_gone n c) (acquire_lost members m k (reads_of c)))
acquire_is_lost c m members n k f h =
    released_agrees m (with_reads (call_gone n c) (on (acquire_gone k (ground_of (reads_of c))) (map (told_lost members c.own.waits.step k) c.asks))) (told_left c n k (lost_once members c.own.waits.step) c.own.entries (with_at c.own.waits.spoiled k None) f (lost_frees members c.own.waits.step) h)

pub acquire_is_answered : (standing : Bool) (c : Core) (m : Moment) (n : ℕ) (k : List ℕ) (a : Answer) → job_at n c.out ≡ Some (job.Acquire k) → ReadsOk standing (reads_of c) → Agrees c → AgreesIf (acquire_if (call_gone n c) (acquire_answered m k a (reads_of c)))
acquire_is_answered standing c m n k a f ok h = by_claim (at c.acquires k) refl a
  where
    stays_at : (i : List ℕ) → at c.acquires k ≡ None → is_acquire_out (without_out n c.out) i (at c.acquires i) ≡ true
    stays_at i e = by_same (same k i) refl
      where
        by_same : (b : Bool) → same k i ≡ b → is_acquire_out (without_out n c.out) i (at c.acquires i) ≡ true
        by_same true t = ap (is_acquire_out (without_out n c.out) i) (ap (at c.acquires) (sym (same-equal k i t)) ∙ e)
        by_same false t = acquires_other n (job.Acquire k) c.out i (at c.acquires i) f t (h.out.acquires i)

    nothing : at c.acquires k ≡ None → Agrees (call_gone n c)
    nothing e = record {
      writes = h.writes;
      asks = h.asks;
      awaited = h.awaited;
      out = record {
        seat = seat_other n (job.Acquire k) c.out c.seat f (not_session k) h.out.seat;
        acquires = λ i. stays_at i e;
        asks = all_left n c.out c.asks (nobody_calls n (job.Acquire k) c.out c.asks f refl h.out.asks) h.out.asks;
      };
      numbers = numbers_other c.calls n (job.Acquire k) c.out c.own.waits.out f refl h.numbers;
      groups = groups_left n (job.Acquire k) c.out c.asks h.numbers.once f (λ l. refl) h.groups;
      seated = h.seated;
    }

    won_by : (held : Bool) (d : Header) (create : ℕ) (kv : Option Kv) → Agrees (with_reads (call_gone n c) (released held m (acquired m k held d create kv (reads_of c))))
    won_by true d create kv =
        let x = acquired m k true d create kv (reads_of c) in
        subst (λ (r : Reads). Agrees (with_reads (call_gone n c) r)) (sym (wins_in_place standing m k d create kv (reads_of c) ok)) (placed_agrees true m.header (with_reads (call_gone n c) x) (told_left c n k (in_stage (shown d kv)) x.own.entries x.own.waits.spoiled f (stage_frees (shown d kv) refl) h))
    won_by false d create kv =
        let x = acquired m k false d create kv (reads_of c) in
        released_agrees m (with_reads (call_gone n c) x) (told_left c n k (in_stage (shown d kv)) x.own.entries x.own.waits.spoiled f (stage_frees (shown d kv) refl) h)

    done : (held : Bool) (d : Header) (o : Option Claim) → AgreesIf (acquire_if (call_gone n c) (done_by m k held d o (reads_of c)))
    done held d None = tt
    done held d (Some (Acquired create kv)) = won_by held d create kv
    done held d (Some (OwnedBy kv owner)) =
        let x = owned_by m k d kv owner (reads_of c) in
        released_agrees m (with_reads (call_gone n c) x) (told_left c n k (in_stage (shown d kv)) x.own.entries x.own.waits.spoiled f (stage_frees (shown d kv) refl) h)

    refused : (ends : Bool) → Agrees (acquire_ended (call_gone n c) (acquire_refused m k ends (reads_of c)))
    refused true =
        let g = untold_left c n k c.own.entries (with_at c.own.waits.spoiled k None) f h in
        over_agrees m (with_reads (call_gone n c) (on (acquire_gone k (ground_of (reads_of c))) c.asks)) (record { writes = g.writes; asks = g.asks; awaited = g.awaited; out = record { seat = refl; acquires = g.out.acquires; asks = g.out.asks }; numbers = g.numbers; groups = g.groups; seated = refl })
    refused false = released_agrees m (with_reads (call_gone n c) (on (acquire_gone k (ground_of (reads_of c))) c.asks)) (untold_left c n k c.own.entries (with_at c.own.waits.spoiled k None) f h)

    by_claim : (o : Option Acquire) → at c.acquires k ≡ o → (a : Answer) → AgreesIf (acquire_if (call_gone n c) (answered_acquire m k o a (reads_of c)))
    by_claim None e a = nothing e
    by_claim (Some x) e (answer.Done reply) = done (is_to_be_held m k x (reads_of c)) reply.header (claimed c.own.waits.prefix k reply)
    by_claim (Some x) e (answer.Refused r) = refused (is_session m.session x.session && (r.code == NOT_FOUND))

-- A write's call.

wait_not_session : (x : Option Standing) → is_session_job x job.Wait ≡ false
wait_not_session None = refl
wait_not_session (Some y) = refl

wait_ends : (c : Core) (n : ℕ) (x : Ending) → job_at n c.out ≡ Some job.Wait → Ended n (endings.without_out n c.own) x → IsWritten x.own → Agrees c → Agrees (with_reads (call_gone n c) (ending x (reads_of c)))
wait_ends c n x f e r h =
    let s = settled_ask x.settled in
    let m = settled_moves x.settled in
    record {
      writes = ended_writes n c.own x e (from_written x.own.waits.writes r) h.writes;
      asks = settled_asks x.settled c.own.waits.writes x.own.waits.writes c.asks e.how h.asks;
      awaited = settled_awaited x.settled c.own.waits.writes x.own.waits.writes c.asks c.acquires e.how h.asks h.awaited;
      out = record {
        seat = seat_other n job.Wait c.out c.seat f wait_not_session h.out.seat;
        acquires = λ k. acquires_other n job.Wait c.out k (at c.acquires k) f refl (h.out.acquires k);
        asks = all_left n c.out (map s c.asks) (none_moved n s m c.asks (nobody_calls n job.Wait c.out c.asks f refl h.out.asks)) (all_out c.out s m c.asks h.out.asks);
      };
      numbers = subst (λ (waiting : List WaitCall). NumbersOk c.calls (without_out n c.out) waiting) (sym e.out) (numbers_wait c.calls n c.out c.own.waits.out h.numbers);
      groups = groups_left n job.Wait c.out (map s c.asks) h.numbers.once f (λ l. refl) (all_groups c.out s m c.asks h.groups);
      seated = h.seated;
    }

pub wait_is_answered : (standing : Bool) (c : Core) (m : Moment) (n : ℕ) (a : Answer) → job_at n c.out ≡ Some job.Wait → ReadsOk standing (reads_of c) → Agrees c → AgreesIf (reads_if (call_gone n c) (wait_answered m n a (reads_of c)))
wait_is_answered standing c m n a f ok h =
    subst (λ (o : Option Reads). AgreesIf (reads_if (call_gone n c) o)) (sym (answers_in_place standing m n a (reads_of c) ok))
    (by_ending (endings.answered n a m.session m.now c.own) (answered_ends n a m.session m.now c.own h.writes) ((ranges_stay c.own (to_written c.own.waits.writes h.writes.ranges)).answers n a m.session m.now))
  where
    by_ending : (o : Option Ending) → EndedIf n (endings.without_out n c.own) o → EndsWritten o → AgreesIf (reads_if (call_gone n c) (placed_by m o (reads_of c)))
    by_ending None e r = tt
    by_ending (Some x) e r = placed_agrees true m.header (with_reads (call_gone n c) (ending x (reads_of c))) (wait_ends c n x f e r h)

pub wait_is_lost : (c : Core) (m : Moment) (n : ℕ) → job_at n c.out ≡ Some job.Wait → Agrees c → Agrees (with_reads (call_gone n c) (wait_lost m n (reads_of c)))
wait_is_lost c m n f h =
    let x = endings.lost n c.own in
    released_agrees m (with_reads (call_gone n c) (ending x (reads_of c))) (wait_ends c n x f (lost_ends n c.own h.writes) ((ranges_stay c.own (to_written c.own.waits.writes h.writes.ranges)).losses n) h)

-- A request's own call.

ask_not_session : (k : CallKind) (x : Option Standing) → is_session_job x (job.Ask k) ≡ false
ask_not_session k None = refl
ask_not_session k (Some y) = refl

pub caller_ends : (c : Core) (n : ℕ) (k : CallKind) (t : Asked → Asked) → job_at n c.out ≡ Some (job.Ask k) → Frees t → Agrees c → Agrees (with_caller n t (call_gone n c))
caller_ends c n k t f r h =
    let o = caller_ok n t c.asks c.own.waits.writes c.acquires c.out r h.asks h.awaited h.out.asks h.groups in
    record {
      writes = h.writes;
      asks = o.asks;
      awaited = o.awaited;
      out = record {
        seat = seat_other n (job.Ask k) c.out c.seat f (ask_not_session k) h.out.seat;
        acquires = λ i. acquires_other n (job.Ask k) c.out i (at c.acquires i) f refl (h.out.acquires i);
        asks = all_left n c.out (map (caller n t) c.asks) o.none o.stages;
      };
      numbers = numbers_other c.calls n (job.Ask k) c.out c.own.waits.out f refl h.numbers;
      groups = groups_left n (job.Ask k) c.out (map (caller n t) c.asks) h.numbers.once f (λ l. refl) o.groups;
      seated = h.seated;
    }

-- A group's call.

group_not_session : (lease : ℕ) (x : Option Standing) → is_session_job x (job.Group lease) ≡ false
group_not_session lease None = refl
group_not_session lease (Some y) = refl

out_no_write : (n : ℕ) (s : Stage) → is_out_stage n s ≡ true → is_writes s ≡ false
out_no_write n (stage.Grouped s) t = refl
out_no_write n (stage.Calling s) t = refl
out_no_write n stage.Acquiring t = refl
out_no_write n stage.Joined t = refl
out_no_write n stage.Behind t = refl
out_no_write n stage.Writes t = absurd (cc)
out_no_write n (stage.Replied v) t = refl

next_no_write : (s : Stage) → waits_next s ≡ true → is_writes s ≡ false
next_no_write (stage.Grouped s) t = refl
next_no_write (stage.Calling s) t = refl
next_no_write stage.Acquiring t = refl
next_no_write stage.Joined t = refl
next_no_write stage.Behind t = refl
next_no_write stage.Writes t = absurd (cc)
next_no_write (stage.Replied v) t = refl

pub group_ends : (c : Core) (step n lease : ℕ) (v : Verdict) → job_at n c.out ≡ Some (job.Group lease) → Agrees c → Agrees (record (call_gone n c) { asks = groups_ended step n lease v c.asks })
group_ends c step n lease v f h = record {
  writes = h.writes;
  asks = asks_changed t ticket calls c.asks c.own.waits.writes c.own.waits.writes (h.asks.writes ∙ sym (same_numbers (λ (a : Asked). a.ticket) (λ (a : Asked). a.ticket) (λ (a : Asked). is_writes a.stage) (λ (a : Asked). is_writes a.stage) t ticket writes c.asks)) h.asks;
  awaited = awaited_changed t c.asks c.acquires (λ k x a e r u. read_stays k a (and_second (has_ticket x.ticket a) (acquires_at k a) u)) h.awaited;
  out = record {
    seat = seat_other n (job.Group lease) c.out c.seat f (group_not_session lease) h.out.seat;
    acquires = λ k. acquires_other n (job.Group lease) c.out k (at c.acquires k) f refl (h.out.acquires k);
    asks = all_left n c.out (map t c.asks) none (all_mapped (λ (a : Asked). is_stage_out c.out a.stage) (λ (a : Asked). is_stage_out c.out a.stage) t stage_out c.asks h.out.asks);
  };
  numbers = numbers_other c.calls n (job.Group lease) c.out c.own.waits.out f refl h.numbers;
  groups = groups_end step n lease v c.out c.asks h.numbers.once f h.groups;
  seated = h.seated;
}
  where
    t : Asked → Asked
    t a = group_ended step n lease v a

    either : (P : Asked → Type 0) (a : Asked) → P (in_stage (stage.Replied v) a) → P (in_stage (stage.Grouped (Some (sending.Due step))) a) → P a → P (group_ended step n lease v a)
    either P a r d s = by_test P (is_out_stage n a.stage) (in_stage (stage.Replied v) a) (cond (keeps lease a.request && waits_next a.stage) (in_stage (stage.Grouped (Some (sending.Due step))) a) a) (λ u. r) (λ u. by_test P (keeps lease a.request && waits_next a.stage) (in_stage (stage.Grouped (Some (sending.Due step))) a) a (λ w. d) (λ w. s))

    ticket : (a : Asked) → (group_ended step n lease v a).ticket ≡ a.ticket
    ticket a = either (λ (b : Asked). b.ticket ≡ a.ticket) a refl refl refl

    calls : (m : ℕ) (a : Asked) → calls_as m (group_ended step n lease v a) ≡ true → calls_as m a ≡ true
    calls m a = either (λ (b : Asked). calls_as m b ≡ true → calls_as m a ≡ true) a (λ u. absurd (cc)) (λ u. absurd (cc)) (λ u. u)

    writes : (a : Asked) → is_writes (group_ended step n lease v a).stage ≡ is_writes a.stage
    writes a =
        by_test (λ (b : Asked). is_writes b.stage ≡ is_writes a.stage) (is_out_stage n a.stage) (in_stage (stage.Replied v) a) (cond (keeps lease a.request && waits_next a.stage) (in_stage (stage.Grouped (Some (sending.Due step))) a) a)
        (λ u. sym (out_no_write n a.stage u))
        (λ u. by_test (λ (b : Asked). is_writes b.stage ≡ is_writes a.stage) (keeps lease a.request && waits_next a.stage) (in_stage (stage.Grouped (Some (sending.Due step))) a) a (λ w. sym (next_no_write a.stage (and_second (keeps lease a.request) (waits_next a.stage) w))) (λ w. refl))

    stage_out : (a : Asked) → is_stage_out c.out a.stage ≡ true → is_stage_out c.out (group_ended step n lease v a).stage ≡ true
    stage_out a u = either (λ (b : Asked). is_stage_out c.out b.stage ≡ true) a refl refl u

    none : list_any (calls_as n) (map (group_ended step n lease v) c.asks) ≡ false
    none = any_mapped (calls_as n) (group_ended step n lease v) c.asks ∙ none_kept (calls_as n) (λ a. calls_as n (group_ended step n lease v a)) (λ a u. calls n a u) c.asks (nobody_calls n (job.Group lease) c.out c.asks f refl h.out.asks)

    read_stays : (k : List ℕ) (a : Asked) → acquires_at k a ≡ true → group_ended step n lease v a ≡ a
    read_stays k a u =
        let e = (acquires_is k a u).0 in
        ap (λ (s : Stage). cond (is_out_stage n s) (in_stage (stage.Replied v) a) (cond (keeps lease a.request && waits_next s) (in_stage (stage.Grouped (Some (sending.Due step))) a) a)) e
        ∙ ap (λ b. cond b (in_stage (stage.Grouped (Some (sending.Due step))) a) a) (and_false (keeps lease a.request))
