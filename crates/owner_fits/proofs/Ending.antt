-- Clock work and calls that end keep the facts of a whole proxy.
use Rattle.std.proofs.Common.{◌≡◌, ℕ, ◌==◌, Bool, true, false, cond, List, map, Option, None, Some, refl, sym, ◌∙◌, ap, subst}
use Rattle.etcd_types.specs.declared.answer.Answer.{Answer}
use Rattle.etcd_types.specs.declared.answer.Answer.TheVariants as answer
use Rattle.etcd_types.specs.declared.answer.Body.{Body}
use Rattle.etcd_types.specs.declared.answer.Body.TheVariants as body
use Rattle.proxy_model.specs.declared.session.Standing.{Standing}
use Rattle.proxy_model.specs.Session.{is_live}
use Rattle.wait_model.specs.Fits.{Fits}
use Rattle.read_model.specs.declared.asked.Verdict.TheVariants as verdict
use Rattle.read_model.specs.Acquires.{AfterAcquire, acquire_answered}
use Rattle.read_model.specs.State.{Reads, Ground, ground_of}
use Rattle.read_model.specs.WriteAnswers.{wait_answered}
use Rattle.core_laws.proofs.PlainReads.Owned.{proceeded_stays}
use Rattle.core_model.specs.declared.out_call.CallKind.{CallKind}
use Rattle.core_model.specs.declared.out_call.OutCall.{OutCall}
use Rattle.core_model.specs.declared.out_call.OutJob.{OutJob}
use Rattle.core_model.specs.declared.out_call.OutJob.TheVariants as job
use Rattle.core_model.specs.ClockWork.{writes_go_on, begun, times_out, timed_out_ask, requests_timed_out, clock_work}
use Rattle.core_model.specs.Ends.{call_gone, with_caller, stale_once, said, is_stale_reply, ask_done, ask_answered, member_failed, acquire_ended, acquire_if, reads_if, is_keepalive, group_answered, answered_job, lost_job, lost_call, or_lost, heard_call, answered_call}
use Rattle.core_model.specs.Fits.{is_seat_out, is_session_job, job_at}
use Rattle.core_model.specs.Groups.{groups_ended}
use Rattle.core_model.specs.Heard.{heard, answer_taken}
use Rattle.core_model.specs.Kinds.{is_body_of}
use Rattle.core_model.specs.Lookups.{number_if, live_number, moment, reads_of, without_out}
use Rattle.core_model.specs.Sessions.{without_session, seat_is_over, deadline_passed, seat_calls, seat_granted, granted_by, grant_failed, grant_answered, seat_free, keep_failed, seat_renewed, kept, kept_by, keep_answered}
use Rattle.core_model.specs.State.{Seat, Core}
use Rattle.core_laws.proofs.Steps.Comes.{by_test}
use Rattle.core_laws.proofs.Steps.Ends.{seat_standing}
use Rattle.core_laws.proofs.Steps.Middle.{deadline_mid, times_mid}
use Rattle.core_laws.proofs.Steps.Whole.{Mid, begun_mid}
use Rattle.owner_fits.specs.Acquires.{number_by, standing_number}
use Rattle.owner_fits.specs.Names.{stage_named}
use Rattle.owner_fits.proofs.Answering.{AnswersName}
use Rattle.owner_fits.proofs.Claims.{left_claims}
use Rattle.owner_fits.proofs.Grounds.{GroundFit, over_fits, off_fits, FitIf, answers_fit, losses_fit, acquire_losses_fit, FitAfter, acquires_fit}
use Rattle.owner_fits.proofs.Passing.{passes_unleased, passes_some, passes_rest}

abbrev pub CoreFit : Bool → Core → Type 0
CoreFit named c = GroundFit named (standing_number c.seat) c.out (ground_of (reads_of c))

-- waiting writes go on
pub passed_fits : (named : Bool) (c : Core) → Fits c.own → CoreFit named c → CoreFit named (writes_go_on c)
passed_fits named c f h = record {
  acquires = h.acquires;
  entries = record { owned = λ k t. h.entries.owned k ((proceeded_stays c.own k).owned t); unleased = λ k t. passes_unleased c.own k f (h.entries.unleased k) t };
  names = λ b. record {
    keys = λ k t. (h.names b).keys k (sym (passes_some c.own k) ∙ t);
    found = passes_rest (λ w. stage_named w.stage) (record { waits = λ w t. refl; due = λ w owner step t. refl }) c.own (h.names b).found;
  };
}

-- the session that a step reads is the one that stands
pub live_stands : (s : Option Seat) (now n : ℕ) → live_number s now ≡ Some n → standing_number s ≡ Some n
live_stands None now n e = absurd (cc)
live_stands (Some s) now n e = by_standing s.session.standing refl (by_live (is_live s.session now) refl e)
  where
    by_live : (b : Bool) → is_live s.session now ≡ b → number_if b s.session.number ≡ Some n → (is_live s.session now ≡ true) × (Some s.session.number ≡ Some n)
    by_live true t e = (t, e)
    by_live false t e = absurd (cc)

    by_standing : (x : Option Standing) → s.session.standing ≡ x → (is_live s.session now ≡ true) × (Some s.session.number ≡ Some n) → number_by s.session.number s.session.standing ≡ Some n
    by_standing None e u = absurd (let v = ap (λ (y : Option Standing). is_live (record s.session { standing = y }) now) e in let w = u.0 in cc)
    by_standing (Some y) e u = ap (number_by s.session.number) e ∙ u.1

-- Clock work.

over_core : (named : Bool) (now : ℕ) (c : Core) → CoreFit named c → CoreFit named (without_session now c)
over_core named now c h = over_fits named (standing_number c.seat) c.out (moment (record c { seat = None }) now) (reads_of c) h

pub clock_fits : (named : Bool) (now : ℕ) (c : Core) → Mid 0 c → CoreFit named c → CoreFit named (clock_work now c)
unfolding clock_work
clock_fits named now c m h =
    let d = deadline_passed now (begun c) in
    let x : CoreFit named (begun c) = record { acquires = h.acquires; entries = h.entries; names = h.names } in
    let y : CoreFit named d = by_test (CoreFit named) (seat_is_over c.seat now) (without_session now (begun c)) (begun c) (λ t. over_core named now (begun c) x) (λ t. x) in
    passed_fits named (requests_timed_out now d) (times_mid 0 now d (deadline_mid 0 now (begun c) (begun_mid 0 c m))).reads.ground.keys
    (off_fits named (standing_number d.seat) d.out (moment d now) (times_out now) (map (timed_out_ask now) d.asks) (reads_of d) y)

-- Calls that end.

pub left_core : (named : Bool) (n : ℕ) (c : Core) → CoreFit named c → CoreFit named (call_gone n c)
left_core named n c h = record { acquires = left_claims c.own.waits.prefix (standing_number c.seat) n c.acquires c.out h.acquires; entries = h.entries; names = h.names }

-- where none stands no acquire is due, so it is so under every session
any_session : (named : Bool) (session : Option ℕ) (out : List OutCall) (g : Ground) → GroundFit named None out g → GroundFit named session out g
any_session named session out g h = record {
  acquires = record { rising = h.acquires.rising; acquired = h.acquires.acquired; under = λ k a e d. absurd (let z = h.acquires.under k a e d in cc); awaits = h.acquires.awaits };
  entries = h.entries;
  names = h.names;
}

ungranted : (n lease : ℕ) (out : List OutCall) (s : Option Seat) → job_at n out ≡ Some (job.Grant lease) → seat_calls n s ≡ true → is_seat_out out s ≡ true → standing_number s ≡ None
ungranted n lease out s f t h =
    let x = seat_standing n (job.Grant lease) out s f t h in
    ap standing_number x.1 ∙ not_yet x.0.session.number x.0.session.standing x.2
  where
    not_yet : (number : ℕ) (y : Option Standing) → is_session_job y (job.Grant lease) ≡ true → number_by number y ≡ None
    not_yet number None u = refl
    not_yet number (Some z) u = absurd (cc)

-- of a grant
granting : (named : Bool) (n lease : ℕ) (s : Option Seat) (c : Core) → job_at n c.out ≡ Some (job.Grant lease) → seat_calls n c.seat ≡ true → is_seat_out c.out c.seat ≡ true → CoreFit named c → CoreFit named (record (call_gone n c) { seat = s })
granting named n lease s c f t o h =
    any_session named (standing_number s) (without_out n c.out) (ground_of (reads_of c))
    (subst (λ (x : Option ℕ). GroundFit named x (without_out n c.out) (ground_of (reads_of c))) (ungranted n lease c.out c.seat f t o) (left_core named n c h))

grant_fails : (named : Bool) (o : OutCall) (lease : ℕ) (c : Core) → job_at o.call c.out ≡ Some (job.Grant lease) → is_seat_out c.out c.seat ≡ true → CoreFit named c → CoreFit named (grant_failed o (call_gone o.call c))
grant_fails named o lease c f s h =
    by_test (CoreFit named) (seat_calls o.call c.seat) (record (call_gone o.call c) { seat = None }) (call_gone o.call c)
    (λ t. granting named o.call lease None c f t s h) (λ t. left_core named o.call c h)

-- of a keepalive
seated : (named : Bool) (n : ℕ) (s : Option Seat) (c : Core) → standing_number s ≡ standing_number c.seat → CoreFit named c → CoreFit named (record (call_gone n c) { seat = s })
seated named n s c e h = subst (λ (x : Option ℕ). GroundFit named x (without_out n c.out) (ground_of (reads_of c))) (sym e) (left_core named n c h)

free_number : (s : Option Seat) → standing_number (seat_free s) ≡ standing_number s
free_number None = refl
free_number (Some s) = refl

renewed_number : (sent_at ttl : ℕ) (s : Option Seat) → standing_number (seat_renewed sent_at ttl s) ≡ standing_number s
renewed_number sent_at ttl None = refl
renewed_number sent_at ttl (Some s) = by s.session.standing refl
  where
    by : (x : Option Standing) → s.session.standing ≡ x → standing_number (seat_renewed sent_at ttl (Some s)) ≡ number_by s.session.number s.session.standing
    by None e = ap (λ (y : Option Standing). standing_number (seat_renewed sent_at ttl (Some (record s { session = record s.session { standing = y } })))) e ∙ sym (ap (number_by s.session.number) e)
    by (Some y) e = ap (λ (y : Option Standing). standing_number (seat_renewed sent_at ttl (Some (record s { session = record s.session { standing = y } })))) e ∙ sym (ap (number_by s.session.number) e)

keep_fails : (named : Bool) (o : OutCall) (c : Core) → CoreFit named c → CoreFit named (keep_failed o (call_gone o.call c))
keep_fails named o c h =
    by_test (CoreFit named) (seat_calls o.call c.seat) (record (call_gone o.call c) { seat = seat_free c.seat }) (call_gone o.call c)
    (λ t. seated named o.call (seat_free c.seat) c (free_number c.seat) h) (λ t. left_core named o.call c h)

-- Losses.

lost_by : (named : Bool) (now : ℕ) (o : OutCall) (j : OutJob) (c : Core) → job_at o.call c.out ≡ Some j → is_seat_out c.out c.seat ≡ true → CoreFit named c → CoreFit named (lost_job now o j (call_gone o.call c))
lost_by named now o (job.Grant lease) c f s h = grant_fails named o lease c f s h
lost_by named now o (job.Keep lease) c f s h = keep_fails named o c h
lost_by named now o (job.Acquire k) c f s h = acquire_losses_fit named (standing_number c.seat) c.out c.members.count (moment (call_gone o.call c) now) o.call k (reads_of c) f h
lost_by named now o job.Wait c f s h = losses_fit named (standing_number c.seat) (without_out o.call c.out) (moment (call_gone o.call c) now) o.call (reads_of c) (left_core named o.call c h)
lost_by named now o (job.Ask k) c f s h = left_core named o.call c h
lost_by named now o (job.Group lease) c f s h = left_core named o.call c h

pub lost_fits : (named : Bool) (now : ℕ) (o : OutCall) (c : Core) → job_at o.call c.out ≡ Some o.job → is_seat_out c.out c.seat ≡ true → CoreFit named c → CoreFit named (lost_call now o (call_gone o.call c))
lost_fits named now o c f s h = lost_by named now o o.job (member_failed o c) f s h

-- Answers.

abbrev CoreIf : Bool → Option Core → Type 0
CoreIf named None = Unit {0}
CoreIf named (Some c) = CoreFit named c

grant_fits : (named : Bool) (o : OutCall) (lease : ℕ) (a : Answer) (c : Core) → job_at o.call c.out ≡ Some (job.Grant lease) → is_seat_out c.out c.seat ≡ true → CoreFit named c → CoreIf named (grant_answered o a (call_gone o.call c))
grant_fits named o lease (answer.Refused r) c f s h = grant_fails named o lease c f s h
grant_fits named o lease (answer.Done reply) c f s h = by reply.body
  where
    by : (b : Body) → CoreIf named (granted_by o b (call_gone o.call c))
    by (body.Grant n ttl) =
        by_test (CoreFit named) (seat_calls o.call c.seat) (record (call_gone o.call c) { seat = seat_granted o.sent_at ttl c.seat }) (call_gone o.call c)
        (λ t. granting named o.call lease (seat_granted o.sent_at ttl c.seat) c f t s h) (λ t. left_core named o.call c h)
    by _ = tt

keep_fits : (named : Bool) (now : ℕ) (o : OutCall) (a : Answer) (c : Core) → CoreFit named c → CoreIf named (keep_answered now o a (call_gone o.call c))
keep_fits named now o (answer.Refused r) c h = keep_fails named o c h
keep_fits named now o (answer.Done reply) c h = by reply.body
  where
    by : (b : Body) → CoreIf named (kept_by now o b (call_gone o.call c))
    by (body.KeepAlive n ttl) =
        by_test (CoreFit named) (seat_calls o.call c.seat) (kept now o ttl (call_gone o.call c)) (call_gone o.call c)
        (λ t. by_test (CoreFit named) (ttl == 0) (without_session now (call_gone o.call c)) (record (call_gone o.call c) { seat = seat_renewed o.sent_at ttl c.seat })
        (λ u. over_core named now (call_gone o.call c) (left_core named o.call c h))
        (λ u. seated named o.call (seat_renewed o.sent_at ttl c.seat) c (renewed_number o.sent_at ttl c.seat) h))
        (λ t. left_core named o.call c h)
    by _ = tt

acquire_fits : (named : Bool) (now n : ℕ) (k : List ℕ) (a : Answer) (c : Core) → job_at n c.out ≡ Some (job.Acquire k) → CoreFit named c → CoreIf named (acquire_if (call_gone n c) (acquire_answered (moment (call_gone n c) now) k a (reads_of c)))
acquire_fits named now n k a c f h = by_after (acquire_answered (moment (call_gone n c) now) k a (reads_of c)) (acquires_fit named (standing_number c.seat) c.out (moment (call_gone n c) now) n k a (reads_of c) (live_stands c.seat now) f h)
  where
    by_end : (ends : Bool) (r : Reads) → GroundFit named (cond ends None (standing_number c.seat)) (without_out n c.out) (ground_of r) → CoreFit named (acquire_ended (call_gone n c) (record { reads = r; ends = ends }))
    by_end true r x = x
    by_end false r x = x

    by_after : (o : Option AfterAcquire) → FitAfter named (standing_number c.seat) (without_out n c.out) o → CoreIf named (acquire_if (call_gone n c) o)
    by_after None x = tt
    by_after (Some z) x = by_end z.ends z.reads x

wait_fits : (named : Bool) (now n : ℕ) (a : Answer) (c : Core) → AnswersName named n a c.own → CoreFit named c → CoreIf named (reads_if (call_gone n c) (wait_answered (moment (call_gone n c) now) n a (reads_of c)))
wait_fits named now n a c w h = by_reads (wait_answered (moment (call_gone n c) now) n a (reads_of c)) (answers_fit named (standing_number c.seat) (without_out n c.out) (moment (call_gone n c) now) n a (reads_of c) (live_stands c.seat now) w (left_core named n c h))
  where
    by_reads : (o : Option Reads) → FitIf named (standing_number c.seat) (without_out n c.out) o → CoreIf named (reads_if (call_gone n c) o)
    by_reads None x = tt
    by_reads (Some r) x = x

ask_fits : (named : Bool) (k : CallKind) (o : OutCall) (a : Answer) (c : Core) → CoreFit named c → CoreIf named (ask_answered k o a (call_gone o.call c))
ask_fits named k o (answer.Refused r) c h = left_core named o.call c h
ask_fits named k o (answer.Done reply) c h =
    by_test (CoreIf named) (is_body_of k reply.body) (Some (ask_done k o reply (call_gone o.call c))) None
    (λ t. by_test (CoreFit named) (is_stale_reply k o reply) (with_caller o.call (stale_once c.members.count c.own.waits.step) (member_failed o (call_gone o.call c))) (with_caller o.call (said (answer.Done reply)) (call_gone o.call c))
    (λ u. left_core named o.call c h) (λ u. left_core named o.call c h))
    (λ t. tt)

group_fits : (named : Bool) (o : OutCall) (lease : ℕ) (a : Answer) (c : Core) → CoreFit named c → CoreIf named (group_answered o lease a (call_gone o.call c))
group_fits named o lease a c h =
    by_test (CoreIf named) (is_keepalive a) (Some (record (call_gone o.call c) { asks = groups_ended c.own.waits.step o.call lease (verdict.Said a) c.asks })) None
    (λ t. left_core named o.call c h) (λ t. tt)

answered_by : (named : Bool) (now : ℕ) (o : OutCall) (j : OutJob) (a : Answer) (c : Core) → job_at o.call c.out ≡ Some j → is_seat_out c.out c.seat ≡ true → AnswersName named o.call a c.own → CoreFit named c → CoreIf named (answered_job now o j a (call_gone o.call c))
answered_by named now o (job.Grant lease) a c f s w h = grant_fits named o lease a c f s h
answered_by named now o (job.Keep lease) a c f s w h = keep_fits named now o a c h
answered_by named now o (job.Acquire k) a c f s w h = acquire_fits named now o.call k a c f h
answered_by named now o job.Wait a c f s w h = wait_fits named now o.call a c w h
answered_by named now o (job.Ask k) a c f s w h = ask_fits named k o a c h
answered_by named now o (job.Group lease) a c f s w h = group_fits named o lease a c h

-- as it was heard
abbrev pub HeardName : Bool → ℕ → Option Answer → Core → Type 0
HeardName named call None c = Unit {0}
HeardName named call (Some a) c = AnswersName named call a c.own

heard_fits : (named : Bool) (now : ℕ) (o : OutCall) (x : Option Answer) (c : Core) → job_at o.call c.out ≡ Some o.job → is_seat_out c.out c.seat ≡ true → HeardName named o.call x c → CoreFit named c → CoreFit named (heard_call now o x (call_gone o.call c))
heard_fits named now o None c f s w h = lost_fits named now o c f s h
heard_fits named now o (Some a) c f s w h = by_answer (answered_job now o o.job a (call_gone o.call c)) (answered_by named now o o.job a c f s w h)
  where
    by_answer : (y : Option Core) → CoreIf named y → CoreFit named (or_lost now o (call_gone o.call c) y)
    by_answer None t = lost_fits named now o c f s h
    by_answer (Some d) t = t

pub answered_fits : (named : Bool) (now : ℕ) (o : OutCall) (a : Answer) (c : Core) → job_at o.call c.out ≡ Some o.job → is_seat_out c.out c.seat ≡ true → HeardName named o.call (heard c.settings.namespace a) c → CoreFit named c → CoreFit named (answered_call now o a (call_gone o.call c))
answered_fits named now o (answer.Done reply) c f s w h = heard_fits named now o (heard c.settings.namespace (answer.Done reply)) (answer_taken (answer.Done reply) c) f s (same_names (heard c.settings.namespace (answer.Done reply)) w) h
  where
    same_names : (x : Option Answer) → HeardName named o.call x c → HeardName named o.call x (answer_taken (answer.Done reply) c)
    same_names None w = tt
    same_names (Some a) w = w
answered_fits named now o (answer.Refused r) c f s w h = heard_fits named now o (heard c.settings.namespace (answer.Refused r)) c f s w h
