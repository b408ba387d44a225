-- What a step makes of the requests, each with its cause: one goes from one open stage to another, or is replied ok; it times out; or a call of it
-- ended, and it is told so. What holds of each request before holds of each after, where each of these keeps it.
use Rattle.std.proofs.Common.{◌≡◌, ℕ, ◌==◌, Bool, true, false, cond, ◌&&◌, List, [], ◌∷◌, map, Option, None, Some, refl, sym, ◌∙◌, ap, subst}
use Rattle.etcd_types.proofs.Bools.{and_first, and_second}
use Rattle.etcd_types.specs.declared.answer.Answer.{Answer}
use Rattle.etcd_types.specs.declared.answer.Answer.TheVariants.{Done, Refused}
use Rattle.etcd_types.specs.declared.answer.Body.{Body}
use Rattle.etcd_types.specs.declared.answer.Body.TheVariants as body
use Rattle.etcd_types.specs.declared.answer.Refusal.{Refusal}
use Rattle.etcd_types.specs.declared.answer.Reply.{Reply}
use Rattle.etcd_types.specs.declared.code.TheConstants.{NOT_FOUND}
use Rattle.etcd_types.specs.declared.record.Header.{Header}
use Rattle.proxy_model.specs.declared.ownership.Claim.{Claim}
use Rattle.proxy_model.specs.declared.ownership.Claim.TheVariants.{Acquired, OwnedBy}
use Rattle.proxy_model.specs.declared.ownership.Written.{Written}
use Rattle.proxy_model.specs.declared.ownership.Written.TheVariants.{Wrote, Blocked}
use Rattle.proxy_model.specs.Acquire.{claimed}
use Rattle.proxy_model.specs.Guarded.{written}
use Rattle.proxy_model.specs.Leaving.{guard_held}
use Rattle.proxy_model.specs.Members.{Members, next_member}
use Rattle.wait_model.specs.declared.sending.Sending.TheVariants as sending
use Rattle.wait_model.specs.declared.wait.Settled.{Settled}
use Rattle.wait_model.specs.declared.wait.Settled.TheVariants as settled
use Rattle.wait_model.specs.declared.wait.WaitJob.{WaitJob}
use Rattle.wait_model.specs.declared.wait.WaitJob.TheVariants as wait
use Rattle.wait_model.specs.declared.write.Write.{Write}
use Rattle.wait_model.specs.Endings as endings
use Rattle.wait_model.specs.GuardedAnswers.{Ending, done_if, write_answered, write_lost}
use Rattle.wait_model.specs.Leaving.{rescinded, if_read, rescind_answered}
use Rattle.wait_model.specs.Phases.{is_session}
use Rattle.wait_model.specs.State.{Ownership}
use Rattle.wait_model.specs.Writes.{first_by, sends, asks, job_of}
use Rattle.read_model.specs.declared.acquire.Acquire.{Acquire}
use Rattle.read_model.specs.declared.asked.Asked.{Asked}
use Rattle.read_model.specs.declared.asked.Stage.{Stage}
use Rattle.read_model.specs.declared.asked.Stage.TheVariants as stage
use Rattle.read_model.specs.declared.asked.Verdict.{Verdict}
use Rattle.read_model.specs.declared.asked.Verdict.TheVariants as verdict
use Rattle.read_model.specs.Acquires.{AfterAcquire, is_acquiring, acquires_at, told, lost_once, told_lost, acquire_gone, acquire_done, done_by, acquire_refused, answered_acquire, is_to_be_held, acquire_answered}
use Rattle.read_model.specs.PlainRead.{ask_key, shown, called, held_turn, read_turn, decision, in_stage, decided_ask}
use Rattle.read_model.specs.Release.{stands, ask_stands, released_ground, released_from}
use Rattle.read_model.specs.State.{Reads, Moment, Ground, ground_of}
use Rattle.read_model.specs.TakingOff.{is_writes}
use Rattle.read_model.specs.WriteAnswers.{settled_ask, answered_by, wait_answered}
use Rattle.core_model.specs.declared.out_call.CallKind.{CallKind}
use Rattle.core_model.specs.declared.out_call.OutCall.{OutCall}
use Rattle.core_model.specs.declared.out_call.OutJob.{OutJob}
use Rattle.core_model.specs.declared.out_call.OutJob.TheVariants as job
use Rattle.core_model.specs.ClockWork.{is_replied, timed_out_ask, begun, clock_work}
use Rattle.core_model.specs.Ends.{with_caller, member_failed, lost_ask, lost_job, lost_call, stale_once, said, is_stale_reply, ask_done, ask_answered, acquire_if, reads_if, is_keepalive as answers_keepalive, group_answered, answered_job, or_lost, heard_call}
use Rattle.core_model.specs.Fits.{has_number, write_tickets, AsksOk, WritesOk}
use Rattle.core_model.specs.Groups.{keeps, is_out_stage, waits_next, group_ended}
use Rattle.core_model.specs.Kinds.{is_read, is_body_of}
use Rattle.core_model.specs.Lookups.{moment, reads_of, stage_calls, calls_as}
use Rattle.core_model.specs.Sessions.{seat_is_over, without_session, deadline_passed, seat_calls, granted_by, grant_failed, keep_failed, kept, kept_by}
use Rattle.core_model.specs.State.{Core}
use Rattle.core_laws.proofs.Steps.Comes.{by_test}
use Rattle.core_laws.proofs.Steps.WaitEnds.{EndsAs, EndedIf, answered_ends, lost_ends, found_ticket}
use Rattle.core_laws.proofs.Steps.Lists.{same_number}
use Rattle.keep_laws.proofs.Rows.{All, all_mapped, all_kept, Settles, all_write}

-- it isn't replied and isn't a write's, or it is replied ok
abbrev pub is_plain : Stage → Bool
is_plain (stage.Replied (verdict.Said (Done reply))) = true
is_plain (stage.Replied (verdict.Said (Refused r))) = false
is_plain (stage.Replied verdict.TimedOut) = false
is_plain (stage.Replied verdict.Lost) = false
is_plain (stage.Replied verdict.Stale) = false
is_plain stage.Writes = false
is_plain _ = true

-- of the writes, the first whose own call this is, or the first for which this revoke call asks
pub data OfWrite (call : ℕ) (ws : List Write) (ticket : ℕ) : Type 0 where
  sends_it : (w : Write) → first_by (sends call) ws ≡ Some w → w.ticket ≡ ticket → OfWrite call ws ticket
  asks_for : (w : Write) → first_by (asks call) ws ≡ Some w → w.ticket ≡ ticket → OfWrite call ws ticket

-- the call is one of this request
pub data CallOf (ws : List Write) (o : OutCall) (x : Asked) : Type 0 where
  is_own : (k : CallKind) → o.job ≡ job.Ask k → stage_calls o.call x.stage ≡ true → CallOf ws o x
  acquires : (k : List ℕ) → o.job ≡ job.Acquire k → acquires_at k x ≡ true → CallOf ws o x
  writes : o.job ≡ job.Wait → is_writes x.stage ≡ true → OfWrite o.call ws x.ticket → CallOf ws o x
  shares : (lease : ℕ) → o.job ≡ job.Group lease → is_out_stage o.call x.stage ≡ true → CallOf ws o x

-- a read's call, which may be sent once more
pub data ReadOf (o : OutCall) (x : Asked) : Type 0 where
  own_read : (k : CallKind) → o.job ≡ job.Ask k → is_read k ≡ true → ReadOf o x
  acquire : (k : List ℕ) → o.job ≡ job.Acquire k → ReadOf o x

-- another one
pub data OtherOf (o : OutCall) (x : Asked) : Type 0 where
  own_other : (k : CallKind) → o.job ≡ job.Ask k → is_read k ≡ false → OtherOf o x
  write : o.job ≡ job.Wait → OtherOf o x
  group : (lease : ℕ) → o.job ≡ job.Group lease → OtherOf o x

-- a member that fails is one of as many
pub same_count : (o : OutCall) (c : Core) → (member_failed o c).members.count ≡ c.members.count
same_count o c = by_test (λ (m : Members). m.count ≡ c.members.count) (o.member == c.members.current) (record c.members { current = next_member c.members.count c.members.current }) c.members (λ e. refl) (λ e. refl)

-- what keeps it
abbrev pub Moves : (Asked → Type 0) → Type 0
Moves P = (x : Asked) (s : Stage) → is_replied x.stage ≡ false → is_plain s ≡ true → P x → P (in_stage s x)

-- a call of it is lost
pub record Loses (P Q : Asked → Type 0) (members step : ℕ) (ws : List Write) (o : OutCall) : Type 0 where
  pub once : (x : Asked) → CallOf ws o x → ReadOf o x → P x → Q (lost_once members step x)
  pub fails : (x : Asked) → CallOf ws o x → OtherOf o x → P x → Q (in_stage (stage.Replied verdict.Lost) x)

-- a call of it is refused; or its own was answered from before what was seen when it was sent
pub record Tells (P Q : Asked → Type 0) (members step : ℕ) (ws : List Write) (o : OutCall) (a : Answer) : Type 0 where
  pub refused : (x : Asked) (r : Refusal) → a ≡ Refused r → CallOf ws o x → P x → Q (in_stage (stage.Replied (verdict.Said (Refused r))) x)
  pub stale : (x : Asked) (k : CallKind) (reply : Reply) → a ≡ Done reply → o.job ≡ job.Ask k → is_stale_reply k o reply ≡ true → CallOf ws o x → P x → Q (stale_once members step x)

-- ---- open stages

pub unmet_open : (ticket : ℕ) (e : Option Rattle.proxy_model.specs.declared.lease.Entry.Entry) (q : Option Acquire) (s : Stage) → stands ticket e q s ≡ false → is_replied s ≡ false
unmet_open ticket e q stage.Acquiring h = refl
unmet_open ticket e q stage.Joined h = refl
unmet_open ticket e q stage.Behind h = refl
unmet_open ticket e q (stage.Calling s) h = absurd (cc)
unmet_open ticket e q stage.Writes h = absurd (cc)
unmet_open ticket e q (stage.Grouped s) h = absurd (cc)
unmet_open ticket e q (stage.Replied v) h = absurd (cc)

acquiring_open : (s : Stage) → is_acquiring s ≡ true → is_replied s ≡ false
acquiring_open stage.Acquiring h = refl
acquiring_open stage.Joined h = refl
acquiring_open stage.Behind h = refl
acquiring_open stage.Writes h = refl
acquiring_open (stage.Calling s) h = refl
acquiring_open (stage.Grouped s) h = refl
acquiring_open (stage.Replied v) h = absurd (cc)

calls_open : (n : ℕ) (s : Stage) → stage_calls n s ≡ true → is_replied s ≡ false
calls_open n (stage.Calling s) h = refl
calls_open n stage.Acquiring h = refl
calls_open n stage.Joined h = refl
calls_open n stage.Behind h = refl
calls_open n stage.Writes h = refl
calls_open n (stage.Grouped s) h = refl
calls_open n (stage.Replied v) h = absurd (cc)

out_open : (n : ℕ) (s : Stage) → is_out_stage n s ≡ true → is_replied s ≡ false
out_open n (stage.Grouped s) h = refl
out_open n (stage.Calling s) h = refl
out_open n stage.Acquiring h = refl
out_open n stage.Joined h = refl
out_open n stage.Behind h = refl
out_open n stage.Writes h = refl
out_open n (stage.Replied v) h = absurd (cc)

waits_open : (s : Stage) → waits_next s ≡ true → is_replied s ≡ false
waits_open (stage.Grouped s) h = refl
waits_open (stage.Calling s) h = refl
waits_open stage.Acquiring h = refl
waits_open stage.Joined h = refl
waits_open stage.Behind h = refl
waits_open stage.Writes h = refl
waits_open (stage.Replied v) h = absurd (cc)

writes_open : (s : Stage) → is_writes s ≡ true → is_replied s ≡ false
writes_open stage.Writes h = refl
writes_open (stage.Grouped s) h = refl
writes_open (stage.Calling s) h = refl
writes_open stage.Acquiring h = refl
writes_open stage.Joined h = refl
writes_open stage.Behind h = refl
writes_open (stage.Replied v) h = absurd (cc)

-- a call of a request is one of an open request
pub call_open : (ws : List Write) (o : OutCall) (x : Asked) → CallOf ws o x → is_replied x.stage ≡ false
call_open ws o x (is_own k j h) = calls_open o.call x.stage h
call_open ws o x (acquires k j h) = acquiring_open x.stage (and_first (is_acquiring x.stage) _ h)
call_open ws o x (writes j h w) = writes_open x.stage h
call_open ws o x (shares lease j h) = out_open o.call x.stage h

pub decided_plain : (h : Header) (step : ℕ) (e : Option Rattle.proxy_model.specs.declared.lease.Entry.Entry) (claimed : Bool) (under : Option ℕ) → is_plain (read_turn h step e claimed under).stage ≡ true
decided_plain h step (Some e) claimed under = by e.phase
  where
    by : (p : Rattle.proxy_model.specs.declared.lease.Phase.Phase) → is_plain (held_turn h step e.kv p) ≡ true
    by Rattle.proxy_model.specs.declared.lease.Phase.TheVariants.Held = refl
    by (Rattle.proxy_model.specs.declared.lease.Phase.TheVariants.Writing revoked) = refl
    by (Rattle.proxy_model.specs.declared.lease.Phase.TheVariants.Leaving sent) = refl
decided_plain h step None true under = refl
decided_plain h step None false None = refl
decided_plain h step None false (Some n) = refl

-- ---- what a write's call settles

-- by this call
abbrev pub SettledBy : ℕ → List Write → Settled → Type 0
SettledBy call ws settled.Nothing = Unit {0}
SettledBy call ws (settled.Reply ticket a) = OfWrite call ws ticket
SettledBy call ws (settled.Failed ticket) = OfWrite call ws ticket

-- by the loss of this call
abbrev pub LostBy : ℕ → List Write → Settled → Type 0
LostBy call ws settled.Nothing = Unit {0}
LostBy call ws (settled.Reply ticket a) = ⊥
LostBy call ws (settled.Failed ticket) = OfWrite call ws ticket

lost_settles : (call : ℕ) (ws : List Write) (s : Settled) → LostBy call ws s → SettledBy call ws s
lost_settles call ws settled.Nothing h = tt
lost_settles call ws (settled.Reply ticket a) h = absurd h
lost_settles call ws (settled.Failed ticket) h = h

lost_tells : (call : ℕ) (ws : List Write) (s : Settled) → LostBy call ws s → (ticket : ℕ) (a : Answer) → s ≡ settled.Reply ticket a → ⊥
lost_tells call ws settled.Nothing h ticket a e = absurd (cc)
lost_tells call ws (settled.Reply t b) h ticket a e = h
lost_tells call ws (settled.Failed t) h ticket a e = absurd (cc)

lost_by : (call : ℕ) (own : Ownership) → LostBy call own.waits.writes (endings.lost call own).settled
unfolding endings.lost
lost_by call own = by (job_of call own.waits.out)
  where
    sent : (q : Option Write) → first_by (sends call) own.waits.writes ≡ q → LostBy call own.waits.writes (write_lost (sends call) q (endings.without_out call own)).settled
    sent None e = tt
    sent (Some w) e = sends_it w e refl

    asked : (q : Option Write) → first_by (asks call) own.waits.writes ≡ q → LostBy call own.waits.writes (write_lost (asks call) q (endings.without_out call own)).settled
    asked None e = tt
    asked (Some w) e = asks_for w e refl

    by : (q : Option WaitJob) → LostBy call own.waits.writes (endings.lost_job call q (endings.without_out call own)).settled
    by None = tt
    by (Some (wait.Rescind k create)) = tt
    by (Some (wait.Revoke k)) = asked (first_by (asks call) own.waits.writes) refl
    by (Some wait.Write) = sent (first_by (sends call) own.waits.writes) refl

-- what is heard is told, where it is a refusal
abbrev pub IsTold : Answer → Settled → Type 0
IsTold a settled.Nothing = Unit {0}
IsTold a (settled.Reply ticket (Done reply)) = Unit {0}
IsTold a (settled.Reply ticket (Refused r)) = a ≡ Refused r
IsTold a (settled.Failed ticket) = ⊥

told_is : (a : Answer) (s : Settled) → IsTold a s → (ticket : ℕ) (r : Refusal) → s ≡ settled.Reply ticket (Refused r) → a ≡ Refused r
told_is a settled.Nothing h ticket r e = absurd (cc)
told_is a (settled.Failed t) h ticket r e = absurd h
told_is a (settled.Reply t (Done reply)) h ticket r e = absurd (cc)
told_is a (settled.Reply t (Refused q)) h ticket r e = let same : q ≡ r = cc in h ∙ ap (λ (i : Refusal). Refused i) same

no_loss : (a : Answer) (s : Settled) → IsTold a s → (ticket : ℕ) → s ≡ settled.Failed ticket → ⊥
no_loss a settled.Nothing h ticket e = absurd (cc)
no_loss a (settled.Failed t) h ticket e = h
no_loss a (settled.Reply t b) h ticket e = absurd (cc)

abbrev pub AnsweredBy : ℕ → List Write → Answer → Option Ending → Type 0
AnsweredBy call ws a None = Unit {0}
AnsweredBy call ws a (Some x) = SettledBy call ws x.settled × IsTold a x.settled

answered_by_call : (call : ℕ) (a : Answer) (session : Option ℕ) (now : ℕ) (own : Ownership) → AnsweredBy call own.waits.writes a (endings.answered call a session now own)
unfolding endings.answered
answered_by_call call a session now own = by (job_of call own.waits.out)
  where
    rest : Ownership
    rest = endings.without_out call own

    rescind : (a : Answer) (o : Ownership) → AnsweredBy call own.waits.writes a (rescind_answered a o)
    rescind (Done reply) o = held (guard_held reply.body)
      where
        held : (q : Option Bool) → AnsweredBy call own.waits.writes (Done reply) (if_read q o)
        held None = tt
        held (Some b) = (tt, tt)
    rescind (Refused r) o = (tt, tt)

    done : (w : Write) → first_by (sends call) own.waits.writes ≡ Some w → (reply : Reply) (q : Option Written) → AnsweredBy call own.waits.writes (Done reply) (done_if session (sends call) w q rest)
    done w e reply None = tt
    done w e reply (Some (Wrote r)) = (sends_it w e refl, tt)
    done w e reply (Some (Blocked os)) = (tt, tt)

    sent : (q : Option Write) → first_by (sends call) own.waits.writes ≡ q → (a : Answer) → AnsweredBy call own.waits.writes a (write_answered session (sends call) q a rest)
    sent None e a = (tt, tt)
    sent (Some w) e (Done reply) = done w e reply (written own.waits.prefix w.request reply)
    sent (Some w) e (Refused r) = (sends_it w e refl, refl)

    back : (w : Write) (reply : Reply) (q : Option Bool) → AnsweredBy call own.waits.writes (Done reply) (endings.revoke_back (asks call) call w q rest)
    back w reply None = tt
    back w reply (Some held) = (tt, tt)

    asked : (q : Option Write) → first_by (asks call) own.waits.writes ≡ q → (a : Answer) → AnsweredBy call own.waits.writes a (endings.revoke_answered (asks call) call q a rest)
    asked None e a = (tt, tt)
    asked (Some w) e (Done reply) = back w reply (guard_held reply.body)
    asked (Some w) e (Refused r) = (asks_for w e refl, refl)

    by : (q : Option WaitJob) → AnsweredBy call own.waits.writes a (endings.answered_job call a session now q rest)
    by None = (tt, tt)
    by (Some (wait.Rescind k create)) = rescind a (rescinded k create now rest)
    by (Some (wait.Revoke k)) = asked (first_by (asks call) own.waits.writes) refl a
    by (Some wait.Write) = sent (first_by (sends call) own.waits.writes) refl a

-- ---- the clock's work, and sessions that end

abbrev AllIf : (Asked → Type 0) → Option Core → Type 0
AllIf P None = Unit {0}
AllIf P (Some c) = All P c.asks

abbrev AllReads : (Asked → Type 0) → Option Reads → Type 0
AllReads P None = Unit {0}
AllReads P (Some r) = All P r.asks

abbrev AllAfter : (Asked → Type 0) → Option AfterAcquire → Type 0
AllAfter P None = Unit {0}
AllAfter P (Some x) = All P x.reads.asks

moved_if : (P : Asked → Type 0) → Moves P → (b : Bool) (x : Asked) (s : Stage) → (b ≡ true → is_replied x.stage ≡ false) → is_plain s ≡ true → P x → P (cond b (in_stage s x) x)
moved_if P l true x s o plain h = l x s (o refl) plain h
moved_if P l false x s o plain h = h

pub released_walk : (P : Asked → Type 0) → Moves P → (again : Bool) (m : Moment) (g : Ground) (xs : List Asked) → All P xs → All P (released_from again m g xs).asks
unfolding released_from
released_walk P l again m g [] t = tt
released_walk P l again m g (x ∷ xs) t = (
  by_test P (ask_stands g x) x (cond again (decided_ask m g x) (in_stage (called g.own.waits.step) x)) (λ e. t.0)
      (λ e.
      let waits = unmet_open x.ticket _ _ x.stage e in
      by_test P again (decided_ask m g x) (in_stage (called g.own.waits.step) x) (λ u. l x (decision m g (ask_key x)).stage waits (decided_plain _ _ _ _ _) t.0) (λ u. l x (called g.own.waits.step) waits refl t.0)),
  released_walk P l again m (released_ground again m g x) xs t.1,
)

pub over_walk : (P : Asked → Type 0) → Moves P → (now : ℕ) (c : Core) → All P c.asks → All P (without_session now c).asks
over_walk P l now c t = released_walk P l false _ _ c.asks t

-- what keeps it in the clock's work: one that waited for its key is due as a call of its own
abbrev pub Calls : (Asked → Type 0) → Type 0
Calls P = (x : Asked) (step : ℕ) → is_replied x.stage ≡ false → P x → P (in_stage (called step) x)

released_calls : (P : Asked → Type 0) → Calls P → (m : Moment) (g : Ground) (xs : List Asked) → All P xs → All P (released_from false m g xs).asks
unfolding released_from
released_calls P l m g [] t = tt
released_calls P l m g (x ∷ xs) t = (
  by_test P (ask_stands g x) x (in_stage (called g.own.waits.step) x) (λ e. t.0) (λ e. l x g.own.waits.step (unmet_open x.ticket _ _ x.stage e) t.0),
  released_calls P l m (released_ground false m g x) xs t.1,
)

-- what the clock's work makes of them: those that are late time out
pub clock_walk : (P M : Asked → Type 0) → Calls P → Calls M → (now : ℕ) (c : Core) → ((x : Asked) → P x → M (timed_out_ask now x)) → All P c.asks → All M (clock_work now c).asks
unfolding clock_work
clock_walk P M l k now c f t =
    let d = deadline_passed now (begun c) in
    let over : All P d.asks = by_test (λ (d : Core). All P d.asks) (seat_is_over c.seat now) (without_session now (begun c)) (begun c) (λ e. released_calls P l _ _ c.asks t) (λ e. t) in
    released_calls M k _ _ (map (timed_out_ask now) d.asks) (all_mapped P M (timed_out_ask now) f d.asks over)

-- ---- calls that end

-- `P` holds before the call ends, and `Q` after it
module _ (P Q : Asked → Type 0) (turn : (x : Asked) → P x → Q x) (l : Moves Q) where
  turned : (xs : List Asked) → All P xs → All Q xs
  turned xs t = all_kept P Q turn xs t

  acquires_open : (k : List ℕ) (x : Asked) → acquires_at k x ≡ true → is_replied x.stage ≡ false
  acquires_open k x h = acquiring_open x.stage (and_first (is_acquiring x.stage) _ h)

  told_walk : (k : List ℕ) (h : Header) (kv : Option Rattle.etcd_types.specs.declared.record.Kv.Kv) (xs : List Asked) → All Q xs → All Q (map (told k (shown h kv)) xs)
  told_walk k h kv xs t = all_mapped Q Q (told k (shown h kv)) (λ x u. moved_if Q l (acquires_at k x) x (shown h kv) (λ e. acquires_open k x e) refl u) xs t

  claim_walk : (m : Moment) (k : List ℕ) (held : Bool) (h : Header) (c : Claim) (r : Reads) → All Q r.asks → All Q (acquire_done m k held h c r).asks
  claim_walk m k held h (Acquired create kv) r t = released_walk Q l held m _ _ (told_walk k h kv r.asks t)
  claim_walk m k held h (OwnedBy kv owner) r t = released_walk Q l false m _ _ (told_walk k h kv r.asks t)

  refused_walk : (m : Moment) (k : List ℕ) (ends : Bool) (r : Reads) → All Q r.asks → All Q (acquire_refused m k ends r).reads.asks
  refused_walk m k true r t = released_walk Q l false m _ r.asks t
  refused_walk m k false r t = released_walk Q l false m (acquire_gone k (ground_of r)) r.asks t

  acquire_walk : (m : Moment) (k : List ℕ) (q : Option Acquire) (a : Answer) (r : Reads) → All Q r.asks → AllAfter Q (answered_acquire m k q a r)
  acquire_walk m k None a r t = t
  acquire_walk m k (Some c) (Done reply) r t = by (claimed r.own.waits.prefix k reply)
    where
      by : (q : Option Claim) → AllAfter Q (done_by m k (is_to_be_held m k c r) reply.header q r)
      by None = tt
      by (Some claim) = claim_walk m k (is_to_be_held m k c r) reply.header claim r t
  acquire_walk m k (Some c) (Refused x) r t = refused_walk m k (is_session m.session c.session && (x.code == NOT_FOUND)) r t

  -- of a session: at most it ends

  renewed_walk : (now : ℕ) (o : OutCall) (b : Body) (c : Core) → All Q c.asks → AllIf Q (kept_by now o b c)
  renewed_walk now o (body.KeepAlive lease ttl) c t =
      by_test (λ (d : Core). All Q d.asks) (seat_calls o.call c.seat) (kept now o ttl c) c (λ e. by_test (λ (d : Core). All Q d.asks) (ttl == 0) (without_session now c) _ (λ e. over_walk Q l now c t) (λ e. t)) (λ e. t)
  renewed_walk now o (body.Range count more kvs) c t = tt
  renewed_walk now o (body.Put prev) c t = tt
  renewed_walk now o (body.Delete deleted prevs) c t = tt
  renewed_walk now o (body.Txn' succeeded n bodies) c t = tt
  renewed_walk now o body.Compact c t = tt
  renewed_walk now o (body.Grant lease ttl) c t = tt
  renewed_walk now o body.Revoke c t = tt
  renewed_walk now o (body.TimeToLive lease ttl granted keys) c t = tt
  renewed_walk now o (body.Leases leases) c t = tt

  granted_walk : (o : OutCall) (b : Body) (c : Core) → All Q c.asks → AllIf Q (granted_by o b c)
  granted_walk o (body.Grant lease ttl) c t = by_test (λ (d : Core). All Q d.asks) (seat_calls o.call c.seat) _ c (λ e. t) (λ e. t)
  granted_walk o (body.Range count more kvs) c t = tt
  granted_walk o (body.Put prev) c t = tt
  granted_walk o (body.Delete deleted prevs) c t = tt
  granted_walk o (body.Txn' succeeded n bodies) c t = tt
  granted_walk o body.Compact c t = tt
  granted_walk o body.Revoke c t = tt
  granted_walk o (body.KeepAlive lease ttl) c t = tt
  granted_walk o (body.TimeToLive lease ttl granted keys) c t = tt
  granted_walk o (body.Leases leases) c t = tt

  grant_failed_walk : (o : OutCall) (c : Core) → All Q c.asks → All Q (grant_failed o c).asks
  grant_failed_walk o c t = by_test (λ (d : Core). All Q d.asks) (seat_calls o.call c.seat) _ c (λ e. t) (λ e. t)

  keep_failed_walk : (o : OutCall) (c : Core) → All Q c.asks → All Q (keep_failed o c).asks
  keep_failed_walk o c t = by_test (λ (d : Core). All Q d.asks) (seat_calls o.call c.seat) _ c (λ e. t) (λ e. t)

  -- of writes

  -- what it settles is of a request that this call is of
  abbrev SettledOf : Core → OutCall → Settled → Asked → Type 0
  SettledOf c o settled.Nothing x = Unit {0}
  SettledOf c o (settled.Reply ticket a) x = (x.ticket == ticket) ≡ true → CallOf c.own.waits.writes o x
  SettledOf c o (settled.Failed ticket) x = (x.ticket == ticket) ≡ true → CallOf c.own.waits.writes o x

  settled_of : (c : Core) (o : OutCall) → o.job ≡ job.Wait → (s : Settled) → SettledBy o.call c.own.waits.writes s → (xs : List Asked) → All (Settles s) xs → All (SettledOf c o s) xs
  settled_of c o j settled.Nothing b [] h = tt
  settled_of c o j settled.Nothing b (x ∷ xs) h = (tt, settled_of c o j settled.Nothing b xs h.1)
  settled_of c o j (settled.Reply ticket a) b [] h = tt
  settled_of c o j (settled.Reply ticket a) b (x ∷ xs) h =
      (λ e. writes j (h.0 e) (subst (OfWrite o.call c.own.waits.writes) (sym (same_number x.ticket ticket e)) b), settled_of c o j (settled.Reply ticket a) b xs h.1)
  settled_of c o j (settled.Failed ticket) b [] h = tt
  settled_of c o j (settled.Failed ticket) b (x ∷ xs) h =
      (λ e. writes j (h.0 e) (subst (OfWrite o.call c.own.waits.writes) (sym (same_number x.ticket ticket e)) b), settled_of c o j (settled.Failed ticket) b xs h.1)

  all_settle : (xs : List Asked) (ws vs : List Write) (s : Settled) → AsksOk xs ws → EndsAs ws s vs → All (Settles s) xs
  all_settle xs ws vs settled.Nothing h e = every xs
    where
      every : (ys : List Asked) → All (Settles settled.Nothing) ys
      every [] = tt
      every (y ∷ ys) = (tt, every ys)
  all_settle xs ws vs (settled.Reply ticket a) h e = all_write ticket xs h.once (sym (ap (λ (ns : List ℕ). has_number ns ticket) h.writes) ∙ ap (has_number (write_tickets ws)) e.named ∙ found_ticket e.test e.write ws e.first)
  all_settle xs ws vs (settled.Failed ticket) h e = all_write ticket xs h.once (sym (ap (λ (ns : List ℕ). has_number ns ticket) h.writes) ∙ ap (has_number (write_tickets ws)) e.named ∙ found_ticket e.test e.write ws e.first)

  settled_walk : (c : Core) (o : OutCall) → o.job ≡ job.Wait → (s : Settled) → ((x : Asked) (ticket : ℕ) → s ≡ settled.Failed ticket → CallOf c.own.waits.writes o x → P x → Q (in_stage (stage.Replied verdict.Lost) x)) → ((x : Asked) (ticket : ℕ) (r : Refusal) → s ≡ settled.Reply ticket (Refused r) → CallOf c.own.waits.writes o x → P x → Q (in_stage (stage.Replied (verdict.Said (Refused r))) x))
      → (xs : List Asked) → All (SettledOf c o s) xs → All P xs → All Q (map (settled_ask s) xs)
  settled_walk c o j settled.Nothing f g [] h t = tt
  settled_walk c o j settled.Nothing f g (x ∷ xs) h t = (turn x t.0, settled_walk c o j settled.Nothing f g xs h.1 t.1)
  settled_walk c o j (settled.Failed ticket) f g [] h t = tt
  settled_walk c o j (settled.Failed ticket) f g (x ∷ xs) h t =
      (by_test Q (x.ticket == ticket) (in_stage (stage.Replied verdict.Lost) x) x (λ e. f x ticket refl (h.0 e) t.0) (λ e. turn x t.0), settled_walk c o j (settled.Failed ticket) f g xs h.1 t.1)
  settled_walk c o j (settled.Reply ticket a) f g [] h t = tt
  settled_walk c o j (settled.Reply ticket (Done reply)) f g (x ∷ xs) h t =
      (by_test Q (x.ticket == ticket) (in_stage (stage.Replied (verdict.Said (Done reply))) x) x (λ e. l x _ (call_open c.own.waits.writes o x (h.0 e)) refl (turn x t.0)) (λ e. turn x t.0), settled_walk c o j (settled.Reply ticket (Done reply)) f g xs h.1 t.1)
  settled_walk c o j (settled.Reply ticket (Refused r)) f g (x ∷ xs) h t =
      (by_test Q (x.ticket == ticket) (in_stage (stage.Replied (verdict.Said (Refused r))) x) x (λ e. g x ticket r refl (h.0 e) t.0) (λ e. turn x t.0), settled_walk c o j (settled.Reply ticket (Refused r)) f g xs h.1 t.1)

  -- of a group

  group_walk : (c : Core) (o : OutCall) (lease step : ℕ) → o.job ≡ job.Group lease → (v : Verdict) → ((x : Asked) → CallOf c.own.waits.writes o x → P x → Q (in_stage (stage.Replied v) x)) → (xs : List Asked) → All P xs → All Q (map (group_ended step o.call lease v) xs)
  group_walk c o lease step j v f xs t =
      all_mapped P Q (group_ended step o.call lease v)
      (λ x h. by_test Q (is_out_stage o.call x.stage) (in_stage (stage.Replied v) x) (cond (keeps lease x.request && waits_next x.stage) (in_stage (stage.Grouped (Some (sending.Due step))) x) x)
      (λ e. f x (shares lease j e) h)
      (λ e. moved_if Q l (keeps lease x.request && waits_next x.stage) x (stage.Grouped (Some (sending.Due step))) (λ u. waits_open x.stage (and_second (keeps lease x.request) (waits_next x.stage) u)) refl (turn x h)))
      xs t

  -- losses

  caller_walk : (c : Core) (o : OutCall) (k : CallKind) → o.job ≡ job.Ask k → (f : Asked → Asked) → ((x : Asked) → CallOf c.own.waits.writes o x → P x → Q (f x)) → (xs : List Asked) → All P xs → All Q (map (λ a. cond (calls_as o.call a) (f a) a) xs)
  caller_walk c o k j f g xs t = all_mapped P Q (λ a. cond (calls_as o.call a) (f a) a) (λ x h. by_test Q (calls_as o.call x) (f x) x (λ e. g x (is_own k j e) h) (λ e. turn x h)) xs t

  lost_ask_walk : (c : Core) (o : OutCall) (k : CallKind) → o.job ≡ job.Ask k → Loses P Q c.members.count c.own.waits.step c.own.waits.writes o → (x : Asked) → CallOf c.own.waits.writes o x → P x → Q (lost_ask k o c x)
  lost_ask_walk c o k j f x i h = by_test Q (is_read k) (lost_once c.members.count c.own.waits.step x) (in_stage (stage.Replied verdict.Lost) x) (λ e. f.once x i (own_read k j e) h) (λ e. f.fails x i (own_other k j e) h)

  lost_job_walk : (now : ℕ) (c : Core) (o : OutCall) (j : OutJob) → o.job ≡ j → AsksOk c.asks c.own.waits.writes → WritesOk c.own.waits.writes c.own.waits.out → Loses P Q c.members.count c.own.waits.step c.own.waits.writes o → All P c.asks → All Q (lost_job now o j c).asks
  lost_job_walk now c o (job.Grant lease) j a w f t = grant_failed_walk o c (turned c.asks t)
  lost_job_walk now c o (job.Keep lease) j a w f t = keep_failed_walk o c (turned c.asks t)
  lost_job_walk now c o (job.Acquire k) j a w f t =
      released_walk Q l false _ _ _ (all_mapped P Q (told_lost c.members.count c.own.waits.step k) (λ x h. by_test Q (acquires_at k x) (lost_once c.members.count c.own.waits.step x) x (λ e. f.once x (acquires k j e) (acquire k j) h) (λ e. turn x h)) c.asks t)
  lost_job_walk now c o job.Wait j a w f t =
      let x = endings.lost o.call c.own in
      released_walk Q l false (moment c now) _ _
      (settled_walk c o j x.settled (λ y ticket e i h. f.fails y i (write j) h) (λ y ticket r e i h. absurd (lost_tells o.call c.own.waits.writes x.settled (lost_by o.call c.own) ticket (Refused r) e)) c.asks
      (settled_of c o j x.settled (lost_settles o.call c.own.waits.writes x.settled (lost_by o.call c.own)) c.asks (all_settle c.asks c.own.waits.writes x.own.waits.writes x.settled a (lost_ends o.call c.own w).how)) t)
  lost_job_walk now c o (job.Ask k) j a w f t = caller_walk c o k j (lost_ask k o c) (lost_ask_walk c o k j f) c.asks t
  lost_job_walk now c o (job.Group lease) j a w f t = group_walk c o lease c.own.waits.step j verdict.Lost (λ x i h. f.fails x i (group lease j) h) c.asks t

  -- answers

  waited_walk : (c : Core) (o : OutCall) (a : Answer) (m : Moment) → o.job ≡ job.Wait → AsksOk c.asks c.own.waits.writes → Tells P Q c.members.count c.own.waits.step c.own.waits.writes o a → (q : Option Ending) → EndedIf o.call (endings.without_out o.call c.own) q → AnsweredBy o.call c.own.waits.writes a q → All P c.asks
      → AllReads Q (answered_by m q (reads_of c))
  waited_walk c o a m j k f None e b t = tt
  waited_walk c o a m j k f (Some x) e b t =
      released_walk Q l true m _ _
      (settled_walk c o j x.settled (λ y ticket s i h. absurd (no_loss a x.settled b.1 ticket s)) (λ y ticket r s i h. f.refused y r (told_is a x.settled b.1 ticket r s) i h) c.asks
      (settled_of c o j x.settled b.0 c.asks (all_settle c.asks c.own.waits.writes x.own.waits.writes x.settled k e.how)) t)

  ask_walk : (c : Core) (o : OutCall) (k : CallKind) (a : Answer) → o.job ≡ job.Ask k → Tells P Q c.members.count c.own.waits.step c.own.waits.writes o a → All P c.asks → AllIf Q (ask_answered k o a c)
  ask_walk c o k (Done reply) j f t =
      by_test (AllIf Q) (is_body_of k reply.body) (Some (ask_done k o reply c)) None
      (λ e. by_test (λ (d : Core). All Q d.asks) (is_stale_reply k o reply) (with_caller o.call (stale_once c.members.count c.own.waits.step) (member_failed o c)) (with_caller o.call (said (Done reply)) c)
      (λ u. caller_walk c o k j (stale_once c.members.count c.own.waits.step) (λ x i h. f.stale x k reply refl j u i h) c.asks t)
      (λ u. caller_walk c o k j (said (Done reply)) (λ x i h. l x _ (call_open c.own.waits.writes o x i) refl (turn x h)) c.asks t)) (λ e. tt)
  ask_walk c o k (Refused r) j f t = caller_walk c o k j (said (Refused r)) (λ x i h. f.refused x r refl i h) c.asks t

  shared_walk : (c : Core) (o : OutCall) (lease : ℕ) (a : Answer) → o.job ≡ job.Group lease → Tells P Q c.members.count c.own.waits.step c.own.waits.writes o a → All P c.asks → AllIf Q (group_answered o lease a c)
  shared_walk c o lease (Done reply) j f t =
      by_test (AllIf Q) (answers_keepalive (Done reply)) (Some _) None
      (λ e. group_walk c o lease c.own.waits.step j (verdict.Said (Done reply)) (λ x i h. l x _ (call_open c.own.waits.writes o x i) refl (turn x h)) c.asks t) (λ e. tt)
  shared_walk c o lease (Refused r) j f t = group_walk c o lease c.own.waits.step j (verdict.Said (Refused r)) (λ x i h. f.refused x r refl i h) c.asks t

  job_walk : (now : ℕ) (c : Core) (o : OutCall) (j : OutJob) (a : Answer) → o.job ≡ j → AsksOk c.asks c.own.waits.writes → WritesOk c.own.waits.writes c.own.waits.out → Tells P Q c.members.count c.own.waits.step c.own.waits.writes o a → All P c.asks → AllIf Q (answered_job now o j a c)
  job_walk now c o (job.Grant lease) (Done reply) j k w f t = granted_walk o reply.body c (turned c.asks t)
  job_walk now c o (job.Grant lease) (Refused r) j k w f t = grant_failed_walk o c (turned c.asks t)
  job_walk now c o (job.Keep lease) (Done reply) j k w f t = renewed_walk now o reply.body c (turned c.asks t)
  job_walk now c o (job.Keep lease) (Refused r) j k w f t = keep_failed_walk o c (turned c.asks t)
  job_walk now c o (job.Acquire i) a j k w f t = by (acquire_answered (moment c now) i a (reads_of c)) (acquire_walk (moment c now) i _ a (reads_of c) (turned c.asks t))
    where
      by : (q : Option AfterAcquire) → AllAfter Q q → AllIf Q (acquire_if c q)
      by None h = tt
      by (Some x) h = h
  job_walk now c o job.Wait a j k w f t =
      by (wait_answered (moment c now) o.call a (reads_of c))
      (waited_walk c o a (moment c now) j k f _ (answered_ends o.call a (moment c now).session now c.own w) (answered_by_call o.call a (moment c now).session now c.own) t)
    where
      by : (q : Option Reads) → AllReads Q q → AllIf Q (reads_if c q)
      by None h = tt
      by (Some r) h = h
  job_walk now c o (job.Ask i) a j k w f t = ask_walk c o i a j f t
  job_walk now c o (job.Group lease) a j k w f t = shared_walk c o lease a j f t

  pub lost_call_walk : (now : ℕ) (c : Core) (o : OutCall) → AsksOk c.asks c.own.waits.writes → WritesOk c.own.waits.writes c.own.waits.out → Loses P Q c.members.count c.own.waits.step c.own.waits.writes o → All P c.asks → All Q (lost_call now o c).asks
  lost_call_walk now c o k w f t = lost_job_walk now (member_failed o c) o o.job refl k w (subst (λ (n : ℕ). Loses P Q n c.own.waits.step c.own.waits.writes o) (sym (same_count o c)) f) t

  -- a loss, by what was heard; where nothing was that can be an answer, the call counts as lost
  pub heard_walk : (now : ℕ) (c : Core) (o : OutCall) (q : Option Answer) → AsksOk c.asks c.own.waits.writes → WritesOk c.own.waits.writes c.own.waits.out → ((a : Answer) → q ≡ Some a → Tells P Q c.members.count c.own.waits.step c.own.waits.writes o a)
      → ((a : Answer) → q ≡ Some a → answered_job now o o.job a c ≡ None → Loses P Q c.members.count c.own.waits.step c.own.waits.writes o) → (q ≡ None → Loses P Q c.members.count c.own.waits.step c.own.waits.writes o) → All P c.asks → All Q (heard_call now o q c).asks
  heard_walk now c o None k w f g h t = lost_call_walk now c o k w (h refl) t
  heard_walk now c o (Some a) k w f g h t = by (answered_job now o o.job a c) refl (job_walk now c o o.job a refl k w (f a refl) t)
    where
      by : (d : Option Core) → answered_job now o o.job a c ≡ d → AllIf Q d → All Q (or_lost now o c d).asks
      by None e u = lost_call_walk now c o k w (g a refl e) t
      by (Some d) e u = u
