-- What the end of a call leaves of a proxy, and that a session that it grants or renews lives at the reading at which it was sent.
use Rattle.std.proofs.Common.{◌≡◌, ℕ, ◌≤◌, ◌<◌, ◌^◌, ◌==◌, max, min, nat_lt, Bool, true, false, cond, ◌&&◌, List, map, Option, None, Some, refl, sym, ap, subst, arith}
use Rattle.std.proofs.lemmas.Bool.Decides.{nat_tests}
use Rattle.etcd_types.specs.declared.answer.Answer.{Answer}
use Rattle.etcd_types.specs.declared.answer.Answer.TheVariants.{Done, Refused}
use Rattle.etcd_types.specs.declared.answer.Body.{Body}
use Rattle.etcd_types.specs.declared.answer.Body.TheVariants as body
use Rattle.etcd_types.specs.declared.answer.Reply.{Reply}
use Rattle.etcd_types.specs.declared.record.Header.{Header}
use Rattle.proxy_model.specs.declared.ownership.Claim.{Claim}
use Rattle.proxy_model.specs.declared.ownership.Claim.TheVariants.{Acquired, OwnedBy}
use Rattle.proxy_model.specs.declared.session.Standing.{Standing}
use Rattle.proxy_model.specs.Acquire.{claimed}
use Rattle.proxy_model.specs.Members.{Members}
use Rattle.proxy_model.specs.Session.{expiry, renewed_standing}
use Rattle.wait_model.specs.Endings as endings
use Rattle.wait_model.specs.Phases.{is_session}
use Rattle.etcd_types.specs.declared.code.TheConstants.{NOT_FOUND}
use Rattle.wait_model.specs.GuardedAnswers.{Ending}
use Rattle.read_model.specs.declared.acquire.Acquire.{Acquire}
use Rattle.read_model.specs.declared.asked.Asked.{Asked}
use Rattle.read_model.specs.declared.asked.Verdict.TheVariants as verdict
use Rattle.read_model.specs.Acquires.{AfterAcquire, told, told_lost, acquire_done, done_by, acquire_refused, answered_acquire, is_to_be_held, acquire_lost}
use Rattle.read_model.specs.PlainRead.{shown}
use Rattle.read_model.specs.State.{Reads, Moment}
use Rattle.read_model.specs.WriteAnswers.{settled_ask, ending, answered_by, wait_lost}
use Rattle.core_model.specs.declared.out_call.CallKind.{CallKind}
use Rattle.core_model.specs.declared.out_call.OutCall.{OutCall}
use Rattle.core_model.specs.declared.out_call.OutJob.{OutJob}
use Rattle.core_model.specs.declared.out_call.OutJob.TheVariants as job
use Rattle.core_model.specs.Ends.{with_caller, member_failed, lost_ask, lost_job, lost_call, stale_once, said, is_stale_reply, ask_done, ask_answered, acquire_ended, acquire_if, reads_if, is_keepalive, group_answered, answered_job, or_lost, heard_call, answered_call}
use Rattle.core_model.specs.Groups.{group_ended, groups_ended}
use Rattle.core_model.specs.Heard.{heard, header_taken}
use Rattle.core_model.specs.Kinds.{is_read, is_body_of}
use Rattle.core_model.specs.Lookups.{moment, reads_of, with_reads, calls_as}
use Rattle.core_model.specs.Sessions.{without_session, is_over, seat_is_over, seat_calls, seat_granted, granted_by, grant_failed, seat_free, keep_failed, seat_renewed, kept, kept_by}
use Rattle.core_model.specs.State.{Seat, Core}
use Rattle.generated_laws.proofs.Requests.{AllGo, all_itself, all_on, all_mapped, told_goes, told_lost_goes, released_all, settled_goes, Keeps, caller_goes, group_goes}
use Rattle.core_laws.proofs.Steps.Comes.{by_test}

-- ---- what it leaves

-- the session hasn't passed its deadline at this reading
abbrev pub Lives : ℕ → Option Seat → Type 0
Lives now s = seat_is_over s now ≡ false

pub record Leaves (now : ℕ) (c d : Core) : Type 0 where
  pub settings : d.settings ≡ c.settings
  pub leasing : d.leasing ≡ c.leasing
  pub watches : d.watches ≡ c.watches
  pub out : d.out ≡ c.out
  pub steps : d.steps ≡ c.steps
  pub asks : AllGo c.asks d.asks
  pub seat : Lives now c.seat → Lives now d.seat

leaves_itself : (now : ℕ) (c : Core) → Leaves now c c
leaves_itself now c = record { settings = refl; leasing = refl; watches = refl; out = refl; steps = refl; asks = all_itself c.asks; seat = λ h. h }

-- what its requests come to, and its session, or its end
leaves_reads : (now : ℕ) (c : Core) (r : Reads) → AllGo c.asks r.asks → Leaves now c (with_reads c r)
leaves_reads now c r g = record { settings = refl; leasing = refl; watches = refl; out = refl; steps = refl; asks = g; seat = λ h. h }

leaves_unseated : (now : ℕ) (c : Core) (r : Reads) → AllGo c.asks r.asks → Leaves now c (with_reads (record c { seat = None }) r)
leaves_unseated now c r g = record { settings = refl; leasing = refl; watches = refl; out = refl; steps = refl; asks = g; seat = λ h. refl }

leaves_asks : (now : ℕ) (c : Core) (xs : List Asked) → AllGo c.asks xs → Leaves now c (record c { asks = xs })
leaves_asks now c xs g = record { settings = refl; leasing = refl; watches = refl; out = refl; steps = refl; asks = g; seat = λ h. h }

leaves_seat : (now : ℕ) (c : Core) (s : Option Seat) → (Lives now c.seat → Lives now s) → Leaves now c (record c { seat = s })
leaves_seat now c s f = record { settings = refl; leasing = refl; watches = refl; out = refl; steps = refl; asks = all_itself c.asks; seat = f }

-- a change of the members or of the header before it is none of these
leaves_members : (now : ℕ) (c d : Core) (m : Members) → Leaves now (record c { members = m }) d → Leaves now c d
leaves_members now c d m h = record { settings = h.settings; leasing = h.leasing; watches = h.watches; out = h.out; steps = h.steps; asks = h.asks; seat = h.seat }

leaves_header : (now : ℕ) (c d : Core) (m : Members) (x : Header) → Leaves now (record c { members = m; header = x }) d → Leaves now c d
leaves_header now c d m x h = record { settings = h.settings; leasing = h.leasing; watches = h.watches; out = h.out; steps = h.steps; asks = h.asks; seat = h.seat }

abbrev LeavesIf : ℕ → Core → Option Core → Type 0
LeavesIf now c None = Unit {0}
LeavesIf now c (Some d) = Leaves now c d

leaves_over : (now : ℕ) (c : Core) → Leaves now c (without_session now c)
leaves_over now c = leaves_unseated now c _ (released_all false _ _ c.asks)

-- ---- sessions

-- readings that a call's time to live can be counted from
abbrev pub IsEarly : ℕ → Type 0
IsEarly now = now < 2 ^ 60

after_least : (now a b : ℕ) → now < a → now < b → nat_lt now (min a b) ≡ true
after_least now a b h k = grind (arith, nat_tests)

expiry_later : (now ttl : ℕ) → IsEarly now → 1 ≤ ttl → nat_lt now (expiry now ttl) ≡ true
expiry_later now ttl e h = grind (arith, nat_tests, e, h)

later_max : (now a b : ℕ) → nat_lt now a ≡ true → nat_lt now (max a b) ≡ true
later_max now a b h = grind (arith, nat_tests)

free_lives : (now : ℕ) (s : Option Seat) → Lives now s → Lives now (seat_free s)
free_lives now None h = refl
free_lives now (Some s) h = h

granted_lives : (now ttl : ℕ) (s : Option Seat) → IsEarly now → 1 ≤ ttl → Lives now (seat_granted now ttl s)
granted_lives now ttl None e h = refl
granted_lives now ttl (Some s) e h = ap (λ b. cond b false true) (expiry_later now ttl e h)

was_live : (b : Bool) → cond b false true ≡ false → b ≡ true
was_live true h = refl
was_live false h = absurd (cc)

renewed_lives : (now sent ttl : ℕ) (s : Option Seat) → Lives now s → Lives now (seat_renewed sent ttl s)
renewed_lives now sent ttl None h = refl
renewed_lives now sent ttl (Some s) h = by s.session.standing h
  where
    by : (x : Option Standing) → is_over x now (record { number = s.session.number; ttl = s.session.ttl; standing = x }) ≡ false → is_over (renewed_standing x sent ttl) now (record { number = s.session.number; ttl = s.session.ttl; standing = renewed_standing x sent ttl }) ≡ false
    by None t = refl
    by (Some x) t =
        let live : nat_lt now x.deadline ≡ true = was_live (nat_lt now x.deadline) t in
        by_test (λ (n : ℕ). cond (nat_lt now n) false true ≡ false) (ttl == 0) x.deadline (max x.deadline (expiry sent ttl)) (λ u. t) (λ u. ap (λ b. cond b false true) (later_max now x.deadline (expiry sent ttl) live))

-- ---- losses

grant_fails : (now : ℕ) (o : OutCall) (c : Core) → Leaves now c (grant_failed o c)
grant_fails now o c = by_test (Leaves now c) (seat_calls o.call c.seat) (record c { seat = None }) c (λ t. leaves_seat now c None (λ h. refl)) (λ t. leaves_itself now c)

keep_fails : (now : ℕ) (o : OutCall) (c : Core) → Leaves now c (keep_failed o c)
keep_fails now o c = by_test (Leaves now c) (seat_calls o.call c.seat) (record c { seat = seat_free c.seat }) c (λ t. leaves_seat now c (seat_free c.seat) (free_lives now c.seat)) (λ t. leaves_itself now c)

acquire_lost_goes : (members : ℕ) (m : Moment) (k : List ℕ) (r : Reads) → AllGo r.asks (acquire_lost members m k r).asks
acquire_lost_goes members m k r =
    let xs = map (told_lost members r.own.waits.step k) r.asks in
    all_on r.asks xs (acquire_lost members m k r).asks (all_mapped (told_lost members r.own.waits.step k) (told_lost_goes members r.own.waits.step k) r.asks) (released_all false m _ xs)

ending_goes : (x : Ending) (r : Reads) → AllGo r.asks (ending x r).asks
ending_goes x r = all_mapped (settled_ask x.settled) (settled_goes x.settled) r.asks

wait_lost_goes : (m : Moment) (call : ℕ) (r : Reads) → AllGo r.asks (wait_lost m call r).asks
wait_lost_goes m call r =
    let e = endings.lost call r.own in
    all_on r.asks (ending e r).asks (wait_lost m call r).asks (ending_goes e r) (released_all false m _ (ending e r).asks)

lost_keeps : (k : CallKind) (o : OutCall) (c : Core) → Keeps (lost_ask k o c)
lost_keeps k o c = record {
  ticket = λ x. by_test (λ (y : Asked). y.ticket ≡ x.ticket) (is_read k) _ _ (λ e. refl) (λ e. refl);
  asked = λ x. by_test (λ (y : Asked). y.asked ≡ x.asked) (is_read k) _ _ (λ e. refl) (λ e. refl);
}

leaves_caller : (now n : ℕ) (f : Asked → Asked) (c : Core) → Keeps f → Leaves now c (with_caller n f c)
leaves_caller now n f c k = leaves_asks now c _ (all_mapped (λ a. cond (calls_as n a) (f a) a) (caller_goes n f k) c.asks)

lost_leaves : (now : ℕ) (o : OutCall) (j : OutJob) (c : Core) → Leaves now c (lost_job now o j c)
lost_leaves now o (job.Grant lease) c = grant_fails now o c
lost_leaves now o (job.Keep lease) c = keep_fails now o c
lost_leaves now o (job.Acquire k) c = leaves_reads now c _ (acquire_lost_goes c.members.count (moment c now) k (reads_of c))
lost_leaves now o job.Wait c = leaves_reads now c _ (wait_lost_goes (moment c now) o.call (reads_of c))
lost_leaves now o (job.Ask k) c = leaves_caller now o.call (lost_ask k o c) c (lost_keeps k o c)
lost_leaves now o (job.Group lease) c = leaves_asks now c _ (all_mapped (group_ended c.own.waits.step o.call lease verdict.Lost) (group_goes c.own.waits.step o.call lease verdict.Lost) c.asks)

pub call_lost_leaves : (now : ℕ) (o : OutCall) (c : Core) → Leaves now c (lost_call now o c)
call_lost_leaves now o c = leaves_members now c (lost_call now o c) _ (lost_leaves now o o.job (member_failed o c))

-- ---- answers

-- of a grant: it says a time to live
abbrev pub SaysTime : Body → Type 0
SaysTime (body.Grant lease ttl) = 1 ≤ ttl
SaysTime _ = Unit {0}

-- what is heard of a call of this kind
abbrev pub Grants : OutJob → Answer → Type 0
Grants (job.Grant lease) (Done reply) = SaysTime reply.body
Grants _ a = Unit {0}

granted_leaves : (now : ℕ) (o : OutCall) (b : Body) (c : Core) → IsEarly now → o.sent_at ≡ now → SaysTime b → LeavesIf now c (granted_by o b c)
granted_leaves now o (body.Grant lease ttl) c e s t =
    by_test (Leaves now c) (seat_calls o.call c.seat) (record c { seat = seat_granted o.sent_at ttl c.seat }) c
    (λ u. leaves_seat now c (seat_granted o.sent_at ttl c.seat) (λ h. subst (λ (n : ℕ). Lives now (seat_granted n ttl c.seat)) (sym s) (granted_lives now ttl c.seat e t))) (λ u. leaves_itself now c)
granted_leaves now o (body.Range count more kvs) c e s t = tt
granted_leaves now o (body.Put prev) c e s t = tt
granted_leaves now o (body.Delete deleted prevs) c e s t = tt
granted_leaves now o (body.Txn' succeeded n bodies) c e s t = tt
granted_leaves now o body.Compact c e s t = tt
granted_leaves now o body.Revoke c e s t = tt
granted_leaves now o (body.KeepAlive lease ttl) c e s t = tt
granted_leaves now o (body.TimeToLive lease ttl given keys) c e s t = tt
granted_leaves now o (body.Leases leases) c e s t = tt

renewed_leaves : (now : ℕ) (o : OutCall) (b : Body) (c : Core) → LeavesIf now c (kept_by now o b c)
renewed_leaves now o (body.KeepAlive lease ttl) c =
    by_test (Leaves now c) (seat_calls o.call c.seat) (kept now o ttl c) c
    (λ u. by_test (Leaves now c) (ttl == 0) (without_session now c) (record c { seat = seat_renewed o.sent_at ttl c.seat }) (λ v. leaves_over now c) (λ v. leaves_seat now c _ (renewed_lives now o.sent_at ttl c.seat))) (λ u. leaves_itself now c)
renewed_leaves now o (body.Range count more kvs) c = tt
renewed_leaves now o (body.Put prev) c = tt
renewed_leaves now o (body.Delete deleted prevs) c = tt
renewed_leaves now o (body.Txn' succeeded n bodies) c = tt
renewed_leaves now o body.Compact c = tt
renewed_leaves now o (body.Grant lease ttl) c = tt
renewed_leaves now o body.Revoke c = tt
renewed_leaves now o (body.TimeToLive lease ttl given keys) c = tt
renewed_leaves now o (body.Leases leases) c = tt

claim_goes : (m : Moment) (k : List ℕ) (held : Bool) (h : Header) (c : Claim) (r : Reads) → AllGo r.asks (acquire_done m k held h c r).asks
claim_goes m k held h (Acquired create kv) r =
    let xs = map (told k (shown h kv)) r.asks in
    all_on r.asks xs (acquire_done m k held h (Acquired create kv) r).asks (all_mapped (told k (shown h kv)) (told_goes k (shown h kv)) r.asks) (released_all held m _ xs)
claim_goes m k held h (OwnedBy kv owner) r =
    let xs = map (told k (shown h kv)) r.asks in
    all_on r.asks xs (acquire_done m k held h (OwnedBy kv owner) r).asks (all_mapped (told k (shown h kv)) (told_goes k (shown h kv)) r.asks) (released_all false m _ xs)

leaves_acquire : (now : ℕ) (c : Core) (x : AfterAcquire) → AllGo c.asks x.reads.asks → Leaves now c (acquire_ended c x)
leaves_acquire now c x g = by_ends x.ends
  where
    by_ends : (b : Bool) → Leaves now c (with_reads (cond b (record c { seat = None }) c) x.reads)
    by_ends true = leaves_unseated now c x.reads g
    by_ends false = leaves_reads now c x.reads g

acquire_leaves : (now : ℕ) (c : Core) (m : Moment) (k : List ℕ) (o : Option Acquire) (a : Answer) → LeavesIf now c (acquire_if c (answered_acquire m k o a (reads_of c)))
acquire_leaves now c m k None a = leaves_acquire now c (record { reads = reads_of c; ends = false }) (all_itself c.asks)
acquire_leaves now c m k (Some x) (Done reply) = by_claim (is_to_be_held m k x (reads_of c)) (claimed c.own.waits.prefix k reply)
  where
    by_claim : (held : Bool) (o : Option Claim) → LeavesIf now c (acquire_if c (done_by m k held reply.header o (reads_of c)))
    by_claim held None = tt
    by_claim held (Some p) = leaves_acquire now c (record { reads = acquire_done m k held reply.header p (reads_of c); ends = false }) (claim_goes m k held reply.header p (reads_of c))
acquire_leaves now c m k (Some x) (Refused r) = by_end (is_session m.session x.session && (r.code == NOT_FOUND))
  where
    by_end : (ends : Bool) → Leaves now c (acquire_ended c (acquire_refused m k ends (reads_of c)))
    by_end true = leaves_acquire now c (acquire_refused m k true (reads_of c)) (released_all false m _ c.asks)
    by_end false = leaves_acquire now c (acquire_refused m k false (reads_of c)) (released_all false m _ c.asks)

wait_leaves : (now : ℕ) (c : Core) (m : Moment) (o : Option Ending) → LeavesIf now c (reads_if c (answered_by m o (reads_of c)))
wait_leaves now c m None = tt
wait_leaves now c m (Some x) =
    leaves_reads now c _ (all_on c.asks (ending x (reads_of c)).asks _ (ending_goes x (reads_of c)) (released_all true m _ (ending x (reads_of c)).asks))

done_leaves : (now : ℕ) (k : CallKind) (o : OutCall) (reply : Reply) (c : Core) → Leaves now c (ask_done k o reply c)
done_leaves now k o reply c =
    by_test (Leaves now c) (is_stale_reply k o reply) (with_caller o.call (stale_once c.members.count c.own.waits.step) (member_failed o c)) (with_caller o.call (said (Done reply)) c)
    (λ t. leaves_members now c _ _ (leaves_caller now o.call (stale_once c.members.count c.own.waits.step) (member_failed o c) (record { ticket = λ x. refl; asked = λ x. refl })))
    (λ t. leaves_caller now o.call (said (Done reply)) c (record { ticket = λ x. refl; asked = λ x. refl }))

ask_leaves : (now : ℕ) (k : CallKind) (o : OutCall) (a : Answer) (c : Core) → LeavesIf now c (ask_answered k o a c)
ask_leaves now k o (Done reply) c = by_body (is_body_of k reply.body)
  where
    by_body : (b : Bool) → LeavesIf now c (cond b (Some (ask_done k o reply c)) None)
    by_body true = done_leaves now k o reply c
    by_body false = tt
ask_leaves now k o (Refused r) c = leaves_caller now o.call (said (Refused r)) c (record { ticket = λ x. refl; asked = λ x. refl })

group_leaves : (now : ℕ) (o : OutCall) (lease : ℕ) (a : Answer) (c : Core) → LeavesIf now c (group_answered o lease a c)
group_leaves now o lease a c = by_kind (is_keepalive a)
  where
    by_kind : (b : Bool) → LeavesIf now c (cond b (Some (record c { asks = groups_ended c.own.waits.step o.call lease (verdict.Said a) c.asks })) None)
    by_kind true = leaves_asks now c _ (all_mapped (group_ended c.own.waits.step o.call lease (verdict.Said a)) (group_goes c.own.waits.step o.call lease (verdict.Said a)) c.asks)
    by_kind false = tt

answered_leaves : (now : ℕ) (o : OutCall) (j : OutJob) (a : Answer) (c : Core) → IsEarly now → o.sent_at ≡ now → Grants j a → LeavesIf now c (answered_job now o j a c)
answered_leaves now o (job.Grant lease) (Done reply) c e s g = granted_leaves now o reply.body c e s g
answered_leaves now o (job.Grant lease) (Refused r) c e s g = grant_fails now o c
answered_leaves now o (job.Keep lease) (Done reply) c e s g = renewed_leaves now o reply.body c
answered_leaves now o (job.Keep lease) (Refused r) c e s g = keep_fails now o c
answered_leaves now o (job.Acquire k) a c e s g = acquire_leaves now c (moment c now) k _ a
answered_leaves now o job.Wait a c e s g = wait_leaves now c (moment c now) _
answered_leaves now o (job.Ask k) a c e s g = ask_leaves now k o a c
answered_leaves now o (job.Group lease) a c e s g = group_leaves now o lease a c

abbrev pub GrantsIf : OutJob → Option Answer → Type 0
GrantsIf j None = Unit {0}
GrantsIf j (Some a) = Grants j a

heard_leaves : (now : ℕ) (o : OutCall) (x : Option Answer) (c : Core) → IsEarly now → o.sent_at ≡ now → GrantsIf o.job x → Leaves now c (heard_call now o x c)
heard_leaves now o None c e s g = call_lost_leaves now o c
heard_leaves now o (Some a) c e s g = by_end (answered_job now o o.job a c) (answered_leaves now o o.job a c e s g)
  where
    by_end : (d : Option Core) → LeavesIf now c d → Leaves now c (or_lost now o c d)
    by_end None h = call_lost_leaves now o c
    by_end (Some d) h = h

-- a call that was sent at this reading is answered
pub call_answered_leaves : (now : ℕ) (o : OutCall) (a : Answer) (c : Core) → IsEarly now → o.sent_at ≡ now → GrantsIf o.job (heard c.settings.namespace a) → Leaves now c (answered_call now o a c)
call_answered_leaves now o (Done reply) c e s g = leaves_header now c _ _ _ (heard_leaves now o (heard c.settings.namespace (Done reply)) (header_taken reply.header c) e s g)
call_answered_leaves now o (Refused r) c e s g = heard_leaves now o (heard c.settings.namespace (Refused r)) c e s g
