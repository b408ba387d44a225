-- What items make of the session that they tell of: it is live or gone behind a step of its proxy, and only a grant brings a new one.
use Rattle.std.proofs.Common.{◌≡◌, ℕ, ◌+◌, ◌*◌, ◌==◌, ◌≤◌, Bool, true, false, not, ◌&&◌, ◌||◌, cond, nat_lt, nat_le, max, List, [], ◌∷◌, ◌++◌, append_assoc, append-nil, Option, None, Some, refl, sym, ◌∙◌, ap, subst, arith}
use Rattle.std.proofs.lemmas.Bool.Decides.{nat_tests}
use Rattle.std.specs.List.{list_all, list_any}
use Rattle.etcd_types.specs.declared.answer.Answer.{Answer}
use Rattle.etcd_types.specs.declared.answer.Answer.TheVariants.{Done, Refused}
use Rattle.etcd_types.specs.declared.answer.Body.{Body}
use Rattle.etcd_types.specs.declared.answer.Body.TheVariants as body
use Rattle.etcd_types.specs.declared.request.Request.{Request}
use Rattle.etcd_types.specs.declared.request.Request.TheVariants as request
use Rattle.etcd_types.specs.declared.operation.Op.{Op}
use Rattle.etcd_types.specs.declared.operation.Op.TheVariants as op
use Rattle.etcd_types.proofs.Bools.{and_first, and_second, and_false, or_first, or_second, or_true, or_false, not_true}
use Rattle.etcd_types.specs.declared.code.TheConstants.{NOT_FOUND}
use Rattle.proxy_model.specs.RequestRefusals.{is_session, names_session, op_names_session}
use Rattle.script_text.specs.declared.item.Item.{Item}
use Rattle.script_text.specs.declared.item.Item.TheVariants as item
use Rattle.world_model.specs.Lives.{begins, clock_by, clock_from, clock_of}
use Rattle.world_model.specs.LiveSessions.{Session, is_step_of, put_under, acquires_under, ended_if, kept_until, done_with, heard_answer, session_heard, session_at, session_by, session_from, session_of}
use Rattle.core_laws.proofs.Steps.Lists.{same_number}
use Rattle.session_laws.specs.Told.{live_if, live_as, told_live}

-- ---- at a look at the clock

not_both : (e b c : Bool) → (b ≡ true → c ≡ false) → not (e || b) && c ≡ not e && c
not_both true b c h = refl
not_both false true c h = sym (h refl)
not_both false false c h = refl

passed : (now t deadline : ℕ) → now ≤ t → nat_le deadline now ≡ true → nat_lt t deadline ≡ false
passed now t deadline l e = grind (arith, nat_tests)

pub at_later : (now t : ℕ) (s : Option Session) → now ≤ t → told_live t (session_at now s) ≡ told_live t s
at_later now t None l = refl
at_later now t (Some s) l = ap (λ (b : Bool). live_if b (live_as s)) (not_both s.ended (nat_le s.deadline now) (nat_lt t s.deadline) (passed now t s.deadline l))

abbrev pub is_gone : Option Session → Bool
is_gone None = true
is_gone (Some s) = s.ended

pub gone_told : (t : ℕ) (s : Option Session) → is_gone s ≡ true → told_live t s ≡ None
gone_told t None e = refl
gone_told t (Some s) e = ap (λ (b : Bool). live_if (not b && nat_lt t s.deadline) (live_as s)) e

-- it is live then, or gone
pub data Stands (now : ℕ) (s : Option Session) : Type 0 where
  live : (x : Session) → s ≡ Some x → x.ended ≡ false → nat_lt now x.deadline ≡ true → session_at now s ≡ Some x → Stands now s
  gone : is_gone (session_at now s) ≡ true → Stands now s

not_yet : (now deadline : ℕ) → nat_lt now deadline ≡ true → nat_le deadline now ≡ false
not_yet now deadline e = grind (arith, nat_tests)

too_late : (now deadline : ℕ) → nat_lt now deadline ≡ false → nat_le deadline now ≡ true
too_late now deadline e = grind (arith, nat_tests)

pub stands : (now : ℕ) (s : Option Session) → Stands now s
stands now None = gone refl
stands now (Some s) = by s.ended refl (nat_lt now s.deadline) refl
  where
    by : (e : Bool) → s.ended ≡ e → (b : Bool) → nat_lt now s.deadline ≡ b → Stands now (Some s)
    by true e b f = gone (ap (λ (x : Bool). x || nat_le s.deadline now) e)
    by false e true f = live s refl e f (λ i. Some (record s { ended = (ap (λ (x : Bool). x || nat_le s.deadline now) e ∙ not_yet now s.deadline f ∙ sym e) i }))
    by false e false f = gone (ap (λ (x : Bool). s.ended || x) (too_late now s.deadline f) ∙ or_true s.ended)

-- ---- an answer is heard

-- only a grant of a session's number begins one
abbrev pub grants_session : Request → Bool
grants_session (request.Grant asked lease) = is_session lease
grants_session _ = false

done_gone : (sent : ℕ) (q : Request) (b : Body) (s : Option Session) → grants_session q ≡ false → is_gone s ≡ true → is_gone (done_with sent q b s) ≡ true
done_gone sent (request.Grant asked lease) (body.Grant number ttl) s g h = ap (λ (b : Bool). is_gone (cond b (Some (record { number = number; deadline = sent + 1000 * ttl; ended = false })) s)) g ∙ h
done_gone sent (request.Grant asked lease) (body.Range count more kvs) s g h = h
done_gone sent (request.Grant asked lease) (body.Put prev) s g h = h
done_gone sent (request.Grant asked lease) (body.Delete deleted prevs) s g h = h
done_gone sent (request.Grant asked lease) (body.Txn' succeeded n bodies) s g h = h
done_gone sent (request.Grant asked lease) body.Compact s g h = h
done_gone sent (request.Grant asked lease) (body.KeepAlive number ttl) s g h = h
done_gone sent (request.Grant asked lease) body.Revoke s g h = h
done_gone sent (request.Grant asked lease) (body.TimeToLive number ttl granted keys) s g h = h
done_gone sent (request.Grant asked lease) (body.Leases leases) s g h = h
done_gone sent (request.KeepAlive lease) (body.KeepAlive number ttl) s g h = by s h
  where
    by : (s : Option Session) → is_gone s ≡ true → is_gone (kept_until sent lease ttl s) ≡ true
    by None h = refl
    by (Some x) h = by_number (x.number == lease)
      where
        by_number : (b : Bool) → is_gone (cond b (Some (ended_if (ttl == 0) (record x { deadline = max x.deadline (sent + 1000 * ttl) }))) (Some x)) ≡ true
        by_number true = ap (λ (e : Bool). e || ttl == 0) h
        by_number false = h
done_gone sent (request.KeepAlive lease) (body.Range count more kvs) s g h = h
done_gone sent (request.KeepAlive lease) (body.Put prev) s g h = h
done_gone sent (request.KeepAlive lease) (body.Delete deleted prevs) s g h = h
done_gone sent (request.KeepAlive lease) (body.Txn' succeeded n bodies) s g h = h
done_gone sent (request.KeepAlive lease) body.Compact s g h = h
done_gone sent (request.KeepAlive lease) (body.Grant number ttl) s g h = h
done_gone sent (request.KeepAlive lease) body.Revoke s g h = h
done_gone sent (request.KeepAlive lease) (body.TimeToLive number ttl granted keys) s g h = h
done_gone sent (request.KeepAlive lease) (body.Leases leases) s g h = h
done_gone sent (request.Range ask) b s g h = h
done_gone sent (request.Put ask) b s g h = h
done_gone sent (request.Delete ask) b s g h = h
done_gone sent (request.Txn t) b s g h = h
done_gone sent (request.Compact revision physical) b s g h = h
done_gone sent (request.Revoke lease) b s g h = h
done_gone sent (request.TimeToLive lease keys) b s g h = h
done_gone sent request.Leases b s g h = h
done_gone sent (request.Watch ask) b s g h = h

pub answer_gone : (sent : ℕ) (q : Request) (a : Answer) (s : Option Session) → grants_session q ≡ false → is_gone s ≡ true → is_gone (heard_answer sent q (Some a) s) ≡ true
answer_gone sent q (Done reply) s g h = done_gone sent q reply.body s g h
answer_gone sent q (Refused why) None g h = refl
answer_gone sent q (Refused why) (Some x) g h = ap (λ (b : Bool). b || (why.code == NOT_FOUND && acquires_under x.number q)) h

-- ---- a call that names no session leaves it

apart_done : (sent : ℕ) (q : Request) (b : Body) (x : Session) → names_session q ≡ false → is_session x.number ≡ true → done_with sent q b (Some x) ≡ Some x
apart_done sent (request.Grant asked lease) (body.Grant number ttl) x n h = ap (λ (b : Bool). cond b (Some (record { number = number; deadline = sent + 1000 * ttl; ended = false })) (Some x)) n
apart_done sent (request.Grant asked lease) (body.Range count more kvs) x n h = refl
apart_done sent (request.Grant asked lease) (body.Put prev) x n h = refl
apart_done sent (request.Grant asked lease) (body.Delete deleted prevs) x n h = refl
apart_done sent (request.Grant asked lease) (body.Txn' succeeded m bodies) x n h = refl
apart_done sent (request.Grant asked lease) body.Compact x n h = refl
apart_done sent (request.Grant asked lease) (body.KeepAlive number ttl) x n h = refl
apart_done sent (request.Grant asked lease) body.Revoke x n h = refl
apart_done sent (request.Grant asked lease) (body.TimeToLive number ttl granted keys) x n h = refl
apart_done sent (request.Grant asked lease) (body.Leases leases) x n h = refl
apart_done sent (request.KeepAlive lease) (body.KeepAlive number ttl) x n h = by (x.number == lease) refl
  where
    by : (b : Bool) → (x.number == lease) ≡ b → cond b (Some (ended_if (ttl == 0) (record x { deadline = max x.deadline (sent + 1000 * ttl) }))) (Some x) ≡ Some x
    by true e = absurd (let f : true ≡ false = sym h ∙ ap is_session (same_number x.number lease e) ∙ n in cc)
    by false e = refl
apart_done sent (request.KeepAlive lease) (body.Range count more kvs) x n h = refl
apart_done sent (request.KeepAlive lease) (body.Put prev) x n h = refl
apart_done sent (request.KeepAlive lease) (body.Delete deleted prevs) x n h = refl
apart_done sent (request.KeepAlive lease) (body.Txn' succeeded m bodies) x n h = refl
apart_done sent (request.KeepAlive lease) body.Compact x n h = refl
apart_done sent (request.KeepAlive lease) (body.Grant number ttl) x n h = refl
apart_done sent (request.KeepAlive lease) body.Revoke x n h = refl
apart_done sent (request.KeepAlive lease) (body.TimeToLive number ttl granted keys) x n h = refl
apart_done sent (request.KeepAlive lease) (body.Leases leases) x n h = refl
apart_done sent (request.Range ask) b x n h = refl
apart_done sent (request.Put ask) b x n h = refl
apart_done sent (request.Delete ask) b x n h = refl
apart_done sent (request.Txn t) b x n h = refl
apart_done sent (request.Compact revision physical) b x n h = refl
apart_done sent (request.Revoke lease) b x n h = refl
apart_done sent (request.TimeToLive lease keys) b x n h = refl
apart_done sent request.Leases b x n h = refl
apart_done sent (request.Watch ask) b x n h = refl

op_apart : (number : ℕ) (o : Op) → op_names_session o ≡ false → is_session number ≡ true → put_under number o ≡ false
op_apart number (op.Put ask) n h = by (ask.lease == number) refl
  where
    by : (b : Bool) → (ask.lease == number) ≡ b → b ≡ false
    by true e = absurd (let f : true ≡ false = sym h ∙ ap is_session (sym (same_number ask.lease number e)) ∙ n in cc)
    by false e = refl
op_apart number (op.Range ask) n h = refl
op_apart number (op.Delete ask) n h = refl
op_apart number (op.Txn' compare m success k failure) n h = refl

ops_apart : (number : ℕ) (ops : List Op) → list_any op_names_session ops ≡ false → is_session number ≡ true → list_any (put_under number) ops ≡ false
ops_apart number [] n h = refl
ops_apart number (o ∷ ops) n h =
    ap (λ (b : Bool). b || list_any (put_under number) ops) (op_apart number o (or_first (op_names_session o) (list_any op_names_session ops) n) h) ∙ ops_apart number ops (or_second (op_names_session o) (list_any op_names_session ops) n) h

apart_under : (number : ℕ) (q : Request) → names_session q ≡ false → is_session number ≡ true → acquires_under number q ≡ false
apart_under number (request.Txn t) n h = ops_apart number t.success (or_first (list_any op_names_session t.success) (list_any op_names_session t.failure) n) h
apart_under number (request.Range ask) n h = refl
apart_under number (request.Put ask) n h = refl
apart_under number (request.Delete ask) n h = refl
apart_under number (request.Compact revision physical) n h = refl
apart_under number (request.Grant asked lease) n h = refl
apart_under number (request.Revoke lease) n h = refl
apart_under number (request.KeepAlive lease) n h = refl
apart_under number (request.TimeToLive lease keys) n h = refl
apart_under number request.Leases n h = refl
apart_under number (request.Watch ask) n h = refl

-- a refusal that doesn't end it
pub refused_leaves : (code : ℕ) (q : Request) (x : Session) (b : Bool) → ended_if b x ≡ ended_if false x → Some (ended_if b x) ≡ Some x
refused_leaves code q x b e = ap (λ (y : Session). Some y) e ∙ (λ i. Some (record x { ended = or_false x.ended i }))

pub apart_answer : (sent : ℕ) (q : Request) (a : Answer) (x : Session) → names_session q ≡ false → is_session x.number ≡ true → heard_answer sent q (Some a) (Some x) ≡ Some x
apart_answer sent q (Done reply) x n h = apart_done sent q reply.body x n h
apart_answer sent q (Refused why) x n h =
    (λ i. Some (record x { ended = (ap (λ (b : Bool). x.ended || ((why.code == NOT_FOUND) && b)) (apart_under x.number q n h) ∙ ap (λ (b : Bool). x.ended || b) (and_false (why.code == NOT_FOUND)) ∙ or_false x.ended) i }))

-- ---- items that leave a session

pub by_quiet : (p : ℕ) (before : List Item) (i : Item) (s : Option Session) (t : ℕ) → begins p i ≡ false → ((r : Option Session) → session_heard p before i r ≡ r) → clock_of p before ≤ t
    → told_live t (session_by p before i s) ≡ told_live t s
by_quiet p before i s t b h l =
    ap (λ (c : Bool). told_live t (cond c None (session_heard p before i (cond (is_step_of p before i) (session_at (clock_of p before) s) s)))) b
    ∙ ap (told_live t) (h (cond (is_step_of p before i) (session_at (clock_of p before) s) s)) ∙ by (is_step_of p before i)
  where
    by : (c : Bool) → told_live t (cond c (session_at (clock_of p before) s) s) ≡ told_live t s
    by true = at_later (clock_of p before) t s l
    by false = refl

-- it neither starts the proxy, nor sets its clock, nor is an answer
abbrev pub is_still : ℕ → Item → Bool
is_still p (item.Started q) = not (q == p)
is_still p (item.Restarted q) = not (q == p)
is_still p (item.Clock q millis) = not (q == p)
is_still p (item.Answered call) = false
is_still p _ = true

-- what these items make of the proxy's clock and session
pub record AreQuietTo (p : ℕ) (items after : List Item) : Type 0 where
  pub clock : clock_of p after ≡ clock_of p items
  pub live : (t : ℕ) → clock_of p items ≤ t → told_live t (session_of p after) ≡ told_live t (session_of p items)

abbrev pub AreQuiet : ℕ → List Item → List Item → Type 0
AreQuiet p items more = AreQuietTo p items (items ++ more)

pub clock-append : (p now : ℕ) (xs ys : List Item) → clock_from p now (xs ++ ys) ≡ clock_from p (clock_from p now xs) ys
clock-append p now [] ys = refl
clock-append p now (x ∷ xs) ys = clock-append p (clock_by p now x) xs ys

session-append : (p : ℕ) (before : List Item) (s : Option Session) (xs ys : List Item) → session_from p before s (xs ++ ys) ≡ session_from p (before ++ xs) (session_from p before s xs) ys
session-append p before s [] ys = ap (λ (b : List Item). session_from p b s ys) (sym (append-nil before))
session-append p before s (x ∷ xs) ys =
    session-append p (before ++ x ∷ []) (session_by p before x s) xs ys
    ∙ ap (λ (b : List Item). session_from p b (session_from p (before ++ x ∷ []) (session_by p before x s) xs) ys) (append_assoc before (x ∷ []) xs)

pub session_next : (p : ℕ) (items : List Item) (i : Item) → session_of p (items ++ i ∷ []) ≡ session_by p items i (session_of p items)
session_next p items i = session-append p [] None items (i ∷ [])

still_begins : (p : ℕ) (i : Item) → is_still p i ≡ true → begins p i ≡ false
still_begins p (item.Started q) h = not_true (q == p) h
still_begins p (item.Restarted q) h = not_true (q == p) h
still_begins p (item.World members namespace leasing) h = refl
still_begins p (item.Clock q millis) h = refl
still_begins p (item.Asked q ticket r) h = refl
still_begins p (item.Posted q ticket path body) h = refl
still_begins p (item.Ticked q) h = refl
still_begins p (item.Sent q call member ticket r) h = refl
still_begins p (item.Opened q stream member r) h = refl
still_begins p (item.Closed q stream) h = refl
still_begins p (item.Executed call answer) h = refl
still_begins p (item.Answered call) h = absurd (cc)
still_begins p (item.Lost call) h = refl
still_begins p (item.Pushed stream message) h = refl
still_begins p (item.Delivered stream) h = refl
still_begins p (item.Cut stream) h = refl
still_begins p (item.Taken q ticket message) h = refl
still_begins p (item.Pending q ticket) h = refl
still_begins p (item.Left q ticket) h = refl
still_begins p (item.Expired lease) h = refl
still_begins p (item.Applied member revision) h = refl
still_begins p (item.Reply q ticket a) h = refl
still_begins p (item.Body q ticket status text) h = refl

still_heard : (p : ℕ) (before : List Item) (i : Item) (s : Option Session) → is_still p i ≡ true → session_heard p before i s ≡ s
still_heard p before (item.World members namespace leasing) s h = refl
still_heard p before (item.Started q) s h = refl
still_heard p before (item.Restarted q) s h = refl
still_heard p before (item.Clock q millis) s h = refl
still_heard p before (item.Asked q ticket r) s h = refl
still_heard p before (item.Posted q ticket path body) s h = refl
still_heard p before (item.Ticked q) s h = refl
still_heard p before (item.Sent q call member ticket r) s h = refl
still_heard p before (item.Opened q stream member r) s h = refl
still_heard p before (item.Closed q stream) s h = refl
still_heard p before (item.Executed call answer) s h = refl
still_heard p before (item.Answered call) s h = absurd (cc)
still_heard p before (item.Lost call) s h = refl
still_heard p before (item.Pushed stream message) s h = refl
still_heard p before (item.Delivered stream) s h = refl
still_heard p before (item.Cut stream) s h = refl
still_heard p before (item.Taken q ticket message) s h = refl
still_heard p before (item.Pending q ticket) s h = refl
still_heard p before (item.Left q ticket) s h = refl
still_heard p before (item.Expired lease) s h = refl
still_heard p before (item.Applied member revision) s h = refl
still_heard p before (item.Reply q ticket a) s h = refl
still_heard p before (item.Body q ticket status text) s h = refl

still_clock : (p now : ℕ) (i : Item) → is_still p i ≡ true → clock_by p now i ≡ now
still_clock p now (item.Clock q millis) h = ap (λ (b : Bool). cond b millis now) (not_true (q == p) h)
still_clock p now (item.World members namespace leasing) h = refl
still_clock p now (item.Started q) h = refl
still_clock p now (item.Restarted q) h = refl
still_clock p now (item.Asked q ticket r) h = refl
still_clock p now (item.Posted q ticket path body) h = refl
still_clock p now (item.Ticked q) h = refl
still_clock p now (item.Sent q call member ticket r) h = refl
still_clock p now (item.Opened q stream member r) h = refl
still_clock p now (item.Closed q stream) h = refl
still_clock p now (item.Executed call answer) h = refl
still_clock p now (item.Answered call) h = refl
still_clock p now (item.Lost call) h = refl
still_clock p now (item.Pushed stream message) h = refl
still_clock p now (item.Delivered stream) h = refl
still_clock p now (item.Cut stream) h = refl
still_clock p now (item.Taken q ticket message) h = refl
still_clock p now (item.Pending q ticket) h = refl
still_clock p now (item.Left q ticket) h = refl
still_clock p now (item.Expired lease) h = refl
still_clock p now (item.Applied member revision) h = refl
still_clock p now (item.Reply q ticket a) h = refl
still_clock p now (item.Body q ticket status text) h = refl

pub quiet_none : (p : ℕ) (items : List Item) → AreQuiet p items []
quiet_none p items = subst (λ (xs : List Item). AreQuietTo p items xs) (sym (append-nil items)) (record { clock = refl; live = λ t l. refl })

pub quiet_one : (p : ℕ) (items : List Item) (i : Item) → begins p i ≡ false → ((s : Option Session) → session_heard p items i s ≡ s) → ((now : ℕ) → clock_by p now i ≡ now) → AreQuiet p items (i ∷ [])
quiet_one p items i b h c = record {
  clock = clock-append p 0 items (i ∷ []) ∙ c (clock_of p items);
  live = λ t l. ap (told_live t) (session_next p items i) ∙ by_quiet p items i (session_of p items) t b h l;
}

pub quiet-append : (p : ℕ) (items xs ys : List Item) → AreQuiet p items xs → AreQuiet p (items ++ xs) ys → AreQuiet p items (xs ++ ys)
quiet-append p items xs ys h k = subst (λ (zs : List Item). AreQuietTo p items zs) (append_assoc items xs ys) (record {
  clock = k.clock ∙ h.clock;
  live = λ t l. k.live t (subst (λ (n : ℕ). n ≤ t) (sym h.clock) l) ∙ h.live t l;
})

pub still_quiet : (p : ℕ) (items more : List Item) → list_all (is_still p) more ≡ true → AreQuiet p items more
still_quiet p items [] h = quiet_none p items
still_quiet p items (i ∷ more) h =
    let one = and_first (is_still p i) (list_all (is_still p) more) h in
    quiet-append p items (i ∷ []) more (quiet_one p items i (still_begins p i one) (λ s. still_heard p items i s one) (λ now. still_clock p now i one))
    (still_quiet p (items ++ i ∷ []) more (and_second (is_still p i) (list_all (is_still p) more) h))
