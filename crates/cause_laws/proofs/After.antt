-- Where a request stands behind a step: as it stood before, at another stage with no reply or an ok one, or refused, and then by what.
use Rattle.std.proofs.Common.{◌≡◌, ◌⊎◌, inl, inr, ℕ, ◌+◌, ◌-◌, nat_le, Bool, true, false, not, cond, ◌&&◌, Some, refl, sym, ◌∙◌, ap}
use Rattle.etcd_types.proofs.Bools.{and_first, not_true}
use Rattle.etcd_types.specs.declared.answer.Answer.{Answer}
use Rattle.etcd_types.specs.declared.answer.Answer.TheVariants.{Done, Refused}
use Rattle.etcd_types.specs.declared.answer.Refusal.{Refusal}
use Rattle.etcd_types.specs.declared.answer.Reply.{Reply}
use Rattle.etcd_types.specs.declared.request.Request.{Request}
use Rattle.proxy_model.specs.Limits.{capped}
use Rattle.read_model.specs.declared.asked.Asked.{Asked}
use Rattle.read_model.specs.declared.asked.Stage.{Stage}
use Rattle.read_model.specs.declared.asked.Stage.TheVariants as stage
use Rattle.read_model.specs.declared.asked.Verdict.{Verdict}
use Rattle.read_model.specs.declared.asked.Verdict.TheVariants as verdict
use Rattle.read_model.specs.PlainRead.{in_stage, called}
use Rattle.read_model.specs.TakingOff.{is_writes}
use Rattle.core_model.specs.declared.event.CoreEvent.{CoreEvent}
use Rattle.core_model.specs.declared.event.CoreEvent.TheVariants as event
use Rattle.core_model.specs.declared.out_call.CallKind.{CallKind}
use Rattle.core_model.specs.declared.out_call.OutCall.{OutCall}
use Rattle.core_model.specs.declared.out_call.OutJob.TheVariants as job
use Rattle.core_model.specs.Asking.{asked_at}
use Rattle.core_model.specs.ClockWork.{request_time, is_replied, times_out, timed_out_ask, clock_work}
use Rattle.core_model.specs.Ends.{stales_limit, is_stale_reply}
use Rattle.core_model.specs.Fits.{CoreOk}
use Rattle.core_model.specs.Heard.{heard}
use Rattle.core_model.specs.Kinds.{writes_keys}
use Rattle.core_model.specs.Lookups.{ask_at, out_at}
use Rattle.core_model.specs.State.{Core}
use Rattle.core_model.specs.Step.{is_worn, stepped}
use Rattle.keep_laws.proofs.Rows.{All, all_kept}
use Rattle.reply_laws.proofs.Before.{is_quiet, Found, found_all}
use Rattle.cause_laws.proofs.Walks.{is_plain, CallOf, ReadOf, OtherOf, Calls, Moves}
use Rattle.cause_laws.proofs.Steps.{IsLost, Keeps, step_walk}

-- the same but for its stage
pub record Alike (x y : Asked) : Type 0 where
  pub ticket : y.ticket ≡ x.ticket
  pub request : y.request ≡ x.request
  pub asked : y.asked ≡ x.asked
  pub losses : y.losses ≡ x.losses
  pub stales : y.stales ≡ x.stales

abbrev alike_itself : (x : Asked) (s : Stage) → Alike x (in_stage s x)
alike_itself x s = record { ticket = refl; request = refl; asked = refl; losses = refl; stales = refl }

abbrev alike_on : (x y : Asked) (s : Stage) → Alike x y → Alike x (in_stage s y)
alike_on x y s h = record { ticket = h.ticket; request = h.request; asked = h.asked; losses = h.losses; stales = h.stales }

-- ---- the clock's work

-- before the requests time out
record Stood (c : Core) (y : Asked) : Type 0 where
  before : Asked
  there : ask_at y.ticket c.asks ≡ Some before
  alike : Alike before y
  stands : is_replied y.stage ≡ false → is_replied before.stage ≡ false
  still : is_quiet y.stage ≡ false → before.stage ≡ y.stage
  replied : (v : Verdict) → y.stage ≡ stage.Replied v → before.stage ≡ stage.Replied v

-- and behind the clock's work: one that is late is refused
pub record Behind (c : Core) (now : ℕ) (y : Asked) : Type 0 where
  pub before : Asked
  pub there : ask_at y.ticket c.asks ≡ Some before
  pub alike : Alike before y
  pub stands : is_replied y.stage ≡ false → (is_replied before.stage ≡ false) × (times_out now before ≡ false)
  pub still : is_quiet y.stage ≡ false → before.stage ≡ y.stage
  pub replied : (v : Verdict) → y.stage ≡ stage.Replied v → (before.stage ≡ stage.Replied v) ⊎ ((v ≡ verdict.TimedOut) × (times_out now before ≡ true))

stood_start : (c : Core) (x : Asked) → Found c.asks x → Stood c x
stood_start c x f = record { before = x; there = f; alike = record { ticket = refl; request = refl; asked = refl; losses = refl; stales = refl }; stands = λ h. h; still = λ n. refl; replied = λ v e. e }

stood_calls : (c : Core) → Calls (Stood c)
stood_calls c x step o h = record { before = h.before; there = h.there; alike = alike_on h.before x (called step) h.alike; stands = λ n. h.stands o; still = λ n. absurd (let f : true ≡ false = n in cc); replied = λ v e. absurd (cc) }

behind_calls : (c : Core) (now : ℕ) → Calls (Behind c now)
behind_calls c now x step o h = record { before = h.before; there = h.there; alike = alike_on h.before x (called step) h.alike; stands = λ n. h.stands o; still = λ n. absurd (let f : true ≡ false = n in cc); replied = λ v e. absurd (cc) }

-- they are late together
pub same_late : (now : ℕ) (x y : Asked) → is_replied x.stage ≡ false → is_replied y.stage ≡ false → y.asked ≡ x.asked → times_out now x ≡ times_out now y
same_late now x y n m e = λ i. not ((n ∙ sym m) i) && nat_le request_time (now - sym e i)

pub late_open : (now : ℕ) (x : Asked) → times_out now x ≡ true → is_replied x.stage ≡ false
late_open now x h = not_true (is_replied x.stage) (and_first (not (is_replied x.stage)) (nat_le request_time (now - x.asked)) h)

timed_behind : (c : Core) (now : ℕ) (x : Asked) → Stood c x → Behind c now (timed_out_ask now x)
timed_behind c now x h = by (times_out now x) refl
  where
    by : (b : Bool) → times_out now x ≡ b → Behind c now (cond b (in_stage (stage.Replied verdict.TimedOut) x) x)
    by true e =
        let waits = late_open now x e in
        record {
          before = h.before;
          there = h.there;
          alike = alike_on h.before x (stage.Replied verdict.TimedOut) h.alike;
          stands = λ n. absurd (cc);
          still = λ n. absurd (let f : true ≡ false = n in cc);
          replied = λ v f. inr (same_verdict v f, same_late now h.before x (h.stands waits) waits h.alike.asked ∙ e);
        }
      where
        same_verdict : (v : Verdict) → ◌≡◌ {A = Stage} (stage.Replied verdict.TimedOut) (stage.Replied v) → v ≡ verdict.TimedOut
        same_verdict v f = cc
    by false e = record { before = h.before; there = h.there; alike = h.alike; stands = λ n. (h.stands n, same_late now h.before x (h.stands n) n h.alike.asked ∙ e); still = h.still; replied = λ v f. inl (h.replied v f) }

-- ---- the whole step

-- one call more of it was lost
pub record LostMore (x y : Asked) : Type 0 where
  pub ticket : y.ticket ≡ x.ticket
  pub request : y.request ≡ x.request
  pub asked : y.asked ≡ x.asked
  pub losses : y.losses ≡ capped (x.losses + 1)
  pub stales : y.stales ≡ x.stales

-- one reply more of it was stale
pub record StaleMore (x y : Asked) : Type 0 where
  pub ticket : y.ticket ≡ x.ticket
  pub request : y.request ≡ x.request
  pub asked : y.asked ≡ x.asked
  pub losses : y.losses ≡ x.losses
  pub stales : y.stales ≡ capped (x.stales + 1)

-- it may go on, below the limit; or it is over
abbrev pub GoesOn : Verdict → ℕ → ℕ → Stage → Type 0
GoesOn v limit n s = ((is_plain s ≡ true) × (nat_le limit n ≡ false)) ⊎ ((s ≡ stage.Replied v) × (nat_le limit n ≡ true))

-- a call of the request has ended at this step, in the proxy whose clock's work is done
pub record EndsNow (c : Core) (now : ℕ) (o : OutCall) (x : Asked) : Type 0 where
  pub out : out_at o.call (clock_work now c).out ≡ Some o
  pub of : CallOf (clock_work now c).own.waits.writes o x
  pub behind : Behind c now x

pub data After (c : Core) (e : CoreEvent) (now : ℕ) (y : Asked) : Type 0 where
  kept : Behind c now y → After c e now y
  goes : (x : Asked) → Behind c now x → is_replied x.stage ≡ false → Alike x y → is_plain y.stage ≡ true → After c e now y
  asked : (ticket word : ℕ) (q : Request) → e ≡ event.Ask ticket q word → Alike (asked_at now ticket q word) y → (is_plain y.stage ≡ true) ⊎ ((is_replied y.stage ≡ false) × (is_writes y.stage ≡ true → writes_keys q ≡ true)) → After c e now y
  tells : (o : OutCall) (x : Asked) (a : Answer) (r : Refusal) → EndsNow c now o x → e ≡ event.Answer o.call a → heard (clock_work now c).settings.namespace a ≡ Some (Refused r) → Alike x y → y.stage ≡ stage.Replied (verdict.Said (Refused r)) → After c e now y
  fails : (o : OutCall) (x : Asked) → EndsNow c now o x → IsLost (clock_work now c) e now o → OtherOf o x → Alike x y → y.stage ≡ stage.Replied verdict.Lost → After c e now y
  loses : (o : OutCall) (x : Asked) → EndsNow c now o x → IsLost (clock_work now c) e now o → ReadOf o x → LostMore x y → GoesOn verdict.Lost (clock_work now c).members.count y.losses y.stage → After c e now y
  stales : (o : OutCall) (x : Asked) (k : CallKind) (a : Answer) (reply : Reply) → EndsNow c now o x → e ≡ event.Answer o.call a → heard (clock_work now c).settings.namespace a ≡ Some (Done reply) → o.job ≡ job.Ask k → is_stale_reply k o reply ≡ true
      → StaleMore x y → GoesOn verdict.Stale (stales_limit (clock_work now c).members.count) y.stales y.stage → After c e now y

pub no_reply : {A : Type 0} (y : Asked) (v : Verdict) → is_replied y.stage ≡ false → y.stage ≡ stage.Replied v → A
no_reply y v n e = absurd (let f : true ≡ false = sym (ap is_replied e) ∙ n in cc)

on_goes : (v : Verdict) (limit n : ℕ) (y : Asked) (s : Stage) → is_replied y.stage ≡ false → is_plain s ≡ true → GoesOn v limit n y.stage → GoesOn v limit n s
on_goes v limit n y s o plain (inl h) = inl (plain, h.1)
on_goes v limit n y s o plain (inr h) = no_reply y v o h.0

after_moves : (c : Core) (e : CoreEvent) (now : ℕ) → Moves (After c e now)
after_moves c e now y s o plain (kept h) = goes y h o (alike_itself y s) plain
after_moves c e now y s o plain (goes x h n l p) = goes x h n (alike_on x y s l) plain
after_moves c e now y s o plain (asked ticket word q i l p) = asked ticket word q i (alike_on (asked_at now ticket q word) y s l) (inl plain)
after_moves c e now y s o plain (tells call x a r h i g l t) = no_reply y _ o t
after_moves c e now y s o plain (fails call x h i r l t) = no_reply y _ o t
after_moves c e now y s o plain (loses call x h i r l t) =
    loses call x h i r (record { ticket = l.ticket; request = l.request; asked = l.asked; losses = l.losses; stales = l.stales }) (on_goes verdict.Lost (clock_work now c).members.count y.losses y s o plain t)
after_moves c e now y s o plain (stales call x k a reply h i g j b l t) =
    stales call x k a reply h i g j b (record { ticket = l.ticket; request = l.request; asked = l.asked; losses = l.losses; stales = l.stales }) (on_goes verdict.Stale (stales_limit (clock_work now c).members.count) y.stales y s o plain t)

once_goes : (limit n step : ℕ) (v : Verdict) → GoesOn v limit n (cond (nat_le limit n) (stage.Replied v) (called step))
once_goes limit n step v = by (nat_le limit n) refl
  where
    by : (b : Bool) → nat_le limit n ≡ b → GoesOn v limit n (cond b (stage.Replied v) (called step))
    by true e = inr (refl, e)
    by false e = inl (refl, e)

after_keeps : (c : Core) (e : CoreEvent) (now : ℕ) → Keeps (Behind c now) (After c e now) (clock_work now c) e now
after_keeps c e now = record {
  turn = λ x h. kept h;
  moves = after_moves c e now;
  fresh = λ ticket word q i s o w. asked ticket word q i (alike_itself (asked_at now ticket q word) s) (inr (o, w));
  tells = λ o a b f i g. record {
    refused = λ x r is of h. tells o x a r (record { out = f; of = of; behind = h }) i (g ∙ ap (λ (z : Answer). Some z) is) (alike_itself x _) refl;
    stale = λ x k reply is j t of h. stales o x k a reply (record { out = f; of = of; behind = h }) i (g ∙ ap (λ (z : Answer). Some z) is) j t
        (record { ticket = refl; request = refl; asked = refl; losses = refl; stales = refl }) (once_goes (stales_limit (clock_work now c).members.count) (capped (x.stales + 1)) (clock_work now c).own.waits.step verdict.Stale);
  };
  loses = λ o f i. record {
    once = λ x of r h. loses o x (record { out = f; of = of; behind = h }) i r (record { ticket = refl; request = refl; asked = refl; losses = refl; stales = refl })
        (once_goes (clock_work now c).members.count (capped (x.losses + 1)) (clock_work now c).own.waits.step verdict.Lost);
    fails = λ x of r h. fails o x (record { out = f; of = of; behind = h }) i r (alike_itself x _) refl;
  };
}

-- each request behind a step
pub all_after : (c : Core) (e : CoreEvent) (now : ℕ) → CoreOk c → is_worn c ≡ false → All (After c e now) (stepped c e now).core.asks
all_after c e now ok w =
    step_walk (Stood c) (Behind c now) (After c e now) c e now ok w (stood_calls c) (behind_calls c now) (timed_behind c now) (after_keeps c e now) (all_kept (Found c.asks) (Stood c) (stood_start c) c.asks (found_all c.asks ok.agrees.asks.once))
