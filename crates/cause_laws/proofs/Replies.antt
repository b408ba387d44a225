-- Where the answers come from that a line tells: the refusal of a request at its own step, or what a request stood replied with that is fetched.
use Rattle.std.proofs.Common.{◌≡◌, ℕ, zero, suc, Bool, true, false, cond, Option, None, Some, Result, Ok, Err, refl, sym, ap, subst}
use Rattle.etcd_types.specs.declared.answer.Answer.{Answer}
use Rattle.etcd_types.specs.declared.answer.Answer.TheVariants.{Done, Refused}
use Rattle.etcd_types.specs.declared.answer.Body.{Body}
use Rattle.etcd_types.specs.declared.answer.Refusal.{Refusal}
use Rattle.etcd_types.specs.declared.request.Request.{Request}
use Rattle.etcd_types.specs.declared.request.Request.TheVariants as request
use Rattle.etcd_types.specs.declared.watch.WatchItem.{WatchItem}
use Rattle.watch_model.specs.Lookups.{watch_at}
use Rattle.watch_model.specs.State.{Watch, Broadcasts}
use Rattle.watch_model.specs.Takes as watches
use Rattle.read_model.specs.declared.asked.Asked.{Asked}
use Rattle.read_model.specs.declared.asked.Stage.{Stage}
use Rattle.read_model.specs.declared.asked.Stage.TheVariants as stage
use Rattle.read_model.specs.declared.asked.Verdict.{Verdict}
use Rattle.read_model.specs.declared.asked.Verdict.TheVariants as verdict
use Rattle.read_model.specs.Acquires.{read_asked}
use Rattle.read_model.specs.PlainRead.{decision, ask_key}
use Rattle.read_model.specs.State.{Moment, ground_of}
use Rattle.core_model.specs.declared.event.CoreEvent.TheVariants as event
use Rattle.core_model.specs.declared.event.Outcome.{Outcome}
use Rattle.core_model.specs.declared.event.Outcome.TheVariants as outcome
use Rattle.core_model.specs.declared.event.StepFault.{StepFault}
use Rattle.core_model.specs.declared.event.StepFault.TheVariants as fault
use Rattle.core_model.specs.Asking.{asked_at, is_leased_read, read_by, read_is_asked, write_is_asked, held_body, if_live, call_is_asked, answered_or_called, leased_ask, taken_in, request_asked, refused_or_taken, on_ask}
use Rattle.core_model.specs.ClockWork.{clock_work}
use Rattle.core_model.specs.Kinds.{writes_keys}
use Rattle.core_model.specs.Lookups.{leases, is_known, moment, reads_of, with_reads, ask_at}
use Rattle.core_model.specs.Refusals.{refusal_of}
use Rattle.core_model.specs.State.{Core}
use Rattle.core_model.specs.Step.{stepped}
use Rattle.core_model.specs.Stepped.{Stepped, faults}
use Rattle.core_model.specs.Takes.{item_taken, taken, on_take, ready}
use Rattle.core_model.specs.Takes as takes
use Rattle.core_model.specs.Verdicts.{reply_of}
use Rattle.core_model.specs.Watching.{taken_item}
use Rattle.core_laws.proofs.Steps.Comes.{by_test}
use Rattle.world_model.specs.Gains.{Replies, with_reply, fetched_as, fetched_if, fetched}
use Rattle.world_model.specs.Places.{with_core}
use Rattle.world_model.specs.State.{Place}
use Rattle.renewed_laws.proofs.Replies.{Each, each_put, has_given}
use Rattle.cause_laws.proofs.Walks.{is_plain, decided_plain}

-- ---- a request is refused at its own step

-- the step gives no refusal but this one
abbrev Refuses : Option Refusal → Stepped → Type 0
Refuses o s = (r : Refusal) → s.outcome ≡ Ok (outcome.Replied (Refused r)) → o ≡ Some r

no_wait : {A : Type 0} (r : Refusal) → ◌≡◌ {A = Result Outcome StepFault} (Ok outcome.Waiting) (Ok (outcome.Replied (Refused r))) → A
no_wait r e = absurd (cc)

body_refuses : (b : Option Body) (a : Asked) (c : Core) → Refuses None (answered_or_called b a c)
body_refuses None a c r e = no_wait r e
body_refuses (Some b) a c r e = absurd (cc)

plain_refuses : (v : Verdict) → is_plain (stage.Replied v) ≡ true → (c d : Core) → Refuses None (read_by (stage.Replied v) c d)
plain_refuses (verdict.Said (Done reply)) h c d r e = absurd (cc)
plain_refuses (verdict.Said (Refused q)) h c d r e = absurd (let f : false ≡ true = h in cc)
plain_refuses verdict.TimedOut h c d r e = absurd (let f : false ≡ true = h in cc)
plain_refuses verdict.Lost h c d r e = absurd (let f : false ≡ true = h in cc)
plain_refuses verdict.Stale h c d r e = absurd (let f : false ≡ true = h in cc)

read_refuses : (m : Moment) (a : Asked) (c : Core) → Refuses None (read_is_asked m a c)
read_refuses m a c = by (decision m (ground_of (reads_of c)) (ask_key a)).stage (decided_plain _ _ _ _ _)
  where
    by : (s : Stage) → is_plain s ≡ true → Refuses None (read_by s c (with_reads c (read_asked m a (reads_of c))))
    by (stage.Replied v) h = plain_refuses v h c (with_reads c (read_asked m a (reads_of c)))
    by (stage.Calling s) h = λ r e. no_wait r e
    by stage.Acquiring h = λ r e. no_wait r e
    by stage.Joined h = λ r e. no_wait r e
    by stage.Behind h = λ r e. no_wait r e
    by stage.Writes h = λ r e. no_wait r e
    by (stage.Grouped s) h = λ r e. no_wait r e

either : (b : Bool) (x y : Stepped) → Refuses None x → Refuses None y → Refuses None (cond b x y)
either true x y h k = h
either false x y h k = k

taken_refuses : (m : Moment) (a : Asked) (c : Core) → Refuses None (taken_in m a c)
taken_refuses m a c =
    either (leases c) (leased_ask m a c) (call_is_asked a c)
    (either (is_leased_read c.own.waits.prefix a.request) (read_is_asked m a c) _ (read_refuses m a c)
    (either (writes_keys a.request) (write_is_asked a c) (answered_or_called (if_live m.session (held_body c.own.entries a.request)) a c) (λ r e. no_wait r e) (body_refuses (if_live m.session (held_body c.own.entries a.request)) a c)))
    (λ r e. no_wait r e)

request_refuses : (q : Request) (m : Moment) (a : Asked) (c : Core) → Refuses None (request_asked q m a c)
request_refuses (request.Watch ask) m a c = λ r e. no_wait r e
request_refuses (request.KeepAlive lease) m a c = taken_refuses m a c
request_refuses (request.Range ask) m a c = taken_refuses m a c
request_refuses (request.Put ask) m a c = taken_refuses m a c
request_refuses (request.Delete ask) m a c = taken_refuses m a c
request_refuses (request.Txn x) m a c = taken_refuses m a c
request_refuses (request.Compact revision physical) m a c = taken_refuses m a c
request_refuses (request.Grant ttl lease) m a c = taken_refuses m a c
request_refuses (request.Revoke lease) m a c = taken_refuses m a c
request_refuses (request.TimeToLive lease keys) m a c = taken_refuses m a c
request_refuses request.Leases m a c = taken_refuses m a c

no_none : {A : Type 0} (r : Refusal) → ◌≡◌ {A = Option Refusal} None (Some r) → A
no_none r e = absurd (cc)

ask_refuses : (now ticket : ℕ) (q : Request) (word : ℕ) (c : Core) → Refuses (refusal_of c.own.waits.prefix q) (on_ask now ticket q word c)
unfolding on_ask
ask_refuses now ticket q word c =
    by_test (Refuses (refusal_of c.own.waits.prefix q)) (is_known ticket c) (faults c (fault.TicketUsed ticket)) (refused_or_taken (refusal_of c.own.waits.prefix q) (moment c now) (asked_at now ticket q word) c)
    (λ e r f. absurd (cc)) (λ e. by (refusal_of c.own.waits.prefix q))
  where
    by : (o : Option Refusal) → Refuses o (refused_or_taken o (moment c now) (asked_at now ticket q word) c)
    by None = λ r e. no_none r (request_refuses q (moment c now) (asked_at now ticket q word) c r e)
    by (Some x) = λ r e. cc

-- a refusal at a request's own step is the one that it has by its fields
pub asked_refusal : (c : Core) (now ticket word : ℕ) (q : Request) (r : Refusal) → (stepped c (event.Ask ticket q word) now).outcome ≡ Ok (outcome.Replied (Refused r)) → refusal_of (clock_work now c).own.waits.prefix q ≡ Some r
asked_refusal c now ticket word q r e = ask_refuses now ticket q word (clock_work now c) r (has_given c (event.Ask ticket q word) now (outcome.Replied (Refused r)) e)

-- ---- a reply is fetched

-- it stood replied so
pub record Stands (ticket : ℕ) (a : Answer) (c : Core) : Type 0 where
  pub ask : Asked
  pub verdict : Verdict
  pub there : ask_at ticket c.asks ≡ Some ask
  pub stage : ask.stage ≡ stage.Replied verdict
  pub told : a ≡ reply_of verdict

taken_stands : (ticket : ℕ) (d : Core) (a : Answer) → (on_take ticket d).outcome ≡ Ok (outcome.Replied a) → Stands ticket a d
unfolding on_take
taken_stands ticket d a given = by_ask (ask_at ticket d.asks) refl given
  where
    by_pair : {A : Type 0} (x : Broadcasts × Option WatchItem) → (taken_item d x).outcome ≡ Ok (outcome.Replied a) → A
    by_pair (b, None) g = absurd (cc)
    by_pair (b, Some x) g = absurd (cc)

    by_watch : {A : Type 0} (w : Option Watch) → (item_taken ticket w d).outcome ≡ Ok (outcome.Replied a) → A
    by_watch None g = absurd (cc)
    by_watch (Some w) g = by_pair (watches.taken_from d.watches d.header w w.queue) g

    one_answer : (x y : Answer) → ◌≡◌ {A = Result Outcome StepFault} (Ok (outcome.Replied x)) (Ok (outcome.Replied y)) → y ≡ x
    one_answer x y e = cc

    by_stage : (r : Asked) → ask_at ticket d.asks ≡ Some r → (s : Stage) → r.stage ≡ s → (takes.taken_from ticket s d).outcome ≡ Ok (outcome.Replied a) → Stands ticket a d
    by_stage r at (stage.Replied v) e g = record { ask = r; verdict = v; there = at; stage = e; told = one_answer (reply_of v) a g }
    by_stage r at (stage.Calling s) e g = absurd (cc)
    by_stage r at stage.Acquiring e g = absurd (cc)
    by_stage r at stage.Joined e g = absurd (cc)
    by_stage r at stage.Behind e g = absurd (cc)
    by_stage r at stage.Writes e g = absurd (cc)
    by_stage r at (stage.Grouped s) e g = absurd (cc)

    by_ask : (o : Option Asked) → ask_at ticket d.asks ≡ o → (taken ticket o d).outcome ≡ Ok (outcome.Replied a) → Stands ticket a d
    by_ask None at g = by_watch (watch_at ticket d.watches.watches) g
    by_ask (Some r) at g = by_stage r at r.stage refl g

pub take_stands : (c : Core) (ticket now : ℕ) (a : Answer) → (stepped c (event.Take ticket) now).outcome ≡ Ok (outcome.Replied a) → Stands ticket a (clock_work now c)
take_stands c ticket now a e = taken_stands ticket (clock_work now c) a (has_given c (event.Take ticket) now (outcome.Replied a) e)

-- what is said of each reply that is fetched, and what holds of the proxy then, where each fetch keeps that
pub fetched_each : (T : ℕ × Answer → Type 0) (I : Core → Type 0) (now : ℕ) → ((c : Core) (ticket : ℕ) → I c → I (stepped c (event.Take ticket) now).core)
    → ((c : Core) (ticket : ℕ) (a : Answer) → I c → (stepped c (event.Take ticket) now).outcome ≡ Ok (outcome.Replied a) → T (ticket, a))
    → (n : ℕ) (x : Place) (got : Replies) → x.clock ≡ now → I x.core → Each T got → I (fetched n x got).place.core × Each T (fetched n x got).replies
fetched_each T I now k g zero x got e i t = (i, t)
fetched_each T I now k g (suc n) x got e i t = by (ready x.core) (λ y h f j u. fetched_each T I now k g n y h f j u)
  where
    by_outcome : (ticket : ℕ) (y : Place) (r : Result Outcome StepFault) → (stepped x.core (event.Take ticket) now).outcome ≡ r → y.clock ≡ now → I y.core
        → ((y : Place) (h : Replies) → y.clock ≡ now → I y.core → Each T h → I (fetched n y h).place.core × Each T (fetched n y h).replies)
        → I (fetched_as (fetched n) y ticket got r).place.core × Each T (fetched_as (fetched n) y ticket got r).replies
    by_outcome ticket y (Ok (outcome.Replied a)) f d j more = more y (with_reply ticket a got) d j (each_put T ticket a got (g x.core ticket a i f) t)
    by_outcome ticket y (Ok outcome.Waiting) f d j more = (j, t)
    by_outcome ticket y (Ok outcome.Pending) f d j more = (j, t)
    by_outcome ticket y (Ok outcome.Noted) f d j more = (j, t)
    by_outcome ticket y (Ok (outcome.Item z)) f d j more = (j, t)
    by_outcome ticket y (Ok (outcome.Job z)) f d j more = (j, t)
    by_outcome ticket y (Err z) f d j more = (j, t)

    by : (o : Option ℕ) → ((y : Place) (h : Replies) → y.clock ≡ now → I y.core → Each T h → I (fetched n y h).place.core × Each T (fetched n y h).replies)
        → I (fetched_if (fetched n) x got o).place.core × Each T (fetched_if (fetched n) x got o).replies
    by None more = (i, t)
    by (Some ticket) more =
        by_outcome ticket (with_core x (stepped x.core (event.Take ticket) x.clock).core) (stepped x.core (event.Take ticket) x.clock).outcome (ap (λ (m : ℕ). (stepped x.core (event.Take ticket) m).outcome) (sym e)) e
        (subst (λ (m : ℕ). I (stepped x.core (event.Take ticket) m).core) (sym e) (k x.core ticket i)) more
