-- One proxy with leasing off: no request waits for an acquire or for a write, so each ok reply but a keepalive's is the answer to a call
-- that names it.
use Rattle.std.proofs.Common.{◌≡◌, ℕ, ◌==◌, Bool, true, false, not, cond, List, [], ◌∷◌, Option, None, Some, refl, sym, ◌∙◌, ap, subst}
use Rattle.std.specs.List.{list_all}
use Rattle.etcd_types.specs.declared.answer.Refusal.{Refusal}
use Rattle.etcd_types.specs.declared.answer.Reply.{Reply}
use Rattle.etcd_types.specs.declared.request.Request.{Request}
use Rattle.etcd_types.specs.declared.request.Request.TheVariants as request
use Rattle.etcd_types.specs.Keys.{is_empty}
use Rattle.etcd_types.proofs.Bools.{and_first, and_second}
use Rattle.wait_model.specs.declared.sending.Sending.TheVariants as sending
use Rattle.wait_model.specs.declared.write.Write.{Write}
use Rattle.wait_model.specs.Writes.{first_by}
use Rattle.read_model.specs.declared.asked.Asked.{Asked}
use Rattle.read_model.specs.declared.asked.Stage.{Stage}
use Rattle.read_model.specs.declared.asked.Stage.TheVariants as stage
use Rattle.read_model.specs.State.{Moment}
use Rattle.core_model.specs.declared.event.CoreEvent.{CoreEvent}
use Rattle.core_model.specs.declared.event.CoreEvent.TheVariants as event
use Rattle.core_model.specs.declared.event.StepFault.TheVariants as fault
use Rattle.core_model.specs.declared.out_call.OutCall.{OutCall}
use Rattle.core_model.specs.DueJobs.{lease_of}
use Rattle.core_model.specs.Asking.{asked_at, with_ask, call_stage, call_is_asked, leased_ask, taken_in, request_asked, refused_or_taken, on_ask}
use Rattle.core_model.specs.ClockWork.{clock_work}
use Rattle.core_model.specs.Fits.{is_keepalive, group_sending, group_stands, CoreOk}
use Rattle.core_model.specs.Groups.{is_out_for, group_since, joining}
use Rattle.core_model.specs.Lookups.{leases, is_known, moment, ask_at}
use Rattle.core_model.specs.Refusals.{refusal_of}
use Rattle.core_model.specs.State.{Core}
use Rattle.core_model.specs.Step.{is_worn, happened, stepped}
use Rattle.core_model.specs.Stepped.{faults, counted}
use Rattle.core_laws.proofs.Steps.Comes.{by_test}
use Rattle.core_laws.proofs.Steps.Lists.{same_number}
use Rattle.core_laws.proofs.Steps.Staying.{steps_stay}
use Rattle.core_fits.specs.Fits.{EachOf, is_reading}
use Rattle.core_fits.proofs.CallRows.{CoreHas, StepHas, Last, go_on, clock_has}
use Rattle.core_fits.proofs.CoreRows.{happened_has, counted_has}
use Rattle.core_fits.proofs.Eachs.{each_pushed}
use Rattle.core_fits.proofs.Prefix.{clock_prefix}
use Rattle.prefix_laws.specs.Comes.{IsReady, Comes}
use Rattle.prefix_laws.specs.Comes as comes
use Rattle.reply_laws.specs.Named.{AreNamed}
use Rattle.reply_laws.specs.Sources as sources
use Rattle.reply_laws.specs.Sources.{Stood, IsServed, Source, Given}
use Rattle.reply_laws.proofs.Given.{given_have_sources}
use Rattle.reply_laws.proofs.Sources.{replies_have_sources}

-- ---- nothing waits for a key

abbrev pub Unread : Asked → Type 0
Unread a = is_reading a.stage ≡ false

abbrev pub Nowhere : Write → Type 0
Nowhere w = ⊥

pub record IsPlain (c : Core) : Type 0 where
  pub off : is_empty c.own.waits.prefix ≡ true
  pub waits : CoreHas Unread Nowhere c

unread_still : (s t : Stage) → (is_reading t ≡ true → is_reading s ≡ true) → is_reading s ≡ false → is_reading t ≡ false
unread_still s t g h = by (is_reading t) refl
  where
    by : (b : Bool) → is_reading t ≡ b → is_reading t ≡ false
    by true e = absurd (let f : true ≡ false = sym (g e) ∙ h in cc)
    by false e = e

lasts : Last Unread Nowhere
lasts = record { asks = λ x y g h. unread_still x.stage y.stage g.reads h; writes = λ w s h. h }

joining_unread : (step : ℕ) (o : Option ℕ) → is_reading (joining step o) ≡ false
joining_unread step None = refl
joining_unread step (Some since) = refl

call_unread : (q : Request) (c : Core) → is_reading (call_stage q c) ≡ false
call_unread (request.KeepAlive lease) c =
    by_test (λ (s : Stage). is_reading s ≡ false) (is_out_for lease c.out) (stage.Grouped None) (joining c.own.waits.step (group_since lease c.asks)) (λ t. refl) (λ t. joining_unread c.own.waits.step (group_since lease c.asks))
call_unread (request.Range ask) c = refl
call_unread (request.Put ask) c = refl
call_unread (request.Delete ask) c = refl
call_unread (request.Txn t) c = refl
call_unread (request.Compact revision physical) c = refl
call_unread (request.Grant ttl lease) c = refl
call_unread (request.Revoke lease) c = refl
call_unread (request.TimeToLive lease keys) c = refl
call_unread request.Leases c = refl
call_unread (request.Watch ask) c = refl

no_leases : {A : Type 0} (c : Core) → is_empty c.own.waits.prefix ≡ true → leases c ≡ true → A
no_leases c e t = absurd (let f : false ≡ true = sym (ap not e) ∙ t in cc)

-- each request waits for a call
taken_plain : (m : Moment) (a : Asked) (c : Core) → IsPlain c → StepHas Unread Nowhere (taken_in m a c)
taken_plain m a c h =
    by_test (StepHas Unread Nowhere) (leases c) (leased_ask m a c) (call_is_asked a c) (λ e. no_leases c h.off e)
    (λ e. go_on Unread Nowhere lasts (with_ask (call_stage a.request c) a c) (each_pushed Unread (record a { stage = call_stage a.request c }) c.asks h.waits.0 (call_unread a.request c), h.waits.1))

request_plain : (q : Request) (m : Moment) (a : Asked) (c : Core) → IsPlain c → StepHas Unread Nowhere (request_asked q m a c)
request_plain (request.Watch ask) m a c h = h.waits
request_plain (request.KeepAlive lease) m a c h = taken_plain m a c h
request_plain (request.Range ask) m a c h = taken_plain m a c h
request_plain (request.Put ask) m a c h = taken_plain m a c h
request_plain (request.Delete ask) m a c h = taken_plain m a c h
request_plain (request.Txn t) m a c h = taken_plain m a c h
request_plain (request.Compact revision physical) m a c h = taken_plain m a c h
request_plain (request.Grant ttl lease) m a c h = taken_plain m a c h
request_plain (request.Revoke lease) m a c h = taken_plain m a c h
request_plain (request.TimeToLive lease keys) m a c h = taken_plain m a c h
request_plain request.Leases m a c h = taken_plain m a c h

asked_plain : (now ticket : ℕ) (q : Request) (word : ℕ) (c : Core) → IsPlain c → StepHas Unread Nowhere (on_ask now ticket q word c)
unfolding on_ask
asked_plain now ticket q word c h = by_test (StepHas Unread Nowhere) (is_known ticket c) _ _ (λ e. h.waits) (λ e. by (refusal_of c.own.waits.prefix q))
  where
    by : (o : Option Refusal) → StepHas Unread Nowhere (refused_or_taken o (moment c now) (asked_at now ticket q word) c)
    by None = request_plain q (moment c now) (asked_at now ticket q word) c h
    by (Some r) = h.waits

happened_plain : (now : ℕ) (e : CoreEvent) (c : Core) → IsPlain c → StepHas Unread Nowhere (happened now e c)
happened_plain now (event.Ask ticket q word) c h = asked_plain now ticket q word c h
happened_plain now (event.Answer call a) c h = happened_has Unread Nowhere lasts now (event.Answer call a) c tt h.waits
happened_plain now (event.Lost call) c h = happened_has Unread Nowhere lasts now (event.Lost call) c tt h.waits
happened_plain now (event.Tick word) c h = happened_has Unread Nowhere lasts now (event.Tick word) c tt h.waits
happened_plain now (event.Item number x) c h = happened_has Unread Nowhere lasts now (event.Item number x) c tt h.waits
happened_plain now (event.Cut number) c h = happened_has Unread Nowhere lasts now (event.Cut number) c tt h.waits
happened_plain now (event.Take ticket) c h = happened_has Unread Nowhere lasts now (event.Take ticket) c tt h.waits
happened_plain now (event.Leave ticket) c h = happened_has Unread Nowhere lasts now (event.Leave ticket) c tt h.waits
happened_plain now event.Work c h = happened_has Unread Nowhere lasts now event.Work c tt h.waits

pub clock_plain : (now : ℕ) (c : Core) → IsPlain c → IsPlain (clock_work now c)
clock_plain now c h = record { off = ap (λ (p : List ℕ). is_empty p) (clock_prefix now c) ∙ h.off; waits = clock_has Unread Nowhere lasts now c h.waits }

pub step_plain : (c : Core) (e : CoreEvent) (now : ℕ) → IsPlain c → IsPlain (stepped c e now).core
unfolding stepped
step_plain c e now h = record {
  off = ap (λ (p : List ℕ). is_empty p) (steps_stay c e now).prefix ∙ h.off;
  waits = by_test (StepHas Unread Nowhere) (is_worn c) (faults c fault.Worn) (counted (happened now e (clock_work now c))) (λ w. h.waits)
      (λ w. counted_has Unread Nowhere (happened now e (clock_work now c)) (happened_plain now e (clock_work now c) (clock_plain now c h)));
}

-- ---- what stands ready is named

asked_each : (P : Asked → Type 0) (ticket : ℕ) (xs : List Asked) (a : Asked) → ask_at ticket xs ≡ Some a → EachOf P xs → (P a) × ((a.ticket == ticket) ≡ true)
asked_each P ticket [] a e t = absurd (cc)
asked_each P ticket (x ∷ xs) a e t = by (λ u. asked_each P ticket xs a u t.1) (x.ticket == ticket) refl e
  where
    by : (ask_at ticket xs ≡ Some a → (P a) × ((a.ticket == ticket) ≡ true)) → (b : Bool) → (x.ticket == ticket) ≡ b → cond b (Some x) (ask_at ticket xs) ≡ Some a → (P a) × ((a.ticket == ticket) ≡ true)
    by more true n e = let same : x ≡ a = cc in (subst P same t.0, subst (λ (y : Asked). (y.ticket == ticket) ≡ true) same n)
    by more false n e = more e

each_passes : (p : Asked → Bool) (xs : List Asked) → list_all p xs ≡ true → EachOf (λ a. p a ≡ true) xs
each_passes p [] h = tt
each_passes p (x ∷ xs) h = (and_first (p x) (list_all p xs) h, each_passes p xs (and_second (p x) (list_all p xs) h))

no_write : {A : Type 0} (p : Write → Bool) (ws : List Write) (w : Write) → EachOf Nowhere ws → first_by p ws ≡ Some w → A
no_write p [] w h f = absurd (cc)
no_write p (v ∷ vs) w h f = absurd h.0

-- a request that stood at a stage of waiting reads
no_read : {A : Type 0} (c : Core) (a : Asked) (s : Stage) → IsPlain c → is_reading s ≡ true → Stood c a s → A
no_read c a s h r t = absurd (let e = (asked_each Unread a.ticket c.asks t.before t.there h.waits.0).0 in let f : true ≡ false = sym r ∙ ap is_reading (sym t.stage) ∙ e in cc)

keeps_alive : (out : List OutCall) (q : Request) (s : Stage) (number : ℕ) → s ≡ stage.Grouped (Some (sending.Out number)) → group_stands out q s ≡ true → is_keepalive q ≡ true
keeps_alive out q s number e h = and_first (is_keepalive q) (group_sending out (lease_of q) (Some (sending.Out number))) (sym (ap (group_stands out q) e) ∙ h)

-- the ticket of each ok reply that stands ready, but a keepalive's
abbrev pub ReadyNamed : (ℕ → Bool) → Core → Type 0
ReadyNamed named c = (ticket : ℕ) (reply : Reply) (r : IsReady c ticket reply) → is_keepalive r.ask.request ≡ false → named ticket ≡ true

source_named : (named : ℕ → Bool) (c : Core) (e : CoreEvent) (now : ℕ) (a : Asked) (reply : Reply) → CoreOk c → IsPlain c → AreNamed named c → ReadyNamed named c → is_keepalive a.request ≡ false → Source c e now a reply → named a.ticket ≡ true
source_named named c e now a reply ok h n r k (sources.stood s) = r a.ticket reply (record { ask = s.before; there = s.there; stage = s.stage }) (ap is_keepalive s.request ∙ k)
source_named named c e now a reply ok h n r k (sources.called o kind j s x) = n.asks a.ticket o.call s.before s.there s.stage
source_named named c e now a reply ok h n r k (sources.acquired o answer claim j s x f g) = no_read c a stage.Acquiring h refl s
source_named named c e now a reply ok h n r k (sources.wrote o answer w j s x f t g) = no_write _ (clock_work now c).own.waits.writes w (clock_plain now c h).waits.1 f
source_named named c e now a reply ok h n r k (sources.shared o lease j s x) =
    let stands = (asked_each (λ b. group_stands c.out b.request b.stage ≡ true) a.ticket c.asks s.before s.there (each_passes (λ b. group_stands c.out b.request b.stage) c.asks ok.agrees.groups.stand)).0 in
    absurd (let f : true ≡ false = sym (keeps_alive c.out s.before.request s.before.stage o.call s.stage stands) ∙ ap is_keepalive s.request ∙ k in cc)
source_named named c e now a reply ok h n r k (sources.cached s g i t d x) = no_read c a s h i t

pub ready_named : (named : ℕ → Bool) (c : Core) (e : CoreEvent) (now : ℕ) → CoreOk c → IsPlain c → AreNamed named c → ReadyNamed named c → ReadyNamed named (stepped c e now).core
ready_named named c e now ok h n r ticket reply t k =
    let same = same_number t.ask.ticket ticket (asked_each (λ a. Unit {0}) ticket (stepped c e now).core.asks t.ask t.there (every (stepped c e now).core.asks)).1 in
    ap named (sym same) ∙ source_named named c e now t.ask reply ok h n r k (replies_have_sources c e now ticket t.ask reply ok t.there t.stage)
  where
    every : (xs : List Asked) → EachOf (λ a. Unit {0}) xs
    every [] = tt
    every (x ∷ xs) = (tt, every xs)

-- ---- no reply is given at once

no_take : {A : Type 0} (ticket t word : ℕ) (q : Request) → event.Ask ticket q word ≡ event.Take t → A
no_take ticket t word q e = absurd (cc)

none_at_once : {A : Type 0} (c : Core) (now ticket word : ℕ) (q : Request) (reply : Reply) → IsPlain c → Given c (event.Ask ticket q word) now reply → A
none_at_once c now ticket word q reply h (sources.taken a e t s) = no_take ticket a.ticket word q e
none_at_once c now ticket word q reply h (sources.held t r s p x) = no_leases (clock_work now c) (clock_plain now c h).off s.leasing
none_at_once c now ticket word q reply h (sources.snapshot t r b s p l x i) = no_leases (clock_work now c) (clock_plain now c h).off s.leasing

-- so an ok reply that a line tells stood ready behind its step
pub comes_ready : (c : Core) (e : CoreEvent) (now ticket : ℕ) (reply : Reply) → CoreOk c → IsPlain c → Comes c e now ticket reply → IsReady (stepped c e now).core ticket reply
comes_ready c e now ticket reply ok h (comes.at_once q word is out) = none_at_once c now ticket word q reply h (subst (λ (i : CoreEvent). Given c i now reply) is (given_have_sources c e now reply ok out))
comes_ready c e now ticket reply ok h (comes.fetched r) = r
