-- What a request leaves of a proxy that it is asked of: at most it stands behind the others, with the reading at which it was asked.
use Rattle.std.proofs.Common.{◌≡◌, ℕ, true, false, cond, ◌||◌, List, [], ◌∷◌, ◌++◌, Option, None, Some, is_some, Ok, refl, sym, ◌∙◌, ap, subst}
use Rattle.std.specs.List.{list_all}
use Rattle.etcd_types.specs.declared.answer.Body.{Body}
use Rattle.etcd_types.specs.declared.answer.Refusal.{Refusal}
use Rattle.etcd_types.specs.declared.request.Request.{Request}
use Rattle.etcd_types.specs.declared.request.Request.TheVariants as request
use Rattle.read_model.specs.declared.asked.Asked.{Asked}
use Rattle.read_model.specs.declared.asked.Stage.{Stage}
use Rattle.read_model.specs.declared.asked.Stage.TheVariants as stage
use Rattle.read_model.specs.Acquires.{read_asked}
use Rattle.read_model.specs.PlainRead.{in_stage, decided_ask}
use Rattle.read_model.specs.State.{Moment, ground_of}
use Rattle.watch_model.specs.Lookups.{watch_at}
use Rattle.watch_model.specs.State.{Watch}
use Rattle.core_model.specs.declared.event.Outcome.{Outcome}
use Rattle.core_model.specs.Asking.{asked_at, is_leased_read, read_by, read_is_asked, write_is_asked, held_body, if_live, call_stage, call_is_asked, answered_or_called, leased_ask, taken_in, request_asked, refused_or_taken, if_unknown, on_ask}
use Rattle.core_model.specs.Fits.{goes_on}
use Rattle.core_model.specs.Kinds.{writes_keys}
use Rattle.core_model.specs.Lookups.{leases, moment, reads_of, with_reads, ask_at, is_known}
use Rattle.core_model.specs.Refusals.{refusal_of}
use Rattle.core_model.specs.State.{Core}
use Rattle.core_model.specs.Stepped.{Stepped}
use Rattle.core_laws.proofs.Steps.Comes.{by_test, passed_goes}

-- it was answered at once, or stands behind the others
pub data Joins (ticket now : ℕ) (xs ys : List Asked) : Type 0 where
  replied : ys ≡ xs → Joins ticket now xs ys
  stands : (y : Asked) → y.ticket ≡ ticket → y.asked ≡ now → ys ≡ xs ++ y ∷ [] → Joins ticket now xs ys

pub record WasAsked (ticket now : ℕ) (c : Core) (s : Stepped) : Type 0 where
  pub given : Outcome
  pub outcome : s.outcome ≡ Ok given
  pub settings : s.core.settings ≡ c.settings
  pub leasing : s.core.leasing ≡ c.leasing
  pub watches : s.core.watches ≡ c.watches
  pub out : s.core.out ≡ c.out
  pub steps : s.core.steps ≡ c.steps
  pub seat : s.core.seat ≡ c.seat
  pub asks : Joins ticket now c.asks s.core.asks
  pub writes : list_all goes_on s.core.own.waits.writes ≡ true

-- as it was, with a reply
abbrev Goes : Core → Type 0
Goes c = list_all goes_on c.own.waits.writes ≡ true

read_asks : (now ticket : ℕ) (m : Moment) (a : Asked) (c : Core) → a.ticket ≡ ticket → a.asked ≡ now → Goes c → WasAsked ticket now c (read_is_asked m a c)
read_asks now ticket m a c t n g = by (decided_ask m (ground_of (reads_of c)) a).stage
  where
    after : Core
    after = with_reads c (read_asked m a (reads_of c))

    waits : Stage → Type 0
    waits s = WasAsked ticket now c (read_by s c after)

    joins : Joins ticket now c.asks after.asks
    joins = stands (decided_ask m (ground_of (reads_of c)) a) t n refl

    by : (s : Stage) → WasAsked ticket now c (read_by s c after)
    by (stage.Replied v) = record { given = _; outcome = refl; settings = refl; leasing = refl; watches = refl; out = refl; steps = refl; seat = refl; asks = replied refl; writes = g }
    by (stage.Calling s) = record { given = _; outcome = refl; settings = refl; leasing = refl; watches = refl; out = refl; steps = refl; seat = refl; asks = joins; writes = passed_goes _ [] _ _ after.own.waits.writes }
    by stage.Acquiring = record { given = _; outcome = refl; settings = refl; leasing = refl; watches = refl; out = refl; steps = refl; seat = refl; asks = joins; writes = passed_goes _ [] _ _ after.own.waits.writes }
    by stage.Joined = record { given = _; outcome = refl; settings = refl; leasing = refl; watches = refl; out = refl; steps = refl; seat = refl; asks = joins; writes = passed_goes _ [] _ _ after.own.waits.writes }
    by stage.Behind = record { given = _; outcome = refl; settings = refl; leasing = refl; watches = refl; out = refl; steps = refl; seat = refl; asks = joins; writes = passed_goes _ [] _ _ after.own.waits.writes }
    by stage.Writes = record { given = _; outcome = refl; settings = refl; leasing = refl; watches = refl; out = refl; steps = refl; seat = refl; asks = joins; writes = passed_goes _ [] _ _ after.own.waits.writes }
    by (stage.Grouped s) = record { given = _; outcome = refl; settings = refl; leasing = refl; watches = refl; out = refl; steps = refl; seat = refl; asks = joins; writes = passed_goes _ [] _ _ after.own.waits.writes }

call_asks : (now ticket : ℕ) (a : Asked) (c : Core) → a.ticket ≡ ticket → a.asked ≡ now → WasAsked ticket now c (call_is_asked a c)
call_asks now ticket a c t n = record { given = _; outcome = refl; settings = refl; leasing = refl; watches = refl; out = refl; steps = refl; seat = refl; asks = stands (in_stage (call_stage a.request c) a) t n refl; writes = passed_goes _ [] _ _ _ }

write_asks : (now ticket : ℕ) (a : Asked) (c : Core) → a.ticket ≡ ticket → a.asked ≡ now → WasAsked ticket now c (write_is_asked a c)
write_asks now ticket a c t n = record { given = _; outcome = refl; settings = refl; leasing = refl; watches = refl; out = refl; steps = refl; seat = refl; asks = stands (in_stage stage.Writes a) t n refl; writes = passed_goes _ [] _ _ _ }

answer_asks : (now ticket : ℕ) (o : Option Body) (a : Asked) (c : Core) → a.ticket ≡ ticket → a.asked ≡ now → Goes c → WasAsked ticket now c (answered_or_called o a c)
answer_asks now ticket None a c t n g = call_asks now ticket a c t n
answer_asks now ticket (Some b) a c t n g = record { given = _; outcome = refl; settings = refl; leasing = refl; watches = refl; out = refl; steps = refl; seat = refl; asks = replied refl; writes = g }

taken_asks : (now ticket : ℕ) (m : Moment) (a : Asked) (c : Core) → a.ticket ≡ ticket → a.asked ≡ now → Goes c → WasAsked ticket now c (taken_in m a c)
taken_asks now ticket m a c t n g =
    let other = answered_or_called (if_live m.session (held_body c.own.entries a.request)) a c in
    by_test (WasAsked ticket now c) (leases c) (leased_ask m a c) (call_is_asked a c)
    (λ u. by_test (WasAsked ticket now c) (is_leased_read c.own.waits.prefix a.request) (read_is_asked m a c) (cond (writes_keys a.request) (write_is_asked a c) other)
    (λ v. read_asks now ticket m a c t n g)
    (λ v. by_test (WasAsked ticket now c) (writes_keys a.request) (write_is_asked a c) other (λ w. write_asks now ticket a c t n) (λ w. answer_asks now ticket (if_live m.session (held_body c.own.entries a.request)) a c t n g)))
    (λ u. call_asks now ticket a c t n)

-- it asks for no watch
abbrev pub IsNoWatch : Request → Type 0
IsNoWatch (request.Watch ask) = ⊥
IsNoWatch _ = Unit {0}

request_asks : (q : Request) (now ticket word : ℕ) (c : Core) → IsNoWatch q → Goes c → WasAsked ticket now c (request_asked q (moment c now) (asked_at now ticket q word) c)
request_asks (request.Watch ask) now ticket word c k g = absurd k
request_asks (request.Range ask) now ticket word c k g = taken_asks now ticket (moment c now) (asked_at now ticket (request.Range ask) word) c refl refl g
request_asks (request.Put ask) now ticket word c k g = taken_asks now ticket (moment c now) (asked_at now ticket (request.Put ask) word) c refl refl g
request_asks (request.Delete ask) now ticket word c k g = taken_asks now ticket (moment c now) (asked_at now ticket (request.Delete ask) word) c refl refl g
request_asks (request.Txn txn) now ticket word c k g = taken_asks now ticket (moment c now) (asked_at now ticket (request.Txn txn) word) c refl refl g
request_asks (request.Compact revision physical) now ticket word c k g = taken_asks now ticket (moment c now) (asked_at now ticket (request.Compact revision physical) word) c refl refl g
request_asks (request.Grant ttl lease) now ticket word c k g = taken_asks now ticket (moment c now) (asked_at now ticket (request.Grant ttl lease) word) c refl refl g
request_asks (request.Revoke lease) now ticket word c k g = taken_asks now ticket (moment c now) (asked_at now ticket (request.Revoke lease) word) c refl refl g
request_asks (request.KeepAlive lease) now ticket word c k g = taken_asks now ticket (moment c now) (asked_at now ticket (request.KeepAlive lease) word) c refl refl g
request_asks (request.TimeToLive lease keys) now ticket word c k g = taken_asks now ticket (moment c now) (asked_at now ticket (request.TimeToLive lease keys) word) c refl refl g
request_asks request.Leases now ticket word c k g = taken_asks now ticket (moment c now) (asked_at now ticket request.Leases word) c refl refl g

-- of a ticket that no request has, where there are no watches
pub ask_joins : (now ticket : ℕ) (q : Request) (word : ℕ) (c : Core) → IsNoWatch q → ask_at ticket c.asks ≡ None → c.watches.watches ≡ [] → list_all goes_on c.own.waits.writes ≡ true → WasAsked ticket now c (on_ask now ticket q word c)
unfolding on_ask
ask_joins now ticket q word c k new none g =
    let step = refused_or_taken (refusal_of c.own.waits.prefix q) (moment c now) (asked_at now ticket q word) c in
    let unknown : is_known ticket c ≡ false = ap (λ (o : Option Asked). is_some o || is_some (watch_at ticket c.watches.watches)) new ∙ ap (λ (ws : List Watch). is_some (watch_at ticket ws)) none in
    subst (λ b. WasAsked ticket now c (if_unknown b ticket c step)) (sym unknown) (by (refusal_of c.own.waits.prefix q))
  where
    by : (r : Option Refusal) → WasAsked ticket now c (refused_or_taken r (moment c now) (asked_at now ticket q word) c)
    by None = request_asks q now ticket word c k g
    by (Some r) = record { given = _; outcome = refl; settings = refl; leasing = refl; watches = refl; out = refl; steps = refl; seat = refl; asks = replied refl; writes = g }
