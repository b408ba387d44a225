-- What waits as a write in a proxy writes keys, behind each prefix of a script: a request that writes none is never handed in as one.
use Rattle.std.proofs.Common.{◌≡◌, ℕ, Bool, true, false, cond, List, [], ◌∷◌, Option, None, Some, refl, sym, ◌∙◌, subst}
use Rattle.etcd_types.specs.declared.answer.Refusal.{Refusal}
use Rattle.etcd_types.specs.declared.answer.Body.{Body}
use Rattle.etcd_types.specs.declared.request.Request.{Request}
use Rattle.etcd_types.specs.declared.request.Request.TheVariants as request
use Rattle.wait_model.specs.declared.write.Write.{Write}
use Rattle.read_model.specs.declared.asked.Asked.{Asked}
use Rattle.read_model.specs.declared.asked.Stage.{Stage}
use Rattle.read_model.specs.declared.asked.Stage.TheVariants as stage
use Rattle.read_model.specs.Acquires.{read_asked}
use Rattle.read_model.specs.PlainRead.{decided_ask}
use Rattle.read_model.specs.State.{Moment, ground_of}
use Rattle.core_model.specs.declared.event.CoreEvent.{CoreEvent}
use Rattle.core_model.specs.declared.event.CoreEvent.TheVariants as event
use Rattle.core_model.specs.declared.event.StepFault.TheVariants as fault
use Rattle.core_model.specs.declared.settings.Settings.{Settings}
use Rattle.core_model.specs.Asking.{asked_at, is_leased_read, read_by, read_is_asked, with_ask, write_is_asked, held_body, if_live, call_stage, call_is_asked, answered_or_called, leased_ask, taken_in, request_asked, refused_or_taken, on_ask}
use Rattle.core_model.specs.ClockWork.{writes_go_on, clock_work}
use Rattle.core_model.specs.Kinds.{writes_keys}
use Rattle.core_model.specs.Lookups.{leases, moment, reads_of, with_reads, is_known}
use Rattle.core_model.specs.Refusals.{refusal_of}
use Rattle.core_model.specs.State.{Core, first_core}
use Rattle.core_model.specs.Step.{happened, is_worn, stepped}
use Rattle.core_model.specs.Stepped.{Stepped, faults, counted}
use Rattle.core_laws.proofs.Steps.Comes.{by_test}
use Rattle.core_fits.specs.Fits.{EachOf}
use Rattle.core_fits.proofs.CallRows.{CoreHas, Last, go_on, clock_has}
use Rattle.core_fits.proofs.CoreRows.{counted_has, stepped_has}
use Rattle.core_fits.proofs.ReadRows.{decided_writes}

abbrev pub WritesKeys : Write → Type 0
WritesKeys w = writes_keys w.request ≡ true

abbrev pub EachWrites : Core → Type 0
EachWrites c = EachOf WritesKeys c.own.waits.writes

abbrev Any : Asked → Type 0
Any a = Unit {0}

pub any_ask : (xs : List Asked) → EachOf Any xs
any_ask [] = tt
any_ask (x ∷ xs) = (tt, any_ask xs)

lasts : Last Any WritesKeys
lasts = record { asks = λ x y g h. tt; writes = λ w s h. h }

-- ---- a request that writes no key

with_any : (c : Core) → EachWrites c → CoreHas Any WritesKeys c
with_any c h = (any_ask c.asks, h)

goes_on : (c : Core) → EachWrites c → EachWrites (writes_go_on c)
goes_on c h = (go_on Any WritesKeys lasts c (with_any c h)).1

read_asks : (m : Moment) (a : Asked) (c : Core) → EachWrites c → EachWrites (read_is_asked m a c).core
read_asks m a c h = by_stage (decided_ask m (ground_of (reads_of c)) a).stage
  where
    after : Core
    after = with_reads c (read_asked m a (reads_of c))

    went : EachWrites (writes_go_on (with_reads c (read_asked m a (reads_of c))))
    went = goes_on (with_reads c (read_asked m a (reads_of c))) (subst (EachOf WritesKeys) (sym (decided_writes m (ground_of (reads_of c)) a)) h)

    by_stage : (s : Stage) → EachWrites (read_by s c (with_reads c (read_asked m a (reads_of c)))).core
    by_stage (stage.Replied v) = h
    by_stage (stage.Calling s) = went
    by_stage stage.Acquiring = went
    by_stage stage.Joined = went
    by_stage stage.Behind = went
    by_stage stage.Writes = went
    by_stage (stage.Grouped s) = went

call_asks : (a : Asked) (c : Core) → EachWrites c → EachWrites (call_is_asked a c).core
call_asks a c h = goes_on (with_ask (call_stage a.request c) a c) h

abbrev Kept : Stepped → Type 0
Kept s = EachWrites s.core

leased_asks : (m : Moment) (a : Asked) (c : Core) → writes_keys a.request ≡ false → EachWrites c → Kept (leased_ask m a c)
leased_asks m a c n h =
    by_test Kept (is_leased_read c.own.waits.prefix a.request) (read_is_asked m a c) (cond (writes_keys a.request) (write_is_asked a c) (answered_or_called body a c)) (λ e. read_asks m a c h)
    (λ e. by_test Kept (writes_keys a.request) (write_is_asked a c) (answered_or_called body a c) (λ w. absurd (let no_way : true ≡ false = sym w ∙ n in cc)) (λ w. by_body body))
  where
    body : Option Body
    body = if_live m.session (held_body c.own.entries a.request)

    by_body : (b : Option Body) → Kept (answered_or_called b a c)
    by_body None = call_asks a c h
    by_body (Some b) = h

taken_asks : (m : Moment) (a : Asked) (c : Core) → writes_keys a.request ≡ false → EachWrites c → Kept (taken_in m a c)
taken_asks m a c n h = by_test Kept (leases c) (leased_ask m a c) (call_is_asked a c) (λ e. leased_asks m a c n h) (λ e. call_asks a c h)

request_asks : (q : Request) (m : Moment) (a : Asked) (c : Core) → writes_keys a.request ≡ false → EachWrites c → Kept (request_asked q m a c)
request_asks (request.Watch ask) m a c n h = h
request_asks (request.KeepAlive lease) m a c n h = taken_asks m a c n h
request_asks (request.Range ask) m a c n h = taken_asks m a c n h
request_asks (request.Put ask) m a c n h = taken_asks m a c n h
request_asks (request.Delete ask) m a c n h = taken_asks m a c n h
request_asks (request.Txn x) m a c n h = taken_asks m a c n h
request_asks (request.Compact revision physical) m a c n h = taken_asks m a c n h
request_asks (request.Grant ttl lease) m a c n h = taken_asks m a c n h
request_asks (request.Revoke lease) m a c n h = taken_asks m a c n h
request_asks (request.TimeToLive lease keys) m a c n h = taken_asks m a c n h
request_asks request.Leases m a c n h = taken_asks m a c n h

on_ask_keeps : (now ticket : ℕ) (q : Request) (word : ℕ) (c : Core) → writes_keys q ≡ false → EachWrites c → Kept (on_ask now ticket q word c)
unfolding on_ask
on_ask_keeps now ticket q word c n h = by_test Kept (is_known ticket c) (faults c (fault.TicketUsed ticket)) _ (λ e. h) (λ e. by_refusal (refusal_of c.own.waits.prefix q))
  where
    by_refusal : (o : Option Refusal) → Kept (refused_or_taken o (moment c now) (asked_at now ticket q word) c)
    by_refusal None = request_asks q (moment c now) (asked_at now ticket q word) c n h
    by_refusal (Some x) = h

-- ---- all steps

clock_keeps : (now : ℕ) (c : Core) → EachWrites c → EachWrites (clock_work now c)
clock_keeps now c h = (clock_has Any WritesKeys lasts now c (with_any c h)).1

read_only_step : (c : Core) (ticket word now : ℕ) (q : Request) → writes_keys q ≡ false → EachWrites c → Kept (stepped c (event.Ask ticket q word) now)
unfolding stepped
read_only_step c ticket word now q n h =
    by_test Kept (is_worn c) (faults c fault.Worn) (counted (happened now (event.Ask ticket q word) (clock_work now c))) (λ w. h)
    (λ w. (counted_has Any WritesKeys (on_ask now ticket q word (clock_work now c)) (any_ask _, on_ask_keeps now ticket q word (clock_work now c) n (clock_keeps now c h))).1)

pub step_writes : (c : Core) (e : CoreEvent) (now : ℕ) → EachWrites c → EachWrites (stepped c e now).core
step_writes c (event.Ask ticket q word) now h = by (writes_keys q) refl
  where
    by : (b : Bool) → writes_keys q ≡ b → EachWrites (stepped c (event.Ask ticket q word) now).core
    by true w = (stepped_has Any WritesKeys lasts (event.Ask ticket q word) now c (λ k s. record { other = λ s n. tt; read = λ t s. tt; write = w }) (with_any c h)).1
    by false n = read_only_step c ticket word now q n h
step_writes c (event.Answer call a) now h = (stepped_has Any WritesKeys lasts (event.Answer call a) now c tt (with_any c h)).1
step_writes c (event.Lost call) now h = (stepped_has Any WritesKeys lasts (event.Lost call) now c tt (with_any c h)).1
step_writes c (event.Tick word) now h = (stepped_has Any WritesKeys lasts (event.Tick word) now c tt (with_any c h)).1
step_writes c (event.Item number x) now h = (stepped_has Any WritesKeys lasts (event.Item number x) now c tt (with_any c h)).1
step_writes c (event.Cut number) now h = (stepped_has Any WritesKeys lasts (event.Cut number) now c tt (with_any c h)).1
step_writes c (event.Take ticket) now h = (stepped_has Any WritesKeys lasts (event.Take ticket) now c tt (with_any c h)).1
step_writes c (event.Leave ticket) now h = (stepped_has Any WritesKeys lasts (event.Leave ticket) now c tt (with_any c h)).1
step_writes c event.Work now h = (stepped_has Any WritesKeys lasts event.Work now c tt (with_any c h)).1

pub starts_writes : (s : Settings) → EachWrites (first_core s)
starts_writes s = tt
