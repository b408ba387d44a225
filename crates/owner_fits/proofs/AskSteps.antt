-- A request that is asked keeps the facts of a whole proxy.
use Rattle.std.proofs.Common.{◌≡◌, ℕ, Bool, true, false, cond, Option, None, Some, is_some, refl}
use Rattle.etcd_types.specs.declared.answer.Body.{Body}
use Rattle.etcd_types.specs.declared.answer.Refusal.{Refusal}
use Rattle.etcd_types.specs.declared.request.Request.{Request}
use Rattle.etcd_types.specs.declared.request.Request.TheVariants as request
use Rattle.etcd_types.proofs.Bools.{or_first}
use Rattle.wait_model.specs.Asked.{new_write, submitted}
use Rattle.wait_model.specs.Fits.{Fits}
use Rattle.watch_model.specs.Lookups.{watch_at}
use Rattle.read_model.specs.declared.asked.Asked.{Asked}
use Rattle.read_model.specs.declared.asked.Stage.{Stage}
use Rattle.read_model.specs.declared.asked.Stage.TheVariants as stage
use Rattle.read_model.specs.Acquires.{read_asked}
use Rattle.read_model.specs.PlainRead.{decided_ask}
use Rattle.read_model.specs.State.{ground_of}
use Rattle.core_model.specs.declared.event.StepFault.TheVariants as fault
use Rattle.core_model.specs.Asking.{asked_at, is_leased_read, read_by, read_is_asked, with_ask, write_is_asked, held_body, if_live, call_stage, call_is_asked, answered_or_called, leased_ask, taken_in, request_asked, refused_or_taken, on_ask}
use Rattle.core_model.specs.ClockWork.{writes_go_on}
use Rattle.core_model.specs.Fits.{has_number, ask_tickets}
use Rattle.core_model.specs.Kinds.{writes_keys}
use Rattle.core_model.specs.Lookups.{leases, reads_of, with_reads, ask_at, is_known, moment}
use Rattle.core_model.specs.Refusals.{refusal_of}
use Rattle.core_model.specs.State.{Core}
use Rattle.core_model.specs.Stepped.{Stepped, faults}
use Rattle.core_laws.proofs.Steps.Asks.{unknown, call_mid, write_mid, read_mid}
use Rattle.core_laws.proofs.Steps.Comes.{by_test}
use Rattle.core_laws.proofs.Steps.Lists.{all_pushed}
use Rattle.core_laws.proofs.Steps.Whole.{Mid, Whole}
use Rattle.owner_fits.specs.Acquires.{standing_number}
use Rattle.owner_fits.specs.Entries.{is_unleased}
use Rattle.owner_fits.specs.Names.{stage_named}
use Rattle.owner_fits.proofs.Ending.{CoreFit, passed_fits, live_stands}
use Rattle.owner_fits.proofs.Grounds.{decided_fits}

-- what stands after a step of its event
abbrev pub After : Bool → Stepped → Type 0
After named s = CoreFit named s.core

pub keys_of : (c : Core) → Mid 0 c → Fits c.own
keys_of c h = h.reads.ground.keys

call_after : (named : Bool) (a : Asked) (c : Core) → has_number (ask_tickets c.asks) a.ticket ≡ false → Whole 0 c → CoreFit named c → After named (call_is_asked a c)
call_after named a c n w h = passed_fits named (with_ask (call_stage a.request c) a c) (keys_of (with_ask (call_stage a.request c) a c) (call_mid 0 c a n w.mid)) h

read_after : (named : Bool) (now : ℕ) (a : Asked) (c : Core) → has_number (ask_tickets c.asks) a.ticket ≡ false → Whole 0 c → CoreFit named c → After named (read_is_asked (moment c now) a c)
read_after named now a c n w h = by_stage (decided_ask (moment c now) (ground_of (reads_of c)) a).stage
  where
    d : Core
    d = with_reads c (read_asked (moment c now) a (reads_of c))

    waits : CoreFit named (writes_go_on (with_reads c (read_asked (moment c now) a (reads_of c))))
    waits = passed_fits named d (keys_of d (read_mid 0 (moment c now) c a n w.mid)) (decided_fits named (standing_number c.seat) c.out (moment c now) (ground_of (reads_of c)) a (live_stands c.seat now) h)

    by_stage : (s : Stage) → After named (read_by s c (with_reads c (read_asked (moment c now) a (reads_of c))))
    by_stage (stage.Calling s) = waits
    by_stage stage.Acquiring = waits
    by_stage stage.Joined = waits
    by_stage stage.Behind = waits
    by_stage stage.Writes = waits
    by_stage (stage.Grouped s) = waits
    by_stage (stage.Replied v) = h

write_after : (named : Bool) (a : Asked) (c : Core) → has_number (ask_tickets c.asks) a.ticket ≡ false → writes_keys a.request ≡ true → Whole 0 c → CoreFit named c → After named (write_is_asked a c)
write_after named a c n v w h =
    let d = with_ask stage.Writes a (record c { own = submitted a.ticket a.request c.own }) in
    let x = new_write a.ticket a.request in
    passed_fits named d (keys_of d (write_mid 0 c a n v w.mid)) (record {
      acquires = h.acquires;
      entries = record { owned = h.entries.owned; unleased = λ k t. all_pushed (is_unleased k) x c.own.waits.writes (h.entries.unleased k t) refl };
      names = λ b. record { keys = (h.names b).keys; found = all_pushed (λ y. stage_named y.stage) x c.own.waits.writes (h.names b).found refl };
    })

answered_after : (named : Bool) (o : Option Body) (a : Asked) (c : Core) → has_number (ask_tickets c.asks) a.ticket ≡ false → Whole 0 c → CoreFit named c → After named (answered_or_called o a c)
answered_after named None a c n w h = call_after named a c n w h
answered_after named (Some b) a c n w h = h

taken_after : (named : Bool) (now : ℕ) (a : Asked) (c : Core) → has_number (ask_tickets c.asks) a.ticket ≡ false → Whole 0 c → CoreFit named c → After named (taken_in (moment c now) a c)
taken_after named now a c n w h =
    let m = moment c now in
    let other = answered_or_called (if_live m.session (held_body c.own.entries a.request)) a c in
    by_test (After named) (leases c) (leased_ask m a c) (call_is_asked a c)
    (λ t. by_test (After named) (is_leased_read c.own.waits.prefix a.request) (read_is_asked m a c) (cond (writes_keys a.request) (write_is_asked a c) other)
    (λ u. read_after named now a c n w h)
    (λ u. by_test (After named) (writes_keys a.request) (write_is_asked a c) other
    (λ v. write_after named a c n v w h)
    (λ v. answered_after named (if_live m.session (held_body c.own.entries a.request)) a c n w h)))
    (λ t. call_after named a c n w h)

request_after : (named : Bool) (q : Request) (now : ℕ) (a : Asked) (c : Core) → has_number (ask_tickets c.asks) a.ticket ≡ false → Whole 0 c → CoreFit named c → After named (request_asked q (moment c now) a c)
request_after named (request.Watch ask) now a c n w h = h
request_after named (request.Range ask) now a c n w h = taken_after named now a c n w h
request_after named (request.Put ask) now a c n w h = taken_after named now a c n w h
request_after named (request.Delete ask) now a c n w h = taken_after named now a c n w h
request_after named (request.Txn t) now a c n w h = taken_after named now a c n w h
request_after named (request.Compact revision physical) now a c n w h = taken_after named now a c n w h
request_after named (request.Grant ttl lease) now a c n w h = taken_after named now a c n w h
request_after named (request.Revoke lease) now a c n w h = taken_after named now a c n w h
request_after named (request.KeepAlive lease) now a c n w h = taken_after named now a c n w h
request_after named (request.TimeToLive lease keys) now a c n w h = taken_after named now a c n w h
request_after named request.Leases now a c n w h = taken_after named now a c n w h

pub ask_after : (named : Bool) (now ticket : ℕ) (q : Request) (word : ℕ) (c : Core) → Whole 0 c → CoreFit named c → After named (on_ask now ticket q word c)
unfolding on_ask
ask_after named now ticket q word c w h =
    by_test (After named) (is_known ticket c) (faults c (fault.TicketUsed ticket)) (refused_or_taken (refusal_of c.own.waits.prefix q) (moment c now) (asked_at now ticket q word) c)
    (λ t. h)
    (λ t. by_refusal (refusal_of c.own.waits.prefix q) (unknown ticket c.asks (or_first (is_some (ask_at ticket c.asks)) (is_some (watch_at ticket c.watches.watches)) t)))
  where
    by_refusal : (r : Option Refusal) → has_number (ask_tickets c.asks) ticket ≡ false → After named (refused_or_taken r (moment c now) (asked_at now ticket q word) c)
    by_refusal None n = request_after named q now (asked_at now ticket q word) c n w h
    by_refusal (Some r) n = h
