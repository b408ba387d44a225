-- What the first due job says of the proxy: it stands where it is read off.
use Rattle.std.proofs.Common.{◌≡◌, ℕ, ◌==◌, Bool, true, false, not, cond, ◌&&◌, List, [], ◌∷◌, ◌++◌, Option, None, Some, is_some, refl, ap}
use Rattle.std.specs.List.{list_any, list_all, flat_map}
use Rattle.etcd_types.proofs.Bools.{and_first, and_second, and_both, or_left, or_right, not_true}
use Rattle.proxy_model.specs.Keyed.{Keyed}
use Rattle.wait_model.specs.declared.due.Place.{Place}
use Rattle.wait_model.specs.declared.sending.Sending.{Sending}
use Rattle.wait_model.specs.declared.sending.Sending.TheVariants as sending
use Rattle.wait_model.specs.declared.due.JobKind.TheVariants.{Call}
use Rattle.wait_model.specs.DueOrder.{place_at, is_earlier, first_place, first_rescind}
use Rattle.read_model.specs.declared.acquire.Acquire.{Acquire}
use Rattle.read_model.specs.declared.asked.Asked.{Asked}
use Rattle.read_model.specs.declared.asked.Stage.{Stage}
use Rattle.read_model.specs.declared.asked.Stage.TheVariants as stage
use Rattle.watch_model.specs.declared.stream.StreamPhase.{StreamPhase}
use Rattle.watch_model.specs.declared.stream.StreamPhase.TheVariants as phase
use Rattle.watch_model.specs.State.{Stream}
use Rattle.core_model.specs.DueJobs.{DueJob, ForSession, ForWrites, ForAcquire, ForAsk, ForGroup, ToOpen, ForStream, Placed, placed, if_due, due_writes, due_acquire, lease_of, due_ask, due_stage, due_at, due_opening, due_phase, due_stream, due_jobs, earlier, earliest, job_of, session_job_of, session_job, rescind_or, or_else, first_job}
use Rattle.core_model.specs.Fits.{is_keepalive, group_stands, Agrees}
use Rattle.core_model.specs.Groups.{is_out_for}
use Rattle.core_model.specs.Lookups.{has_ticket}
use Rattle.core_model.specs.State.{Seat, Opening, Core}
use Rattle.core_laws.proofs.Steps.Lists.{number_itself}

abbrev pub is_called_due : Stage → Bool
is_called_due (stage.Calling (sending.Due since)) = true
is_called_due _ = false

-- of the session, of a request whose own call is due, of a lease of which no keepalive is out
abbrev pub DueOk : Core → DueJob → Type 0
DueOk c (ForSession s) = (x : Seat) × (c.seat ≡ Some x) × (x.session ≡ s)
DueOk c ForWrites = Unit {0}
DueOk c (ForAcquire k x) = Unit {0}
DueOk c (ForAsk a) = list_any (λ b. has_ticket a.ticket b && is_called_due b.stage) c.asks ≡ true
DueOk c (ForGroup lease ticket) = is_out_for lease c.out ≡ false
DueOk c (ToOpen o) = Unit {0}
DueOk c (ForStream s) = Unit {0}

abbrev pub DueIf : Core → Option DueJob → Type 0
DueIf c None = Unit {0}
DueIf c (Some j) = DueOk c j

abbrev AllDue : Core → List Placed → Type 0
AllDue c [] = Unit {0}
AllDue c (p ∷ ps) = DueOk c p.job × AllDue c ps

all_appended : (c : Core) (ps qs : List Placed) → AllDue c ps → AllDue c qs → AllDue c (ps ++ qs)
all_appended c [] qs h i = i
all_appended c (p ∷ ps) qs h i = (h.0, all_appended c ps qs h.1 i)

writes_due : (c : Core) (o : Option Place) → AllDue c (due_writes o)
writes_due c None = tt
writes_due c (Some p) = (tt, tt)

if_due_for : (c : Core) (s : Sending) (f : ℕ → Placed) → ((since : ℕ) → DueOk c (f since).job) → AllDue c (if_due s f)
if_due_for c (sending.Due since) f h = (h since, tt)
if_due_for c (sending.Out call) f h = tt

acquires_due : (c : Core) (xs : Keyed Acquire) → AllDue c (flat_map due_acquire xs)
acquires_due c [] = tt
acquires_due c (x ∷ xs) = all_appended c (due_acquire x) (flat_map due_acquire xs) (if_due_for c x.1.sending (λ since. placed (place_at since Call x.1.ticket) (ForAcquire x.0 x.1)) (λ since. tt)) (acquires_due c xs)

opening_due : (c : Core) (o : Option Opening) → AllDue c (due_opening o)
opening_due c None = tt
opening_due c (Some o) = by_since o.due
  where
    by_since : (s : Option ℕ) → AllDue c (due_at o s)
    by_since None = tt
    by_since (Some since) = (tt, tt)

streams_due : (c : Core) (ss : List Stream) → AllDue c (flat_map due_stream ss)
streams_due c [] = tt
streams_due c (s ∷ ss) = all_appended c (due_stream s) (flat_map due_stream ss) (by_phase s.phase) (streams_due c ss)
  where
    by_phase : (p : StreamPhase) → AllDue c (due_phase s p)
    by_phase (phase.Due since) = (tt, tt)
    by_phase (phase.Closing since) = (tt, tt)
    by_phase phase.Begun = tt

ask_due : (c : Core) (a : Asked) (s : Stage) → a.stage ≡ s → ((q : Asked → Bool) → q a ≡ true → list_any q c.asks ≡ true) → group_stands c.out a.request s ≡ true → AllDue c (due_stage a s)
ask_due c a (stage.Calling (sending.Due since)) e f g = (f (λ b. has_ticket a.ticket b && is_called_due b.stage) (and_both (a.ticket == a.ticket) (is_called_due a.stage) (number_itself a.ticket) (ap is_called_due e)), tt)
ask_due c a (stage.Calling (sending.Out call)) e f g = tt
ask_due c a stage.Acquiring e f g = tt
ask_due c a stage.Joined e f g = tt
ask_due c a stage.Behind e f g = tt
ask_due c a stage.Writes e f g = tt
ask_due c a (stage.Grouped None) e f g = tt
ask_due c a (stage.Grouped (Some (sending.Due since))) e f g = (not_true (is_out_for (lease_of a.request) c.out) (and_second (is_keepalive a.request) (not (is_out_for (lease_of a.request) c.out)) g), tt)
ask_due c a (stage.Grouped (Some (sending.Out call))) e f g = tt
ask_due c a (stage.Replied v) e f g = tt

asks_due : (c : Core) (xs : List Asked) → ((q : Asked → Bool) → list_any q xs ≡ true → list_any q c.asks ≡ true) → list_all (λ a. group_stands c.out a.request a.stage) xs ≡ true → AllDue c (flat_map due_ask xs)
asks_due c [] f g = tt
asks_due c (a ∷ xs) f g =
    all_appended c (due_ask a) (flat_map due_ask xs)
    (ask_due c a a.stage refl (λ q t. f q (or_left (q a) (list_any q xs) t)) (and_first (group_stands c.out a.request a.stage) (list_all (λ b. group_stands c.out b.request b.stage) xs) g))
    (asks_due c xs (λ q t. f q (or_right (q a) (list_any q xs) t)) (and_second (group_stands c.out a.request a.stage) (list_all (λ b. group_stands c.out b.request b.stage) xs) g))

all_due : (c : Core) → Agrees c → AllDue c (due_jobs c)
all_due c h =
    let writes = due_writes (first_place c.own.waits.writes) in
    let acquires = flat_map due_acquire c.acquires in
    let asks = flat_map due_ask c.asks in
    all_appended c (writes ++ acquires ++ asks ++ due_opening c.leasing) (flat_map due_stream c.watches.streams)
    (all_appended c (writes ++ acquires ++ asks) (due_opening c.leasing)
    (all_appended c (writes ++ acquires) asks (all_appended c writes acquires (writes_due c (first_place c.own.waits.writes)) (acquires_due c c.acquires)) (asks_due c c.asks (λ q t. t) h.groups.stand))
    (opening_due c c.leasing))
    (streams_due c c.watches.streams)

abbrev PlacedOk : Core → Option Placed → Type 0
PlacedOk c None = Unit {0}
PlacedOk c (Some p) = DueOk c p.job

earliest_due : (c : Core) (o : Option Placed) (ps : List Placed) → PlacedOk c o → AllDue c ps → PlacedOk c (earliest o ps)
earliest_due c o [] h i = h
earliest_due c o (p ∷ ps) h i = earliest_due c (Some (earlier o p)) ps (chosen o h) i.1
  where
    either : (b : Bool) (q : Placed) → DueOk c q.job → DueOk c (cond b p q).job
    either true q t = i.0
    either false q t = t

    chosen : (x : Option Placed) → PlacedOk c x → DueOk c (earlier x p).job
    chosen None t = i.0
    chosen (Some q) t = either (is_earlier p.place q.place) q t

job_due : (c : Core) (o : Option Placed) → PlacedOk c o → DueIf c (job_of o)
job_due c None h = tt
job_due c (Some p) h = h

rescind_due : (c : Core) (b : Bool) (o : Option DueJob) → DueIf c o → DueIf c (rescind_or b o)
rescind_due c true o h = tt
rescind_due c false o h = h

session_due : (c : Core) (s : Option Seat) → c.seat ≡ s → DueIf c (session_job s)
session_due c None e = tt
session_due c (Some s) e = by_call s.call
  where
    by_call : (o : Option Sending) → DueIf c (session_job_of s.session o)
    by_call None = tt
    by_call (Some (sending.Due since)) = (s, e, refl)
    by_call (Some (sending.Out call)) = tt

pub first_due : (c : Core) → Agrees c → DueIf c (first_job c)
first_due c h = by_session (session_job c.seat) (session_due c c.seat refl)
  where
    others : DueIf c (rescind_or (is_some (first_rescind c.own.entries)) (job_of (earliest None (due_jobs c))))
    others = rescind_due c (is_some (first_rescind c.own.entries)) (job_of (earliest None (due_jobs c))) (job_due c (earliest None (due_jobs c)) (earliest_due c None (due_jobs c) tt (all_due c h)))

    by_session : (o : Option DueJob) → DueIf c o → DueIf c (or_else o (rescind_or (is_some (first_rescind c.own.entries)) (job_of (earliest None (due_jobs c)))))
    by_session None t = others
    by_session (Some j) t = t
