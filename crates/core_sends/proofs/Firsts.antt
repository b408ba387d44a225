-- The first due job is of what the proxy has: its session, its leasing stream, or the stream that is due first.
use Rattle.std.proofs.Common.{◌≡◌, ℕ, Bool, true, false, cond, List, [], ◌∷◌, ◌++◌, Option, None, Some, is_some, refl, sym, ◌∙◌, subst}
use Rattle.std.specs.List.{flat_map}
use Rattle.std.specs.Option.{option_map}
use Rattle.proxy_model.specs.declared.lease.Entry.{Entry}
use Rattle.proxy_model.specs.Keyed.{Keyed}
use Rattle.wait_model.specs.declared.due.JobKind.TheVariants.{Call}
use Rattle.wait_model.specs.declared.due.Place.{Place}
use Rattle.wait_model.specs.declared.sending.Sending.{Sending}
use Rattle.wait_model.specs.declared.sending.Sending.TheVariants as sending
use Rattle.wait_model.specs.DueOrder.{place_at, is_earlier, first_rescind}
use Rattle.read_model.specs.declared.acquire.Acquire.{Acquire}
use Rattle.read_model.specs.declared.asked.Asked.{Asked}
use Rattle.read_model.specs.declared.asked.Stage.{Stage}
use Rattle.read_model.specs.declared.asked.Stage.TheVariants as stage
use Rattle.watch_model.specs.declared.stream.StreamPhase.{StreamPhase}
use Rattle.watch_model.specs.declared.stream.StreamPhase.TheVariants as phase
use Rattle.watch_model.specs.Due.{first_due}
use Rattle.watch_model.specs.Lookups.{numbered}
use Rattle.watch_model.specs.State.{Stream}
use Rattle.core_model.specs.DueJobs.{DueJob, ForSession, ForWrites, ForAcquire, ForAsk, ForGroup, ToOpen, ForStream, Placed, placed, if_due, due_writes, due_acquire, due_ask, due_stage, due_at, due_opening, due_phase, due_stream, earlier, earliest, job_of, session_job_of, session_job, rescind_or, or_else}
use Rattle.core_model.specs.State.{Seat, Opening}
use Rattle.due_order.specs.Parts.{due_of, first_job_of, with_first_stream}
use Rattle.due_order.proofs.Earliest.{earliest_append}
use Rattle.due_order.proofs.Streams.{streams_first}

abbrev pub IsOf : Option Seat → Option Opening → List Stream → DueJob → Type 0
IsOf seat leasing streams (ForSession s) = option_map (λ x. x.session) seat ≡ Some s
IsOf seat leasing streams ForWrites = Unit {0}
IsOf seat leasing streams (ForAcquire k x) = Unit {0}
IsOf seat leasing streams (ForAsk a) = Unit {0}
IsOf seat leasing streams (ForGroup lease ticket) = Unit {0}
IsOf seat leasing streams (ToOpen o) = leasing ≡ Some o
IsOf seat leasing streams (ForStream s) = first_due streams ≡ Some s

abbrev pub IsOfIf : Option Seat → Option Opening → List Stream → Option DueJob → Type 0
IsOfIf seat leasing streams None = Unit {0}
IsOfIf seat leasing streams (Some j) = IsOf seat leasing streams j

-- of each placed one, or of the first one
abbrev AllOf : Option Opening → List Stream → List Placed → Type 0
AllOf leasing streams [] = Unit {0}
AllOf leasing streams (p ∷ ps) = IsOf None leasing streams p.job × AllOf leasing streams ps

abbrev OneOf : Option Opening → List Stream → Option Placed → Type 0
OneOf leasing streams None = Unit {0}
OneOf leasing streams (Some p) = IsOf None leasing streams p.job

earliest_of : (leasing : Option Opening) (streams : List Stream) (o : Option Placed) (ps : List Placed) → OneOf leasing streams o → AllOf leasing streams ps → OneOf leasing streams (earliest o ps)
earliest_of leasing streams o [] h i = h
earliest_of leasing streams o (p ∷ ps) h i = earliest_of leasing streams (Some (earlier o p)) ps (chosen o h) i.1
  where
    either : (b : Bool) (q : Placed) → IsOf None leasing streams q.job → IsOf None leasing streams (cond b p q).job
    either true q t = i.0
    either false q t = t

    chosen : (x : Option Placed) → OneOf leasing streams x → IsOf None leasing streams (earlier x p).job
    chosen None t = i.0
    chosen (Some q) t = either (is_earlier p.place q.place) q t

all_appended : (leasing : Option Opening) (streams : List Stream) (ps qs : List Placed) → AllOf leasing streams ps → AllOf leasing streams qs → AllOf leasing streams (ps ++ qs)
all_appended leasing streams [] qs h i = i
all_appended leasing streams (p ∷ ps) qs h i = (h.0, all_appended leasing streams ps qs h.1 i)

writes_of : (leasing : Option Opening) (streams : List Stream) (o : Option Place) → AllOf leasing streams (due_writes o)
writes_of leasing streams None = tt
writes_of leasing streams (Some p) = (tt, tt)

acquire_of : (leasing : Option Opening) (streams : List Stream) (k : List ℕ) (x : Acquire) (s : Sending) → AllOf leasing streams (if_due s (λ since. placed (place_at since Call x.ticket) (ForAcquire k x)))
acquire_of leasing streams k x (sending.Due since) = (tt, tt)
acquire_of leasing streams k x (sending.Out call) = tt

acquires_of : (leasing : Option Opening) (streams : List Stream) (xs : Keyed Acquire) → AllOf leasing streams (flat_map due_acquire xs)
acquires_of leasing streams [] = tt
acquires_of leasing streams (x ∷ xs) =
    all_appended leasing streams (due_acquire x) (flat_map due_acquire xs) (acquire_of leasing streams x.0 x.1 x.1.sending) (acquires_of leasing streams xs)

ask_of : (leasing : Option Opening) (streams : List Stream) (a : Asked) (s : Stage) → AllOf leasing streams (due_stage a s)
ask_of leasing streams a (stage.Calling (sending.Due since)) = (tt, tt)
ask_of leasing streams a (stage.Calling (sending.Out call)) = tt
ask_of leasing streams a stage.Acquiring = tt
ask_of leasing streams a stage.Joined = tt
ask_of leasing streams a stage.Behind = tt
ask_of leasing streams a stage.Writes = tt
ask_of leasing streams a (stage.Grouped None) = tt
ask_of leasing streams a (stage.Grouped (Some (sending.Due since))) = (tt, tt)
ask_of leasing streams a (stage.Grouped (Some (sending.Out call))) = tt
ask_of leasing streams a (stage.Replied v) = tt

asks_of : (leasing : Option Opening) (streams : List Stream) (xs : List Asked) → AllOf leasing streams (flat_map due_ask xs)
asks_of leasing streams [] = tt
asks_of leasing streams (a ∷ xs) =
    all_appended leasing streams (due_ask a) (flat_map due_ask xs) (ask_of leasing streams a a.stage) (asks_of leasing streams xs)

opening_of : (leasing : Option Opening) (streams : List Stream) (o : Option Opening) → leasing ≡ o → AllOf leasing streams (due_opening o)
opening_of leasing streams None e = tt
opening_of leasing streams (Some o) e = by_since o.due
  where
    by_since : (s : Option ℕ) → AllOf leasing streams (due_at o s)
    by_since None = tt
    by_since (Some since) = (e, tt)

stream_of : (leasing : Option Opening) (streams : List Stream) (o : Option Stream) (first : Option Placed) → first_due streams ≡ o → OneOf leasing streams first → OneOf leasing streams (with_first_stream first o)
stream_of leasing streams None first e h = h
stream_of leasing streams (Some s) first e h = earliest_of leasing streams first (due_stream s) h (by_phase s.phase)
  where
    by_phase : (p : StreamPhase) → AllOf leasing streams (due_phase s p)
    by_phase (phase.Due since) = (e, tt)
    by_phase (phase.Closing since) = (e, tt)
    by_phase phase.Begun = tt

others_of : (writes : Option Place) (acquires : Keyed Acquire) (asks : List Asked) (leasing : Option Opening) (streams : List Stream) (high : ℕ) → numbered 0 high streams ≡ true → OneOf leasing streams (earliest None (due_of writes acquires asks leasing streams))
others_of writes acquires asks leasing streams high n =
    let before = due_writes writes ++ flat_map due_acquire acquires ++ flat_map due_ask asks ++ due_opening leasing in
    let all : AllOf leasing streams before =
    all_appended leasing streams (due_writes writes ++ flat_map due_acquire acquires ++ flat_map due_ask asks) (due_opening leasing)
    (all_appended leasing streams (due_writes writes ++ flat_map due_acquire acquires) (flat_map due_ask asks)
    (all_appended leasing streams (due_writes writes) (flat_map due_acquire acquires) (writes_of leasing streams writes) (acquires_of leasing streams acquires))
    (asks_of leasing streams asks))
    (opening_of leasing streams leasing refl) in
    let Claim : Option Placed → Type 0 = λ o. OneOf leasing streams o in
    subst Claim (sym (earliest_append None before (flat_map due_stream streams) ∙ streams_first (earliest None before) high streams n))
    (stream_of leasing streams (first_due streams) (earliest None before) refl (earliest_of leasing streams None before tt all))

-- whatever the session is
any_seat : (seat : Option Seat) (leasing : Option Opening) (streams : List Stream) (j : DueJob) → IsOf None leasing streams j → IsOf seat leasing streams j
any_seat seat leasing streams (ForSession s) h = cc
any_seat seat leasing streams ForWrites h = h
any_seat seat leasing streams (ForAcquire k x) h = h
any_seat seat leasing streams (ForAsk a) h = h
any_seat seat leasing streams (ForGroup lease ticket) h = h
any_seat seat leasing streams (ToOpen o) h = h
any_seat seat leasing streams (ForStream s) h = h

job_is_of : (seat : Option Seat) (leasing : Option Opening) (streams : List Stream) (o : Option Placed) → OneOf leasing streams o → IsOfIf seat leasing streams (job_of o)
job_is_of seat leasing streams None h = tt
job_is_of seat leasing streams (Some p) h = any_seat seat leasing streams p.job h

rescind_is_of : (seat : Option Seat) (leasing : Option Opening) (streams : List Stream) (b : Bool) (o : Option DueJob) → IsOfIf seat leasing streams o → IsOfIf seat leasing streams (rescind_or b o)
rescind_is_of seat leasing streams true o h = tt
rescind_is_of seat leasing streams false o h = h

session_is_of : (seat : Option Seat) (leasing : Option Opening) (streams : List Stream) (o : Option DueJob) → IsOfIf seat leasing streams o → IsOfIf seat leasing streams (or_else (session_job seat) o)
session_is_of None leasing streams o h = h
session_is_of (Some s) leasing streams o h = by_call s.call
  where
    by_call : (x : Option Sending) → IsOfIf (Some s) leasing streams (or_else (session_job_of s.session x) o)
    by_call None = h
    by_call (Some (sending.Due since)) = refl
    by_call (Some (sending.Out call)) = h

pub first_is_of : (seat : Option Seat) (entries : Keyed Entry) (writes : Option Place) (acquires : Keyed Acquire) (asks : List Asked) (leasing : Option Opening) (streams : List Stream) (high : ℕ) → numbered 0 high streams ≡ true → IsOfIf seat leasing streams (first_job_of seat entries writes acquires asks leasing streams)
first_is_of seat entries writes acquires asks leasing streams high n =
    let rest = earliest None (due_of writes acquires asks leasing streams) in
    session_is_of seat leasing streams (rescind_or (is_some (first_rescind entries)) (job_of rest))
    (rescind_is_of seat leasing streams (is_some (first_rescind entries)) (job_of rest)
    (job_is_of seat leasing streams rest (others_of writes acquires asks leasing streams high n)))
