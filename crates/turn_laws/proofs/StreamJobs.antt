-- A stream that is the first due job is one of the client streams.
use Rattle.std.proofs.Common.{inl, inr, ℕ, Bool, true, false, List, [], ◌∷◌, ◌++◌, Option, None, Some, is_some, refl}
use Rattle.std.specs.List.{flat_map}
use Rattle.proxy_model.specs.Keyed.{Keyed}
use Rattle.wait_model.specs.declared.due.JobKind.TheVariants.{Call}
use Rattle.wait_model.specs.declared.due.Place.{Place}
use Rattle.wait_model.specs.declared.sending.Sending.{Sending}
use Rattle.wait_model.specs.declared.sending.Sending.TheVariants as sending
use Rattle.wait_model.specs.DueOrder.{place_at, is_earlier, first_place, first_rescind}
use Rattle.read_model.specs.declared.acquire.Acquire.{Acquire}
use Rattle.read_model.specs.declared.asked.Asked.{Asked}
use Rattle.read_model.specs.declared.asked.Stage.{Stage}
use Rattle.read_model.specs.declared.asked.Stage.TheVariants as stage
use Rattle.watch_model.specs.declared.stream.StreamPhase.{StreamPhase}
use Rattle.watch_model.specs.declared.stream.StreamPhase.TheVariants as phase
use Rattle.watch_model.specs.State.{Stream}
use Rattle.core_model.specs.DueJobs.{DueJob, ForAcquire, ForStream, Placed, due_writes, due_acquire, if_due, placed, due_ask, due_stage, due_at, due_opening, due_phase, due_stream, due_jobs, earlier, earliest, job_of, session_job_of, session_job, rescind_or, or_else, first_job}
use Rattle.core_model.specs.State.{Seat, Opening, Core}
use Rattle.core_laws.proofs.Steps.Comes.{by_test}
use Rattle.core_fits.specs.Fits.{EachOf}
use Rattle.core_laws.proofs.Watches.Touches.{IsAmong}

-- of a stream, that it is one of these
abbrev pub IsOneOf : List Stream → DueJob → Type 0
IsOneOf ss (ForStream s) = IsAmong s ss
IsOneOf ss _ = Unit {0}

abbrev pub IsOneIf : List Stream → Option DueJob → Type 0
IsOneIf ss None = Unit {0}
IsOneIf ss (Some j) = IsOneOf ss j

abbrev OneAt : List Stream → Placed → Type 0
OneAt ss x = IsOneOf ss x.job

abbrev All : List Stream → List Placed → Type 0
All ss xs = EachOf (OneAt ss) xs

joined : (ss : List Stream) (xs ys : List Placed) → All ss xs → All ss ys → All ss (xs ++ ys)
joined ss [] ys h i = i
joined ss (x ∷ xs) ys h i = (h.0, joined ss xs ys h.1 i)

of_writes : (ss : List Stream) (o : Option Place) → All ss (due_writes o)
of_writes ss None = tt
of_writes ss (Some x) = (tt, tt)

of_acquires : (ss : List Stream) (xs : Keyed Acquire) → All ss (flat_map due_acquire xs)
of_acquires ss [] = tt
of_acquires ss (x ∷ xs) = joined ss (due_acquire x) (flat_map due_acquire xs) (by_sending x.1.sending) (of_acquires ss xs)
  where
    by_sending : (s : Sending) → All ss (if_due s (λ since. placed (place_at since Call x.1.ticket) (ForAcquire x.0 x.1)))
    by_sending (sending.Due since) = (tt, tt)
    by_sending (sending.Out call) = tt

of_stage : (ss : List Stream) (a : Asked) (s : Stage) → All ss (due_stage a s)
of_stage ss a (stage.Calling (sending.Due since)) = (tt, tt)
of_stage ss a (stage.Calling (sending.Out call)) = tt
of_stage ss a stage.Acquiring = tt
of_stage ss a stage.Joined = tt
of_stage ss a stage.Behind = tt
of_stage ss a stage.Writes = tt
of_stage ss a (stage.Grouped None) = tt
of_stage ss a (stage.Grouped (Some (sending.Due since))) = (tt, tt)
of_stage ss a (stage.Grouped (Some (sending.Out call))) = tt
of_stage ss a (stage.Replied v) = tt

of_asks : (ss : List Stream) (xs : List Asked) → All ss (flat_map due_ask xs)
of_asks ss [] = tt
of_asks ss (a ∷ xs) = joined ss (due_ask a) (flat_map due_ask xs) (of_stage ss a a.stage) (of_asks ss xs)

of_opening : (ss : List Stream) (o : Option Opening) → All ss (due_opening o)
of_opening ss None = tt
of_opening ss (Some o) = by_since o.due
  where
    by_since : (s : Option ℕ) → All ss (due_at o s)
    by_since None = tt
    by_since (Some since) = (tt, tt)

of_streams : (all ss : List Stream) → ((s : Stream) → IsAmong s ss → IsAmong s all) → All all (flat_map due_stream ss)
of_streams all [] h = tt
of_streams all (s ∷ ss) h = joined all (due_stream s) (flat_map due_stream ss) (by_phase s.phase) (of_streams all ss (λ t i. h t (inr i)))
  where
    by_phase : (x : StreamPhase) → All all (due_phase s x)
    by_phase (phase.Due since) = (h s (inl refl), tt)
    by_phase (phase.Closing since) = (h s (inl refl), tt)
    by_phase phase.Begun = tt

of_all : (c : Core) → All c.watches.streams (due_jobs c)
of_all c =
    let ss = c.watches.streams in
    let writes = due_writes (first_place c.own.waits.writes) in
    let acquires = flat_map due_acquire c.acquires in
    let asks = flat_map due_ask c.asks in
    joined ss (writes ++ acquires ++ asks ++ due_opening c.leasing) (flat_map due_stream ss)
    (joined ss (writes ++ acquires ++ asks) (due_opening c.leasing)
    (joined ss (writes ++ acquires) asks (joined ss writes acquires (of_writes ss (first_place c.own.waits.writes)) (of_acquires ss c.acquires)) (of_asks ss c.asks))
    (of_opening ss c.leasing))
    (of_streams ss ss (λ s i. i))

abbrev PlacedIf : List Stream → Option Placed → Type 0
PlacedIf ss None = Unit {0}
PlacedIf ss (Some x) = OneAt ss x

of_earliest : (ss : List Stream) (o : Option Placed) (xs : List Placed) → PlacedIf ss o → All ss xs → PlacedIf ss (earliest o xs)
of_earliest ss o [] h i = h
of_earliest ss o (x ∷ xs) h i = of_earliest ss (Some (earlier o x)) xs (chosen o h) i.1
  where
    chosen : (y : Option Placed) → PlacedIf ss y → OneAt ss (earlier y x)
    chosen None t = i.0
    chosen (Some q) t = by_test (OneAt ss) (is_earlier x.place q.place) x q (λ e. i.0) (λ e. t)

pub first_is_one : (c : Core) → IsOneIf c.watches.streams (first_job c)
first_is_one c = by_session (session_job c.seat) (of_session c.seat)
  where
    ss : List Stream
    ss = c.watches.streams

    of_placed : (o : Option Placed) → PlacedIf ss o → IsOneIf ss (job_of o)
    of_placed None t = tt
    of_placed (Some x) t = t

    of_rescind : (b : Bool) (o : Option DueJob) → IsOneIf ss o → IsOneIf ss (rescind_or b o)
    of_rescind true o t = tt
    of_rescind false o t = t

    of_session : (s : Option Seat) → IsOneIf ss (session_job s)
    of_session None = tt
    of_session (Some s) = by_call s.call
      where
        by_call : (o : Option Sending) → IsOneIf ss (session_job_of s.session o)
        by_call None = tt
        by_call (Some (sending.Due since)) = tt
        by_call (Some (sending.Out call)) = tt

    by_session : (o : Option DueJob) → IsOneIf ss o → IsOneIf ss (or_else o (rescind_or (is_some (first_rescind c.own.entries)) (job_of (earliest None (due_jobs c)))))
    by_session None t = of_rescind (is_some (first_rescind c.own.entries)) (job_of (earliest None (due_jobs c))) (of_placed (earliest None (due_jobs c)) (of_earliest ss None (due_jobs c) tt (of_all c)))
    by_session (Some j) t = t
