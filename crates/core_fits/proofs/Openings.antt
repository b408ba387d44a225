-- The opening that is due first is that of the leasing stream as it stands.
use Rattle.std.proofs.Common.{ℕ, Bool, true, false, List, [], ◌∷◌, ◌++◌, Option, None, Some, is_some}
use Rattle.std.specs.List.{flat_map}
use Rattle.proxy_model.specs.Keyed.{Keyed}
use Rattle.wait_model.specs.declared.due.JobKind.TheVariants.{Call}
use Rattle.wait_model.specs.declared.due.Place.{Place}
use Rattle.wait_model.specs.declared.sending.Sending.{Sending}
use Rattle.wait_model.specs.declared.sending.Sending.TheVariants as sending
use Rattle.wait_model.specs.DueOrder.{place_at, is_earlier, first_place, first_rescind}
use Rattle.read_model.specs.declared.acquire.Acquire.{Acquire}
use Rattle.read_model.specs.declared.asked.Asked.{Asked}
use Rattle.read_model.specs.declared.asked.Stage.{Stage}
use Rattle.read_model.specs.declared.asked.Stage.TheVariants as stage
use Rattle.watch_model.specs.declared.stream.StreamPhase.{StreamPhase}
use Rattle.watch_model.specs.declared.stream.StreamPhase.TheVariants as phase
use Rattle.watch_model.specs.State.{Stream}
use Rattle.core_model.specs.DueJobs.{DueJob, ForAcquire, ToOpen, Placed, due_writes, due_acquire, if_due, placed, due_ask, due_stage, due_at, due_opening, due_phase, due_stream, due_jobs, earlier, earliest, job_of, session_job_of, session_job, rescind_or, or_else, first_job}
use Rattle.core_model.specs.State.{Seat, Opening, Core}
use Rattle.core_laws.proofs.Steps.Comes.{by_test}
use Rattle.core_fits.specs.Fits.{EachOf, IsOfLeasing}

-- of an opening, that it is of the ownership keys
abbrev pub Opens : List ℕ → DueJob → Type 0
Opens p (ToOpen o) = IsOfLeasing p (Some o)
Opens p _ = Unit {0}

abbrev pub OpensIf : List ℕ → Option DueJob → Type 0
OpensIf p None = Unit {0}
OpensIf p (Some j) = Opens p j

abbrev OpensAt : List ℕ → Placed → Type 0
OpensAt p x = Opens p x.job

abbrev All : List ℕ → List Placed → Type 0
All p xs = EachOf (OpensAt p) xs

joined : (p : List ℕ) (xs ys : List Placed) → All p xs → All p ys → All p (xs ++ ys)
joined p [] ys h i = i
joined p (x ∷ xs) ys h i = (h.0, joined p xs ys h.1 i)

of_writes : (p : List ℕ) (o : Option Place) → All p (due_writes o)
of_writes p None = tt
of_writes p (Some x) = (tt, tt)

of_acquires : (p : List ℕ) (xs : Keyed Acquire) → All p (flat_map due_acquire xs)
of_acquires p [] = tt
of_acquires p (x ∷ xs) = joined p (due_acquire x) (flat_map due_acquire xs) (by_sending x.1.sending) (of_acquires p xs)
  where
    by_sending : (s : Sending) → All p (if_due s (λ since. placed (place_at since Call x.1.ticket) (ForAcquire x.0 x.1)))
    by_sending (sending.Due since) = (tt, tt)
    by_sending (sending.Out call) = tt

of_stage : (p : List ℕ) (a : Asked) (s : Stage) → All p (due_stage a s)
of_stage p a (stage.Calling (sending.Due since)) = (tt, tt)
of_stage p a (stage.Calling (sending.Out call)) = tt
of_stage p a stage.Acquiring = tt
of_stage p a stage.Joined = tt
of_stage p a stage.Behind = tt
of_stage p a stage.Writes = tt
of_stage p a (stage.Grouped None) = tt
of_stage p a (stage.Grouped (Some (sending.Due since))) = (tt, tt)
of_stage p a (stage.Grouped (Some (sending.Out call))) = tt
of_stage p a (stage.Replied v) = tt

of_asks : (p : List ℕ) (xs : List Asked) → All p (flat_map due_ask xs)
of_asks p [] = tt
of_asks p (a ∷ xs) = joined p (due_ask a) (flat_map due_ask xs) (of_stage p a a.stage) (of_asks p xs)

of_opening : (p : List ℕ) (o : Option Opening) → IsOfLeasing p o → All p (due_opening o)
of_opening p None h = tt
of_opening p (Some o) h = by_since o.due
  where
    by_since : (s : Option ℕ) → All p (due_at o s)
    by_since None = tt
    by_since (Some since) = (h, tt)

of_streams : (p : List ℕ) (ss : List Stream) → All p (flat_map due_stream ss)
of_streams p [] = tt
of_streams p (s ∷ ss) = joined p (due_stream s) (flat_map due_stream ss) (by_phase s.phase) (of_streams p ss)
  where
    by_phase : (x : StreamPhase) → All p (due_phase s x)
    by_phase (phase.Due since) = (tt, tt)
    by_phase (phase.Closing since) = (tt, tt)
    by_phase phase.Begun = tt

of_all : (p : List ℕ) (c : Core) → IsOfLeasing p c.leasing → All p (due_jobs c)
of_all p c h =
    let writes = due_writes (first_place c.own.waits.writes) in
    let acquires = flat_map due_acquire c.acquires in
    let asks = flat_map due_ask c.asks in
    joined p (writes ++ acquires ++ asks ++ due_opening c.leasing) (flat_map due_stream c.watches.streams)
    (joined p (writes ++ acquires ++ asks) (due_opening c.leasing)
    (joined p (writes ++ acquires) asks (joined p writes acquires (of_writes p (first_place c.own.waits.writes)) (of_acquires p c.acquires)) (of_asks p c.asks))
    (of_opening p c.leasing h))
    (of_streams p c.watches.streams)

abbrev PlacedIf : List ℕ → Option Placed → Type 0
PlacedIf p None = Unit {0}
PlacedIf p (Some x) = OpensAt p x

of_earliest : (p : List ℕ) (o : Option Placed) (xs : List Placed) → PlacedIf p o → All p xs → PlacedIf p (earliest o xs)
of_earliest p o [] h i = h
of_earliest p o (x ∷ xs) h i = of_earliest p (Some (earlier o x)) xs (chosen o h) i.1
  where
    chosen : (y : Option Placed) → PlacedIf p y → OpensAt p (earlier y x)
    chosen None t = i.0
    chosen (Some q) t = by_test (OpensAt p) (is_earlier x.place q.place) x q (λ e. i.0) (λ e. t)

pub first_opens : (p : List ℕ) (c : Core) → IsOfLeasing p c.leasing → OpensIf p (first_job c)
first_opens p c h = by_session (session_job c.seat) (of_session c.seat)
  where
    of_placed : (o : Option Placed) → PlacedIf p o → OpensIf p (job_of o)
    of_placed None t = tt
    of_placed (Some x) t = t

    of_rescind : (b : Bool) (o : Option DueJob) → OpensIf p o → OpensIf p (rescind_or b o)
    of_rescind true o t = tt
    of_rescind false o t = t

    of_session : (s : Option Seat) → OpensIf p (session_job s)
    of_session None = tt
    of_session (Some s) = by_call s.call
      where
        by_call : (o : Option Sending) → OpensIf p (session_job_of s.session o)
        by_call None = tt
        by_call (Some (sending.Due since)) = tt
        by_call (Some (sending.Out call)) = tt

    by_session : (o : Option DueJob) → OpensIf p o → OpensIf p (or_else o (rescind_or (is_some (first_rescind c.own.entries)) (job_of (earliest None (due_jobs c)))))
    by_session None t = of_rescind (is_some (first_rescind c.own.entries)) (job_of (earliest None (due_jobs c))) (of_placed (earliest None (due_jobs c)) (of_earliest p None (due_jobs c) tt (of_all p c h)))
    by_session (Some j) t = t
