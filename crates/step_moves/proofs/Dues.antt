-- What holds of each due job holds of the first.
use Rattle.std.proofs.Common.{◌≡◌, ℕ, Bool, true, false, cond, List, [], ◌∷◌, ◌++◌, Option, None, Some, is_some, refl, subst}
use Rattle.std.specs.List.{flat_map}
use Rattle.proxy_model.specs.Keyed.{Keyed}
use Rattle.proxy_model.specs.Session.{Session}
use Rattle.wait_model.specs.declared.due.Place.{Place}
use Rattle.wait_model.specs.declared.sending.Sending.{Sending}
use Rattle.wait_model.specs.declared.sending.Sending.TheVariants as sending
use Rattle.wait_model.specs.DueOrder.{is_earlier, first_place, first_rescind}
use Rattle.read_model.specs.declared.acquire.Acquire.{Acquire}
use Rattle.read_model.specs.declared.asked.Asked.{Asked}
use Rattle.read_model.specs.declared.asked.Stage.{Stage}
use Rattle.read_model.specs.declared.asked.Stage.TheVariants as stage
use Rattle.watch_model.specs.declared.stream.StreamPhase.{StreamPhase}
use Rattle.watch_model.specs.declared.stream.StreamPhase.TheVariants as phase
use Rattle.watch_model.specs.State.{Stream}
use Rattle.core_model.specs.DueJobs.{DueJob, ForSession, ForWrites, ForAcquire, ForAsk, ForGroup, ToOpen, ForStream, Placed, if_due, due_writes, due_acquire, due_ask, due_stage, due_at, due_opening, due_phase, due_stream, due_jobs, earlier, earliest, job_of, session_job_of, session_job, rescind_or, or_else, first_job}
use Rattle.core_model.specs.State.{Seat, Opening, Core}
use Rattle.core_fits.specs.Fits.{EachOf}

-- a fact on due jobs that only says something of a client's own call
pub record OfAsks (P : DueJob → Type 0) : Type 0 where
  pub session : (x : Session) → P (ForSession x)
  pub writes : P ForWrites
  pub acquire : (k : List ℕ) (a : Acquire) → P (ForAcquire k a)
  pub group : (lease ticket : ℕ) → P (ForGroup lease ticket)
  pub opening : (o : Opening) → P (ToOpen o)
  pub stream : (s : Stream) → P (ForStream s)

-- where its call is due
abbrev pub DueAsk : (DueJob → Type 0) → Asked → Type 0
DueAsk P a = (since : ℕ) → a.stage ≡ stage.Calling (sending.Due since) → P (ForAsk a)

module _ (P : DueJob → Type 0) (h : OfAsks P) where
  abbrev All : List Placed → Type 0
  All [] = Unit {0}
  All (p ∷ ps) = P p.job × All ps

  abbrev If : Option DueJob → Type 0
  If None = Unit {0}
  If (Some j) = P j

  appended : (ps qs : List Placed) → All ps → All qs → All (ps ++ qs)
  appended [] qs a b = b
  appended (p ∷ ps) qs a b = (a.0, appended ps qs a.1 b)

  writes_due : (o : Option Place) → All (due_writes o)
  writes_due None = tt
  writes_due (Some p) = (h.writes, tt)

  if_due_for : (s : Sending) (f : ℕ → Placed) → ((since : ℕ) → P (f since).job) → All (if_due s f)
  if_due_for (sending.Due since) f g = (g since, tt)
  if_due_for (sending.Out call) f g = tt

  acquires_due : (xs : Keyed Acquire) → All (flat_map due_acquire xs)
  acquires_due [] = tt
  acquires_due (x ∷ xs) = appended (due_acquire x) (flat_map due_acquire xs) (if_due_for x.1.sending _ (λ since. h.acquire x.0 x.1)) (acquires_due xs)

  ask_due : (a : Asked) (s : Stage) → a.stage ≡ s → DueAsk P a → All (due_stage a s)
  ask_due a (stage.Calling (sending.Due since)) e f = (f since e, tt)
  ask_due a (stage.Calling (sending.Out call)) e f = tt
  ask_due a stage.Acquiring e f = tt
  ask_due a stage.Joined e f = tt
  ask_due a stage.Behind e f = tt
  ask_due a stage.Writes e f = tt
  ask_due a (stage.Grouped None) e f = tt
  ask_due a (stage.Grouped (Some (sending.Due since))) e f = (h.group _ _, tt)
  ask_due a (stage.Grouped (Some (sending.Out call))) e f = tt
  ask_due a (stage.Replied v) e f = tt

  asks_due : (xs : List Asked) → EachOf (DueAsk P) xs → All (flat_map due_ask xs)
  asks_due [] f = tt
  asks_due (a ∷ xs) f = appended (due_ask a) (flat_map due_ask xs) (ask_due a a.stage refl f.0) (asks_due xs f.1)

  opening_due : (o : Option Opening) → All (due_opening o)
  opening_due None = tt
  opening_due (Some o) = by_since o.due
    where
      by_since : (s : Option ℕ) → All (due_at o s)
      by_since None = tt
      by_since (Some since) = (h.opening o, tt)

  streams_due : (ss : List Stream) → All (flat_map due_stream ss)
  streams_due [] = tt
  streams_due (s ∷ ss) = appended (due_stream s) (flat_map due_stream ss) (by_phase s.phase) (streams_due ss)
    where
      by_phase : (p : StreamPhase) → All (due_phase s p)
      by_phase (phase.Due since) = (h.stream s, tt)
      by_phase (phase.Closing since) = (h.stream s, tt)
      by_phase phase.Begun = tt

  all_due : (c : Core) → EachOf (DueAsk P) c.asks → All (due_jobs c)
  all_due c f =
      let writes = due_writes (first_place c.own.waits.writes) in
      let acquires = flat_map due_acquire c.acquires in
      let asks = flat_map due_ask c.asks in
      appended (writes ++ acquires ++ asks ++ due_opening c.leasing) (flat_map due_stream c.watches.streams)
      (appended (writes ++ acquires ++ asks) (due_opening c.leasing) (appended (writes ++ acquires) asks (appended writes acquires (writes_due (first_place c.own.waits.writes)) (acquires_due c.acquires)) (asks_due c.asks f)) (opening_due c.leasing))
      (streams_due c.watches.streams)

  abbrev IfPlaced : Option Placed → Type 0
  IfPlaced None = Unit {0}
  IfPlaced (Some p) = P p.job

  earliest_due : (o : Option Placed) (ps : List Placed) → IfPlaced o → All ps → IfPlaced (earliest o ps)
  earliest_due o [] a b = a
  earliest_due o (p ∷ ps) a b = earliest_due (Some (earlier o p)) ps (chosen o a) b.1
    where
      either : (t : Bool) (q : Placed) → P q.job → P (cond t p q).job
      either true q x = b.0
      either false q x = x

      chosen : (x : Option Placed) → IfPlaced x → P (earlier x p).job
      chosen None x = b.0
      chosen (Some q) x = either (is_earlier p.place q.place) q x

  pub first_is : (c : Core) (j : DueJob) → EachOf (DueAsk P) c.asks → first_job c ≡ Some j → P j
  first_is c j f e = subst If e (by_session (session_job c.seat) (session c.seat))
    where
      placed_job : (o : Option Placed) → IfPlaced o → If (job_of o)
      placed_job None t = tt
      placed_job (Some p) t = t

      rescind : (b : Bool) (o : Option DueJob) → If o → If (rescind_or b o)
      rescind true o t = h.writes
      rescind false o t = t

      session : (s : Option Seat) → If (session_job s)
      session None = tt
      session (Some s) = by_call s.call
        where
          by_call : (o : Option Sending) → If (session_job_of s.session o)
          by_call None = tt
          by_call (Some (sending.Due since)) = h.session s.session
          by_call (Some (sending.Out call)) = tt

      others : If (rescind_or (is_some (first_rescind c.own.entries)) (job_of (earliest None (due_jobs c))))
      others = rescind (is_some (first_rescind c.own.entries)) (job_of (earliest None (due_jobs c))) (placed_job (earliest None (due_jobs c)) (earliest_due None (due_jobs c) tt (all_due c f)))

      by_session : (o : Option DueJob) → If o → If (or_else o (rescind_or (is_some (first_rescind c.own.entries)) (job_of (earliest None (due_jobs c)))))
      by_session None t = others
      by_session (Some j) t = t
