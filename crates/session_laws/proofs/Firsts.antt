-- What is known of the first due job: the session's call is due at the session, and a client's call names no session.
use Rattle.std.proofs.Common.{◌≡◌, ℕ, Bool, true, false, not, ◌&&◌, cond, List, [], ◌∷◌, ◌++◌, Option, None, Some, is_some, refl, ◌∙◌, ap}
use Rattle.std.specs.List.{flat_map}
use Rattle.etcd_types.specs.Keys.{is_empty}
use Rattle.etcd_types.specs.declared.answer.Refusal.{Refusal}
use Rattle.etcd_types.specs.declared.request.Request.{Request}
use Rattle.etcd_types.specs.declared.request.Request.TheVariants as request
use Rattle.proxy_model.specs.Keyed.{Keyed}
use Rattle.proxy_model.specs.Prefixes.{leasing_range}
use Rattle.proxy_model.specs.RequestRefusals.{first_of, given, is_session, names_session, reserved_lease, unsupported, unserved, request_lacks_key}
use Rattle.proxy_model.specs.Session.{Session}
use Rattle.store_model.specs.Refusals.{key_not_provided, too_many_operations}
use Rattle.std.specs.Option.{option_map}
use Rattle.wait_model.specs.declared.due.Place.{Place}
use Rattle.wait_model.specs.declared.sending.Sending.{Sending}
use Rattle.wait_model.specs.declared.sending.Sending.TheVariants as sending
use Rattle.wait_model.specs.declared.write.Write.{Write}
use Rattle.wait_model.specs.DueOrder.{is_earlier, first_place, first_rescind}
use Rattle.read_model.specs.declared.acquire.Acquire.{Acquire}
use Rattle.read_model.specs.declared.asked.Asked.{Asked}
use Rattle.read_model.specs.declared.asked.Stage.{Stage}
use Rattle.read_model.specs.declared.asked.Stage.TheVariants as stage
use Rattle.watch_model.specs.declared.stream.StreamPhase.{StreamPhase}
use Rattle.watch_model.specs.declared.stream.StreamPhase.TheVariants as phase
use Rattle.watch_model.specs.State.{Stream}
use Rattle.core_model.specs.ClockWork.{clock_work}
use Rattle.core_model.specs.DueJobs.{DueJob, ForSession, ForAsk, ForGroup, Placed, if_due, due_writes, due_acquire, lease_of, due_ask, due_stage, due_at, due_opening, due_phase, due_stream, due_jobs, earlier, earliest, job_of, session_job_of, session_job, rescind_or, or_else, first_job}
use Rattle.core_model.specs.Refusals.{refusal_of, reserved_range, touches, writes_too_much}
use Rattle.core_model.specs.State.{Seat, Opening, Core}
use Rattle.core_fits.specs.Fits.{EachOf, CoreFits}
use Rattle.core_fits.proofs.CallRows.{CoreHas, clock_has}
use Rattle.core_fits.proofs.Eachs.{each_kept}

-- ---- requests that name no session

fourth_none : (a b c d e : Option Refusal) → first_of (a ∷ b ∷ c ∷ d ∷ e ∷ []) ≡ None → d ≡ None
fourth_none None None None None e h = refl
fourth_none None None None (Some x) e h = absurd (cc)
fourth_none None None (Some x) d e h = absurd (cc)
fourth_none None (Some x) c d e h = absurd (cc)
fourth_none (Some x) b c d e h = absurd (cc)

not_given : (b : Bool) (r : Refusal) → given b r ≡ None → b ≡ false
not_given true r h = absurd (cc)
not_given false r h = refl

names_none : (p : List ℕ) (q : Request) → refusal_of p q ≡ None → names_session q ≡ false
names_none p q e =
    not_given (names_session q) reserved_lease
    (fourth_none (option_map unsupported (unserved q)) (given (request_lacks_key q) key_not_provided) (given (not (is_empty p) && touches (leasing_range p) q) reserved_range) (given (names_session q) reserved_lease) (given (not (is_empty p) && writes_too_much q) too_many_operations) e)

-- of each request and each write
abbrev pub AreApart : Core → Type 0
AreApart c = CoreHas (λ a. names_session a.request ≡ false) (λ w. names_session w.request ≡ false) c

pub apart_behind : (now : ℕ) (c : Core) → CoreFits c → AreApart (clock_work now c)
apart_behind now c h =
    clock_has (λ a. names_session a.request ≡ false) (λ w. names_session w.request ≡ false) (record { asks = λ x y g k. ap names_session g.request ∙ k; writes = λ w s k. k }) now c (
      each_kept (λ (a : Asked). refusal_of c.own.waits.prefix a.request ≡ None) (λ a. names_session a.request ≡ false) (λ a k. names_none c.own.waits.prefix a.request k) c.asks h.served.asks,
      each_kept (λ (w : Write). refusal_of c.own.waits.prefix w.request ≡ None) (λ w. names_session w.request ≡ false) (λ w k. names_none c.own.waits.prefix w.request k) c.own.waits.writes h.served.writes,
    )

-- ---- the first due job

-- the session's call is due
pub record IsDueFor (seat : Option Seat) (s : Session) : Type 0 where
  pub sits : Seat
  pub stands : seat ≡ Some sits
  pub session : sits.session ≡ s
  pub since : ℕ
  pub due : sits.call ≡ Some (sending.Due since)

abbrev pub DueKnown : Option Seat → DueJob → Type 0
DueKnown seat (ForSession s) = IsDueFor seat s
DueKnown seat (ForAsk a) = names_session a.request ≡ false
DueKnown seat (ForGroup lease ticket) = is_session lease ≡ false
DueKnown seat _ = Unit {0}

module _ (seat : Option Seat) where
  abbrev All : List Placed → Type 0
  All [] = Unit {0}
  All (p ∷ ps) = DueKnown seat p.job × All ps

  abbrev pub KnownIf : Option DueJob → Type 0
  KnownIf None = Unit {0}
  KnownIf (Some j) = DueKnown seat j

  appended : (ps qs : List Placed) → All ps → All qs → All (ps ++ qs)
  appended [] qs a b = b
  appended (p ∷ ps) qs a b = (a.0, appended ps qs a.1 b)

  writes_due : (o : Option Place) → All (due_writes o)
  writes_due None = tt
  writes_due (Some p) = (tt, tt)

  if_due_for : (s : Sending) (f : ℕ → Placed) → ((since : ℕ) → DueKnown seat (f since).job) → All (if_due s f)
  if_due_for (sending.Due since) f g = (g since, tt)
  if_due_for (sending.Out call) f g = tt

  acquires_due : (xs : Keyed Acquire) → All (flat_map due_acquire xs)
  acquires_due [] = tt
  acquires_due (x ∷ xs) = appended (due_acquire x) (flat_map due_acquire xs) (if_due_for x.1.sending _ (λ since. tt)) (acquires_due xs)

  lease_apart : (q : Request) → names_session q ≡ false → is_session (lease_of q) ≡ false
  lease_apart (request.KeepAlive lease) n = n
  lease_apart (request.Range ask) n = refl
  lease_apart (request.Put ask) n = refl
  lease_apart (request.Delete ask) n = refl
  lease_apart (request.Txn t) n = refl
  lease_apart (request.Compact revision physical) n = refl
  lease_apart (request.Grant asked lease) n = refl
  lease_apart (request.Revoke lease) n = refl
  lease_apart (request.TimeToLive lease keys) n = refl
  lease_apart request.Leases n = refl
  lease_apart (request.Watch ask) n = refl

  ask_due : (a : Asked) (s : Stage) → names_session a.request ≡ false → All (due_stage a s)
  ask_due a (stage.Calling s) n = if_due_for s _ (λ since. n)
  ask_due a (stage.Grouped (Some s)) n = if_due_for s _ (λ since. lease_apart a.request n)
  ask_due a (stage.Grouped None) n = tt
  ask_due a stage.Acquiring n = tt
  ask_due a stage.Joined n = tt
  ask_due a stage.Behind n = tt
  ask_due a stage.Writes n = tt
  ask_due a (stage.Replied v) n = tt

  asks_due : (xs : List Asked) → EachOf (λ a. names_session a.request ≡ false) xs → All (flat_map due_ask xs)
  asks_due [] h = tt
  asks_due (a ∷ xs) h = appended (due_ask a) (flat_map due_ask xs) (ask_due a a.stage h.0) (asks_due xs h.1)

  opening_due : (o : Option Opening) → All (due_opening o)
  opening_due None = tt
  opening_due (Some o) = by o.due
    where
      by : (since : Option ℕ) → All (due_at o since)
      by None = tt
      by (Some since) = (tt, tt)

  streams_due : (ss : List Stream) → All (flat_map due_stream ss)
  streams_due [] = tt
  streams_due (s ∷ ss) = appended (due_stream s) (flat_map due_stream ss) (by s.phase) (streams_due ss)
    where
      by : (p : StreamPhase) → All (due_phase s p)
      by (phase.Due since) = (tt, tt)
      by (phase.Closing since) = (tt, tt)
      by phase.Begun = tt

  all_due : (c : Core) → AreApart c → All (due_jobs c)
  all_due c h =
      let writes = due_writes (first_place c.own.waits.writes) in
      let acquires = flat_map due_acquire c.acquires in
      let asks = flat_map due_ask c.asks in
      appended (writes ++ acquires ++ asks ++ due_opening c.leasing) (flat_map due_stream c.watches.streams)
      (appended (writes ++ acquires ++ asks) (due_opening c.leasing)
      (appended (writes ++ acquires) asks (appended writes acquires (writes_due (first_place c.own.waits.writes)) (acquires_due c.acquires)) (asks_due c.asks h.0)) (opening_due c.leasing))
      (streams_due c.watches.streams)

  abbrev PlacedIf : Option Placed → Type 0
  PlacedIf None = Unit {0}
  PlacedIf (Some p) = DueKnown seat p.job

  earliest_due : (o : Option Placed) (ps : List Placed) → PlacedIf o → All ps → PlacedIf (earliest o ps)
  earliest_due o [] a b = a
  earliest_due o (p ∷ ps) a b = earliest_due (Some (earlier o p)) ps (chosen o a) b.1
    where
      either : (t : Bool) (q : Placed) → DueKnown seat q.job → DueKnown seat (cond t p q).job
      either true q x = b.0
      either false q x = x

      chosen : (x : Option Placed) → PlacedIf x → DueKnown seat (earlier x p).job
      chosen None x = b.0
      chosen (Some q) x = either (is_earlier p.place q.place) q x

pub first_known : (c : Core) → AreApart c → KnownIf c.seat (first_job c)
first_known c h = by_session (session_job c.seat) (session c.seat)
  where
    placed_job : (o : Option Placed) → PlacedIf c.seat o → KnownIf c.seat (job_of o)
    placed_job None t = tt
    placed_job (Some p) t = t

    rescind : (b : Bool) (o : Option DueJob) → KnownIf c.seat o → KnownIf c.seat (rescind_or b o)
    rescind true o t = tt
    rescind false o t = t

    session : (s : Option Seat) → KnownIf s (session_job s)
    session None = tt
    session (Some s) = by_call s.call refl
      where
        by_call : (o : Option Sending) → s.call ≡ o → KnownIf (Some s) (session_job_of s.session o)
        by_call None e = tt
        by_call (Some (sending.Due since)) e = record { sits = s; stands = refl; session = refl; since = since; due = e }
        by_call (Some (sending.Out call)) e = tt

    others : KnownIf c.seat (rescind_or (is_some (first_rescind c.own.entries)) (job_of (earliest None (due_jobs c))))
    others = rescind (is_some (first_rescind c.own.entries)) (job_of (earliest None (due_jobs c))) (placed_job (earliest None (due_jobs c)) (earliest_due c.seat None (due_jobs c) tt (all_due c.seat c h)))

    by_session : (o : Option DueJob) → KnownIf c.seat o → KnownIf c.seat (or_else o (rescind_or (is_some (first_rescind c.own.entries)) (job_of (earliest None (due_jobs c)))))
    by_session None t = others
    by_session (Some j) t = t
