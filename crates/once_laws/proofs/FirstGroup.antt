-- The keepalive that a proxy sends first for clients is of a request that waits for it.
use Rattle.std.proofs.Common.{◌≡◌, ℕ, Bool, true, false, cond, List, [], ◌∷◌, ◌++◌, Option, None, Some, is_some, refl, ◌∙◌, ap}
use Rattle.std.specs.List.{flat_map}
use Rattle.proxy_model.specs.Keyed.{Keyed}
use Rattle.proxy_model.specs.Session.{Session}
use Rattle.wait_model.specs.declared.due.Place.{Place}
use Rattle.wait_model.specs.declared.sending.Sending.{Sending}
use Rattle.wait_model.specs.declared.sending.Sending.TheVariants as sending
use Rattle.wait_model.specs.DueOrder.{is_earlier, first_place, first_rescind}
use Rattle.read_model.specs.declared.acquire.Acquire.{Acquire}
use Rattle.read_model.specs.declared.asked.Asked.{Asked}
use Rattle.read_model.specs.declared.asked.Stage.{Stage}
use Rattle.read_model.specs.declared.asked.Stage.TheVariants as stage
use Rattle.watch_model.specs.declared.stream.StreamPhase.{StreamPhase}
use Rattle.watch_model.specs.declared.stream.StreamPhase.TheVariants as phase
use Rattle.watch_model.specs.State.{Stream}
use Rattle.core_model.specs.DueJobs.{DueJob, ForAcquire, ForAsk, ForGroup, Placed, due_writes, if_due, due_acquire, due_stage, due_ask, due_at, due_opening, due_phase, due_stream, due_jobs, earlier, earliest, job_of, session_job_of, session_job, rescind_or, or_else, first_job}
use Rattle.core_model.specs.Fits.{once, ask_tickets}
use Rattle.core_model.specs.Groups.{is_due_stage}
use Rattle.core_model.specs.Lookups.{ask_at}
use Rattle.core_model.specs.State.{Seat, Opening, Core}
use Rattle.keep_laws.proofs.Rows.{All}
use Rattle.reply_laws.proofs.Before as before

abbrev pub GroupOf : Core → DueJob → Type 0
GroupOf c (ForGroup lease ticket) = (a : Asked) × (ask_at ticket c.asks ≡ Some a) × (is_due_stage a.stage ≡ true)
GroupOf c _ = Unit {0}

abbrev pub GroupsIf : Core → Option DueJob → Type 0
GroupsIf c None = Unit {0}
GroupsIf c (Some j) = GroupOf c j

abbrev AllGroups : Core → List Placed → Type 0
AllGroups c [] = Unit {0}
AllGroups c (p ∷ ps) = GroupOf c p.job × AllGroups c ps

appended : (c : Core) (ps qs : List Placed) → AllGroups c ps → AllGroups c qs → AllGroups c (ps ++ qs)
appended c [] qs h i = i
appended c (p ∷ ps) qs h i = (h.0, appended c ps qs h.1 i)

if_due_groups : (c : Core) (s : Sending) (f : ℕ → Placed) → ((since : ℕ) → s ≡ sending.Due since → GroupOf c (f since).job) → AllGroups c (if_due s f)
if_due_groups c (sending.Due since) f h = (h since refl, tt)
if_due_groups c (sending.Out call) f h = tt

writes_none : (c : Core) (o : Option Place) → AllGroups c (due_writes o)
writes_none c None = tt
writes_none c (Some p) = (tt, tt)

acquires_none : (c : Core) (xs : Keyed Acquire) → AllGroups c (flat_map due_acquire xs)
acquires_none c [] = tt
acquires_none c (x ∷ xs) = appended c (due_acquire x) (flat_map due_acquire xs) (if_due_groups c x.1.sending _ (λ since e. tt)) (acquires_none c xs)

stage_groups : (c : Core) (a : Asked) (s : Stage) → a.stage ≡ s → ask_at a.ticket c.asks ≡ Some a → AllGroups c (due_stage a s)
stage_groups c a (stage.Calling s) is f = if_due_groups c s _ (λ since e. tt)
stage_groups c a (stage.Grouped (Some s)) is f = if_due_groups c s _ (λ since e. (a, f, ap is_due_stage is ∙ ap (λ (x : Sending). is_due_stage (stage.Grouped (Some x))) e))
stage_groups c a (stage.Grouped None) is f = tt
stage_groups c a stage.Acquiring is f = tt
stage_groups c a stage.Joined is f = tt
stage_groups c a stage.Behind is f = tt
stage_groups c a stage.Writes is f = tt
stage_groups c a (stage.Replied v) is f = tt

asks_groups : (c : Core) (xs : List Asked) → All (before.Found c.asks) xs → AllGroups c (flat_map due_ask xs)
asks_groups c [] h = tt
asks_groups c (a ∷ xs) h = appended c (due_ask a) (flat_map due_ask xs) (stage_groups c a a.stage refl h.0) (asks_groups c xs h.1)

opening_none : (c : Core) (o : Option Opening) → AllGroups c (due_opening o)
opening_none c None = tt
opening_none c (Some o) = by o.due
  where
    by : (s : Option ℕ) → AllGroups c (due_at o s)
    by None = tt
    by (Some since) = (tt, tt)

streams_none : (c : Core) (ss : List Stream) → AllGroups c (flat_map due_stream ss)
streams_none c [] = tt
streams_none c (s ∷ ss) = appended c (due_stream s) (flat_map due_stream ss) (by s.phase) (streams_none c ss)
  where
    by : (p : StreamPhase) → AllGroups c (due_phase s p)
    by (phase.Due since) = (tt, tt)
    by (phase.Closing since) = (tt, tt)
    by phase.Begun = tt

all_groups : (c : Core) → once (ask_tickets c.asks) ≡ true → AllGroups c (due_jobs c)
all_groups c u =
    let writes = due_writes (first_place c.own.waits.writes) in
    let acquires = flat_map due_acquire c.acquires in
    let asks = flat_map due_ask c.asks in
    appended c (writes ++ acquires ++ asks ++ due_opening c.leasing) (flat_map due_stream c.watches.streams)
    (appended c (writes ++ acquires ++ asks) (due_opening c.leasing)
    (appended c (writes ++ acquires) asks (appended c writes acquires (writes_none c (first_place c.own.waits.writes)) (acquires_none c c.acquires)) (asks_groups c c.asks (before.found_all c.asks u)))
    (opening_none c c.leasing))
    (streams_none c c.watches.streams)

abbrev PlacedGroup : Core → Option Placed → Type 0
PlacedGroup c None = Unit {0}
PlacedGroup c (Some p) = GroupOf c p.job

earliest_group : (c : Core) (o : Option Placed) (ps : List Placed) → PlacedGroup c o → AllGroups c ps → PlacedGroup c (earliest o ps)
earliest_group c o [] h i = h
earliest_group c o (p ∷ ps) h i = earliest_group c (Some (earlier o p)) ps (chosen o h) i.1
  where
    either : (b : Bool) (q : Placed) → GroupOf c q.job → GroupOf c (cond b p q).job
    either true q t = i.0
    either false q t = t

    chosen : (x : Option Placed) → PlacedGroup c x → GroupOf c (earlier x p).job
    chosen None t = i.0
    chosen (Some q) t = either (is_earlier p.place q.place) q t

pub first_group : (c : Core) → once (ask_tickets c.asks) ≡ true → GroupsIf c (first_job c)
first_group c u = by_session c.seat
  where
    job_group : (o : Option Placed) → PlacedGroup c o → GroupsIf c (job_of o)
    job_group None t = tt
    job_group (Some p) t = t

    rescind_group : (b : Bool) (o : Option DueJob) → GroupsIf c o → GroupsIf c (rescind_or b o)
    rescind_group true o t = tt
    rescind_group false o t = t

    others : GroupsIf c (rescind_or (is_some (first_rescind c.own.entries)) (job_of (earliest None (due_jobs c))))
    others = rescind_group (is_some (first_rescind c.own.entries)) (job_of (earliest None (due_jobs c))) (job_group (earliest None (due_jobs c)) (earliest_group c None (due_jobs c) tt (all_groups c u)))

    by_call : (s : Session) (o : Option Sending) → GroupsIf c (or_else (session_job_of s o) (rescind_or (is_some (first_rescind c.own.entries)) (job_of (earliest None (due_jobs c)))))
    by_call s None = others
    by_call s (Some (sending.Due since)) = tt
    by_call s (Some (sending.Out call)) = others

    by_session : (s : Option Seat) → GroupsIf c (or_else (session_job s) (rescind_or (is_some (first_rescind c.own.entries)) (job_of (earliest None (due_jobs c)))))
    by_session None = others
    by_session (Some s) = by_call s.session s.call
