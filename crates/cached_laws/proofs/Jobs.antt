-- The first due job is of what stands: the session's call, the acquire at its key, which is due, or a request that waits for a call. So the
-- call that names a read which waits for its acquire is that acquire.
use Rattle.std.proofs.Common.{◌≡◌, ℕ, Bool, true, false, cond, not, ◌&&◌, ◌==◌, sym, List, [], ◌∷◌, ◌++◌, Option, None, Some, is_some, refl, ◌∙◌, ap}
use Rattle.std.specs.declared.cmp.Ordering.{Ordering}
use Rattle.std.specs.declared.cmp.Ordering.TheVariants.{Less, Equal, Greater}
use Rattle.std.specs.Cmp.Lexicographic.{slice_cmp}
use Rattle.std.specs.FinMap.Entries.{below_all}
use Rattle.std.specs.List.{flat_map}
use Rattle.std.specs.Ordering.{nat_cmp, is_lt, is_eq, ordering_reverse}
use Rattle.std.proofs.lemmas.Cmp.{nat_list_cmp_total}
use Rattle.etcd_types.specs.Keys.{same}
use Rattle.etcd_types.proofs.Bools.{and_first, and_second}
use Rattle.etcd_types.proofs.KeyOrder.{same-itself}
use Rattle.proxy_model.specs.Keyed.{Keyed, at, is_in_order}
use Rattle.proxy_model.specs.Session.{Session}
use Rattle.wait_model.specs.declared.due.Place.{Place}
use Rattle.wait_model.specs.declared.sending.Sending.{Sending}
use Rattle.wait_model.specs.declared.sending.Sending.TheVariants as sending
use Rattle.wait_model.specs.DueOrder.{is_earlier, first_place, first_rescind}
use Rattle.read_model.specs.declared.acquire.Acquire.{Acquire}
use Rattle.read_model.specs.declared.asked.Asked.{Asked}
use Rattle.read_model.specs.declared.asked.Stage.{Stage}
use Rattle.read_model.specs.declared.asked.Stage.TheVariants as stage
use Rattle.read_model.specs.SessionEnd.{is_due}
use Rattle.watch_model.specs.declared.stream.StreamPhase.{StreamPhase}
use Rattle.watch_model.specs.declared.stream.StreamPhase.TheVariants as phase
use Rattle.watch_model.specs.Lookups.{stream_at}
use Rattle.watch_model.specs.State.{Stream}
use Rattle.core_laws.proofs.Steps.Lists.{number_itself}
use Rattle.core_model.specs.State.{Seat, Opening, Core}
use Rattle.std.specs.List.{list_all}
use Rattle.core_model.specs.DueJobs.{DueJob, ForSession, ForWrites, ForAcquire, ForAsk, ForGroup, ToOpen, ForStream, Placed, due_writes, if_due, due_acquire, due_stage, due_ask, due_at, due_opening, due_phase, due_stream, due_jobs, earlier, earliest, job_of, session_job_of, session_job, rescind_or, or_else, first_job}

not_both : {A : Type 0} (b : Bool) → b ≡ true → b ≡ false → A
not_both b h i = absurd (let e : true ≡ false = sym h ∙ i in cc)

-- it waits for a call of its own, or of its group
abbrev pub is_calling : Stage → Bool
is_calling (stage.Calling s) = true
is_calling (stage.Grouped s) = true
is_calling _ = false

module _ (ticket : ℕ) where
  -- none of the ticket waits so
  abbrev pub is_uncalled : Asked → Bool
  is_uncalled a = not (is_calling a.stage && a.ticket == ticket)

  abbrev pub Free : Core → Type 0
  Free c = list_all is_uncalled c.asks ≡ true

  abbrev pub Stands : Core → DueJob → Type 0
  Stands c (ForSession s) = (r : Seat) × (c.seat ≡ Some r) × (r.session ≡ s)
  Stands c (ForAcquire k x) = (at c.acquires k ≡ Some x) × (is_due x.sending ≡ true)
  Stands c (ForAsk a) = Free c → (a.ticket == ticket) ≡ false
  Stands c (ForGroup lease t) = Free c → (t == ticket) ≡ false
  Stands c (ToOpen o) = (c.leasing ≡ Some o) × ((since : ℕ) × (o.due ≡ Some since))
  Stands c (ForStream s) = is_some (stream_at s.number c.watches.streams) ≡ true
  Stands c ForWrites = Unit {0}

  abbrev pub StandsIf : Core → Option DueJob → Type 0
  StandsIf c None = Unit {0}
  StandsIf c (Some j) = Stands c j

  abbrev AllStand : Core → List Placed → Type 0
  AllStand c [] = Unit {0}
  AllStand c (p ∷ ps) = Stands c p.job × AllStand c ps

  appended : (c : Core) (ps qs : List Placed) → AllStand c ps → AllStand c qs → AllStand c (ps ++ qs)
  appended c [] qs h i = i
  appended c (p ∷ ps) qs h i = (h.0, appended c ps qs h.1 i)

  -- ---- acquires stand at their keys

  abbrev EachOf : (List ℕ × Acquire → Type 0) → Keyed Acquire → Type 0
  EachOf P [] = Unit {0}
  EachOf P (x ∷ xs) = P x × EachOf P xs

  after_not : (k : List ℕ) (x : List ℕ) → is_lt (slice_cmp nat_cmp k x) ≡ true → same x k ≡ false
  after_not k x h = ap is_eq (nat_list_cmp_total.antisymm x k) ∙ by (slice_cmp nat_cmp k x) h
    where
      by : (o : Ordering) → is_lt o ≡ true → is_eq (ordering_reverse o) ≡ false
      by Less t = refl
      by Equal t = absurd (cc)
      by Greater t = absurd (cc)

  found_behind : (y : List ℕ × Acquire) (all xs : Keyed Acquire) → below_all (slice_cmp nat_cmp) y.0 xs ≡ true → EachOf (λ x. at all x.0 ≡ Some x.1) xs → EachOf (λ x. at (y ∷ all) x.0 ≡ Some x.1) xs
  found_behind y all [] b h = tt
  found_behind y all (x ∷ xs) b h = (
    ap (λ c. cond c (Some y.1) (at all x.0)) (after_not y.0 x.0 (and_first (is_lt (slice_cmp nat_cmp y.0 x.0)) (below_all (slice_cmp nat_cmp) y.0 xs) b)) ∙ h.0,
    found_behind y all xs (and_second (is_lt (slice_cmp nat_cmp y.0 x.0)) (below_all (slice_cmp nat_cmp) y.0 xs) b) h.1,
  )

  found_all : (xs : Keyed Acquire) → is_in_order xs ≡ true → EachOf (λ x. at xs x.0 ≡ Some x.1) xs
  found_all [] h = tt
  found_all (x ∷ xs) h = (
    ap (λ c. cond c (Some x.1) (at xs x.0)) (same-itself x.0),
    found_behind x xs xs (and_first (below_all (slice_cmp nat_cmp) x.0 xs) (is_in_order xs) h) (found_all xs (and_second (below_all (slice_cmp nat_cmp) x.0 xs) (is_in_order xs) h)),
  )

  -- ---- jobs

  if_due_stands : (c : Core) (s : Sending) (f : ℕ → Placed) → ((since : ℕ) → s ≡ sending.Due since → Stands c (f since).job) → AllStand c (if_due s f)
  if_due_stands c (sending.Due since) f h = (h since refl, tt)
  if_due_stands c (sending.Out call) f h = tt

  writes_stand : (c : Core) (o : Option Place) → AllStand c (due_writes o)
  writes_stand c None = tt
  writes_stand c (Some p) = (tt, tt)

  acquires_stand : (c : Core) (xs : Keyed Acquire) → EachOf (λ x. at c.acquires x.0 ≡ Some x.1) xs → AllStand c (flat_map due_acquire xs)
  acquires_stand c [] h = tt
  acquires_stand c (x ∷ xs) h = appended c (due_acquire x) (flat_map due_acquire xs) (if_due_stands c x.1.sending _ (λ since e. (h.0, ap is_due e))) (acquires_stand c xs h.1)

  apart : (a : Asked) → is_calling a.stage ≡ true → is_uncalled a ≡ true → (a.ticket == ticket) ≡ false
  apart a c h = by (a.ticket == ticket) refl
    where
      by : (b : Bool) → (a.ticket == ticket) ≡ b → b ≡ false
      by true e = not_both (is_uncalled a) h (ap (λ (b : Bool). not (b && a.ticket == ticket)) c ∙ ap not e)
      by false e = refl

  stage_stands : (c : Core) (a : Asked) (s : Stage) → a.stage ≡ s → (Free c → is_uncalled a ≡ true) → AllStand c (due_stage a s)
  stage_stands c a (stage.Calling s) is f = if_due_stands c s _ (λ since e g. apart a (ap is_calling is) (f g))
  stage_stands c a (stage.Grouped (Some s)) is f = if_due_stands c s _ (λ since e g. apart a (ap is_calling is) (f g))
  stage_stands c a (stage.Grouped None) is f = tt
  stage_stands c a stage.Acquiring is f = tt
  stage_stands c a stage.Joined is f = tt
  stage_stands c a stage.Behind is f = tt
  stage_stands c a stage.Writes is f = tt
  stage_stands c a (stage.Replied v) is f = tt

  asks_stand : (c : Core) (xs : List Asked) → (Free c → list_all is_uncalled xs ≡ true) → AllStand c (flat_map due_ask xs)
  asks_stand c [] h = tt
  asks_stand c (a ∷ xs) h = appended c (due_ask a) (flat_map due_ask xs) (stage_stands c a a.stage refl (λ g. and_first (is_uncalled a) (list_all is_uncalled xs) (h g))) (asks_stand c xs (λ g. and_second (is_uncalled a) (list_all is_uncalled xs) (h g)))

  opening_stands : (c : Core) (o : Option Opening) → c.leasing ≡ o → AllStand c (due_opening o)
  opening_stands c None e = tt
  opening_stands c (Some o) e = by o.due refl
    where
      by : (s : Option ℕ) → o.due ≡ s → AllStand c (due_at o s)
      by None d = tt
      by (Some since) d = ((e, (since, d)), tt)

  streams_stand : (c : Core) (ss : List Stream) → ((n : ℕ) → is_some (stream_at n ss) ≡ true → is_some (stream_at n c.watches.streams) ≡ true) → AllStand c (flat_map due_stream ss)
  streams_stand c [] f = tt
  streams_stand c (s ∷ ss) f = appended c (due_stream s) (flat_map due_stream ss) (by s.phase) (streams_stand c ss (λ n h. f n (later n h)))
    where
      here : is_some (stream_at s.number c.watches.streams) ≡ true
      here = f s.number (ap (λ (b : Bool). is_some (cond b (Some s) (stream_at s.number ss))) (number_itself s.number))

      later : (n : ℕ) → is_some (stream_at n ss) ≡ true → is_some (stream_at n (s ∷ ss)) ≡ true
      later n h = by_number (s.number == n)
        where
          by_number : (b : Bool) → is_some (cond b (Some s) (stream_at n ss)) ≡ true
          by_number true = refl
          by_number false = h

      by : (p : StreamPhase) → AllStand c (due_phase s p)
      by (phase.Due since) = (here, tt)
      by (phase.Closing since) = (here, tt)
      by phase.Begun = tt

  all_stand : (c : Core) → is_in_order c.acquires ≡ true → AllStand c (due_jobs c)
  all_stand c h =
      let writes = due_writes (first_place c.own.waits.writes) in
      let acquires = flat_map due_acquire c.acquires in
      let asks = flat_map due_ask c.asks in
      appended c (writes ++ acquires ++ asks ++ due_opening c.leasing) (flat_map due_stream c.watches.streams)
      (appended c (writes ++ acquires ++ asks) (due_opening c.leasing)
      (appended c (writes ++ acquires) asks
      (appended c writes acquires (writes_stand c (first_place c.own.waits.writes)) (acquires_stand c c.acquires (found_all c.acquires h)))
      (asks_stand c c.asks (λ g. g)))
      (opening_stands c c.leasing refl))
      (streams_stand c c.watches.streams (λ n h. h))

  -- ---- the first of them

  abbrev PlacedStands : Core → Option Placed → Type 0
  PlacedStands c None = Unit {0}
  PlacedStands c (Some p) = Stands c p.job

  earliest_stands : (c : Core) (o : Option Placed) (ps : List Placed) → PlacedStands c o → AllStand c ps → PlacedStands c (earliest o ps)
  earliest_stands c o [] h i = h
  earliest_stands c o (p ∷ ps) h i = earliest_stands c (Some (earlier o p)) ps (chosen o h) i.1
    where
      either : (b : Bool) (q : Placed) → Stands c q.job → Stands c (cond b p q).job
      either true q t = i.0
      either false q t = t

      chosen : (x : Option Placed) → PlacedStands c x → Stands c (earlier x p).job
      chosen None t = i.0
      chosen (Some q) t = either (is_earlier p.place q.place) q t

  pub first_stands : (c : Core) → is_in_order c.acquires ≡ true → StandsIf c (first_job c)
  first_stands c h = by_session c.seat refl
    where
      job_stands : (o : Option Placed) → PlacedStands c o → StandsIf c (job_of o)
      job_stands None t = tt
      job_stands (Some p) t = t

      rescind_stands : (b : Bool) (o : Option DueJob) → StandsIf c o → StandsIf c (rescind_or b o)
      rescind_stands true o t = tt
      rescind_stands false o t = t

      others : StandsIf c (rescind_or (is_some (first_rescind c.own.entries)) (job_of (earliest None (due_jobs c))))
      others = rescind_stands (is_some (first_rescind c.own.entries)) (job_of (earliest None (due_jobs c))) (job_stands (earliest None (due_jobs c)) (earliest_stands c None (due_jobs c) tt (all_stand c h)))

      by_call : (r : Seat) → c.seat ≡ Some r → (o : Option Sending) → StandsIf c (or_else (session_job_of r.session o) (rescind_or (is_some (first_rescind c.own.entries)) (job_of (earliest None (due_jobs c)))))
      by_call r f None = others
      by_call r f (Some (sending.Due since)) = (r, f, refl)
      by_call r f (Some (sending.Out call)) = others

      by_session : (s : Option Seat) → c.seat ≡ s → StandsIf c (or_else (session_job s) (rescind_or (is_some (first_rescind c.own.entries)) (job_of (earliest None (due_jobs c)))))
      by_session None f = others
      by_session (Some s) f = by_call s f s.call
