-- The clock's work leaves what is due, where nothing has passed its time; and it leaves nothing to do at the same reading.
use Rattle.std.proofs.Common.{◌≡◌, ◌⊎◌, inl, inr, ℕ, Bool, true, false, not, cond, ◌&&◌, ◌||◌, List, [], ◌∷◌, ◌++◌, map, Option, None, Some, is_some, refl, sym, ◌∙◌, ap, subst}
use Rattle.std.specs.List.{list_any, list_all, flat_map}
use Rattle.etcd_types.proofs.Bools.{and_first, and_second, or_true, not_true}
use Rattle.proxy_model.specs.Keyed.{Keyed, at}
use Rattle.wait_model.specs.Edits.{without}
use Rattle.wait_model.specs.DueOrder.{due_calls, first_place, first_rescind}
use Rattle.wait_model.specs.Endings.{forgotten}
use Rattle.wait_model.specs.Passes.{proceeded}
use Rattle.wait_model.specs.State.{Ownership}
use Rattle.wait_model.specs.declared.due.Place.{Place}
use Rattle.wait_model.specs.declared.write.Write.{Write}
use Rattle.read_model.specs.declared.acquire.Acquire.{Acquire}
use Rattle.read_model.specs.declared.asked.Asked.{Asked}
use Rattle.read_model.specs.declared.asked.Stage.TheVariants as stage
use Rattle.read_model.specs.declared.asked.Verdict.TheVariants as verdict
use Rattle.read_model.specs.Acquires.{acquires_at}
use Rattle.read_model.specs.PlainRead.{in_stage, called, decided_ground}
use Rattle.read_model.specs.Release.{ask_stands, released_ground, released_ask, released_from}
use Rattle.read_model.specs.SessionEnd.{is_due_acquire, dropped}
use Rattle.read_model.specs.State.{Reads, Ground, Moment, ground_of}
use Rattle.read_model.specs.TakingOff.{is_writes, forgotten_all, falls}
use Rattle.watch_model.specs.State.{Stream}
use Rattle.core_model.specs.ClockWork.{times_out, timed_out_ask, requests_timed_out, begun, clock_work}
use Rattle.core_model.specs.DueJobs.{DueJob, Placed, due_writes, due_acquire, due_ask, due_opening, due_stream, due_jobs, earlier, earliest, job_of, session_job, rescind_or, or_else, has_job}
use Rattle.core_model.specs.Fits.{goes_on}
use Rattle.core_model.specs.Kinds.{has_some}
use Rattle.core_model.specs.Lookups.{moment, reads_of}
use Rattle.core_model.specs.Sessions.{without_session, deadline_passed}
use Rattle.core_model.specs.State.{Seat, Opening, Core}
use Rattle.generated_laws.specs.OnTime.{is_in_time, IsOnTime}
use Rattle.generated_laws.proofs.Passing.{some_first, some_second, some_either, passed_rescinds, passed_due, place_some, some_place}
use Rattle.core_laws.proofs.Steps.Comes.{by_test}

-- ---- none ends

forgotten_none : (p : Asked → Bool) (xs : List Asked) (own : Ownership) → list_all (λ a. not (p a)) xs ≡ true → forgotten_all p xs own ≡ own
forgotten_none p [] own h = refl
forgotten_none p (a ∷ rest) own h =
    ap (λ b. forgotten_all p rest (cond (b && is_writes a.stage) (forgotten a.ticket own) own)) (not_true (p a) (and_first (not (p a)) (list_all (λ b. not (p b)) rest) h))
    ∙ forgotten_none p rest own (and_second (not (p a)) (list_all (λ b. not (p b)) rest) h)

timed_none : (now : ℕ) (xs : List Asked) → list_all (is_in_time now) xs ≡ true → map (timed_out_ask now) xs ≡ xs
timed_none now [] h = refl
timed_none now (a ∷ rest) h =
    ap (λ b. cond b (in_stage (stage.Replied verdict.TimedOut) a) a ∷ map (timed_out_ask now) rest) (not_true (times_out now a) (and_first (is_in_time now a) (list_all (is_in_time now) rest) h))
    ∙ ap (λ (ys : List Asked). a ∷ ys) (timed_none now rest (and_second (is_in_time now a) (list_all (is_in_time now) rest) h))

any_none : (p : Asked → Bool) (k : List ℕ) (xs : List Asked) → list_all (λ a. not (p a)) xs ≡ true → list_any (λ a. p a && acquires_at k a) xs ≡ false
any_none p k [] h = refl
any_none p k (a ∷ rest) h =
    ap (λ b. (b && acquires_at k a) || list_any (λ x. p x && acquires_at k x) rest) (not_true (p a) (and_first (not (p a)) (list_all (λ b. not (p b)) rest) h))
    ∙ any_none p k rest (and_second (not (p a)) (list_all (λ b. not (p b)) rest) h)

falls_none : (p : Asked → Bool) (r : Reads) (k : List ℕ) → list_all (λ a. not (p a)) r.asks ≡ true → falls p r k ≡ false
falls_none p r k h = ap (λ b. b && is_due_acquire (at r.acquires k)) (any_none p k r.asks h)

without_none : {A : Type 0} (q : List ℕ → Bool) (es : Keyed A) → ((k : List ℕ) → q k ≡ false) → without q es ≡ es
without_none q [] n = refl
without_none q (e ∷ es) n = ap (λ b. cond (not b) (e ∷ without q es) (without q es)) (n e.0) ∙ ap (λ fs. e ∷ fs) (without_none q es n)

-- ---- what stands on them is released

ground_kept : (m : Moment) (g : Ground) (a : Asked) → released_ground false m g a ≡ g
ground_kept m g a = ap (λ b. cond b g (decided_ground m g a)) (or_true (ask_stands g a))

pub released_kept : (m : Moment) (g : Ground) (xs : List Asked) → (released_from false m g xs).ground ≡ g
unfolding released_from
released_kept m g [] = refl
released_kept m g (a ∷ rest) = released_kept m (released_ground false m g a) rest ∙ ground_kept m g a

released_due : (m : Moment) (g : Ground) (xs : List Asked) → has_some (flat_map due_ask xs) ≡ true → has_some (flat_map due_ask (released_from false m g xs).asks) ≡ true
unfolding released_from
released_due m g [] h = h
released_due m g (a ∷ rest) h =
    let r = released_from false m (released_ground false m g a) rest in
    by r.asks (released_due m (released_ground false m g a) rest) (some_either (due_ask a) (flat_map due_ask rest) h)
  where
    b : Asked
    b = released_ask false m g a

    by : (ys : List Asked) → (has_some (flat_map due_ask rest) ≡ true → has_some (flat_map due_ask ys) ≡ true) → (has_some (due_ask a) ≡ true) ⊎ (has_some (flat_map due_ask rest) ≡ true) → has_some (due_ask b ++ flat_map due_ask ys) ≡ true
    by ys more (inl x) =
        some_first (due_ask b) (flat_map due_ask ys) (by_test (λ (y : Asked). has_some (due_ask y) ≡ true) (ask_stands g a) a (in_stage (called g.own.waits.step) a) (λ t. x) (λ t. refl))
    by ys more (inr x) = some_second (due_ask b) (flat_map due_ask ys) (more x)

-- ---- what is due stays due

pub record StaysDue (c d : Core) : Type 0 where
  pub seat : d.seat ≡ c.seat
  pub rescinds : is_some (first_rescind c.own.entries) ≡ true → is_some (first_rescind d.own.entries) ≡ true
  pub writes : has_some (due_calls c.own.waits.writes) ≡ true → has_some (due_calls d.own.waits.writes) ≡ true
  pub acquires : d.acquires ≡ c.acquires
  pub asks : has_some (flat_map due_ask c.asks) ≡ true → has_some (flat_map due_ask d.asks) ≡ true
  pub leasing : d.leasing ≡ c.leasing
  pub streams : d.watches.streams ≡ c.watches.streams

times_stay : (now : ℕ) (c : Core) → list_all (is_in_time now) c.asks ≡ true → list_all goes_on c.own.waits.writes ≡ true
    → let d = requests_timed_out now c in
    (d.own.entries ≡ c.own.entries) × (d.own.waits.writes ≡ c.own.waits.writes) × (d.acquires ≡ c.acquires) × (has_some (flat_map due_ask c.asks) ≡ true → has_some (flat_map due_ask d.asks) ≡ true)
times_stay now c t g = (
  ap (λ (h : Ground). h.own.entries) kept ∙ ap (λ (o : Ownership). o.entries) (forgotten_none (times_out now) c.asks c.own t),
  ap (λ (h : Ground). h.own.waits.writes) kept ∙ ap (λ (o : Ownership). o.waits.writes) (forgotten_none (times_out now) c.asks c.own t),
  ap (λ (h : Ground). h.acquires) kept ∙ without_none (falls (times_out now) (reads_of c)) c.acquires (λ k. falls_none (times_out now) (reads_of c) k t),
  λ h. released_due (moment c now) ground (map (timed_out_ask now) c.asks) (subst (λ (xs : List Asked). has_some (flat_map due_ask xs) ≡ true) (sym (timed_none now c.asks t)) h),
)
  where
    ground : Ground
    ground = dropped (falls (times_out now) (reads_of c)) (record (ground_of (reads_of c)) { own = forgotten_all (times_out now) c.asks c.own })

    kept : (released_from false (moment c now) ground (map (timed_out_ask now) c.asks)).ground ≡ ground
    kept = released_kept (moment c now) ground (map (timed_out_ask now) c.asks)

pub clock_stays : (now : ℕ) (c : Core) → IsOnTime now c → StaysDue c (clock_work now c)
unfolding clock_work
clock_stays now c h =
    subst (λ (d : Core). StaysDue c (record (requests_timed_out now d) { own = proceed (requests_timed_out now d) })) (sym on_time)
    (let t = times_stay now (begun c) h.asks h.writes in
    let d = requests_timed_out now (begun c) in
    record {
      seat = refl;
      rescinds = λ x. passed_rescinds d.own.waits.step [] d.own.entries d.own.waits.spoiled d.own.waits.writes (subst (λ es. is_some (first_rescind es) ≡ true) (sym t.0) x);
      writes = λ x. passed_due d.own.waits.step [] d.own.entries d.own.waits.spoiled d.own.waits.writes (subst (λ (ws : List Write). list_all goes_on ws ≡ true) (sym t.1) h.writes) (subst (λ (ws : List Write). has_some (due_calls ws) ≡ true) (sym t.1) x);
      acquires = t.2;
      asks = t.3;
      leasing = refl;
      streams = refl;
    })
  where
    proceed : Core → Ownership
    proceed d = proceeded d.own

    on_time : deadline_passed now (begun c) ≡ begun c
    on_time = ap (λ b. cond b (without_session now (begun c)) (begun c)) h.session

-- ---- whether anything is due

job_either : (s : Option DueJob) (b : Bool) (o : Option DueJob) → is_some (or_else s (rescind_or b o)) ≡ true → (is_some s ≡ true) ⊎ ((b ≡ true) ⊎ (is_some o ≡ true))
job_either None true o h = inr (inl refl)
job_either None false o h = inr (inr h)
job_either (Some j) b o h = inl refl

by_session : (s : Option DueJob) (b : Bool) (o : Option DueJob) → is_some s ≡ true → is_some (or_else s (rescind_or b o)) ≡ true
by_session None b o h = absurd (cc)
by_session (Some j) b o h = refl

by_rescind : (s : Option DueJob) (b : Bool) (o : Option DueJob) → b ≡ true → is_some (or_else s (rescind_or b o)) ≡ true
by_rescind None true o h = refl
by_rescind None false o h = absurd (cc)
by_rescind (Some j) b o h = refl

by_due : (s : Option DueJob) (b : Bool) (o : Option DueJob) → is_some o ≡ true → is_some (or_else s (rescind_or b o)) ≡ true
by_due None true o h = refl
by_due None false o h = h
by_due (Some j) b o h = refl

some_earliest : (o : Option Placed) (ps : List Placed) → is_some o ≡ true → is_some (job_of (earliest o ps)) ≡ true
some_earliest None [] h = h
some_earliest (Some p) [] h = refl
some_earliest o (p ∷ ps) h = some_earliest (Some (earlier o p)) ps refl

some_job : (ps : List Placed) → has_some ps ≡ true → is_some (job_of (earliest None ps)) ≡ true
some_job [] h = h
some_job (p ∷ ps) h = some_earliest (Some p) ps refl

job_some : (ps : List Placed) → is_some (job_of (earliest None ps)) ≡ true → has_some ps ≡ true
job_some [] h = h
job_some (p ∷ ps) h = refl

writes_some : (o : Option Place) → is_some o ≡ true → has_some (due_writes o) ≡ true
writes_some None h = h
writes_some (Some p) h = refl

some_writes : (o : Option Place) → has_some (due_writes o) ≡ true → is_some o ≡ true
some_writes None h = h
some_writes (Some p) h = refl

due_stays : (c d : Core) → StaysDue c d → has_some (due_jobs c) ≡ true → has_some (due_jobs d) ≡ true
due_stays c d k h = by_all (some_either (((writes c ++ acquires c) ++ asks c) ++ opening c) (streams c) h)
  where
    writes : Core → List Placed
    writes x = due_writes (first_place x.own.waits.writes)

    acquires : Core → List Placed
    acquires x = flat_map due_acquire x.acquires

    asks : Core → List Placed
    asks x = flat_map due_ask x.asks

    opening : Core → List Placed
    opening x = due_opening x.leasing

    streams : Core → List Placed
    streams x = flat_map due_stream x.watches.streams

    by_writes : (has_some (writes c) ≡ true) ⊎ (has_some (acquires c) ≡ true) → has_some (writes d ++ acquires d) ≡ true
    by_writes (inl x) = some_first (writes d) (acquires d) (writes_some (first_place d.own.waits.writes) (place_some d.own.waits.writes (k.writes (some_place c.own.waits.writes (some_writes (first_place c.own.waits.writes) x)))))
    by_writes (inr x) = some_second (writes d) (acquires d) (subst (λ (ys : Keyed Acquire). has_some (flat_map due_acquire ys) ≡ true) (sym k.acquires) x)

    by_asks : (has_some (writes c ++ acquires c) ≡ true) ⊎ (has_some (asks c) ≡ true) → has_some ((writes d ++ acquires d) ++ asks d) ≡ true
    by_asks (inl x) = some_first (writes d ++ acquires d) (asks d) (by_writes (some_either (writes c) (acquires c) x))
    by_asks (inr x) = some_second (writes d ++ acquires d) (asks d) (k.asks x)

    by_opening : (has_some ((writes c ++ acquires c) ++ asks c) ≡ true) ⊎ (has_some (opening c) ≡ true) → has_some (((writes d ++ acquires d) ++ asks d) ++ opening d) ≡ true
    by_opening (inl x) = some_first ((writes d ++ acquires d) ++ asks d) (opening d) (by_asks (some_either (writes c ++ acquires c) (asks c) x))
    by_opening (inr x) = some_second ((writes d ++ acquires d) ++ asks d) (opening d) (subst (λ (o : Option Opening). has_some (due_opening o) ≡ true) (sym k.leasing) x)

    by_all : (has_some (((writes c ++ acquires c) ++ asks c) ++ opening c) ≡ true) ⊎ (has_some (streams c) ≡ true) → has_some ((((writes d ++ acquires d) ++ asks d) ++ opening d) ++ streams d) ≡ true
    by_all (inl x) = some_first (((writes d ++ acquires d) ++ asks d) ++ opening d) (streams d) (by_opening (some_either ((writes c ++ acquires c) ++ asks c) (opening c) x))
    by_all (inr x) = some_second (((writes d ++ acquires d) ++ asks d) ++ opening d) (streams d) (subst (λ (ss : List Stream). has_some (flat_map due_stream ss) ≡ true) (sym k.streams) x)

pub job_stays : (c d : Core) → StaysDue c d → has_job c ≡ true → has_job d ≡ true
job_stays c d k h = by (job_either (session_job c.seat) (is_some (first_rescind c.own.entries)) (job_of (earliest None (due_jobs c))) h)
  where
    s : Option DueJob
    s = session_job d.seat

    b : Bool
    b = is_some (first_rescind d.own.entries)

    o : Option DueJob
    o = job_of (earliest None (due_jobs d))

    by : (is_some (session_job c.seat) ≡ true) ⊎ ((is_some (first_rescind c.own.entries) ≡ true) ⊎ (is_some (job_of (earliest None (due_jobs c))) ≡ true)) → is_some (or_else s (rescind_or b o)) ≡ true
    by (inl x) = by_session s b o (subst (λ (q : Option Seat). is_some (session_job q) ≡ true) (sym k.seat) x)
    by (inr (inl x)) = by_rescind s b o (k.rescinds x)
    by (inr (inr x)) = by_due s b o (some_job (due_jobs d) (due_stays c d k (job_some (due_jobs c) x)))
