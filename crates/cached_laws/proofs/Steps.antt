-- Steps: the clock's work, the event, and the count.
use Rattle.std.proofs.Common.{◌≡◌, ◌≢◌, ℕ, ◌+◌, ◌==◌, Bool, true, false, cond, not, ◌&&◌, ◌||◌, List, [], ◌∷◌, ◌++◌, Option, None, Some, is_some, Result, Ok, Err, refl, sym, ◌∙◌, ap, subst, arith}
use Rattle.std.proofs.lemmas.Bool.Decides.{nat_tests}
use Rattle.std.specs.List.{list_all}
use Rattle.etcd_types.specs.declared.answer.Answer.{Answer}
use Rattle.etcd_types.specs.declared.answer.Answer.TheVariants.{Done, Refused}
use Rattle.etcd_types.specs.declared.answer.Refusal.{Refusal}
use Rattle.etcd_types.specs.declared.operation.RangeAsk.{RangeAsk}
use Rattle.etcd_types.specs.declared.request.Request.{Request}
use Rattle.etcd_types.specs.declared.request.Request.TheVariants as request
use Rattle.etcd_types.specs.declared.watch.WatchItem.{WatchItem}
use Rattle.etcd_types.specs.Keys.{same}
use Rattle.etcd_types.specs.Ranges.{contains}
use Rattle.etcd_types.proofs.Bools.{and_first, and_second, and_both}
use Rattle.etcd_types.proofs.KeyOrder.{same-itself}
use Rattle.proxy_model.specs.declared.session.Standing.{Standing}
use Rattle.proxy_model.specs.Acquire.{acquire}
use Rattle.proxy_model.specs.Keyed.{Keyed, at, with_at}
use Rattle.proxy_model.specs.Prefixes.{leasing_range}
use Rattle.proxy_model.specs.Wrapped.{request_under}
use Rattle.proxy_model.proofs.KeyedLaws.{at-with_at}
use Rattle.wait_model.specs.declared.sending.Sending.TheVariants as sending
use Rattle.wait_model.specs.declared.write.Write.{Write}
use Rattle.wait_model.specs.State.{Ownership}
use Rattle.wait_model.specs.Writes.{sends}
use Rattle.core_laws.specs.Writes.Laws.{AreWritten, OwnersCovered}
use Rattle.core_laws.specs.Writes.Written.{ShowsBytes}
use Rattle.core_laws.proofs.Writes.OwnersShown.{owners_are_covered}
use Rattle.read_model.specs.declared.acquire.Acquire.{Acquire}
use Rattle.read_model.specs.declared.asked.Asked.{Asked}
use Rattle.read_model.specs.declared.asked.Stage.TheVariants as stage
use Rattle.read_model.specs.Acquires.{is_acquiring, acquires_at, read_asked}
use Rattle.std.specs.Prelude.{nat_le, unwrap_or}
use Rattle.etcd_types.specs.Keys.{is_empty}
use Rattle.proxy_model.specs.Snapshot.{is_plain}
use Rattle.read_model.specs.PlainRead.{ask_key, is_written, is_ownable, is_restful, is_free, acquirable, Decision, decision, begun_under, in_stage}
use Rattle.read_model.specs.SessionEnd.{is_due}
use Rattle.read_model.specs.State.{Reads, Moment, ground_of, on}
use Rattle.core_laws.proofs.PlainReads.Waiting.{free_decision}
use Rattle.core_model.specs.declared.event.CoreEvent.{CoreEvent}
use Rattle.core_model.specs.declared.event.CoreEvent.TheVariants as event
use Rattle.core_model.specs.declared.event.Outcome.{Outcome}
use Rattle.core_model.specs.declared.event.StepFault.{StepFault}
use Rattle.core_model.specs.declared.event.StepFault.TheVariants as fault
use Rattle.core_model.specs.declared.out_call.OutCall.{OutCall}
use Rattle.core_model.specs.declared.out_call.OutJob.{OutJob}
use Rattle.core_model.specs.declared.out_call.OutJob.TheVariants as job
use Rattle.core_model.specs.declared.settings.Settings.{Settings}
use Rattle.core_model.specs.Asking.{asked_at, is_leased_read, read_by, read_is_asked, write_is_asked, held_body, if_live, call_is_asked, answered_or_called, leased_ask, refused_or_taken, if_unknown, on_ask}
use Rattle.core_model.specs.ClockWork.{is_replied, begun, clock_work}
use Rattle.core_model.specs.Fits.{CoreOk, Agrees, HaveRanges, job_at}
use Rattle.core_model.specs.Heard.{heard}
use Rattle.core_model.specs.Kinds.{writes_keys}
use Rattle.core_model.specs.Lookups.{leases, moment, reads_of, with_reads, has_ticket, ask_at, is_known, out_at}
use Rattle.core_model.specs.Refusals.{refusal_of}
use Rattle.core_model.specs.Sessions.{without_session, seat_is_over}
use Rattle.core_model.specs.State.{Seat, Opening, Core, first_core}
use Rattle.core_model.specs.Step.{opening_at, happened, is_worn, stepped}
use Rattle.core_model.specs.Stepped.{Stepped, faults, counted, counted_by}
use Rattle.watch_model.specs.Lookups.{watch_at}
use Rattle.core_laws.specs.Steps.Kept.{HeardBytes, IsHeard, Timed, after, ran, AllHeard}
use Rattle.core_laws.specs.Steps.Laws.{IsLeasedRead}
use Rattle.core_laws.proofs.Steps.Lists.{same_number, number_itself, all_pushed}
use Rattle.core_laws.proofs.Steps.Middle.{clock_whole}
use Rattle.core_laws.proofs.Steps.Outcomes.{worn_does_nothing}
use Rattle.core_laws.proofs.Steps.Stepping.{steps_keep}
use Rattle.core_laws.proofs.Steps.Staying.{steps_stay}
use Rattle.core_laws.proofs.Steps.Whole.{of_ok}
use Rattle.core_fits.specs.Fits.{is_reading}
use Rattle.core_fits.proofs.Prefix.{clock_prefix}
use Rattle.owner_fits.specs.Acquires.{IsOutAs, standing_number, number_by}
use Rattle.owner_fits.specs.Laws.{OwnersFit}
use Rattle.owner_fits.proofs.Ending.{clock_fits}
use Rattle.owner_fits.proofs.Hearing.{still_heard}
use Rattle.owner_fits.proofs.Runs.{steps_fit}
use Rattle.cached_laws.specs.Awaited.{is_due_for, holds, Waits, waits, over, seat_is, IsAwaited, Calls, Leaves}
use Rattle.cached_laws.specs.Laws.{StartsUntouched, NewKeysStayNew, IsNewRead, NewReadsWait, AwaitedReadsWait, AwaitedReadsAcquire, AllLeave, MustAcquire}
use Rattle.cached_laws.specs.Untouched.{is_apart, IsUntouched, Misses, SparesIn, Passes}
use Rattle.cached_laws.proofs.Apart.{IsUntouched as ReadsUntouched}
use Rattle.cached_laws.proofs.Awaiting.{OutStands}
use Rattle.cached_laws.proofs.Awaiting as awaiting
use Rattle.cached_laws.proofs.Jobs.{StandsIf, first_stands}
use Rattle.cached_laws.proofs.Named.{DueUnder, names_acquire}
use Rattle.cached_laws.proofs.Untouched as untouched
use Rattle.cached_laws.proofs.Waiting.{other_holds}

-- ---- one that isn't worn does the event behind its clock's work

pub stepped_is : (c : Core) (e : CoreEvent) (now : ℕ) → is_worn c ≡ false → stepped c e now ≡ counted (happened now e (clock_work now c))
unfolding stepped
stepped_is c e now w = ap (λ (b : Bool). cond b (faults c fault.Worn) (counted (happened now e (clock_work now c)))) w

counted_outcome : (s : Stepped) → (counted s).outcome ≡ s.outcome
counted_outcome s = by s.outcome
  where
    by : (r : Result Outcome StepFault) → (counted_by s.core r).outcome ≡ r
    by (Ok o) = refl
    by (Err f) = refl

-- ---- new keys

pub to_reads : (k : List ℕ) (c : Core) → IsUntouched k c → ReadsUntouched k (reads_of c)
to_reads k c h = record { own = record { bare = (h.entry, h.unwritten); quiet = h.quiet }; acquire = h.acquire; asks = h.unread }

pub of_reads : (k : List ℕ) (c : Core) → ReadsUntouched k (reads_of c) → IsUntouched k c
of_reads k c h = record { entry = h.own.bare.0; acquire = h.acquire; quiet = h.own.quiet; unwritten = h.own.bare.1; unread = h.asks }

counted_untouched : (k : List ℕ) (s : Stepped) → ReadsUntouched k (reads_of s.core) → IsUntouched k (counted s).core
counted_untouched k s h = by s.outcome
  where
    by : (r : Result Outcome StepFault) → IsUntouched k (counted_by s.core r).core
    by (Ok o) = record { entry = h.own.bare.0; acquire = h.acquire; quiet = h.own.quiet; unwritten = h.own.bare.1; unread = h.asks }
    by (Err f) = of_reads k s.core h

written : (ws : List Write) → HaveRanges ws → AreWritten ws
written [] h = tt
written (w ∷ ws) h = (h.0, written ws h.1)

covered : (own : Ownership) (call : ℕ) (a : Answer) → AreWritten own.waits.writes → ShowsBytes a → OwnersCovered (sends call) a own
covered own call (Done reply) h b = owners_are_covered own (sends call) reply h b
covered own call (Refused r) h b = tt

pub clock_leasing : (now : ℕ) (c : Core) → (clock_work now c).leasing ≡ c.leasing
unfolding clock_work
clock_leasing now c = by (seat_is_over c.seat now)
  where
    by : (b : Bool) → (cond b (without_session now (begun c)) (begun c)).leasing ≡ c.leasing
    by true = refl
    by false = refl

pub clock_settings : (now : ℕ) (c : Core) → (clock_work now c).settings ≡ c.settings
unfolding clock_work
clock_settings now c = by (seat_is_over c.seat now)
  where
    by : (b : Bool) → (cond b (without_session now (begun c)) (begun c)).settings ≡ c.settings
    by true = refl
    by false = refl

still_passes : (k : List ℕ) (now : ℕ) (e : CoreEvent) (c : Core) → Passes k c e → Passes k (clock_work now c) e
still_passes k now (event.Ask ticket q word) c p = subst (λ (x : List ℕ). Misses k x q) (sym (clock_prefix now c)) p
still_passes k now (event.Item number x) c p = λ o h es f g r.
    subst (λ (y : List ℕ). Rattle.cached_laws.specs.Untouched.AllSpare k y es) (sym (clock_prefix now c))
    (p o h es (sym (ap (opening_at number) (clock_leasing now c)) ∙ f) (sym (ap (λ (s : Settings). Rattle.proxy_model.specs.Unwrapped.item_without s.namespace x) (clock_settings now c)) ∙ g) r)
still_passes k now (event.Answer call a) c p = tt
still_passes k now (event.Lost call) c p = tt
still_passes k now (event.Tick word) c p = tt
still_passes k now (event.Cut stream) c p = tt
still_passes k now (event.Take ticket) c p = tt
still_passes k now (event.Leave ticket) c p = tt
still_passes k now event.Work c p = tt

happened_untouched : (k : List ℕ) (now : ℕ) (e : CoreEvent) (d : Core) → IsHeard d e → Agrees d → Passes k d e → ReadsUntouched k (reads_of d) → ReadsUntouched k (reads_of (happened now e d).core)
happened_untouched k now (event.Ask ticket q word) d b g p h = untouched.asked_so k now ticket q word d p h
happened_untouched k now (event.Answer call a) d b g p h = untouched.answered_so k now call a d (λ x f. covered d.own call x (written d.own.waits.writes g.writes.ranges) (subst HeardBytes f b)) h
happened_untouched k now (event.Lost call) d b g p h = untouched.lost_so k now call d h
happened_untouched k now (event.Tick word) d b g p h = untouched.tick_so k now word d h
happened_untouched k now (event.Item number x) d b g p h = untouched.item_so k now number x d p h
happened_untouched k now (event.Cut number) d b g p h = untouched.cut_so k number d h
happened_untouched k now (event.Take ticket) d b g p h = untouched.take_so k ticket d h
happened_untouched k now (event.Leave ticket) d b g p h = untouched.leave_so k now ticket d h
happened_untouched k now event.Work d b g p h = untouched.work_so k now d h

pub starts_untouched : StartsUntouched
starts_untouched k settings = record { entry = refl; acquire = refl; quiet = refl; unwritten = refl; unread = refl }

pub new_keys_stay_new : NewKeysStayNew
new_keys_stay_new k c e now b ok p h = by (is_worn c) refl
  where
    by : (w : Bool) → is_worn c ≡ w → IsUntouched k (stepped c e now).core
    by true w = subst (λ (s : Stepped). IsUntouched k s.core) (sym (worn_does_nothing c e now w)) h
    by false w =
        subst (λ (s : Stepped). IsUntouched k s.core) (sym (stepped_is c e now w))
        (counted_untouched k (happened now e (clock_work now c)) (happened_untouched k now e (clock_work now c) (still_heard now e c b) (clock_whole 0 now c (of_ok c ok).mid).mid.agrees (still_passes k now e c p) (untouched.clock_so k now c (to_reads k c h))))

-- ---- reads that wait for their acquire

counted_awaited : (ticket : ℕ) (k : List ℕ) (since n : ℕ) (s : Stepped) → IsAwaited ticket k since n s.core → IsAwaited ticket k since n (counted s).core
counted_awaited ticket k since n s h = by s.outcome
  where
    by : (r : Result Outcome StepFault) → IsAwaited ticket k since n (counted_by s.core r).core
    by (Ok o) = h
    by (Err f) = h

-- what fits behind the clock's work
pub owners_behind : (now : ℕ) (c : Core) → CoreOk c → OwnersFit c → OwnersFit (clock_work now c)
owners_behind now c ok o =
    let fit = clock_fits false now c (of_ok c ok).mid (record { acquires = o.acquires; entries = o.entries; names = λ e. absurd (cc) }) in
    record { acquires = fit.acquires; entries = fit.entries }

its_job : (call : ℕ) (xs : List OutCall) (o : OutCall) (j : OutJob) → out_at call xs ≡ Some o → o.job ≡ j → job_at call xs ≡ Some j
its_job call [] o j e f = absurd (cc)
its_job call (x ∷ xs) o j e f = by (x.call == call) e (λ g. its_job call xs o j g f)
  where
    same_call : (x y : OutCall) → Some x ≡ Some y → x ≡ y
    same_call x y e = cc

    by : (b : Bool) → cond b (Some x) (out_at call xs) ≡ Some o → (out_at call xs ≡ Some o → job_at call xs ≡ Some j) → cond b (Some x.job) (job_at call xs) ≡ Some j
    by true g r = ap (λ (y : OutCall). Some y.job) (same_call x o g) ∙ ap (λ (i : OutJob). Some i) f
    by false g r = r g

out_stands : (d : Core) → OwnersFit d → OutStands d
out_stands d h call o j e f = let x = h.acquires.awaits call j (its_job call d.out o (job.Acquire j) e f) in (x.acquire, x.stands, ap is_due x.out)

due_under : (n : ℕ) (d : Core) → OwnersFit d → seat_is n d.seat ≡ true → DueUnder n d.acquires
due_under n d h s i x e u = by d.seat s (h.acquires.under i x e u)
  where
    one : (a b : ℕ) → ◌≡◌ {A = Option ℕ} (Some a) (Some b) → a ≡ b
    one a b e = cc

    by_standing : (m : ℕ) (t : Option Standing) → (m == n) ≡ true → number_by m t ≡ Some x.session → x.session ≡ n
    by_standing m None g f = absurd (cc)
    by_standing m (Some y) g f = sym (one m x.session f) ∙ same_number m n g

    by : (t : Option Seat) → seat_is n t ≡ true → standing_number t ≡ Some x.session → x.session ≡ n
    by None g f = absurd (cc)
    by (Some y) g f = by_standing y.session.number y.session.standing g f

happened_awaited : (ticket : ℕ) (k : List ℕ) (since n now : ℕ) (e : CoreEvent) (d : Core) → OwnersFit d → Leaves ticket n e (happened now e d).outcome → IsAwaited ticket k since n d → IsAwaited ticket k since n (happened now e d).core
happened_awaited ticket k since n now (event.Ask other q word) d o l h = awaiting.asked_so ticket k since n now other q word d l h
happened_awaited ticket k since n now (event.Answer call a) d o l h = awaiting.answered_so ticket k since n now call a d (out_stands d o) h
happened_awaited ticket k since n now (event.Lost call) d o l h = awaiting.lost_so ticket k since n now call d (out_stands d o) h
happened_awaited ticket k since n now (event.Tick word) d o l h = awaiting.tick_so ticket k since n now word d l h
happened_awaited ticket k since n now (event.Item number x) d o l h = awaiting.item_so ticket k since n now number x d h
happened_awaited ticket k since n now (event.Cut number) d o l h = awaiting.cut_so ticket k since n number d h
happened_awaited ticket k since n now (event.Take other) d o l h = awaiting.take_so ticket k since n other d h
happened_awaited ticket k since n now (event.Leave other) d o l h = awaiting.leave_so ticket k since n now other d h
happened_awaited ticket k since n now event.Work d o l h = awaiting.work_so ticket k since n now d (first_stands ticket d o.acquires.rising) l h

pub awaited_reads_wait : AwaitedReadsWait
awaited_reads_wait c ticket k since n e now ok o l h = by (is_worn c) refl
  where
    d : Core
    d = clock_work now c

    by : (w : Bool) → is_worn c ≡ w → IsAwaited ticket k since n (stepped c e now).core
    by true w = subst (λ (s : Stepped). IsAwaited ticket k since n s.core) (sym (worn_does_nothing c e now w)) h
    by false w =
        let is : (stepped c e now).outcome ≡ (happened now e d).outcome = ap (λ (s : Stepped). s.outcome) (stepped_is c e now w) ∙ counted_outcome (happened now e d) in
        subst (λ (s : Stepped). IsAwaited ticket k since n s.core) (sym (stepped_is c e now w))
        (counted_awaited ticket k since n (happened now e d)
        (happened_awaited ticket k since n now e d (owners_behind now c ok o) (subst (Leaves ticket n e) is l) (awaiting.clock_so ticket k since n now c h)))

pub awaited_reads_acquire : AwaitedReadsAcquire
awaited_reads_acquire c ticket k since n now q z ok o h s called = by (is_worn c) refl
  where
    d : Core
    d = clock_work now c

    fit : OwnersFit d
    fit = owners_behind now c ok o

    by : (w : Bool) → is_worn c ≡ w → q ≡ request_under c.settings.namespace (request.Txn (acquire c.own.waits.prefix k n))
    by true w = absurd (let e = sym (ap (λ (s : Stepped). s.outcome) (worn_does_nothing c event.Work now w)) ∙ called.2 in cc)
    by false w =
        let e = sym (counted_outcome (happened now event.Work d)) ∙ sym (ap (λ (s : Stepped). s.outcome) (stepped_is c event.Work now w)) ∙ called.2 in
        names_acquire ticket k since now n d called.0 called.1 q z (clock_whole 0 now c (of_ok c ok).mid).mid.agrees (first_stands ticket d fit.acquires.rising) (due_under n d fit s) (awaiting.clock_so ticket k since n now c h s) e
        ∙ ap (λ (t : Settings). request_under t.namespace (request.Txn (acquire d.own.waits.prefix k n))) (clock_settings now c)
        ∙ ap (λ (p : List ℕ). request_under c.settings.namespace (request.Txn (acquire p k n))) (clock_prefix now c)

-- ---- a read of a new key

reaches : (d : Core) (now ticket word : ℕ) (ask : RangeAsk) → IsLeasedRead d ticket ask → on_ask now ticket (request.Range ask) word d ≡ read_is_asked (moment d now) (asked_at now ticket (request.Range ask) word) d
unfolding on_ask
reaches d now ticket word ask h =
    let q = request.Range ask in
    let m = moment d now in
    let a = asked_at now ticket q word in
    let other = cond (writes_keys q) (write_is_asked a d) (answered_or_called (if_live m.session (held_body d.own.entries q)) a d) in
    ap (λ (b : Bool). if_unknown b ticket d (refused_or_taken (refusal_of d.own.waits.prefix q) m a d)) h.unknown
    ∙ ap (λ (r : Option Refusal). refused_or_taken r m a d) h.served
    ∙ ap (λ (b : Bool). cond b (leased_ask m a d) (call_is_asked a d)) h.leasing
    ∙ ap (λ (b : Bool). cond b (read_is_asked m a d) other) h.plain

decided_by : (c : Core) (m : Moment) (a : Asked) → List ℕ → Decision → Stepped
decided_by c m a k d =
    read_by d.stage c (with_reads c (on (begun_under a.ticket k d.under (ground_of (reads_of c))) (c.asks ++ in_stage d.stage a ∷ [])))

module _ (d : Core) (now ticket word : ℕ) (ask : RangeAsk) (n : ℕ) (h : IsNewRead d now ticket ask n) where
  abbrev key : List ℕ
  key = ask.range.key

  abbrev asked : Asked
  asked = asked_at now ticket (request.Range ask) word

  -- the key may be acquired under the session

  off : (b : Bool) → b ≡ false → not b ≡ true
  off b e = ap not e

  outside : (b c : Bool) → b && not c ≡ true → c ≡ false
  outside true true e = absurd (cc)
  outside true false e = refl
  outside false c e = absurd (cc)

  from_zero : (n : ℕ) → nat_le 0 n ≡ true
  from_zero n = grind (arith, nat_tests)

  free : is_free (moment d now) d.own key ≡ true
  free =
      and_both (not (is_written d.own key)) (is_ownable d.own.waits.prefix key && (moment d now).created && is_restful d.own now key) (off (is_written d.own key) h.new.unwritten)
      (and_both (is_ownable d.own.waits.prefix key && (moment d now).created) (is_restful d.own now key)
      (and_both (is_ownable d.own.waits.prefix key) (moment d now).created
      (and_both (not (is_empty d.own.waits.prefix) && not (is_empty key)) (not (contains (leasing_range d.own.waits.prefix) key))
      (and_both (not (is_empty d.own.waits.prefix)) (not (is_empty key)) h.leased.leasing (off (is_empty key) h.key)) (off (contains (leasing_range d.own.waits.prefix) key) (outside (is_plain ask) (contains (leasing_range d.own.waits.prefix) key) h.leased.plain)))
      h.up)
      (ap (λ (o : Option ℕ). nat_le (unwrap_or o 0) now) h.new.quiet ∙ from_zero now))

  may : acquirable (moment d now) d.own key ≡ Some n
  may = ap (λ (b : Bool). cond b (moment d now).session None) free ∙ h.live

  abbrev waiting : Asked
  waiting = in_stage stage.Acquiring asked

  abbrev made : Acquire
  made = record { ticket = ticket; session = n; sending = sending.Due d.own.waits.step }

  is : on_ask now ticket (request.Range ask) word d ≡ decided_by d (moment d now) asked key (record { stage = stage.Acquiring; under = Some n })
  unfolding decided_by
  is = reaches d now ticket word ask h.leased ∙ ap (decided_by d (moment d now) asked key) (free_decision (moment d now) (ground_of (reads_of d)) key n h.new.entry h.new.acquire may)

  -- nobody else waits there

  strangers : (xs : List Asked) → ask_at ticket xs ≡ None → list_all (is_apart key) xs ≡ true → list_all (holds ticket key now) xs ≡ true
  strangers [] e a = refl
  strangers (x ∷ xs) e a = by (has_ticket ticket x) refl e (λ f. strangers xs f (and_second (is_apart key x) (list_all (is_apart key) xs) a))
    where
      calm : (r s : Bool) → (is_acquiring x.stage ≡ true → r ≡ true) → not (r && s) ≡ true → is_acquiring x.stage && s ≡ false
      calm true true g f = absurd (cc)
      calm true false g f = by_acquiring (is_acquiring x.stage)
        where
          by_acquiring : (b : Bool) → b && false ≡ false
          by_acquiring true = refl
          by_acquiring false = refl
      calm false s g f = by_acquiring (is_acquiring x.stage) g
        where
          by_acquiring : (b : Bool) → (b ≡ true → false ≡ true) → b && s ≡ false
          by_acquiring true g = absurd (let i = g refl in cc)
          by_acquiring false g = refl

      reads : (s : Rattle.read_model.specs.declared.asked.Stage.Stage) → is_acquiring s ≡ true → is_reading s ≡ true
      reads stage.Acquiring g = refl
      reads (stage.Calling s) g = absurd (cc)
      reads stage.Joined g = refl
      reads stage.Behind g = refl
      reads stage.Writes g = absurd (cc)
      reads (stage.Grouped s) g = absurd (cc)
      reads (stage.Replied v) g = absurd (cc)

      by : (b : Bool) → has_ticket ticket x ≡ b → cond b (Some x) (ask_at ticket xs) ≡ None → (ask_at ticket xs ≡ None → list_all (holds ticket key now) xs ≡ true) → list_all (holds ticket key now) (x ∷ xs) ≡ true
      by true t f g = absurd (cc)
      by false t f g =
          and_both (holds ticket key now x) (list_all (holds ticket key now) xs)
          (other_holds ticket key now x t (calm (is_reading x.stage) (same (ask_key x) key) (reads x.stage) (and_first (is_apart key x) (list_all (is_apart key) xs) a))) (g f)

  unknown : ask_at ticket d.asks ≡ None
  unknown = by (ask_at ticket d.asks) h.leased.unknown
    where
      by : (o : Option Asked) → is_some o || is_some (watch_at ticket d.watches.watches) ≡ false → o ≡ None
      by None e = refl
      by (Some x) e = absurd (cc)

  itself : holds ticket key now waiting ≡ true
  itself =
      ap (λ (b : Bool). cond b (now == now && (same key key || false)) (not (same key key))) (number_itself ticket)
      ∙ ap (λ (b : Bool). b && (same key key || false)) (number_itself now)
      ∙ ap (λ (b : Bool). b || false) (same-itself key)

  due : is_due_for ticket (at (with_at d.acquires key (Some made)) key) ≡ true
  due =
      ap (is_due_for ticket) (at-with_at d.acquires key key (Some made) ∙ ap (λ (b : Bool). cond b (Some made) (at d.acquires key)) (same-itself key))
      ∙ ap (λ (b : Bool). b && true) (number_itself ticket)

  pub asked_waits : IsAwaited ticket key now n (on_ask now ticket (request.Range ask) word d).core
  unfolding decided_by
  asked_waits = subst (λ (s : Stepped). IsAwaited ticket key now n s.core) (sym is) (by_decision)
    where
      by_decision : IsAwaited ticket key now n (decided_by d (moment d now) asked key (record { stage = stage.Acquiring; under = Some n })).core
      by_decision = λ e. waits due (all_pushed (holds ticket key now) waiting d.asks (strangers d.asks unknown h.new.unread) itself)

pub new_reads_wait : NewReadsWait
new_reads_wait c now ticket word ask n w h =
    subst (λ (s : Stepped). IsAwaited ticket ask.range.key now n s.core) (sym (stepped_is c (event.Ask ticket (request.Range ask) word) now w))
    (counted_awaited ticket ask.range.key now n (happened now (event.Ask ticket (request.Range ask) word) (clock_work now c)) (asked_waits (clock_work now c) now ticket word ask n h))

-- ---- the first call that names it

run_waits : (ticket : ℕ) (k : List ℕ) (since n : ℕ) (c : Core) (xs : List Timed) (then : ℕ) (q : Request) → ticket ≢ 0 → CoreOk c → OwnersFit c → AllHeard c xs → AllLeave ticket n c xs → IsAwaited ticket k since n c
    → seat_is n (clock_work then (ran c xs)).seat ≡ true → Calls (stepped (ran c xs) event.Work then).outcome ticket q → q ≡ request_under c.settings.namespace (request.Txn (acquire c.own.waits.prefix k n))
run_waits ticket k since n c [] then q z ok o b l h s called = awaited_reads_acquire c ticket k since n then q z ok o h s called
run_waits ticket k since n c (x ∷ xs) then q z ok o b l h s called =
    let stay = steps_stay c x.event x.now in
    run_waits ticket k since n (after c x) xs then q z (steps_keep c x.event x.now b.0 ok) (steps_fit c x.event x.now b.0 ok o) b.1 l.1 (awaited_reads_wait c ticket k since n x.event x.now ok o l.0 h) s called
    ∙ ap (λ (t : Settings). request_under t.namespace (request.Txn (acquire (after c x).own.waits.prefix k n))) stay.settings
    ∙ ap (λ (p : List ℕ). request_under c.settings.namespace (request.Txn (acquire p k n))) stay.prefix

pub must_acquire : MustAcquire
must_acquire c now ticket word ask n xs then q z ok o w new b l s called =
    let e = event.Ask ticket (request.Range ask) word in
    let stay = steps_stay c e now in
    run_waits ticket ask.range.key now n (stepped c e now).core xs then q z (steps_keep c e now tt ok) (steps_fit c e now tt ok o) b l (new_reads_wait c now ticket word ask n w new) s called
    ∙ ap (λ (t : Settings). request_under t.namespace (request.Txn (acquire (stepped c e now).core.own.waits.prefix ask.range.key n))) stay.settings
    ∙ ap (λ (p : List ℕ). request_under c.settings.namespace (request.Txn (acquire p ask.range.key n))) stay.prefix
