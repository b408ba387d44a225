-- What a proxy has out is named by what it sent: each step keeps that, where a call that it sends names its ticket.
use Rattle.std.proofs.Common.{◌≡◌, ℕ, Bool, true, false, not, cond, ◌&&◌, List, [], ◌∷◌, ◌++◌, Option, None, Some, is_some, Result, Ok, Err, refl, sym, ◌∙◌, ap}
use Rattle.std.specs.declared.cmp.Ordering.{Ordering}
use Rattle.std.specs.declared.cmp.Ordering.TheVariants.{Less, Equal, Greater}
use Rattle.std.specs.Cmp.Lexicographic.{slice_cmp}
use Rattle.std.specs.FinMap.Entries.{below_all, is_sorted-where_key}
use Rattle.std.specs.List.{flat_map}
use Rattle.std.specs.Option.{option_map}
use Rattle.std.specs.Ordering.{nat_cmp, is_lt, is_eq, ordering_reverse}
use Rattle.std.proofs.lemmas.Cmp.{nat_list_cmp_total}
use Rattle.etcd_types.specs.Keys.{same}
use Rattle.etcd_types.proofs.Bools.{and_first, and_second}
use Rattle.etcd_types.proofs.KeyOrder.{same-itself}
use Rattle.proxy_model.specs.Keyed.{Keyed, at, changed_at, is_in_order}
use Rattle.proxy_model.specs.Session.{Session}
use Rattle.proxy_model.proofs.KeyedLaws.{to_T, from_T, at-with_at, in_order-with_at}
use Rattle.wait_model.specs.declared.due.Place.{Place}
use Rattle.wait_model.specs.declared.sending.Sending.{Sending}
use Rattle.wait_model.specs.declared.sending.Sending.TheVariants as sending
use Rattle.wait_model.specs.DueOrder.{is_earlier, first_place, first_rescind}
use Rattle.wait_model.specs.Sent.{JobSent, job_sent}
use Rattle.wait_model.proofs.Tables.{at-without}
use Rattle.read_model.specs.declared.acquire.Acquire.{Acquire}
use Rattle.read_model.specs.declared.asked.Asked.{Asked}
use Rattle.read_model.specs.declared.asked.Stage.{Stage}
use Rattle.read_model.specs.declared.asked.Stage.TheVariants as stage
use Rattle.read_model.specs.Acquires.{sent_out}
use Rattle.read_model.specs.PlainRead.{in_stage}
use Rattle.read_model.specs.SessionEnd.{is_due}
use Rattle.watch_model.specs.declared.stream.StreamJob.{StreamJob}
use Rattle.watch_model.specs.declared.stream.StreamJob.TheVariants as stream
use Rattle.watch_model.specs.declared.stream.StreamPhase.{StreamPhase}
use Rattle.watch_model.specs.declared.stream.StreamPhase.TheVariants as phase
use Rattle.watch_model.specs.Due.{next_job}
use Rattle.watch_model.specs.State.{Stream}
use Rattle.core_model.specs.declared.event.CoreEvent.{CoreEvent}
use Rattle.core_model.specs.declared.event.CoreEvent.TheVariants as event
use Rattle.core_model.specs.declared.event.Outcome.{Outcome}
use Rattle.core_model.specs.declared.event.StepFault.{StepFault}
use Rattle.core_model.specs.declared.event.StepFault.TheVariants as fault
use Rattle.core_model.specs.ClockWork.{clock_work}
use Rattle.core_model.specs.DueJobs.{DueJob, ForSession, ForWrites, ForAcquire, ForAsk, ForGroup, ToOpen, ForStream, Placed, due_writes, if_due, due_acquire, due_stage, due_ask, due_at, due_opening, due_phase, due_stream, due_jobs, earlier, earliest, job_of, session_job_of, session_job, rescind_or, or_else, first_job}
use Rattle.core_model.specs.Fits.{CoreOk}
use Rattle.core_model.specs.Groups.{keeps, is_due_stage, group_sent}
use Rattle.core_model.specs.Lookups.{has_ticket}
use Rattle.core_model.specs.Sending.{next_call, called_as, writes_sent, sent_by, on_work}
use Rattle.core_model.specs.State.{Seat, Opening, Core}
use Rattle.core_model.specs.Step.{is_worn, happened, stepped}
use Rattle.core_model.specs.Stepped.{Stepped, faults, counted, counted_by}
use Rattle.core_model.specs.Watching.{with_watches, stream_job}
use Rattle.core_laws.proofs.Steps.Comes.{by_test}
use Rattle.core_laws.proofs.Steps.Lists.{same_number}
use Rattle.keep_laws.proofs.Rows.{All, all_mapped, all_kept}
use Rattle.keep_laws.proofs.Runs.{found}
use Rattle.reply_laws.specs.Laws.{StartsNamed, StepsName}
use Rattle.reply_laws.specs.Named.{AreNamed, NamesCall}
use Rattle.reply_laws.proofs.Before as before
use Rattle.reply_laws.proofs.Lasting.{is_uncalled, Lasts, clock_so, answered_so, lost_so, asked_so, take_so, leave_so, tick_so, item_so, cut_so}

-- a request is named, where its own call is out
abbrev pub IsNamed : (ℕ → Bool) → Asked → Type 0
IsNamed named a = (number : ℕ) → a.stage ≡ stage.Calling (sending.Out number) → named a.ticket ≡ true

-- so is each acquire that is out; they stand by rising keys
pub record AcquiresNamed (named : ℕ → Bool) (xs : Keyed Acquire) : Type 0 where
  pub order : is_in_order xs ≡ true
  pub tickets : (k : List ℕ) (number : ℕ) (x : Acquire) → at xs k ≡ Some x → x.sending ≡ sending.Out number → named x.ticket ≡ true

abbrev pub Names : (ℕ → Bool) → Core → Type 0
Names named c = All (IsNamed named) c.asks × AcquiresNamed named c.acquires

same_acquire : (x y : Acquire) → Some x ≡ Some y → x ≡ y
same_acquire x y e = cc

due_not_out : (s : Sending) (number : ℕ) → is_due s ≡ true → s ≡ sending.Out number → ⊥
due_not_out s number d e = let f : false ≡ true = sym (ap is_due e) ∙ d in absurd (cc)

names_last : (named : ℕ → Bool) → Lasts (IsNamed named) (AcquiresNamed named)
names_last named = record {
  uncalled = λ y u number e. absurd (let f : true ≡ false = sym u ∙ ap is_uncalled e in cc);
  gone = λ xs k h. record {
    order = in_order-with_at xs k None h.order;
    tickets = λ j number x e o. gone_at (same k j) j number x h (sym (at-with_at xs k j None) ∙ e) o;
  };
  due = λ xs k y d h. record {
    order = in_order-with_at xs k (Some y) h.order;
    tickets = λ j number x e o. due_at' (same k j) y j number x d h (sym (at-with_at xs k j (Some y)) ∙ e) o;
  };
  less = λ xs p h. record {
    order = from_T _ (is_sorted-where_key (slice_cmp nat_cmp) (λ x. not (p x)) xs (to_T _ h.order));
    tickets = λ j number x e o. gone_at (p j) j number x h (sym (at-without p xs j) ∙ e) o;
  };
}
  where
    gone_at : {xs : Keyed Acquire} (b : Bool) (j : List ℕ) (number : ℕ) (x : Acquire) → AcquiresNamed named xs → cond b None (at xs j) ≡ Some x → x.sending ≡ sending.Out number → named x.ticket ≡ true
    gone_at true j number x h e o = absurd (cc)
    gone_at false j number x h e o = h.tickets j number x e o

    due_at' : {xs : Keyed Acquire} (b : Bool) (y : Acquire) (j : List ℕ) (number : ℕ) (x : Acquire) → is_due y.sending ≡ true → AcquiresNamed named xs → cond b (Some y) (at xs j) ≡ Some x → x.sending ≡ sending.Out number → named x.ticket ≡ true
    due_at' true y j number x d h e o = absurd (due_not_out y.sending number d (ap (λ (z : Acquire). z.sending) (same_acquire y x e) ∙ o))
    due_at' false y j number x d h e o = h.tickets j number x e o

-- where more is named
names_more : (named next : ℕ → Bool) → ((t : ℕ) → named t ≡ true → next t ≡ true) → (c : Core) → Names named c → Names next c
names_more named next g c h = (
  all_kept (IsNamed named) (IsNamed next) (λ x t number e. g x.ticket (t number e)) c.asks h.0,
  record { order = h.1.order; tickets = λ k number x e o. g x.ticket (h.1.tickets k number x e o) },
)

-- ---- the acquire that is sent is the one at its key

abbrev EachOf : (List ℕ × Acquire → Type 0) → Keyed Acquire → Type 0
EachOf P [] = Unit {0}
EachOf P (x ∷ xs) = P x × EachOf P xs

after_not : (k : List ℕ) (x : List ℕ) → is_lt (slice_cmp nat_cmp k x) ≡ true → same x k ≡ false
after_not k x h = ap is_eq (nat_list_cmp_total.antisymm x k) ∙ by (slice_cmp nat_cmp k x) h
  where
    by : (o : Ordering) → is_lt o ≡ true → is_eq (ordering_reverse o) ≡ false
    by Less t = refl
    by Equal t = absurd (cc)
    by Greater t = absurd (cc)

found_behind : (y : List ℕ × Acquire) (all xs : Keyed Acquire) → below_all (slice_cmp nat_cmp) y.0 xs ≡ true → EachOf (λ x. at all x.0 ≡ Some x.1) xs → EachOf (λ x. at (y ∷ all) x.0 ≡ Some x.1) xs
found_behind y all [] b h = tt
found_behind y all (x ∷ xs) b h = (
  ap (λ c. cond c (Some y.1) (at all x.0)) (after_not y.0 x.0 (and_first (is_lt (slice_cmp nat_cmp y.0 x.0)) (below_all (slice_cmp nat_cmp) y.0 xs) b)) ∙ h.0,
  found_behind y all xs (and_second (is_lt (slice_cmp nat_cmp y.0 x.0)) (below_all (slice_cmp nat_cmp) y.0 xs) b) h.1,
)

found_all : (xs : Keyed Acquire) → is_in_order xs ≡ true → EachOf (λ x. at xs x.0 ≡ Some x.1) xs
found_all [] h = tt
found_all (x ∷ xs) h = (
  ap (λ c. cond c (Some x.1) (at xs x.0)) (same-itself x.0),
  found_behind x xs xs (and_first (below_all (slice_cmp nat_cmp) x.0 xs) (is_in_order xs) h) (found_all xs (and_second (below_all (slice_cmp nat_cmp) x.0 xs) (is_in_order xs) h)),
)

abbrev Known : Keyed Acquire → DueJob → Type 0
Known all (ForAcquire k x) = at all k ≡ Some x
Known all _ = Unit {0}

abbrev AllKnown : Keyed Acquire → List Placed → Type 0
AllKnown all [] = Unit {0}
AllKnown all (p ∷ ps) = Known all p.job × AllKnown all ps

appended : (all : Keyed Acquire) (ps qs : List Placed) → AllKnown all ps → AllKnown all qs → AllKnown all (ps ++ qs)
appended all [] qs h i = i
appended all (p ∷ ps) qs h i = (h.0, appended all ps qs h.1 i)

if_due_known : (all : Keyed Acquire) (s : Sending) (f : ℕ → Placed) → ((since : ℕ) → Known all (f since).job) → AllKnown all (if_due s f)
if_due_known all (sending.Due since) f h = (h since, tt)
if_due_known all (sending.Out call) f h = tt

writes_known : (all : Keyed Acquire) (o : Option Place) → AllKnown all (due_writes o)
writes_known all None = tt
writes_known all (Some p) = (tt, tt)

acquires_known : (all xs : Keyed Acquire) → EachOf (λ x. at all x.0 ≡ Some x.1) xs → AllKnown all (flat_map due_acquire xs)
acquires_known all [] h = tt
acquires_known all (x ∷ xs) h = appended all (due_acquire x) (flat_map due_acquire xs) (if_due_known all x.1.sending _ (λ since. h.0)) (acquires_known all xs h.1)

stage_known : (all : Keyed Acquire) (a : Asked) (s : Stage) → AllKnown all (due_stage a s)
stage_known all a (stage.Calling s) = if_due_known all s _ (λ since. tt)
stage_known all a (stage.Grouped (Some s)) = if_due_known all s _ (λ since. tt)
stage_known all a (stage.Grouped None) = tt
stage_known all a stage.Acquiring = tt
stage_known all a stage.Joined = tt
stage_known all a stage.Behind = tt
stage_known all a stage.Writes = tt
stage_known all a (stage.Replied v) = tt

asks_known : (all : Keyed Acquire) (xs : List Asked) → AllKnown all (flat_map due_ask xs)
asks_known all [] = tt
asks_known all (a ∷ xs) = appended all (due_ask a) (flat_map due_ask xs) (stage_known all a a.stage) (asks_known all xs)

opening_known : (all : Keyed Acquire) (o : Option Opening) → AllKnown all (due_opening o)
opening_known all None = tt
opening_known all (Some o) = by o.due
  where
    by : (s : Option ℕ) → AllKnown all (due_at o s)
    by None = tt
    by (Some since) = (tt, tt)

streams_known : (all : Keyed Acquire) (ss : List Stream) → AllKnown all (flat_map due_stream ss)
streams_known all [] = tt
streams_known all (s ∷ ss) = appended all (due_stream s) (flat_map due_stream ss) (by s.phase) (streams_known all ss)
  where
    by : (p : StreamPhase) → AllKnown all (due_phase s p)
    by (phase.Due since) = (tt, tt)
    by (phase.Closing since) = (tt, tt)
    by phase.Begun = tt

all_known : (c : Core) → is_in_order c.acquires ≡ true → AllKnown c.acquires (due_jobs c)
all_known c h =
    let writes = due_writes (first_place c.own.waits.writes) in
    let acquires = flat_map due_acquire c.acquires in
    let asks = flat_map due_ask c.asks in
    appended c.acquires (writes ++ acquires ++ asks ++ due_opening c.leasing) (flat_map due_stream c.watches.streams)
    (appended c.acquires (writes ++ acquires ++ asks) (due_opening c.leasing)
    (appended c.acquires (writes ++ acquires) asks (appended c.acquires writes acquires (writes_known c.acquires (first_place c.own.waits.writes)) (acquires_known c.acquires c.acquires (found_all c.acquires h))) (asks_known c.acquires c.asks))
    (opening_known c.acquires c.leasing))
    (streams_known c.acquires c.watches.streams)

abbrev PlacedKnown : Keyed Acquire → Option Placed → Type 0
PlacedKnown all None = Unit {0}
PlacedKnown all (Some p) = Known all p.job

abbrev KnownIf : Keyed Acquire → Option DueJob → Type 0
KnownIf all None = Unit {0}
KnownIf all (Some j) = Known all j

earliest_known : (all : Keyed Acquire) (o : Option Placed) (ps : List Placed) → PlacedKnown all o → AllKnown all ps → PlacedKnown all (earliest o ps)
earliest_known all o [] h i = h
earliest_known all o (p ∷ ps) h i = earliest_known all (Some (earlier o p)) ps (chosen o h) i.1
  where
    either : (b : Bool) (q : Placed) → Known all q.job → Known all (cond b p q).job
    either true q t = i.0
    either false q t = t

    chosen : (x : Option Placed) → PlacedKnown all x → Known all (earlier x p).job
    chosen None t = i.0
    chosen (Some q) t = either (is_earlier p.place q.place) q t

first_known : (c : Core) → is_in_order c.acquires ≡ true → KnownIf c.acquires (first_job c)
first_known c h = by_session c.seat
  where
    job_known : (o : Option Placed) → PlacedKnown c.acquires o → KnownIf c.acquires (job_of o)
    job_known None t = tt
    job_known (Some p) t = t

    rescind_known : (b : Bool) (o : Option DueJob) → KnownIf c.acquires o → KnownIf c.acquires (rescind_or b o)
    rescind_known true o t = tt
    rescind_known false o t = t

    others : KnownIf c.acquires (rescind_or (is_some (first_rescind c.own.entries)) (job_of (earliest None (due_jobs c))))
    others = rescind_known (is_some (first_rescind c.own.entries)) (job_of (earliest None (due_jobs c))) (job_known (earliest None (due_jobs c)) (earliest_known c.acquires None (due_jobs c) tt (all_known c h)))

    by_call : (s : Session) (o : Option Sending) → KnownIf c.acquires (or_else (session_job_of s o) (rescind_or (is_some (first_rescind c.own.entries)) (job_of (earliest None (due_jobs c)))))
    by_call s None = others
    by_call s (Some (sending.Due since)) = tt
    by_call s (Some (sending.Out call)) = others

    by_session : (s : Option Seat) → KnownIf c.acquires (or_else (session_job s) (rescind_or (is_some (first_rescind c.own.entries)) (job_of (earliest None (due_jobs c)))))
    by_session None = others
    by_session (Some s) = by_call s.session s.call

-- ---- what is due is sent

acquire_sent : (next : ℕ → Bool) (number : ℕ) (k : List ℕ) (x : Acquire) (xs : Keyed Acquire) → at xs k ≡ Some x → next x.ticket ≡ true → AcquiresNamed next xs → AcquiresNamed next (changed_at xs k (sent_out number))
acquire_sent next number k x xs f t h = record {
  order = in_order-with_at xs k (option_map (sent_out number) (at xs k)) h.order;
  tickets = λ j n y e o. by (same k j) j n y (sym (at-with_at xs k j (option_map (sent_out number) (at xs k))) ∙ e) o;
}
  where
    by : (b : Bool) (j : List ℕ) (n : ℕ) (y : Acquire) → cond b (option_map (sent_out number) (at xs k)) (at xs j) ≡ Some y → y.sending ≡ sending.Out n → next y.ticket ≡ true
    by true j n y e o = let same : sent_out number x ≡ y = same_acquire (sent_out number x) y (sym (ap (option_map (sent_out number)) f) ∙ e) in ap (λ (z : Acquire). next z.ticket) (sym same) ∙ t
    by false j n y e o = h.tickets j n y e o

sent_named : (next : ℕ → Bool) (now : ℕ) (c : Core) (j : Option DueJob) → KnownIf c.acquires j → NamesCall next (sent_by now j c).outcome → Names next c → Names next (sent_by now j c).core
sent_named next now c None k s h = h
sent_named next now c (Some (ForSession x)) k s h = h
sent_named next now c (Some ForWrites) k s h = by (job_sent (next_call c) c.own)
  where
    by : (x : Option JobSent) → Names next (writes_sent now x c).core
    by None = h
    by (Some x) = h
sent_named next now c (Some (ForAcquire i x)) k s h = (h.0, acquire_sent next (next_call c) i x c.acquires k (s _ _ x.ticket _ refl) h.1)
sent_named next now c (Some (ForAsk a)) k s h = (
  all_mapped (IsNamed next) (IsNamed next) (called_as (next_call c) a.ticket)
      (λ y t. by_test (IsNamed next) (has_ticket a.ticket y) (in_stage (stage.Calling (sending.Out (next_call c))) y) y (λ e number _. ap next (same_number y.ticket a.ticket e) ∙ s _ _ a.ticket _ refl) (λ e. t)) c.asks h.0,
  h.1,
)
sent_named next now c (Some (ForGroup lease ticket)) k s h = (
  all_mapped (IsNamed next) (IsNamed next) (group_sent (next_call c) lease)
      (λ y t. by_test (IsNamed next) (keeps lease y.request && is_due_stage y.stage) (in_stage (stage.Grouped (Some (sending.Out (next_call c)))) y) y (λ e number f. absurd (cc)) (λ e. t)) c.asks h.0,
  h.1,
)
sent_named next now c (Some (ToOpen o)) k s h = h
sent_named next now c (Some (ForStream x)) k s h = by (next_job c.watches (Some x)).1
  where
    by : (o : Option StreamJob) → Names next (stream_job o (with_watches c (next_job c.watches (Some x)).0)).core
    by None = h
    by (Some (stream.Close number)) = h
    by (Some (stream.Open number range start)) = h

work_named : (next : ℕ → Bool) (now : ℕ) (c : Core) → NamesCall next (on_work now c).outcome → Names next c → Names next (on_work now c).core
unfolding on_work
work_named next now c s h = sent_named next now c (first_job c) (first_known c h.1.order) s h

-- ---- a whole step

happened_named : (next : ℕ → Bool) (now : ℕ) (e : CoreEvent) (c : Core) → (e ≡ event.Work → NamesCall next (happened now e c).outcome) → Names next c → Names next (happened now e c).core
happened_named next now (event.Ask ticket q word) c s h = asked_so (IsNamed next) (AcquiresNamed next) (names_last next) now ticket q word c h
happened_named next now (event.Answer call a) c s h = answered_so (IsNamed next) (AcquiresNamed next) (names_last next) now call a c h
happened_named next now (event.Lost call) c s h = lost_so (IsNamed next) (AcquiresNamed next) (names_last next) now call c h
happened_named next now (event.Tick word) c s h = tick_so (IsNamed next) (AcquiresNamed next) (names_last next) now word c h
happened_named next now (event.Item number x) c s h = item_so (IsNamed next) (AcquiresNamed next) (names_last next) now number x c h
happened_named next now (event.Cut number) c s h = cut_so (IsNamed next) (AcquiresNamed next) (names_last next) number c h
happened_named next now (event.Take ticket) c s h = take_so (IsNamed next) (AcquiresNamed next) (names_last next) ticket c h
happened_named next now (event.Leave ticket) c s h = leave_so (IsNamed next) (AcquiresNamed next) (names_last next) now ticket c h
happened_named next now event.Work c s h = work_named next now c (s refl) h

counted_named : (next : ℕ → Bool) (c : Core) (r : Result Outcome StepFault) → Names next c → Names next (counted_by c r).core
counted_named next c (Ok o) h = h
counted_named next c (Err f) h = h

counted_is : (c : Core) (r : Result Outcome StepFault) → (counted_by c r).outcome ≡ r
counted_is c (Ok o) = refl
counted_is c (Err f) = refl

-- what was named stays so, and a call that is sent names its ticket
stepped_named : (named next : ℕ → Bool) → ((t : ℕ) → named t ≡ true → next t ≡ true) → (c : Core) (e : CoreEvent) (now : ℕ) → (e ≡ event.Work → NamesCall next (stepped c e now).outcome) → Names named c → Names next (stepped c e now).core
unfolding stepped
stepped_named named next g c e now s h = by (is_worn c) s
  where
    came : Stepped
    came = happened now e (clock_work now c)

    more : Names next c
    more = names_more named next g c h

    by : (b : Bool) → (e ≡ event.Work → NamesCall next (cond b (faults c fault.Worn) (counted came)).outcome) → Names next (cond b (faults c fault.Worn) (counted came)).core
    by true t = more
    by false t =
        counted_named next came.core came.outcome
        (happened_named next now e (clock_work now c) (λ w own member ticket q f. t w own member ticket q (counted_is came.core came.outcome ∙ f)) (clock_so (IsNamed next) (AcquiresNamed next) (names_last next) now c more))

-- at its start a proxy has nothing out
pub starts_named : StartsNamed
starts_named named settings = record { rising = refl; asks = λ ticket number a f e. absurd (cc); acquires = λ k number x e o. absurd (cc) }

out_named : (named : ℕ → Bool) (c : Core) → Names named c → AreNamed named c
out_named named c h = record {
  rising = h.1.order;
  asks = λ ticket number a f e. let k = found (IsNamed named) ticket c.asks a f h.0 in ap named (sym (same_number a.ticket ticket k.1)) ∙ k.0 number e;
  acquires = h.1.tickets;
}

all_named : (named : ℕ → Bool) (c : Core) → CoreOk c → AreNamed named c → Names named c
all_named named c ok h = (
  all_kept (before.Found c.asks) (IsNamed named) (λ x f number e. h.asks x.ticket number x f e) c.asks (before.found_all c.asks ok.agrees.asks.once),
  record { order = h.rising; tickets = h.acquires },
)

pub steps_name : StepsName
steps_name named next c e now ok m h = out_named next (stepped c e now).core (stepped_named named next m.stays c e now m.sends (all_named named c ok h))
