-- Each step of a proxy holds nothing back: what a watch's taker has and what stands in its queue stay all changes of its range from its
-- start to below its next.
use Rattle.std.proofs.Common.{◌≡◌, ℕ, ◌+◌, ◌≤◌, max, Bool, true, false, not, cond, ◌&&◌, ◌==◌, nat_le, nat_lt, List, [], ◌∷◌, Option, None, Some, option_map, Result, Ok, Err, inl, inr, refl, ap, sym, subst, ◌∙◌, arith}
use Rattle.std.proofs.lemmas.Bool.Decides.{nat_tests}
use Rattle.etcd_types.specs.declared.answer.Answer.TheVariants as answer
use Rattle.etcd_types.specs.declared.record.Header.{Header}
use Rattle.etcd_types.specs.declared.watch.Event.{Event}
use Rattle.etcd_types.specs.declared.watch.WatchItem.{WatchItem}
use Rattle.etcd_types.specs.declared.watch.WatchItem.TheVariants as item
use Rattle.proxy_model.specs.Unwrapped.{Unwrapped, item_without}
use Rattle.proxy_model.specs.Upstream.{Upstream}
use Rattle.watch_model.specs.declared.stream.StreamJob.{StreamJob}
use Rattle.watch_model.specs.declared.stream.StreamJob.TheVariants as stream
use Rattle.watch_model.specs.declared.stream.StreamPhase.{StreamPhase}
use Rattle.watch_model.specs.declared.stream.StreamPhase.TheVariants as phase
use Rattle.watch_model.specs.declared.place.WatchPlace.{WatchPlace}
use Rattle.watch_model.specs.declared.place.WatchPlace.TheVariants as place
use Rattle.watch_model.specs.State.{Stream, Watch, Broadcasts}
use Rattle.watch_model.specs.Lookups.{stream_at, place_stream, watch_at, with_stream, changed_stream, is_begun, is_closing, numbered}
use Rattle.watch_model.specs.Cuts.{cut_stream, reopened}
use Rattle.watch_model.specs.Delivery.{is_batch, is_told, delivered_message, delivered_stream}
use Rattle.watch_model.specs.Merging.{merged}
use Rattle.watch_model.specs.Due.{begun, sent, next_job}
use Rattle.watch_model.specs.Takes.{taken_from}
use Rattle.watch_model.specs.Story.{Story, Received, received, Rising, between, wanted, WatchOk, Holds}
use Rattle.watch_laws.specs.Calls.{TellsMessage, received_if}
use Rattle.watch_laws.specs.Closings.{is_left, ClosingsAreLeft}
use Rattle.watch_laws.proofs.Calls.{cuts_hold, deliveries_hold, creations_hold, cancellations_hold, takes_hold, leaving_holds}
use Rattle.watch_laws.proofs.Closings.{cuts_leave, deliveries_leave, creations_leave, cancellations_leave, takes_leave, leaving_leaves, joins_leave}
use Rattle.watch_laws.proofs.Seating.{each_found, joined_holds, each_along}
use Rattle.watch_model.proofs.Streams.{at-map, changed-keeps, numbered-map}
use Rattle.core_model.specs.declared.event.CoreEvent.{CoreEvent}
use Rattle.core_model.specs.declared.event.CoreEvent.TheVariants as event
use Rattle.core_model.specs.declared.event.Outcome.{Outcome}
use Rattle.core_model.specs.declared.event.Outcome.TheVariants as outcome
use Rattle.core_model.specs.declared.event.StepFault.{StepFault}
use Rattle.core_model.specs.Heard.{later_header}
use Rattle.core_model.specs.LeasingStream.{item_header}
use Rattle.core_model.specs.State.{Core}
use Rattle.core_model.specs.Stepped.{Stepped}
use Rattle.core_model.specs.WaitsFor.{WatchWaits, is_kept}
use Rattle.core_model.specs.Watching.{stream_job, with_watches}
use Rattle.core_laws.proofs.Watches.Touches.{Side, with_step, is_plain, told_unwrapped, told_stream, Touch, leaves, hears, ticks, joins, heard_leasing, broke_leasing, cut_leasing, told, cut, took, left_it, opens_leasing, sends, step_touches}
use Rattle.core_laws.specs.Watches.Laws.{AreWaiting}
use Rattle.core_laws.specs.Watches.Streams.{IsTold, IsNew, received_by, StepsHoldNothingBack}
use Rattle.core_laws.proofs.Watches.Runs.{itself, among}

abbrev pub Both : Story → Received → Broadcasts → Type 0
Both story got b = Holds story got b × ClosingsAreLeft b

-- ---- what only gives numbers, or counts steps

wider : (low high : ℕ) (ss : List Stream) → numbered low high ss ≡ true → numbered low (high + 1) ss ≡ true
wider low high [] h = refl
wider low high (s ∷ ss) h =
    let a : nat_lt low s.number ≡ true = grind (arith, nat_tests) in
    let b : nat_le s.number (high + 1) ≡ true = grind (arith, nat_tests) in
    let rest : numbered s.number high ss ≡ true = grind (arith, nat_tests) in
    let c = wider s.number high ss rest in
    grind (arith, nat_tests)

pub given_both : (story : Story) (got : Received) (b : Broadcasts) → Both story got b → Both story got (record b { given = b.given + 1 })
given_both story got b h =
    let n = wider 0 b.given b.streams h.0.numbers in
    (record { numbers = n; watches = h.0.watches }, record { numbers = n; watches = h.1.watches })

pub step_both : (story : Story) (got : Received) (b : Broadcasts) (n : ℕ) → Both story got b → Both story got (with_step b n)
step_both story got b n h = (record { numbers = h.0.numbers; watches = h.0.watches }, record { numbers = h.1.numbers; watches = h.1.watches })

-- ---- what is sent

same_upstream : (n : ℕ) (s : Stream) → (changed_stream n begun s).stream ≡ s.stream
same_upstream n s = elim (s.number == n) as (λ b. (cond b (begun s) s).stream ≡ s.stream) [ true ↦ refl | false ↦ refl ]

begun_open : (n : ℕ) (s : Stream) → is_closing s.phase ≡ false → is_closing (changed_stream n begun s).phase ≡ false
begun_open n s e = elim (s.number == n) as (λ b. is_closing (cond b (begun s) s).phase ≡ false) [ true ↦ refl | false ↦ e ]

begun_place : (n : ℕ) (ss : List Stream) (p : WatchPlace) → place_stream (with_stream n begun ss) p ≡ option_map (changed_stream n begun) (place_stream ss p)
begun_place n ss (place.In k) = at-map (changed_stream n begun) (changed-keeps n begun (λ s. refl)) k ss
begun_place n ss place.Split = refl
begun_place n ss place.Ended = refl

begun_watch : (story : Story) (got : List Event) (f : Stream → Stream) (o : Option Stream) (w : Watch) → ((s : Stream) → (f s).stream ≡ s.stream) → WatchOk story got o w → WatchOk story got (option_map f o) w
begun_watch story got f None w k h = h
begun_watch story got f (Some s) w k h =
    let next : (f s).stream.next ≡ s.stream.next = ap (λ (u : Upstream). u.next) (k s) in
    record {
      member = h.member;
      range = λ t e. let one : f s ≡ t = cc in ap (λ (x : Stream). x.stream.range) (sym one) ∙ ap (λ (u : Upstream). u.range) (k s) ∙ h.range s refl;
      decided = λ t e. let one : f s ≡ t = cc in h.decided s refl ∙ ap (λ (n : ℕ). n == 0) (sym next) ∙ ap (λ (x : Stream). x.stream.next == 0) one;
      starts = subst (λ (n : ℕ). w.start ≤ max w.next n) (sym next) h.starts;
      kept = h.kept ∙ ap (λ (n : ℕ). wanted w.ask (between w.start (max w.next n) (story w.ask.range))) (sym next);
    }

begun_left : (n : ℕ) (o : Option Stream) → is_left o ≡ false → is_left (option_map (changed_stream n begun) o) ≡ false
begun_left n None e = refl
begun_left n (Some s) e = begun_open n s e

begun_both : (story : Story) (got : Received) (b : Broadcasts) (n : ℕ) → Both story got b → Both story got (record b { streams = with_stream n begun b.streams })
begun_both story got b n h =
    let us = with_stream n begun b.streams in
    let numbers = numbered-map _ (changed-keeps n begun (λ s. refl)) 0 b.given b.streams h.0.numbers in (
      record {
        numbers = numbers;
        watches =
            each_along (λ w. WatchOk story (got w.ticket) (place_stream b.streams w.place) w) (λ w. WatchOk story (got w.ticket) (place_stream us w.place) w)
            (λ w k. subst (λ (o : Option Stream). WatchOk story (got w.ticket) o w) (sym (begun_place n b.streams w.place)) (begun_watch story (got w.ticket) (changed_stream n begun) (place_stream b.streams w.place) w (same_upstream n) k))
            b.watches h.0.watches;
      },
      record {
        numbers = numbers;
        watches =
            each_along (λ w. is_left (place_stream b.streams w.place) ≡ false) (λ w. is_left (place_stream us w.place) ≡ false)
            (λ w k. ap is_left (begun_place n b.streams w.place) ∙ begun_left n (place_stream b.streams w.place) k) b.watches h.1.watches;
      },
    )

-- a stream that is due to be closed goes as if it was cut
closed_both : (story : Story) (got : Received) (b : Broadcasts) (s : Stream) (since : ℕ) → s.phase ≡ phase.Closing since → stream_at s.number b.streams ≡ Some s → Both story got b → Both story got (sent b s (phase.Closing since)).0
closed_both story got b s since e f h =
    let same : cut_stream b s ≡ (sent b s (phase.Closing since)).0 = by (ap is_closing e) in
    subst (Both story got) same (cuts_hold story got b s f h.1 h.0, cuts_leave b s h.1)
  where
    by : is_closing s.phase ≡ true → cut_stream b s ≡ (sent b s (phase.Closing since)).0
    by q = ap (λ c. cond c (sent b s (phase.Closing since)).0 (reopened b s)) q

pub sent_both : (story : Story) (got : Received) (b : Broadcasts) (s : Stream) → stream_at s.number b.streams ≡ Some s → Both story got b → Both story got (next_job b (Some s)).0
sent_both story got b s f h = by s.phase refl
  where
    by : (p : StreamPhase) → s.phase ≡ p → Both story got (sent b s p).0
    by (phase.Closing since) e = closed_both story got b s since e f h
    by (phase.Due since) e = begun_both story got b s.number h
    by phase.Begun e = h

-- ---- messages

-- a stream whose next isn't known is told no events
untold : (b : Broadcasts) (s : Stream) (h : Header) (es : List Event) → is_begun s.phase ≡ true → (s.stream.next == 0) ≡ true → delivered_stream b s h es ≡ cut_stream b s
untold b s h es q z =
    let d = merged s.stream.range (delivered_message b s h es) in
    ap (λ c. cond c (cond (is_told s es) d (cut_stream b s)) b) q ∙ ap (λ c. cond (not c && is_batch s.stream.range s.stream.next es) d (cut_stream b s)) z

events_both : (story : Story) (got : Received) (b : Broadcasts) (s : Stream) (h : Header) (es : List Event) → Rising story → stream_at s.number b.streams ≡ Some s → is_begun s.phase ≡ true
    → ((s.stream.next == 0) ≡ false → TellsMessage story s h es) → Both story got b → Both story got (delivered_stream b s h es)
events_both story got b s h es r e q t k = by (s.stream.next == 0) refl
  where
    by : (c : Bool) → (s.stream.next == 0) ≡ c → Both story got (delivered_stream b s h es)
    by true z = subst (Both story got) (sym (untold b s h es q z)) (cuts_hold story got b s e k.1 k.0, cuts_leave b s k.1)
    by false z = (deliveries_hold story got b s h es r e (t z) k.0, deliveries_leave b s h es k.1)

unwrapped_both : (story : Story) (got : Received) (b : Broadcasts) (s : Stream) (last : Header) (u : Unwrapped WatchItem) → Rising story → stream_at s.number b.streams ≡ Some s → is_begun s.phase ≡ true
    → ((h : Header) (es : List Event) → (s.stream.next == 0) ≡ false → u ≡ Ok (item.Events h es) → TellsMessage story s h es) → Both story got b → Both story got (told_unwrapped b s last u)
unwrapped_both story got b s last (Ok (item.Created h)) r e q t k = (creations_hold story got b s h last e k.0, creations_leave b s h last k.1)
unwrapped_both story got b s last (Ok (item.Events h es)) r e q t k = events_both story got b s h es r e q (λ z. t h es z refl) k
unwrapped_both story got b s last (Ok (item.Canceled h compact)) r e q t k = (cancellations_hold story got b s h compact last e k.0, cancellations_leave b s h compact last k.1)
unwrapped_both story got b s last (Err foreign) r e q t k = (cuts_hold story got b s e k.1 k.0, cuts_leave b s k.1)

pub told_both : (story : Story) (got : Received) (b : Broadcasts) (s : Stream) (last : Header) (n : List ℕ) (x : WatchItem) → Rising story → stream_at s.number b.streams ≡ Some s
    → (is_begun s.phase ≡ true → (h : Header) (es : List Event) → (s.stream.next == 0) ≡ false → item_without n x ≡ Ok (item.Events h es) → TellsMessage story s h es) → Both story got b → Both story got (told_stream b s last n x)
told_both story got b s last n x r e t k =
    elim (is_begun s.phase) as (λ c. is_begun s.phase ≡ c → Both story got (cond c (told_unwrapped b s last (item_without n x)) b)) [
      | true ↦ λ q. unwrapped_both story got b s last (item_without n x) r e q (t q) k
      | false ↦ λ q. k
    ] refl

-- ---- all that touches them

pub plain_received : (got : Received) (e : CoreEvent) (o : Result Outcome StepFault) → is_plain e o ≡ true → received_by got e o ≡ got
plain_received got e (Ok (outcome.Item i)) p = absurd (cc)
plain_received got e (Ok (outcome.Replied a)) p = refl
plain_received got e (Ok outcome.Waiting) p = refl
plain_received got e (Ok outcome.Pending) p = refl
plain_received got e (Ok (outcome.Job j)) p = refl
plain_received got e (Ok outcome.Noted) p = refl
plain_received got e (Err f) p = refl

pub job_received : (got : Received) (o : Option StreamJob) (c : Core) → received_by got event.Work (stream_job o c).outcome ≡ got
job_received got None c = refl
job_received got (Some (stream.Close number)) c = refl
job_received got (Some (stream.Open number range start)) c = refl

equal_tickets : (a b : ℕ) → (a == b) ≡ true → a ≡ b
equal_tickets a b e = grind (arith, nat_tests)

first_itself : (ticket : ℕ) (v : Watch) (rest : Option Watch) (w : Watch) → (rest ≡ Some w → w.ticket ≡ ticket) → (c : Bool) → (v.ticket == ticket) ≡ c → cond c (Some v) rest ≡ Some w → w.ticket ≡ ticket
first_itself ticket v rest w h true q f = let one : v ≡ w = cc in ap (λ (x : Watch). x.ticket) (sym one) ∙ equal_tickets v.ticket ticket q
first_itself ticket v rest w h false q f = h f

pub watch_itself : (ticket : ℕ) (ws : List Watch) (w : Watch) → watch_at ticket ws ≡ Some w → w.ticket ≡ ticket
watch_itself ticket [] w e = absurd (cc)
watch_itself ticket (v ∷ ws) w e = first_itself ticket v (watch_at ticket ws) w (watch_itself ticket ws w) (v.ticket == ticket) refl e

pub touch_both : (story : Story) (got : Received) (namespace : List ℕ) (a d : Side) (e : CoreEvent) (o : Result Outcome StepFault) → Rising story → IsTold story namespace a.broadcasts e → IsNew got e
    → Both story got a.broadcasts → Touch namespace a e d o → Both story (received_by got e o) d.broadcasts
touch_both story got namespace a _ _ _ r t n k (leaves e o p) = subst (λ (g : Received). Both story g a.broadcasts) (sym (plain_received got e o p)) k
touch_both story got namespace a _ _ _ r t n k (hears call reply o p) = subst (λ (g : Received). Both story g a.broadcasts) (sym (plain_received got (event.Answer call (answer.Done reply)) o p)) k
touch_both story got namespace a _ _ _ r t n k (ticks word) = given_both story got a.broadcasts k
touch_both story got namespace a _ _ _ r t n k (joins ticket ask word f) = (joined_holds story got a.broadcasts ticket ask a.header n k.0, joins_leave a.broadcasts ticket ask a.header k.1)
touch_both story got namespace a _ _ _ r t n k (heard_leasing number x l) = k
touch_both story got namespace a _ _ _ r t n k (broke_leasing number x l) = given_both story got a.broadcasts k
touch_both story got namespace a _ _ _ r t n k (cut_leasing number l) = given_both story got a.broadcasts k
touch_both story got namespace a _ _ _ r t n k (told number x s f) =
    told_both story got a.broadcasts s (later_header a.header (item_header x)) namespace x r (itself number a.broadcasts.streams s f) (λ q g es z u. t s g es f q z u) k
touch_both story got namespace a _ _ _ r t n k (cut number s f) =
    (cuts_hold story got a.broadcasts s (itself number a.broadcasts.streams s f) k.1 k.0, cuts_leave a.broadcasts s k.1)
touch_both story got namespace a _ _ _ r t n k (took ticket w i is f q) =
    let same = watch_itself ticket a.broadcasts.watches w f in
    let own : watch_at w.ticket a.broadcasts.watches ≡ Some w = ap (λ (j : ℕ). watch_at j a.broadcasts.watches) same ∙ f in
    let first : (taken_from a.broadcasts a.header w w.queue).1 ≡ Some i = ap (λ (l : List WatchItem). (taken_from a.broadcasts a.header w l).1) q in
    let have : received_if got w.ticket (taken_from a.broadcasts a.header w w.queue).1 ≡ received got ticket i = ap (received_if got w.ticket) first ∙ ap (λ (j : ℕ). received got j i) same in
    (subst (λ (g : Received). Holds story g (taken_from a.broadcasts a.header w w.queue).0) have (takes_hold story got a.broadcasts a.header w own k.0), takes_leave a.broadcasts a.header w own k.1)
touch_both story got namespace a _ _ _ r t n k (left_it ticket) = (leaving_holds story got a.broadcasts ticket k.0, leaving_leaves a.broadcasts ticket k.1)
touch_both story got namespace a _ _ _ r t n k (opens_leasing number member q l) = k
touch_both story got namespace a _ _ _ r t n k (sends c s m is f) =
    let found = among (λ (t : Stream). stream_at t.number a.broadcasts.streams ≡ Some t) a.broadcasts.streams s f (each_found a.broadcasts.given a.broadcasts.streams k.0.numbers) in
    subst (λ (g : Received). Both story g (next_job a.broadcasts (Some s)).0) (sym (job_received got (next_job c.watches (Some s)).1 (with_watches c (next_job c.watches (Some s)).0))) (sent_both story got a.broadcasts s found k)

-- ---- steps

-- whatever waits for its stream is no member of one that is due to be closed
none_left : (b : Broadcasts) → AreWaiting b → ClosingsAreLeft b
none_left b h = record { numbers = h.numbers; watches = each_along (λ w. WatchWaits b.streams w.place w.queue) (λ w. is_left (place_stream b.streams w.place) ≡ false) (λ w k. by w.place w.queue k) b.watches h.watches }
  where
    open_stream : (o : Option Stream) → is_kept o ≡ true → is_left o ≡ false
    open_stream None e = refl
    open_stream (Some s) e = turned (is_closing s.phase) e
      where
        turned : (c : Bool) → not c ≡ true → c ≡ false
        turned true e = absurd (cc)
        turned false e = refl

    by : (p : WatchPlace) (q : List WatchItem) → WatchWaits b.streams p q → is_left (place_stream b.streams p) ≡ false
    by (place.In n) q k = open_stream (stream_at n b.streams) k
    by place.Split q k = refl
    by place.Ended q k = refl

pub steps_hold_nothing_back : StepsHoldNothingBack
steps_hold_nothing_back story got c e now r t n w h =
    elim (step_touches c e now) [
      | inl worn ↦ subst (λ (s : Stepped). Holds story (received_by got e s.outcome) s.core.watches) (sym worn) h
      | inr x ↦
          (touch_both story got c.settings.namespace _ _ e _ r t n (step_both story got c.watches c.steps (h, none_left c.watches w)) x).0
    ]
