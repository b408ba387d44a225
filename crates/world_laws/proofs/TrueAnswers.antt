-- Each answer and each message of a transcript is the store's: an induction over its lines, in which the world's store and calls
-- are those that the items tell.
use Rattle.std.proofs.Common.{◌≡◌, ℕ, zero, suc, ◌-◌, ◌==◌, Bool, true, false, cond, List, [], ◌∷◌, ◌++◌, Option, None, Some, Result, Ok, Err, refl, sym, ◌∙◌, ap, subst, map, option_map, slice_get, set, nat_lt}
use Rattle.std.proofs.lemmas.List.{map-append}
use Rattle.std.proofs.lemmas.Option.{slice_get-map}
use Rattle.std.specs.Prelude.{flat_map}
use Rattle.etcd_types.specs.declared.answer.Answer.{Answer}
use Rattle.etcd_types.specs.declared.answer.Answer.TheVariants.{Refused}
use Rattle.etcd_types.specs.declared.request.Request.{Request}
use Rattle.etcd_types.specs.declared.request.Request.TheVariants as request
use Rattle.etcd_types.specs.declared.request.WatchAsk.{WatchAsk}
use Rattle.etcd_types.specs.declared.watch.WatchItem.{WatchItem}
use Rattle.json_model.specs.declared.extra.Reading.TheVariants.{Client}
use Rattle.json_model.specs.declared.fault.ApiFault.{ApiFault}
use Rattle.json_model.specs.Mapping.{request_of}
use Rattle.store_model.specs.declared.store_fault.StoreFault.{StoreFault}
use Rattle.store_model.specs.Leases.{expired}
use Rattle.store_model.specs.Members.{applied}
use Rattle.store_model.specs.State.{State}
use Rattle.store_model.specs.Step.{exec}
use Rattle.store_model.specs.Watches.{Pushed, opened, pushed as push_of, progressed}
use Rattle.core_model.specs.declared.event.CoreEvent.{CoreEvent}
use Rattle.core_model.specs.declared.event.Job.{Job}
use Rattle.core_model.specs.declared.event.Job.TheVariants as job
use Rattle.core_model.specs.declared.event.Outcome.{Outcome}
use Rattle.core_model.specs.declared.event.Outcome.TheVariants as outcome
use Rattle.core_model.specs.declared.event.StepFault.{StepFault}
use Rattle.core_model.specs.Step.{stepped}
use Rattle.core_model.specs.Stepped.{Stepped}
use Rattle.script_text.specs.declared.line.Line.{Line}
use Rattle.script_text.specs.declared.line.Line.TheVariants as line
use Rattle.script_text.specs.declared.item.Item.{Item}
use Rattle.script_text.specs.declared.item.Item.TheVariants as item
use Rattle.world_model.specs.declared.fault.WorldFault.{WorldFault}
use Rattle.world_model.specs.declared.sent_call.SentCall.{SentCall}
use Rattle.world_model.specs.Answers.{Seen, unseen, sent_call, after_call, after_step, after_push, saw, saw_all, message_by, message_of, AnswersAreTheStores, MessagesAreTheStores}
use Rattle.world_model.specs.Asks.{told_at_once, was_asked, asks, asked_at, asked, post_refused, posted_as, posted_at, posted}
use Rattle.world_model.specs.PostRefusals.{post_refusal}
use Rattle.world_model.specs.Calls.{executed_as, executed_if, executed_of, executed, was_answered, answered_as, answered_at, answered_of, answered, was_lost, lost_at, lost_of, lost}
use Rattle.world_model.specs.Gains.{Replies, gained, all_fetched, reply_items}
use Rattle.world_model.specs.Places.{nth, with_nth, with_kept, kept_at, place_at, call_place, stream_place, is_among, with_ticket, with_posted, with_core}
use Rattle.world_model.specs.Sends.{next_call, next_stream, call_sent, stream_begun, stream_opened, closed_in, stream_closed, job_done, worked, sent_at, sent}
use Rattle.world_model.specs.Starts.{started_over, started, clock_set_at, clock_set, looked, ticked_at, ticked}
use Rattle.world_model.specs.State.{Place, OpenedStream, World}
use Rattle.world_model.specs.Steps.{Step, at_place_of, by_outcome, after_core, steps}
use Rattle.world_model.specs.StoreLines.{not_due, expired_if, expired_by, lease_expired, store_stepped, member_applied}
use Rattle.world_model.specs.Streams.{pushed_as, pushed_at, pushed_of, message_pushed, progress_pushed, open_place, was_delivered, delivered_as, delivered_at, delivered_of, delivered, was_cut, cut_at, cut_of, cut}
use Rattle.world_model.specs.Takes.{is_watch, took, taken_if, taken_at, message_taken, has_left, left_if, left_at, left}
use Rattle.core_model.specs.Lookups.{is_known}
use Rattle.world_model.specs.Transcript.{step, Taken, counted, taken, begun, items_and_then, transcript, transcript_from}
use Rattle.world_laws.proofs.Quiet.{IsTrue, AreTrue, AreTrue-append, AreTrue-later, saw_all-append, IsQuiet, reply_quiet, replies_quiet, taken_quiet}
use Rattle.world_laws.proofs.Pushing.{pushed_so, progressed_so}

abbrev pub member_and_request : SentCall → ℕ × Request
member_and_request call = (call.member, call.request)

-- the items told the world's store and calls
pub record Tells (s : Seen) (w : World) : Type 0 where
  pub stored : s.store ≡ w.store
  pub called : s.calls ≡ map member_and_request w.calls

-- where a line was taken, its items are true, and they tell the world that it left
abbrev Goes : Seen → World → Result (List Item) WorldFault → Type 0
Goes s w (Ok items) = AreTrue s items × Tells (saw_all s items) w
Goes s w (Err why) = Unit {0}

abbrev StepGoes : Seen → Step → Type 0
StepGoes s x = Goes s x.world x.gained

-- ---- what all lines of a proxy have in common

-- own items that are true, and then replies
gained_goes : (s : Seen) (w : World) (p : ℕ) (x : Place) (own : List Item) (told : Replies)
    → AreTrue s own → Tells (saw_all s own) w → StepGoes s (gained w p x own told)
gained_goes s w p x own told true_own h =
    let f = all_fetched x told in
    let items = flat_map (reply_items p f.place.posted) f.replies in
    let q = replies_quiet p f.place.posted f.replies in
    let same = saw_all-append s own items ∙ q.tell_nothing (saw_all s own) in (
      AreTrue-append s own items true_own (q.are_true (saw_all s own)),
      record { stored = ap (λ (t : Seen). t.store) same ∙ h.stored; called = ap (λ (t : Seen). t.calls) same ∙ h.called },
    )

-- own items that tell nothing of the store
quiet_goes : (s : Seen) (w : World) (p : ℕ) (x : Place) (own : List Item) (told : Replies)
    → IsQuiet own → Tells s w → StepGoes s (gained w p x own told)
quiet_goes s w p x own told q h =
    let same = q.tell_nothing s in
    gained_goes s w p x own told (q.are_true s)
    (record { stored = ap (λ (t : Seen). t.store) same ∙ h.stored; called = ap (λ (t : Seen). t.calls) same ∙ h.called })

outcome_goes : (s : Seen) (w : World) (p : ℕ) (x : Place) (why : WorldFault) (next : Place → Outcome → Step) (r : Result Outcome StepFault)
    → ((y : Place) (o : Outcome) → StepGoes s (next y o)) → StepGoes s (by_outcome w p x why next r)
outcome_goes s w p x why next (Ok o) h = h x o
outcome_goes s w p x why next (Err f) h = tt

core_goes : (s : Seen) (w : World) (p : ℕ) (x : Place) (why : WorldFault) (next : Place → Outcome → Step) (c : Stepped)
    → ((y : Place) (o : Outcome) → StepGoes s (next y o)) → StepGoes s (after_core w p x why next c)
core_goes s w p x why next c h = outcome_goes s w p (with_core x c.core) why next c.outcome h

steps_goes : (s : Seen) (w : World) (p : ℕ) (x : Place) (event : CoreEvent) (why : WorldFault) (next : Place → Outcome → Step)
    → ((y : Place) (o : Outcome) → StepGoes s (next y o)) → StepGoes s (steps w p x event why next)
steps_goes s w p x event why next h = core_goes s w p x why next (stepped x.core event x.clock) h

at_goes : (s : Seen) (w : World) (p : ℕ) (o : Option Place) (f : Place → Step) → ((x : Place) → StepGoes s (f x)) → StepGoes s (at_place_of w p o f)
at_goes s w p None f h = tt
at_goes s w p (Some x) f h = h x

choice : (s : Seen) (b : Bool) (x y : Step) → StepGoes s x → StepGoes s y → StepGoes s (cond b x y)
choice s true x y f g = f
choice s false x y f g = g

-- an item that tells nothing of the store, by itself
one_quiet : (i : Item) → ((s : Seen) → IsTrue s i) → ((s : Seen) → saw s i ≡ s) → IsQuiet (i ∷ [])
one_quiet i is_true same = record { are_true = λ s. (is_true s, tt); tell_nothing = same }

-- ---- starts, clocks, ticks

started_goes : (s : Seen) (w : World) (p : ℕ) (o : Option Place) → Tells s w → StepGoes s (started_over w p o)
started_goes s w p None h = ((tt, tt), record { stored = h.stored; called = h.called })
started_goes s w p (Some x) h = ((tt, tt), record { stored = h.stored; called = h.called })

clock_goes : (s : Seen) (w : World) (p millis : ℕ) → Tells s w → StepGoes s (clock_set w p millis)
clock_goes s w p millis h =
    at_goes s w p (place_at w p) (clock_set_at w p millis)
    (λ x. choice s (nat_lt millis x.clock) _ _ tt ((tt, tt), record { stored = h.stored; called = h.called }))

ticked_goes : (s : Seen) (w : World) (p : ℕ) → Tells s w → StepGoes s (ticked w p)
ticked_goes s w p h =
    at_goes s w p (place_at w p) (ticked_at w p)
    (λ x. steps_goes s w p x _ _ (looked w p) (λ y o. quiet_goes s w p y (item.Ticked p ∷ []) [] (one_quiet (item.Ticked p) (λ t. tt) (λ t. refl)) h))

-- ---- asks and posts

asked_quiet : (p ticket : ℕ) (q : Request) → IsQuiet (item.Asked p ticket q ∷ [])
asked_quiet p ticket q = one_quiet (item.Asked p ticket q) (λ t. tt) (λ t. refl)

posted_quiet : (p ticket : ℕ) (path body : List ℕ) → IsQuiet (item.Posted p ticket path body ∷ [])
posted_quiet p ticket path body = one_quiet (item.Posted p ticket path body) (λ t. tt) (λ t. refl)

asks_goes : (s : Seen) (w : World) (p ticket : ℕ) (q : Request) (before : List Item) (mark : Place → Place) (x : Place)
    → IsQuiet (before ++ item.Asked p ticket q ∷ []) → Tells s w → StepGoes s (asks w p ticket q before mark x)
asks_goes s w p ticket q before mark x quiet h =
    steps_goes s w p x _ _ (was_asked w p ticket q before mark)
    (λ y o. quiet_goes s w p (mark y) (before ++ item.Asked p ticket q ∷ []) (told_at_once ticket o) quiet h)

asked_goes : (s : Seen) (w : World) (p ticket : ℕ) (q : Request) → Tells s w → StepGoes s (asked w p ticket q)
asked_goes s w p ticket q h =
    at_goes s w p (place_at w p) (asked_at w p ticket q)
    (λ x. choice s (is_among x.tickets ticket) _ _ tt (asks_goes s w p ticket q [] (with_ticket ticket) x (asked_quiet p ticket q) h))

-- posted, and then asked
post_asks : (p ticket : ℕ) (path body : List ℕ) (q : Request) → IsQuiet ((item.Posted p ticket path body ∷ []) ++ item.Asked p ticket q ∷ [])
post_asks p ticket path body q = record { are_true = λ s. (tt, (tt, tt)); tell_nothing = λ s. refl }

refused_goes : (s : Seen) (w : World) (p ticket : ℕ) (path body : List ℕ) (a : Answer) (x : Place) → Tells s w
    → StepGoes s (post_refused w p ticket (item.Posted p ticket path body ∷ []) a x)
refused_goes s w p ticket path body a x h =
    let q = reply_quiet p x.posted (ticket, a) in
    let same = q.tell_nothing s in
    ((tt, q.are_true s), record { stored = ap (λ (t : Seen). t.store) same ∙ h.stored; called = ap (λ (t : Seen). t.calls) same ∙ h.called })

posted_by : (s : Seen) (w : World) (p ticket : ℕ) (path body : List ℕ) (x : Place) (r : Result Request ApiFault) → Tells s w
    → StepGoes s (posted_as w p ticket (item.Posted p ticket path body ∷ []) x r)
posted_by s w p ticket path body x (Ok q) h = asks_goes s w p ticket q (item.Posted p ticket path body ∷ []) (with_posted ticket) x (post_asks p ticket path body q) h
posted_by s w p ticket path body x (Err why) h = refused_goes s w p ticket path body (Refused (post_refusal why)) (with_posted ticket x) h

posted_goes : (s : Seen) (w : World) (p ticket : ℕ) (path body : List ℕ) → Tells s w → StepGoes s (posted w p ticket path body)
posted_goes s w p ticket path body h =
    at_goes s w p (place_at w p) (posted_at w p ticket path body)
    (λ x. choice s (is_among x.tickets ticket) _ _ tt (posted_by s w p ticket path body x (request_of Client path body) h))

-- ---- sends

call_goes : (s : Seen) (w : World) (p : ℕ) (x : Place) (own member ticket : ℕ) (q : Request) → Tells s w → StepGoes s (call_sent w p x own member ticket q)
call_goes s w p x own member ticket q h =
    gained_goes s _ p (record x { calls = x.calls ++ next_call w ∷ [] }) (item.Sent p (next_call w) member ticket q ∷ []) [] (tt, tt)
    (record {
      stored = h.stored;
      called = ap (λ (calls : List (ℕ × Request)). calls ++ (member, q) ∷ []) h.called ∙ sym (map-append member_and_request w.calls _);
    })

begun_stream_goes : (s : Seen) (w : World) (p : ℕ) (x : Place) (own member : ℕ) (ask : WatchAsk) → Tells s w
    → StepGoes s (stream_begun w p x own member ask (opened w.store member ask))
begun_stream_goes s w p x own member ask h =
    gained_goes s _ p (record x { streams = with_kept x.streams own (next_stream w) }) (item.Opened p (next_stream w) member (request.Watch ask) ∷ []) [] (tt, tt)
    (record { stored = ap (λ (store : State). (opened store member ask).0) h.stored; called = h.called })

opened_goes : (s : Seen) (w : World) (p : ℕ) (x : Place) (own member : ℕ) (q : Request) → Tells s w → StepGoes s (stream_opened w p x own member q)
opened_goes s w p x own member (request.Watch ask) h = begun_stream_goes s w p x own member ask h
opened_goes s w p x own member (request.Range ask) h = tt
opened_goes s w p x own member (request.Put ask) h = tt
opened_goes s w p x own member (request.Delete ask) h = tt
opened_goes s w p x own member (request.Txn ask) h = tt
opened_goes s w p x own member (request.Compact revision physical) h = tt
opened_goes s w p x own member (request.Grant ttl lease) h = tt
opened_goes s w p x own member (request.Revoke lease) h = tt
opened_goes s w p x own member (request.KeepAlive lease) h = tt
opened_goes s w p x own member (request.TimeToLive lease keys) h = tt
opened_goes s w p x own member request.Leases h = tt

closed_tells : (s : Seen) (w : World) (number : ℕ) (o : Option OpenedStream) → Tells s w → Tells s (closed_in w number o)
closed_tells s w number None h = h
closed_tells s w number (Some stream) h = record { stored = h.stored; called = h.called }

closed_goes : (s : Seen) (w : World) (p : ℕ) (x : Place) (o : Option ℕ) → Tells s w → StepGoes s (stream_closed w p x o)
closed_goes s w p x None h = tt
closed_goes s w p x (Some number) h =
    quiet_goes s _ p x _ [] (one_quiet (item.Closed p number) (λ t. tt) (λ t. refl)) (closed_tells s w number (nth w.streams number) h)

job_goes : (s : Seen) (w : World) (p : ℕ) (x : Place) (j : Job) → Tells s w → StepGoes s (job_done w p x j)
job_goes s w p x (job.Call own member ticket q) h = call_goes s w p x own member ticket q h
job_goes s w p x (job.Begin own member q) h = opened_goes s w p x own member q h
job_goes s w p x (job.Close own) h = closed_goes s w p x (kept_at x.streams own) h

worked_goes : (s : Seen) (w : World) (p : ℕ) (x : Place) (o : Outcome) → Tells s w → StepGoes s (worked w p x o)
worked_goes s w p x (outcome.Job (Some j)) h = job_goes s w p x j h
worked_goes s w p x (outcome.Job None) h = tt
worked_goes s w p x (outcome.Replied a) h = tt
worked_goes s w p x outcome.Waiting h = tt
worked_goes s w p x outcome.Pending h = tt
worked_goes s w p x (outcome.Item i) h = tt
worked_goes s w p x outcome.Noted h = tt

sent_goes : (s : Seen) (w : World) (p : ℕ) → Tells s w → StepGoes s (sent w p)
sent_goes s w p h =
    at_goes s w p (place_at w p) (sent_at w p) (λ x. steps_goes s w p x _ _ (worked w p) (λ y o. worked_goes s w p y o h))

-- ---- calls

some_is : {A : Type 0} (x y : A) → Some x ≡ Some y → x ≡ y
some_is x y e = cc

-- a call of the world is the one that its items told
call_told : (s : Seen) (w : World) (number : ℕ) (call : SentCall) → Tells s w → nth w.calls number ≡ Some call → sent_call s number ≡ Some (member_and_request call)
call_told s w number call h e = by (number == 0) e
  where
    by : (b : Bool) → cond b None (slice_get w.calls (number - 1)) ≡ Some call → cond b None (slice_get s.calls (number - 1)) ≡ Some (member_and_request call)
    by true e = absurd (cc)
    by false e = ap (λ (calls : List (ℕ × Request)). slice_get calls (number - 1)) h.called ∙ slice_get-map member_and_request w.calls (number - 1) ∙ ap (option_map member_and_request) e

map-set_same : (calls : List SentCall) (i : ℕ) (old new : SentCall) → slice_get calls i ≡ Some old → member_and_request new ≡ member_and_request old
    → map member_and_request (set calls i new) ≡ map member_and_request calls
map-set_same [] i old new e same = refl
map-set_same (call ∷ calls) zero old new e same =
    ap (λ (x : ℕ × Request). x ∷ map member_and_request calls) (same ∙ sym (ap member_and_request (some_is call old e)))
map-set_same (call ∷ calls) (suc i) old new e same = ap (λ (xs : List (ℕ × Request)). member_and_request call ∷ xs) (map-set_same calls i old new e same)

-- a call that keeps its member and its request keeps what the items told
call_kept : (calls : List SentCall) (number : ℕ) (old new : SentCall) → nth calls number ≡ Some old → member_and_request new ≡ member_and_request old
    → map member_and_request (with_nth calls number new) ≡ map member_and_request calls
call_kept calls number old new e same = by (number == 0) e
  where
    by : (b : Bool) → cond b None (slice_get calls (number - 1)) ≡ Some old → map member_and_request (set calls (number - 1) new) ≡ map member_and_request calls
    by true e = absurd (cc)
    by false e = map-set_same calls (number - 1) old new e same

executed_so : (s : Seen) (w : World) (number : ℕ) (call : SentCall) → Tells s w → nth w.calls number ≡ Some call
    → StepGoes s (executed_as w number call (exec w.store call.member call.request))
executed_so s w number call h e =
    let told = call_told s w number call h e in (
      (ap (option_map (λ (c : ℕ × Request). (exec s.store c.0 c.1).1)) told ∙ ap (λ (store : State). Some (exec store call.member call.request).1) h.stored, tt),
      record {
        stored = ap (after_call s.store) told ∙ ap (λ (store : State). (exec store call.member call.request).0) h.stored;
        called = h.called ∙ sym (call_kept w.calls number call _ e refl);
      },
    )

executed_by : (s : Seen) (w : World) (number : ℕ) (call : SentCall) (o : Option Answer) → Tells s w → nth w.calls number ≡ Some call
    → StepGoes s (executed_if w number call o)
executed_by s w number call (Some a) h e = tt
executed_by s w number call None h e = executed_so s w number call h e

executed_goes : (s : Seen) (w : World) (number : ℕ) (o : Option SentCall) → nth w.calls number ≡ o → Tells s w → StepGoes s (executed_of w number o)
executed_goes s w number None e h = tt
executed_goes s w number (Some call) e h = executed_by s w number call call.executed h e

answered_quiet : (number : ℕ) → IsQuiet (item.Answered number ∷ [])
answered_quiet number = one_quiet (item.Answered number) (λ t. tt) (λ t. refl)

lost_quiet : (number : ℕ) → IsQuiet (item.Lost number ∷ [])
lost_quiet number = one_quiet (item.Lost number) (λ t. tt) (λ t. refl)

answered_by : (s : Seen) (w : World) (number : ℕ) (call : SentCall) (x : Place) (o : Option Answer) → Tells s w → nth w.calls number ≡ Some call
    → StepGoes s (answered_as w number call x o)
answered_by s w number call x None h e = tt
answered_by s w number call x (Some a) h e =
    steps_goes s w call.proxy x _ _ (was_answered w number call)
    (λ y o. quiet_goes s _ call.proxy y _ [] (answered_quiet number) (record { stored = h.stored; called = h.called ∙ sym (call_kept w.calls number call _ e refl) }))

answered_in : (s : Seen) (w : World) (number : ℕ) (call : SentCall) (o : Option Place) → Tells s w → nth w.calls number ≡ Some call
    → StepGoes s (answered_at w number call o)
answered_in s w number call None h e = tt
answered_in s w number call (Some x) h e = answered_by s w number call x call.executed h e

answered_goes : (s : Seen) (w : World) (number : ℕ) (o : Option SentCall) → nth w.calls number ≡ o → Tells s w → StepGoes s (answered_of w number o)
answered_goes s w number None e h = tt
answered_goes s w number (Some call) e h = answered_in s w number call (call_place w call) h e

lost_in : (s : Seen) (w : World) (number : ℕ) (call : SentCall) (o : Option Place) → Tells s w → nth w.calls number ≡ Some call
    → StepGoes s (lost_at w number call o)
lost_in s w number call None h e = tt
lost_in s w number call (Some x) h e =
    steps_goes s w call.proxy x _ _ (was_lost w number call)
    (λ y o. quiet_goes s _ call.proxy y _ [] (lost_quiet number) (record { stored = h.stored; called = h.called ∙ sym (call_kept w.calls number call _ e refl) }))

lost_goes : (s : Seen) (w : World) (number : ℕ) (o : Option SentCall) → nth w.calls number ≡ o → Tells s w → StepGoes s (lost_of w number o)
lost_goes s w number None e h = tt
lost_goes s w number (Some call) e h = lost_in s w number call (call_place w call) h e

-- ---- streams

message_goes : (s : Seen) (w : World) (number : ℕ) (stream : OpenedStream) (after : State) (i : WatchItem)
    → message_by w.store number i ≡ Ok (after, i) → Tells s w → StepGoes s (pushed_as w number stream (Ok (after, i)))
message_goes s w number stream after i e h =
    let told : message_by s.store number i ≡ Ok (after, i) = ap (λ (store : State). message_by store number i) h.stored ∙ e in
    ((ap message_of told, tt), record { stored = ap (after_push s.store) told; called = h.called })

pushed_by : (s : Seen) (w : World) (number : ℕ) (stream : OpenedStream) (k : Pushed)
    → ((after : State) (i : WatchItem) → k ≡ Ok (after, i) → message_by w.store number i ≡ Ok (after, i)) → Tells s w → StepGoes s (pushed_as w number stream k)
pushed_by s w number stream (Err why) so h = tt
pushed_by s w number stream (Ok p) so h = message_goes s w number stream p.0 p.1 (so p.0 p.1 refl) h

pushed_in : (s : Seen) (w : World) (number : ℕ) (message : ℕ → Pushed) (stream : OpenedStream) (o : Option Place)
    → ((after : State) (i : WatchItem) → message number ≡ Ok (after, i) → message_by w.store number i ≡ Ok (after, i)) → Tells s w
    → StepGoes s (pushed_at w number message stream o)
pushed_in s w number message stream None so h = tt
pushed_in s w number message stream (Some x) so h = pushed_by s w number stream (message number) so h

pushed_goes : (s : Seen) (w : World) (number : ℕ) (message : ℕ → Pushed) (o : Option OpenedStream)
    → ((after : State) (i : WatchItem) → message number ≡ Ok (after, i) → message_by w.store number i ≡ Ok (after, i)) → Tells s w
    → StepGoes s (pushed_of w number message o)
pushed_goes s w number message None so h = tt
pushed_goes s w number message (Some stream) so h = pushed_in s w number message stream (open_place w stream) so h

delivered_by : (s : Seen) (w : World) (number : ℕ) (stream : OpenedStream) (x : Place) (waiting : List WatchItem) → Tells s w
    → StepGoes s (delivered_as w number stream x waiting)
delivered_by s w number stream x [] h = tt
delivered_by s w number stream x (i ∷ rest) h =
    steps_goes s w stream.proxy x _ _ (was_delivered w number stream rest)
    (λ y o. quiet_goes s _ stream.proxy y _ [] (one_quiet (item.Delivered number) (λ t. tt) (λ t. refl)) (record { stored = h.stored; called = h.called }))

delivered_in : (s : Seen) (w : World) (number : ℕ) (stream : OpenedStream) (o : Option Place) → Tells s w → StepGoes s (delivered_at w number stream o)
delivered_in s w number stream None h = tt
delivered_in s w number stream (Some x) h = delivered_by s w number stream x stream.waiting h

delivered_goes : (s : Seen) (w : World) (number : ℕ) (o : Option OpenedStream) → Tells s w → StepGoes s (delivered_of w number o)
delivered_goes s w number None h = tt
delivered_goes s w number (Some stream) h = delivered_in s w number stream (stream_place w stream) h

cut_in : (s : Seen) (w : World) (number : ℕ) (stream : OpenedStream) (o : Option Place) → Tells s w → StepGoes s (cut_at w number stream o)
cut_in s w number stream None h = tt
cut_in s w number stream (Some x) h =
    steps_goes s w stream.proxy x _ _ (was_cut w number stream)
    (λ y o. quiet_goes s _ stream.proxy y _ [] (one_quiet (item.Cut number) (λ t. tt) (λ t. refl)) (record { stored = h.stored; called = h.called }))

cut_goes : (s : Seen) (w : World) (number : ℕ) (o : Option OpenedStream) → Tells s w → StepGoes s (cut_of w number o)
cut_goes s w number None h = tt
cut_goes s w number (Some stream) h = cut_in s w number stream (open_place w stream) h

-- ---- takes and leaves

pending_goes : (s : Seen) (w : World) (p ticket : ℕ) (x : Place) → Tells s w → StepGoes s (gained w p x (item.Pending p ticket ∷ []) [])
pending_goes s w p ticket x h = quiet_goes s w p x _ [] (one_quiet (item.Pending p ticket) (λ t. tt) (λ t. refl)) h

took_goes : (s : Seen) (w : World) (p ticket : ℕ) (x : Place) (o : Outcome) → Tells s w → StepGoes s (took w p ticket x o)
took_goes s w p ticket x (outcome.Item i) h = quiet_goes s w p x _ [] (taken_quiet p x.posted ticket i) h
took_goes s w p ticket x (outcome.Job j) h = pending_goes s w p ticket x h
took_goes s w p ticket x (outcome.Replied a) h = pending_goes s w p ticket x h
took_goes s w p ticket x outcome.Waiting h = pending_goes s w p ticket x h
took_goes s w p ticket x outcome.Pending h = pending_goes s w p ticket x h
took_goes s w p ticket x outcome.Noted h = pending_goes s w p ticket x h

taken_by : (s : Seen) (w : World) (p ticket : ℕ) (x : Place) (b : Bool) → Tells s w → StepGoes s (taken_if w p ticket x b)
taken_by s w p ticket x false h = tt
taken_by s w p ticket x true h = steps_goes s w p x _ _ (took w p ticket) (λ y o. took_goes s w p ticket y o h)

message_taken_goes : (s : Seen) (w : World) (p ticket : ℕ) → Tells s w → StepGoes s (message_taken w p ticket)
message_taken_goes s w p ticket h = at_goes s w p (place_at w p) (taken_at w p ticket) (λ x. taken_by s w p ticket x (is_watch ticket x) h)

left_by : (s : Seen) (w : World) (p ticket : ℕ) (x : Place) (b : Bool) → Tells s w → StepGoes s (left_if w p ticket x b)
left_by s w p ticket x false h = tt
left_by s w p ticket x true h =
    steps_goes s w p x _ _ (has_left w p ticket) (λ y o. quiet_goes s w p y _ [] (one_quiet (item.Left p ticket) (λ t. tt) (λ t. refl)) h)

left_goes : (s : Seen) (w : World) (p ticket : ℕ) → Tells s w → StepGoes s (left w p ticket)
left_goes s w p ticket h = at_goes s w p (place_at w p) (left_at w p ticket) (λ x. left_by s w p ticket x (is_known ticket x.core) h)

-- ---- lines of the store

due_goes : (s : Seen) (w : World) (lease : ℕ) (o : Option WorldFault) (after : State) → expired w.store lease ≡ Ok after → Tells s w → StepGoes s (expired_if w lease o after)
due_goes s w lease (Some why) after e h = tt
due_goes s w lease None after e h =
    ((tt, tt), record { stored = ap (λ (store : State). after_step store (expired store lease)) h.stored ∙ ap (after_step w.store) e; called = h.called })

expired_goes : (s : Seen) (w : World) (lease : ℕ) (r : Result State StoreFault) → expired w.store lease ≡ r → Tells s w → StepGoes s (expired_by w lease r)
expired_goes s w lease (Err why) e h = tt
expired_goes s w lease (Ok after) e h = due_goes s w lease (not_due w lease) after e h

applied_goes : (s : Seen) (w : World) (member revision : ℕ) (r : Result State StoreFault) → applied w.store member revision ≡ r → Tells s w
    → StepGoes s (store_stepped w (item.Applied member revision) r)
applied_goes s w member revision (Err why) e h = tt
applied_goes s w member revision (Ok after) e h =
    ((tt, tt), record { stored = ap (λ (store : State). after_step store (applied store member revision)) h.stored ∙ ap (after_step w.store) e; called = h.called })

-- ---- all lines

abbrev TakenGoes : Seen → Taken → Type 0
TakenGoes s (Ok gained) = AreTrue s gained.1 × Tells (saw_all s gained.1) gained.0
TakenGoes s (Err why) = Unit {0}

counted_by : (s : Seen) (w : World) (r : Result (List Item) WorldFault) → Goes s w r → TakenGoes s (counted (step (record { world = w; gained = r })))
counted_by s w (Ok items) g = (g.0, record { stored = g.1.stored; called = g.1.called })
counted_by s w (Err why) g = tt

counts : (s : Seen) (x : Step) → StepGoes s x → TakenGoes s (counted (step x))
counts s x g = counted_by s x.world x.gained g

pub taken_goes : (s : Seen) (w : World) (l : Line) → Tells s w → TakenGoes s (taken w l)
taken_goes s w (line.World members namespace leasing) h = tt
taken_goes s w (line.Start p) h = counts s (started w p) (started_goes s w p (place_at w p) h)
taken_goes s w (line.Clock p millis) h = counts s (clock_set w p millis) (clock_goes s w p millis h)
taken_goes s w (line.Ask p ticket q) h = counts s (asked w p ticket q) (asked_goes s w p ticket q h)
taken_goes s w (line.Post p ticket path body) h = counts s (posted w p ticket path body) (posted_goes s w p ticket path body h)
taken_goes s w (line.Tick p) h = counts s (ticked w p) (ticked_goes s w p h)
taken_goes s w (line.Send p) h = counts s (sent w p) (sent_goes s w p h)
taken_goes s w (line.Exec number) h = counts s (executed w number) (executed_goes s w number (nth w.calls number) refl h)
taken_goes s w (line.Answer number) h = counts s (answered w number) (answered_goes s w number (nth w.calls number) refl h)
taken_goes s w (line.Lose number) h = counts s (lost w number) (lost_goes s w number (nth w.calls number) refl h)
taken_goes s w (line.Push number) h =
    counts s (message_pushed w number) (pushed_goes s w number (push_of w.store) (nth w.streams number) (λ after i e. pushed_so w.store after number i e) h)
taken_goes s w (line.Progress number) h =
    counts s (progress_pushed w number) (pushed_goes s w number (progressed w.store) (nth w.streams number) (λ after i e. progressed_so w.store after number i e) h)
taken_goes s w (line.Deliver number) h = counts s (delivered w number) (delivered_goes s w number (nth w.streams number) h)
taken_goes s w (line.Cut number) h = counts s (cut w number) (cut_goes s w number (nth w.streams number) h)
taken_goes s w (line.Take p ticket) h = counts s (message_taken w p ticket) (message_taken_goes s w p ticket h)
taken_goes s w (line.Leave p ticket) h = counts s (left w p ticket) (left_goes s w p ticket h)
taken_goes s w (line.Expire lease) h = counts s (lease_expired w lease) (expired_goes s w lease (expired w.store lease) refl h)
taken_goes s w (line.Apply member revision) h =
    counts s (member_applied w member revision) (applied_goes s w member revision (applied w.store member revision) refl h)

rest_true : (s : Seen) (t : Taken) (lines : List Line) → TakenGoes s t
    → ((s : Seen) (w : World) → Tells s w → AreTrue s (transcript_from (Some w) lines))
    → AreTrue s (items_and_then t (λ after. transcript_from (Some after) lines))
rest_true s (Ok gained) lines g more = AreTrue-append s gained.1 _ g.0 (more (saw_all s gained.1) gained.0 g.1)
rest_true s (Err why) lines g more = tt

lines_true : (lines : List Line) (s : Seen) (w : World) → Tells s w → AreTrue s (transcript_from (Some w) lines)
lines_true [] s w h = tt
lines_true (l ∷ lines) s w h = rest_true s (taken w l) lines (taken_goes s w l h) (lines_true lines)

begun_goes : (l : Line) → TakenGoes unseen (begun l)
begun_goes (line.World members namespace leasing) = ((tt, tt), record { stored = refl; called = refl })
begun_goes _ = tt

pub transcript_true : (lines : List Line) → AreTrue unseen (transcript lines)
transcript_true [] = tt
transcript_true (l ∷ lines) = rest_true unseen (begun l) lines (begun_goes l) (lines_true lines)

pub answers_are_the_stores : (lines : List Line) → AnswersAreTheStores (transcript lines)
answers_are_the_stores lines earlier later number answer e =
    let at = subst (λ (xs : List Item). AreTrue unseen xs) e (transcript_true lines) in
    (AreTrue-later unseen earlier (item.Executed number answer ∷ later) at).0

pub messages_are_the_stores : (lines : List Line) → MessagesAreTheStores (transcript lines)
messages_are_the_stores lines earlier later number message e =
    let at = subst (λ (xs : List Item). AreTrue unseen xs) e (transcript_true lines) in
    (AreTrue-later unseen earlier (item.Pushed number message ∷ later) at).0
