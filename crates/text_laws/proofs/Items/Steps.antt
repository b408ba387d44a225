-- Each line that was read gains items that have texts as what was made of them has, and every call and stream is a proxy's.
use Rattle.std.proofs.Common.{◌≡◌, ◌≤◌, ℕ, zero, suc, ◌+◌, ◌-◌, ◌==◌, Bool, true, false, cond, List, [], ◌∷◌, ◌++◌, length, set, slice_get, Option, None, Some, Result, Ok, Err, refl, sym, subst, arith, length-append}
use Rattle.std.specs.Prelude.{nat_lt, nat_le, flat_map}
use Rattle.std.specs.BTreeSet.{BTreeSet}
use Rattle.std.proofs.lemmas.Bool.{le-leb}
use Rattle.std.proofs.lemmas.List.{length-set}
use Rattle.etcd_types.proofs.Bools.{and_both}
use Rattle.etcd_types.specs.declared.answer.Answer.{Answer}
use Rattle.etcd_types.specs.declared.answer.Answer.TheVariants.{Refused}
use Rattle.etcd_types.specs.declared.request.Request.{Request}
use Rattle.etcd_types.specs.declared.request.Request.TheVariants as request
use Rattle.etcd_types.specs.declared.watch.WatchItem.{WatchItem}
use Rattle.json_model.specs.declared.extra.Reading.TheVariants.{Client}
use Rattle.json_model.specs.declared.fault.ApiFault.{ApiFault}
use Rattle.json_model.specs.Mapping.{request_of}
use Rattle.json_model.specs.WrittenReplies.{answer_status, answer_text, item_text}
use Rattle.store_model.specs.declared.store_fault.StoreFault.{StoreFault}
use Rattle.store_model.specs.Leases.{expired}
use Rattle.store_model.specs.Members.{applied}
use Rattle.store_model.specs.State.{State}
use Rattle.store_model.specs.Watches.{Pushed, opened, pushed as push_of, progressed}
use Rattle.core_model.specs.declared.event.CoreEvent.{CoreEvent}
use Rattle.core_model.specs.declared.event.Job.{Job}
use Rattle.core_model.specs.declared.event.Job.TheVariants as job
use Rattle.core_model.specs.declared.event.Outcome.{Outcome}
use Rattle.core_model.specs.declared.event.Outcome.TheVariants as outcome
use Rattle.core_model.specs.declared.event.StepFault.{StepFault}
use Rattle.core_model.specs.Lookups.{is_known}
use Rattle.core_model.specs.Step.{stepped}
use Rattle.text_model.specs.Words.{max_number, number}
use Rattle.script_text.specs.declared.item.Item.{Item}
use Rattle.script_text.specs.declared.item.Item.TheVariants as item
use Rattle.script_text.specs.declared.line.Line.{Line}
use Rattle.script_text.specs.declared.line.Line.TheVariants as line
use Rattle.script_text.specs.Lines.{proxy, ticket, is_line}
use Rattle.world_model.specs.declared.fault.LineRefusal.{LineRefusal}
use Rattle.world_model.specs.declared.fault.WorldFault.{WorldFault}
use Rattle.world_model.specs.declared.sent_call.SentCall.{SentCall}
use Rattle.world_model.specs.Asks.{told_at_once, was_asked, asked_at, asked, posted_as, posted_at, posted}
use Rattle.world_model.specs.Calls.{executed_if, executed_of, was_answered, answered_as, answered_at, answered_of, was_lost, lost_at, lost_of}
use Rattle.world_model.specs.Gains.{Replies, all_fetched, body_if, reply_items, line_if, taken_items, gained}
use Rattle.world_model.specs.Places.{nth, with_nth, kept_at, with_kept, place_at, call_place, stream_place, ended, is_among, with_core, with_place, with_call, with_ticket, with_posted, with_stream}
use Rattle.world_model.specs.PostRefusals.{post_refusal}
use Rattle.world_model.specs.Sends.{next_call, next_stream, new_call, new_stream, stream_opened, closed_in, stream_closed, job_done, worked, sent_at, sent}
use Rattle.world_model.specs.Starts.{started_over, clock_set_at, clock_set, looked, ticked_at, ticked}
use Rattle.world_model.specs.State.{Place, OpenedStream, World}
use Rattle.world_model.specs.Steps.{Step, refuses, at_place_of, by_outcome, steps}
use Rattle.world_model.specs.StoreLines.{not_due, expired_if, expired_by, store_stepped}
use Rattle.world_model.specs.Streams.{with_message, pushed_as, pushed_at, pushed_of, open_place, was_delivered, delivered_as, delivered_at, delivered_of, was_cut, cut_at, cut_of}
use Rattle.world_model.specs.Takes.{is_watch, took, taken_if, taken_at, message_taken, has_left, left_if, left_at, left}
use Rattle.world_model.specs.Transcript.{Done, step, done, refused_so, Taken, counted_as, taken}
use Rattle.text_laws.specs.Items.Texts.{Each, HasTextAsMade, HaveTextsAsMade}
use Rattle.text_laws.proofs.Items.Parts.{each_append, Yes, PartsOf, parts_of, started_text, restarted_text, clock_text, asked_text, posted_text, ticked_text, sent_text, opened_text, closed_text, taken_text, pending_text, left_text, reply_text, body_text, executed_text, answered_text, lost_text, pushed_text, delivered_text, cut_text, expired_text, applied_text}

-- ---- what is kept from line to line

abbrev pub CallFits : SentCall → Type 0
CallFits call = Yes (proxy.fits call.proxy)

abbrev pub StreamFits : OpenedStream → Type 0
StreamFits s = Yes (proxy.fits s.proxy)

-- at most so many lines made it, and each made a call or a stream at most
pub record WorldFits (k : ℕ) (w : World) : Type 0 where
  pub calls : Each CallFits w.calls
  pub streams : Each StreamFits w.streams
  pub few_calls : length w.calls ≤ k
  pub few_streams : length w.streams ≤ k

abbrev pub If : {A : Type 0} → (A → Type 0) → Option A → Type 0
If P None = Unit {0}
If P (Some x) = P x

found : {A : Type 0} (P : A → Type 0) (o : Option A) (x : A) → o ≡ Some x → If P o → P x
found P o x e h = subst (If P) e h

choice : {A : Type 0} (P : A → Type 0) (b : Bool) (x y : A) → P x → P y → P (cond b x y)
choice P true x y f g = f
choice P false x y f g = g

get_each : {A : Type 0} (P : A → Type 0) (xs : List A) (i : ℕ) → Each P xs → If P (slice_get xs i)
get_each P [] i h = tt
get_each P (x ∷ xs) zero h = h.0
get_each P (x ∷ xs) (suc i) h = get_each P xs i h.1

nth_each : {A : Type 0} (P : A → Type 0) (xs : List A) (number : ℕ) → Each P xs → If P (nth xs number)
nth_each P xs number h = choice (If P) (number == 0) None (slice_get xs (number - 1)) tt (get_each P xs (number - 1) h)

set_each : {A : Type 0} (P : A → Type 0) (xs : List A) (i : ℕ) (y : A) → P y → Each P xs → Each P (set xs i y)
set_each P [] i y n h = tt
set_each P (x ∷ xs) zero y n h = (n, h.1)
set_each P (x ∷ xs) (suc i) y n h = (h.0, set_each P xs i y n h.1)

call_fits : (k : ℕ) (w : World) (n : ℕ) (call : SentCall) → nth w.calls n ≡ Some call → WorldFits k w → CallFits call
call_fits k w n call e h = found CallFits (nth w.calls n) call e (nth_each CallFits w.calls n h.calls)

stream_fits : (k : ℕ) (w : World) (n : ℕ) (s : OpenedStream) → nth w.streams n ≡ Some s → WorldFits k w → StreamFits s
stream_fits k w n s e h = found StreamFits (nth w.streams n) s e (nth_each StreamFits w.streams n h.streams)

one_more : (n k : ℕ) → n ≤ k → n ≤ k + 1
one_more n k h = omega (arith, h)

later : (k : ℕ) (w : World) → WorldFits k w → WorldFits (k + 1) w
later k w h = record { calls = h.calls; streams = h.streams; few_calls = one_more (length w.calls) k h.few_calls; few_streams = one_more (length w.streams) k h.few_streams }

-- the calls and streams stay
still : (k : ℕ) (w v : World) → v.calls ≡ w.calls → v.streams ≡ w.streams → WorldFits k w → WorldFits (k + 1) v
still k w v c s h = record {
  calls = subst (Each CallFits) (sym c) h.calls;
  streams = subst (Each StreamFits) (sym s) h.streams;
  few_calls = subst (λ (xs : List SentCall). length xs ≤ k + 1) (sym c) (one_more (length w.calls) k h.few_calls);
  few_streams = subst (λ (xs : List OpenedStream). length xs ≤ k + 1) (sym s) (one_more (length w.streams) k h.few_streams);
}

-- a call is changed, and stays its proxy's
call_changed : (k : ℕ) (w : World) (n : ℕ) (call : SentCall) (s : State) (fs : _) → CallFits call → WorldFits k w → WorldFits (k + 1) (record w { calls = with_nth w.calls n call; store = s; floors = fs })
call_changed k w n call s fs c h = record {
  calls = set_each CallFits w.calls (n - 1) call c h.calls;
  streams = h.streams;
  few_calls = subst (λ (m : ℕ). m ≤ k + 1) (sym (length-set w.calls (n - 1) call)) (one_more (length w.calls) k h.few_calls);
  few_streams = one_more (length w.streams) k h.few_streams;
}

stream_changed : (k : ℕ) (w : World) (n : ℕ) (s : OpenedStream) (store : State) → StreamFits s → WorldFits k w → WorldFits (k + 1) (record w { streams = with_nth w.streams n s; store = store })
stream_changed k w n s store f h = record {
  calls = h.calls;
  streams = set_each StreamFits w.streams (n - 1) s f h.streams;
  few_calls = one_more (length w.calls) k h.few_calls;
  few_streams = subst (λ (m : ℕ). m ≤ k + 1) (sym (length-set w.streams (n - 1) s)) (one_more (length w.streams) k h.few_streams);
}

-- ---- steps

abbrev Gained : Result (List Item) WorldFault → Type 0
Gained (Ok items) = HaveTextsAsMade items
Gained (Err why) = Unit {0}

record Fits (k : ℕ) (s : Step) : Type 0 where
  gained : Gained s.gained
  world : WorldFits (k + 1) s.world

-- a line that is refused, where a proxy may have made a step
refused : (k : ℕ) (w : World) (why : WorldFault) → WorldFits (k + 1) w → Fits k (refuses w why)
refused k w why h = record { gained = tt; world = h }

body_fits : (p t : ℕ) (a : Answer) (b : Bool) → Yes (proxy.fits p) → HaveTextsAsMade (body_if b p t a)
body_fits p t a false h = tt
body_fits p t a true h = (body_text p t (answer_status a) (answer_text a) h, tt)

reply_fits : (p : ℕ) (posted : BTreeSet ℕ) (r : ℕ × Answer) → Yes (proxy.fits p) → HaveTextsAsMade (reply_items p posted r)
reply_fits p posted r h = (reply_text p r.0 r.1 h, body_fits p r.0 r.1 (is_among posted r.0) h)

replies_fit : (p : ℕ) (posted : BTreeSet ℕ) (rs : Replies) → Yes (proxy.fits p) → HaveTextsAsMade (flat_map (reply_items p posted) rs)
replies_fit p posted [] h = tt
replies_fit p posted (r ∷ rs) h = each_append HasTextAsMade (reply_items p posted r) (flat_map (reply_items p posted) rs) (reply_fits p posted r h) (replies_fit p posted rs h)

gained_fits : (k : ℕ) (w : World) (p : ℕ) (x : Place) (own : List Item) (told : Replies) → Yes (proxy.fits p) → HaveTextsAsMade own → WorldFits (k + 1) w → Fits k (gained w p x own told)
gained_fits k w p x own told h o g =
    let f = all_fetched x told in
    record {
      gained = each_append HasTextAsMade own (flat_map (reply_items p f.place.posted) f.replies) o (replies_fit p f.place.posted f.replies h);
      world = record { calls = g.calls; streams = g.streams; few_calls = g.few_calls; few_streams = g.few_streams };
    }

outcome_fits : (k : ℕ) (w : World) (p : ℕ) (x : Place) (why : WorldFault) (next : Place → Outcome → Step) (r : Result Outcome StepFault) → WorldFits k w
    → ((y : Place) (o : Outcome) → Fits k (next y o)) → Fits k (by_outcome w p x why next r)
outcome_fits k w p x why next (Ok o) g h = h x o
outcome_fits k w p x why next (Err f) g h = refused k (with_place w p x) _ (still k w (with_place w p x) refl refl g)

steps_fit : (k : ℕ) (w : World) (p : ℕ) (x : Place) (e : CoreEvent) (why : WorldFault) (next : Place → Outcome → Step) → WorldFits k w
    → ((y : Place) (o : Outcome) → Fits k (next y o)) → Fits k (steps w p x e why next)
steps_fit k w p x e why next g h = outcome_fits k w p (with_core x (stepped x.core e x.clock).core) why next (stepped x.core e x.clock).outcome g h

at_fits : (k : ℕ) (w : World) (p : ℕ) (o : Option Place) (f : Place → Step) → WorldFits k w → ((x : Place) → Fits k (f x)) → Fits k (at_place_of w p o f)
at_fits k w p None f g h = refused k w _ (later k w g)
at_fits k w p (Some x) f g h = h x

-- ---- line by line

started_fits : (k : ℕ) (w : World) (p : ℕ) (o : Option Place) → Yes (proxy.fits p) → WorldFits k w → Fits k (started_over w p o)
started_fits k w p None h g = record { gained = (started_text p h, tt); world = still k w _ refl refl g }
started_fits k w p (Some x) h g = record { gained = (restarted_text p h, tt); world = still k w _ refl refl g }

clock_fits : (k : ℕ) (w : World) (p millis : ℕ) → Yes (proxy.fits p) → Yes (number.fits millis) → WorldFits k w → Fits k (clock_set w p millis)
clock_fits k w p millis h n g =
    at_fits k w p (place_at w p) (clock_set_at w p millis) g
    (λ x. choice (Fits k) (nat_lt millis x.clock) _ _ (refused k w _ (later k w g)) (record { gained = (clock_text p millis h n, tt); world = still k w _ refl refl g }))

ticked_fits : (k : ℕ) (w : World) (p : ℕ) → Yes (proxy.fits p) → WorldFits k w → Fits k (ticked w p)
ticked_fits k w p h g =
    at_fits k w p (place_at w p) (ticked_at w p) g
    (λ x. steps_fit k w p x _ _ (looked w p) g (λ y o. gained_fits k w p y (item.Ticked p ∷ []) [] h (ticked_text p h, tt) (later k w g)))

asked_fits : (k : ℕ) (w : World) (p t : ℕ) (q : Request) → Yes (proxy.fits p) → Yes (ticket.fits t) → WorldFits k w → Fits k (asked w p t q)
asked_fits k w p t q h n g =
    at_fits k w p (place_at w p) (asked_at w p t q) g
    (λ x. choice (Fits k) (is_among x.tickets t) _ _ (refused k w _ (later k w g))
    (steps_fit k w p x _ _ (was_asked w p t q [] (with_ticket t)) g
    (λ y o. gained_fits k w p (with_ticket t y) (item.Asked p t q ∷ []) (told_at_once t o) h (asked_text p t q h n, tt) (later k w g))))

posted_by : (k : ℕ) (w : World) (p t : ℕ) (path body : List ℕ) (x : Place) (r : Result Request ApiFault) → PartsOf (line.Post p t path body) → WorldFits k w
    → Fits k (posted_as w p t (item.Posted p t path body ∷ []) x r)
posted_by k w p t path body x (Ok q) h g =
    steps_fit k w p x _ _ (was_asked w p t q (item.Posted p t path body ∷ []) (with_posted t)) g
    (λ y o. gained_fits k w p (with_posted t y) (item.Posted p t path body ∷ item.Asked p t q ∷ []) (told_at_once t o) h.0 (posted_text p t path body h.0 h.1 h.2 h.3, (asked_text p t q h.0 h.1, tt)) (later k w g))
posted_by k w p t path body x (Err why) h g = record {
  gained = (posted_text p t path body h.0 h.1 h.2 h.3, reply_fits p (with_posted t x).posted (t, Refused (post_refusal why)) h.0);
  world = still k w _ refl refl g;
}

posted_fits : (k : ℕ) (w : World) (p t : ℕ) (path body : List ℕ) → PartsOf (line.Post p t path body) → WorldFits k w → Fits k (posted w p t path body)
posted_fits k w p t path body h g =
    at_fits k w p (place_at w p) (posted_at w p t path body) g
    (λ x. choice (Fits k) (is_among x.tickets t) _ _ (refused k w _ (later k w g)) (posted_by k w p t path body x (request_of Client path body) h g))

-- a count that isn't above the lines has a text
number_fits : (n : ℕ) → n ≤ max_number → Yes (number.fits n)
number_fits n h = and_both (nat_le 0 n) (nat_le n max_number) (le-leb 0 n (omega arith)) (le-leb n max_number h)

call_made : (k : ℕ) (w : World) (call : SentCall) → CallFits call → WorldFits k w → WorldFits (k + 1) (record w { calls = w.calls ++ call ∷ [] })
call_made k w call c g = record {
  calls = each_append CallFits w.calls (call ∷ []) g.calls (c, tt);
  streams = g.streams;
  few_calls = subst (λ (n : ℕ). n ≤ k + 1) (sym (length-append w.calls (call ∷ []))) (let f = g.few_calls in omega (arith, f));
  few_streams = one_more (length w.streams) k g.few_streams;
}

stream_made : (k : ℕ) (w : World) (s : OpenedStream) (store : State) → StreamFits s → WorldFits k w → WorldFits (k + 1) (record w { streams = w.streams ++ s ∷ []; store = store })
stream_made k w s store f g = record {
  calls = g.calls;
  streams = each_append StreamFits w.streams (s ∷ []) g.streams (f, tt);
  few_calls = one_more (length w.calls) k g.few_calls;
  few_streams = subst (λ (n : ℕ). n ≤ k + 1) (sym (length-append w.streams (s ∷ []))) (let f = g.few_streams in omega (arith, f));
}

nothing_sent : (k : ℕ) (w : World) (p : ℕ) (x : Place) (why : WorldFault) → WorldFits k w → Fits k (refuses (with_place w p x) why)
nothing_sent k w p x why g = refused k (with_place w p x) why (still k w (with_place w p x) refl refl g)

opened_fits : (k : ℕ) (w : World) (p : ℕ) (x : Place) (own member : ℕ) (q : Request) → k + 1 ≤ max_number → Yes (proxy.fits p) → WorldFits k w → Fits k (stream_opened w p x own member q)
opened_fits k w p x own member (request.Watch ask) room h g =
    let few = g.few_streams in
    let at_store = opened w.store member ask in
    gained_fits k (record w { streams = w.streams ++ new_stream p x own ∷ []; store = at_store.0 }) p (record x { streams = with_kept x.streams own (next_stream w) }) (item.Opened p (next_stream w) member (request.Watch ask) ∷ []) [] h (opened_text p (next_stream w) member (request.Watch ask) h (number_fits (next_stream w) (omega (arith, few, room))), tt)
    (stream_made k w (new_stream p x own) (opened w.store member ask).0 h g)
opened_fits k w p x own member (request.Range ask) room h g = nothing_sent k w p x _ g
opened_fits k w p x own member (request.Put ask) room h g = nothing_sent k w p x _ g
opened_fits k w p x own member (request.Delete ask) room h g = nothing_sent k w p x _ g
opened_fits k w p x own member (request.Txn ask) room h g = nothing_sent k w p x _ g
opened_fits k w p x own member (request.Compact revision physical) room h g = nothing_sent k w p x _ g
opened_fits k w p x own member (request.Grant ttl lease) room h g = nothing_sent k w p x _ g
opened_fits k w p x own member (request.Revoke lease) room h g = nothing_sent k w p x _ g
opened_fits k w p x own member (request.KeepAlive lease) room h g = nothing_sent k w p x _ g
opened_fits k w p x own member (request.TimeToLive lease keys) room h g = nothing_sent k w p x _ g
opened_fits k w p x own member request.Leases room h g = nothing_sent k w p x _ g

closed_world : (k : ℕ) (w : World) (n : ℕ) (o : Option OpenedStream) → If StreamFits o → WorldFits k w → WorldFits (k + 1) (closed_in w n o)
closed_world k w n None f g = later k w g
closed_world k w n (Some s) f g = let r = stream_changed k w n (ended s) w.store f g in record { calls = r.calls; streams = r.streams; few_calls = r.few_calls; few_streams = r.few_streams }

closed_fits : (k : ℕ) (w : World) (p : ℕ) (x : Place) (o : Option ℕ) → Yes (proxy.fits p) → WorldFits k w → Fits k (stream_closed w p x o)
closed_fits k w p x None h g = nothing_sent k w p x _ g
closed_fits k w p x (Some number) h g =
    gained_fits k (closed_in w number (nth w.streams number)) p x (item.Closed p number ∷ []) [] h (closed_text p number h, tt)
    (closed_world k w number (nth w.streams number) (nth_each StreamFits w.streams number g.streams) g)

job_fits : (k : ℕ) (w : World) (p : ℕ) (x : Place) (j : Job) → k + 1 ≤ max_number → Yes (proxy.fits p) → WorldFits k w → Fits k (job_done w p x j)
job_fits k w p x (job.Call own member t q) room h g =
    let few = g.few_calls in
    gained_fits k (record w { calls = w.calls ++ new_call p x own member q ∷ [] }) p (record x { calls = x.calls ++ next_call w ∷ [] }) (item.Sent p (next_call w) member t q ∷ []) [] h (sent_text p (next_call w) member t q h (number_fits (next_call w) (omega (arith, few, room))), tt)
    (call_made k w (new_call p x own member q) h g)
job_fits k w p x (job.Begin own member q) room h g = opened_fits k w p x own member q room h g
job_fits k w p x (job.Close own) room h g = closed_fits k w p x (kept_at x.streams own) h g

worked_fits : (k : ℕ) (w : World) (p : ℕ) (x : Place) (o : Outcome) → k + 1 ≤ max_number → Yes (proxy.fits p) → WorldFits k w → Fits k (worked w p x o)
worked_fits k w p x (outcome.Job (Some j)) room h g = job_fits k w p x j room h g
worked_fits k w p x (outcome.Job None) room h g = nothing_sent k w p x _ g
worked_fits k w p x (outcome.Replied a) room h g = nothing_sent k w p x _ g
worked_fits k w p x outcome.Waiting room h g = nothing_sent k w p x _ g
worked_fits k w p x outcome.Pending room h g = nothing_sent k w p x _ g
worked_fits k w p x (outcome.Item i) room h g = nothing_sent k w p x _ g
worked_fits k w p x outcome.Noted room h g = nothing_sent k w p x _ g

sent_fits : (k : ℕ) (w : World) (p : ℕ) → k + 1 ≤ max_number → Yes (proxy.fits p) → WorldFits k w → Fits k (sent w p)
sent_fits k w p room h g =
    at_fits k w p (place_at w p) (sent_at w p) g (λ x. steps_fit k w p x _ _ (worked w p) g (λ y o. worked_fits k w p y o room h g))

-- ---- calls

executed_by : (k : ℕ) (w : World) (n : ℕ) (call : SentCall) (o : Option Answer) → Yes (number.fits n) → CallFits call → WorldFits k w → Fits k (executed_if w n call o)
executed_by k w n call (Some a) h c g = refused k w _ (later k w g)
executed_by k w n call None h c g = record { gained = (executed_text n _ h, tt); world = call_changed k w n _ _ _ c g }

executed_at : (k : ℕ) (w : World) (n : ℕ) (o : Option SentCall) → nth w.calls n ≡ o → Yes (number.fits n) → WorldFits k w → Fits k (executed_of w n o)
executed_at k w n None e h g = refused k w _ (later k w g)
executed_at k w n (Some call) e h g = executed_by k w n call call.executed h (call_fits k w n call e g) g

settled : (k : ℕ) (w : World) (n : ℕ) (call : SentCall) → CallFits call → WorldFits k w → WorldFits (k + 1) (with_call w n (record call { settled = true }))
settled k w n call c g = let r = call_changed k w n (record call { settled = true }) w.store w.floors c g in record { calls = r.calls; streams = r.streams; few_calls = r.few_calls; few_streams = r.few_streams }

answered_by : (k : ℕ) (w : World) (n : ℕ) (call : SentCall) (x : Place) (o : Option Answer) → Yes (number.fits n) → CallFits call → WorldFits k w → Fits k (answered_as w n call x o)
answered_by k w n call x None h c g = refused k w _ (later k w g)
answered_by k w n call x (Some a) h c g =
    steps_fit k w call.proxy x _ _ (was_answered w n call) g
    (λ y o. gained_fits k (with_call w n (record call { settled = true })) call.proxy y (item.Answered n ∷ []) [] c (answered_text n h, tt) (settled k w n call c g))

answered_in : (k : ℕ) (w : World) (n : ℕ) (call : SentCall) (o : Option Place) → Yes (number.fits n) → CallFits call → WorldFits k w → Fits k (answered_at w n call o)
answered_in k w n call None h c g = refused k w _ (later k w g)
answered_in k w n call (Some x) h c g = answered_by k w n call x call.executed h c g

answered_fits : (k : ℕ) (w : World) (n : ℕ) (o : Option SentCall) → nth w.calls n ≡ o → Yes (number.fits n) → WorldFits k w → Fits k (answered_of w n o)
answered_fits k w n None e h g = refused k w _ (later k w g)
answered_fits k w n (Some call) e h g = answered_in k w n call (call_place w call) h (call_fits k w n call e g) g

lost_in : (k : ℕ) (w : World) (n : ℕ) (call : SentCall) (o : Option Place) → Yes (number.fits n) → CallFits call → WorldFits k w → Fits k (lost_at w n call o)
lost_in k w n call None h c g = refused k w _ (later k w g)
lost_in k w n call (Some x) h c g =
    steps_fit k w call.proxy x _ _ (was_lost w n call) g
    (λ y o. gained_fits k (with_call w n (record call { settled = true })) call.proxy y (item.Lost n ∷ []) [] c (lost_text n h, tt) (settled k w n call c g))

lost_fits : (k : ℕ) (w : World) (n : ℕ) (o : Option SentCall) → nth w.calls n ≡ o → Yes (number.fits n) → WorldFits k w → Fits k (lost_of w n o)
lost_fits k w n None e h g = refused k w _ (later k w g)
lost_fits k w n (Some call) e h g = lost_in k w n call (call_place w call) h (call_fits k w n call e g) g

-- ---- streams

pushed_by : (k : ℕ) (w : World) (n : ℕ) (s : OpenedStream) (r : Pushed) → Yes (number.fits n) → StreamFits s → WorldFits k w → Fits k (pushed_as w n s r)
pushed_by k w n s (Err why) h f g = refused k w _ (later k w g)
pushed_by k w n s (Ok p) h f g = record { gained = (pushed_text n p.1 h, tt); world = stream_changed k w n (with_message p.1 s) p.0 f g }

pushed_in : (k : ℕ) (w : World) (n : ℕ) (message : ℕ → Pushed) (s : OpenedStream) (o : Option Place) → Yes (number.fits n) → StreamFits s → WorldFits k w → Fits k (pushed_at w n message s o)
pushed_in k w n message s None h f g = refused k w _ (later k w g)
pushed_in k w n message s (Some x) h f g = pushed_by k w n s (message n) h f g

pushed_fits : (k : ℕ) (w : World) (n : ℕ) (message : ℕ → Pushed) (o : Option OpenedStream) → nth w.streams n ≡ o → Yes (number.fits n) → WorldFits k w → Fits k (pushed_of w n message o)
pushed_fits k w n message None e h g = refused k w _ (later k w g)
pushed_fits k w n message (Some s) e h g = pushed_in k w n message s (open_place w s) h (stream_fits k w n s e g) g

stream_left : (k : ℕ) (w : World) (n : ℕ) (s : OpenedStream) → StreamFits s → WorldFits k w → WorldFits (k + 1) (with_stream w n s)
stream_left k w n s f g = let r = stream_changed k w n s w.store f g in record { calls = r.calls; streams = r.streams; few_calls = r.few_calls; few_streams = r.few_streams }

delivered_by : (k : ℕ) (w : World) (n : ℕ) (s : OpenedStream) (x : Place) (waiting : List WatchItem) → Yes (number.fits n) → StreamFits s → WorldFits k w → Fits k (delivered_as w n s x waiting)
delivered_by k w n s x [] h f g = refused k w _ (later k w g)
delivered_by k w n s x (i ∷ rest) h f g =
    steps_fit k w s.proxy x _ _ (was_delivered w n s rest) g
    (λ y o. gained_fits k (with_stream w n (record s { waiting = rest })) s.proxy y (item.Delivered n ∷ []) [] f (delivered_text n h, tt) (stream_left k w n (record s { waiting = rest }) f g))

delivered_in : (k : ℕ) (w : World) (n : ℕ) (s : OpenedStream) (o : Option Place) → Yes (number.fits n) → StreamFits s → WorldFits k w → Fits k (delivered_at w n s o)
delivered_in k w n s None h f g = refused k w _ (later k w g)
delivered_in k w n s (Some x) h f g = delivered_by k w n s x s.waiting h f g

delivered_fits : (k : ℕ) (w : World) (n : ℕ) (o : Option OpenedStream) → nth w.streams n ≡ o → Yes (number.fits n) → WorldFits k w → Fits k (delivered_of w n o)
delivered_fits k w n None e h g = refused k w _ (later k w g)
delivered_fits k w n (Some s) e h g = delivered_in k w n s (stream_place w s) h (stream_fits k w n s e g) g

cut_in : (k : ℕ) (w : World) (n : ℕ) (s : OpenedStream) (o : Option Place) → Yes (number.fits n) → StreamFits s → WorldFits k w → Fits k (cut_at w n s o)
cut_in k w n s None h f g = refused k w _ (later k w g)
cut_in k w n s (Some x) h f g =
    steps_fit k w s.proxy x _ _ (was_cut w n s) g
    (λ y o. gained_fits k (with_stream w n (ended s)) s.proxy y (item.Cut n ∷ []) [] f (cut_text n h, tt) (stream_left k w n (ended s) f g))

cut_fits : (k : ℕ) (w : World) (n : ℕ) (o : Option OpenedStream) → nth w.streams n ≡ o → Yes (number.fits n) → WorldFits k w → Fits k (cut_of w n o)
cut_fits k w n None e h g = refused k w _ (later k w g)
cut_fits k w n (Some s) e h g = cut_in k w n s (open_place w s) h (stream_fits k w n s e g) g

-- ---- takes and leaves

line_fits : (p t : ℕ) (i : WatchItem) (b : Bool) → Yes (proxy.fits p) → HaveTextsAsMade (line_if b p t i)
line_fits p t i false h = tt
line_fits p t i true h = (body_text p t 200 (item_text i) h, tt)

pending : (k : ℕ) (w : World) (p t : ℕ) (x : Place) → Yes (proxy.fits p) → Yes (ticket.fits t) → WorldFits k w → Fits k (gained w p x (item.Pending p t ∷ []) [])
pending k w p t x h n g = gained_fits k w p x (item.Pending p t ∷ []) [] h (pending_text p t h n, tt) (later k w g)

took_fits : (k : ℕ) (w : World) (p t : ℕ) (x : Place) (o : Outcome) → Yes (proxy.fits p) → Yes (ticket.fits t) → WorldFits k w → Fits k (took w p t x o)
took_fits k w p t x (outcome.Item i) h n g =
    gained_fits k w p x (taken_items p x.posted t i) [] h (taken_text p t i h n, line_fits p t i (is_among x.posted t) h) (later k w g)
took_fits k w p t x (outcome.Job j) h n g = pending k w p t x h n g
took_fits k w p t x (outcome.Replied a) h n g = pending k w p t x h n g
took_fits k w p t x outcome.Waiting h n g = pending k w p t x h n g
took_fits k w p t x outcome.Pending h n g = pending k w p t x h n g
took_fits k w p t x outcome.Noted h n g = pending k w p t x h n g

taken_by : (k : ℕ) (w : World) (p t : ℕ) (x : Place) (b : Bool) → Yes (proxy.fits p) → Yes (ticket.fits t) → WorldFits k w → Fits k (taken_if w p t x b)
taken_by k w p t x false h n g = refused k w _ (later k w g)
taken_by k w p t x true h n g = steps_fit k w p x _ _ (took w p t) g (λ y o. took_fits k w p t y o h n g)

taken_fits : (k : ℕ) (w : World) (p t : ℕ) → Yes (proxy.fits p) → Yes (ticket.fits t) → WorldFits k w → Fits k (message_taken w p t)
taken_fits k w p t h n g = at_fits k w p (place_at w p) (taken_at w p t) g (λ x. taken_by k w p t x (is_watch t x) h n g)

left_by : (k : ℕ) (w : World) (p t : ℕ) (x : Place) (b : Bool) → Yes (proxy.fits p) → Yes (ticket.fits t) → WorldFits k w → Fits k (left_if w p t x b)
left_by k w p t x false h n g = refused k w _ (later k w g)
left_by k w p t x true h n g =
    steps_fit k w p x _ _ (has_left w p t) g (λ y o. gained_fits k w p y (item.Left p t ∷ []) [] h (left_text p t h n, tt) (later k w g))

left_fits : (k : ℕ) (w : World) (p t : ℕ) → Yes (proxy.fits p) → Yes (ticket.fits t) → WorldFits k w → Fits k (left w p t)
left_fits k w p t h n g = at_fits k w p (place_at w p) (left_at w p t) g (λ x. left_by k w p t x (is_known t x.core) h n g)

-- ---- lines of the store

due_fits : (k : ℕ) (w : World) (lease : ℕ) (o : Option WorldFault) (s : State) → Yes (number.fits lease) → WorldFits k w → Fits k (expired_if w lease o s)
due_fits k w lease (Some why) s h g = refused k w _ (later k w g)
due_fits k w lease None s h g = record { gained = (expired_text lease h, tt); world = still k w _ refl refl g }

expired_fits : (k : ℕ) (w : World) (lease : ℕ) (r : Result State StoreFault) → Yes (number.fits lease) → WorldFits k w → Fits k (expired_by w lease r)
expired_fits k w lease (Err why) h g = refused k w _ (later k w g)
expired_fits k w lease (Ok s) h g = due_fits k w lease (not_due w lease) s h g

applied_fits : (k : ℕ) (w : World) (member revision : ℕ) (r : Result State StoreFault) → Yes (number.fits member) → Yes (number.fits revision) → WorldFits k w
    → Fits k (store_stepped w (item.Applied member revision) r)
applied_fits k w member revision (Err why) h n g = refused k w _ (later k w g)
applied_fits k w member revision (Ok s) h n g = record { gained = (applied_text member revision h n, tt); world = still k w _ refl refl g }

-- ---- all lines

abbrev GainedSo : Result (List Item) LineRefusal → Type 0
GainedSo (Ok items) = HaveTextsAsMade items
GainedSo (Err why) = Unit {0}

record DoneFits (k : ℕ) (d : Done) : Type 0 where
  gained : GainedSo d.gained
  world : WorldFits (k + 1) d.world

gained_so : (r : Result (List Item) WorldFault) → Gained r → GainedSo (refused_so r)
gained_so (Ok items) h = h
gained_so (Err why) h = tt

done_so : (k : ℕ) (s : Step) → Fits k s → DoneFits k (step s)
done_so k s f = record { gained = gained_so s.gained f.gained; world = f.world }

all_fit : (k : ℕ) (w : World) (l : Line) → k + 1 ≤ max_number → PartsOf l → WorldFits k w → DoneFits k (done w l)
all_fit k w (line.World members namespace leasing) room h g = record { gained = tt; world = later k w g }
all_fit k w (line.Start p) room h g = done_so k _ (started_fits k w p (place_at w p) h g)
all_fit k w (line.Clock p millis) room h g = done_so k _ (clock_fits k w p millis h.0 h.1 g)
all_fit k w (line.Ask p t q) room h g = done_so k _ (asked_fits k w p t q h.0 h.1 g)
all_fit k w (line.Post p t path body) room h g = done_so k _ (posted_fits k w p t path body h g)
all_fit k w (line.Tick p) room h g = done_so k _ (ticked_fits k w p h g)
all_fit k w (line.Send p) room h g = done_so k _ (sent_fits k w p room h g)
all_fit k w (line.Exec n) room h g = done_so k _ (executed_at k w n (nth w.calls n) refl h g)
all_fit k w (line.Answer n) room h g = done_so k _ (answered_fits k w n (nth w.calls n) refl h g)
all_fit k w (line.Lose n) room h g = done_so k _ (lost_fits k w n (nth w.calls n) refl h g)
all_fit k w (line.Push n) room h g = done_so k _ (pushed_fits k w n (push_of w.store) (nth w.streams n) refl h g)
all_fit k w (line.Progress n) room h g = done_so k _ (pushed_fits k w n (progressed w.store) (nth w.streams n) refl h g)
all_fit k w (line.Deliver n) room h g = done_so k _ (delivered_fits k w n (nth w.streams n) refl h g)
all_fit k w (line.Cut n) room h g = done_so k _ (cut_fits k w n (nth w.streams n) refl h g)
all_fit k w (line.Take p t) room h g = done_so k _ (taken_fits k w p t h.0 h.1 g)
all_fit k w (line.Leave p t) room h g = done_so k _ (left_fits k w p t h.0 h.1 g)
all_fit k w (line.Expire lease) room h g = done_so k _ (expired_fits k w lease (expired w.store lease) h g)
all_fit k w (line.Apply member revision) room h g = done_so k _ (applied_fits k w member revision (applied w.store member revision) h.0 h.1 g)

abbrev pub TakenFits : ℕ → Taken → Type 0
TakenFits k (Ok gained) = HaveTextsAsMade gained.1 × WorldFits k gained.0
TakenFits k (Err why) = Unit {0}

counted_fits : (k : ℕ) (w : World) (r : Result (List Item) LineRefusal) → GainedSo r → WorldFits k w → TakenFits k (counted_as w r)
counted_fits k w (Ok items) h g = (h, record { calls = g.calls; streams = g.streams; few_calls = g.few_calls; few_streams = g.few_streams })
counted_fits k w (Err why) h g = tt

pub line_taken : (k n : ℕ) (w : World) (l : Line) → k + 1 ≤ max_number → is_line n l ≡ true → WorldFits k w → TakenFits (k + 1) (taken w l)
line_taken k n w l room e g =
    let d = all_fit k w l room (parts_of n l e) g in
    counted_fits (k + 1) (done w l).world (done w l).gained d.gained d.world
