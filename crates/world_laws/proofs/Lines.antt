-- A line that can't be taken leaves the world, but for the step of the one proxy that made one; a line that is taken gains its own
-- item first, and opens as many streams as watches of the store.
use Rattle.std.proofs.Common.{◌≡◌, ◌⊎◌, inl, inr, ℕ, ◌==◌, Bool, true, false, cond, List, [], ◌∷◌, ◌++◌, ◌-◌, length, Option, None, Some, Result, Ok, Err, refl, sym, ◌∙◌, ap, subst, nat_lt, arith, length-append}
use Rattle.std.proofs.lemmas.List.{length-set}
use Rattle.etcd_types.specs.declared.answer.Answer.{Answer}
use Rattle.etcd_types.specs.declared.request.Request.{Request}
use Rattle.etcd_types.specs.declared.request.Request.TheVariants as request
use Rattle.etcd_types.specs.declared.watch.WatchItem.{WatchItem}
use Rattle.json_model.specs.declared.extra.Reading.TheVariants.{Client}
use Rattle.json_model.specs.declared.fault.ApiFault.{ApiFault}
use Rattle.json_model.specs.Mapping.{request_of}
use Rattle.store_model.specs.declared.store_fault.StoreFault.{StoreFault}
use Rattle.store_model.specs.Leases.{expired}
use Rattle.store_model.specs.Members.{applied}
use Rattle.store_model.specs.State.{State}
use Rattle.store_model.specs.Watches.{Pushed, pushed as push_of, progressed}
use Rattle.core_model.specs.declared.event.CoreEvent.{CoreEvent}
use Rattle.core_model.specs.declared.event.Job.{Job}
use Rattle.core_model.specs.declared.event.Job.TheVariants as job
use Rattle.core_model.specs.declared.event.Outcome.{Outcome}
use Rattle.core_model.specs.declared.event.Outcome.TheVariants as outcome
use Rattle.core_model.specs.declared.event.StepFault.{StepFault}
use Rattle.core_model.specs.Lookups.{is_known}
use Rattle.core_model.specs.Step.{stepped}
use Rattle.script_text.specs.declared.line.Line.{Line}
use Rattle.script_text.specs.declared.line.Line.TheVariants as line
use Rattle.script_text.specs.declared.item.Item.{Item}
use Rattle.script_text.specs.declared.item.Item.TheVariants as item
use Rattle.world_model.specs.declared.fault.LineRefusal.{LineRefusal}
use Rattle.world_model.specs.declared.fault.WorldFault.{WorldFault}
use Rattle.world_model.specs.declared.sent_call.SentCall.{SentCall}
use Rattle.world_model.specs.Asks.{told_at_once, was_asked, asked_at, asked, posted_as, posted_at, posted}
use Rattle.world_model.specs.Calls.{executed_if, executed_of, was_answered, answered_as, answered_at, answered_of, was_lost, lost_at, lost_of}
use Rattle.world_model.specs.Gains.{gained, line_if}
use Rattle.world_model.specs.Places.{nth, kept_at, with_kept, place_at, if_life, unless, call_place, stream_place, ended, is_among, with_core, with_place, with_ticket, with_posted}
use Rattle.world_model.specs.Sends.{next_call, next_stream, stream_opened, closed_in, stream_closed, job_done, worked, sent_at, sent}
use Rattle.world_model.specs.Starts.{started_over, clock_set_at, clock_set, looked, ticked_at, ticked}
use Rattle.world_model.specs.State.{Place, OpenedStream, World}
use Rattle.world_model.specs.Steps.{Step, at_place_of, by_outcome, steps}
use Rattle.world_model.specs.StoreLines.{not_due, expired_if, expired_by, store_stepped}
use Rattle.world_model.specs.Streams.{pushed_as, pushed_at, pushed_of, open_place, was_delivered, delivered_as, delivered_at, delivered_of, was_cut, cut_at, cut_of}
use Rattle.world_model.specs.Takes.{is_watch, took, taken_if, taken_at, message_taken, has_left, left_if, left_at, left}
use Rattle.world_model.specs.Transcript.{Done, step, done}
use Rattle.store_laws.proofs.Requests.RequestProofs.{whole-exec}
use Rattle.store_laws.specs.Lives.Lives.{executes, opens}
use Rattle.world_laws.proofs.Watches.{Moves, KeepsStore, pushes_keep, progress_keeps, LeavesStore, expiries_leave, applies_leave}
use Rattle.world_laws.specs.Laws.{OneStepped, IsOwn, GainsItsOwn}

-- the world as it was, or with a step of one proxy
abbrev Left : World → World → Type 0
Left w after = (after ≡ w) ⊎ OneStepped w after

-- The lines are counted behind a line, each of the store's watches is a stream, and the store makes one step at most.
pub record Keeps (w after : World) : Type 0 where
  pub lines : after.lines ≡ w.lines
  pub members : after.members ≡ w.members
  pub watches : length w.store.watches ≡ length w.streams → length after.store.watches ≡ length after.streams
  pub store : Moves w.store after.store

-- the store as it was, and as many streams
kept : (w after : World) → after.lines ≡ w.lines → after.members ≡ w.members → after.store ≡ w.store → length after.streams ≡ length w.streams → Keeps w after
kept w after l m a b = record { lines = l; members = m; watches = λ h. ap (λ (store : State). length store.watches) a ∙ h ∙ sym b; store = inl a }

-- a step of the store that leaves its watches, or as many
moved : (w after : World) → after.lines ≡ w.lines → after.members ≡ w.members → length after.store.watches ≡ length w.store.watches → Moves w.store after.store
    → length after.streams ≡ length w.streams → Keeps w after
moved w after l m a v b = record { lines = l; members = m; watches = λ h. a ∙ h ∙ sym b; store = v }

same : (w : World) → Keeps w w
same w = kept w w refl refl refl refl

-- what a line did to the world `w`: its own item was gained first, or the world was left
abbrev Did : World → Line → World → Result (List Item) WorldFault → Type 0
Did w l after (Ok items) = GainsItsOwn l items × Keeps w after
Did w l after (Err why) = Left w after

abbrev Does : World → Line → Step → Type 0
Does w l x = Did w l x.world x.gained

-- a proxy's world after its step
abbrev stepped_world : World → ℕ → Place → CoreEvent → World
stepped_world w p x event = with_place w p (with_core x (stepped x.core event x.clock).core)

-- ---- what all lines of a proxy have in common

gained_does : (w v : World) (l : Line) (p : ℕ) (x : Place) (own : Item) (rest : List Item) (told : List (ℕ × Answer)) → Keeps w v → IsOwn l own
    → Does w l (gained v p x (own ∷ rest) told)
gained_does w v l p x own rest told k is =
    (record { own = own; rest = _; gained = refl; repeats = is }, record { lines = k.lines; members = k.members; watches = k.watches; store = k.store })

-- the world that the step left is what is left where the line can't be taken
outcome_does : (w : World) (l : Line) (p : ℕ) (x : Place) (why : WorldFault) (next : Place → Outcome → Step) (r : Result Outcome StepFault)
    → Left w (with_place w p x) → ((y : Place) (o : Outcome) → Left w (with_place w p y) → Does w l (next y o)) → Does w l (by_outcome w p x why next r)
outcome_does w l p x why next (Ok o) left h = h x o left
outcome_does w l p x why next (Err f) left h = left

is_stepped : (w : World) (p : ℕ) (x : Place) (event : CoreEvent) → place_at w p ≡ Some x → Left w (stepped_world w p x event)
is_stepped w p x event e = inr (record { proxy = p; place = x; event = event; stands = e; steps = refl })

steps_does : (w : World) (l : Line) (p : ℕ) (x : Place) (event : CoreEvent) (why : WorldFault) (next : Place → Outcome → Step)
    → place_at w p ≡ Some x → ((y : Place) (o : Outcome) → Left w (with_place w p y) → Does w l (next y o)) → Does w l (steps w p x event why next)
steps_does w l p x event why next e h =
    outcome_does w l p (with_core x (stepped x.core event x.clock).core) why next (stepped x.core event x.clock).outcome (is_stepped w p x event e) h

at_does : (w : World) (l : Line) (p : ℕ) (o : Option Place) (f : Place → Step) → place_at w p ≡ o
    → ((x : Place) → place_at w p ≡ Some x → Does w l (f x)) → Does w l (at_place_of w p o f)
at_does w l p None f e h = inl refl
at_does w l p (Some x) f e h = h x e

choice : (w : World) (l : Line) (b : Bool) (x y : Step) → Does w l x → Does w l y → Does w l (cond b x y)
choice w l true x y f g = f
choice w l false x y f g = g

-- ---- line by line

started_does : (w : World) (p : ℕ) (o : Option Place) → Does w (line.Start p) (started_over w p o)
started_does w p None = (record { own = item.Started p; rest = []; gained = refl; repeats = refl }, kept w _ refl refl refl refl)
started_does w p (Some x) = (record { own = item.Restarted p; rest = []; gained = refl; repeats = refl }, kept w _ refl refl refl refl)

clock_does : (w : World) (p millis : ℕ) → Does w (line.Clock p millis) (clock_set w p millis)
clock_does w p millis =
    at_does w (line.Clock p millis) p (place_at w p) (clock_set_at w p millis) refl
    (λ x e. choice w (line.Clock p millis) (nat_lt millis x.clock) _ _ (inl refl) ((record { own = item.Clock p millis; rest = []; gained = refl; repeats = (refl, refl) }, kept w _ refl refl refl refl)))

ticked_does : (w : World) (p : ℕ) → Does w (line.Tick p) (ticked w p)
ticked_does w p =
    at_does w (line.Tick p) p (place_at w p) (ticked_at w p) refl
    (λ x e. steps_does w (line.Tick p) p x _ _ (looked w p) e (λ y o k. gained_does w w (line.Tick p) p y (item.Ticked p) [] [] (same w) refl))

asked_does : (w : World) (p ticket : ℕ) (q : Request) → Does w (line.Ask p ticket q) (asked w p ticket q)
asked_does w p ticket q =
    let l = line.Ask p ticket q in
    at_does w l p (place_at w p) (asked_at w p ticket q) refl
    (λ x e. choice w l (is_among x.tickets ticket) _ _ (inl refl)
    (steps_does w l p x _ _ (was_asked w p ticket q [] (with_ticket ticket)) e (λ y o k. gained_does w w l p (with_ticket ticket y) (item.Asked p ticket q) [] (told_at_once ticket o) (same w) (refl, refl, refl))))

posted_by : (w : World) (p ticket : ℕ) (path body : List ℕ) (x : Place) (r : Result Request ApiFault) → place_at w p ≡ Some x
    → Does w (line.Post p ticket path body) (posted_as w p ticket (item.Posted p ticket path body ∷ []) x r)
posted_by w p ticket path body x (Ok q) e =
    steps_does w (line.Post p ticket path body) p x _ _ (was_asked w p ticket q (item.Posted p ticket path body ∷ []) (with_posted ticket)) e
    (λ y o k. gained_does w w (line.Post p ticket path body) p (with_posted ticket y) (item.Posted p ticket path body) (item.Asked p ticket q ∷ []) (told_at_once ticket o) (same w) (refl, refl, refl, refl))
posted_by w p ticket path body x (Err why) e =
    (record { own = item.Posted p ticket path body; rest = _; gained = refl; repeats = (refl, refl, refl, refl) }, kept w _ refl refl refl refl)

posted_does : (w : World) (p ticket : ℕ) (path body : List ℕ) → Does w (line.Post p ticket path body) (posted w p ticket path body)
posted_does w p ticket path body =
    let l = line.Post p ticket path body in
    at_does w l p (place_at w p) (posted_at w p ticket path body) refl
    (λ x e. choice w l (is_among x.tickets ticket) _ _ (inl refl) (posted_by w p ticket path body x (request_of Client path body) e))

one_longer : {A B : Type 0} (xs : List A) (ys : List B) (x : A) (y : B) → length xs ≡ length ys → length (xs ++ x ∷ []) ≡ length (ys ++ y ∷ [])
one_longer xs ys x y e = omega (arith, length-append xs (x ∷ []), length-append ys (y ∷ []), e)

closed_keeps : (w : World) (number : ℕ) (o : Option OpenedStream) → Keeps w (closed_in w number o)
closed_keeps w number None = same w
closed_keeps w number (Some s) = kept w _ refl refl refl (length-set w.streams (number - 1) (ended s))

-- a proxy that has nothing to send made a step all the same
opened_does : (w : World) (p : ℕ) (x : Place) (own member : ℕ) (q : Request) → Left w (with_place w p x) → Does w (line.Send p) (stream_opened w p x own member q)
opened_does w p x own member (request.Watch ask) h = gained_does w _ (line.Send p) p (record x { streams = with_kept x.streams own (next_stream w) }) (item.Opened p (next_stream w) member (request.Watch ask)) [] [] (record { lines = refl; members = refl; watches = λ h. one_longer w.store.watches w.streams _ _ h; store = inr (opens member ask, refl) }) refl
opened_does w p x own member (request.Range ask) h = h
opened_does w p x own member (request.Put ask) h = h
opened_does w p x own member (request.Delete ask) h = h
opened_does w p x own member (request.Txn ask) h = h
opened_does w p x own member (request.Compact revision physical) h = h
opened_does w p x own member (request.Grant ttl lease) h = h
opened_does w p x own member (request.Revoke lease) h = h
opened_does w p x own member (request.KeepAlive lease) h = h
opened_does w p x own member (request.TimeToLive lease keys) h = h
opened_does w p x own member request.Leases h = h

closed_does : (w : World) (p : ℕ) (x : Place) (o : Option ℕ) → Left w (with_place w p x) → Does w (line.Send p) (stream_closed w p x o)
closed_does w p x None h = h
closed_does w p x (Some number) h = gained_does w _ (line.Send p) p x (item.Closed p number) [] [] (closed_keeps w number (nth w.streams number)) refl

job_does : (w : World) (p : ℕ) (x : Place) (j : Job) → Left w (with_place w p x) → Does w (line.Send p) (job_done w p x j)
job_does w p x (job.Call own member ticket q) h = gained_does w _ (line.Send p) p (record x { calls = x.calls ++ next_call w ∷ [] }) (item.Sent p (next_call w) member ticket q) [] [] (kept w _ refl refl refl refl) refl
job_does w p x (job.Begin own member q) h = opened_does w p x own member q h
job_does w p x (job.Close own) h = closed_does w p x (kept_at x.streams own) h

worked_does : (w : World) (p : ℕ) (x : Place) (o : Outcome) → Left w (with_place w p x) → Does w (line.Send p) (worked w p x o)
worked_does w p x (outcome.Job (Some j)) h = job_does w p x j h
worked_does w p x (outcome.Job None) h = h
worked_does w p x (outcome.Replied a) h = h
worked_does w p x outcome.Waiting h = h
worked_does w p x outcome.Pending h = h
worked_does w p x (outcome.Item i) h = h
worked_does w p x outcome.Noted h = h

sent_does : (w : World) (p : ℕ) → Does w (line.Send p) (sent w p)
sent_does w p =
    at_does w (line.Send p) p (place_at w p) (sent_at w p) refl
    (λ x e. steps_does w (line.Send p) p x _ _ (worked w p) e (λ y o k. worked_does w p y o k))

-- ---- calls

executed_by : (w : World) (number : ℕ) (call : SentCall) (o : Option Answer) → Does w (line.Exec number) (executed_if w number call o)
executed_by w number call (Some a) = inl refl
executed_by w number call None =
    (record { own = item.Executed number _; rest = []; gained = refl; repeats = refl }, moved w _ refl refl (ap length (whole-exec w.store call.member call.request).watches) (inr (executes call.member call.request, refl)) refl)

executed_does : (w : World) (number : ℕ) (o : Option SentCall) → Does w (line.Exec number) (executed_of w number o)
executed_does w number None = inl refl
executed_does w number (Some call) = executed_by w number call call.executed

-- a place that a call or a stream has is its proxy's
unless_is : (b : Bool) (o : Option Place) (x : Place) → unless b o ≡ Some x → o ≡ Some x
unless_is true o x e = absurd (cc)
unless_is false o x e = e

life_is : (life : ℕ) (o : Option Place) (x : Place) → if_life life o ≡ Some x → o ≡ Some x
life_is life None x e = absurd (cc)
life_is life (Some y) x e = by (y.life == life) e
  where
    by : (b : Bool) → cond b (Some y) None ≡ Some x → Some y ≡ Some x
    by true h = h
    by false h = absurd (cc)

call_is : (w : World) (call : SentCall) (x : Place) → call_place w call ≡ Some x → place_at w call.proxy ≡ Some x
call_is w call x e = life_is call.life (place_at w call.proxy) x (unless_is call.settled _ x e)

stream_is : (w : World) (s : OpenedStream) (x : Place) → stream_place w s ≡ Some x → place_at w s.proxy ≡ Some x
stream_is w s x e = life_is s.life (place_at w s.proxy) x (unless_is s.ended _ x e)

answered_by : (w : World) (number : ℕ) (call : SentCall) (x : Place) (o : Option Answer) → place_at w call.proxy ≡ Some x
    → Does w (line.Answer number) (answered_as w number call x o)
answered_by w number call x None e = inl refl
answered_by w number call x (Some a) e =
    steps_does w (line.Answer number) call.proxy x _ _ (was_answered w number call) e
    (λ y o k. gained_does w _ (line.Answer number) call.proxy y (item.Answered number) [] [] (kept w _ refl refl refl refl) refl)

answered_in : (w : World) (number : ℕ) (call : SentCall) (o : Option Place) → call_place w call ≡ o → Does w (line.Answer number) (answered_at w number call o)
answered_in w number call None e = inl refl
answered_in w number call (Some x) e = answered_by w number call x call.executed (call_is w call x e)

answered_does : (w : World) (number : ℕ) (o : Option SentCall) → Does w (line.Answer number) (answered_of w number o)
answered_does w number None = inl refl
answered_does w number (Some call) = answered_in w number call (call_place w call) refl

lost_in : (w : World) (number : ℕ) (call : SentCall) (o : Option Place) → call_place w call ≡ o → Does w (line.Lose number) (lost_at w number call o)
lost_in w number call None e = inl refl
lost_in w number call (Some x) e =
    steps_does w (line.Lose number) call.proxy x _ _ (was_lost w number call) (call_is w call x e)
    (λ y o k. gained_does w _ (line.Lose number) call.proxy y (item.Lost number) [] [] (kept w _ refl refl refl refl) refl)

lost_does : (w : World) (number : ℕ) (o : Option SentCall) → Does w (line.Lose number) (lost_of w number o)
lost_does w number None = inl refl
lost_does w number (Some call) = lost_in w number call (call_place w call) refl

-- ---- streams

pushed_by : (w : World) (l : Line) (number : ℕ) (s : OpenedStream) (k : Pushed) → KeepsStore w.store k → ((i : WatchItem) → IsOwn l (item.Pushed number i))
    → Does w l (pushed_as w number s k)
pushed_by w l number s (Err why) m is = inl refl
pushed_by w l number s (Ok p) m is =
    (record { own = item.Pushed number p.1; rest = []; gained = refl; repeats = is p.1 }, moved w _ refl refl m.0 m.1 (length-set w.streams (number - 1) _))

pushed_in : (w : World) (l : Line) (number : ℕ) (message : ℕ → Pushed) (s : OpenedStream) (o : Option Place) → KeepsStore w.store (message number) → ((i : WatchItem) → IsOwn l (item.Pushed number i))
    → Does w l (pushed_at w number message s o)
pushed_in w l number message s None m is = inl refl
pushed_in w l number message s (Some x) m is = pushed_by w l number s (message number) m is

pushed_does : (w : World) (l : Line) (number : ℕ) (message : ℕ → Pushed) (o : Option OpenedStream) → KeepsStore w.store (message number) → ((i : WatchItem) → IsOwn l (item.Pushed number i))
    → Does w l (pushed_of w number message o)
pushed_does w l number message None m is = inl refl
pushed_does w l number message (Some s) m is = pushed_in w l number message s (open_place w s) m is

delivered_by : (w : World) (number : ℕ) (s : OpenedStream) (x : Place) (waiting : List WatchItem) → place_at w s.proxy ≡ Some x
    → Does w (line.Deliver number) (delivered_as w number s x waiting)
delivered_by w number s x [] e = inl refl
delivered_by w number s x (i ∷ rest) e =
    steps_does w (line.Deliver number) s.proxy x _ _ (was_delivered w number s rest) e
    (λ y o k. gained_does w _ (line.Deliver number) s.proxy y (item.Delivered number) [] [] (kept w _ refl refl refl (length-set w.streams (number - 1) _)) refl)

delivered_in : (w : World) (number : ℕ) (s : OpenedStream) (o : Option Place) → stream_place w s ≡ o → Does w (line.Deliver number) (delivered_at w number s o)
delivered_in w number s None e = inl refl
delivered_in w number s (Some x) e = delivered_by w number s x s.waiting (stream_is w s x e)

delivered_does : (w : World) (number : ℕ) (o : Option OpenedStream) → Does w (line.Deliver number) (delivered_of w number o)
delivered_does w number None = inl refl
delivered_does w number (Some s) = delivered_in w number s (stream_place w s) refl

cut_in : (w : World) (number : ℕ) (s : OpenedStream) (o : Option Place) → open_place w s ≡ o → Does w (line.Cut number) (cut_at w number s o)
cut_in w number s None e = inl refl
cut_in w number s (Some x) e =
    steps_does w (line.Cut number) s.proxy x _ _ (was_cut w number s) (stream_is w s x (unless_is s.cancelled _ x e))
    (λ y o k. gained_does w _ (line.Cut number) s.proxy y (item.Cut number) [] [] (kept w _ refl refl refl (length-set w.streams (number - 1) _)) refl)

cut_does : (w : World) (number : ℕ) (o : Option OpenedStream) → Does w (line.Cut number) (cut_of w number o)
cut_does w number None = inl refl
cut_does w number (Some s) = cut_in w number s (open_place w s) refl

-- ---- takes and leaves

pending_does : (w : World) (p ticket : ℕ) (x : Place) → Does w (line.Take p ticket) (gained w p x (item.Pending p ticket ∷ []) [])
pending_does w p ticket x = gained_does w w (line.Take p ticket) p x (item.Pending p ticket) [] [] (same w) (refl, refl)

took_does : (w : World) (p ticket : ℕ) (x : Place) (o : Outcome) → Does w (line.Take p ticket) (took w p ticket x o)
took_does w p ticket x (outcome.Item i) =
    gained_does w w (line.Take p ticket) p x (item.Taken p ticket i) (line_if (is_among x.posted ticket) p ticket i) [] (same w) (refl, refl)
took_does w p ticket x (outcome.Job j) = pending_does w p ticket x
took_does w p ticket x (outcome.Replied a) = pending_does w p ticket x
took_does w p ticket x outcome.Waiting = pending_does w p ticket x
took_does w p ticket x outcome.Pending = pending_does w p ticket x
took_does w p ticket x outcome.Noted = pending_does w p ticket x

taken_by : (w : World) (p ticket : ℕ) (x : Place) (b : Bool) → place_at w p ≡ Some x → Does w (line.Take p ticket) (taken_if w p ticket x b)
taken_by w p ticket x false e = inl refl
taken_by w p ticket x true e = steps_does w (line.Take p ticket) p x _ _ (took w p ticket) e (λ y o k. took_does w p ticket y o)

message_taken_does : (w : World) (p ticket : ℕ) → Does w (line.Take p ticket) (message_taken w p ticket)
message_taken_does w p ticket =
    at_does w (line.Take p ticket) p (place_at w p) (taken_at w p ticket) refl (λ x e. taken_by w p ticket x (is_watch ticket x) e)

left_by : (w : World) (p ticket : ℕ) (x : Place) (b : Bool) → place_at w p ≡ Some x → Does w (line.Leave p ticket) (left_if w p ticket x b)
left_by w p ticket x false e = inl refl
left_by w p ticket x true e =
    steps_does w (line.Leave p ticket) p x _ _ (has_left w p ticket) e
    (λ y o k. gained_does w w (line.Leave p ticket) p y (item.Left p ticket) [] [] (same w) (refl, refl))

left_does : (w : World) (p ticket : ℕ) → Does w (line.Leave p ticket) (left w p ticket)
left_does w p ticket = at_does w (line.Leave p ticket) p (place_at w p) (left_at w p ticket) refl (λ x e. left_by w p ticket x (is_known ticket x.core) e)

-- ---- lines of the store

due_does : (w : World) (lease : ℕ) (o : Option WorldFault) (after : State) → (after.watches ≡ w.store.watches) × Moves w.store after → Does w (line.Expire lease) (expired_if w lease o after)
due_does w lease (Some why) after e = inl refl
due_does w lease None after e =
    (record { own = item.Expired lease; rest = []; gained = refl; repeats = refl }, moved w _ refl refl (ap length e.0) e.1 refl)

expired_does : (w : World) (lease : ℕ) (r : Result State StoreFault) → LeavesStore w.store r → Does w (line.Expire lease) (expired_by w lease r)
expired_does w lease (Err why) e = inl refl
expired_does w lease (Ok after) e = due_does w lease (not_due w lease) after e

applied_does : (w : World) (member revision : ℕ) (r : Result State StoreFault) → LeavesStore w.store r
    → Does w (line.Apply member revision) (store_stepped w (item.Applied member revision) r)
applied_does w member revision (Err why) e = inl refl
applied_does w member revision (Ok after) e =
    (record { own = item.Applied member revision; rest = []; gained = refl; repeats = (refl, refl) }, moved w _ refl refl (ap length e.0) e.1 refl)

-- ---- all lines

-- as a whole line did
abbrev WasDone : World → Line → World → Result (List Item) LineRefusal → Type 0
WasDone w l after (Ok items) = GainsItsOwn l items × Keeps w after
WasDone w l after (Err why) = Left w after

abbrev DoneWell : World → Line → Done → Type 0
DoneWell w l d = WasDone w l d.world d.gained

step_by : (w : World) (l : Line) (after : World) (r : Result (List Item) WorldFault) → Did w l after r → DoneWell w l (step (record { world = after; gained = r }))
step_by w l after (Ok items) h = h
step_by w l after (Err why) h = h

stepped_well : (w : World) (l : Line) (x : Step) → Does w l x → DoneWell w l (step x)
stepped_well w l x h = step_by w l x.world x.gained h

pub done_well : (w : World) (l : Line) → DoneWell w l (done w l)
done_well w (line.World members namespace leasing) = inl refl
done_well w (line.Start p) = stepped_well w (line.Start p) _ (started_does w p (place_at w p))
done_well w (line.Clock p millis) = stepped_well w (line.Clock p millis) _ (clock_does w p millis)
done_well w (line.Ask p ticket q) = stepped_well w (line.Ask p ticket q) _ (asked_does w p ticket q)
done_well w (line.Post p ticket path body) = stepped_well w (line.Post p ticket path body) _ (posted_does w p ticket path body)
done_well w (line.Tick p) = stepped_well w (line.Tick p) _ (ticked_does w p)
done_well w (line.Send p) = stepped_well w (line.Send p) _ (sent_does w p)
done_well w (line.Exec number) = stepped_well w (line.Exec number) _ (executed_does w number (nth w.calls number))
done_well w (line.Answer number) = stepped_well w (line.Answer number) _ (answered_does w number (nth w.calls number))
done_well w (line.Lose number) = stepped_well w (line.Lose number) _ (lost_does w number (nth w.calls number))
done_well w (line.Push number) =
    stepped_well w (line.Push number) _ (pushed_does w (line.Push number) number (push_of w.store) (nth w.streams number) (pushes_keep w.store number) (λ i. refl))
done_well w (line.Progress number) =
    stepped_well w (line.Progress number) _ (pushed_does w (line.Progress number) number (progressed w.store) (nth w.streams number) (progress_keeps w.store number) (λ i. refl))
done_well w (line.Deliver number) = stepped_well w (line.Deliver number) _ (delivered_does w number (nth w.streams number))
done_well w (line.Cut number) = stepped_well w (line.Cut number) _ (cut_does w number (nth w.streams number))
done_well w (line.Take p ticket) = stepped_well w (line.Take p ticket) _ (message_taken_does w p ticket)
done_well w (line.Leave p ticket) = stepped_well w (line.Leave p ticket) _ (left_does w p ticket)
done_well w (line.Expire lease) = stepped_well w (line.Expire lease) _ (expired_does w lease (expired w.store lease) (expiries_leave w.store lease))
done_well w (line.Apply member revision) = stepped_well w (line.Apply member revision) _ (applied_does w member revision (applied w.store member revision) (applies_leave w.store member revision))

pub refused_leaves : (w : World) (l : Line) (why : LineRefusal) → (done w l).gained ≡ Err why → ((done w l).world ≡ w) ⊎ OneStepped w (done w l).world
refused_leaves w l why e = subst (WasDone w l (done w l).world) e (done_well w l)

pub gains_own : (w : World) (l : Line) (items : List Item) → (done w l).gained ≡ Ok items → GainsItsOwn l items
gains_own w l items e = (subst (WasDone w l (done w l).world) e (done_well w l)).0

pub taken_keeps : (w : World) (l : Line) (items : List Item) → (done w l).gained ≡ Ok items → Keeps w (done w l).world
taken_keeps w l items e = (subst (WasDone w l (done w l).world) e (done_well w l)).1
