-- What each line that is taken does to the world, and what it gains: one case for each kind of line.
use Rattle.std.proofs.Common.{◌≡◌, ◌⊎◌, inl, inr, ℕ, ◌+◌, ◌==◌, Bool, true, false, cond, List, [], ◌∷◌, ◌++◌, Option, None, Some, Result, Ok, Err, refl, sym, ◌∙◌, ap, subst, nat_lt, arith}
use Rattle.std.proofs.lemmas.Bool.Decides.{nat_tests}
use Rattle.std.specs.Prelude.{flat_map}
use Rattle.etcd_types.specs.declared.answer.Answer.{Answer}
use Rattle.etcd_types.specs.declared.answer.Answer.TheVariants.{Refused}
use Rattle.etcd_types.specs.declared.request.Request.{Request}
use Rattle.etcd_types.specs.declared.request.Request.TheVariants as request
use Rattle.etcd_types.specs.declared.request.WatchAsk.{WatchAsk}
use Rattle.etcd_types.specs.declared.watch.WatchItem.{WatchItem}
use Rattle.json_model.specs.declared.extra.Reading.TheVariants.{Client}
use Rattle.json_model.specs.declared.fault.ApiFault.{ApiFault}
use Rattle.json_model.specs.Mapping.{request_of}
use Rattle.store_model.specs.declared.store_fault.StoreFault.{StoreFault}
use Rattle.store_model.specs.Leases.{expired}
use Rattle.store_model.specs.Members.{applied}
use Rattle.store_model.specs.State.{State}
use Rattle.store_model.specs.Step.{exec}
use Rattle.store_model.specs.Watches.{Pushed, opened, pushed as push_of, progressed}
use Rattle.core_model.specs.declared.event.CoreEvent.{CoreEvent}
use Rattle.core_model.specs.declared.event.CoreEvent.TheVariants as event
use Rattle.core_model.specs.declared.event.Job.{Job}
use Rattle.core_model.specs.declared.event.Job.TheVariants as job
use Rattle.core_model.specs.declared.event.Outcome.{Outcome}
use Rattle.core_model.specs.declared.event.Outcome.TheVariants as outcome
use Rattle.core_model.specs.declared.event.StepFault.{StepFault}
use Rattle.core_model.specs.Lookups.{is_known}
use Rattle.core_model.specs.Step.{stepped}
use Rattle.script_text.specs.declared.line.Line.{Line}
use Rattle.script_text.specs.declared.line.Line.TheVariants as line
use Rattle.script_text.specs.declared.item.Item.{Item}
use Rattle.script_text.specs.declared.item.Item.TheVariants as item
use Rattle.world_model.specs.declared.fault.LineRefusal.{LineRefusal}
use Rattle.world_model.specs.declared.fault.WorldFault.{WorldFault}
use Rattle.world_model.specs.declared.sent_call.SentCall.{SentCall}
use Rattle.world_model.specs.Asks.{told_at_once, was_asked, asked_at, asked, posted_as, posted_at, posted}
use Rattle.world_model.specs.Calls.{executed_if, executed_of, was_answered, answered_as, answered_at, answered_of, was_lost, lost_at, lost_of}
use Rattle.world_model.specs.Floors.{floors_after}
use Rattle.world_model.specs.Gains.{Replies, all_fetched, reply_items, taken_items}
use Rattle.world_model.specs.Places.{nth, with_nth, kept_at, with_kept, place_at, if_life, unless, call_place, stream_place, ended, is_among, with_core, with_place, with_ticket, with_posted, with_call, with_stream}
use Rattle.world_model.specs.PostRefusals.{post_refusal}
use Rattle.world_model.specs.Sends.{next_call, next_stream, new_call, new_stream, stream_opened, closed_in, stream_closed, job_done, worked, sent_at, sent}
use Rattle.world_model.specs.Starts.{new_place, started_over, clock_set_at, clock_set, looked, ticked_at, ticked}
use Rattle.world_model.specs.State.{Place, OpenedStream, World, word}
use Rattle.world_model.specs.Steps.{Step, at_place_of, by_outcome, steps}
use Rattle.world_model.specs.StoreLines.{not_due, expired_if, expired_by, store_stepped}
use Rattle.world_model.specs.Streams.{with_message, pushed_as, pushed_at, pushed_of, open_place, was_delivered, delivered_as, delivered_at, delivered_of, was_cut, cut_at, cut_of}
use Rattle.world_model.specs.Takes.{is_watch, took, taken_if, taken_at, message_taken, has_left, left_if, left_at, left}
use Rattle.world_model.specs.Transcript.{Done, step, done}

-- What comes of a step of the proxy `p` that gave an outcome, where `x` is its place behind the step: the world and the place that
-- the line leaves, but for the ready replies, and the line's own items.
pub data Turn (w : World) (p : ℕ) (x : Place) : CoreEvent → Outcome → World → Place → List Item → Replies → Type 0 where
  ticks : (o : Outcome) → Turn w p x (event.Tick (word w)) o w x (item.Ticked p ∷ []) []
  asks_it : (ticket : ℕ) (q : Request) (o : Outcome) → is_among x.tickets ticket ≡ false
      → Turn w p x (event.Ask ticket q (word w)) o w (with_ticket ticket x) (item.Asked p ticket q ∷ []) (told_at_once ticket o)
  posts_it : (ticket : ℕ) (path body : List ℕ) (q : Request) (o : Outcome) → is_among x.tickets ticket ≡ false
      → Turn w p x (event.Ask ticket q (word w)) o w (with_posted ticket x) (item.Posted p ticket path body ∷ item.Asked p ticket q ∷ []) (told_at_once ticket o)
  calls : (own member ticket : ℕ) (q : Request)
      → Turn w p x event.Work (outcome.Job (Some (job.Call own member ticket q))) (record w { calls = w.calls ++ new_call p x own member q ∷ [] })
      (record x { calls = x.calls ++ next_call w ∷ [] }) (item.Sent p (next_call w) member ticket q ∷ []) []
  opens : (own member : ℕ) (ask : WatchAsk)
      → Turn w p x event.Work (outcome.Job (Some (job.Begin own member (request.Watch ask)))) (record w { streams = w.streams ++ new_stream p x own ∷ []; store = (opened w.store member ask).0 })
      (record x { streams = with_kept x.streams own (next_stream w) }) (item.Opened p (next_stream w) member (request.Watch ask) ∷ []) []
  closes : (own number : ℕ) → kept_at x.streams own ≡ Some number
      → Turn w p x event.Work (outcome.Job (Some (job.Close own))) (closed_in w number (nth w.streams number)) x (item.Closed p number ∷ []) []
  answers : (number : ℕ) (call : SentCall) (a : Answer) (o : Outcome) → nth w.calls number ≡ Some call → call.executed ≡ Some a
      → Turn w p x (event.Answer call.own a) o (with_call w number (record call { settled = true })) x (item.Answered number ∷ []) []
  loses : (number : ℕ) (call : SentCall) (o : Outcome) → nth w.calls number ≡ Some call
      → Turn w p x (event.Lost call.own) o (with_call w number (record call { settled = true })) x (item.Lost number ∷ []) []
  delivers : (number : ℕ) (s : OpenedStream) (i : WatchItem) (rest : List WatchItem) (o : Outcome) → nth w.streams number ≡ Some s → s.proxy ≡ p → s.ended ≡ false → s.life ≡ x.life → s.waiting ≡ i ∷ rest
      → Turn w p x (event.Item s.own i) o (with_stream w number (record s { waiting = rest })) x (item.Delivered number ∷ []) []
  cuts : (number : ℕ) (s : OpenedStream) (o : Outcome) → nth w.streams number ≡ Some s → s.proxy ≡ p → s.ended ≡ false → s.life ≡ x.life
      → Turn w p x (event.Cut s.own) o (with_stream w number (ended s)) x (item.Cut number ∷ []) []
  takes : (ticket : ℕ) (i : WatchItem) → Turn w p x (event.Take ticket) (outcome.Item i) w x (taken_items p x.posted ticket i) []
  waits : (ticket : ℕ) (o : Outcome) → ((i : WatchItem) → o ≡ outcome.Item i → ⊥) → Turn w p x (event.Take ticket) o w x (item.Pending p ticket ∷ []) []
  leaves : (ticket : ℕ) (o : Outcome) → Turn w p x (event.Leave ticket) o w x (item.Left p ticket ∷ []) []

-- a proxy that is started, at this reading of its clock, for the so-manieth time
pub data Begins (w : World) (p : ℕ) : ℕ → ℕ → Item → Type 0 where
  first : place_at w p ≡ None → Begins w p 0 1 (item.Started p)
  again : (x : Place) → place_at w p ≡ Some x → Begins w p x.clock (x.life + 1) (item.Restarted p)

-- the store's message for a stream
abbrev pub IsPushed : State → ℕ → State → WatchItem → Type 0
IsPushed s number t i = (push_of s number ≡ Ok (t, i)) ⊎ (progressed s number ≡ Ok (t, i))

pub data Effect (w : World) : World → List Item → Type 0 where
  starts : (p clock life : ℕ) (i : Item) → Begins w p clock life i → Effect w (with_place w p (new_place w clock life)) (i ∷ [])
  sets : (p millis : ℕ) (x : Place) → place_at w p ≡ Some x → nat_lt millis x.clock ≡ false → Effect w (with_place w p (record x { clock = millis })) (item.Clock p millis ∷ [])
  refuses_post : (p ticket : ℕ) (path body : List ℕ) (a : Answer) (x : Place) → place_at w p ≡ Some x
      → Effect w (with_place w p (with_posted ticket x)) (item.Posted p ticket path body ∷ reply_items p (with_posted ticket x).posted (ticket, a))
  executes : (number : ℕ) (call : SentCall) → nth w.calls number ≡ Some call → call.executed ≡ None
      → Effect w (record w { calls = with_nth w.calls number (record call { executed = Some (exec w.store call.member call.request).1 }); store = (exec w.store call.member call.request).0; floors = floors_after call (exec w.store call.member call.request).1 w.floors })
      (item.Executed number (exec w.store call.member call.request).1 ∷ [])
  expires : (lease : ℕ) (t : State) → expired w.store lease ≡ Ok t → not_due w lease ≡ None → Effect w (record w { store = t }) (item.Expired lease ∷ [])
  applies : (member revision : ℕ) (t : State) → applied w.store member revision ≡ Ok t → Effect w (record w { store = t }) (item.Applied member revision ∷ [])
  pushes : (number : ℕ) (s : OpenedStream) (t : State) (i : WatchItem) → nth w.streams number ≡ Some s → s.ended ≡ false → s.cancelled ≡ false → IsPushed w.store number t i
      → Effect w (record w { streams = with_nth w.streams number (with_message i s); store = t }) (item.Pushed number i ∷ [])
  turns : (p : ℕ) (x : Place) (e : CoreEvent) (o : Outcome) (v : World) (y : Place) (own : List Item) (told : Replies) → place_at w p ≡ Some x → (stepped x.core e x.clock).outcome ≡ Ok o
      → Turn w p (with_core x (stepped x.core e x.clock).core) e o v y own told
      → Effect w (with_place v p (all_fetched y told).place) (own ++ flat_map (reply_items p (all_fetched y told).place.posted) (all_fetched y told).replies)

abbrev pub Goes : World → World → Result (List Item) WorldFault → Type 0
Goes w after (Ok items) = Effect w after items
Goes w after (Err why) = Unit {0}

abbrev Does : World → Step → Type 0
Does w x = Goes w x.world x.gained

-- ---- what all lines of a proxy have in common

outcome_does : (w : World) (p : ℕ) (x : Place) (e : CoreEvent) (why : WorldFault) (next : Place → Outcome → Step) (r : Result Outcome StepFault) → place_at w p ≡ Some x → (stepped x.core e x.clock).outcome ≡ r
    → ((o : Outcome) → (stepped x.core e x.clock).outcome ≡ Ok o → Does w (next (with_core x (stepped x.core e x.clock).core) o)) → Does w (by_outcome w p (with_core x (stepped x.core e x.clock).core) why next r)
outcome_does w p x e why next (Ok o) at is h = h o is
outcome_does w p x e why next (Err f) at is h = tt

steps_does : (w : World) (p : ℕ) (x : Place) (e : CoreEvent) (why : WorldFault) (next : Place → Outcome → Step) → place_at w p ≡ Some x
    → ((o : Outcome) → (stepped x.core e x.clock).outcome ≡ Ok o → Does w (next (with_core x (stepped x.core e x.clock).core) o)) → Does w (steps w p x e why next)
steps_does w p x e why next at h = outcome_does w p x e why next (stepped x.core e x.clock).outcome at refl h

at_does : (w : World) (p : ℕ) (o : Option Place) (f : Place → Step) → place_at w p ≡ o → ((x : Place) → place_at w p ≡ Some x → Does w (f x)) → Does w (at_place_of w p o f)
at_does w p None f e h = tt
at_does w p (Some x) f e h = h x e

choice : (w : World) (b : Bool) (x y : Step) → (b ≡ true → Does w x) → (b ≡ false → Does w y) → Does w (cond b x y)
choice w true x y f g = f refl
choice w false x y f g = g refl

-- ---- line by line

started_does : (w : World) (p : ℕ) (o : Option Place) → place_at w p ≡ o → Does w (started_over w p o)
started_does w p None e = starts p 0 1 (item.Started p) (first e)
started_does w p (Some x) e = starts p x.clock (x.life + 1) (item.Restarted p) (again x e)

clock_does : (w : World) (p millis : ℕ) → Does w (clock_set w p millis)
clock_does w p millis =
    at_does w p (place_at w p) (clock_set_at w p millis) refl (λ x e. choice w (nat_lt millis x.clock) _ _ (λ b. tt) (λ b. sets p millis x e b))

ticked_does : (w : World) (p : ℕ) → Does w (ticked w p)
ticked_does w p =
    at_does w p (place_at w p) (ticked_at w p) refl
    (λ x e. steps_does w p x _ _ (looked w p) e (λ o k. turns p x _ o w _ _ [] e k (ticks o)))

asked_does : (w : World) (p ticket : ℕ) (q : Request) → Does w (asked w p ticket q)
asked_does w p ticket q =
    at_does w p (place_at w p) (asked_at w p ticket q) refl
    (λ x e. choice w (is_among x.tickets ticket) _ _ (λ b. tt)
    (λ b. steps_does w p x _ _ (was_asked w p ticket q [] (with_ticket ticket)) e (λ o k. turns p x _ o w _ _ _ e k (asks_it ticket q o b))))

posted_by : (w : World) (p ticket : ℕ) (path body : List ℕ) (x : Place) (r : Result Request ApiFault) → place_at w p ≡ Some x → is_among x.tickets ticket ≡ false
    → Does w (posted_as w p ticket (item.Posted p ticket path body ∷ []) x r)
posted_by w p ticket path body x (Ok q) e b =
    steps_does w p x _ _ (was_asked w p ticket q (item.Posted p ticket path body ∷ []) (with_posted ticket)) e (λ o k. turns p x _ o w _ _ _ e k (posts_it ticket path body q o b))
posted_by w p ticket path body x (Err why) e b = refuses_post p ticket path body (Refused (post_refusal why)) x e

posted_does : (w : World) (p ticket : ℕ) (path body : List ℕ) → Does w (posted w p ticket path body)
posted_does w p ticket path body =
    at_does w p (place_at w p) (posted_at w p ticket path body) refl
    (λ x e. choice w (is_among x.tickets ticket) _ _ (λ b. tt) (λ b. posted_by w p ticket path body x (request_of Client path body) e b))

-- a job of a step at the place `x`
abbrev Outcomes : World → ℕ → Place → Outcome → Type 0
Outcomes w p x o = (place_at w p ≡ Some x) × ((stepped x.core event.Work x.clock).outcome ≡ Ok o)

abbrev behind : Place → Place
behind x = with_core x (stepped x.core event.Work x.clock).core

opened_does : (w : World) (p : ℕ) (x : Place) (own member : ℕ) (q : Request) → Outcomes w p x (outcome.Job (Some (job.Begin own member q))) → Does w (stream_opened w p (behind x) own member q)
opened_does w p x own member (request.Watch ask) h = turns p x _ _ _ _ _ _ h.0 h.1 (opens own member ask)
opened_does w p x own member (request.Range ask) h = tt
opened_does w p x own member (request.Put ask) h = tt
opened_does w p x own member (request.Delete ask) h = tt
opened_does w p x own member (request.Txn ask) h = tt
opened_does w p x own member (request.Compact revision physical) h = tt
opened_does w p x own member (request.Grant ttl lease) h = tt
opened_does w p x own member (request.Revoke lease) h = tt
opened_does w p x own member (request.KeepAlive lease) h = tt
opened_does w p x own member (request.TimeToLive lease keys) h = tt
opened_does w p x own member request.Leases h = tt

closed_does : (w : World) (p : ℕ) (x : Place) (own : ℕ) (o : Option ℕ) → kept_at x.streams own ≡ o → Outcomes w p x (outcome.Job (Some (job.Close own))) → Does w (stream_closed w p (behind x) o)
closed_does w p x own None e h = tt
closed_does w p x own (Some number) e h = turns p x _ _ _ _ _ _ h.0 h.1 (closes own number e)

job_does : (w : World) (p : ℕ) (x : Place) (j : Job) → Outcomes w p x (outcome.Job (Some j)) → Does w (job_done w p (behind x) j)
job_does w p x (job.Call own member ticket q) h = turns p x _ _ _ _ _ _ h.0 h.1 (calls own member ticket q)
job_does w p x (job.Begin own member q) h = opened_does w p x own member q h
job_does w p x (job.Close own) h = closed_does w p x own (kept_at x.streams own) refl h

worked_does : (w : World) (p : ℕ) (x : Place) (o : Outcome) → Outcomes w p x o → Does w (worked w p (behind x) o)
worked_does w p x (outcome.Job (Some j)) h = job_does w p x j h
worked_does w p x (outcome.Job None) h = tt
worked_does w p x (outcome.Replied a) h = tt
worked_does w p x outcome.Waiting h = tt
worked_does w p x outcome.Pending h = tt
worked_does w p x (outcome.Item i) h = tt
worked_does w p x outcome.Noted h = tt

sent_does : (w : World) (p : ℕ) → Does w (sent w p)
sent_does w p =
    at_does w p (place_at w p) (sent_at w p) refl (λ x e. steps_does w p x _ _ (worked w p) e (λ o k. worked_does w p x o (e, k)))

-- ---- calls

executed_by : (w : World) (number : ℕ) (call : SentCall) (o : Option Answer) → nth w.calls number ≡ Some call → call.executed ≡ o → Does w (executed_if w number call o)
executed_by w number call (Some a) e is = tt
executed_by w number call None e is = executes number call e is

executed_does : (w : World) (number : ℕ) (o : Option SentCall) → nth w.calls number ≡ o → Does w (executed_of w number o)
executed_does w number None e = tt
executed_does w number (Some call) e = executed_by w number call call.executed e refl

-- a place that a call or a stream has is its proxy's

pub unless_is : (b : Bool) (o : Option Place) (x : Place) → unless b o ≡ Some x → (b ≡ false) × (o ≡ Some x)
unless_is true o x e = absurd (cc)
unless_is false o x e = (refl, e)

pub life_is : (life : ℕ) (o : Option Place) (x : Place) → if_life life o ≡ Some x → ((x.life == life) ≡ true) × (o ≡ Some x)
life_is life None x e = absurd (cc)
life_is life (Some y) x e = by (y.life == life) refl e
  where
    by : (b : Bool) → (y.life == life) ≡ b → cond b (Some y) None ≡ Some x → ((x.life == life) ≡ true) × (Some y ≡ Some x)
    by true is h = let same : y ≡ x = cc in (ap (λ (z : Place). z.life == life) (sym same) ∙ is, h)
    by false is h = absurd (cc)

call_is : (w : World) (call : SentCall) (x : Place) → call_place w call ≡ Some x → place_at w call.proxy ≡ Some x
call_is w call x e = (life_is call.life (place_at w call.proxy) x (unless_is call.settled _ x e).1).1

same_number : (a b : ℕ) → (a == b) ≡ true → b ≡ a
same_number a b e = grind (arith, nat_tests)

stream_is : (w : World) (s : OpenedStream) (x : Place) → stream_place w s ≡ Some x → (place_at w s.proxy ≡ Some x) × (s.ended ≡ false) × (s.life ≡ x.life)
stream_is w s x e =
    let a = unless_is s.ended _ x e in
    let b = life_is s.life (place_at w s.proxy) x a.1 in
    (b.1, a.0, same_number x.life s.life b.0)

answered_by : (w : World) (number : ℕ) (call : SentCall) (x : Place) (o : Option Answer) → nth w.calls number ≡ Some call → place_at w call.proxy ≡ Some x → call.executed ≡ o
    → Does w (answered_as w number call x o)
answered_by w number call x None e f is = tt
answered_by w number call x (Some a) e f is =
    steps_does w call.proxy x _ _ (was_answered w number call) f (λ o k. turns call.proxy x _ o _ _ _ [] f k (answers number call a o e is))

answered_in : (w : World) (number : ℕ) (call : SentCall) (o : Option Place) → nth w.calls number ≡ Some call → call_place w call ≡ o → Does w (answered_at w number call o)
answered_in w number call None e f = tt
answered_in w number call (Some x) e f = answered_by w number call x call.executed e (call_is w call x f) refl

answered_does : (w : World) (number : ℕ) (o : Option SentCall) → nth w.calls number ≡ o → Does w (answered_of w number o)
answered_does w number None e = tt
answered_does w number (Some call) e = answered_in w number call (call_place w call) e refl

lost_in : (w : World) (number : ℕ) (call : SentCall) (o : Option Place) → nth w.calls number ≡ Some call → call_place w call ≡ o → Does w (lost_at w number call o)
lost_in w number call None e f = tt
lost_in w number call (Some x) e f =
    let at = call_is w call x f in
    steps_does w call.proxy x _ _ (was_lost w number call) at (λ o k. turns call.proxy x _ o _ _ _ [] at k (loses number call o e))

lost_does : (w : World) (number : ℕ) (o : Option SentCall) → nth w.calls number ≡ o → Does w (lost_of w number o)
lost_does w number None e = tt
lost_does w number (Some call) e = lost_in w number call (call_place w call) e refl

-- ---- streams

pushed_by : (w : World) (number : ℕ) (s : OpenedStream) (k : Pushed) → nth w.streams number ≡ Some s → s.ended ≡ false → s.cancelled ≡ false → ((t : State) (i : WatchItem) → k ≡ Ok (t, i) → IsPushed w.store number t i)
    → Does w (pushed_as w number s k)
pushed_by w number s (Err why) e a b h = tt
pushed_by w number s (Ok p) e a b h = pushes number s p.0 p.1 e a b (h p.0 p.1 refl)

pushed_in : (w : World) (number : ℕ) (message : ℕ → Pushed) (s : OpenedStream) (o : Option Place) → nth w.streams number ≡ Some s → open_place w s ≡ o → ((t : State) (i : WatchItem) → message number ≡ Ok (t, i) → IsPushed w.store number t i)
    → Does w (pushed_at w number message s o)
pushed_in w number message s None e f h = tt
pushed_in w number message s (Some x) e f h =
    let a = unless_is s.cancelled (stream_place w s) x f in
    pushed_by w number s (message number) e (stream_is w s x a.1).1 a.0 h

pushed_does : (w : World) (number : ℕ) (message : ℕ → Pushed) (o : Option OpenedStream) → nth w.streams number ≡ o → ((t : State) (i : WatchItem) → message number ≡ Ok (t, i) → IsPushed w.store number t i)
    → Does w (pushed_of w number message o)
pushed_does w number message None e h = tt
pushed_does w number message (Some s) e h = pushed_in w number message s (open_place w s) e refl h

delivered_by : (w : World) (number : ℕ) (s : OpenedStream) (x : Place) (waiting : List WatchItem) → nth w.streams number ≡ Some s → stream_place w s ≡ Some x → s.waiting ≡ waiting
    → Does w (delivered_as w number s x waiting)
delivered_by w number s x [] e f is = tt
delivered_by w number s x (i ∷ rest) e f is =
    let at = stream_is w s x f in
    steps_does w s.proxy x _ _ (was_delivered w number s rest) at.0 (λ o k. turns s.proxy x _ o _ _ _ [] at.0 k (delivers number s i rest o e refl at.1 at.2 is))

delivered_in : (w : World) (number : ℕ) (s : OpenedStream) (o : Option Place) → nth w.streams number ≡ Some s → stream_place w s ≡ o → Does w (delivered_at w number s o)
delivered_in w number s None e f = tt
delivered_in w number s (Some x) e f = delivered_by w number s x s.waiting e f refl

delivered_does : (w : World) (number : ℕ) (o : Option OpenedStream) → nth w.streams number ≡ o → Does w (delivered_of w number o)
delivered_does w number None e = tt
delivered_does w number (Some s) e = delivered_in w number s (stream_place w s) e refl

cut_in : (w : World) (number : ℕ) (s : OpenedStream) (o : Option Place) → nth w.streams number ≡ Some s → open_place w s ≡ o → Does w (cut_at w number s o)
cut_in w number s None e f = tt
cut_in w number s (Some x) e f =
    let at = stream_is w s x (unless_is s.cancelled _ x f).1 in
    steps_does w s.proxy x _ _ (was_cut w number s) at.0 (λ o k. turns s.proxy x _ o _ _ _ [] at.0 k (cuts number s o e refl at.1 at.2))

cut_does : (w : World) (number : ℕ) (o : Option OpenedStream) → nth w.streams number ≡ o → Does w (cut_of w number o)
cut_does w number None e = tt
cut_does w number (Some s) e = cut_in w number s (open_place w s) e refl

-- ---- takes and leaves

took_does : (w : World) (p ticket : ℕ) (x : Place) (o : Outcome) → place_at w p ≡ Some x → (stepped x.core (event.Take ticket) x.clock).outcome ≡ Ok o
    → Does w (took w p ticket (with_core x (stepped x.core (event.Take ticket) x.clock).core) o)
took_does w p ticket x (outcome.Item i) e k = turns p x _ _ w _ _ [] e k (takes ticket i)
took_does w p ticket x (outcome.Job j) e k = turns p x _ _ w _ _ [] e k (waits ticket _ (λ i h. absurd (cc)))
took_does w p ticket x (outcome.Replied a) e k = turns p x _ _ w _ _ [] e k (waits ticket _ (λ i h. absurd (cc)))
took_does w p ticket x outcome.Waiting e k = turns p x _ _ w _ _ [] e k (waits ticket _ (λ i h. absurd (cc)))
took_does w p ticket x outcome.Pending e k = turns p x _ _ w _ _ [] e k (waits ticket _ (λ i h. absurd (cc)))
took_does w p ticket x outcome.Noted e k = turns p x _ _ w _ _ [] e k (waits ticket _ (λ i h. absurd (cc)))

taken_by : (w : World) (p ticket : ℕ) (x : Place) (b : Bool) → place_at w p ≡ Some x → Does w (taken_if w p ticket x b)
taken_by w p ticket x false e = tt
taken_by w p ticket x true e = steps_does w p x _ _ (took w p ticket) e (λ o k. took_does w p ticket x o e k)

message_taken_does : (w : World) (p ticket : ℕ) → Does w (message_taken w p ticket)
message_taken_does w p ticket = at_does w p (place_at w p) (taken_at w p ticket) refl (λ x e. taken_by w p ticket x (is_watch ticket x) e)

left_by : (w : World) (p ticket : ℕ) (x : Place) (b : Bool) → place_at w p ≡ Some x → Does w (left_if w p ticket x b)
left_by w p ticket x false e = tt
left_by w p ticket x true e = steps_does w p x _ _ (has_left w p ticket) e (λ o k. turns p x _ o w _ _ [] e k (leaves ticket o))

left_does : (w : World) (p ticket : ℕ) → Does w (left w p ticket)
left_does w p ticket = at_does w p (place_at w p) (left_at w p ticket) refl (λ x e. left_by w p ticket x (is_known ticket x.core) e)

-- ---- lines of the store

due_does : (w : World) (lease : ℕ) (o : Option WorldFault) (after : State) → expired w.store lease ≡ Ok after → not_due w lease ≡ o → Does w (expired_if w lease o after)
due_does w lease (Some why) after e due = tt
due_does w lease None after e due = expires lease after e due

expired_does : (w : World) (lease : ℕ) (r : Result State StoreFault) → expired w.store lease ≡ r → Does w (expired_by w lease r)
expired_does w lease (Err why) e = tt
expired_does w lease (Ok after) e = due_does w lease (not_due w lease) after e refl

applied_does : (w : World) (member revision : ℕ) (r : Result State StoreFault) → applied w.store member revision ≡ r → Does w (store_stepped w (item.Applied member revision) r)
applied_does w member revision (Err why) e = tt
applied_does w member revision (Ok after) e = applies member revision after e

-- ---- all lines

abbrev Went : World → World → Result (List Item) LineRefusal → Type 0
Went w after (Ok items) = Effect w after items
Went w after (Err why) = Unit {0}

abbrev WentWell : World → Done → Type 0
WentWell w d = Went w d.world d.gained

step_by : (w after : World) (r : Result (List Item) WorldFault) → Goes w after r → WentWell w (step (record { world = after; gained = r }))
step_by w after (Ok items) h = h
step_by w after (Err why) h = tt

went : (w : World) (x : Step) → Does w x → WentWell w (step x)
went w x h = step_by w x.world x.gained h

all_go : (w : World) (l : Line) → WentWell w (done w l)
all_go w (line.World members namespace leasing) = tt
all_go w (line.Start p) = went w _ (started_does w p (place_at w p) refl)
all_go w (line.Clock p millis) = went w _ (clock_does w p millis)
all_go w (line.Ask p ticket q) = went w _ (asked_does w p ticket q)
all_go w (line.Post p ticket path body) = went w _ (posted_does w p ticket path body)
all_go w (line.Tick p) = went w _ (ticked_does w p)
all_go w (line.Send p) = went w _ (sent_does w p)
all_go w (line.Exec number) = went w _ (executed_does w number (nth w.calls number) refl)
all_go w (line.Answer number) = went w _ (answered_does w number (nth w.calls number) refl)
all_go w (line.Lose number) = went w _ (lost_does w number (nth w.calls number) refl)
all_go w (line.Push number) = went w _ (pushed_does w number (push_of w.store) (nth w.streams number) refl (λ t i e. inl e))
all_go w (line.Progress number) = went w _ (pushed_does w number (progressed w.store) (nth w.streams number) refl (λ t i e. inr e))
all_go w (line.Deliver number) = went w _ (delivered_does w number (nth w.streams number) refl)
all_go w (line.Cut number) = went w _ (cut_does w number (nth w.streams number) refl)
all_go w (line.Take p ticket) = went w _ (message_taken_does w p ticket)
all_go w (line.Leave p ticket) = went w _ (left_does w p ticket)
all_go w (line.Expire lease) = went w _ (expired_does w lease (expired w.store lease) refl)
all_go w (line.Apply member revision) = went w _ (applied_does w member revision (applied w.store member revision) refl)

pub effect : (w : World) (l : Line) (items : List Item) → (done w l).gained ≡ Ok items → Effect w (done w l).world items
effect w l items e = subst (Went w (done w l).world) e (all_go w l)
