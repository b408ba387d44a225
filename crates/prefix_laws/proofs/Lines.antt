-- What each step of a proxy keeps, each line keeps of every proxy of a world, whether it is taken or refused.
use Rattle.std.proofs.Common.{◌≡◌, ℕ, ◌+◌, ◌==◌, Bool, true, false, cond, nat_lt, List, [], ◌∷◌, ◌++◌, length, Option, None, Some, Result, Ok, Err, refl, sym, ◌∙◌, ap, subst}
use Rattle.etcd_types.specs.declared.answer.Answer.{Answer}
use Rattle.etcd_types.specs.declared.request.Request.{Request}
use Rattle.etcd_types.specs.declared.request.Request.TheVariants as request
use Rattle.etcd_types.specs.declared.watch.WatchItem.{WatchItem}
use Rattle.json_model.specs.declared.extra.Reading.TheVariants.{Client}
use Rattle.json_model.specs.declared.fault.ApiFault.{ApiFault}
use Rattle.json_model.specs.Mapping.{request_of}
use Rattle.store_model.specs.declared.store_fault.StoreFault.{StoreFault}
use Rattle.store_model.specs.Leases.{expired}
use Rattle.store_model.specs.Members.{applied}
use Rattle.store_model.specs.State.{State}
use Rattle.store_model.specs.Watches.{Pushed, opened, pushed as push_of, progressed}
use Rattle.core_model.specs.declared.event.CoreEvent.{CoreEvent}
use Rattle.core_model.specs.declared.event.CoreEvent.TheVariants as event
use Rattle.core_model.specs.declared.event.Job.{Job}
use Rattle.core_model.specs.declared.event.Job.TheVariants as job
use Rattle.core_model.specs.declared.event.Outcome.{Outcome}
use Rattle.core_model.specs.declared.event.Outcome.TheVariants as outcome
use Rattle.core_model.specs.declared.event.StepFault.{StepFault}
use Rattle.core_model.specs.declared.settings.Settings.{Settings}
use Rattle.core_model.specs.Lookups.{is_known}
use Rattle.core_model.specs.State.{Core, first_core}
use Rattle.core_model.specs.Step.{stepped}
use Rattle.core_laws.specs.Steps.Kept.{IsHeard}
use Rattle.held_laws.proofs.Worlds.{equal, one_place, placed_itself, placed_other}
use Rattle.core_laws.specs.Watches.Streams.{HasAtMost, QueuesAreBounded}
use Rattle.core_laws.proofs.Watches.Bounded.{steps_keep_bounded}
use Rattle.script_text.specs.declared.item.Item.{Item}
use Rattle.script_text.specs.declared.item.Item.TheVariants as item
use Rattle.script_text.specs.declared.line.Line.{Line}
use Rattle.script_text.specs.declared.line.Line.TheVariants as line
use Rattle.waiting_laws.specs.Sound.{IsSound}
use Rattle.waiting_laws.proofs.Sound.{starts_sound, steps_stay_sound}
use Rattle.world_laws.proofs.Effects.{life_is, unless_is}
use Rattle.world_model.specs.declared.fault.WorldFault.{WorldFault}
use Rattle.world_model.specs.declared.sent_call.SentCall.{SentCall}
use Rattle.world_model.specs.Asks.{told_at_once, was_asked, asks, asked_at, posted_as, posted_at}
use Rattle.world_model.specs.Calls.{executed_if, executed_of, was_answered, answered_as, answered_at, answered_of, was_lost, lost_at, lost_of}
use Rattle.world_model.specs.Gains.{Replies, all_fetched, gained, taken_items}
use Rattle.world_model.specs.Places.{nth, kept_at, with_kept, place_at, call_place, stream_place, ended, is_among, with_core, with_place, with_ticket, with_posted, with_call, with_stream}
use Rattle.world_model.specs.Sends.{next_call, next_stream, new_call, new_stream, stream_opened, closed_in, stream_closed, job_done, worked, sent_at}
use Rattle.world_model.specs.Starts.{settings, new_place, started_over, clock_set_at, looked, ticked_at}
use Rattle.world_model.specs.State.{Place, OpenedStream, World, Numbered, word}
use Rattle.world_model.specs.Steps.{Step, at_place_of, by_outcome, steps}
use Rattle.world_model.specs.StoreLines.{not_due, expired_if, expired_by, store_stepped}
use Rattle.world_model.specs.Streams.{pushed_as, pushed_at, pushed_of, open_place, was_delivered, delivered_as, delivered_at, delivered_of, was_cut, cut_at, cut_of}
use Rattle.world_model.specs.Takes.{is_watch, took, taken_if, taken_at, has_left, left_if, left_at}
use Rattle.world_model.specs.Transcript.{done}
use Rattle.prefix_laws.specs.Lines.{OfProxies, Brings, LinesStaySound, LinesStayBounded}
use Rattle.prefix_laws.proofs.Places.{fetched_so}

-- neither an answer nor a message
abbrev is_quiet : CoreEvent → Bool
is_quiet (event.Answer call a) = false
is_quiet (event.Item number x) = false
is_quiet _ = true

-- where a call's or a stream's proxy is, where it isn't settled or ended
call_is : (w : World) (call : SentCall) (x : Place) → call_place w call ≡ Some x → place_at w call.proxy ≡ Some x
call_is w call x e = (life_is call.life (place_at w call.proxy) x (unless_is call.settled _ x e).1).1

stream_is : (w : World) (s : OpenedStream) (x : Place) → stream_place w s ≡ Some x → place_at w s.proxy ≡ Some x
stream_is w s x e = (life_is s.life (place_at w s.proxy) x (unless_is s.ended _ x e).1).1

-- where what comes fits, each step keeps it, and what is neither an answer nor a message fits
pub record Keeps (P : Core → Type 0) (Fits : Core → CoreEvent → Type 0) : Type 0 where
  pub start : (s : Settings) → P (first_core s)
  pub quiet : (c : Core) (e : CoreEvent) → is_quiet e ≡ true → Fits c e
  pub step : (c : Core) (e : CoreEvent) (now : ℕ) → Fits c e → P c → P (stepped c e now).core

module _ (P : Core → Type 0) (Fits : Core → CoreEvent → Type 0) (k : Keeps P Fits) (w : World) (h : OfProxies P w) where
  -- of the world that a line leaves
  abbrev So : Step → Type 0
  So s = OfProxies P s.world

  -- ---- one place is put anew

  put_so : (v : World) (p : ℕ) (z : Place) → v.places ≡ w.places → P z.core → OfProxies P (with_place v p z)
  put_so v p z same so q y at = by (q == p) refl
    where
      by : (b : Bool) → (q == p) ≡ b → P y.core
      by true n =
          let there : q ≡ p = equal q p n in
          let one : z ≡ y = one_place z y (sym (placed_itself w v p z) ∙ ap (place_at (with_place v p z)) (sym there) ∙ at) in
          subst (λ (x : Place). P x.core) one so
      by false n = h q y (sym (placed_other w v p q z same n) ∙ at)

  gained_so : (v : World) (p : ℕ) (x : Place) (own : List Item) (told : Replies) → v.places ≡ w.places → P x.core → So (gained v p x own told)
  gained_so v p x own told same so =
      put_so v p (all_fetched x told).place same (fetched_so P (λ c ticket now t. k.step c (event.Take ticket) now (k.quiet c (event.Take ticket) refl) t) (length x.core.asks) x told so)

  -- the places stay
  kept_so : (v : World) → v.places ≡ w.places → OfProxies P v
  kept_so v same q y at = h q y (ap (λ (ps : Numbered Place). kept_at ps q) (sym same) ∙ at)

  -- ---- a proxy makes a step

  outcome_so : (p : ℕ) (x : Place) (why : WorldFault) (next : Place → Outcome → Step) (r : Result Outcome StepFault) → P x.core → ((o : Outcome) → So (next x o)) → So (by_outcome w p x why next r)
  outcome_so p x why next (Ok o) so more = more o
  outcome_so p x why next (Err f) so more = put_so w p x refl so

  steps_so : (p : ℕ) (x : Place) (e : CoreEvent) (why : WorldFault) (next : Place → Outcome → Step) → place_at w p ≡ Some x → Fits x.core e → ((y : Place) (o : Outcome) → P y.core → So (next y o)) → So (steps w p x e why next)
  steps_so p x e why next at fits more =
      let y = with_core x (stepped x.core e x.clock).core in
      let so : P y.core = k.step x.core e x.clock fits (h p x at) in
      outcome_so p y why next (stepped x.core e x.clock).outcome so (λ o. more y o so)

  at_so : (p : ℕ) (o : Option Place) (f : Place → Step) → place_at w p ≡ o → ((x : Place) → place_at w p ≡ Some x → So (f x)) → So (at_place_of w p o f)
  at_so p None f e more = h
  at_so p (Some x) f e more = more x e

  choice_so : (b : Bool) (x y : Step) → So x → So y → So (cond b x y)
  choice_so true x y f g = f
  choice_so false x y f g = g

  -- ---- line by line

  started_so : (p : ℕ) (o : Option Place) → So (started_over w p o)
  started_so p None = put_so w p (new_place w 0 1) refl (k.start (settings w))
  started_so p (Some x) = put_so w p (new_place w x.clock (x.life + 1)) refl (k.start (settings w))

  clock_so : (p millis : ℕ) (x : Place) → place_at w p ≡ Some x → So (clock_set_at w p millis x)
  clock_so p millis x at = choice_so (nat_lt millis x.clock) _ _ h (put_so w p (record x { clock = millis }) refl (h p x at))

  asks_so : (p ticket : ℕ) (q : Request) (before : List Item) (mark : Place → Place) (x : Place) → ((y : Place) → (mark y).core ≡ y.core) → place_at w p ≡ Some x → So (asks w p ticket q before mark x)
  asks_so p ticket q before mark x same at =
      steps_so p x (event.Ask ticket q (word w)) _ (was_asked w p ticket q before mark) at (k.quiet x.core (event.Ask ticket q (word w)) refl)
      (λ y o so. gained_so w p (mark y) (before ++ item.Asked p ticket q ∷ []) (told_at_once ticket o) refl (subst P (sym (same y)) so))

  posted_so : (p ticket : ℕ) (before : List Item) (x : Place) (r : Result Request ApiFault) → place_at w p ≡ Some x → So (posted_as w p ticket before x r)
  posted_so p ticket before x (Ok q) at = asks_so p ticket q before (with_posted ticket) x (λ y. refl) at
  posted_so p ticket before x (Err why) at = put_so w p (with_posted ticket x) refl (h p x at)

  opened_so : (p : ℕ) (x : Place) (own member : ℕ) (q : Request) → P x.core → So (stream_opened w p x own member q)
  opened_so p x own member (request.Watch ask) so = gained_so (record w { streams = w.streams ++ new_stream p x own ∷ []; store = (opened w.store member ask).0 }) p (record x { streams = with_kept x.streams own (next_stream w) }) (item.Opened p (next_stream w) member (request.Watch ask) ∷ []) [] refl so
  opened_so p x own member (request.Range ask) so = put_so w p x refl so
  opened_so p x own member (request.Put ask) so = put_so w p x refl so
  opened_so p x own member (request.Delete ask) so = put_so w p x refl so
  opened_so p x own member (request.Txn ask) so = put_so w p x refl so
  opened_so p x own member (request.Compact revision physical) so = put_so w p x refl so
  opened_so p x own member (request.Grant ttl lease) so = put_so w p x refl so
  opened_so p x own member (request.Revoke lease) so = put_so w p x refl so
  opened_so p x own member (request.KeepAlive lease) so = put_so w p x refl so
  opened_so p x own member (request.TimeToLive lease keys) so = put_so w p x refl so
  opened_so p x own member request.Leases so = put_so w p x refl so

  closed_places : (number : ℕ) (o : Option OpenedStream) → (closed_in w number o).places ≡ w.places
  closed_places number None = refl
  closed_places number (Some s) = refl

  closed_so : (p : ℕ) (x : Place) (o : Option ℕ) → P x.core → So (stream_closed w p x o)
  closed_so p x None so = put_so w p x refl so
  closed_so p x (Some number) so = gained_so (closed_in w number (nth w.streams number)) p x (item.Closed p number ∷ []) [] (closed_places number (nth w.streams number)) so

  job_so : (p : ℕ) (x : Place) (j : Job) → P x.core → So (job_done w p x j)
  job_so p x (job.Call own member ticket q) so = gained_so (record w { calls = w.calls ++ new_call p x own member q ∷ [] }) p (record x { calls = x.calls ++ next_call w ∷ [] }) (item.Sent p (next_call w) member ticket q ∷ []) [] refl so
  job_so p x (job.Begin own member q) so = opened_so p x own member q so
  job_so p x (job.Close own) so = closed_so p x (kept_at x.streams own) so

  worked_so : (p : ℕ) (x : Place) (o : Outcome) → P x.core → So (worked w p x o)
  worked_so p x (outcome.Job (Some j)) so = job_so p x j so
  worked_so p x (outcome.Job None) so = put_so w p x refl so
  worked_so p x (outcome.Replied a) so = put_so w p x refl so
  worked_so p x outcome.Waiting so = put_so w p x refl so
  worked_so p x outcome.Pending so = put_so w p x refl so
  worked_so p x (outcome.Item i) so = put_so w p x refl so
  worked_so p x outcome.Noted so = put_so w p x refl so

  -- ---- calls

  executed_by : (number : ℕ) (call : SentCall) (o : Option Answer) → So (executed_if w number call o)
  executed_by number call (Some a) = h
  executed_by number call None = h

  executed_so : (number : ℕ) (o : Option SentCall) → So (executed_of w number o)
  executed_so number None = h
  executed_so number (Some call) = executed_by number call call.executed

  answered_by : (number : ℕ) (call : SentCall) (x : Place) (o : Option Answer) → place_at w call.proxy ≡ Some x → ((a : Answer) → o ≡ Some a → Fits x.core (event.Answer call.own a)) → So (answered_as w number call x o)
  answered_by number call x None at fits = h
  answered_by number call x (Some a) at fits =
      steps_so call.proxy x (event.Answer call.own a) _ (was_answered w number call) at (fits a refl)
      (λ y o so. gained_so (with_call w number (record call { settled = true })) call.proxy y (item.Answered number ∷ []) [] refl so)

  answered_in : (number : ℕ) (call : SentCall) (o : Option Place) → call_place w call ≡ o → ((x : Place) (a : Answer) → o ≡ Some x → call.executed ≡ Some a → Fits x.core (event.Answer call.own a)) → So (answered_at w number call o)
  answered_in number call None f fits = h
  answered_in number call (Some x) f fits = answered_by number call x call.executed (call_is w call x f) (λ a e. fits x a refl e)

  answered_so : (number : ℕ) (o : Option SentCall) → nth w.calls number ≡ o → Brings Fits w (line.Answer number) → So (answered_of w number o)
  answered_so number None e fits = h
  answered_so number (Some call) e fits = answered_in number call (call_place w call) refl (λ x a f g. fits call x a e f g)

  lost_in : (number : ℕ) (call : SentCall) (o : Option Place) → call_place w call ≡ o → So (lost_at w number call o)
  lost_in number call None f = h
  lost_in number call (Some x) f =
      steps_so call.proxy x (event.Lost call.own) _ (was_lost w number call) (call_is w call x f) (k.quiet x.core (event.Lost call.own) refl)
      (λ y o so. gained_so (with_call w number (record call { settled = true })) call.proxy y (item.Lost number ∷ []) [] refl so)

  lost_so : (number : ℕ) (o : Option SentCall) → So (lost_of w number o)
  lost_so number None = h
  lost_so number (Some call) = lost_in number call (call_place w call) refl

  -- ---- streams

  pushed_by : (number : ℕ) (s : OpenedStream) (r : Pushed) → So (pushed_as w number s r)
  pushed_by number s (Err why) = h
  pushed_by number s (Ok p) = h

  pushed_in : (number : ℕ) (message : ℕ → Pushed) (s : OpenedStream) (o : Option Place) → So (pushed_at w number message s o)
  pushed_in number message s None = h
  pushed_in number message s (Some x) = pushed_by number s (message number)

  pushed_so : (number : ℕ) (message : ℕ → Pushed) (o : Option OpenedStream) → So (pushed_of w number message o)
  pushed_so number message None = h
  pushed_so number message (Some s) = pushed_in number message s (open_place w s)

  delivered_by : (number : ℕ) (s : OpenedStream) (x : Place) (waiting : List WatchItem) → stream_place w s ≡ Some x → ((i : WatchItem) (rest : List WatchItem) → waiting ≡ i ∷ rest → Fits x.core (event.Item s.own i)) → So (delivered_as w number s x waiting)
  delivered_by number s x [] f fits = h
  delivered_by number s x (i ∷ rest) f fits =
      steps_so s.proxy x (event.Item s.own i) _ (was_delivered w number s rest) (stream_is w s x f) (fits i rest refl)
      (λ y o so. gained_so (with_stream w number (record s { waiting = rest })) s.proxy y (item.Delivered number ∷ []) [] refl so)

  delivered_in : (number : ℕ) (s : OpenedStream) (o : Option Place) → stream_place w s ≡ o
      → ((x : Place) (i : WatchItem) (rest : List WatchItem) → o ≡ Some x → s.waiting ≡ i ∷ rest → Fits x.core (event.Item s.own i)) → So (delivered_at w number s o)
  delivered_in number s None f fits = h
  delivered_in number s (Some x) f fits = delivered_by number s x s.waiting f (λ i rest e. fits x i rest refl e)

  delivered_so : (number : ℕ) (o : Option OpenedStream) → nth w.streams number ≡ o → Brings Fits w (line.Deliver number) → So (delivered_of w number o)
  delivered_so number None e fits = h
  delivered_so number (Some s) e fits = delivered_in number s (stream_place w s) refl (λ x i rest f g. fits s x i rest e f g)

  cut_in : (number : ℕ) (s : OpenedStream) (o : Option Place) → open_place w s ≡ o → So (cut_at w number s o)
  cut_in number s None f = h
  cut_in number s (Some x) f =
      steps_so s.proxy x (event.Cut s.own) _ (was_cut w number s) (stream_is w s x (unless_is s.cancelled (stream_place w s) x f).1) (k.quiet x.core (event.Cut s.own) refl)
      (λ y o so. gained_so (with_stream w number (ended s)) s.proxy y (item.Cut number ∷ []) [] refl so)

  cut_so : (number : ℕ) (o : Option OpenedStream) → So (cut_of w number o)
  cut_so number None = h
  cut_so number (Some s) = cut_in number s (open_place w s) refl

  -- ---- takes and leaves

  took_so : (p ticket : ℕ) (x : Place) (o : Outcome) → P x.core → So (took w p ticket x o)
  took_so p ticket x (outcome.Item i) so = gained_so w p x (taken_items p x.posted ticket i) [] refl so
  took_so p ticket x (outcome.Job j) so = gained_so w p x (item.Pending p ticket ∷ []) [] refl so
  took_so p ticket x (outcome.Replied a) so = gained_so w p x (item.Pending p ticket ∷ []) [] refl so
  took_so p ticket x outcome.Waiting so = gained_so w p x (item.Pending p ticket ∷ []) [] refl so
  took_so p ticket x outcome.Pending so = gained_so w p x (item.Pending p ticket ∷ []) [] refl so
  took_so p ticket x outcome.Noted so = gained_so w p x (item.Pending p ticket ∷ []) [] refl so

  taken_so : (p ticket : ℕ) (x : Place) (b : Bool) → place_at w p ≡ Some x → So (taken_if w p ticket x b)
  taken_so p ticket x false at = h
  taken_so p ticket x true at = steps_so p x (event.Take ticket) _ (took w p ticket) at (k.quiet x.core (event.Take ticket) refl) (λ y o so. took_so p ticket y o so)

  left_so : (p ticket : ℕ) (x : Place) (b : Bool) → place_at w p ≡ Some x → So (left_if w p ticket x b)
  left_so p ticket x false at = h
  left_so p ticket x true at =
      steps_so p x (event.Leave ticket) _ (has_left w p ticket) at (k.quiet x.core (event.Leave ticket) refl) (λ y o so. gained_so w p y (item.Left p ticket ∷ []) [] refl so)

  -- ---- the store

  expired_if_so : (lease : ℕ) (o : Option WorldFault) (t : State) → So (expired_if w lease o t)
  expired_if_so lease (Some why) t = h
  expired_if_so lease None t = h

  expired_so : (lease : ℕ) (r : Result State StoreFault) → So (expired_by w lease r)
  expired_so lease (Err why) = h
  expired_so lease (Ok t) = expired_if_so lease (not_due w lease) t

  applied_so : (told : Item) (r : Result State StoreFault) → So (store_stepped w told r)
  applied_so told (Err why) = h
  applied_so told (Ok t) = h

  -- ---- each line

  pub line_so : (l : Line) → Brings Fits w l → OfProxies P (done w l).world
  line_so (line.World members namespace leasing) b = h
  line_so (line.Start p) b = started_so p (place_at w p)
  line_so (line.Clock p millis) b = at_so p (place_at w p) (clock_set_at w p millis) refl (λ x at. clock_so p millis x at)
  line_so (line.Ask p ticket q) b = at_so p (place_at w p) (asked_at w p ticket q) refl (λ x at. choice_so (is_among x.tickets ticket) _ _ h (asks_so p ticket q [] (with_ticket ticket) x (λ y. refl) at))
  line_so (line.Post p ticket path body) b =
      at_so p (place_at w p) (posted_at w p ticket path body) refl
      (λ x at. choice_so (is_among x.tickets ticket) _ _ h (posted_so p ticket (item.Posted p ticket path body ∷ []) x (request_of Client path body) at))
  line_so (line.Tick p) b =
      at_so p (place_at w p) (ticked_at w p) refl
      (λ x at. steps_so p x (event.Tick (word w)) _ (looked w p) at (k.quiet x.core (event.Tick (word w)) refl) (λ y o so. gained_so w p y (item.Ticked p ∷ []) [] refl so))
  line_so (line.Send p) b =
      at_so p (place_at w p) (sent_at w p) refl (λ x at. steps_so p x event.Work _ (worked w p) at (k.quiet x.core event.Work refl) (λ y o so. worked_so p y o so))
  line_so (line.Exec number) b = executed_so number (nth w.calls number)
  line_so (line.Answer number) b = answered_so number (nth w.calls number) refl b
  line_so (line.Lose number) b = lost_so number (nth w.calls number)
  line_so (line.Push number) b = pushed_so number (push_of w.store) (nth w.streams number)
  line_so (line.Progress number) b = pushed_so number (progressed w.store) (nth w.streams number)
  line_so (line.Deliver number) b = delivered_so number (nth w.streams number) refl b
  line_so (line.Cut number) b = cut_so number (nth w.streams number)
  line_so (line.Take p ticket) b = at_so p (place_at w p) (taken_at w p ticket) refl (λ x at. taken_so p ticket x (is_watch ticket x) at)
  line_so (line.Leave p ticket) b = at_so p (place_at w p) (left_at w p ticket) refl (λ x at. left_so p ticket x (is_known ticket x.core) at)
  line_so (line.Expire lease) b = expired_so lease (expired w.store lease)
  line_so (line.Apply member revision) b = applied_so (item.Applied member revision) (applied w.store member revision)

-- ---- sound, and bounded

heard_quiet : (c : Core) (e : CoreEvent) → is_quiet e ≡ true → IsHeard c e
heard_quiet c (event.Ask ticket q word) h = tt
heard_quiet c (event.Answer call a) h = absurd (cc)
heard_quiet c (event.Lost call) h = tt
heard_quiet c (event.Tick word) h = tt
heard_quiet c (event.Item number x) h = tt
heard_quiet c (event.Cut number) h = tt
heard_quiet c (event.Take ticket) h = tt
heard_quiet c (event.Leave ticket) h = tt
heard_quiet c event.Work h = tt

pub lines_stay_sound : LinesStaySound
lines_stay_sound w l b h = line_so IsSound IsHeard (record { start = starts_sound; quiet = heard_quiet; step = steps_stay_sound }) w h l b

few_quiet : (most : ℕ) (e : CoreEvent) → is_quiet e ≡ true → HasAtMost most e
few_quiet most (event.Ask ticket q word) h = tt
few_quiet most (event.Answer call a) h = tt
few_quiet most (event.Lost call) h = tt
few_quiet most (event.Tick word) h = tt
few_quiet most (event.Item number x) h = absurd (cc)
few_quiet most (event.Cut number) h = tt
few_quiet most (event.Take ticket) h = tt
few_quiet most (event.Leave ticket) h = tt
few_quiet most event.Work h = tt

pub lines_stay_bounded : LinesStayBounded
lines_stay_bounded most w l b h =
    line_so (QueuesAreBounded most) (λ c e. HasAtMost most e) (record { start = λ s. tt; quiet = λ c e q. few_quiet most e q; step = λ c e now f t. steps_keep_bounded most c e now f t }) w h l b
