-- Requests stay, each under its ticket, until they are taken or their clients leave; one that is asked joins them, or is replied at once.
use Rattle.std.proofs.Common.{◌≡◌, ◌⊎◌, inl, inr, ℕ, ◌==◌, ◌||◌, Bool, true, false, not, cond, Option, None, Some, List, [], ◌∷◌, ◌++◌, Result, Ok, Err, refl, sym, ◌∙◌, ap}
use Rattle.etcd_types.specs.declared.answer.Answer.{Answer}
use Rattle.etcd_types.specs.declared.answer.Answer.TheVariants as answer
use Rattle.etcd_types.specs.declared.answer.Body.{Body}
use Rattle.etcd_types.specs.declared.answer.Refusal.{Refusal}
use Rattle.etcd_types.specs.declared.request.Request.{Request}
use Rattle.etcd_types.specs.declared.request.Request.TheVariants as request
use Rattle.etcd_types.specs.declared.watch.WatchItem.{WatchItem}
use Rattle.watch_model.specs.Lookups.{watch_at}
use Rattle.watch_model.specs.State.{Watch, Broadcasts}
use Rattle.watch_model.specs.Takes as watches_of
use Rattle.read_model.specs.declared.asked.Asked.{Asked}
use Rattle.read_model.specs.declared.asked.Stage.{Stage}
use Rattle.read_model.specs.declared.asked.Stage.TheVariants as stage
use Rattle.read_model.specs.Acquires.{read_asked}
use Rattle.read_model.specs.PlainRead.{decided_ask}
use Rattle.read_model.specs.State.{Moment, ground_of}
use Rattle.core_model.specs.declared.event.CoreEvent.{CoreEvent}
use Rattle.core_model.specs.declared.event.CoreEvent.TheVariants as event
use Rattle.core_model.specs.declared.event.Outcome.{Outcome}
use Rattle.core_model.specs.declared.event.StepFault.{StepFault}
use Rattle.core_model.specs.declared.event.StepFault.TheVariants as fault
use Rattle.core_model.specs.Asking.{asked_at, is_leased_read, read_by, read_is_asked, write_is_asked, held_body, if_live, call_is_asked, answered_or_called, leased_ask, taken_in, request_asked, refused_or_taken, on_ask}
use Rattle.core_model.specs.ClockWork.{clock_work}
use Rattle.core_model.specs.DueJobs.{first_job}
use Rattle.core_model.specs.Ends.{on_answer, on_lost}
use Rattle.core_model.specs.Kinds.{writes_keys}
use Rattle.core_model.specs.Lookups.{leases, moment, reads_of, with_reads, ask_at, is_known, out_at}
use Rattle.core_model.specs.Refusals.{refusal_of}
use Rattle.core_model.specs.Sending.{on_work}
use Rattle.core_model.specs.State.{Core}
use Rattle.core_model.specs.Step.{opening_at, on_item, on_cut, happened, is_worn, stepped}
use Rattle.core_model.specs.Stepped.{Stepped, faults, counted, counted_by}
use Rattle.core_model.specs.Takes.{item_taken, taken, on_take, watcher_left, left, on_leave}
use Rattle.core_model.specs.Takes as takes
use Rattle.core_model.specs.Watching.{taken_item}
use Rattle.read_model.specs.PlainRead.{in_stage}
use Rattle.core_model.specs.declared.event.Outcome.TheVariants as outcome
use Rattle.core_model.specs.Asking.{call_stage}
use Rattle.core_model.specs.Fits.{has_number, ask_tickets}
use Rattle.core_model.specs.Lookups.{without_ask}
use Rattle.core_model.specs.Verdicts.{reply_of}
use Rattle.core_laws.proofs.Steps.Lists.{number_itself, same_number}
use Rattle.cause_laws.specs.Timeouts.{is_call}
use Rattle.cause_laws.proofs.Tickets.{Leaves, either, released_stays, clock_stays, answer_stays, loss_stays, tick_stays, item_stays, cut_stays, work_stays}

-- ---- a request is asked

-- it joins the others, unless it is replied at once, or is a watch
pub data AsksJoin (c : Core) (ticket : ℕ) (q : Request) (s : Stepped) : Type 0 where
  faulted : (f : StepFault) → s.outcome ≡ Err f → s.core.asks ≡ c.asks → AsksJoin c ticket q s
  watches : is_call q ≡ false → s.core.asks ≡ c.asks → AsksJoin c ticket q s
  at_once : (a : Answer) → s.outcome ≡ Ok (outcome.Replied a) → s.core.asks ≡ c.asks → AsksJoin c ticket q s
  joined : (y : Asked) → y.ticket ≡ ticket → s.core.asks ≡ c.asks ++ y ∷ [] → AsksJoin c ticket q s

module _ (now ticket word : ℕ) (q : Request) where
  abbrev a : Asked
  a = asked_at now ticket q word

  read_joins : (m : Moment) (c : Core) → AsksJoin c ticket q (read_is_asked m (asked_at now ticket q word) c)
  read_joins m c = by (decided_ask m (ground_of (reads_of c)) (asked_at now ticket q word)).stage
    where
      by : (s : Stage) → AsksJoin c ticket q (read_by s c (with_reads c (read_asked m (asked_at now ticket q word) (reads_of c))))
      by (stage.Replied v) = at_once (reply_of v) refl refl
      by (stage.Calling s) = joined (decided_ask m (ground_of (reads_of c)) (asked_at now ticket q word)) refl refl
      by stage.Acquiring = joined (decided_ask m (ground_of (reads_of c)) (asked_at now ticket q word)) refl refl
      by stage.Joined = joined (decided_ask m (ground_of (reads_of c)) (asked_at now ticket q word)) refl refl
      by stage.Behind = joined (decided_ask m (ground_of (reads_of c)) (asked_at now ticket q word)) refl refl
      by stage.Writes = joined (decided_ask m (ground_of (reads_of c)) (asked_at now ticket q word)) refl refl
      by (stage.Grouped s) = joined (decided_ask m (ground_of (reads_of c)) (asked_at now ticket q word)) refl refl

  call_joins : (c : Core) → AsksJoin c ticket q (call_is_asked (asked_at now ticket q word) c)
  call_joins c = joined (in_stage (call_stage q c) (asked_at now ticket q word)) refl refl

  body_joins : (b : Option Body) (c : Core) → AsksJoin c ticket q (answered_or_called b (asked_at now ticket q word) c)
  body_joins None c = call_joins c
  body_joins (Some b) c = at_once (answer.Done (record { header = c.header; body = b })) refl refl

  taken_joins : (m : Moment) (c : Core) → AsksJoin c ticket q (taken_in m (asked_at now ticket q word) c)
  taken_joins m c =
      let other = answered_or_called (if_live m.session (held_body c.own.entries q)) (asked_at now ticket q word) c in
      either (AsksJoin c ticket q) (leases c) (leased_ask m (asked_at now ticket q word) c) (call_is_asked (asked_at now ticket q word) c)
      (either (AsksJoin c ticket q) (is_leased_read c.own.waits.prefix q) (read_is_asked m (asked_at now ticket q word) c) (cond (writes_keys q) (write_is_asked (asked_at now ticket q word) c) other)
      (read_joins m c)
      (either (AsksJoin c ticket q) (writes_keys q) (write_is_asked (asked_at now ticket q word) c) other (joined (in_stage stage.Writes (asked_at now ticket q word)) refl refl) (body_joins (if_live m.session (held_body c.own.entries q)) c)))
      (call_joins c)

request_joins : (now ticket word : ℕ) (q : Request) (m : Moment) (c : Core) → AsksJoin c ticket q (request_asked q m (asked_at now ticket q word) c)
request_joins now ticket word (request.Watch ask) m c = watches refl refl
request_joins now ticket word (request.Range ask) m c = taken_joins now ticket word (request.Range ask) m c
request_joins now ticket word (request.Put ask) m c = taken_joins now ticket word (request.Put ask) m c
request_joins now ticket word (request.Delete ask) m c = taken_joins now ticket word (request.Delete ask) m c
request_joins now ticket word (request.Txn t) m c = taken_joins now ticket word (request.Txn t) m c
request_joins now ticket word (request.Compact revision physical) m c = taken_joins now ticket word (request.Compact revision physical) m c
request_joins now ticket word (request.Grant ttl lease) m c = taken_joins now ticket word (request.Grant ttl lease) m c
request_joins now ticket word (request.Revoke lease) m c = taken_joins now ticket word (request.Revoke lease) m c
request_joins now ticket word (request.KeepAlive lease) m c = taken_joins now ticket word (request.KeepAlive lease) m c
request_joins now ticket word (request.TimeToLive lease keys) m c = taken_joins now ticket word (request.TimeToLive lease keys) m c
request_joins now ticket word request.Leases m c = taken_joins now ticket word request.Leases m c

ask_joins : (now ticket word : ℕ) (q : Request) (c : Core) → AsksJoin c ticket q (on_ask now ticket q word c)
unfolding on_ask
ask_joins now ticket word q c =
    either (AsksJoin c ticket q) (is_known ticket c) (faults c (fault.TicketUsed ticket)) (refused_or_taken (refusal_of c.own.waits.prefix q) (moment c now) (asked_at now ticket q word) c)
    (faulted (fault.TicketUsed ticket) refl refl) (by (refusal_of c.own.waits.prefix q))
  where
    by : (r : Option Refusal) → AsksJoin c ticket q (refused_or_taken r (moment c now) (asked_at now ticket q word) c)
    by None = request_joins now ticket word q (moment c now) c
    by (Some r) = at_once (answer.Refused r) refl refl

-- ---- a request is taken, or its client leaves

-- at most this one goes
pub data Goes (c : Core) (ticket : ℕ) (s : Stepped) : Type 0 where
  stays : s.core.asks ≡ c.asks → Goes c ticket s
  taken_off : (a : Answer) → s.outcome ≡ Ok (outcome.Replied a) → s.core.asks ≡ without_ask ticket c.asks → Goes c ticket s

take_goes : (ticket : ℕ) (c : Core) → Goes c ticket (on_take ticket c)
unfolding on_take
take_goes ticket c = by_ask (ask_at ticket c.asks)
  where
    by_pair : (x : Broadcasts × Option WatchItem) → Goes c ticket (taken_item c x)
    by_pair (b, None) = stays refl
    by_pair (b, Some x) = stays refl

    by_watch : (w : Option Watch) → Goes c ticket (item_taken ticket w c)
    by_watch None = stays refl
    by_watch (Some w) = by_pair (watches_of.taken_from c.watches c.header w w.queue)

    by_stage : (s : Stage) → Goes c ticket (takes.taken_from ticket s c)
    by_stage (stage.Replied v) = taken_off (reply_of v) refl refl
    by_stage (stage.Calling s) = stays refl
    by_stage stage.Acquiring = stays refl
    by_stage stage.Joined = stays refl
    by_stage stage.Behind = stays refl
    by_stage stage.Writes = stays refl
    by_stage (stage.Grouped s) = stays refl

    by_ask : (o : Option Asked) → Goes c ticket (taken ticket o c)
    by_ask None = by_watch (watch_at ticket c.watches.watches)
    by_ask (Some a) = by_stage a.stage

-- ---- tickets that stay

abbrev pub Has : ℕ → List Asked → Type 0
Has ticket xs = has_number (ask_tickets xs) ticket ≡ true

has_same : (ticket : ℕ) (xs ys : List Asked) → ask_tickets ys ≡ ask_tickets xs → Has ticket xs → Has ticket ys
has_same ticket xs ys e h = ap (λ (ns : List ℕ). has_number ns ticket) e ∙ h

or_true : (b : Bool) → b || true ≡ true
or_true true = refl
or_true false = refl

has_front : (ticket : ℕ) (xs ys : List Asked) → Has ticket xs → Has ticket (xs ++ ys)
has_front ticket [] ys h = absurd (cc)
has_front ticket (x ∷ xs) ys h = by (x.ticket == ticket) h (has_front ticket xs ys)
  where
    by : (b : Bool) → b || has_number (ask_tickets xs) ticket ≡ true → (Has ticket xs → Has ticket (xs ++ ys)) → b || has_number (ask_tickets (xs ++ ys)) ticket ≡ true
    by true h more = refl
    by false h more = more h

has_last : (ticket : ℕ) (xs : List Asked) (y : Asked) → y.ticket ≡ ticket → Has ticket (xs ++ y ∷ [])
has_last ticket [] y e = ap (λ (b : Bool). b || false) (ap (λ (n : ℕ). n == ticket) e ∙ number_itself ticket)
has_last ticket (x ∷ xs) y e = ap (λ (b : Bool). (x.ticket == ticket) || b) (has_last ticket xs y e) ∙ or_true (x.ticket == ticket)

has_without : (other ticket : ℕ) (xs : List Asked) → (ticket == other) ≡ false → Has ticket xs → Has ticket (without_ask other xs)
has_without other ticket [] n h = absurd (cc)
has_without other ticket (x ∷ xs) n h = by (x.ticket == other) refl (x.ticket == ticket) refl h (has_without other ticket xs n)
  where
    by : (b : Bool) → (x.ticket == other) ≡ b → (d : Bool) → (x.ticket == ticket) ≡ d → d || has_number (ask_tickets xs) ticket ≡ true → (Has ticket xs → Has ticket (without_ask other xs)) → Has ticket (cond (not b) (x ∷ without_ask other xs) (without_ask other xs))
    by true e true f h more =
        absurd (let g : true ≡ false = sym (number_itself ticket) ∙ ap (λ (m : ℕ). ticket == m) (sym (same_number x.ticket ticket f) ∙ same_number x.ticket other e) ∙ n in cc)
    by true e false f h more = more h
    by false e true f h more = ap (λ (d : Bool). d || has_number (ask_tickets (without_ask other xs)) ticket) f
    by false e false f h more = ap (λ (d : Bool). d || has_number (ask_tickets (without_ask other xs)) ticket) f ∙ more h

-- ---- whole steps

not_worn : (c : Core) (e : CoreEvent) (now : ℕ) → is_worn c ≡ false → stepped c e now ≡ counted (happened now e (clock_work now c))
unfolding stepped
not_worn c e now w = ap (λ (b : Bool). cond b (faults c fault.Worn) (counted (happened now e (clock_work now c)))) w

counted_asks : (s : Stepped) → (counted s).core.asks ≡ s.core.asks
counted_asks s = by s.outcome
  where
    by : (o : Result Outcome StepFault) → (counted_by s.core o).core.asks ≡ s.core.asks
    by (Ok o) = refl
    by (Err f) = refl

counted_outcome : (s : Stepped) → (counted s).outcome ≡ s.outcome
counted_outcome s = by s.outcome refl
  where
    by : (o : Result Outcome StepFault) → s.outcome ≡ o → (counted_by s.core o).outcome ≡ s.outcome
    by (Ok o) e = sym e
    by (Err f) e = sym e

-- where nothing is asked, taken or left
abbrev pub is_beside : CoreEvent → Bool
is_beside (event.Ask ticket q word) = false
is_beside (event.Take ticket) = false
is_beside (event.Leave ticket) = false
is_beside _ = true

happened_stays : (now : ℕ) (e : CoreEvent) (c : Core) → is_beside e ≡ true → Leaves c (happened now e c)
unfolding on_answer on_lost on_item on_cut on_work
happened_stays now (event.Ask ticket q word) c b = absurd (cc)
happened_stays now (event.Take ticket) c b = absurd (cc)
happened_stays now (event.Leave ticket) c b = absurd (cc)
happened_stays now (event.Answer call a) c b = answer_stays now call a (out_at call c.out) c
happened_stays now (event.Lost call) c b = loss_stays now call (out_at call c.out) c
happened_stays now (event.Tick word) c b = tick_stays now word c
happened_stays now (event.Item number x) c b = item_stays now number x (opening_at number c.leasing) c
happened_stays now (event.Cut number) c b = cut_stays number (opening_at number c.leasing) c
happened_stays now event.Work c b = work_stays now (first_job c) c

pub beside_has : (c : Core) (e : CoreEvent) (now ticket : ℕ) → is_worn c ≡ false → is_beside e ≡ true → Has ticket c.asks → Has ticket (stepped c e now).core.asks
beside_has c e now ticket w b h =
    let d = clock_work now c in
    let same : (stepped c e now).core.asks ≡ (happened now e d).core.asks = ap (λ (s : Stepped). s.core.asks) (not_worn c e now w) ∙ counted_asks (happened now e d) in
    has_same ticket c.asks (stepped c e now).core.asks (ap ask_tickets same ∙ happened_stays now e d b ∙ clock_stays now c) h

-- of the request that is asked, and of the others
pub asked_has : (c : Core) (now t ticket word : ℕ) (q : Request) → is_worn c ≡ false → Has ticket c.asks → Has ticket (stepped c (event.Ask t q word) now).core.asks
asked_has c now t ticket word q w h = by (ask_joins now t word q d)
  where
    d : Core
    d = clock_work now c

    s : Stepped
    s = on_ask now t q word (clock_work now c)

    same : (stepped c (event.Ask t q word) now).core.asks ≡ s.core.asks
    same = ap (λ (s : Stepped). s.core.asks) (not_worn c (event.Ask t q word) now w) ∙ counted_asks (on_ask now t q word (clock_work now c))

    before : Has ticket d.asks
    before = has_same ticket c.asks (clock_work now c).asks (clock_stays now c) h

    on : (ys : List Asked) → s.core.asks ≡ ys → Has ticket ys → Has ticket (stepped c (event.Ask t q word) now).core.asks
    on ys e k = ap (λ (xs : List Asked). has_number (ask_tickets xs) ticket) (same ∙ e) ∙ k

    by : AsksJoin d t q s → Has ticket (stepped c (event.Ask t q word) now).core.asks
    by (faulted f e k) = on d.asks k before
    by (watches e k) = on d.asks k before
    by (at_once a e k) = on d.asks k before
    by (joined y e k) = on (d.asks ++ y ∷ []) k (has_front ticket d.asks (y ∷ []) before)

pub new_has : (c : Core) (now ticket word : ℕ) (q : Request) (o : Outcome) → is_worn c ≡ false → (stepped c (event.Ask ticket q word) now).outcome ≡ Ok o → is_call q ≡ true
    → Has ticket (stepped c (event.Ask ticket q word) now).core.asks ⊎ ((a : Answer) × (o ≡ outcome.Replied a))
new_has c now ticket word q o w is call = by (ask_joins now ticket word q d)
  where
    d : Core
    d = clock_work now c

    s : Stepped
    s = on_ask now ticket q word (clock_work now c)

    gave : s.outcome ≡ Ok o
    gave = sym (ap (λ (s : Stepped). s.outcome) (not_worn c (event.Ask ticket q word) now w) ∙ counted_outcome (on_ask now ticket q word (clock_work now c))) ∙ is

    same : (stepped c (event.Ask ticket q word) now).core.asks ≡ s.core.asks
    same = ap (λ (s : Stepped). s.core.asks) (not_worn c (event.Ask ticket q word) now w) ∙ counted_asks (on_ask now ticket q word (clock_work now c))

    by : AsksJoin d ticket q s → Has ticket (stepped c (event.Ask ticket q word) now).core.asks ⊎ ((a : Answer) × (o ≡ outcome.Replied a))
    by (faulted f e k) = absurd (let g : ◌≡◌ {A = Result Outcome StepFault} (Err f) (Ok o) = sym e ∙ gave in cc)
    by (watches e k) = absurd (let g : true ≡ false = sym call ∙ e in cc)
    by (at_once a e k) = inr (a, same_outcome (sym gave ∙ e))
      where
        same_outcome : ◌≡◌ {A = Result Outcome StepFault} (Ok o) (Ok (outcome.Replied a)) → o ≡ outcome.Replied a
        same_outcome f = cc
    by (joined y e k) = inl (ap (λ (xs : List Asked). has_number (ask_tickets xs) ticket) (same ∙ k) ∙ has_last ticket d.asks y e)

pub take_has : (c : Core) (now t ticket : ℕ) → is_worn c ≡ false → Has ticket c.asks
    → Has ticket (stepped c (event.Take t) now).core.asks ⊎ (((ticket == t) ≡ true) × (a : Answer) × ((stepped c (event.Take t) now).outcome ≡ Ok (outcome.Replied a)))
take_has c now t ticket w h = by (take_goes t d)
  where
    d : Core
    d = clock_work now c

    same : (stepped c (event.Take t) now).core.asks ≡ (on_take t d).core.asks
    same = ap (λ (s : Stepped). s.core.asks) (not_worn c (event.Take t) now w) ∙ counted_asks (on_take t (clock_work now c))

    gave : (stepped c (event.Take t) now).outcome ≡ (on_take t d).outcome
    gave = ap (λ (s : Stepped). s.outcome) (not_worn c (event.Take t) now w) ∙ counted_outcome (on_take t (clock_work now c))

    before : Has ticket d.asks
    before = has_same ticket c.asks (clock_work now c).asks (clock_stays now c) h

    on : (ys : List Asked) → (on_take t d).core.asks ≡ ys → Has ticket ys → Has ticket (stepped c (event.Take t) now).core.asks
    on ys e k = ap (λ (xs : List Asked). has_number (ask_tickets xs) ticket) (same ∙ e) ∙ k

    by_ticket : (a : Answer) → (on_take t d).outcome ≡ Ok (outcome.Replied a) → (on_take t d).core.asks ≡ without_ask t d.asks → (b : Bool) → (ticket == t) ≡ b
        → Has ticket (stepped c (event.Take t) now).core.asks ⊎ (((ticket == t) ≡ true) × (a : Answer) × ((stepped c (event.Take t) now).outcome ≡ Ok (outcome.Replied a)))
    by_ticket a e k true n = inr (n, a, gave ∙ e)
    by_ticket a e k false n = inl (on (without_ask t d.asks) k (has_without t ticket d.asks n before))

    by : Goes d t (on_take t d) → Has ticket (stepped c (event.Take t) now).core.asks ⊎ (((ticket == t) ≡ true) × (a : Answer) × ((stepped c (event.Take t) now).outcome ≡ Ok (outcome.Replied a)))
    by (stays k) = inl (on d.asks k before)
    by (taken_off a e k) = by_ticket a e k (ticket == t) refl

pub leave_has : (c : Core) (now t ticket : ℕ) → is_worn c ≡ false → (ticket == t) ≡ false → Has ticket c.asks → Has ticket (stepped c (event.Leave t) now).core.asks
unfolding on_leave
leave_has c now t ticket w n h = ap (λ (xs : List Asked). has_number (ask_tickets xs) ticket) same ∙ by_ask (ask_at t d.asks)
  where
    d : Core
    d = clock_work now c

    same : (stepped c (event.Leave t) now).core.asks ≡ (on_leave now t d).core.asks
    same = ap (λ (s : Stepped). s.core.asks) (not_worn c (event.Leave t) now w) ∙ counted_asks (on_leave now t (clock_work now c))

    before : Has ticket d.asks
    before = has_same ticket c.asks (clock_work now c).asks (clock_stays now c) h

    by_watch : (x : Option Watch) → Has ticket (watcher_left t x d).core.asks
    by_watch None = before
    by_watch (Some x) = before

    by_ask : (o : Option Asked) → Has ticket (left now t o d).core.asks
    by_ask None = by_watch (watch_at t d.watches.watches)
    by_ask (Some a) = has_same ticket (without_ask t d.asks) (left now t (Some a) d).core.asks (released_stays false _ _ (without_ask t d.asks)) (has_without t ticket d.asks n before)
