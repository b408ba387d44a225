-- An ok reply that a step gives: one that stood ready is taken, or a request is asked whose keys are held.
use Rattle.std.proofs.Common.{◌≡◌, ℕ, Bool, true, false, cond, Option, None, Some, is_some, Result, Ok, Err, refl, sym, ◌∙◌, ap}
use Rattle.etcd_types.specs.declared.answer.Answer.{Answer}
use Rattle.etcd_types.specs.declared.answer.Answer.TheVariants.{Done}
use Rattle.etcd_types.specs.declared.answer.Body.{Body}
use Rattle.etcd_types.specs.declared.answer.Refusal.{Refusal}
use Rattle.etcd_types.specs.declared.answer.Reply.{Reply}
use Rattle.etcd_types.specs.declared.record.Header.{Header}
use Rattle.etcd_types.specs.declared.request.Request.{Request}
use Rattle.etcd_types.specs.declared.request.Request.TheVariants as request
use Rattle.etcd_types.specs.declared.watch.WatchItem.{WatchItem}
use Rattle.proxy_model.specs.declared.lease.Entry.{Entry}
use Rattle.proxy_model.specs.declared.lease.Phase.{Phase}
use Rattle.proxy_model.specs.declared.lease.Phase.TheVariants.{Held, Writing, Leaving}
use Rattle.proxy_model.specs.Keyed.{at}
use Rattle.read_model.specs.declared.asked.Asked.{Asked}
use Rattle.read_model.specs.declared.asked.Stage.{Stage}
use Rattle.read_model.specs.declared.asked.Stage.TheVariants as stage
use Rattle.read_model.specs.declared.asked.Verdict.{Verdict}
use Rattle.read_model.specs.declared.asked.Verdict.TheVariants as verdict
use Rattle.read_model.specs.Acquires.{read_asked}
use Rattle.read_model.specs.PlainRead.{key_of, acquirable, held_turn, read_turn}
use Rattle.watch_model.specs.Lookups.{watch_at}
use Rattle.watch_model.specs.State.{Watch, Broadcasts}
use Rattle.watch_model.specs.Takes as watches
use Rattle.core_model.specs.declared.event.CoreEvent.{CoreEvent}
use Rattle.core_model.specs.declared.event.CoreEvent.TheVariants as event
use Rattle.core_model.specs.declared.event.Outcome.{Outcome}
use Rattle.core_model.specs.declared.event.Outcome.TheVariants as outcome
use Rattle.core_model.specs.declared.event.StepFault.{StepFault}
use Rattle.core_model.specs.declared.event.StepFault.TheVariants as fault
use Rattle.core_model.specs.Asking.{asked_at, is_leased_read, read_by, read_is_asked, write_is_asked, held_body, if_live, call_is_asked, answered_or_called, leased_ask, taken_in, request_asked, refused_or_taken, on_ask}
use Rattle.core_model.specs.ClockWork.{clock_work}
use Rattle.core_model.specs.Fits.{CoreOk}
use Rattle.core_model.specs.Kinds.{writes_keys}
use Rattle.core_model.specs.Lookups.{leases, is_known, moment, reads_of, with_reads, ask_at, live_number}
use Rattle.core_model.specs.Refusals.{refusal_of}
use Rattle.core_model.specs.State.{Core}
use Rattle.core_model.specs.Step.{is_worn, happened, stepped}
use Rattle.core_model.specs.Stepped.{Stepped, faults, counted, counted_by}
use Rattle.core_model.specs.Takes.{item_taken, taken, on_take}
use Rattle.core_model.specs.Takes as takes
use Rattle.core_model.specs.Verdicts.{reply_of}
use Rattle.core_model.specs.Watching.{taken_item}
use Rattle.core_laws.specs.Steps.Outcomes.{may_have, Gives, gave, faulted}
use Rattle.core_laws.proofs.Steps.Comes.{by_test}
use Rattle.core_laws.proofs.Steps.Lists.{same_number}
use Rattle.core_laws.proofs.Steps.Outcomes.{steps_give}
use Rattle.keep_laws.proofs.Runs.{found}
use Rattle.reply_laws.specs.Laws.{GivenRepliesHaveSources}
use Rattle.reply_laws.specs.Sources as sources
use Rattle.reply_laws.specs.Sources.{shows, IsServed, Given}
use Rattle.reply_laws.proofs.Before.{Since, since_stood, since_start, clock_since}

-- a step's outcome is this ok reply
abbrev Tells : Stepped → Reply → Type 0
Tells s reply = s.outcome ≡ Ok (outcome.Replied (Done reply))

-- where what came of the event is this, an ok reply of it is given
abbrev Gave : Core → CoreEvent → ℕ → Stepped → Type 0
Gave c e now s = (reply : Reply) → Tells s reply → (stepped c e now).core.header ≡ s.core.header → Given c e now reply

told_is : (x y : Reply) → ◌≡◌ {A = Result Outcome StepFault} (Ok (outcome.Replied (Done x))) (Ok (outcome.Replied (Done y))) → x ≡ y
told_is x y e = cc

either : (c : Core) (e : CoreEvent) (now : ℕ) (b : Bool) (x y : Stepped) → (b ≡ true → Gave c e now x) → (b ≡ false → Gave c e now y) → Gave c e now (cond b x y)
either c e now b x y f g = by_test (Gave c e now) b x y f g

-- ---- a request is asked

-- it is of the proxy that the clock's work leaves
record IsAsk (c : Core) (e : CoreEvent) (now ticket : ℕ) (q : Request) (word : ℕ) : Type 0 where
  event : e ≡ event.Ask ticket q word
  served : refusal_of (clock_work now c).own.waits.prefix q ≡ None

call_gave : (c : Core) (e : CoreEvent) (now : ℕ) (a : Asked) (d : Core) → Gave c e now (call_is_asked a d)
call_gave c e now a d reply t top = absurd (cc)

read_gave : (c : Core) (e : CoreEvent) (now ticket : ℕ) (q : Request) (word : ℕ) → IsAsk c e now ticket q word → leases (clock_work now c) ≡ true → is_leased_read (clock_work now c).own.waits.prefix q ≡ true
    → Gave c e now (read_is_asked (moment (clock_work now c) now) (asked_at now ticket q word) (clock_work now c))
read_gave c e now ticket q word h l p = by (at (clock_work now c).own.entries (key_of q)) refl (is_some (at (clock_work now c).acquires (key_of q))) (acquirable (moment (clock_work now c) now) (clock_work now c).own (key_of q))
  where
    after : Core
    after = with_reads (clock_work now c) (read_asked (moment (clock_work now c) now) (asked_at now ticket q word) (reads_of (clock_work now c)))

    by : (o : Option Entry) → at (clock_work now c).own.entries (key_of q) ≡ o → (claimed : Bool) (under : Option ℕ)
        → Gave c e now (read_by (read_turn (clock_work now c).header (clock_work now c).own.waits.step o claimed under).stage (clock_work now c) after)
    by None f true under reply t top = absurd (cc)
    by None f false None reply t top = absurd (cc)
    by None f false (Some n) reply t top = absurd (cc)
    by (Some x) f claimed under reply t top = by_phase x.phase refl t top
      where
        by_phase : (r : Phase) → x.phase ≡ r → Tells (read_by (held_turn (clock_work now c).header (clock_work now c).own.waits.step x.kv r) (clock_work now c) after) reply
            → (stepped c e now).core.header ≡ (read_by (held_turn (clock_work now c).header (clock_work now c).own.waits.step x.kv x.phase) (clock_work now c) after).core.header → Given c e now reply
        by_phase Held r t top =
            let up : (stepped c e now).core.header ≡ (clock_work now c).header = top ∙ ap (λ (s : Phase). (read_by (held_turn (clock_work now c).header (clock_work now c).own.waits.step x.kv s) (clock_work now c) after).core.header) r in
            sources.held ticket q (record { word = word; event = h.event; leasing = l; served = h.served }) p
            (record { entry = x; owned = f; held = r; told = sym (told_is (shows (clock_work now c).header x.kv) reply t) ∙ ap (λ (k : Header). shows k x.kv) (sym up) })
        by_phase (Writing revoked) r t top = absurd (cc)
        by_phase (Leaving sent) r t top = absurd (cc)

held_gave : (c : Core) (e : CoreEvent) (now ticket : ℕ) (q : Request) (word : ℕ) → IsAsk c e now ticket q word → leases (clock_work now c) ≡ true → writes_keys q ≡ false
    → (live : Option ℕ) → live_number (clock_work now c).seat now ≡ live → (b : Option Body) → held_body (clock_work now c).own.entries q ≡ b
    → Gave c e now (answered_or_called (if_live live b) (asked_at now ticket q word) (clock_work now c))
held_gave c e now ticket q word h l w None s b f reply t top = absurd (cc)
held_gave c e now ticket q word h l w (Some n) s None f reply t top = absurd (cc)
held_gave c e now ticket q word h l w (Some n) s (Some b) f reply t top =
    let told : Header → Reply = λ k. record { header = k; body = b } in
    sources.snapshot ticket q b (record { word = word; event = h.event; leasing = l; served = h.served }) w (ap is_some s) f (sym (told_is (told (clock_work now c).header) reply t) ∙ ap told (sym top))

taken_gave : (c : Core) (e : CoreEvent) (now ticket : ℕ) (q : Request) (word : ℕ) → IsAsk c e now ticket q word → Gave c e now (taken_in (moment (clock_work now c) now) (asked_at now ticket q word) (clock_work now c))
taken_gave c e now ticket q word h =
    let d = clock_work now c in
    let a = asked_at now ticket q word in
    either c e now (leases d) (leased_ask (moment d now) a d) (call_is_asked a d)
    (λ l. either c e now (is_leased_read d.own.waits.prefix q) (read_is_asked (moment d now) a d) _ (λ p. read_gave c e now ticket q word h l p)
    (λ p. either c e now (writes_keys q) (write_is_asked a d) _ (λ w reply t top. absurd (cc))
    (λ w. held_gave c e now ticket q word h l w (live_number d.seat now) refl (held_body d.own.entries q) refl)))
    (λ l. call_gave c e now a d)

request_gave : (c : Core) (e : CoreEvent) (now ticket : ℕ) (q : Request) (word : ℕ) → IsAsk c e now ticket q word → Gave c e now (request_asked q (moment (clock_work now c) now) (asked_at now ticket q word) (clock_work now c))
request_gave c e now ticket (request.Watch ask) word h reply t top = absurd (cc)
request_gave c e now ticket (request.Range ask) word h reply t top = taken_gave c e now ticket (request.Range ask) word h reply t top
request_gave c e now ticket (request.Put ask) word h reply t top = taken_gave c e now ticket (request.Put ask) word h reply t top
request_gave c e now ticket (request.Delete ask) word h reply t top = taken_gave c e now ticket (request.Delete ask) word h reply t top
request_gave c e now ticket (request.Txn x) word h reply t top = taken_gave c e now ticket (request.Txn x) word h reply t top
request_gave c e now ticket (request.Compact revision physical) word h reply t top = taken_gave c e now ticket (request.Compact revision physical) word h reply t top
request_gave c e now ticket (request.Grant ttl lease) word h reply t top = taken_gave c e now ticket (request.Grant ttl lease) word h reply t top
request_gave c e now ticket (request.Revoke lease) word h reply t top = taken_gave c e now ticket (request.Revoke lease) word h reply t top
request_gave c e now ticket (request.KeepAlive lease) word h reply t top = taken_gave c e now ticket (request.KeepAlive lease) word h reply t top
request_gave c e now ticket (request.TimeToLive lease keys) word h reply t top = taken_gave c e now ticket (request.TimeToLive lease keys) word h reply t top
request_gave c e now ticket request.Leases word h reply t top = taken_gave c e now ticket request.Leases word h reply t top

ask_gave : (c : Core) (now ticket : ℕ) (q : Request) (word : ℕ) → Gave c (event.Ask ticket q word) now (on_ask now ticket q word (clock_work now c))
unfolding on_ask
ask_gave c now ticket q word =
    let d = clock_work now c in
    either c (event.Ask ticket q word) now (is_known ticket d) (faults d (fault.TicketUsed ticket)) (refused_or_taken (refusal_of d.own.waits.prefix q) (moment d now) (asked_at now ticket q word) d)
    (λ k reply t top. absurd (cc)) (λ k. by (refusal_of d.own.waits.prefix q) refl)
  where
    by : (o : Option Refusal) → refusal_of (clock_work now c).own.waits.prefix q ≡ o → Gave c (event.Ask ticket q word) now (refused_or_taken o (moment (clock_work now c) now) (asked_at now ticket q word) (clock_work now c))
    by None f = request_gave c (event.Ask ticket q word) now ticket q word (record { event = refl; served = f })
    by (Some r) f = λ reply t top. absurd (cc)

-- ---- a reply is taken

verdict_is : (v : Verdict) (reply : Reply) → reply_of v ≡ Done reply → v ≡ verdict.Said (Done reply)
verdict_is (verdict.Said a) reply e = ap (λ (x : Answer). verdict.Said x) e
verdict_is verdict.TimedOut reply e = absurd (cc)
verdict_is verdict.Lost reply e = absurd (cc)
verdict_is verdict.Stale reply e = absurd (cc)

told_answer : (a : Answer) (reply : Reply) → ◌≡◌ {A = Result Outcome StepFault} (Ok (outcome.Replied a)) (Ok (outcome.Replied (Done reply))) → a ≡ Done reply
told_answer a reply e = cc

stood_ready : (ticket : ℕ) (s : Stage) (d : Core) (reply : Reply) → Tells (takes.taken_from ticket s d) reply → s ≡ stage.Replied (verdict.Said (Done reply))
stood_ready ticket (stage.Replied v) d reply t = ap (λ (x : Verdict). stage.Replied x) (verdict_is v reply (told_answer (reply_of v) reply t))
stood_ready ticket (stage.Calling s) d reply t = absurd (cc)
stood_ready ticket stage.Acquiring d reply t = absurd (cc)
stood_ready ticket stage.Joined d reply t = absurd (cc)
stood_ready ticket stage.Behind d reply t = absurd (cc)
stood_ready ticket stage.Writes d reply t = absurd (cc)
stood_ready ticket (stage.Grouped s) d reply t = absurd (cc)

take_gave : (c : Core) (now ticket : ℕ) → CoreOk c → (reply : Reply) → Tells (on_take ticket (clock_work now c)) reply → Given c (event.Take ticket) now reply
unfolding on_take
take_gave c now ticket ok = by_ask (ask_at ticket (clock_work now c).asks) refl
  where
    by_pair : (x : Broadcasts × Option WatchItem) (reply : Reply) → Tells (taken_item (clock_work now c) x) reply → Given c (event.Take ticket) now reply
    by_pair (b, None) reply t = absurd (cc)
    by_pair (b, Some x) reply t = absurd (cc)

    by_watch : (w : Option Watch) (reply : Reply) → Tells (item_taken ticket w (clock_work now c)) reply → Given c (event.Take ticket) now reply
    by_watch None reply t = absurd (cc)
    by_watch (Some w) reply t = by_pair (watches.taken_from (clock_work now c).watches (clock_work now c).header w w.queue) reply t

    by_ask : (o : Option Asked) → ask_at ticket (clock_work now c).asks ≡ o → (reply : Reply) → Tells (taken ticket o (clock_work now c)) reply → Given c (event.Take ticket) now reply
    by_ask None f reply t = by_watch (watch_at ticket (clock_work now c).watches.watches) reply t
    by_ask (Some a) f reply t =
        let s = found (Since c) ticket (clock_work now c).asks a f (clock_since c now ok.agrees.asks.once) in
        let h = since_stood c a (stage.Replied (verdict.Said (Done reply))) (stood_ready ticket a.stage (clock_work now c) reply t) refl s.0 in
        let there = found (Since c) a.ticket c.asks h.before h.there (since_start c ok.agrees.asks.once) in
        let same : h.before.ticket ≡ a.ticket = same_number h.before.ticket a.ticket there.1 in
        let ticket_is : ticket ≡ h.before.ticket = sym (same_number a.ticket ticket s.1) ∙ sym same in
        sources.taken h.before (ap (λ (n : ℕ). event.Take n) ticket_is) (ap (λ (n : ℕ). ask_at n c.asks) same ∙ h.there) h.stage

-- ---- a whole step

counted_is : (c : Core) (r : Result Outcome StepFault) → (counted_by c r).outcome ≡ r
counted_is c (Ok o) = refl
counted_is c (Err f) = refl

counted_header : (c : Core) (r : Result Outcome StepFault) → (counted_by c r).core.header ≡ c.header
counted_header c (Ok o) = refl
counted_header c (Err f) = refl

-- of one that isn't worn it is what came of the event
record Came (c : Core) (e : CoreEvent) (now : ℕ) (reply : Reply) : Type 0 where
  unworn : is_worn c ≡ false
  told : Tells (happened now e (clock_work now c)) reply
  top : (stepped c e now).core.header ≡ (happened now e (clock_work now c)).core.header

came : (c : Core) (e : CoreEvent) (now : ℕ) (reply : Reply) → Tells (stepped c e now) reply → Came c e now reply
unfolding stepped
came c e now reply t = by (is_worn c) refl t
  where
    s : Stepped
    s = happened now e (clock_work now c)

    by : (b : Bool) → is_worn c ≡ b → Tells (cond b (faults c fault.Worn) (counted s)) reply → Came c e now reply
    by true n t = absurd (cc)
    by false n t = record {
      unworn = n;
      told = sym (counted_is s.core s.outcome) ∙ t;
      top = ap (λ b. (cond b (faults c fault.Worn) (counted s)).core.header) n ∙ counted_header s.core s.outcome;
    }

-- an event that gives no reply
none_given : (c : Core) (e : CoreEvent) (now : ℕ) (reply : Reply) → is_worn c ≡ false → ((a : Answer) → may_have e (outcome.Replied a) ≡ false) → Tells (stepped c e now) reply → Given c e now reply
none_given c e now reply n f t = by (steps_give c e now n)
  where
    by : Gives (may_have e) (clock_work now c) (stepped c e now) → Given c e now reply
    by (gave o g h) =
        let same : ◌≡◌ {A = Result Outcome StepFault} (Ok o) (Ok (outcome.Replied (Done reply))) = sym g ∙ t in
        let is : o ≡ outcome.Replied (Done reply) = cc in
        absurd (let no_way : true ≡ false = sym h ∙ (ap (may_have e) is ∙ f (Done reply)) in cc)
    by (faulted x g h) = absurd (let both : ◌≡◌ {A = Result Outcome StepFault} (Err x) (Ok (outcome.Replied (Done reply))) = sym (ap (λ (s : Stepped). s.outcome) g) ∙ t in cc)

by_event : (c : Core) (e : CoreEvent) (now : ℕ) (reply : Reply) → CoreOk c → Came c e now reply → Tells (stepped c e now) reply → Given c e now reply
by_event c (event.Ask ticket q word) now reply ok h t = ask_gave c now ticket q word reply h.told h.top
by_event c (event.Take ticket) now reply ok h t = take_gave c now ticket ok reply h.told
by_event c (event.Answer call a) now reply ok h t = none_given c (event.Answer call a) now reply h.unworn (λ x. refl) t
by_event c (event.Lost call) now reply ok h t = none_given c (event.Lost call) now reply h.unworn (λ x. refl) t
by_event c (event.Tick word) now reply ok h t = none_given c (event.Tick word) now reply h.unworn (λ x. refl) t
by_event c (event.Item number x) now reply ok h t = none_given c (event.Item number x) now reply h.unworn (λ a. refl) t
by_event c (event.Cut number) now reply ok h t = none_given c (event.Cut number) now reply h.unworn (λ x. refl) t
by_event c (event.Leave ticket) now reply ok h t = none_given c (event.Leave ticket) now reply h.unworn (λ x. refl) t
by_event c event.Work now reply ok h t = none_given c event.Work now reply h.unworn (λ x. refl) t

pub given_have_sources : GivenRepliesHaveSources
given_have_sources c e now reply ok t = by_event c e now reply ok (came c e now reply t) t
