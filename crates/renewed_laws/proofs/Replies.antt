-- The replies that a proxy gives to keepalives: none at the step at which one is asked, but a refusal; and where one that stands ready is
-- fetched, it is what stood at its request.
use Rattle.std.proofs.Common.{◌≡◌, ℕ, Bool, true, false, cond, Less, Equal, Greater, List, [], ◌∷◌, Option, None, Some, Result, Ok, Err, refl, sym, ◌∙◌, ap, subst}
use Rattle.std.specs.declared.cmp.Ordering.{Ordering}
use Rattle.std.specs.FinMap.{put, nat_cmp-IsAntisymmetric}
use Rattle.std.specs.FinMap.Entries.{by_order}
use Rattle.std.specs.Ordering.{nat_cmp}
use Rattle.etcd_types.specs.declared.answer.Answer.{Answer}
use Rattle.etcd_types.specs.declared.answer.Answer.TheVariants.{Done, Refused}
use Rattle.etcd_types.specs.declared.answer.Refusal.{Refusal}
use Rattle.etcd_types.specs.declared.answer.Reply.{Reply}
use Rattle.etcd_types.specs.declared.request.Request.{Request}
use Rattle.etcd_types.specs.declared.request.Request.TheVariants as request
use Rattle.etcd_types.specs.declared.watch.WatchItem.{WatchItem}
use Rattle.watch_model.specs.Lookups.{watch_at}
use Rattle.watch_model.specs.State.{Watch, Broadcasts}
use Rattle.watch_model.specs.Takes as watches
use Rattle.read_model.specs.declared.asked.Asked.{Asked}
use Rattle.read_model.specs.declared.asked.Stage.{Stage}
use Rattle.read_model.specs.declared.asked.Stage.TheVariants as stage
use Rattle.read_model.specs.declared.asked.Verdict.{Verdict}
use Rattle.read_model.specs.declared.asked.Verdict.TheVariants as verdict
use Rattle.read_model.specs.State.{Moment}
use Rattle.core_model.specs.declared.event.CoreEvent.{CoreEvent}
use Rattle.core_model.specs.declared.event.CoreEvent.TheVariants as event
use Rattle.core_model.specs.declared.event.Outcome.{Outcome}
use Rattle.core_model.specs.declared.event.Outcome.TheVariants as outcome
use Rattle.core_model.specs.declared.event.StepFault.{StepFault}
use Rattle.core_model.specs.declared.event.StepFault.TheVariants as fault
use Rattle.core_model.specs.Asking.{asked_at, if_live, call_is_asked, write_is_asked, answered_or_called, leased_ask, taken_in, refused_or_taken, on_ask}
use Rattle.core_model.specs.ClockWork.{clock_work}
use Rattle.core_model.specs.Kinds.{writes_keys}
use Rattle.core_model.specs.Lookups.{leases, is_known, moment, ask_at}
use Rattle.core_model.specs.Refusals.{refusal_of}
use Rattle.core_model.specs.State.{Core}
use Rattle.core_model.specs.Step.{is_worn, happened, stepped}
use Rattle.core_model.specs.Stepped.{Stepped, faults, counted, counted_by}
use Rattle.core_model.specs.Takes.{item_taken, taken, on_take}
use Rattle.core_model.specs.Takes as takes
use Rattle.core_model.specs.Verdicts.{reply_of}
use Rattle.core_model.specs.Watching.{taken_item}
use Rattle.core_laws.proofs.Steps.Comes.{by_test}
use Rattle.core_laws.proofs.Steps.Lists.{same_number}
use Rattle.script_text.specs.declared.item.Item.{Item}
use Rattle.world_model.specs.Asks.{told_at_once}
use Rattle.world_model.specs.Gains.{Replies, with_reply}
use Rattle.world_model.specs.Lives.{asked_as}
use Rattle.keep_laws.proofs.Rows.{All}
use Rattle.keep_laws.proofs.Runs.{found}
use Rattle.keep_laws.proofs.Steps.{clock_all}
use Rattle.renewed_laws.specs.Renewals.{Renews}
use Rattle.renewed_laws.proofs.Rows.{KnownAt, Row, row_lasts}
use Rattle.renewed_laws.proofs.Stories.{Life}

-- an ok reply to a keepalive, in this life of the proxy
abbrev pub ReplyOk : List ℕ → List Item → ℕ → ℕ × Answer → Type 0
ReplyOk namespace told p r =
    (lease : ℕ) (reply : Reply) → r.1 ≡ Done reply → asked_as p r.0 told ≡ Some (request.KeepAlive lease) → Renews namespace told p r.0 lease reply

abbrev pub Each : (ℕ × Answer → Type 0) → Replies → Type 0
Each P [] = Unit {0}
Each P (r ∷ rs) = P r × Each P rs

abbrev pub RepliesOk : Life → Replies → Type 0
RepliesOk l rs = Each (ReplyOk l.namespace l.told l.proxy) rs

pub each_put : (P : ℕ × Answer → Type 0) (ticket : ℕ) (a : Answer) (rs : Replies) → P (ticket, a) → Each P rs → Each P (with_reply ticket a rs)
each_put P ticket a [] h t = (h, tt)
each_put P ticket a (r ∷ rs) h t = by_case (nat_cmp ticket r.0) refl (each_put P ticket a rs h t.1)
  where
    by_case : (o : Ordering) → nat_cmp ticket r.0 ≡ o → Each P (put nat_cmp ticket a rs) → Each P (by_order o ((ticket, a) ∷ r ∷ rs) ((r.0, a) ∷ rs) (r ∷ put nat_cmp ticket a rs))
    by_case Less e k = (h, t)
    by_case Equal e k = (subst (λ (n : ℕ). P (n, a)) (nat_cmp-IsAntisymmetric ticket r.0 e) h, t.1)
    by_case Greater e k = (t.0, k)

-- what a step gave is what the event did
counted_is : (c : Core) (r : Result Outcome StepFault) → (counted_by c r).outcome ≡ r
counted_is c (Ok o) = refl
counted_is c (Err f) = refl

worn : {A : Type 0} (o : Outcome) → ◌≡◌ {A = Result Outcome StepFault} (Err fault.Worn) (Ok o) → A
worn o e = absurd (cc)

pub has_given : (c : Core) (e : CoreEvent) (now : ℕ) (o : Outcome) → (stepped c e now).outcome ≡ Ok o → (happened now e (clock_work now c)).outcome ≡ Ok o
unfolding stepped
has_given c e now o given = by_worn (is_worn c) given
  where
    by_worn : (b : Bool) → (cond b (faults c fault.Worn) (counted (happened now e (clock_work now c)))).outcome ≡ Ok o → (happened now e (clock_work now c)).outcome ≡ Ok o
    by_worn true g = worn o g
    by_worn false g = sym (counted_is (happened now e (clock_work now c)).core (happened now e (clock_work now c)).outcome) ∙ g

-- ---- a keepalive is asked

abbrev Untold : Stepped → Type 0
Untold s = (reply : Reply) → s.outcome ≡ Ok (outcome.Replied (Done reply)) → ⊥

untold_fault : (f : StepFault) (reply : Reply) → ◌≡◌ {A = Result Outcome StepFault} (Err f) (Ok (outcome.Replied (Done reply))) → ⊥
untold_fault f reply e = absurd (cc)

untold_wait : (reply : Reply) → ◌≡◌ {A = Result Outcome StepFault} (Ok outcome.Waiting) (Ok (outcome.Replied (Done reply))) → ⊥
untold_wait reply e = absurd (cc)

untold_refusal : (r : Refusal) (reply : Reply) → ◌≡◌ {A = Result Outcome StepFault} (Ok (outcome.Replied (Refused r))) (Ok (outcome.Replied (Done reply))) → ⊥
untold_refusal r reply e = absurd (cc)

called_untold : (o : Option ℕ) (a : Asked) (c : Core) → Untold (answered_or_called (if_live o None) a c)
called_untold None a c = untold_wait
called_untold (Some n) a c = untold_wait

taken_untold : (m : Moment) (now ticket lease word : ℕ) (c : Core) → Untold (taken_in m (asked_at now ticket (request.KeepAlive lease) word) c)
taken_untold m now ticket lease word c =
    let a = asked_at now ticket (request.KeepAlive lease) word in
    by_test Untold (leases c) (leased_ask m a c) (call_is_asked a c)
    (λ e. by_test Untold (writes_keys (request.KeepAlive lease)) (write_is_asked a c) (answered_or_called (if_live m.session None) a c) (λ u. untold_wait) (λ u. called_untold m.session a c))
    (λ e. untold_wait)

ask_untold : (now ticket lease word : ℕ) (c : Core) → Untold (on_ask now ticket (request.KeepAlive lease) word c)
unfolding on_ask
ask_untold now ticket lease word c =
    by_test Untold (is_known ticket c) (faults c (fault.TicketUsed ticket)) (refused_or_taken (refusal_of c.own.waits.prefix (request.KeepAlive lease)) (moment c now) (asked_at now ticket (request.KeepAlive lease) word) c)
    (λ e. untold_fault (fault.TicketUsed ticket)) (λ e. by_refusal (refusal_of c.own.waits.prefix (request.KeepAlive lease)))
  where
    by_refusal : (o : Option Refusal) → Untold (refused_or_taken o (moment c now) (asked_at now ticket (request.KeepAlive lease) word) c)
    by_refusal None = taken_untold (moment c now) now ticket lease word c
    by_refusal (Some r) = untold_refusal r

some_is : (a b : Request) → Some a ≡ Some b → a ≡ b
some_is a b e = cc

-- what is replied at the step that a request is asked at
pub told_ask : (l : Life) (c : Core) (ticket : ℕ) (q : Request) (word now : ℕ) (o : Outcome) → (stepped c (event.Ask ticket q word) now).outcome ≡ Ok o → asked_as l.proxy ticket l.told ≡ Some q → RepliesOk l (told_at_once ticket o)
told_ask l c ticket q word now (outcome.Replied a) given asked =
    (λ lease reply done is. absurd (untold lease reply done (some_is q (request.KeepAlive lease) (sym asked ∙ is))), tt)
  where
    untold : (lease : ℕ) (reply : Reply) → a ≡ Done reply → q ≡ request.KeepAlive lease → ⊥
    untold lease reply done is =
        ask_untold now ticket lease word (clock_work now c) reply
        (has_given c (event.Ask ticket (request.KeepAlive lease) word) now (outcome.Replied (Done reply))
        (ap (λ (i : Request). (stepped c (event.Ask ticket i word) now).outcome) (sym is) ∙ given ∙ ap (λ (x : Answer). Ok (outcome.Replied x)) done))
told_ask l c ticket q word now outcome.Waiting given asked = tt
told_ask l c ticket q word now outcome.Pending given asked = tt
told_ask l c ticket q word now outcome.Noted given asked = tt
told_ask l c ticket q word now (outcome.Item i) given asked = tt
told_ask l c ticket q word now (outcome.Job j) given asked = tt

-- ---- a reply is fetched

-- an ok reply is what was said
said_is : (l : Life) (ticket lease : ℕ) (reply : Reply) (v : Verdict) → reply_of v ≡ Done reply → KnownAt l ticket lease (stage.Replied v) → Renews l.namespace l.told l.proxy ticket lease reply
said_is l ticket lease reply (verdict.Said (Done x)) e h = subst (Renews l.namespace l.told l.proxy ticket lease) (one_reply x reply e) h
  where
    one_reply : (x y : Reply) → Done x ≡ Done y → x ≡ y
    one_reply x y e = cc
said_is l ticket lease reply (verdict.Said (Refused r)) e h = absurd (cc)
said_is l ticket lease reply verdict.Lost e h = absurd (cc)
said_is l ticket lease reply verdict.Stale e h = absurd (cc)
said_is l ticket lease reply verdict.TimedOut e h = absurd (cc)

row_tells : (l : Life) (ticket : ℕ) (r : Asked) (v : Verdict) (a : Answer) → Row l r → r.ticket ≡ ticket → r.stage ≡ stage.Replied v → reply_of v ≡ a → ReplyOk l.namespace l.told l.proxy (ticket, a)
row_tells l ticket r v a row same at is lease reply done asked =
    let q_is : r.request ≡ request.KeepAlive lease = some_is r.request (request.KeepAlive lease) (sym row.asked ∙ ap (λ (n : ℕ). asked_as l.proxy n l.told) same ∙ asked) in
    let o = row.keeps lease q_is in
    subst (λ (n : ℕ). Renews l.namespace l.told l.proxy n lease reply) same (said_is l r.ticket lease reply v (is ∙ done) (subst (KnownAt l r.ticket lease) at o.at))

taken_tells : (l : Life) (ticket : ℕ) (d : Core) (a : Answer) → All (Row l) d.asks → (on_take ticket d).outcome ≡ Ok (outcome.Replied a) → ReplyOk l.namespace l.told l.proxy (ticket, a)
unfolding on_take
taken_tells l ticket d a rows given = by_ask (ask_at ticket d.asks) refl given
  where
    by_pair : {A : Type 0} (x : Broadcasts × Option WatchItem) → (taken_item d x).outcome ≡ Ok (outcome.Replied a) → A
    by_pair (b, None) g = absurd (cc)
    by_pair (b, Some i) g = absurd (cc)

    by_watch : {A : Type 0} (w : Option Watch) → (item_taken ticket w d).outcome ≡ Ok (outcome.Replied a) → A
    by_watch None g = absurd (cc)
    by_watch (Some w) g = by_pair (watches.taken_from d.watches d.header w w.queue) g

    one_answer : (x y : Answer) → ◌≡◌ {A = Result Outcome StepFault} (Ok (outcome.Replied x)) (Ok (outcome.Replied y)) → x ≡ y
    one_answer x y e = cc

    by_stage : (r : Asked) → ask_at ticket d.asks ≡ Some r → (s : Stage) → r.stage ≡ s → (takes.taken_from ticket s d).outcome ≡ Ok (outcome.Replied a) → ReplyOk l.namespace l.told l.proxy (ticket, a)
    by_stage r at (stage.Replied v) e g =
        let f = found (Row l) ticket d.asks r at rows in
        row_tells l ticket r v a f.0 (same_number r.ticket ticket f.1) e (one_answer (reply_of v) a g)
    by_stage r at (stage.Calling s) e g = absurd (cc)
    by_stage r at stage.Acquiring e g = absurd (cc)
    by_stage r at stage.Joined e g = absurd (cc)
    by_stage r at stage.Behind e g = absurd (cc)
    by_stage r at stage.Writes e g = absurd (cc)
    by_stage r at (stage.Grouped s) e g = absurd (cc)

    by_ask : (o : Option Asked) → ask_at ticket d.asks ≡ o → (taken ticket o d).outcome ≡ Ok (outcome.Replied a) → ReplyOk l.namespace l.told l.proxy (ticket, a)
    by_ask None at g = by_watch (watch_at ticket d.watches.watches) g
    by_ask (Some r) at g = by_stage r at r.stage refl g

pub told_take : (l : Life) (c : Core) (ticket now : ℕ) (a : Answer) → All (Row l) c.asks → (stepped c (event.Take ticket) now).outcome ≡ Ok (outcome.Replied a) → ReplyOk l.namespace l.told l.proxy (ticket, a)
told_take l c ticket now a rows given =
    taken_tells l ticket (clock_work now c) a (clock_all (Row l) (row_lasts l) now c rows) (has_given c (event.Take ticket) now (outcome.Replied a) given)
