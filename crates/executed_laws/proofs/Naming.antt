-- A call of a proxy names a ticket that was asked in this life, or 0.
use Rattle.std.proofs.Common.{◌≡◌, ◌≢◌, ◌⊎◌, inl, inr, ℕ, ◌==◌, ◌&&◌, ◌||◌, Bool, true, false, cond, List, [], ◌∷◌, ◌++◌, Option, None, Some, Result, Ok, refl, sym, ◌∙◌, ap, subst}
use Rattle.std.specs.Prelude.{flat_map}
use Rattle.std.specs.BTreeSet.{BTreeSet}
use Rattle.etcd_types.proofs.Bools.{and_first, and_second}
use Rattle.etcd_types.specs.declared.answer.Answer.{Answer}
use Rattle.etcd_types.specs.declared.request.Request.{Request}
use Rattle.etcd_types.specs.declared.watch.WatchItem.{WatchItem}
use Rattle.proxy_model.specs.declared.lease.Entry.{Entry}
use Rattle.wait_model.specs.declared.due.DueCall.{DueCall}
use Rattle.wait_model.specs.declared.sending.Sending.{Sending}
use Rattle.wait_model.specs.declared.sending.Sending.TheVariants as sending
use Rattle.wait_model.specs.declared.write.Write.{Write}
use Rattle.wait_model.specs.DueOrder.{first_call, first_rescind}
use Rattle.wait_model.specs.Sent.{JobSent, is_revoke, revoke_job, write_job, call_of, call_sent, job_sent_after, job_sent}
use Rattle.wait_model.specs.State.{Ownership}
use Rattle.wait_model.specs.Writes as writes
use Rattle.wait_model.specs.Writes.{first_by}
use Rattle.read_model.specs.declared.acquire.Acquire.{Acquire}
use Rattle.read_model.specs.declared.asked.Asked.{Asked}
use Rattle.read_model.specs.Acquires.{acquires_at}
use Rattle.read_model.specs.SessionEnd.{is_due}
use Rattle.watch_model.specs.declared.stream.StreamJob.{StreamJob}
use Rattle.watch_model.specs.declared.stream.StreamJob.TheVariants as stream
use Rattle.watch_model.specs.Due.{next_job}
use Rattle.core_model.specs.declared.event.CoreEvent.{CoreEvent}
use Rattle.core_model.specs.declared.event.CoreEvent.TheVariants as event
use Rattle.core_model.specs.declared.event.Job.TheVariants as job
use Rattle.core_model.specs.declared.event.Outcome.{Outcome}
use Rattle.core_model.specs.declared.event.Outcome.TheVariants as outcome
use Rattle.core_model.specs.declared.event.StepFault.{StepFault}
use Rattle.core_model.specs.ClockWork.{clock_work}
use Rattle.core_model.specs.DueJobs.{DueJob, ForSession, ForWrites, ForAcquire, ForAsk, ForGroup, ToOpen, ForStream, first_job}
use Rattle.core_model.specs.Fits.{CoreOk, Agrees, has_number, is_awaited, awaits}
use Rattle.core_model.specs.Lookups.{has_ticket}
use Rattle.core_model.specs.Sending.{next_call, writes_sent, sent_by, on_work}
use Rattle.core_model.specs.State.{Core}
use Rattle.core_model.specs.Step.{stepped}
use Rattle.core_model.specs.Watching.{with_watches, stream_job}
use Rattle.core_laws.proofs.Steps.Lists.{same_number, number_turned}
use Rattle.core_laws.proofs.Steps.Middle.{clock_whole}
use Rattle.core_laws.proofs.Steps.WaitEnds.{found_ticket}
use Rattle.core_laws.proofs.Steps.Whole.{Whole, of_ok}
use Rattle.script_text.specs.declared.item.Item.{Item}
use Rattle.script_text.specs.declared.item.Item.TheVariants as item
use Rattle.world_model.specs.Gains.{Replies, body_if, line_if, reply_items, taken_items}
use Rattle.world_model.specs.Lives.{names, asked_as, is_named}
use Rattle.world_model.specs.Places.{is_among}
use Rattle.world_model.specs.State.{Place, World}
use Rattle.world_laws.proofs.Effects.{Turn, ticks, asks_it, posts_it, calls, opens, closes, answers, loses, delivers, cuts, takes, waits, leaves}
use Rattle.held_laws.proofs.Items.{asked-append, or_later}
use Rattle.keep_laws.proofs.Rows.{All, all_kept}
use Rattle.keep_laws.proofs.Runs.{found}
use Rattle.renewed_laws.proofs.Gains.{stepped_to}
use Rattle.renewed_laws.proofs.Replies.{has_given}
use Rattle.renewed_laws.proofs.Rows.{Row}
use Rattle.renewed_laws.proofs.Stories.{Life}
use Rattle.reply_laws.proofs.Before.{Since, clock_since}
use Rattle.executed_laws.proofs.Dues.{StandsIf, first_stands}
use Rattle.executed_laws.proofs.Turns.{Passing, one_passing, ticket_of, known_since}

-- ---- the core: the ticket that a job names

-- it is 0, or that of one of the requests
abbrev pub IsAsks : List Asked → ℕ → Type 0
IsAsks asks ticket = (ticket ≡ 0) ⊎ Passing (λ x. Unit {0}) (has_ticket ticket)

every : (xs : List Asked) → All (λ x. Unit {0}) xs
every [] = tt
every (x ∷ xs) = (tt, every xs)

-- where it holds of each request, it holds of one that is named
abbrev pub NamesIn : (Asked → Type 0) → Result Outcome StepFault → Type 0
NamesIn P r = (own member ticket : ℕ) (q : Request) → r ≡ Ok (outcome.Job (Some (job.Call own member ticket q))) → (ticket ≡ 0) ⊎ Passing P (has_ticket ticket)

pub same_ticket : (n m t n' m' t' : ℕ) (q q' : Request) → ◌≡◌ {A = Result Outcome StepFault} (Ok (outcome.Job (Some (job.Call n m t q)))) (Ok (outcome.Job (Some (job.Call n' m' t' q')))) → t ≡ t'
same_ticket n m t n' m' t' q q' e = cc

-- where the call names this ticket
names_one : (P : Asked → Type 0) (n m t : ℕ) (q : Request) → (t ≡ 0) ⊎ Passing P (has_ticket t) → NamesIn P (Ok (outcome.Job (Some (job.Call n m t q))))
names_one P n m t q h own member ticket r e = subst (λ (i : ℕ). (i ≡ 0) ⊎ Passing P (has_ticket i)) (same_ticket n m t own member ticket q r e) h

abbrev pub JobNames : (Asked → Type 0) → Option JobSent → Type 0
JobNames P None = Unit {0}
JobNames P (Some x) = (x.due.ticket ≡ 0) ⊎ Passing P (has_ticket x.due.ticket)

pub job_names : (P : Asked → Type 0) (call : ℕ) (own : Ownership) → ((n : ℕ) (w : Write) → first_by (writes.has_ticket n) own.waits.writes ≡ Some w → Passing P (has_ticket w.ticket)) → JobNames P (job_sent call own)
unfolding job_sent
job_names P call own h = by_entry (first_rescind own.entries)
  where
    by_kind : (d : DueCall) (w : Write) (b : Bool) → first_by (writes.has_ticket d.place.number) own.waits.writes ≡ Some w → JobNames P (Some (cond b (revoke_job call d w own) (write_job call d w own)))
    by_kind d w true f = inr (h d.place.number w f)
    by_kind d w false f = inr (h d.place.number w f)

    by_write : (d : DueCall) (o : Option Write) → first_by (writes.has_ticket d.place.number) own.waits.writes ≡ o → JobNames P (call_of call d o own)
    by_write d None f = tt
    by_write d (Some w) f = by_kind d w (is_revoke d.place.kind) f

    by_call : (o : Option DueCall) → JobNames P (call_sent call o own)
    by_call None = tt
    by_call (Some d) = by_write d (first_by (writes.has_ticket d.place.number) own.waits.writes) refl

    by_entry : (o : Option (List ℕ × Entry)) → JobNames P (job_sent_after call o own)
    by_entry None = by_call (first_call own.waits.writes)
    by_entry (Some e) = inl refl

none_named : (P : Asked → Type 0) (o : Outcome) → ((a b t : ℕ) (q : Request) → ◌≡◌ {A = Result Outcome StepFault} (Ok o) (Ok (outcome.Job (Some (job.Call a b t q)))) → ⊥) → NamesIn P (Ok o)
none_named P o n own member ticket q e = absurd (n own member ticket q e)

pub no_job : (a b t : ℕ) (q : Request) → ◌≡◌ {A = Result Outcome StepFault} (Ok (outcome.Job None)) (Ok (outcome.Job (Some (job.Call a b t q)))) → ⊥
no_job a b t q e = absurd (cc)

pub begins_none : (n m : ℕ) (r : Request) (a b t : ℕ) (q : Request) → ◌≡◌ {A = Result Outcome StepFault} (Ok (outcome.Job (Some (job.Begin n m r)))) (Ok (outcome.Job (Some (job.Call a b t q)))) → ⊥
begins_none n m r a b t q e = absurd (cc)

pub closes_none : (n : ℕ) (a b t : ℕ) (q : Request) → ◌≡◌ {A = Result Outcome StepFault} (Ok (outcome.Job (Some (job.Close n)))) (Ok (outcome.Job (Some (job.Call a b t q)))) → ⊥
closes_none n a b t q e = absurd (cc)

sent_names : (P : Asked → Type 0) (now : ℕ) (c : Core) (j : Option DueJob) → Agrees c → All P c.asks → StandsIf c j → NamesIn P (sent_by now j c).outcome
sent_names P now c None g t k = none_named P (outcome.Job None) no_job
sent_names P now c (Some (ForSession s)) g t k = names_one P _ _ 0 _ (inl refl)
sent_names P now c (Some ForWrites) g t k = by (job_sent (next_call c) c.own) (job_names P (next_call c) c.own (λ n w f. ticket_of P w.ticket c.asks t (ap (λ (ns : List ℕ). has_number ns w.ticket) (sym g.asks.writes) ∙ found_ticket (writes.has_ticket n) w c.own.waits.writes f)))
  where
    by : (o : Option JobSent) → JobNames P o → NamesIn P (writes_sent now o c).outcome
    by None h = none_named P (outcome.Job None) no_job
    by (Some x) h = names_one P _ _ x.due.ticket _ h
sent_names P now c (Some (ForAcquire i x)) g t k =
    let one = by_due x.sending k.1 (subst (λ (o : Option Acquire). is_awaited c.asks i o ≡ true) k.0 (g.awaited i)) in
    names_one P _ _ x.ticket _ (inr (record { ask = one.ask; so = one.so; passes = and_first (has_ticket x.ticket one.ask) (acquires_at i one.ask) one.passes }))
  where
    by_due : (s : Sending) → is_due s ≡ true → awaits x.ticket i c.asks s ≡ true → Passing P (λ a. has_ticket x.ticket a && acquires_at i a)
    by_due (sending.Due since) u h = one_passing P (λ a. has_ticket x.ticket a && acquires_at i a) c.asks t h
    by_due (sending.Out call) u h = absurd (cc)
sent_names P now c (Some (ForAsk a)) g t k = let f = found P a.ticket c.asks a k t in names_one P _ _ a.ticket _ (inr (record { ask = a; so = f.0; passes = f.1 }))
sent_names P now c (Some (ForGroup lease ticket)) g t k = let f = found P ticket c.asks k.0 k.1 t in names_one P _ _ ticket _ (inr (record { ask = k.0; so = f.0; passes = f.1 }))
sent_names P now c (Some (ToOpen o)) g t k = none_named P _ (begins_none _ _ _)
sent_names P now c (Some (ForStream x)) g t k = by (next_job c.watches (Some x)).1
  where
    by : (o : Option StreamJob) → NamesIn P (stream_job o (with_watches c (next_job c.watches (Some x)).0)).outcome
    by None = none_named P (outcome.Job None) no_job
    by (Some (stream.Close number)) = none_named P _ (closes_none number)
    by (Some (stream.Open number range start)) = none_named P _ (begins_none _ _ _)

work_names : (P : Asked → Type 0) (now : ℕ) (c : Core) → Rattle.proxy_model.specs.Keyed.is_in_order c.acquires ≡ true → Agrees c → All P c.asks → NamesIn P (on_work now c).outcome
unfolding on_work
work_names P now c o g t = sent_names P now c (first_job c) g t (first_stands c o g.asks.once)

-- ---- a life of a proxy

-- what no request was asked under isn't named
abbrev pub Unnamed : ℕ → List Item → Type 0
Unnamed p told = (t : ℕ) → t ≢ 0 → asked_as p t told ≡ None → is_named p t told ≡ false

abbrev pub Unnaming : ℕ → List Item → Type 0
Unnaming p more = (t : ℕ) → is_named p t more ≡ false

pub named-append : (p t : ℕ) (xs ys : List Item) → is_named p t (xs ++ ys) ≡ is_named p t xs || is_named p t ys
named-append p t [] ys = refl
named-append p t (x ∷ xs) ys = ap (λ (b : Bool). names p t x || b) (named-append p t xs ys) ∙ assoc (names p t x) (is_named p t xs) (is_named p t ys)
  where
    assoc : (a b c : Bool) → a || (b || c) ≡ (a || b) || c
    assoc true b c = refl
    assoc false b c = refl

neither : (a b : Bool) → a ≡ false → b ≡ false → a || b ≡ false
neither true b e f = absurd (cc)
neither false b e f = f

pub unnamed_on : (p : ℕ) (told more : List Item) → Unnamed p told → ((t : ℕ) → t ≢ 0 → asked_as p t told ≡ None → is_named p t more ≡ false) → Unnamed p (told ++ more)
unnamed_on p told more h g t n e =
    let none : asked_as p t told ≡ None = first_none (asked_as p t told) (asked_as p t more) (sym (asked-append p t told more) ∙ e) in
    named-append p t told more ∙ neither (is_named p t told) (is_named p t more) (h t n none) (g t n none)
  where
    first_none : (a b : Option Request) → or_later a b ≡ None → a ≡ None
    first_none None b e = refl
    first_none (Some q) b e = absurd (cc)

pub unnaming-append : (p : ℕ) (xs ys : List Item) → Unnaming p xs → Unnaming p ys → Unnaming p (xs ++ ys)
unnaming-append p xs ys h k t = named-append p t xs ys ∙ neither (is_named p t xs) (is_named p t ys) (h t) (k t)

body_unnaming : (q : ℕ) (b : Bool) (p ticket : ℕ) (a : Answer) → Unnaming q (body_if b p ticket a)
body_unnaming q false p ticket a t = refl
body_unnaming q true p ticket a t = refl

pub reply_unnaming : (q p : ℕ) (posted : BTreeSet ℕ) (r : ℕ × Answer) → Unnaming q (reply_items p posted r)
reply_unnaming q p posted r = body_unnaming q (is_among posted r.0) p r.0 r.1

pub replies_unnaming : (q p : ℕ) (posted : BTreeSet ℕ) (rs : Replies) → Unnaming q (flat_map (reply_items p posted) rs)
replies_unnaming q p posted [] t = refl
replies_unnaming q p posted (r ∷ rs) t = unnaming-append q (reply_items p posted r) (flat_map (reply_items p posted) rs) (reply_unnaming q p posted r) (replies_unnaming q p posted rs) t

pub taken_unnaming : (q p : ℕ) (posted : BTreeSet ℕ) (ticket : ℕ) (i : WatchItem) → Unnaming q (taken_items p posted ticket i)
taken_unnaming q p posted ticket i t = by (is_among posted ticket)
  where
    by : (b : Bool) → is_named q t (line_if b p ticket i) ≡ false
    by true = refl
    by false = refl

-- ---- a turn

-- what the step of a proxy sends names a request that was asked
pub step_names : (l : Life) (c : Core) (now own member ticket : ℕ) (q : Request) → CoreOk c → Rattle.proxy_model.specs.Keyed.is_in_order (clock_work now c).acquires ≡ true → All (Row l) c.asks
    → (stepped c event.Work now).outcome ≡ Ok (outcome.Job (Some (job.Call own member ticket q))) → ticket ≢ 0 → asked_as l.proxy ticket l.told ≡ None → ⊥
step_names l c now own member ticket q ok order rows is n none =
    by (work_names (λ x. asked_as l.proxy x.ticket l.told ≡ Some x.request) now (clock_work now c) order whole.mid.agrees
    (all_kept (Since c) (λ x. asked_as l.proxy x.ticket l.told ≡ Some x.request) (λ x s. known_since l c x rows s) (clock_work now c).asks (clock_since c now ok.agrees.asks.once)) own member ticket q (has_given c event.Work now _ is))
  where
    whole : Whole 0 (clock_work now c)
    whole = clock_whole 0 now c (of_ok c ok).mid

    by : (ticket ≡ 0) ⊎ Passing (λ x. asked_as l.proxy x.ticket l.told ≡ Some x.request) (has_ticket ticket) → ⊥
    by (inl z) = absurd (n z)
    by (inr one) =
        let there = ap (λ (i : ℕ). asked_as l.proxy i l.told) (sym (same_number one.ask.ticket ticket one.passes)) ∙ one.so in
        absurd (let e : None ≡ Some one.ask.request = sym none ∙ there in cc)

pub call_names : (p number member ticket : ℕ) (q : Request) (t : ℕ) → is_named p t (item.Sent p number member ticket q ∷ []) ≡ true → ticket ≡ t
call_names p number member ticket q t h = by (p == p && ticket == t) refl h
  where
    by : (b : Bool) → (p == p && ticket == t) ≡ b → b || false ≡ true → ticket ≡ t
    by true e h = same_number ticket t (and_second (p == p) (ticket == t) e)
    by false e h = absurd (cc)

-- the items of a turn name nothing that wasn't asked
pub turn_names : (l : Life) (w : World) (p : ℕ) (x : Place) (e : CoreEvent) (o : Outcome) (v : World) (y : Place) (own : List Item) (told : Replies) → CoreOk x.core → Rattle.proxy_model.specs.Keyed.is_in_order (clock_work x.clock x.core).acquires ≡ true
    → All (Row l) x.core.asks → l.proxy ≡ p → (stepped x.core e x.clock).outcome ≡ Ok o → Turn w p (stepped_to x e) e o v y own told → (t : ℕ) → t ≢ 0 → asked_as p t l.told ≡ None → is_named p t own ≡ false
turn_names l w p x _ _ _ _ _ _ ok order rows same is (ticks o) t n none = refl
turn_names l w p x _ _ _ _ _ _ ok order rows same is (asks_it ticket q o f) t n none = refl
turn_names l w p x _ _ _ _ _ _ ok order rows same is (posts_it ticket path body q o f) t n none = refl
turn_names l w p x _ _ _ _ _ _ ok order rows same is (calls own member ticket q) t n none = by (is_named p t (item.Sent p (Rattle.world_model.specs.Sends.next_call w) member ticket q ∷ [])) refl
  where
    by : (b : Bool) → is_named p t (item.Sent p (Rattle.world_model.specs.Sends.next_call w) member ticket q ∷ []) ≡ b → b ≡ false
    by false e = refl
    by true e =
        let its = call_names p (Rattle.world_model.specs.Sends.next_call w) member ticket q t e in
        absurd (step_names l x.core x.clock own member ticket q ok order rows is (λ z. n (sym its ∙ z)) ((λ i. asked_as (same i) (its i) l.told) ∙ none))
turn_names l w p x _ _ _ _ _ _ ok order rows same is (opens own member ask) t n none = refl
turn_names l w p x _ _ _ _ _ _ ok order rows same is (closes own number e) t n none = refl
turn_names l w p x _ _ _ _ _ _ ok order rows same is (answers number call a o e k) t n none = refl
turn_names l w p x _ _ _ _ _ _ ok order rows same is (loses number call o e) t n none = refl
turn_names l w p x _ _ _ _ _ _ ok order rows same is (delivers number s i more o a b c d e) t n none = refl
turn_names l w p x _ _ _ _ _ _ ok order rows same is (cuts number s o a b c d) t n none = refl
turn_names l w p x _ _ _ _ _ _ ok order rows same is (takes ticket i) t n none = taken_unnaming p p _ ticket i t
turn_names l w p x _ _ _ _ _ _ ok order rows same is (waits ticket o f) t n none = refl
turn_names l w p x _ _ _ _ _ _ ok order rows same is (leaves ticket o) t n none = refl

-- nor anything of another proxy
pub turn_others : (w : World) (p : ℕ) (x : Place) (e : CoreEvent) (o : Outcome) (v : World) (y : Place) (own : List Item) (told : Replies) → Turn w p x e o v y own told → (q : ℕ) → (q == p) ≡ false → Unnaming q own
turn_others w p x _ _ _ _ _ _ (ticks o) q n t = refl
turn_others w p x _ _ _ _ _ _ (asks_it ticket r o f) q n t = refl
turn_others w p x _ _ _ _ _ _ (posts_it ticket path body r o f) q n t = refl
turn_others w p x _ _ _ _ _ _ (calls own member ticket r) q n t = ap (λ b. (b && ticket == t) || false) (number_turned q p n)
turn_others w p x _ _ _ _ _ _ (opens own member ask) q n t = refl
turn_others w p x _ _ _ _ _ _ (closes own number e) q n t = refl
turn_others w p x _ _ _ _ _ _ (answers number call a o e k) q n t = refl
turn_others w p x _ _ _ _ _ _ (loses number call o e) q n t = refl
turn_others w p x _ _ _ _ _ _ (delivers number s i more o a b c d e) q n t = refl
turn_others w p x _ _ _ _ _ _ (cuts number s o a b c d) q n t = refl
turn_others w p x _ _ _ _ _ _ (takes ticket i) q n t = taken_unnaming q p _ ticket i t
turn_others w p x _ _ _ _ _ _ (waits ticket o f) q n t = refl
turn_others w p x _ _ _ _ _ _ (leaves ticket o) q n t = refl
