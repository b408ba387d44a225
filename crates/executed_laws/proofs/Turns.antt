-- What is out at a proxy was sent for the request that it names: a turn of the proxy keeps that, with the fetches behind it.
use Rattle.std.proofs.Common.{◌≡◌, ℕ, ◌==◌, ◌&&◌, Bool, true, false, cond, List, [], ◌∷◌, map, filter, Option, None, Some, Result, Ok, refl, sym, ◌∙◌, ap, subst}
use Rattle.std.specs.List.{list_any, list_all}
use Rattle.etcd_types.proofs.Bools.{and_first, and_second}
use Rattle.etcd_types.proofs.KeyOrder.{same-equal}
use Rattle.etcd_types.specs.declared.answer.Answer.{Answer}
use Rattle.etcd_types.specs.declared.request.Request.{Request}
use Rattle.etcd_types.specs.declared.request.Request.TheVariants as request
use Rattle.etcd_types.specs.Keys.{same}
use Rattle.proxy_model.specs.Acquire.{acquire}
use Rattle.proxy_model.specs.Guarded.{guarded}
use Rattle.proxy_model.specs.PassingOn.{passed_on, numbered}
use Rattle.proxy_model.specs.Wrapped.{request_under}
use Rattle.wait_model.specs.declared.sending.Sending.{Sending}
use Rattle.wait_model.specs.declared.sending.Sending.TheVariants as sending
use Rattle.wait_model.specs.declared.write.Write.{Write}
use Rattle.wait_model.specs.Sent.{compared}
use Rattle.wait_model.specs.Writes as writes
use Rattle.wait_model.specs.Writes.{first_by}
use Rattle.read_model.specs.declared.acquire.Acquire.{Acquire}
use Rattle.read_model.specs.declared.asked.Asked.{Asked}
use Rattle.read_model.specs.Acquires.{acquires_at, is_acquiring}
use Rattle.read_model.specs.PlainRead.{key_of, ask_key}
use Rattle.read_model.specs.SessionEnd.{is_due}
use Rattle.read_model.specs.TakingOff.{is_writes}
use Rattle.core_model.specs.declared.event.Job.TheVariants as job
use Rattle.core_model.specs.declared.event.Outcome.{Outcome}
use Rattle.core_model.specs.declared.event.Outcome.TheVariants as outcome
use Rattle.core_model.specs.declared.event.StepFault.{StepFault}
use Rattle.core_model.specs.declared.settings.Settings.{Settings}
use Rattle.core_model.specs.ClockWork.{clock_work}
use Rattle.core_model.specs.Fits.{CoreOk, has_number, is_awaited, awaits, writing_tickets}
use Rattle.core_model.specs.Lookups.{ask_at, has_ticket}
use Rattle.core_model.specs.Sending.{next_call}
use Rattle.core_model.specs.State.{Core}
use Rattle.core_laws.proofs.Steps.Lists.{same_number}
use Rattle.core_laws.proofs.Steps.Middle.{clock_whole}
use Rattle.core_laws.proofs.Steps.WaitEnds.{found_ticket}
use Rattle.core_laws.proofs.Steps.Whole.{Whole, of_ok}
use Rattle.core_fits.specs.Fits.{EachOf, IsSame, WritesAreAsked}
use Rattle.core_fits.proofs.CallRows.{clock_has}
use Rattle.core_fits.proofs.Prefix.{clock_prefix}
use Rattle.script_text.specs.declared.item.Item.TheVariants as item
use Rattle.world_model.specs.Lives.{asked_as}
use Rattle.keep_laws.proofs.Rows.{All}
use Rattle.keep_laws.proofs.Runs.{found}
use Rattle.renewed_laws.proofs.Rows.{Row}
use Rattle.renewed_laws.proofs.Stories.{Life, later}
use Rattle.reply_laws.proofs.Before.{Since, clock_since, clock_leaves}
use Rattle.executed_laws.proofs.Sends.{AllSent, SendsSo}
use Rattle.executed_laws.proofs.Stories.{SentFor, new_sent}

-- what a call is for the request that it names: the request itself, the acquire of its key, or the write behind the ownership keys

abbrev pub IsPassedOn : List ℕ → Request → Request → Type 0
IsPassedOn namespace q sent = (word : ℕ) × (sent ≡ passed_on namespace word q)

abbrev pub IsAcquire : List ℕ → List ℕ → Request → Request → Type 0
IsAcquire namespace prefix q sent = (session : ℕ) × (sent ≡ request_under namespace (request.Txn (acquire prefix (key_of q) session)))

abbrev pub IsGuarded : List ℕ → List ℕ → Request → Request → Type 0
IsGuarded namespace prefix q sent = (created : List ℕ → ℕ) × (sent ≡ request_under namespace (request.Txn (guarded prefix q created)))

abbrev pub Sent : List ℕ → Life → Core → Type 0
Sent prefix l c = AllSent (SentFor (IsPassedOn l.namespace) l) (SentFor (IsAcquire l.namespace prefix) l) (SentFor (IsGuarded l.namespace prefix) l) c

-- ---- the request that a call names was asked

-- behind the clock's work each request is one of before, with what is known of it
pub known_since : (l : Life) (c : Core) (a : Asked) → All (Row l) c.asks → Since c a → asked_as l.proxy a.ticket l.told ≡ Some a.request
known_since l c a rows s =
    let f = found (Row l) a.ticket c.asks s.before s.there rows in
    ap (λ (n : ℕ). asked_as l.proxy n l.told) (sym (same_number s.before.ticket a.ticket f.1)) ∙ f.0.asked ∙ ap (λ (q : Request). Some q) s.request

-- one of a list that passes
pub record Passing (P : Asked → Type 0) (p : Asked → Bool) : Type 0 where
  pub ask : Asked
  pub so : P ask
  pub passes : p ask ≡ true

pub one_passing : (P : Asked → Type 0) (p : Asked → Bool) (xs : List Asked) → All P xs → list_any p xs ≡ true → Passing P p
one_passing P p [] t h = absurd (cc)
one_passing P p (x ∷ xs) t h = by (p x) refl h (one_passing P p xs t.1)
  where
    by : (b : Bool) → p x ≡ b → Rattle.std.specs.Prelude.◌||◌ b (list_any p xs) ≡ true → (list_any p xs ≡ true → Passing P p) → Passing P p
    by true e h more = record { ask = x; so = t.0; passes = e }
    by false e h more = more h

-- a write's ticket is that of a request at the stage of writes
pub ticket_of : (P : Asked → Type 0) (ticket : ℕ) (xs : List Asked) → All P xs → has_number (writing_tickets xs) ticket ≡ true → Passing P (has_ticket ticket)
ticket_of P ticket [] t h = absurd (cc)
ticket_of P ticket (x ∷ xs) t h = by (is_writes x.stage) h (ticket_of P ticket xs t.1)
  where
    by_here : (b : Bool) → (x.ticket == ticket) ≡ b → Rattle.std.specs.Prelude.◌||◌ b (has_number (writing_tickets xs) ticket) ≡ true → (has_number (writing_tickets xs) ticket ≡ true → Passing P (has_ticket ticket)) → Passing P (has_ticket ticket)
    by_here true e h more = record { ask = x; so = t.0; passes = e }
    by_here false e h more = more h

    by : (b : Bool) → has_number (map (λ a. a.ticket) (cond b (x ∷ filter (λ a. is_writes a.stage) xs) (filter (λ a. is_writes a.stage) xs))) ticket ≡ true → (has_number (writing_tickets xs) ticket ≡ true → Passing P (has_ticket ticket)) → Passing P (has_ticket ticket)
    by true h more = by_here (x.ticket == ticket) refl h more
    by false h more = more h

-- ---- the writes of one ticket are of one request

any_ask : (xs : List Asked) → EachOf (λ a. Unit {0}) xs
any_ask [] = tt
any_ask (x ∷ xs) = (tt, any_ask xs)

pub each_found : (P : Asked → Type 0) (ticket : ℕ) (xs : List Asked) (a : Asked) → ask_at ticket xs ≡ Some a → EachOf P xs → P a
each_found P ticket [] a e h = absurd (cc)
each_found P ticket (x ∷ xs) a e h = by (x.ticket == ticket) e (λ f. each_found P ticket xs a f h.1)
  where
    same_ask : Some x ≡ Some a → x ≡ a
    same_ask f = cc

    by : (b : Bool) → cond b (Some x) (ask_at ticket xs) ≡ Some a → (ask_at ticket xs ≡ Some a → P a) → P a
    by true f more = subst P (same_ask f) h.0
    by false f more = more f

pub first_each : (P : Write → Type 0) (p : Write → Bool) (ws : List Write) (w : Write) → first_by p ws ≡ Some w → EachOf P ws → P w
first_each P p [] w e h = absurd (cc)
first_each P p (v ∷ ws) w e h = by (p v) e (λ f. first_each P p ws w f h.1)
  where
    same_write : Some v ≡ Some w → v ≡ w
    same_write f = cc

    by : (b : Bool) → cond b (Some v) (first_by p ws) ≡ Some w → (first_by p ws ≡ Some w → P w) → P w
    by true f more = subst P (same_write f) h.0
    by false f more = more f

-- also behind the clock's work
pub one_request : (c : Core) (now : ℕ) (before : Asked) (ticket : ℕ) (p : Write → Bool) (w : Write) → WritesAreAsked c → ask_at ticket c.asks ≡ Some before → first_by p (clock_work now c).own.waits.writes ≡ Some w → w.ticket ≡ before.ticket
    → w.request ≡ before.request
one_request c now before ticket p w fits there first same =
    let all = clock_has (λ a. Unit {0}) (IsSame before) (record { asks = λ x y g h. tt; writes = λ v s h. h }) now c (any_ask c.asks, each_found (λ a. EachOf (IsSame a) c.own.waits.writes) ticket c.asks before there fits) in
    first_each (IsSame before) p (clock_work now c).own.waits.writes w first all.1 same

-- ---- a call is sent

same_call : (n m t n' m' t' : ℕ) (q q' : Request) → ◌≡◌ {A = Result Outcome StepFault} (Ok (outcome.Job (Some (job.Call n m t q)))) (Ok (outcome.Job (Some (job.Call n' m' t' q')))) → (n ≡ n') × (t ≡ t') × (q ≡ q')
same_call n m t n' m' t' q q' e = (cc, cc, cc)

no_such : {A : Type 0} (o : Outcome) (n m t : ℕ) (q : Request) → ((a b t : ℕ) (r : Request) → ◌≡◌ {A = Result Outcome StepFault} (Ok o) (Ok (outcome.Job (Some (job.Call a b t r)))) → ⊥) → ◌≡◌ {A = Result Outcome StepFault} (Ok o) (Ok (outcome.Job (Some (job.Call n m t q)))) → A
no_such o n m t q h e = absurd (h n m t q e)

-- another outcome than a call
pub none_sent : (A K W : ℕ → ℕ → Type 0) (c : Core) (o : Outcome) (r : Result Outcome StepFault) → r ≡ Ok o
    → ((a b t : ℕ) (q : Request) → ◌≡◌ {A = Result Outcome StepFault} (Ok o) (Ok (outcome.Job (Some (job.Call a b t q)))) → ⊥) → SendsSo A K W c r
none_sent A K W c o r is n = record {
  ask = λ a f s. absurd (n _ _ _ _ (sym is ∙ s));
  acquire = λ k x f d s. absurd (n _ _ _ _ (sym is ∙ s));
  write = λ i w f s. absurd (n _ _ _ _ (sym is ∙ s));
}

pub begin_no_call : (own member : ℕ) (q : Request) (a b t : ℕ) (r : Request) → ◌≡◌ {A = Result Outcome StepFault} (Ok (outcome.Job (Some (job.Begin own member q)))) (Ok (outcome.Job (Some (job.Call a b t r)))) → ⊥
begin_no_call own member q a b t r e = absurd (cc)

pub close_no_call : (own : ℕ) (a b t : ℕ) (r : Request) → ◌≡◌ {A = Result Outcome StepFault} (Ok (outcome.Job (Some (job.Close own)))) (Ok (outcome.Job (Some (job.Call a b t r)))) → ⊥
close_no_call own a b t r e = absurd (cc)

pub call_sends : (prefix : List ℕ) (l : Life) (own' : ℕ → Option ℕ) (answers' : ℕ → Option Answer) (c : Core) (now number own member ticket : ℕ) (q : Request) (r : Result Outcome StepFault) → r ≡ Ok (outcome.Job (Some (job.Call own member ticket q)))
    → CoreOk c → WritesAreAsked c → c.settings.namespace ≡ l.namespace → c.own.waits.prefix ≡ prefix → All (Row l) c.asks → own' own ≡ Some number → answers' number ≡ None
    → let m = later l own' answers' (item.Sent l.proxy number member ticket q ∷ []) in
    SendsSo (SentFor (IsPassedOn l.namespace) m) (SentFor (IsAcquire l.namespace prefix) m) (SentFor (IsGuarded l.namespace prefix) m) (clock_work now c) r
call_sends prefix l own' answers' c now number own member ticket q r is ok fits names prefixed rows placed none = record {
  ask = λ a f s.
      let e = same_call own member ticket _ _ _ q _ (sym is ∙ s) in
      let asked = found (λ x. asked_as l.proxy x.ticket l.told ≡ Some x.request) a.ticket d.asks a f known in
      goes (IsPassedOn l.namespace) a.ticket a.request e.0 e.1 asked.0 (a.word, e.2 ∙ ap (λ (ns : List ℕ). request_under ns (numbered a.word a.request)) named);
  acquire = λ k x f due s.
      let e = same_call own member ticket _ _ _ q _ (sym is ∙ s) in
      let one = by_due k x.ticket x.sending due (subst (λ (o : Option Acquire). is_awaited d.asks k o ≡ true) f (whole.mid.agrees.awaited k)) in
      let here = and_first (has_ticket x.ticket one.ask) (acquires_at k one.ask) one.passes in
      let key = same-equal (ask_key one.ask) k (and_second (is_acquiring one.ask.stage) (same (ask_key one.ask) k) (and_second (has_ticket x.ticket one.ask) (acquires_at k one.ask) one.passes)) in
      goes (IsAcquire l.namespace prefix) x.ticket one.ask.request e.0 e.1 (ap (λ (n : ℕ). asked_as l.proxy n l.told) (sym (same_number one.ask.ticket x.ticket here)) ∙ one.so)
      (x.session, e.2 ∙ (λ i. request_under (named i) (request.Txn (acquire (keyed i) (sym key i) x.session))));
  write = λ n w f s.
      let e = same_call own member ticket _ _ _ q _ (sym is ∙ s) in
      let some : has_number (writing_tickets d.asks) w.ticket ≡ true = ap (λ (ns : List ℕ). has_number ns w.ticket) (sym whole.mid.agrees.asks.writes) ∙ found_ticket (writes.has_ticket n) w d.own.waits.writes f in
      let one = ticket_of (Since c) w.ticket d.asks since some in
      let here = same_number one.ask.ticket w.ticket one.passes in
      let before = found (λ x. Unit {0}) one.ask.ticket c.asks one.so.before one.so.there (every c.asks) in
      let same : w.request ≡ one.ask.request = one_request c now one.so.before one.ask.ticket (writes.has_ticket n) w fits one.so.there f (sym here ∙ sym (same_number one.so.before.ticket one.ask.ticket before.1)) ∙ one.so.request in
      goes (IsGuarded l.namespace prefix) w.ticket one.ask.request e.0 e.1 (ap (λ (n : ℕ). asked_as l.proxy n l.told) (sym here) ∙ known_since l c one.ask rows one.so)
      (compared w d.own.entries, e.2 ∙ (λ i. request_under (named i) (request.Txn (guarded (keyed i) (same i) (compared w d.own.entries)))));
}
  where
    d : Core
    d = clock_work now c

    named : (clock_work now c).settings.namespace ≡ l.namespace
    named = ap (λ (s : Settings). s.namespace) (clock_leaves now c).settings ∙ names

    keyed : (clock_work now c).own.waits.prefix ≡ prefix
    keyed = clock_prefix now c ∙ prefixed

    whole : Whole 0 (clock_work now c)
    whole = clock_whole 0 now c (of_ok c ok).mid

    since : All (Since c) (clock_work now c).asks
    since = clock_since c now ok.agrees.asks.once

    known : All (λ x. asked_as l.proxy x.ticket l.told ≡ Some x.request) (clock_work now c).asks
    known = Rattle.keep_laws.proofs.Rows.all_kept (Since c) (λ x. asked_as l.proxy x.ticket l.told ≡ Some x.request) (λ x s. known_since l c x rows s) (clock_work now c).asks since

    every : (xs : List Asked) → All (λ x. Unit {0}) xs
    every [] = tt
    every (x ∷ xs) = (tt, every xs)

    by_due : (k : List ℕ) (t : ℕ) (s : Sending) → is_due s ≡ true → awaits t k (clock_work now c).asks s ≡ true → Passing (λ x. asked_as l.proxy x.ticket l.told ≡ Some x.request) (λ a. has_ticket t a && acquires_at k a)
    by_due k t (sending.Due since') u h = one_passing (λ x. asked_as l.proxy x.ticket l.told ≡ Some x.request) (λ a. has_ticket t a && acquires_at k a) (clock_work now c).asks known h
    by_due k t (sending.Out call) u h = absurd (cc)

    goes : (R : Request → Request → Type 0) (t : ℕ) (asked : Request) → own ≡ next_call (clock_work now c) → ticket ≡ t → asked_as l.proxy t l.told ≡ Some asked → R asked q
        → SentFor R (later l own' answers' (item.Sent l.proxy number member ticket q ∷ [])) t (next_call (clock_work now c))
    goes R t asked e f there is =
        subst (λ (n : ℕ). SentFor R (later l own' answers' (item.Sent l.proxy number member ticket q ∷ [])) t n) e
        (subst (λ (n : ℕ). SentFor R (later l own' answers' (item.Sent l.proxy number member n q ∷ [])) t own) (sym f)
        (new_sent R l own' answers' t own number member asked q there is placed none))
