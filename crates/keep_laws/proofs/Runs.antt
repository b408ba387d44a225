-- Every step of a run keeps what is known of each keepalive: that it was asked; where a call is out for it, that the call was sent behind it;
-- and where it was replied, that it was answered so.
use Rattle.std.proofs.Common.{◌≡◌, ℕ, ◌==◌, Bool, true, false, cond, List, [], ◌∷◌, ◌++◌, append_assoc, None, Some, Result, Ok, Err, refl, sym, ◌∙◌, ap, subst}
use Rattle.etcd_types.specs.declared.answer.Answer.{Answer}
use Rattle.etcd_types.specs.declared.answer.Answer.TheVariants.{Done, Refused}
use Rattle.etcd_types.specs.declared.answer.Reply.{Reply}
use Rattle.etcd_types.specs.declared.request.Request.{Request}
use Rattle.etcd_types.specs.declared.request.Request.TheVariants as request
use Rattle.wait_model.specs.declared.sending.Sending.TheVariants as sending
use Rattle.read_model.specs.declared.asked.Asked.{Asked}
use Rattle.read_model.specs.declared.asked.Stage.{Stage}
use Rattle.read_model.specs.declared.asked.Stage.TheVariants as stage
use Rattle.read_model.specs.declared.asked.Verdict.TheVariants as verdict
use Rattle.core_model.specs.declared.event.CoreEvent.{CoreEvent}
use Rattle.core_model.specs.declared.event.CoreEvent.TheVariants as event
use Rattle.core_model.specs.declared.event.Job.TheVariants as job
use Rattle.core_model.specs.declared.event.Outcome.{Outcome}
use Rattle.core_model.specs.declared.event.Outcome.TheVariants as outcome
use Rattle.core_model.specs.declared.event.StepFault.{StepFault}
use Rattle.core_model.specs.declared.settings.Settings.{Settings}
use Rattle.core_model.specs.declared.event.StepFault.TheVariants as fault
use Rattle.core_model.specs.ClockWork.{clock_work, begun}
use Rattle.core_model.specs.Sessions.{seat_is_over, without_session}
use Rattle.core_model.specs.Fits.{is_keepalive, CoreOk}
use Rattle.core_model.specs.Groups.{keeps, is_out_stage}
use Rattle.core_model.specs.Heard.{heard}
use Rattle.core_model.specs.Lookups.{ask_at}
use Rattle.core_model.specs.Sending.{on_work}
use Rattle.core_model.specs.State.{Core, first_core}
use Rattle.core_model.specs.Step.{is_worn, stepped}
use Rattle.core_model.specs.Stepped.{Stepped, faults, counted, counted_by}
use Rattle.core_laws.specs.Steps.Kept.{Timed, after, ran, AllHeard}
use Rattle.core_laws.proofs.Steps.Comes.{by_test}
use Rattle.core_laws.proofs.Steps.Lists.{same_number, nothing_more}
use Rattle.core_laws.proofs.Steps.Start.{start_fits}
use Rattle.core_laws.proofs.Steps.Stepping.{steps_keep}
use Rattle.core_laws.proofs.Steps.Staying.{steps_stay}
use Rattle.keep_laws.specs.Laws.{IsAsked, SentLater, Renews, RunsRenew}
use Rattle.keep_laws.proofs.Rows.{All, is_grouped, is_silent, silent_grouped, stays, hushes, Lasts}
use Rattle.keep_laws.proofs.Steps.{Turns, IsFresh, Tells, Sends, Brings, stepped_all}

-- the request was asked among these steps
record Known (xs : List Timed) (ticket lease : ℕ) : Type 0 where
  before : List Timed
  asks : Timed
  after : List Timed
  steps : xs ≡ before ++ asks ∷ after
  asked : IsAsked asks ticket lease

-- what is known at each stage
abbrev KnownAt : Settings → List Timed → ℕ → ℕ → Stage → Type 0
KnownAt settings xs ticket lease (stage.Grouped (Some (sending.Out call))) = SentLater settings xs ticket lease call
KnownAt settings xs ticket lease (stage.Replied (verdict.Said (Done reply))) = Renews settings xs ticket lease reply
KnownAt settings xs ticket lease _ = Unit {0}

record RowOk (settings : Settings) (xs : List Timed) (lease : ℕ) (a : Asked) : Type 0 where
  known : Known xs a.ticket lease
  grouped : is_grouped a.stage ≡ true
  at : KnownAt settings xs a.ticket lease a.stage

-- where it is a keepalive
abbrev Row : Settings → List Timed → Asked → Type 0
Row settings xs a = (lease : ℕ) → a.request ≡ request.KeepAlive lease → RowOk settings xs lease a

silent_known : (settings : Settings) (xs : List Timed) (ticket lease : ℕ) (s : Stage) → is_silent s ≡ true → KnownAt settings xs ticket lease s
silent_known settings xs ticket lease (stage.Grouped None) h = tt
silent_known settings xs ticket lease (stage.Grouped (Some (sending.Due since))) h = tt
silent_known settings xs ticket lease (stage.Grouped (Some (sending.Out call))) h = absurd (cc)
silent_known settings xs ticket lease (stage.Replied (verdict.Said (Done reply))) h = absurd (cc)
silent_known settings xs ticket lease (stage.Replied (verdict.Said (Refused r))) h = tt
silent_known settings xs ticket lease (stage.Replied verdict.Lost) h = tt
silent_known settings xs ticket lease (stage.Replied verdict.Stale) h = tt
silent_known settings xs ticket lease (stage.Replied verdict.TimedOut) h = tt
silent_known settings xs ticket lease (stage.Calling s) h = tt
silent_known settings xs ticket lease stage.Acquiring h = tt
silent_known settings xs ticket lease stage.Joined h = tt
silent_known settings xs ticket lease stage.Behind h = tt
silent_known settings xs ticket lease stage.Writes h = tt

row_lasts : (settings : Settings) (xs : List Timed) → Lasts (Row settings xs)
row_lasts settings xs x y (stays e) h = subst (Row settings xs) (sym e) h
row_lasts settings xs x y (hushes t q s) h = λ lease is.
    let r = h lease (sym q ∙ is) in
    let silent = s r.grouped in
    record { known = subst (λ (n : ℕ). Known xs n lease) (sym t) r.known; grouped = silent_grouped y.stage silent; at = silent_known settings xs y.ticket lease y.stage silent }

-- One step more.

one_more : (xs before after : List Timed) (y x : Timed) → xs ≡ before ++ y ∷ after → xs ++ x ∷ [] ≡ before ++ y ∷ (after ++ x ∷ [])
one_more xs before after y x e = ap (λ l. l ++ x ∷ []) e ∙ append_assoc before (y ∷ after) (x ∷ [])

known_on : (xs : List Timed) (ticket lease : ℕ) (x : Timed) → Known xs ticket lease → Known (xs ++ x ∷ []) ticket lease
known_on xs ticket lease x k = record { before = k.before; asks = k.asks; after = k.after ++ x ∷ []; steps = one_more xs k.before k.after k.asks x k.steps; asked = k.asked }

sent_on : (settings : Settings) (xs : List Timed) (ticket lease call : ℕ) (x : Timed) → SentLater settings xs ticket lease call → SentLater settings (xs ++ x ∷ []) ticket lease call
sent_on settings xs ticket lease call x s = record {
  before = s.before;
  asks = s.asks;
  between = s.between;
  sends = s.sends;
  after = s.after ++ x ∷ [];
  steps = one_more xs (s.before ++ s.asks ∷ s.between) s.after s.sends x s.steps;
  asked = s.asked;
  sent = s.sent;
}

renews_on : (settings : Settings) (xs : List Timed) (ticket lease : ℕ) (reply : Reply) (x : Timed) → Renews settings xs ticket lease reply → Renews settings (xs ++ x ∷ []) ticket lease reply
renews_on settings xs ticket lease reply x r = record {
  call = r.call;
  sent = sent_on settings xs ticket lease r.call x r.sent;
  before = r.before;
  answers = r.answers;
  after = r.after ++ x ∷ [];
  steps = one_more xs r.before r.after r.answers x r.steps;
  answered = r.answered;
}

at_on : (settings : Settings) (xs : List Timed) (ticket lease : ℕ) (x : Timed) (s : Stage) → KnownAt settings xs ticket lease s → KnownAt settings (xs ++ x ∷ []) ticket lease s
at_on settings xs ticket lease x (stage.Grouped None) h = tt
at_on settings xs ticket lease x (stage.Grouped (Some (sending.Due since))) h = tt
at_on settings xs ticket lease x (stage.Grouped (Some (sending.Out call))) h = sent_on settings xs ticket lease call x h
at_on settings xs ticket lease x (stage.Replied (verdict.Said (Done reply))) h = renews_on settings xs ticket lease reply x h
at_on settings xs ticket lease x (stage.Replied (verdict.Said (Refused r))) h = tt
at_on settings xs ticket lease x (stage.Replied verdict.Lost) h = tt
at_on settings xs ticket lease x (stage.Replied verdict.Stale) h = tt
at_on settings xs ticket lease x (stage.Replied verdict.TimedOut) h = tt
at_on settings xs ticket lease x (stage.Calling s) h = tt
at_on settings xs ticket lease x stage.Acquiring h = tt
at_on settings xs ticket lease x stage.Joined h = tt
at_on settings xs ticket lease x stage.Behind h = tt
at_on settings xs ticket lease x stage.Writes h = tt

row_turns : (settings : Settings) (xs : List Timed) (x : Timed) → Turns (Row settings xs) (Row settings (xs ++ x ∷ []))
row_turns settings xs x = record {
  turns = λ a h. λ lease is. let r = h lease is in record { known = known_on xs a.ticket lease x r.known; grouped = r.grouped; at = at_on settings xs a.ticket lease x a.stage r.at };
  lasts = row_lasts settings (xs ++ x ∷ []);
}

-- What a step brings.

a_keepalive : (q : Request) (lease : ℕ) → q ≡ request.KeepAlive lease → is_keepalive q ≡ true
a_keepalive q lease e = ap is_keepalive e

fresh_ok : (settings : Settings) (xs : List Timed) (x : Timed) (ticket : ℕ) (q : Request) (word : ℕ) → x.event ≡ event.Ask ticket q word → IsFresh (Row settings (xs ++ x ∷ [])) ticket q
fresh_ok settings xs x ticket q word e y t r s = λ lease is.
    let q_is : q ≡ request.KeepAlive lease = sym r ∙ is in
    let silent = s (a_keepalive q lease q_is) in
    record {
      known = record { before = xs; asks = x; after = []; steps = refl; asked = record { word = word; event = e ∙ ap (λ (n : ℕ). event.Ask n q word) (sym t) ∙ ap (λ (i : Request). event.Ask y.ticket i word) q_is } };
      grouped = silent_grouped y.stage silent;
      at = silent_known settings (xs ++ x ∷ []) y.ticket lease y.stage silent;
    }

pub out_is : (call : ℕ) (s : Stage) → is_out_stage call s ≡ true → s ≡ stage.Grouped (Some (sending.Out call))
out_is call (stage.Grouped (Some (sending.Out n))) h = ap (λ (m : ℕ). stage.Grouped (Some (sending.Out m))) (same_number n call h)
out_is call (stage.Grouped (Some (sending.Due since))) h = absurd (cc)
out_is call (stage.Grouped None) h = absurd (cc)
out_is call (stage.Replied v) h = absurd (cc)
out_is call (stage.Calling s) h = absurd (cc)
out_is call stage.Acquiring h = absurd (cc)
out_is call stage.Joined h = absurd (cc)
out_is call stage.Behind h = absurd (cc)
out_is call stage.Writes h = absurd (cc)

told_ok : (settings : Settings) (xs : List Timed) (x : Timed) (call : ℕ) (a : Answer) → x.event ≡ event.Answer call a → Tells (Row settings xs) (Row settings (xs ++ x ∷ [])) call (heard settings.namespace a)
told_ok settings xs x call a e row reply h k out r = λ lease is.
    let o = r lease is in
    let sent : SentLater settings xs row.ticket lease call = subst (KnownAt settings xs row.ticket lease) (out_is call row.stage out) o.at in
    record {
      known = known_on xs row.ticket lease x o.known;
      grouped = refl;
      at = record {
        call = call;
        sent = sent_on settings xs row.ticket lease call x sent;
        before = xs;
        answers = x;
        after = [];
        steps = refl;
        answered = record { answer = a; event = e; heard = h };
      };
    }

pub lease_is : (lease n : ℕ) (q : Request) → keeps lease q ≡ true → q ≡ request.KeepAlive n → n ≡ lease
lease_is lease n q k e = same_number n lease (sym (ap (keeps lease) e) ∙ k)

sent_ok : (settings : Settings) (xs : List Timed) (x : Timed) (c : Core) → c ≡ ran (first_core settings) xs → x.event ≡ event.Work → (s : Stepped) → ((o : Outcome) → s.outcome ≡ Ok o → (stepped c event.Work x.now).outcome ≡ Ok o)
    → Sends (Row settings xs) (Row settings (xs ++ x ∷ [])) s
sent_ok settings xs x c is e s same row own member ticket lease out k r = λ n q.
    let o = r n q in
    let l : n ≡ lease = lease_is lease n row.request k q in
    let job : (stepped (ran (first_core settings) xs) x.event x.now).outcome ≡ Ok (outcome.Job (Some (job.Call own member ticket (request.KeepAlive n)))) =
    ap (λ (d : Core). (stepped d x.event x.now).outcome) (sym is) ∙ ap (λ (i : CoreEvent). (stepped c i x.now).outcome) e ∙ same _ out ∙ ap (λ (m : ℕ). Ok (outcome.Job (Some (job.Call own member ticket (request.KeepAlive m))))) (sym l) in
    record {
      known = known_on xs row.ticket n x o.known;
      grouped = refl;
      at = record {
        before = o.known.before;
        asks = o.known.asks;
        between = o.known.after;
        sends = x;
        after = [];
        steps = ap (λ (i : List Timed). i ++ x ∷ []) o.known.steps;
        asked = o.known.asked;
        sent = record { member = member; named = ticket; event = e; job = ap (λ (i : List Timed). (stepped (ran (first_core settings) i) x.event x.now).outcome) (sym o.known.steps) ∙ job };
      };
    }

counted_outcome : (s : Stepped) → (counted s).outcome ≡ s.outcome
counted_outcome s = by_outcome s.outcome refl
  where
    by_outcome : (o : Result Outcome StepFault) → s.outcome ≡ o → (counted_by s.core o).outcome ≡ s.outcome
    by_outcome (Ok o) e = sym e
    by_outcome (Err f) e = sym e

work_outcome : (c : Core) (now : ℕ) → is_worn c ≡ false → (stepped c event.Work now).outcome ≡ (on_work now (clock_work now c)).outcome
unfolding stepped
work_outcome c now w = ap (λ b. (cond b (faults c fault.Worn) (counted (on_work now (clock_work now c)))).outcome) w ∙ counted_outcome (on_work now (clock_work now c))

-- clock work leaves the settings
same_settings : (now : ℕ) (c : Core) → (clock_work now c).settings ≡ c.settings
unfolding clock_work
same_settings now c = by_test (λ (d : Core). d.settings ≡ c.settings) (seat_is_over c.seat now) (without_session now (begun c)) (begun c) (λ t. refl) (λ t. refl)

brought : (settings : Settings) (xs : List Timed) (x : Timed) (c : Core) → c ≡ ran (first_core settings) xs → c.settings ≡ settings → (e : CoreEvent) → x.event ≡ e → is_worn c ≡ false → Brings (Row settings xs) (Row settings (xs ++ x ∷ [])) e x.now (clock_work x.now c)
brought settings xs x c is s (event.Ask ticket q word) e w = fresh_ok settings xs x ticket q word e
brought settings xs x c is s (event.Answer call a) e w =
    subst (λ (i : Settings). Tells (Row settings xs) (Row settings (xs ++ x ∷ [])) call (heard i.namespace a)) (sym (same_settings x.now c ∙ s)) (told_ok settings xs x call a e)
brought settings xs x c is s event.Work e w = sent_ok settings xs x c is e (on_work x.now (clock_work x.now c)) (λ o h. work_outcome c x.now w ∙ h)
brought settings xs x c is s (event.Lost call) e w = tt
brought settings xs x c is s (event.Tick word) e w = tt
brought settings xs x c is s (event.Item number y) e w = tt
brought settings xs x c is s (event.Cut number) e w = tt
brought settings xs x c is s (event.Take ticket) e w = tt
brought settings xs x c is s (event.Leave ticket) e w = tt

-- Runs.

ran-append : (c : Core) (xs ys : List Timed) → ran c (xs ++ ys) ≡ ran (ran c xs) ys
ran-append c [] ys = refl
ran-append c (x ∷ xs) ys = ran-append (after c x) xs ys

rows_from : (settings : Settings) (done xs : List Timed) (c : Core) → c ≡ ran (first_core settings) done → c.settings ≡ settings → CoreOk c → AllHeard c xs → All (Row settings done) c.asks → All (Row settings (done ++ xs)) (ran c xs).asks
rows_from settings done [] c is s h b t = subst (λ (l : List Timed). All (Row settings l) c.asks) (sym (nothing_more done)) t
rows_from settings done (x ∷ xs) c is s h b t =
    let k = stepped_all (Row settings done) (Row settings (done ++ x ∷ [])) (row_lasts settings done) (row_turns settings done x) x.event x.now c h (brought settings done x c is s x.event refl) t in
    let rest = rows_from settings (done ++ x ∷ []) xs (after c x) (ap (λ (d : Core). after d x) is ∙ sym (ran-append (first_core settings) done (x ∷ []))) ((steps_stay c x.event x.now).settings ∙ s) (steps_keep c x.event x.now b.0 h) b.1 k in
    subst (λ (l : List Timed). All (Row settings l) (ran (after c x) xs).asks) (append_assoc done (x ∷ []) xs) rest

pub found : (P : Asked → Type 0) (ticket : ℕ) (xs : List Asked) (a : Asked) → ask_at ticket xs ≡ Some a → All P xs → (P a) × ((a.ticket == ticket) ≡ true)
found P ticket [] a e t = absurd (cc)
found P ticket (x ∷ xs) a e t = by_head (λ u. found P ticket xs a u t.1) (x.ticket == ticket) refl e
  where
    by_head : (ask_at ticket xs ≡ Some a → (P a) × ((a.ticket == ticket) ≡ true)) → (b : Bool) → (x.ticket == ticket) ≡ b → cond b (Some x) (ask_at ticket xs) ≡ Some a → (P a) × ((a.ticket == ticket) ≡ true)
    by_head more true n e = let same : x ≡ a = cc in (subst P same t.0, subst (λ (y : Asked). (y.ticket == ticket) ≡ true) same n)
    by_head more false n e = more e

pub runs_renew : RunsRenew
runs_renew settings xs b ticket lease a reply e q s =
    let rows = rows_from settings [] xs (first_core settings) refl refl (start_fits settings) b tt in
    let f = found (Row settings xs) ticket (ran (first_core settings) xs).asks a e rows in
    let o = f.0 lease q in
    subst (λ (n : ℕ). Renews settings xs n lease reply) (same_number a.ticket ticket f.1) (subst (KnownAt settings xs a.ticket lease) s o.at)
