-- What is told of each request behind a step of its proxy: where it waits, that no step came too late for it; where it is refused since it waited
-- too long, that this step is the first that came so late.
use Rattle.std.proofs.Common.{◌≡◌, ◌⊎◌, inl, inr, ℕ, ◌+◌, ◌-◌, ◌≤◌, ◌==◌, nat_le, Bool, true, false, not, cond, ◌&&◌, List, [], ◌∷◌, ◌++◌, append_assoc, None, Some, Ok, Err, refl, sym, ◌∙◌, ap, subst, arith}
use Rattle.std.proofs.lemmas.Bool.Decides.{nat_tests}
use Rattle.etcd_types.proofs.Bools.{and_second}
use Rattle.etcd_types.specs.declared.answer.Answer.{Answer}
use Rattle.etcd_types.specs.declared.answer.Answer.TheVariants.{Done, Refused}
use Rattle.etcd_types.specs.declared.answer.Refusal.{Refusal}
use Rattle.etcd_types.specs.declared.answer.Reply.{Reply}
use Rattle.etcd_types.specs.declared.code.TheConstants.{DEADLINE_EXCEEDED}
use Rattle.etcd_types.specs.declared.request.Request.{Request}
use Rattle.proxy_model.specs.Limits.{capped}
use Rattle.proxy_model.specs.Unwrapped.{Unwrapped, reply_without}
use Rattle.read_model.specs.declared.asked.Asked.{Asked}
use Rattle.read_model.specs.declared.asked.Stage.{Stage}
use Rattle.read_model.specs.declared.asked.Stage.TheVariants as stage
use Rattle.read_model.specs.declared.asked.Verdict.{Verdict}
use Rattle.read_model.specs.declared.asked.Verdict.TheVariants as verdict
use Rattle.read_model.specs.PlainRead.{in_stage, called}
use Rattle.core_model.specs.declared.event.CoreEvent.{CoreEvent}
use Rattle.core_model.specs.declared.event.CoreEvent.TheVariants as event
use Rattle.core_model.specs.declared.out_call.CallKind.{CallKind}
use Rattle.core_model.specs.declared.out_call.OutCall.{OutCall}
use Rattle.core_model.specs.declared.out_call.OutJob.TheVariants as job
use Rattle.core_model.specs.Asking.{asked_at}
use Rattle.core_model.specs.ClockWork.{request_time, is_replied, times_out, timed_out_ask, clock_work}
use Rattle.core_model.specs.Ends.{is_stale_reply}
use Rattle.core_model.specs.Fits.{CoreOk}
use Rattle.core_model.specs.Heard.{is_known, heard, heard_reply}
use Rattle.core_model.specs.Lookups.{ask_at}
use Rattle.core_model.specs.State.{Core}
use Rattle.core_model.specs.Step.{is_worn, stepped}
use Rattle.core_model.specs.Verdicts.{timed_out, reply_of}
use Rattle.core_laws.proofs.Steps.Lists.{same_number}
use Rattle.script_text.specs.declared.item.Item.{Item}
use Rattle.world_model.specs.Lives.{clock_of}
use Rattle.keep_laws.proofs.Rows.{All}
use Rattle.cause_laws.specs.Causes.{is_loss, is_stale_for, Often}
use Rattle.cause_laws.specs.Timeouts.{TimesOut, InTime}
use Rattle.cause_laws.proofs.Walks.{is_plain, ReadOf, Calls, Moves, call_open, clock_walk}
use Rattle.cause_laws.proofs.Steps.{IsLost, lost, unheard, unread, Keeps, step_walk}
use Rattle.cause_laws.proofs.After.{Alike, Behind, LostMore, StaleMore, EndsNow, After, kept, goes, asked, tells, fails, loses, stales, same_late, late_open, no_reply}
use Rattle.cause_laws.proofs.Items.{AskTold, in_time_of, told_quiet, told_step, told_loss, told_stale, told_often, told_late, replies_quiet}
use Rattle.cause_laws.proofs.Turns.{OwnStep}

-- of a reply
abbrev pub Due : List Item → ℕ → ℕ → Answer → Type 0
Due items p ticket a = (r : Refusal) → a ≡ Refused r → r.code ≡ DEADLINE_EXCEEDED → (r ≡ timed_out) × TimesOut items p ticket

-- it is refused since its time is over
abbrev pub is_over : Stage → Bool
is_over (stage.Replied verdict.TimedOut) = true
is_over _ = false

-- of a reply, where it says something else
abbrev pub Timely : List Item → ℕ → ℕ → Answer → Type 0
Timely items p ticket a = (a ≡ Refused timed_out → ⊥) → InTime items p ticket

-- of a request of the proxy, at this reading
pub record Told (items : List Item) (p now : ℕ) (y : Asked) : Type 0 where
  pub waits : is_replied y.stage ≡ false → AskTold items p y.ticket y.request y.asked y.losses y.stales
  pub in_time : is_replied y.stage ≡ false → times_out now y ≡ false
  pub due : (v : Verdict) → y.stage ≡ stage.Replied v → Due items p y.ticket (reply_of v)
  pub timely : is_over y.stage ≡ false → InTime items p y.ticket

-- ---- replies of other kinds

no_refusal : {A : Type 0} (reply : Reply) (r : Refusal) → Done reply ≡ Refused r → A
no_refusal reply r e = absurd (cc)

said_due : (items : List Item) (p ticket : ℕ) (reply : Reply) → Due items p ticket (Done reply)
said_due items p ticket reply r e c = no_refusal reply r e

other_code : {A : Type 0} (n : ℕ) → (n == DEADLINE_EXCEEDED) ≡ false → n ≡ DEADLINE_EXCEEDED → A
other_code n h e = absurd (let f : true ≡ false = ap (λ (m : ℕ). m == DEADLINE_EXCEEDED) (sym e) ∙ h in cc)

pub same_refusal : (q r : Refusal) → Refused q ≡ Refused r → q ≡ r
same_refusal q r e = cc

-- of another code
pub other_due : (items : List Item) (p ticket : ℕ) (q : Refusal) → (q.code == DEADLINE_EXCEEDED) ≡ false → Due items p ticket (Refused q)
other_due items p ticket q h r e c = other_code q.code h (ap (λ (x : Refusal). x.code) (same_refusal q r e) ∙ c)

known_other : (n : ℕ) → is_known n ≡ true → (n == DEADLINE_EXCEEDED) ≡ false
known_other n h = by (n == DEADLINE_EXCEEDED) refl
  where
    by : (b : Bool) → (n == DEADLINE_EXCEEDED) ≡ b → b ≡ false
    by false e = refl
    by true e = absurd (let f : false ≡ true = ap is_known (sym (same_number n DEADLINE_EXCEEDED e)) ∙ h in cc)

pub heard_known : (namespace : List ℕ) (a : Answer) (r : Refusal) → heard namespace a ≡ Some (Refused r) → is_known r.code ≡ true
heard_known namespace (Refused q) r e = by (is_known q.code) refl e
  where
    by : (b : Bool) → is_known q.code ≡ b → cond b (Some (Refused q)) None ≡ Some (Refused r) → is_known r.code ≡ true
    by true h f = let same : q ≡ r = cc in ap (λ (x : Refusal). is_known x.code) (sym same) ∙ h
    by false h f = absurd (cc)
heard_known namespace (Done reply) r e = by (reply_without namespace reply) e
  where
    by : (u : Unwrapped Reply) → heard_reply u ≡ Some (Refused r) → is_known r.code ≡ true
    by (Ok x) f = absurd (cc)
    by (Err x) f = absurd (cc)

replied_is : (s : Stage) → is_replied s ≡ true → (v : Verdict) × (s ≡ stage.Replied v)
replied_is (stage.Replied v) h = (v, refl)
replied_is (stage.Calling s) h = absurd (cc)
replied_is stage.Acquiring h = absurd (cc)
replied_is stage.Joined h = absurd (cc)
replied_is stage.Behind h = absurd (cc)
replied_is stage.Writes h = absurd (cc)
replied_is (stage.Grouped s) h = absurd (cc)

-- what a reply that is told says of its verdict
pub timely_of : (items : List Item) (p now : ℕ) (y : Asked) → Told items p now y → (v : Verdict) → y.stage ≡ stage.Replied v → Timely items p y.ticket (reply_of v)
timely_of items p now y t (verdict.Said a) f n = t.timely (ap is_over f)
timely_of items p now y t verdict.Lost f n = t.timely (ap is_over f)
timely_of items p now y t verdict.Stale f n = t.timely (ap is_over f)
timely_of items p now y t verdict.TimedOut f n = absurd (n refl)

pub same_verdict : (v u : Verdict) → stage.Replied v ≡ stage.Replied u → v ≡ u
same_verdict v u e = cc

verdict_due : (items : List Item) (p ticket : ℕ) (s : Stage) (v u : Verdict) → s ≡ stage.Replied v → s ≡ stage.Replied u → Due items p ticket (reply_of v) → Due items p ticket (reply_of u)
verdict_due items p ticket s v u e f d = subst (λ (z : Verdict). Due items p ticket (reply_of z)) (same_verdict v u (sym e ∙ f)) d

-- one that isn't replied, or is replied ok
plain_due : (items : List Item) (p ticket : ℕ) (v : Verdict) → is_plain (stage.Replied v) ≡ true → Due items p ticket (reply_of v)
plain_due items p ticket (verdict.Said (Done reply)) h = said_due items p ticket reply
plain_due items p ticket (verdict.Said (Refused r)) h = absurd (let f : false ≡ true = h in cc)
plain_due items p ticket verdict.TimedOut h = absurd (let f : false ≡ true = h in cc)
plain_due items p ticket verdict.Lost h = absurd (let f : false ≡ true = h in cc)
plain_due items p ticket verdict.Stale h = absurd (let f : false ≡ true = h in cc)

pub plain_stage : (s : Stage) (v : Verdict) → is_plain s ≡ true → s ≡ stage.Replied v → is_plain (stage.Replied v) ≡ true
plain_stage s v h e = sym (ap is_plain e) ∙ h

-- ---- the step

reaches : (limit n m : ℕ) → nat_le limit n ≡ true → n ≤ m → limit ≤ m
reaches limit n m t l = grind (arith, nat_tests, t, l)

late_by : (now : ℕ) (x : Asked) → times_out now x ≡ true → nat_le request_time (now - x.asked) ≡ true
late_by now x h = and_second (not (is_replied x.stage)) (nat_le request_time (now - x.asked)) h

early_by : (now : ℕ) (x : Asked) → is_replied x.stage ≡ false → times_out now x ≡ false → nat_le request_time (now - x.asked) ≡ false
early_by now x o h = sym (ap (λ (b : Bool). not b && nat_le request_time (now - x.asked)) o) ∙ h

fresh_early : (now : ℕ) → nat_le request_time (now - now) ≡ false
fresh_early now = grind (arith, nat_tests)

-- what is told of a request before the step
abbrev pub Waits : List Item → ℕ → Core → Type 0
Waits items p c = (ticket : ℕ) (a : Asked) → ask_at ticket c.asks ≡ Some a → is_replied a.stage ≡ false → AskTold items p a.ticket a.request a.asked a.losses a.stales

-- the same of another that has the same
like : (items : List Item) (p t u : ℕ) (q r : Request) (a b l m s n : ℕ) → u ≡ t → r ≡ q → b ≡ a → m ≡ l → n ≡ s → AskTold items p t q a l s → AskTold items p u r b m n
like items p t u q r a b l m s n e f g h i k =
    subst (λ (z : ℕ). AskTold items p z r b m n) (sym e)
    (subst (λ (z : Request). AskTold items p t z b m n) (sym f) (subst (λ (z : ℕ). AskTold items p t q z m n) (sym g) (subst (λ (z : ℕ). AskTold items p t q a z n) (sym h) (subst (λ (z : ℕ). AskTold items p t q a l z) (sym i) k))))

-- a call that is lost, or answered with a reply, is told so with the step
pub record Counted (items own : List Item) (numbers : List ℕ) (p now : ℕ) (c : Core) (e : CoreEvent) (s : OwnStep items own numbers p e) : Type 0 where
  pub loss : (o : OutCall) (x : Asked) → EndsNow c now o x → IsLost (clock_work now c) e now o → ReadOf o x → is_loss p x.ticket (items ++ s.pre) s.step ≡ true
  pub reply : (o : OutCall) (x : Asked) (k : CallKind) (a : Answer) (reply : Reply) → EndsNow c now o x → e ≡ event.Answer o.call a → heard (clock_work now c).settings.namespace a ≡ Some (Done reply) → o.job ≡ job.Ask k → is_stale_reply k o reply ≡ true
      → is_stale_for p x.ticket (items ++ s.pre) s.step ≡ true

module _ (items own : List Item) (numbers : List ℕ) (p now : ℕ) (c : Core) (e : CoreEvent) (s : OwnStep items own numbers p e) (clock : clock_of p items ≡ now) (none : (ticket : ℕ) (a : Asked) → ask_at ticket c.asks ≡ Some a → is_replied a.stage ≡ false) (waits : Waits items p c) (counted : Counted items own numbers p now c e s) where
  -- up to the step, and to its end
  abbrev so_far : List Item
  so_far = items ++ s.pre

  whole : items ++ own ≡ (so_far ++ s.step ∷ []) ++ s.post
  whole = ap (λ (xs : List Item). items ++ xs) s.split ∙ sym (append_assoc items s.pre (s.step ∷ s.post)) ∙ sym (append_assoc (items ++ s.pre) (s.step ∷ []) s.post)

  whole_late : items ++ own ≡ so_far ++ s.step ∷ s.post
  whole_late = ap (λ (xs : List Item). items ++ xs) s.split ∙ sym (append_assoc items s.pre (s.step ∷ s.post))

  reads : clock_of p so_far ≡ now
  reads = s.clock ∙ clock

  -- of one that waited before, up to the step
  was_told : (x : Asked) (h : Behind c now x) → is_replied x.stage ≡ false → AskTold so_far p h.before.ticket h.before.request h.before.asked h.before.losses h.before.stales
  was_told x h o = let b = h.before in told_quiet items s.pre p b.ticket b.request b.asked b.losses b.stales (s.quiet p) (waits x.ticket b h.there (h.stands o).0)

  is_early : (x : Asked) (h : Behind c now x) → is_replied x.stage ≡ false → nat_le request_time (now - h.before.asked) ≡ false
  is_early x h o = early_by now h.before (h.stands o).0 (h.stands o).1

  -- and to its end
  ended : (ticket : ℕ) (q : Request) (at l m : ℕ) → AskTold (so_far ++ s.step ∷ []) p ticket q at l m → AskTold (items ++ own) p ticket q at l m
  ended ticket q at l m k =
      subst (λ (xs : List Item). AskTold xs p ticket q at l m) (sym whole)
      (told_quiet (so_far ++ s.step ∷ []) s.post p ticket q at l m (replies_quiet p (so_far ++ s.step ∷ []) s.post s.json) k)

  in_time : (x y : Asked) → Behind c now x → is_replied x.stage ≡ false → Alike x y → AskTold (items ++ own) p y.ticket y.request y.asked y.losses y.stales
  in_time x y h o l =
      let b = h.before in
      like (items ++ own) p b.ticket y.ticket b.request y.request b.asked y.asked b.losses y.losses b.stales y.stales
      (l.ticket ∙ h.alike.ticket) (l.request ∙ h.alike.request) (l.asked ∙ h.alike.asked) (l.losses ∙ h.alike.losses) (l.stales ∙ h.alike.stales)
      (ended b.ticket b.request b.asked b.losses b.stales (told_step so_far s.step p b.ticket b.request b.asked b.losses b.stales now (s.begins p) reads (is_early x h o) (was_told x h o)))

  -- of one that has lost a call more, and of one that has a stale reply more
  in_loss : (o : OutCall) (x y : Asked) (k : EndsNow c now o x) → IsLost (clock_work now c) e now o → ReadOf o x → LostMore x y → AskTold (so_far ++ s.step ∷ []) p y.ticket y.request y.asked y.losses y.stales
  in_loss o x y k i r l =
      let h = k.behind in
      let b = h.before in
      let n = call_open (clock_work now c).own.waits.writes o x k.of in
      let one : is_loss p b.ticket so_far s.step ≡ true = ap (λ (t : ℕ). is_loss p t so_far s.step) (sym h.alike.ticket) ∙ counted.loss o x k i r in
      like (so_far ++ s.step ∷ []) p b.ticket y.ticket b.request y.request b.asked y.asked (capped (b.losses + 1)) y.losses b.stales y.stales
      (l.ticket ∙ h.alike.ticket) (l.request ∙ h.alike.request) (l.asked ∙ h.alike.asked) (l.losses ∙ ap (λ (m : ℕ). capped (m + 1)) h.alike.losses) (l.stales ∙ h.alike.stales)
      (told_loss so_far s.step p b.ticket b.request b.asked b.losses b.stales now (s.begins p) reads (is_early x h n) one (was_told x h n))

  in_stale : (o : OutCall) (x y : Asked) (kind : CallKind) (a : Answer) (reply : Reply) (k : EndsNow c now o x) → e ≡ event.Answer o.call a → heard (clock_work now c).settings.namespace a ≡ Some (Done reply) → o.job ≡ job.Ask kind → is_stale_reply kind o reply ≡ true → StaleMore x y
      → AskTold (so_far ++ s.step ∷ []) p y.ticket y.request y.asked y.losses y.stales
  in_stale o x y kind a reply k f g j b' l =
      let h = k.behind in
      let b = h.before in
      let n = call_open (clock_work now c).own.waits.writes o x k.of in
      let one : is_stale_for p b.ticket so_far s.step ≡ true = ap (λ (t : ℕ). is_stale_for p t so_far s.step) (sym h.alike.ticket) ∙ counted.reply o x kind a reply k f g j b' in
      like (so_far ++ s.step ∷ []) p b.ticket y.ticket b.request y.request b.asked y.asked b.losses y.losses (capped (b.stales + 1)) y.stales
      (l.ticket ∙ h.alike.ticket) (l.request ∙ h.alike.request) (l.asked ∙ h.alike.asked) (l.losses ∙ h.alike.losses) (l.stales ∙ ap (λ (m : ℕ). capped (m + 1)) h.alike.stales)
      (told_stale so_far s.step p b.ticket b.request b.asked b.losses b.stales now (s.begins p) reads (is_early x h n) one (was_told x h n))

  -- where that was the last
  pub often_lost : (o : OutCall) (x y : Asked) → EndsNow c now o x → IsLost (clock_work now c) e now o → ReadOf o x → LostMore x y → (limit : ℕ) → nat_le limit y.losses ≡ true → Often is_loss (items ++ own) p y.ticket y.request limit
  often_lost o x y k i r l limit t =
      let its = in_loss o x y k i r l in
      subst (λ (xs : List Item). Often is_loss xs p y.ticket y.request limit) (sym whole)
      (told_often is_loss (so_far ++ s.step ∷ []) s.post p y.ticket y.request y.asked y.losses y.stales limit its (reaches limit y.losses _ t its.lost) s.json)

  pub often_stale : (o : OutCall) (x y : Asked) (kind : CallKind) (a : Answer) (reply : Reply) → EndsNow c now o x → e ≡ event.Answer o.call a → heard (clock_work now c).settings.namespace a ≡ Some (Done reply) → o.job ≡ job.Ask kind → is_stale_reply kind o reply ≡ true → StaleMore x y → (limit : ℕ) → nat_le limit y.stales ≡ true
      → Often is_stale_for (items ++ own) p y.ticket y.request limit
  often_stale o x y kind a reply k f g j b l limit t =
      let its = in_stale o x y kind a reply k f g j b l in
      subst (λ (xs : List Item). Often is_stale_for xs p y.ticket y.request limit) (sym whole)
      (told_often is_stale_for (so_far ++ s.step ∷ []) s.post p y.ticket y.request y.asked y.losses y.stales limit its (reaches limit y.stales _ t its.stale) s.json)

  still_early : (x y : Asked) → Behind c now x → is_replied x.stage ≡ false → is_replied y.stage ≡ false → y.asked ≡ x.asked → times_out now y ≡ false
  still_early x y h o n a = sym (same_late now h.before y (h.stands o).0 n (a ∙ h.alike.asked)) ∙ (h.stands o).1

  -- of one that the step asks
  new_told : (ticket word : ℕ) (q : Request) → e ≡ event.Ask ticket q word → AskTold (items ++ own) p ticket q now 0 0
  new_told ticket word q f =
      let is = s.asks ticket word q f in
      ended ticket q now 0 0
      (record { before = so_far; since = []; story = ap (λ (i : Item). so_far ++ i ∷ []) is; stays = refl; reading = reads; in_time = refl; lost = omega (arith); stale = omega (arith) })

  new_like : (y : Asked) (ticket word : ℕ) (q : Request) → Alike (asked_at now ticket q word) y → AskTold (items ++ own) p ticket q now 0 0 → AskTold (items ++ own) p y.ticket y.request y.asked y.losses y.stales
  new_like y ticket word q l k = like (items ++ own) p ticket y.ticket q y.request now y.asked 0 y.losses 0 y.stales l.ticket l.request l.asked l.losses l.stales k

  new_early : (y : Asked) (ticket word : ℕ) (q : Request) → Alike (asked_at now ticket q word) y → times_out now y ≡ false
  new_early y ticket word q l = ap (λ (n : ℕ). not (is_replied y.stage) && nat_le request_time (now - n)) l.asked ∙ ap (λ (b : Bool). not (is_replied y.stage) && b) (fresh_early now) ∙ by (not (is_replied y.stage))
    where
      by : (b : Bool) → b && false ≡ false
      by true = refl
      by false = refl

  -- of one that comes too late
  timed_due : (y : Asked) → Behind c now y → (v : Verdict) → y.stage ≡ stage.Replied v → Due (items ++ own) p y.ticket (reply_of v)
  timed_due y h v f = by (h.replied v f)
    where
      by : (h.before.stage ≡ stage.Replied v) ⊎ ((v ≡ verdict.TimedOut) × (times_out now h.before ≡ true)) → Due (items ++ own) p y.ticket (reply_of v)
      by (inl g) = absurd (let k : true ≡ false = sym (ap is_replied g) ∙ none y.ticket h.before h.there in cc)
      by (inr g) = λ r a c.
          let b = h.before in
          let was = told_quiet items s.pre p b.ticket b.request b.asked b.losses b.stales (s.quiet p) (waits y.ticket b h.there (late_open now b g.1)) in (
            same_refusal r timed_out (sym a ∙ ap reply_of g.0),
            subst (TimesOut (items ++ own) p) (sym h.alike.ticket) (subst (λ (xs : List Item). TimesOut xs p b.ticket) (sym whole_late) (told_late so_far s.step s.post p b.ticket b.request b.asked b.losses b.stales now s.steps reads (late_by now b g.1) s.json was)),
          )

  abbrev timely_by : (y : Asked) → AskTold (items ++ own) p y.ticket y.request y.asked y.losses y.stales → InTime (items ++ own) p y.ticket
  timely_by y k = in_time_of (items ++ own) p y.ticket y.request y.asked y.losses y.stales k

  -- of one that stood so before
  kept_timely : (y : Asked) → Behind c now y → is_over y.stage ≡ false → InTime (items ++ own) p y.ticket
  kept_timely y h u = by (is_replied y.stage) refl
    where
      of_verdict : (v : Verdict) → y.stage ≡ stage.Replied v → (h.before.stage ≡ stage.Replied v) ⊎ ((v ≡ verdict.TimedOut) × (times_out now h.before ≡ true)) → InTime (items ++ own) p y.ticket
      of_verdict v f (inl g) = absurd (let k : true ≡ false = sym (ap is_replied g) ∙ none y.ticket h.before h.there in cc)
      of_verdict v f (inr g) = absurd (let k : true ≡ false = sym (ap (λ (z : Verdict). is_over (stage.Replied z)) g.0) ∙ sym (ap is_over f) ∙ u in cc)

      by : (b : Bool) → is_replied y.stage ≡ b → InTime (items ++ own) p y.ticket
      by false o = timely_by y (in_time y y h o (record { ticket = refl; request = refl; asked = refl; losses = refl; stales = refl }))
      by true o = let v = replied_is y.stage o in of_verdict v.0 v.1 (h.replied v.0 v.1)

  goes_told : (y : Asked) → InTime (items ++ own) p y.ticket → ((o : is_replied y.stage ≡ false) → AskTold (items ++ own) p y.ticket y.request y.asked y.losses y.stales) → ((o : is_replied y.stage ≡ false) → times_out now y ≡ false) → is_plain y.stage ≡ true → Told (items ++ own) p now y
  goes_told y i w t plain = record { waits = w; in_time = t; due = λ v f. plain_due (items ++ own) p y.ticket v (plain_stage y.stage v plain f); timely = λ u. i }

  gone_told : (y : Asked) (v : Verdict) → InTime (items ++ own) p y.ticket → y.stage ≡ stage.Replied v → Due (items ++ own) p y.ticket (reply_of v) → Told (items ++ own) p now y
  gone_told y v i f d = record { waits = λ o. no_reply y v o f; in_time = λ o. no_reply y v o f; due = λ u g. verdict_due (items ++ own) p y.ticket y.stage v u f g d; timely = λ u. i }

  ends_open : (o : OutCall) (x : Asked) → EndsNow c now o x → is_replied x.stage ≡ false
  ends_open o x k = call_open (clock_work now c).own.waits.writes o x k.of

  pub told_after : (y : Asked) → After c e now y → Told (items ++ own) p now y
  told_after y (kept h) = record { waits = λ o. in_time y y h o (record { ticket = refl; request = refl; asked = refl; losses = refl; stales = refl }); in_time = λ o. still_early y y h o o refl; due = timed_due y h; timely = kept_timely y h }
  told_after y (goes x h n l plain) = goes_told y (timely_by y (in_time x y h n l)) (λ o. in_time x y h n l) (λ o. still_early x y h n o l.asked) plain
  told_after y (asked ticket word q f l (inl plain)) =
      let k = new_like y ticket word q l (new_told ticket word q f) in
      goes_told y (timely_by y k) (λ o. k) (λ o. new_early y ticket word q l) plain
  told_after y (asked ticket word q f l (inr t)) =
      let k = new_like y ticket word q l (new_told ticket word q f) in
      record { waits = λ o. k; in_time = λ o. new_early y ticket word q l; due = λ v g. no_reply y v t.0 g; timely = λ u. timely_by y k }
  told_after y (tells o x a r k f g l t) =
      gone_told y (verdict.Said (Refused r)) (timely_by y (in_time x y k.behind (ends_open o x k) l)) t (other_due (items ++ own) p y.ticket r (known_other r.code (heard_known (clock_work now c).settings.namespace a r g)))
  told_after y (fails o x k i r l t) = gone_told y verdict.Lost (timely_by y (in_time x y k.behind (ends_open o x k) l)) t (other_due (items ++ own) p y.ticket _ refl)
  told_after y (loses o x k i r l (inl t)) =
      let m = ended y.ticket y.request y.asked y.losses y.stales (in_loss o x y k i r l) in
      goes_told y (timely_by y m) (λ n. m) (λ n. still_early x y k.behind (ends_open o x k) n l.asked) t.0
  told_after y (loses o x k i r l (inr t)) = gone_told y verdict.Lost (timely_by y (ended y.ticket y.request y.asked y.losses y.stales (in_loss o x y k i r l))) t.0 (other_due (items ++ own) p y.ticket _ refl)
  told_after y (stales o x kind a reply k f g j b l (inl t)) =
      let m = ended y.ticket y.request y.asked y.losses y.stales (in_stale o x y kind a reply k f g j b l) in
      goes_told y (timely_by y m) (λ n. m) (λ n. still_early x y k.behind (ends_open o x k) n l.asked) t.0
  told_after y (stales o x kind a reply k f g j b l (inr t)) =
      gone_told y verdict.Stale (timely_by y (ended y.ticket y.request y.asked y.losses y.stales (in_stale o x y kind a reply k f g j b l))) t.0 (other_due (items ++ own) p y.ticket _ refl)

-- ---- fetches keep it

pub told_calls : (items : List Item) (p now : ℕ) → Calls (Told items p now)
told_calls items p now x step o h = record { waits = λ n. h.waits o; in_time = λ n. sym (same_late now x (in_stage (called step) x) o refl refl) ∙ h.in_time o; due = λ v e. absurd (cc); timely = λ u. in_time_of items p x.ticket x.request x.asked x.losses x.stales (h.waits o) }

pub told_timed : (items : List Item) (p now : ℕ) (x : Asked) → Told items p now x → Told items p now (timed_out_ask now x)
told_timed items p now x h = by (times_out now x) refl
  where
    by : (b : Bool) → times_out now x ≡ b → Told items p now (cond b (in_stage (stage.Replied verdict.TimedOut) x) x)
    by true e = absurd (let f : true ≡ false = sym e ∙ h.in_time (late_open now x e) in cc)
    by false e = h

pub told_moves : (items : List Item) (p now : ℕ) → Moves (Told items p now)
told_moves items p now x s o plain h = record {
  waits = λ n. h.waits o;
  in_time = λ n. sym (same_late now x (in_stage s x) o n refl) ∙ h.in_time o;
  due = λ v e. plain_due items p x.ticket v (plain_stage s v plain e);
  timely = λ u. in_time_of items p x.ticket x.request x.asked x.losses x.stales (h.waits o);
}

take_keeps : (items : List Item) (p now ticket : ℕ) (d : Core) → Keeps (Told items p now) (Told items p now) d (event.Take ticket) now
take_keeps items p now ticket d = record {
  turn = λ x h. h;
  moves = told_moves items p now;
  fresh = λ t word q e. absurd (cc);
  tells = λ o a b f e g. absurd (cc);
  loses = λ o f i. no_loss o i;
}
  where
    no_loss : {A : Type 0} (o : OutCall) → IsLost d (event.Take ticket) now o → A
    no_loss o (lost e) = absurd (cc)
    no_loss o (unheard a e g) = absurd (cc)
    no_loss o (unread a b e g u) = absurd (cc)

pub take_told : (items : List Item) (p now ticket : ℕ) (c : Core) → CoreOk c → is_worn c ≡ false → All (Told items p now) c.asks → All (Told items p now) (stepped c (event.Take ticket) now).core.asks
take_told items p now ticket c ok w t =
    step_walk (Told items p now) (Told items p now) (Told items p now) c (event.Take ticket) now ok w (told_calls items p now) (told_calls items p now) (told_timed items p now) (take_keeps items p now ticket (clock_work now c)) t

-- and what is fetched is due
pub clock_told : (items : List Item) (p now : ℕ) (c : Core) → All (Told items p now) c.asks → All (Told items p now) (clock_work now c).asks
clock_told items p now c t = clock_walk (Told items p now) (Told items p now) (told_calls items p now) (told_calls items p now) now c (told_timed items p now) t
