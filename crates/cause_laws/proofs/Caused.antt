-- What each refusal comes from that stands behind a step of a proxy, by the items up to that step.
use Rattle.std.proofs.Common.{◌≡◌, ◌⊎◌, nat_le, inl, inr, ℕ, Bool, true, false, cond, List, ◌∷◌, ◌++◌, append_assoc, Option, None, Some, Ok, refl, sym, ◌∙◌, ap, subst}
use Rattle.std.specs.List.{list_all}
use Rattle.std.proofs.lemmas.List.Folds.{list_all-append}
use Rattle.etcd_types.proofs.Bools.{and_first, and_both}
use Rattle.etcd_types.specs.declared.answer.Answer.{Answer}
use Rattle.etcd_types.specs.declared.answer.Answer.TheVariants.{Done, Refused}
use Rattle.etcd_types.specs.declared.answer.Refusal.{Refusal}
use Rattle.etcd_types.specs.declared.answer.Reply.{Reply}
use Rattle.etcd_types.specs.declared.request.Request.{Request}
use Rattle.proxy_model.specs.Members.{is_stale}
use Rattle.proxy_model.specs.PassingOn.{call_lost}
use Rattle.proxy_model.specs.Keyed.{at}
use Rattle.wait_model.specs.declared.wait.WaitJob.{WaitJob}
use Rattle.wait_model.specs.declared.wait.WaitJob.TheVariants as wait
use Rattle.wait_model.specs.declared.write.Write.{Write}
use Rattle.wait_model.specs.Endings as endings
use Rattle.wait_model.specs.GuardedAnswers.{Ending, write_answered}
use Rattle.wait_model.specs.State.{Ownership}
use Rattle.wait_model.specs.Writes.{first_by, sends, asks, job_of}
use Rattle.read_model.specs.declared.asked.Asked.{Asked}
use Rattle.read_model.specs.declared.asked.Stage.{Stage}
use Rattle.read_model.specs.declared.asked.Stage.TheVariants as stage
use Rattle.read_model.specs.declared.asked.Verdict.{Verdict}
use Rattle.read_model.specs.declared.asked.Verdict.TheVariants as verdict
use Rattle.read_model.specs.declared.acquire.Acquire.{Acquire}
use Rattle.read_model.specs.Acquires.{answered_acquire}
use Rattle.read_model.specs.WriteAnswers.{answered_by as answered_by_it}
use Rattle.read_model.specs.PlainRead.{in_stage}
use Rattle.core_model.specs.declared.event.CoreEvent.{CoreEvent}
use Rattle.core_model.specs.declared.event.CoreEvent.TheVariants as event
use Rattle.core_model.specs.declared.event.Outcome.{Outcome}
use Rattle.core_model.specs.declared.event.Outcome.TheVariants as outcome
use Rattle.core_model.specs.declared.out_call.CallKind.{CallKind}
use Rattle.core_model.specs.declared.out_call.OutCall.{OutCall}
use Rattle.core_model.specs.declared.out_call.OutJob.{OutJob}
use Rattle.core_model.specs.declared.out_call.OutJob.TheVariants as job
use Rattle.core_model.specs.ClockWork.{is_replied, times_out, timed_out_ask, clock_work}
use Rattle.core_model.specs.Ends.{stales_limit, is_stale_reply, acquire_if, reads_if, answered_job}
use Rattle.core_model.specs.Fits.{CoreOk}
use Rattle.core_model.specs.Heard.{is_known, heard}
use Rattle.core_model.specs.Kinds.{kind_of, is_read, is_ordered}
use Rattle.core_model.specs.Lookups.{moment, reads_of, ask_at}
use Rattle.core_model.specs.Refusals.{refusal_of}
use Rattle.core_model.specs.State.{Core}
use Rattle.core_model.specs.Step.{is_worn, stepped}
use Rattle.core_model.specs.Verdicts.{timed_out, no_greater_revision, reply_of}
use Rattle.script_text.specs.declared.item.Item.{Item}
use Rattle.script_text.specs.declared.item.Item.TheVariants as item
use Rattle.world_model.specs.Asks.{told_at_once}
use Rattle.world_model.specs.Lives.{life, asked_as}
use Rattle.world_model.specs.Places.{nth}
use Rattle.held_laws.proofs.Items.{asked_still}
use Rattle.keep_laws.proofs.Rows.{All}
use Rattle.renewed_laws.proofs.Lives.{life_on}
use Rattle.renewed_laws.proofs.Replies.{Each}
use Rattle.cause_laws.specs.Causes.{is_loss, is_stale_for, Often, IsCallOf, Ended, AnsweredSo, is_answer, Cause, by_fields, no_request, too_late, passed_on, unheard, lost_often}
use Rattle.cause_laws.specs.Causes as causes
use Rattle.cause_laws.specs.Timeouts.{is_told}
use Rattle.cause_laws.proofs.Walks.{is_plain, ReadOf, OtherOf, Calls, Moves, clock_walk}
use Rattle.cause_laws.proofs.Steps.{IsLost, unread, Keeps, step_walk}
use Rattle.cause_laws.proofs.Steps as steps
use Rattle.cause_laws.proofs.After.{LostMore, StaleMore, EndsNow, After, kept, goes, asked, tells, fails, loses, stales, late_open, no_reply}
use Rattle.cause_laws.proofs.Items.{times_on, often_on, quiet_lives, replies_quiet}
use Rattle.cause_laws.proofs.Named.{lives_on}
use Rattle.cause_laws.proofs.AskKinds.{OfKinds}
use Rattle.cause_laws.proofs.Replies.{asked_refusal}
use Rattle.cause_laws.proofs.Turns.{EndItem, OwnStep}
use Rattle.cause_laws.proofs.Waits.{Told, told_calls, told_moves, same_refusal, same_verdict, plain_stage}

-- of a reply
abbrev pub Causing : ℕ → List ℕ → List ℕ → List Item → ℕ → ℕ → Answer → Type 0
Causing members namespace prefix items p ticket a = (r : Refusal) → a ≡ Refused r → Cause members namespace prefix items p ticket r

-- ---- more replies behind it

told_on : (told more : List Item) → list_all is_told told ≡ true → list_all is_told more ≡ true → list_all is_told (told ++ more) ≡ true
told_on told more h k = list_all-append is_told told more ∙ and_both (list_all is_told told) (list_all is_told more) h k

behind : (items more before told : List Item) (i : Item) → items ≡ before ++ i ∷ told → items ++ more ≡ before ++ i ∷ (told ++ more)
behind items more before told i e = ap (λ (xs : List Item). xs ++ more) e ∙ append_assoc before (i ∷ told) more

abbrev ended_on : (items more : List Item) (p ticket : ℕ) (ends : ℕ → Item) → list_all is_told more ≡ true → Ended items p ticket ends → Ended (items ++ more) p ticket ends
ended_on items more p ticket ends all e = record {
  asked = e.asked;
  was_asked = ap (asked_as p ticket) (life_on p items more (lives_on p more (quiet_lives p items more (replies_quiet p items more all)))) ∙ asked_still p ticket (life p items) more e.asked e.was_asked;
  call = e.call;
  before = e.before;
  told = e.told ++ more;
  story = behind items more e.before e.told (ends e.call) e.story;
  of = e.of;
  replies = told_on e.told more e.replies all;
}

abbrev answered_on : (items more : List Item) (p ticket : ℕ) (a : Answer) → list_all is_told more ≡ true → AnsweredSo items p ticket a → AnsweredSo (items ++ more) p ticket a
answered_on items more p ticket a all s = record { ended = ended_on items more p ticket (λ call. item.Answered call) all s.ended; answer = s.answer }

pub cause_on : (members : ℕ) (namespace prefix : List ℕ) (items more : List Item) (p ticket : ℕ) (r : Refusal) → list_all is_told more ≡ true → Cause members namespace prefix items p ticket r → Cause members namespace prefix (items ++ more) p ticket r
cause_on members namespace prefix items more p ticket r all (by_fields q before told e h f) = by_fields q before (told ++ more) (behind items more before told (item.Asked p ticket q) e) (told_on told more h all) f
cause_on members namespace prefix items more p ticket r all (no_request before told path body why e h f g) = no_request before (told ++ more) path body why (behind items more before told (item.Posted p ticket path body) e) (told_on told more h all) f g
cause_on members namespace prefix items more p ticket r all (too_late e t) = too_late e (times_on items more p ticket all t)
cause_on members namespace prefix items more p ticket r all (passed_on a s h) = passed_on a (answered_on items more p ticket a all s) h
cause_on members namespace prefix items more p ticket r all (causes.lost e s n) = causes.lost e (ended_on items more p ticket (λ call. item.Lost call) all s) n
cause_on members namespace prefix items more p ticket r all (unheard e a s h n) = unheard e a (answered_on items more p ticket a all s) h n
cause_on members namespace prefix items more p ticket r all (lost_often e q k o) = lost_often e q k (often_on is_loss items more p ticket q members all o)
cause_on members namespace prefix items more p ticket r all (causes.stale e a reply s h k o) = causes.stale e a reply (answered_on items more p ticket a all s) h k (often_on is_stale_for items more p ticket s.ended.asked (stales_limit members) all o)

-- ---- what is heard

pub unheard_is : (namespace : List ℕ) (a : Answer) → heard namespace a ≡ None → is_answer a ≡ false
unheard_is namespace (Done reply) e = refl
unheard_is namespace (Refused r) e = by (is_known r.code) refl e
  where
    by : (b : Bool) → is_known r.code ≡ b → cond b (Some (Refused r)) None ≡ None → b ≡ false
    by true h f = absurd (cc)
    by false h f = refl

-- a reply that is heard was a reply
pub reply_is : (namespace : List ℕ) (a : Answer) (reply : Reply) → heard namespace a ≡ Some (Done reply) → is_answer a ≡ false
reply_is namespace (Done x) reply e = refl
reply_is namespace (Refused r) reply e = by (is_known r.code) e
  where
    by : (b : Bool) → cond b (Some (Refused r)) None ≡ Some (Done reply) → b ≡ false
    by true f = absurd (cc)
    by false f = refl

no_ok : {A : Type 0} (reply : Reply) (r : Refusal) → Done reply ≡ Refused r → A
no_ok reply r e = absurd (cc)

plain_caused : (members : ℕ) (namespace prefix : List ℕ) (items : List Item) (p ticket : ℕ) (v : Verdict) → is_plain (stage.Replied v) ≡ true → Causing members namespace prefix items p ticket (reply_of v)
plain_caused members namespace prefix items p ticket (verdict.Said (Done reply)) h r e = no_ok reply r e
plain_caused members namespace prefix items p ticket (verdict.Said (Refused q)) h r e = absurd (let f : false ≡ true = h in cc)
plain_caused members namespace prefix items p ticket verdict.TimedOut h r e = absurd (let f : false ≡ true = h in cc)
plain_caused members namespace prefix items p ticket verdict.Lost h r e = absurd (let f : false ≡ true = h in cc)
plain_caused members namespace prefix items p ticket verdict.Stale h r e = absurd (let f : false ≡ true = h in cc)

verdict_caused : (members : ℕ) (namespace prefix : List ℕ) (items : List Item) (p ticket : ℕ) (s : Stage) (v u : Verdict) → s ≡ stage.Replied v → s ≡ stage.Replied u → Causing members namespace prefix items p ticket (reply_of v) → Causing members namespace prefix items p ticket (reply_of u)
verdict_caused members namespace prefix items p ticket s v u e f d = subst (λ (z : Verdict). Causing members namespace prefix items p ticket (reply_of z)) (same_verdict v u (sym e ∙ f)) d

-- ---- a refusal is an answer to every call

some_none : {A : Type 0} {B : Type 0} (x : B) → Some x ≡ None → A
some_none x e = absurd (cc)

acquire_read : (now : ℕ) (k : List ℕ) (q : Option Acquire) (r : Refusal) (d : Core) → acquire_if d (answered_acquire (moment d now) k q (Refused r) (reads_of d)) ≡ None → ⊥
acquire_read now k None r d e = some_none _ e
acquire_read now k (Some x) r d e = some_none _ e

wait_read : (call : ℕ) (r : Refusal) (session : Option ℕ) (now : ℕ) (o : Ownership) → endings.answered call (Refused r) session now o ≡ None → ⊥
unfolding endings.answered
wait_read call r session now own = by (job_of call own.waits.out)
  where
    sent : (q : Option Write) → write_answered session (sends call) q (Refused r) (endings.without_out call own) ≡ None → ⊥
    sent None e = some_none _ e
    sent (Some w) e = some_none _ e

    asked : (q : Option Write) → endings.revoke_answered (asks call) call q (Refused r) (endings.without_out call own) ≡ None → ⊥
    asked None e = some_none _ e
    asked (Some w) e = some_none _ e

    by : (q : Option WaitJob) → endings.answered_job call (Refused r) session now q (endings.without_out call own) ≡ None → ⊥
    by None e = some_none _ e
    by (Some (wait.Rescind k create)) e = some_none _ e
    by (Some (wait.Revoke k)) e = asked (first_by (asks call) own.waits.writes) e
    by (Some wait.Write) e = sent (first_by (sends call) own.waits.writes) e

pub refused_read : (now : ℕ) (o : OutCall) (r : Refusal) (d : Core) → answered_job now o o.job (Refused r) d ≡ None → ⊥
refused_read now o r d = by o.job
  where
    ended : (q : Option Ending) → (q ≡ None → ⊥) → reads_if d (answered_by_it (moment d now) q (reads_of d)) ≡ None → ⊥
    ended None h e = h refl
    ended (Some x) h e = some_none _ e

    by : (j : OutJob) → answered_job now o j (Refused r) d ≡ None → ⊥
    by (job.Grant lease) e = some_none _ e
    by (job.Keep lease) e = some_none _ e
    by (job.Acquire k) e = acquire_read now k (at d.acquires k) r d e
    by job.Wait e = ended (endings.answered o.call (Refused r) (moment d now).session now d.own) (wait_read o.call r (moment d now).session now d.own) e
    by (job.Ask k) e = some_none _ e
    by (job.Group lease) e = some_none _ e

-- what can't be read was no answer
pub unread_is : (namespace : List ℕ) (a b : Answer) (now : ℕ) (o : OutCall) (d : Core) → heard namespace a ≡ Some b → answered_job now o o.job b d ≡ None → is_answer a ≡ false
unread_is namespace a (Done reply) now o d h u = reply_is namespace a reply h
unread_is namespace a (Refused r) now o d h u = absurd (refused_read now o r d u)

-- ---- the step

-- what is known of the proxy before the step
pub record Before (namespace : List ℕ) (items own : List Item) (numbers : List ℕ) (p now : ℕ) (c : Core) : Type 0 where
  pub named : (clock_work now c).settings.namespace ≡ namespace
  pub none : (ticket : ℕ) (a : Asked) → ask_at ticket c.asks ≡ Some a → is_replied a.stage ≡ false
  pub of : (o : OutCall) (y : Asked) (number : ℕ) → nth numbers o.call ≡ Some number → EndsNow c now o y → IsCallOf items p y.ticket number y.request
  pub asked : (ticket : ℕ) (b : Asked) → ask_at ticket c.asks ≡ Some b → asked_as p b.ticket (life p (items ++ own)) ≡ Some b.request
  pub reads : OfKinds c now

-- and of its calls that end with the step
pub record Counts (members : ℕ) (items own : List Item) (p now : ℕ) (c : Core) (e : CoreEvent) : Type 0 where
  pub members_are : (clock_work now c).members.count ≡ members
  pub lost : (o : OutCall) (x y : Asked) → EndsNow c now o x → IsLost (clock_work now c) e now o → ReadOf o x → LostMore x y → (limit : ℕ) → nat_le limit y.losses ≡ true → Often is_loss (items ++ own) p y.ticket y.request limit
  pub stale : (o : OutCall) (x y : Asked) (kind : CallKind) (a : Answer) (reply : Reply) → EndsNow c now o x → e ≡ event.Answer o.call a → heard (clock_work now c).settings.namespace a ≡ Some (Done reply) → o.job ≡ job.Ask kind → is_stale_reply kind o reply ≡ true → StaleMore x y → (limit : ℕ) → nat_le limit y.stales ≡ true
      → Often is_stale_for (items ++ own) p y.ticket y.request limit

module _ (members : ℕ) (namespace prefix : List ℕ) (items own : List Item) (numbers : List ℕ) (p now : ℕ) (c : Core) (e : CoreEvent) (s : OwnStep items own numbers p e) (k : Before namespace items own numbers p now c) (counts : Counts members items own p now c e) where
  abbrev ended_by : (o : OutCall) (x : Asked) (ends : ℕ → Item) → EndsNow c now o x → EndItem items s.pre numbers p s.step o.call ends → Ended (items ++ own) p x.ticket ends
  ended_by o x ends i t =
      let b = i.behind.before in
      record {
        asked = x.request;
        was_asked =
            subst (λ (n : ℕ). asked_as p n (life p (items ++ own)) ≡ Some x.request) (sym i.behind.alike.ticket)
            (k.asked x.ticket b i.behind.there ∙ ap (λ (q : Request). Some q) (sym i.behind.alike.request));
        call = t.number;
        before = items;
        told = s.post;
        story = ap (λ (xs : List Item). items ++ xs) (s.split ∙ ap (λ (xs : List Item). xs ++ s.step ∷ s.post) t.bare ∙ ap (λ (j : Item). j ∷ s.post) t.is);
        of = k.of o x t.number t.numbered i;
        replies = s.json;
      }

  abbrev answered_by : (o : OutCall) (x : Asked) (a : Answer) → EndsNow c now o x → e ≡ event.Answer o.call a → AnsweredSo (items ++ own) p x.ticket a
  answered_by o x a i f = let t = s.answered o.call a f in record { ended = ended_by o x (λ call. item.Answered call) i t.item; answer = t.executed }

  lost_by : (o : OutCall) (x : Asked) → EndsNow c now o x → OtherOf o x → IsLost (clock_work now c) e now o → Causing members namespace prefix (items ++ own) p x.ticket (Refused call_lost)
  lost_by o x i n (steps.lost f) r g = causes.lost (sym (same_refusal call_lost r g)) (ended_by o x (λ call. item.Lost call) i (s.lost o.call f)) (k.reads.other o x i n)
  lost_by o x i n (steps.unheard a f h) r g = unheard (sym (same_refusal call_lost r g)) a (answered_by o x a i f) (unheard_is (clock_work now c).settings.namespace a h) (k.reads.other o x i n)
  lost_by o x i n (unread a b f h u) r g = unheard (sym (same_refusal call_lost r g)) a (answered_by o x a i f) (unread_is (clock_work now c).settings.namespace a b now o _ h u) (k.reads.other o x i n)

  on_ticket : (x y : Asked) (a : Answer) → y.ticket ≡ x.ticket → Causing members namespace prefix (items ++ own) p x.ticket a → Causing members namespace prefix (items ++ own) p y.ticket a
  on_ticket x y a t h = subst (λ (n : ℕ). Causing members namespace prefix (items ++ own) p n a) (sym t) h

  gone : (y : Asked) (v : Verdict) → y.stage ≡ stage.Replied v → Causing members namespace prefix (items ++ own) p y.ticket (reply_of v) → (u : Verdict) → y.stage ≡ stage.Replied u → Causing members namespace prefix (items ++ own) p y.ticket (reply_of u)
  gone y v f h u g = verdict_caused members namespace prefix (items ++ own) p y.ticket y.stage v u f g h

  plain : (y : Asked) → is_plain y.stage ≡ true → (u : Verdict) → y.stage ≡ stage.Replied u → Causing members namespace prefix (items ++ own) p y.ticket (reply_of u)
  plain y h u g = plain_caused members namespace prefix (items ++ own) p y.ticket u (plain_stage y.stage u h g)

  pub caused_after : (y : Asked) → Told (items ++ own) p now y → After c e now y → (v : Verdict) → y.stage ≡ stage.Replied v → Causing members namespace prefix (items ++ own) p y.ticket (reply_of v)
  caused_after y d (kept h) v f = by (h.replied v f)
    where
      by : (h.before.stage ≡ stage.Replied v) ⊎ ((v ≡ verdict.TimedOut) × (times_out now h.before ≡ true)) → Causing members namespace prefix (items ++ own) p y.ticket (reply_of v)
      by (inl g) = absurd (let m : true ≡ false = sym (ap is_replied g) ∙ k.none y.ticket h.before h.there in cc)
      by (inr g) = λ r a.
          let is : timed_out ≡ r = same_refusal timed_out r (sym (ap reply_of g.0) ∙ a) in
          let t = d.due v f r a (sym (ap (λ (z : Refusal). z.code) is)) in
          too_late t.0 t.1
  caused_after y d (goes x h n l t) v f = plain y t v f
  caused_after y d (asked ticket word q g l (inl t)) v f = plain y t v f
  caused_after y d (asked ticket word q g l (inr t)) v f = no_reply y v t.0 f
  caused_after y d (tells o x a r i g h l t) v f =
      gone y (verdict.Said (Refused r)) t
      (on_ticket x y (Refused r) l.ticket (λ z m. passed_on a (answered_by o x a i g) (sym (ap (λ (n : List ℕ). heard n a) k.named) ∙ h ∙ ap (λ (w : Answer). Some w) m))) v f
  caused_after y d (fails o x i m r l t) v f = gone y verdict.Lost t (on_ticket x y (Refused call_lost) l.ticket (lost_by o x i r m)) v f
  caused_after y d (loses o x i m r l (inl t)) v f = plain y t.0 v f
  caused_after y d (loses o x i m r l (inr t)) v f =
      gone y verdict.Lost t.0
      (λ z w.
      lost_often (sym (same_refusal call_lost z w)) y.request (ap (λ (q : Request). is_read (kind_of q)) l.request ∙ k.reads.read o x i r)
      (subst (Often is_loss (items ++ own) p y.ticket y.request) counts.members_are (counts.lost o x y i m r l (clock_work now c).members.count t.1))) v f
  caused_after y d (stales o x kind a reply i g h j b l (inl t)) v f = plain y t.0 v f
  caused_after y d (stales o x kind a reply i g h j b l (inr t)) v f =
      gone y verdict.Stale t.0
      (λ z w.
      subst (λ (n : ℕ). Cause members namespace prefix (items ++ own) p n z) (sym l.ticket)
      (causes.stale (sym (same_refusal no_greater_revision z w)) a reply (answered_by o x a i g) (sym (ap (λ (n : List ℕ). heard n a) k.named) ∙ h)
      (ap is_ordered (k.reads.own o x i kind j) ∙ and_first (is_ordered kind) (is_stale o.seen reply.header.revision) b)
      (subst (λ (n : ℕ). Often is_stale_for (items ++ own) p x.ticket x.request (stales_limit n)) counts.members_are
      (subst (λ (q : Request). Often is_stale_for (items ++ own) p x.ticket q (stales_limit (clock_work now c).members.count)) l.request
      (subst (λ (n : ℕ). Often is_stale_for (items ++ own) p n y.request (stales_limit (clock_work now c).members.count)) l.ticket
      (counts.stale o x y kind a reply i g h j b l (stales_limit (clock_work now c).members.count) t.1)))))) v f

-- ---- fetches keep it

pub record Whole (members : ℕ) (namespace prefix : List ℕ) (items : List Item) (p now : ℕ) (y : Asked) : Type 0 where
  pub told : Told items p now y
  pub caused : (v : Verdict) → y.stage ≡ stage.Replied v → Causing members namespace prefix items p y.ticket (reply_of v)

whole_calls : (members : ℕ) (namespace prefix : List ℕ) (items : List Item) (p now : ℕ) → Calls (Whole members namespace prefix items p now)
whole_calls members namespace prefix items p now x step o h = record { told = told_calls items p now x step o h.told; caused = λ v e. absurd (cc) }

whole_timed : (members : ℕ) (namespace prefix : List ℕ) (items : List Item) (p now : ℕ) (x : Asked) → Whole members namespace prefix items p now x → Whole members namespace prefix items p now (timed_out_ask now x)
whole_timed members namespace prefix items p now x h = by (times_out now x) refl
  where
    by : (b : Bool) → times_out now x ≡ b → Whole members namespace prefix items p now (cond b (in_stage (stage.Replied verdict.TimedOut) x) x)
    by true e = absurd (let f : true ≡ false = sym e ∙ h.told.in_time (late_open now x e) in cc)
    by false e = h

whole_moves : (members : ℕ) (namespace prefix : List ℕ) (items : List Item) (p now : ℕ) → Moves (Whole members namespace prefix items p now)
whole_moves members namespace prefix items p now x s o h w = record { told = told_moves items p now x s o h w.told; caused = λ v e. plain_caused members namespace prefix items p x.ticket v (plain_stage s v h e) }

take_keeps : (members : ℕ) (namespace prefix : List ℕ) (items : List Item) (p now ticket : ℕ) (d : Core) → Keeps (Whole members namespace prefix items p now) (Whole members namespace prefix items p now) d (event.Take ticket) now
take_keeps members namespace prefix items p now ticket d = record {
  turn = λ x h. h;
  moves = whole_moves members namespace prefix items p now;
  fresh = λ t word q e. absurd (cc);
  tells = λ o a b f e g. absurd (cc);
  loses = λ o f i. no_loss o i;
}
  where
    no_loss : {A : Type 0} (o : OutCall) → IsLost d (event.Take ticket) now o → A
    no_loss o (steps.lost e) = absurd (cc)
    no_loss o (steps.unheard a e g) = absurd (cc)
    no_loss o (unread a b e g u) = absurd (cc)

pub take_whole : (members : ℕ) (namespace prefix : List ℕ) (items : List Item) (p now ticket : ℕ) (c : Core) → CoreOk c → is_worn c ≡ false → All (Whole members namespace prefix items p now) c.asks → All (Whole members namespace prefix items p now) (stepped c (event.Take ticket) now).core.asks
take_whole members namespace prefix items p now ticket c ok w t =
    let W = Whole members namespace prefix items p now in
    step_walk W W W c (event.Take ticket) now ok w (whole_calls members namespace prefix items p now) (whole_calls members namespace prefix items p now) (whole_timed members namespace prefix items p now) (take_keeps members namespace prefix items p now ticket (clock_work now c)) t

-- and what is fetched has its cause
pub clock_whole : (members : ℕ) (namespace prefix : List ℕ) (items : List Item) (p now : ℕ) (c : Core) → All (Whole members namespace prefix items p now) c.asks → All (Whole members namespace prefix items p now) (clock_work now c).asks
clock_whole members namespace prefix items p now c t =
    clock_walk (Whole members namespace prefix items p now) (Whole members namespace prefix items p now) (whole_calls members namespace prefix items p now) (whole_calls members namespace prefix items p now) now c (whole_timed members namespace prefix items p now) t

-- ---- at once

pub asked_caused : (members : ℕ) (namespace prefix : List ℕ) (items own : List Item) (numbers : List ℕ) (p : ℕ) (c : Core) (now ticket word : ℕ) (q : Request) (o : Outcome) → OwnStep items own numbers p (event.Ask ticket q word) → (clock_work now c).own.waits.prefix ≡ prefix
    → (stepped c (event.Ask ticket q word) now).outcome ≡ Ok o → Each (λ r. Causing members namespace prefix (items ++ own) p r.0 r.1) (told_at_once ticket o)
asked_caused members namespace prefix items own numbers p c now ticket word q (outcome.Replied a) s prefixed e = (due, tt)
  where
    due : Causing members namespace prefix (items ++ own) p ticket a
    due r is =
        let its : refusal_of (clock_work now c).own.waits.prefix q ≡ Some r = asked_refusal c now ticket word q r (e ∙ ap (λ (x : Answer). Ok (outcome.Replied x)) is) in
        by_fields q (items ++ s.pre) s.post
        (ap (λ (xs : List Item). items ++ xs) (s.split ∙ ap (λ (i : Item). s.pre ++ i ∷ s.post) (s.asks ticket word q refl)) ∙ sym (append_assoc items s.pre (item.Asked p ticket q ∷ s.post))) s.json
        (ap (λ (n : List ℕ). refusal_of n q) (sym prefixed) ∙ its)
asked_caused members namespace prefix items own numbers p c now ticket word q outcome.Waiting s prefixed e = tt
asked_caused members namespace prefix items own numbers p c now ticket word q outcome.Pending s prefixed e = tt
asked_caused members namespace prefix items own numbers p c now ticket word q outcome.Noted s prefixed e = tt
asked_caused members namespace prefix items own numbers p c now ticket word q (outcome.Item i) s prefixed e = tt
asked_caused members namespace prefix items own numbers p c now ticket word q (outcome.Job j) s prefixed e = tt
