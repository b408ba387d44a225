-- An answer that comes to a proxy is one that the view has, and it names owners.
use Rattle.std.proofs.Common.{◌≡◌, ◌≢◌, ℕ, Bool, true, false, cond, List, Option, None, Some, is_some, refl, sym, ◌∙◌, ap, subst}
use Rattle.etcd_types.specs.declared.answer.Answer.{Answer}
use Rattle.etcd_types.specs.declared.answer.Answer.TheVariants as answer
use Rattle.core_model.specs.declared.out_call.OutCall.{OutCall}
use Rattle.core_model.specs.declared.settings.Settings.{Settings}
use Rattle.core_model.specs.ClockWork.{clock_work}
use Rattle.core_model.specs.Heard.{is_known, heard_reply, heard}
use Rattle.core_model.specs.Lookups.{out_at}
use Rattle.core_model.specs.State.{Core}
use Rattle.core_model.specs.Step.{is_worn}
use Rattle.core_laws.proofs.Steps.Calls.{found_is}
use Rattle.core_fits.proofs.Found.{each_out}
use Rattle.namespace_laws.specs.Stored.Stored.{stored_answer}
use Rattle.namespace_laws.proofs.Stored.Back.{replies_unwrap}
use Rattle.call_laws.specs.Forms.{Tells}
use Rattle.core_moves.specs.Answers.{form_of_job, HasAnswer}
use Rattle.event_moves.specs.Events.{IsAnswered}
use Rattle.owner_fits.specs.Names.{AnswerNames}
use Rattle.owner_fits.proofs.Hearing.{clock_prefix}
use Rattle.world_model.specs.declared.sent_call.SentCall.{SentCall}
use Rattle.world_model.specs.Places.{nth, place_at}
use Rattle.world_model.specs.State.{Place, World}
use Rattle.bridge_laws.specs.Shown.{CallShown, or_zero, numbers, OutShown, PlaceShown, Shown}
use Rattle.turn_laws.specs.Known.{AnswersKnown}
use Rattle.turn_laws.proofs.Clocked.{clock_out, clock_settings, clock_suits}
use Rattle.turn_laws.proofs.WriteCalls.{IsCreated, names_answer}

-- what is heard of an answer with bare keys is that answer
pub heard_bare : (ns : List ℕ) (b y : Answer) → heard ns (stored_answer ns b) ≡ Some y → b ≡ y
heard_bare ns (answer.Done reply) y e = let f : Some (answer.Done reply) ≡ Some y = ap heard_reply (sym (replies_unwrap ns reply)) ∙ e in cc
heard_bare ns (answer.Refused r) y e = by (is_known r.code) e
  where
    by : (b : Bool) → cond b (Some (answer.Refused r)) None ≡ Some y → answer.Refused r ≡ y
    by true f = cc
    by false f = absurd (cc)

some_number : {A : Type 0} (xs : List A) (number : ℕ) (x : A) → nth xs number ≡ Some x → number ≢ 0
some_number xs number x e z = none (sym (ap (nth xs) z) ∙ e)
  where
    none : {A B : Type 0} {y : A} → ◌≡◌ {A = Option A} None (Some y) → B
    none f = absurd (cc)

-- the call that is answered is one of this place's
module _ (holder : ℕ → ℕ) (w : World) (h : Shown holder w) (p : ℕ) (x : Place) (at : place_at w p ≡ Some x) (number : ℕ) (call : SentCall) (a : Answer) (there : nth w.calls number ≡ Some call)
    (is : call.executed ≡ Some a) (own : nth x.calls call.own ≡ Some number) where
  abbrev c : Core
  c = x.core

  abbrev k : PlaceShown w.namespace w.leasing h.view h.forms p x
  k = h.places p x at

  abbrev s : CallShown holder w.namespace w.leasing (h.view.calls number) (h.view.outcomes number) (h.forms number) call
  s = h.calls number call there

  shown : (o : OutCall) → out_at call.own c.out ≡ Some o → OutShown h.view.calls h.forms (numbers x.calls) c o
  shown o f = each_out (OutShown h.view.calls h.forms (numbers x.calls) c) call.own c.out o k.out f

  index : (o : OutCall) → out_at call.own c.out ≡ Some o → numbers x.calls o.call ≡ number
  index o f = ap (numbers x.calls) (found_is call.own o c.out f).number ∙ ap or_zero own

  suits : (o : OutCall) → out_at call.own c.out ≡ Some o → form_of_job c o.call (h.forms number) o.job
  suits o f = subst (λ (i : ℕ). form_of_job c o.call (h.forms i) o.job) (index o f) (shown o f).0

  told : (y : Answer) → heard w.namespace a ≡ Some y → Tells w.leasing (h.forms number) (h.view.outcomes number) y
  told y e =
      let t = s.tells a is in
      subst (Tells w.leasing (h.forms number) (h.view.outcomes number)) (heard_bare w.namespace t.0 y (ap (heard w.namespace) (sym t.1) ∙ e)) t.2

  has : (o : OutCall) (y : Answer) → out_at call.own c.out ≡ Some o → heard w.namespace a ≡ Some y → HasAnswer h.view w.leasing (numbers x.calls o.call) (h.forms number) o.sent_at y
  has o y f e =
      subst (λ (i : ℕ). HasAnswer h.view w.leasing i (h.forms number) o.sent_at y) (sym (index o f)) (record {
        some = some_number w.calls number call there;
        done = s.done ∙ ap is_some is;
        formed = s.formed;
        at = ap (λ (i : ℕ). (h.view.calls i).at) (sym (index o f)) ∙ (shown o f).1;
        tells = told y e;
      })

  -- behind the clock work
  pub view_answered : is_worn c ≡ false → (o : OutCall) (y : Answer) → out_at call.own (clock_work x.clock c).out ≡ Some o → heard (clock_work x.clock c).settings.namespace a ≡ Some y → IsAnswered h.view (numbers x.calls) (clock_work x.clock c) o y
  view_answered worn o y f e =
      let d = clock_work x.clock c in
      let g : out_at call.own c.out ≡ Some o = ap (out_at call.own) (sym (clock_out x.clock c)) ∙ f in
      let ns : d.settings.namespace ≡ w.namespace = ap (λ (t : Settings). t.namespace) (clock_settings x.clock c) ∙ k.namespace in
      let prefix : d.own.waits.prefix ≡ w.leasing = clock_prefix x.clock c ∙ k.prefix in
      record {
        form = h.forms number;
        suits = clock_suits c x.clock call.own o (h.forms number) k.may.ok k.may.owners worn g (suits o g);
        has = subst (λ (q : List ℕ). HasAnswer h.view q (numbers x.calls o.call) (h.forms number) o.sent_at y) (sym prefix) (has o y g (ap (λ (n : List ℕ). heard n a) (sym ns) ∙ e));
      }

  created : AnswersKnown w → (y : Answer) → heard w.namespace a ≡ Some y → IsCreated y
  created known (answer.Done reply) e = known number call a reply there is e
  created known (answer.Refused r) e = tt

  pub answer_names : AnswersKnown w → AnswerNames c.own call.own (heard c.settings.namespace a)
  answer_names known = by (heard c.settings.namespace a) refl
    where
      by : (y : Option Answer) → heard c.settings.namespace a ≡ y → AnswerNames c.own call.own y
      by None e = tt
      by (Some y) e =
          let f : heard w.namespace a ≡ Some y = ap (λ (n : List ℕ). heard n a) (sym k.namespace) ∙ e in
          names_answer c call.own (h.forms number) (h.view.outcomes number) y k.may.ok suits (subst (λ (q : List ℕ). Tells q (h.forms number) (h.view.outcomes number) y) (sym k.prefix) (told y f)) (created known y f)
