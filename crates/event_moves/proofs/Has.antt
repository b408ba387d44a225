-- What the view has of an event it has still when the proxy was moved.
use Rattle.std.proofs.Common.{ℕ, ◌≤◌, Bool, List, [], ◌∷◌, sym, ◌∙◌, ap, subst}
use Rattle.etcd_types.specs.declared.answer.Answer.{Answer}
use Rattle.etcd_types.specs.declared.watch.Change.{Change}
use Rattle.etcd_types.specs.declared.watch.Change.TheVariants as change
use Rattle.etcd_types.specs.declared.watch.Event.{Event}
use Rattle.core_model.specs.declared.event.CoreEvent.{CoreEvent}
use Rattle.core_model.specs.declared.event.CoreEvent.TheVariants as event
use Rattle.core_model.specs.declared.out_call.OutCall.{OutCall}
use Rattle.core_model.specs.Sessions.{drawn_session}
use Rattle.core_model.specs.State.{Core}
use Rattle.cache_laws.specs.Moves.Answers.{IsShown, in_answer, in_event}
use Rattle.cache_laws.specs.Moves.View.{Owner, Call, Outcome, View}
use Rattle.call_laws.specs.Forms.{IsFormed, Tells}
use Rattle.row_laws.specs.Notices.{TellsChange, AreTold}
use Rattle.core_moves.specs.Sees.{Alike}
use Rattle.event_moves.specs.Events.{IsAnswered, HasEvent}

module _ (holder : ℕ → ℕ) (v w : View) (p : ℕ) (a : Alike p v w) where
  still_shown : (k : List ℕ) (o : Owner) → IsShown v k o → IsShown w k o
  still_shown k o (in_answer i e) = in_answer i (e ∙ ap (λ (f : ℕ → Outcome). (f i).owners k) (sym a.outcomes))
  still_shown k o (in_event rev l e) = in_event rev (subst (λ (n : ℕ). rev ≤ n) (sym a.rev) l) (e ∙ ap (λ (f : ℕ → List ℕ → Owner). f rev k) (sym a.told))

  still_change : (prefix : List ℕ) (x : Change) → TellsChange v prefix x → TellsChange w prefix x
  still_change prefix (change.Put kv) t = λ e. still_shown _ _ (t e)
  still_change prefix (change.Delete k revision) t = tt

  still_told : (prefix : List ℕ) (events : List Event) → AreTold v prefix events → AreTold w prefix events
  still_told prefix [] t = tt
  still_told prefix (e ∷ es) t = (still_change prefix e.change t.0, still_told prefix es t.1)

  still_answered : (own : ℕ → ℕ) (c : Core) (o : OutCall) (x : Answer) → IsAnswered v own c o x → IsAnswered w own c o x
  still_answered own c o x h =
      let i = own o.call in
      let prefix = c.own.waits.prefix in
      record {
        form = h.form;
        suits = h.suits;
        has = record {
          some = h.has.some;
          done = ap (λ (f : ℕ → Outcome). (f i).done) a.outcomes ∙ h.has.done;
          formed = subst (λ (f : ℕ → Call). IsFormed prefix h.form (f i)) (sym a.calls) h.has.formed;
          at = ap (λ (f : ℕ → Call). (f i).at) a.calls ∙ h.has.at;
          tells = subst (λ (f : ℕ → Outcome). Tells prefix h.form (f i) x) (sym a.outcomes) h.has.tells;
        };
      }

  pub still_has : (own : ℕ → ℕ) (c : Core) (e : CoreEvent) → HasEvent holder v p own c e → HasEvent holder w p own c e
  still_has own c (event.Ask ticket q word) h = tt
  still_has own c (event.Answer call x) h = λ o y f g. still_answered own c o y (h o y f g)
  still_has own c (event.Lost call) h = tt
  still_has own c (event.Tick word) h = λ e. let d = h e in record { by = d.by; reserved = d.reserved; new = ap (λ (f : ℕ → Bool). f (drawn_session word)) a.drawn ∙ d.new }
  still_has own c (event.Item number x) h = λ o e events f d i. still_told c.own.waits.prefix events (h o e events f d i)
  still_has own c (event.Cut number) h = tt
  still_has own c (event.Take ticket) h = tt
  still_has own c (event.Leave ticket) h = tt
  still_has own c event.Work h = tt
