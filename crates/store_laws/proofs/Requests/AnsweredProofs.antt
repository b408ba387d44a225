-- What a refusal and a reply tell.
use Rattle.std.proofs.Common.{◌≡◌, ℕ, Bool, true, cond, refl, sym, ◌∙◌, ap, subst}
use Rattle.etcd_types.specs.declared.request.Request.{Request}
use Rattle.etcd_types.specs.declared.request.Request.TheVariants as request
use Rattle.etcd_types.specs.declared.answer.Answer.{Answer}
use Rattle.etcd_types.specs.declared.answer.Answer.TheVariants as answer
use Rattle.etcd_types.specs.declared.answer.Body.{Body}
use Rattle.etcd_types.specs.declared.answer.Refusal.{Refusal}
use Rattle.etcd_types.specs.declared.answer.Reply.{Reply}
use Rattle.store_model.specs.History.{newest, with_revision}
use Rattle.store_model.specs.State.{State, applied_by, header}
use Rattle.store_model.specs.Step.{Step, refused, exec}
use Rattle.store_laws.specs.Requests.Answered.{is_known, is_serializable, RefusalsAreKnown, RepliesTellRevisions}
use Rattle.store_laws.proofs.Requests.StepCases.{exec_by}

refusal_or : Refusal → Answer → Refusal
refusal_or d (answer.Done reply) = d
refusal_or d (answer.Refused refusal) = refusal

same_refusal : (x y : Refusal) → answer.Refused x ≡ answer.Refused y → x ≡ y
unfolding refusal_or
same_refusal x y e = ap (refusal_or x) e

reply_or : Reply → Answer → Reply
reply_or d (answer.Done reply) = reply
reply_or d (answer.Refused refusal) = d

pub same_reply : (x y : Reply) → answer.Done x ≡ answer.Done y → x ≡ y
unfolding reply_or
same_reply x y e = ap (reply_or x) e

record IsTold (s : State) (member : ℕ) (q : Request) (step : Step) : Type 0 where
  refusal : (refusal : Refusal) → step.1 ≡ answer.Refused refusal → is_known refusal.code ≡ true
  revision : (reply : Reply) → step.1 ≡ answer.Done reply → reply.header.revision ≡ cond (is_serializable q) (applied_by s member) (newest step.0.history)
  answerer : (reply : Reply) → step.1 ≡ answer.Done reply → reply.header.member ≡ member

told-refused : (s : State) (member : ℕ) (q : Request) (refusal : Refusal) → is_known refusal.code ≡ true → IsTold s member q (refused s refusal)
told-refused s member q refusal known =
    record {
      refusal = λ other e. subst (λ (r : Refusal). is_known r.code ≡ true) (same_refusal refusal other e) known;
      revision = λ reply e. absurd (cc);
      answerer = λ reply e. absurd (cc);
    }

told-at : (s t : State) (member revision : ℕ) (q : Request) (b : Body) → cond (is_serializable q) (applied_by s member) (newest t.history) ≡ revision
    → IsTold s member q (t, answer.Done (record { header = header member revision; body = b }))
told-at s t member revision q b is =
    record {
      refusal = λ refusal e. absurd (cc);
      revision = λ reply e. ap (λ (r : Reply). r.header.revision) (sym (same_reply _ reply e)) ∙ sym is;
      answerer = λ reply e. ap (λ (r : Reply). r.header.member) (sym (same_reply _ reply e));
    }

told-exec : (s : State) (member : ℕ) (q : Request) → IsTold s member q (exec s member q)
told-exec s member q =
    exec_by s member (IsTold s member)
    (record {
      refuses = λ r refusal known. told-refused s member r refusal known;
      runs = λ r op made b e serializable first ran. told-at s (record s { history = with_revision s.history made }) member (newest (with_revision s.history made)) r b (ap (λ (t : Bool). cond t (applied_by s member) (newest (with_revision s.history made))) serializable);
      reads = λ ask b e. told-at s s member (applied_by s member) (request.Range ask) b (ap (λ (t : Bool). cond t (applied_by s member) (newest s.history)) e);
      compacts = λ revision physical above within. told-at s _ member _ (request.Compact revision physical) _ refl;
      grants = λ ttl number e. told-at s _ member _ (request.Grant ttl number) _ refl;
      revokes = λ number e. told-at s _ member _ (request.Revoke number) _ refl;
      keeps_alive = λ number. told-at s s member _ (request.KeepAlive number) _ refl;
      tells = λ number keys. told-at s s member _ (request.TimeToLive number keys) _ refl;
      lists = told-at s s member _ request.Leases _ refl;
    })
    q

pub refusals_are_known : RefusalsAreKnown
refusals_are_known s member q refusal e = (told-exec s member q).refusal refusal e

pub replies_tell_revisions : RepliesTellRevisions
replies_tell_revisions s member q reply e = ((told-exec s member q).revision reply e, (told-exec s member q).answerer reply e)
