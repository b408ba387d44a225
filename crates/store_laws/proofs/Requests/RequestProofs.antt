-- One revision at most, and none at a refusal.
use Rattle.std.proofs.Common.{◌≡◌, ℕ, Bool, true, false, cond, [], Ok, Err, map, refl, subst}
use Rattle.etcd_types.specs.declared.request.Request.{Request}
use Rattle.etcd_types.specs.declared.answer.Answer.TheVariants as answer
use Rattle.etcd_types.specs.declared.answer.Body.{Body}
use Rattle.etcd_types.specs.declared.answer.Refusal.{Refusal}
use Rattle.etcd_types.specs.declared.answer.Body.TheVariants as body
use Rattle.store_model.specs.declared.store_fault.StoreFault.TheVariants as fault
use Rattle.store_model.specs.History.{with_revision}
use Rattle.store_model.specs.State.{State}
use Rattle.store_model.specs.Transactions.{has_lease, deletion}
use Rattle.store_model.specs.Leases.{attached, ended, expired, with_lease, granted_lease, granted_ttl, asked_number}
use Rattle.store_model.specs.Step.{Step, exec, done, refused}
use Rattle.store_laws.proofs.Requests.StepCases.{exec_by}
use Rattle.store_laws.specs.Requests.Requests.{GainsOneRevision, MakeOneRevision, ExpiriesMakeOneRevision, RefusalsChangeNothing}

-- what is proved of each step: at most one revision is gained, and a refusal leaves the state
pub record IsWhole (s : State) (step : Step) : Type 0 where
  pub gains : GainsOneRevision s step.0
  pub watches : step.0.watches ≡ s.watches
  pub stays : (refusal : Refusal) → step.1 ≡ answer.Refused refusal → step.0 ≡ s

whole-refused : (s : State) (refusal : Refusal) → IsWhole s (refused s refusal)
whole-refused s refusal = record { gains = ([], refl); watches = refl; stays = λ r e. refl }

whole-done : (s t : State) (member : ℕ) (body : Body) → GainsOneRevision s t → t.watches ≡ s.watches → IsWhole s (done t member body)
whole-done s t member body g w = record { gains = g; watches = w; stays = λ r e. absurd (cc) }

gains-ended : (s : State) (number : ℕ) → GainsOneRevision s (ended s number)
gains-ended s number = (map deletion (attached s.history number), refl)

pub whole-exec : (s : State) (member : ℕ) (q : Request) → IsWhole s (exec s member q)
whole-exec s member q =
    exec_by s member (λ r step. IsWhole s step)
    (record {
      refuses = λ r refusal known. whole-refused s refusal;
      runs = λ r op made b e serializable first ran. whole-done s (record s { history = with_revision s.history made }) member b (made, refl) refl;
      reads = λ ask b e. record { gains = ([], refl); watches = refl; stays = λ refusal f. absurd (cc) };
      compacts = λ revision physical above within. whole-done s (record s { compacted = revision }) member body.Compact ([], refl) refl;
      grants = λ ttl number e.
          whole-done s (record s { leases = with_lease (granted_lease (asked_number s.leases number) ttl) s.leases }) member (body.Grant (asked_number s.leases number) (granted_ttl ttl)) ([], refl) refl;
      revokes = λ number e. whole-done s (ended s number) member body.Revoke (gains-ended s number) refl;
      keeps_alive = λ number. whole-done s s member _ ([], refl) refl;
      tells = λ number keys. whole-done s s member _ ([], refl) refl;
      lists = whole-done s s member _ ([], refl) refl;
    })
    q

pub make_one_revision : MakeOneRevision
make_one_revision s member q = (whole-exec s member q).gains

pub refusals_change_nothing : RefusalsChangeNothing
refusals_change_nothing s member q refusal e = (whole-exec s member q).stays refusal e

gains-either : (s t : State) (number : ℕ) (known : Bool) → cond known (Ok (ended s number)) (Err (fault.NoSuchLease number)) ≡ Ok t → GainsOneRevision s t
gains-either s t number true e =
    let same_state : ended s number ≡ t = cc in subst (λ (u : State). GainsOneRevision s u) same_state (gains-ended s number)
gains-either s t number false e = absurd (cc)

pub expiries_make_one_revision : ExpiriesMakeOneRevision
unfolding expired
expiries_make_one_revision s t number e = gains-either s t number (has_lease s.leases number) e
