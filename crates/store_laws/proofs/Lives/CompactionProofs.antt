-- What each step leaves of the compaction revision.
use Rattle.std.proofs.Common.{◌≡◌, ℕ, ◌≤◌, Bool, false, Some, refl, ap, subst, arith}
use Rattle.etcd_types.specs.declared.operation.Op.{Op}
use Rattle.etcd_types.specs.declared.request.Request.{Request}
use Rattle.etcd_types.specs.declared.request.Request.TheVariants as request
use Rattle.etcd_types.specs.declared.answer.Answer.TheVariants as answer
use Rattle.etcd_types.specs.declared.answer.Reply.{Reply}
use Rattle.store_model.specs.State.{State}
use Rattle.store_model.specs.Step.{Step, exec, refused}
use Rattle.store_laws.proofs.Requests.StepCases.{op_of, exec_by}
use Rattle.store_laws.specs.Lives.Compactions.{IsCompacted, is_compaction, CompactionsAreExact, CompactionsRise, OthersDontCompact}

-- a step of each request: a compaction that was answered is exact, and all else moves nothing
record Compacts (s : State) (q : Request) (step : Step) : Type 0 where
  rises : s.compacted ≤ step.0.compacted
  others : is_compaction q ≡ false → step.0.compacted ≡ s.compacted
  exact : (revision : ℕ) (physical : Bool) (reply : Reply) → q ≡ request.Compact revision physical → step.1 ≡ answer.Done reply → IsCompacted s step.0 revision

asked : Request → ℕ
asked (request.Compact revision physical) = revision
asked _ = 0

stays : (s : State) (q : Request) (step : Step) → step.0.compacted ≡ s.compacted → ((reply : Reply) → step.1 ≡ answer.Done reply → is_compaction q ≡ false) → Compacts s q step
stays s q step e n =
    record {
      rises = omega arith;
      others = λ d. e;
      exact = λ revision physical reply is f. absurd (let a = n reply f in let b = ap is_compaction is in cc);
    }

compacted : (s : State) (q : Request) (member : ℕ) → Compacts s q (exec s member q)
compacted s q member =
    exec_by s member (Compacts s)
    (record {
      refuses = λ r refusal known. stays s r (refused s refusal) refl (λ reply e. absurd (cc));
      runs = λ r op made b e serializable first ran. stays s r _ refl (λ reply f. no_operation r op e);
      reads = λ ask b e. stays s (request.Range ask) _ refl (λ reply f. refl);
      compacts = λ revision physical above within.
          record {
            rises = omega arith;
            others = λ d. absurd (cc);
            exact = λ other p reply is f. subst (IsCompacted s (record s { compacted = revision })) (same_asked revision other physical p is) (record { only = refl; rises = above; past = within });
          };
      grants = λ ttl number e. stays s (request.Grant ttl number) _ refl (λ reply f. refl);
      revokes = λ number e. stays s (request.Revoke number) _ refl (λ reply f. refl);
      keeps_alive = λ number. stays s (request.KeepAlive number) _ refl (λ reply f. refl);
      tells = λ number keys. stays s (request.TimeToLive number keys) _ refl (λ reply f. refl);
      lists = stays s request.Leases _ refl (λ reply f. refl);
    })
    q
  where
    no_operation : (r : Request) (op : Op) → op_of r ≡ Some op → is_compaction r ≡ false
    no_operation (request.Compact revision physical) op e = absurd (cc)
    no_operation (request.Range ask) op e = refl
    no_operation (request.Put ask) op e = refl
    no_operation (request.Delete ask) op e = refl
    no_operation (request.Txn t) op e = refl
    no_operation (request.Grant ttl lease) op e = refl
    no_operation (request.Revoke lease) op e = refl
    no_operation (request.KeepAlive lease) op e = refl
    no_operation (request.TimeToLive lease keys) op e = refl
    no_operation request.Leases op e = refl
    no_operation (request.Watch ask) op e = refl

    same_asked : (a b : ℕ) (p q : Bool) → request.Compact a p ≡ request.Compact b q → a ≡ b
    same_asked a b p q e = unfold asked in ap asked e

pub compactions_are_exact : CompactionsAreExact
compactions_are_exact s member revision physical reply e = (compacted s (request.Compact revision physical) member).exact revision physical reply refl e

pub compactions_rise : CompactionsRise
compactions_rise s member q = (compacted s q member).rises

pub others_dont_compact : OthersDontCompact
others_dont_compact s member q d = (compacted s q member).others d
