-- An answer, part by part.
use Rattle.std.proofs.Common.{◌≡◌, ℕ, zero, suc, ◌+◌, Bool, true, false, cond, ◌&&◌, List, [], ◌∷◌, Option, None, Some, refl, ◌∙◌, ap}
use Rattle.std.specs.Option.{option_map}
use Rattle.etcd_types.specs.declared.answer.Answer.{Answer}
use Rattle.etcd_types.specs.declared.answer.Answer.TheVariants as answer
use Rattle.proxy_model.specs.declared.lease.Entry.{Entry}
use Rattle.proxy_model.specs.declared.ownership.Owner.{Owner}
use Rattle.proxy_model.specs.Keyed.{Keyed, at, with_at}
use Rattle.proxy_model.specs.Leaving.{guard_held}
use Rattle.proxy_model.specs.Limits.{capped}
use Rattle.wait_model.specs.declared.sending.Sending.TheVariants as sending
use Rattle.wait_model.specs.declared.wait.Settled.TheVariants as settled
use Rattle.wait_model.specs.declared.write.Write.{Write}
use Rattle.wait_model.specs.declared.write.WriteStage.{WriteStage}
use Rattle.wait_model.specs.declared.write.WriteStage.TheVariants.{Waiting, Sends, Finds}
use Rattle.wait_model.specs.Covers.{is_single}
use Rattle.wait_model.specs.Edits.{without}
use Rattle.wait_model.specs.ForeignOwnership.{stage_asked, finding}
use Rattle.wait_model.specs.GuardedAnswers.{staged_by, owns_at, kept_entries, failed}
use Rattle.wait_model.specs.Leaving.{rest, rescinded, if_read, rescind_answered}
use Rattle.wait_model.specs.Phases.{is_of}
use Rattle.wait_model.specs.Stages.{is_owner}
use Rattle.wait_model.specs.State.{Ownership}
use Rattle.wait_model.specs.Writes.{first_by}
use Rattle.revoke_calls.specs.Failed.{found_owners, failed_found, found_entries, failed_stage, failed_entries}
use Rattle.revoke_core.specs.Steps.{IsFirst}
use Rattle.revoke_core.proofs.Searches.{cond_true, cond_false}
use Rattle.revoke_core.specs.Answers.{guard_told, rescinded_entries, rescinded_quiet}

-- the first that passes, where there is one
pub first_is : (p : Write → Bool) (ws : List Write) (i : ℕ) → IsFirst p ws i → (w : Write) × (first_by p ws ≡ Some w)
first_is p [] i f = absurd f
first_is p (w ∷ ws) zero f = (w, cond_true (p w) (Some w) (first_by p ws) f)
first_is p (w ∷ ws) (suc i) f = let r = first_is p ws i f.1 in (r.0, cond_false (p w) (Some w) (first_by p ws) f.0 ∙ r.1)

-- A rescind.

told_gives : (a : Answer) (own : Ownership) → rescind_answered a own ≡ option_map (λ held. record { own = own; settled = settled.Nothing }) (guard_told a)
told_gives (answer.Done reply) own = of (guard_held reply.body)
  where
    of : (o : Option Bool) → if_read o own ≡ option_map (λ held. record { own = own; settled = settled.Nothing }) o
    of None = refl
    of (Some held) = refl
told_gives (answer.Refused r) own = refl

abbrev pub after_rescind : List ℕ → ℕ → ℕ → Ownership → Ownership
after_rescind k create now own =
    record { entries = rescinded_entries k create own.entries; waits = record own.waits { quiet = rescinded_quiet k create now own.entries own.waits.quiet } }

rescinded_parts : (k : List ℕ) (create now : ℕ) (own : Ownership) → rescinded k create now own ≡ after_rescind k create now own
rescinded_parts k create now own = of (is_of create (at own.entries k))
  where
    of : (b : Bool) →
        ◌≡◌ {A = Ownership} (cond b (record { entries = with_at own.entries k None; waits = record own.waits { quiet = with_at own.waits.quiet k (Some (capped (now + rest))) } }) own)
        (record { entries = cond b (with_at own.entries k None) own.entries; waits = record own.waits { quiet = cond b (with_at own.waits.quiet k (Some (capped (now + rest)))) own.waits.quiet } })
    of true = refl
    of false = refl

pub rescind_parts : (a : Answer) (k : List ℕ) (create now : ℕ) (own : Ownership) → rescind_answered a (rescinded k create now own) ≡ option_map (λ held. record { own = after_rescind k create now own; settled = settled.Nothing }) (guard_told a)
rescind_parts a k create now own = ap (λ (o : Ownership). rescind_answered a o) (rescinded_parts k create now own) ∙ told_gives a (after_rescind k create now own)

-- An owner that was asked, and a write that failed.

pub asked_owner : (call : ℕ) (held : Bool) (stage : WriteStage) → is_owner (stage_asked call held stage) ≡ true → is_owner stage ≡ true
asked_owner call held Waiting t = t
asked_owner call held (Sends o s) t = t
asked_owner call held (Finds found) t = t

pub failed_parts : (session : Option ℕ) (p : Write → Bool) (w : Write) (os : List Owner) (own : Ownership) → failed session p w os own ≡ staged_by own (failed_entries session w os own.entries) p (failed_stage session own.waits.step w os own.entries)
failed_parts session p w os own = of (is_owner w.stage && is_single w.request)
  where
    of : (b : Bool) →
        ◌≡◌ {A = Ownership} (cond b (staged_by own (without (owns_at w own.entries) own.entries) p (Sends false (sending.Due own.waits.step))) (finding session p (found_owners w os own.entries) own (kept_entries w os own.entries)))
        (staged_by own (cond b (without (owns_at w own.entries) own.entries) (found_entries session w os own.entries)) p (cond b (Sends false (sending.Due own.waits.step)) (Finds (failed_found session own.waits.step w os own.entries))))
    of true = refl
    of false = refl

-- a write that failed is no owner any more
pub failed_owner : (session : Option ℕ) (step : ℕ) (w : Write) (os : List Owner) (es : Keyed Entry) → is_owner (failed_stage session step w os es) ≡ true → is_owner w.stage ≡ true
failed_owner session step w os es t = of (is_owner w.stage && is_single w.request) t
  where
    of : (b : Bool) → is_owner (cond b (Sends false (sending.Due step)) (Finds (failed_found session step w os es))) ≡ true → is_owner w.stage ≡ true
    of true t = absurd (cc)
    of false t = absurd (cc)
