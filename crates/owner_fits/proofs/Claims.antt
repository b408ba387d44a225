-- What changes of the acquires, and of the calls that are out, keep.
use Rattle.std.proofs.Common.{◌≡◌, ℕ, ◌==◌, Bool, true, false, not, cond, List, [], ◌∷◌, ◌++◌, Option, None, Some, refl, sym, ◌∙◌, ap, subst}
use Rattle.std.specs.Option.{option_map}
use Rattle.std.specs.Ordering.{nat_cmp}
use Rattle.std.specs.Cmp.Lexicographic.{slice_cmp}
use Rattle.std.specs.FinMap.Entries.{is_sorted-where_key}
use Rattle.etcd_types.specs.Keys.{same}
use Rattle.etcd_types.proofs.KeyOrder.{same-equal, same-itself}
use Rattle.proxy_model.specs.Keyed.{Keyed, at, with_at}
use Rattle.proxy_model.proofs.KeyedLaws.{to_T, from_T, at-with_at, in_order-with_at}
use Rattle.wait_model.specs.declared.sending.Sending.{Sending}
use Rattle.wait_model.specs.declared.sending.Sending.TheVariants as sending
use Rattle.wait_model.specs.Edits.{without}
use Rattle.wait_model.proofs.Tables.{at-without}
use Rattle.read_model.specs.declared.acquire.Acquire.{Acquire}
use Rattle.read_model.specs.Acquires.{sent_out}
use Rattle.read_model.specs.PlainRead.{is_ownable}
use Rattle.read_model.specs.SessionEnd.{is_due, is_due_acquire}
use Rattle.core_model.specs.declared.out_call.OutCall.{OutCall}
use Rattle.core_model.specs.declared.out_call.OutJob.{OutJob}
use Rattle.core_model.specs.declared.out_call.OutJob.TheVariants as job
use Rattle.core_model.specs.Fits.{job_at}
use Rattle.core_model.specs.Lookups.{without_out}
use Rattle.core_laws.proofs.Steps.Calls.{job_without}
use Rattle.core_laws.proofs.Steps.Lists.{same_number, number_itself}
use Rattle.owner_fits.specs.Acquires.{IsOutAs, AcquiresFit}

some_same : {A : Type 0} {x y : A} → Some x ≡ Some y → x ≡ y
some_same e = cc

-- Calls that are out.

nothing_left : (n : ℕ) (out : List OutCall) → job_at n (without_out n out) ≡ None
nothing_left n [] = refl
nothing_left n (o ∷ rest) =
    elim (o.call == n) as (λ b. (o.call == n) ≡ b → job_at n (cond (not b) (o ∷ without_out n rest) (without_out n rest)) ≡ None) [
      | true ↦ λ e. nothing_left n rest
      | false ↦ λ e. ap (λ b. cond b (Some o.job) (job_at n (without_out n rest))) e ∙ nothing_left n rest
    ] refl

-- of those that are left, another
pub record IsLeft (m n : ℕ) (j : OutJob) (out : List OutCall) : Type 0 where
  pub other : (m == n) ≡ false
  pub job : job_at m out ≡ Some j

pub job_left : (m n : ℕ) (j : OutJob) (out : List OutCall) → job_at m (without_out n out) ≡ Some j → IsLeft m n j out
job_left m n j out h = by_number (m == n) refl
  where
    by_number : (b : Bool) → (m == n) ≡ b → IsLeft m n j out
    by_number true e = absurd (let z = nothing_left n out in let y = ap (λ (i : ℕ). job_at i (without_out n out)) (same_number m n e) in cc)
    by_number false e = record { other = e; job = sym (job_without m n out e) ∙ h }

pub data IsPushed (m : ℕ) (j : OutJob) (x : OutCall) (out : List OutCall) : Type 0 where
  before : job_at m out ≡ Some j → IsPushed m j x out
  last : x.call ≡ m → x.job ≡ j → IsPushed m j x out

pub job_pushed : (m : ℕ) (j : OutJob) (x : OutCall) (out : List OutCall) → job_at m (out ++ x ∷ []) ≡ Some j → IsPushed m j x out
job_pushed m j x [] h = by_number (x.call == m) refl h
  where
    by_number : (b : Bool) → (x.call == m) ≡ b → cond b (Some x.job) None ≡ Some j → IsPushed m j x []
    by_number true e t = last (same_number x.call m e) (some_same t)
    by_number false e t = absurd (cc)
job_pushed m j x (o ∷ rest) h =
    elim (o.call == m) as (λ b. (o.call == m) ≡ b → cond b (Some o.job) (job_at m (rest ++ x ∷ [])) ≡ Some j → IsPushed m j x (o ∷ rest)) [
      | true ↦ λ e t. before (ap (λ b. cond b (Some o.job) (job_at m rest)) e ∙ t)
      | false ↦ λ e t. further e (job_pushed m j x rest t)
    ] refl h
  where
    further : (o.call == m) ≡ false → IsPushed m j x rest → IsPushed m j x (o ∷ rest)
    further e (before t) = before (ap (λ b. cond b (Some o.job) (job_at m rest)) e ∙ t)
    further e (last a b) = last a b

-- One acquire changes.

pub record ClaimFits (prefix k : List ℕ) (session : Option ℕ) (o : Option Acquire) (out : List OutCall) : Type 0 where
  pub acquired : (a : Acquire) → o ≡ Some a → is_ownable prefix k ≡ true
  pub under : (a : Acquire) → o ≡ Some a → is_due a.sending ≡ true → session ≡ Some a.session
  pub awaits : (call : ℕ) → job_at call out ≡ Some (job.Acquire k) → IsOutAs call o

-- the other keys' calls that are out were so
abbrev pub OthersOut : List ℕ → List OutCall → List OutCall → Type 0
OthersOut k out then = (call : ℕ) (j : List ℕ) → same k j ≡ false → job_at call then ≡ Some (job.Acquire j) → job_at call out ≡ Some (job.Acquire j)

pub one_claim : (prefix : List ℕ) (session : Option ℕ) (k : List ℕ) (o : Option Acquire) (acquires : Keyed Acquire) (out then : List OutCall) → ClaimFits prefix k session o then → OthersOut k out then → AcquiresFit prefix session acquires out → AcquiresFit prefix session (with_at acquires k o) then
one_claim prefix session k o acquires out then c s h = record {
  rising = in_order-with_at acquires k o h.rising;
  acquired = λ j a e. acquired j a (same k j) refl (sym (at-with_at acquires k j o) ∙ e);
  under = λ j a e d. under j a (same k j) refl (sym (at-with_at acquires k j o) ∙ e) d;
  awaits = λ call j e. subst (IsOutAs call) (sym (at-with_at acquires k j o)) (awaits call j (same k j) refl e);
}
  where
    acquired : (j : List ℕ) (a : Acquire) (b : Bool) → same k j ≡ b → cond b o (at acquires j) ≡ Some a → is_ownable prefix j ≡ true
    acquired j a true t e = subst (λ (i : List ℕ). is_ownable prefix i ≡ true) (same-equal k j t) (c.acquired a e)
    acquired j a false t e = h.acquired j a e

    under : (j : List ℕ) (a : Acquire) (b : Bool) → same k j ≡ b → cond b o (at acquires j) ≡ Some a → is_due a.sending ≡ true → session ≡ Some a.session
    under j a true t e d = c.under a e d
    under j a false t e d = h.under j a e d

    awaits : (call : ℕ) (j : List ℕ) (b : Bool) → same k j ≡ b → job_at call then ≡ Some (job.Acquire j) → IsOutAs call (cond b o (at acquires j))
    awaits call j true t e = c.awaits call (subst (λ (i : List ℕ). job_at call then ≡ Some (job.Acquire i)) (sym (same-equal k j t)) e)
    awaits call j false t e = h.awaits call j (s call j t e)

-- the calls that are out change, but for acquires
pub out_claims : (prefix : List ℕ) (session : Option ℕ) (acquires : Keyed Acquire) (out then : List OutCall) → ((call : ℕ) (j : List ℕ) → job_at call then ≡ Some (job.Acquire j) → job_at call out ≡ Some (job.Acquire j)) → AcquiresFit prefix session acquires out → AcquiresFit prefix session acquires then
out_claims prefix session acquires out then s h = record { rising = h.rising; acquired = h.acquired; under = h.under; awaits = λ call k e. h.awaits call k (s call k e) }

pub left_claims : (prefix : List ℕ) (session : Option ℕ) (n : ℕ) (acquires : Keyed Acquire) (out : List OutCall) → AcquiresFit prefix session acquires out → AcquiresFit prefix session acquires (without_out n out)
left_claims prefix session n acquires out h = out_claims prefix session acquires out (without_out n out) (λ call j e. (job_left call n (job.Acquire j) out e).job) h

abbrev pub is_acquire : OutJob → Bool
is_acquire (job.Acquire k) = true
is_acquire _ = false

pub pushed_claims : (prefix : List ℕ) (session : Option ℕ) (x : OutCall) (acquires : Keyed Acquire) (out : List OutCall) → is_acquire x.job ≡ false → AcquiresFit prefix session acquires out → AcquiresFit prefix session acquires (out ++ x ∷ [])
pushed_claims prefix session x acquires out n h = out_claims prefix session acquires out (out ++ x ∷ []) (λ call j e. by call j (job_pushed call (job.Acquire j) x out e)) h
  where
    by : (call : ℕ) (j : List ℕ) → IsPushed call (job.Acquire j) x out → job_at call out ≡ Some (job.Acquire j)
    by call j (before e) = e
    by call j (last a b) = absurd (let z = ap is_acquire b in cc)

-- two calls that one acquire is out under are one
same_call : (m n : ℕ) (o : Option Acquire) → IsOutAs m o → IsOutAs n o → (m == n) ≡ true
same_call m n o a b =
    let e = some_same (sym a.stands ∙ b.stands) in
    let f : sending.Out m ≡ sending.Out n = sym a.out ∙ ap (λ (x : Acquire). x.sending) e ∙ b.out in
    ap (λ (i : ℕ). i == n) (out_same f) ∙ number_itself n
  where
    number_in : ℕ → Sending → ℕ
    number_in d (sending.Due since) = d
    number_in d (sending.Out call) = call

    out_same : sending.Out m ≡ sending.Out n → m ≡ n
    out_same e = ap (number_in m) e

-- the acquire whose call ends is gone
pub gone_claim : (prefix : List ℕ) (session : Option ℕ) (n : ℕ) (k : List ℕ) (acquires : Keyed Acquire) (out : List OutCall) → job_at n out ≡ Some (job.Acquire k) → AcquiresFit prefix session acquires out → AcquiresFit prefix session (with_at acquires k None) (without_out n out)
gone_claim prefix session n k acquires out f h =
    one_claim prefix session k None acquires out (without_out n out)
    (record {
      acquired = λ a e. absurd (cc);
      under = λ a e d. absurd (cc);
      awaits = λ call e. absurd (let x = job_left call n (job.Acquire k) out e in let z = same_call call n (at acquires k) (h.awaits call k x.job) (h.awaits n k f) in let y = x.other in cc);
    })
    (λ call j t e. (job_left call n (job.Acquire j) out e).job) h

key_in : List ℕ → OutJob → List ℕ
key_in d (job.Acquire k) = k
key_in d _ = d

key_same : (i j : List ℕ) → job.Acquire i ≡ job.Acquire j → i ≡ j
unfolding key_in
key_same i j q = ap (key_in i) q

-- a due one is sent
pub sent_claim : (prefix : List ℕ) (session : Option ℕ) (k : List ℕ) (x : OutCall) (acquires : Keyed Acquire) (out : List OutCall) → x.job ≡ job.Acquire k → is_due_acquire (at acquires k) ≡ true → AcquiresFit prefix session acquires out → AcquiresFit prefix session (with_at acquires k (option_map (sent_out x.call) (at acquires k))) (out ++ x ∷ [])
sent_claim prefix session k x acquires out e d h =
    one_claim prefix session k (option_map (sent_out x.call) (at acquires k)) acquires out (out ++ x ∷ []) (claim (at acquires k) refl d)
    (λ call j t p. others call j t (job_pushed call (job.Acquire j) x out p)) h
  where
    never_due : (call : ℕ) (a : Acquire) → is_due a.sending ≡ true → IsOutAs call (Some a) → ⊥
    never_due call a d o = let z = some_same o.stands in let y = ap (λ (b : Acquire). is_due b.sending) z in let w = ap is_due o.out in cc

    claim : (o : Option Acquire) → at acquires k ≡ o → is_due_acquire o ≡ true → ClaimFits prefix k session (option_map (sent_out x.call) o) (out ++ x ∷ [])
    claim None q d = absurd (cc)
    claim (Some a) q d = record {
      acquired = λ b t. h.acquired k a q;
      under = λ b t u. absurd (let z = some_same t in let y = ap (λ (c : Acquire). is_due c.sending) z in cc);
      awaits = λ call p. waits call (job_pushed call (job.Acquire k) x out p);
    }
      where
        waits : (call : ℕ) → IsPushed call (job.Acquire k) x out → IsOutAs call (Some (sent_out x.call a))
        waits call (before t) = absurd (never_due call a d (subst (IsOutAs call) q (h.awaits call k t)))
        waits call (last n j) = record { acquire = sent_out x.call a; stands = refl; out = ap sending.Out n }

    others : (call : ℕ) (j : List ℕ) → same k j ≡ false → IsPushed call (job.Acquire j) x out → job_at call out ≡ Some (job.Acquire j)
    others call j t (before p) = p
    others call j t (last n p) = absurd (let z : job.Acquire k ≡ job.Acquire j = sym e ∙ p in let y = ap (λ (i : List ℕ). same k i) (key_same k j z) ∙ t in let w = same-itself k in cc)

-- due ones fall, at the end of the session all of them
pub dropped_claims : (prefix : List ℕ) (session then : Option ℕ) (p : List ℕ → Bool) (acquires : Keyed Acquire) (out : List OutCall) → ((k : List ℕ) → p k ≡ true → is_due_acquire (at acquires k) ≡ true) → ((k : List ℕ) (a : Acquire) → p k ≡ false → at acquires k ≡ Some a → is_due a.sending ≡ true → session ≡ Some a.session → then ≡ Some a.session) → AcquiresFit prefix session acquires out → AcquiresFit prefix then (without p acquires) out
dropped_claims prefix session then p acquires out d n h = record {
  rising = from_T _ (is_sorted-where_key (slice_cmp nat_cmp) (λ x. not (p x)) acquires (to_T _ h.rising));
  acquired = λ k a e. let x = still k a (p k) refl (sym (at-without p acquires k) ∙ e) in h.acquired k a x.1;
  under = λ k a e u. let x = still k a (p k) refl (sym (at-without p acquires k) ∙ e) in n k a x.0 x.1 u (h.under k a x.1 u);
  awaits = λ call k e. subst (IsOutAs call) (sym (at-without p acquires k)) (waits call k (p k) refl (h.awaits call k e));
}
  where
    still : (k : List ℕ) (a : Acquire) (b : Bool) → p k ≡ b → cond b None (at acquires k) ≡ Some a → (p k ≡ false) × (at acquires k ≡ Some a)
    still k a true t e = absurd (cc)
    still k a false t e = (t, e)

    waits : (call : ℕ) (k : List ℕ) (b : Bool) → p k ≡ b → IsOutAs call (at acquires k) → IsOutAs call (cond b None (at acquires k))
    waits call k true t o = absurd (let z = d k t in let y = ap is_due_acquire o.stands in let w = ap is_due o.out in cc)
    waits call k false t o = o
