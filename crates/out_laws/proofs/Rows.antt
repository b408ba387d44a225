-- The calls that a row reads are out, so their numbers were given.
use Rattle.std.proofs.Common.{◌≡◌, ◌<◌, ℕ, ◌+◌, ◌==◌, nat_le, Bool, true, false, cond, ◌||◌, List, [], ◌∷◌, map, filter, Option, None, Some, refl, sym, ◌∙◌, ap, arith}
use Rattle.std.proofs.lemmas.Bool.Decides.{nat_tests}
use Rattle.std.specs.List.{list_all}
use Rattle.etcd_types.proofs.Bools.{and_first, and_second, or_first, or_second, or_none}
use Rattle.proxy_model.specs.declared.lease.Entry.{Entry}
use Rattle.proxy_model.specs.declared.lease.Phase.{Phase}
use Rattle.proxy_model.specs.declared.lease.Phase.TheVariants.{Held, Writing, Leaving}
use Rattle.proxy_model.specs.Keyed.{at}
use Rattle.wait_model.specs.declared.sending.Sending.{Sending}
use Rattle.wait_model.specs.declared.sending.Sending.TheVariants as sending
use Rattle.wait_model.specs.declared.wait.WaitCall.{WaitCall}
use Rattle.wait_model.specs.declared.wait.WaitJob.{WaitJob}
use Rattle.wait_model.specs.declared.write.Write.{Write}
use Rattle.wait_model.specs.declared.write.WriteStage.{WriteStage}
use Rattle.wait_model.specs.declared.write.WriteStage.TheVariants.{Waiting, Sends, Finds}
use Rattle.wait_model.specs.Covers.{covers}
use Rattle.wait_model.specs.Fits.{stage_over}
use Rattle.wait_model.specs.Writes.{job_of}
use Rattle.read_model.specs.declared.acquire.Acquire.{Acquire}
use Rattle.core_model.specs.declared.out_call.OutCall.{OutCall}
use Rattle.core_model.specs.declared.out_call.OutJob.{OutJob}
use Rattle.core_model.specs.Fits.{has_number, passes, job_at, numbers_of, is_wait, wait_numbers, calls_of, is_write_job, is_write_out, is_acquire_of, is_acquire_out, CoreOk}
use Rattle.core_model.specs.Sending.{next_call}
use Rattle.core_model.specs.State.{Core}
use Rattle.core_laws.proofs.Steps.Calls.{no_job}
use Rattle.core_laws.proofs.Steps.Comes.{by_test}
use Rattle.core_laws.proofs.Steps.Lists.{same_number}
use Rattle.row_laws.specs.Rows.{number_of, write_number, written_in, written_by, acquired_by, slot_of}
use Rattle.out_laws.specs.Laws.{RowsReadSent}

-- Numbers that are out.

below : (n calls : ℕ) (ns : List ℕ) → list_all (λ m. nat_le m calls) ns ≡ true → has_number ns n ≡ true → nat_le n calls ≡ true
below n calls [] h t = absurd (cc)
below n calls (m ∷ ns) h t =
    elim (m == n) as (λ b. (m == n) ≡ b → b || has_number ns n ≡ true → nat_le n calls ≡ true) [
      | true ↦ λ e u. ap (λ i. nat_le i calls) (sym (same_number m n e)) ∙ and_first (nat_le m calls) (list_all (λ i. nat_le i calls) ns) h
      | false ↦ λ e u. below n calls ns (and_second (nat_le m calls) (list_all (λ i. nat_le i calls) ns) h) u
    ] refl t

lower : (n calls : ℕ) → nat_le n calls ≡ true → n < calls + 1
lower n calls h = grind (arith, nat_tests)

-- where it can't be otherwise
or_not : (b : Bool) → (b ≡ false → ⊥) → b ≡ true
or_not true h = refl
or_not false h = absurd (h refl)

given : (c : Core) (n : ℕ) → CoreOk c → (has_number (numbers_of c.out) n ≡ false → ⊥) → n < next_call c
given c n k h = lower n c.calls (below n c.calls (numbers_of c.out) k.agrees.numbers.given (or_not (has_number (numbers_of c.out) n) h))

passed_some : {A : Type 0} (p : A → Bool) (o : Option A) → passes p o ≡ true → o ≡ None → ⊥
passed_some p None h e = absurd (cc)
passed_some p (Some a) h e = absurd (cc)

out_given : (c : Core) (n : ℕ) (p : OutJob → Bool) → CoreOk c → passes p (job_at n c.out) ≡ true → n < next_call c
out_given c n p k h = given c n k (λ e. passed_some p (job_at n c.out) h (no_job n c.out e))

no_wait : (n : ℕ) (xs : List WaitCall) → has_number (calls_of xs) n ≡ false → job_of n xs ≡ None
no_wait n [] t = refl
no_wait n (x ∷ xs) t = ap (λ b. cond b (Some x.job) (job_of n xs)) (or_first (x.call == n) (has_number (calls_of xs) n) t) ∙ no_wait n xs (or_second (x.call == n) (has_number (calls_of xs) n) t)

fewer : (n : ℕ) (xs : List OutCall) → has_number (numbers_of xs) n ≡ false → has_number (wait_numbers xs) n ≡ false
fewer n [] t = refl
fewer n (x ∷ xs) t = by_wait (fewer n xs (or_second (x.call == n) (has_number (numbers_of xs) n) t)) (is_wait x.job)
  where
    by_wait : has_number (wait_numbers xs) n ≡ false → (b : Bool) → has_number (map (λ (o : OutCall). o.call) (cond b (x ∷ filter (λ (o : OutCall). is_wait o.job) xs) (filter (λ (o : OutCall). is_wait o.job) xs))) n ≡ false
    by_wait i true = or_none (x.call == n) (has_number (wait_numbers xs) n) (or_first (x.call == n) (has_number (numbers_of xs) n) t) i
    by_wait i false = i

wait_given : (c : Core) (n : ℕ) (p : WaitJob → Bool) → CoreOk c → passes p (job_of n c.own.waits.out) ≡ true → n < next_call c
wait_given c n p k h =
    given c n k (λ e. passed_some p (job_of n c.own.waits.out) h (no_wait n c.own.waits.out (ap (λ (ns : List ℕ). has_number ns n) k.agrees.numbers.waits ∙ fewer n c.out e)))

-- What stands at a key.

stage_out : (k : List ℕ) (waiting : List WaitCall) (ws : List Write) → list_all (λ w. is_write_out waiting w.stage) ws ≡ true → is_write_out waiting (stage_over k ws) ≡ true
stage_out k waiting [] h = refl
stage_out k waiting (w ∷ ws) h =
    by_test (λ (s : WriteStage). is_write_out waiting s ≡ true) (covers w k) w.stage (stage_over k ws)
    (λ t. and_first (is_write_out waiting w.stage) (list_all (λ v. is_write_out waiting v.stage) ws) h)
    (λ t. stage_out k waiting ws (and_second (is_write_out waiting w.stage) (list_all (λ v. is_write_out waiting v.stage) ws) h))

-- where both number alike what was given
module _ (c : Core) (k : CoreOk c) (own own' : ℕ → ℕ) (alike : (n : ℕ) → n < next_call c → own' n ≡ own n) where
  stage_alike : (s : WriteStage) → is_write_out c.own.waits.out s ≡ true → write_number own' s ≡ write_number own s
  stage_alike Waiting h = refl
  stage_alike (Sends owner (sending.Due since)) h = refl
  stage_alike (Sends owner (sending.Out n)) h = alike n (wait_given c n is_write_job k h)
  stage_alike (Finds found) h = refl

  written_alike : (s : WriteStage) (e : Option Entry) → is_write_out c.own.waits.out s ≡ true → written_by own' s e ≡ written_by own s e
  written_alike s None h = refl
  written_alike s (Some e) h = by e.phase
    where
      by : (p : Phase) → written_in own' s p ≡ written_in own s p
      by Held = refl
      by (Writing revoked) = stage_alike s h
      by (Leaving sent) = refl

  acquired_alike : (i : List ℕ) (o : Option Acquire) → is_acquire_out c.out i o ≡ true → acquired_by own' o ≡ acquired_by own o
  acquired_alike i None h = refl
  acquired_alike i (Some a) h = by a.sending h
    where
      by : (s : Sending) → is_acquire_out c.out i (Some (record a { sending = s })) ≡ true → number_of own' s ≡ number_of own s
      by (sending.Due since) t = refl
      by (sending.Out n) t = alike n (out_given c n (is_acquire_of i) k t)

pub rows_read_sent : RowsReadSent
rows_read_sent c own own' k alike i = λ j. record (slot_of own (at c.own.entries i) (at c.acquires i) (at c.own.waits.spoiled i) (stage_over i c.own.waits.writes)) {
  acquire = acquired_alike c k own own' alike i (at c.acquires i) (k.agrees.out.acquires i) j;
  write = written_alike c k own own' alike (stage_over i c.own.waits.writes) (at c.own.entries i) (stage_out i c.own.waits.out c.own.waits.writes k.agrees.writes.out) j;
}
