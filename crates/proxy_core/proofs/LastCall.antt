-- The number of the next call is above those that are out; a call that was put out last and is taken out again leaves the others.
use Rattle.std.proofs.Common.{◌≡◌, ◌<◌, ℕ, ◌+◌, ◌-◌, ◌^◌, ◌==◌, nat_le, nat_lt, true, false, not, cond, List, [], ◌∷◌, ◌++◌, refl, ◌∙◌, ap, arith}
use Rattle.std.proofs.lemmas.Bool.Decides.{nat_tests}
use Rattle.std.specs.List.{list_all}
use Rattle.etcd_types.proofs.Bools.{and_first, and_second, and_both}
use Rattle.core_model.specs.declared.out_call.OutCall.{OutCall}
use Rattle.core_model.specs.declared.out_call.OutJob.{OutJob}
use Rattle.core_model.specs.Fits.{numbers_of, CoreOk}
use Rattle.core_model.specs.Lookups.{without_out}
use Rattle.core_model.specs.Sending.{next_call, out_call}
use Rattle.core_model.specs.State.{Core}
use Rattle.calls_out.specs.Calls.{all_below}
use Rattle.core_machine.specs.Keeping.{Kept, on}
use Rattle.proxy_core.specs.Calls.{CanSend, with_call, without_last}

above : (n calls : ℕ) → nat_le n calls ≡ true → nat_lt n (calls + 1) ≡ true
above n calls h = grind (arith, nat_tests)

all_are_below : (calls : ℕ) (out : List OutCall) → list_all (λ n. nat_le n calls) (numbers_of out) ≡ true → all_below (calls + 1) out ≡ true
all_are_below calls [] h = refl
all_are_below calls (o ∷ rest) h =
    and_both (nat_lt o.call (calls + 1)) (all_below (calls + 1) rest) (above o.call calls (and_first (nat_le o.call calls) (list_all (λ n. nat_le n calls) (numbers_of rest)) h))
    (all_are_below calls rest (and_second (nat_le o.call calls) (list_all (λ n. nat_le n calls) (numbers_of rest)) h))

few : (calls steps : ℕ) → nat_le calls steps ≡ true → steps < 2 ^ 62 → calls < 2 ^ 63
few calls steps h l = grind (arith, nat_tests)

pub can_send : (c : Core) → CoreOk c → c.steps < 2 ^ 62 → CanSend c
can_send c h l = record { below = all_are_below c.calls c.out h.agrees.numbers.given; bound = few c.calls c.steps h.given_steps l }

-- Taken out again.

other : (n call : ℕ) → nat_lt n call ≡ true → (n == call) ≡ false
other n call h = grind (arith, nat_tests)

itself : (n : ℕ) → (n == n) ≡ true
itself n = grind (arith, nat_tests)

pub taken_back : (o : OutCall) (out : List OutCall) → all_below o.call out ≡ true → without_out o.call (out ++ o ∷ []) ≡ out
taken_back o [] h = ap (λ b. cond (not b) (o ∷ []) []) (itself o.call)
taken_back o (x ∷ rest) h =
    ap (λ b. cond (not b) (x ∷ without_out o.call (rest ++ o ∷ [])) (without_out o.call (rest ++ o ∷ []))) (other x.call o.call (and_first (nat_lt x.call o.call) (all_below o.call rest) h))
    ∙ ap (λ l. x ∷ l) (taken_back o rest (and_second (nat_lt x.call o.call) (all_below o.call rest) h))

-- a call that was put out and is taken out again leaves all as it was
pub put_back : (now : ℕ) (j : OutJob) (k m : Kept) → CanSend k.core → m ≡ on k (with_call now j k.core) → on m (without_last m.core) ≡ k
put_back now j k m h e = ap (λ (x : Kept). on x (without_last x.core)) e ∙ back
  where
    fewer : (n : ℕ) → (n + 1) - 1 ≡ n
    fewer n = omega arith

    back : on k (without_last (with_call now j k.core)) ≡ k
    back =
        ap (λ (n : ℕ). on k (record k.core { calls = n; out = without_out (next_call k.core) (k.core.out ++ out_call now j k.core ∷ []) })) (fewer k.core.calls)
        ∙ ap (λ (o : List OutCall). on k (record k.core { out = o })) (taken_back (out_call now j k.core) k.core.out h.below)
