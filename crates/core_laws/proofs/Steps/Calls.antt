-- The calls that are out: one is sent under the next number, or ends.
use Rattle.std.proofs.Common.{◌≡◌, ℕ, ◌+◌, ◌==◌, ◌≤◌, nat_le, Bool, true, false, not, cond, ◌&&◌, ◌||◌, List, [], ◌∷◌, ◌++◌, map, filter, Option, None, Some, refl, sym, ◌∙◌, ap, arith}
use Rattle.std.proofs.lemmas.Bool.Decides.{nat_tests}
use Rattle.std.specs.List.{list_any, list_all}
use Rattle.etcd_types.proofs.Bools.{and_first, and_second, and_both, or_first, or_second, or_none, not_true, and_true}
use Rattle.wait_model.specs.declared.sending.Sending.{Sending}
use Rattle.wait_model.specs.declared.sending.Sending.TheVariants as sending
use Rattle.wait_model.specs.declared.wait.WaitCall.{WaitCall}
use Rattle.wait_model.specs.Writes.{job_of, without_call}
use Rattle.core_model.specs.declared.out_call.OutCall.{OutCall}
use Rattle.core_model.specs.declared.out_call.OutJob.{OutJob}
use Rattle.core_model.specs.Fits.{has_number, once, job_at, passes, is_out_to, numbers_of, is_wait, wait_numbers, calls_of, NumbersOk}
use Rattle.core_model.specs.Lookups.{is_out_as, out_at, without_out}
use Rattle.core_laws.proofs.Steps.Lists.{and_turned, same_number, number_itself, number_turned, all_kept, all_pushed, once_filtered, once_pushed, map_pushed, but, but_none, but_numbers, filtered_again}

-- What a call is for.

pub job_grown : (p : OutJob → Bool) (n : ℕ) (x : OutCall) (out : List OutCall) → passes p (job_at n out) ≡ true → passes p (job_at n (out ++ x ∷ [])) ≡ true
job_grown p n x [] h = absurd (cc)
job_grown p n x (o ∷ rest) h = by_head (λ t. job_grown p n x rest t) (o.call == n) h
  where
    by_head : (passes p (job_at n rest) ≡ true → passes p (job_at n (rest ++ x ∷ [])) ≡ true) → (b : Bool) → passes p (cond b (Some o.job) (job_at n rest)) ≡ true → passes p (cond b (Some o.job) (job_at n (rest ++ x ∷ []))) ≡ true
    by_head i true h = h
    by_head i false h = i h

pub job_last : (x : OutCall) (out : List OutCall) → job_at x.call out ≡ None → job_at x.call (out ++ x ∷ []) ≡ Some x.job
job_last x [] h = ap (λ b. cond b (Some x.job) None) (number_itself x.call)
job_last x (o ∷ rest) h = by_head (λ t. job_last x rest t) (o.call == x.call) h
  where
    by_head : (job_at x.call rest ≡ None → job_at x.call (rest ++ x ∷ []) ≡ Some x.job) → (b : Bool) → cond b (Some o.job) (job_at x.call rest) ≡ None → cond b (Some o.job) (job_at x.call (rest ++ x ∷ [])) ≡ Some x.job
    by_head i true h = absurd (cc)
    by_head i false h = i h

pub job_without : (m n : ℕ) (out : List OutCall) → (m == n) ≡ false → job_at m (without_out n out) ≡ job_at m out
job_without m n [] e = refl
job_without m n (o ∷ rest) e = by_head (job_without m n rest e) (o.call == n) refl
  where
    by_head : job_at m (without_out n rest) ≡ job_at m rest → (b : Bool) → (o.call == n) ≡ b → job_at m (cond (not b) (o ∷ without_out n rest) (without_out n rest)) ≡ cond (o.call == m) (Some o.job) (job_at m rest)
    by_head i true t = i ∙ sym (ap (λ d. cond d (Some o.job) (job_at m rest)) (ap (λ i. i == m) (same_number o.call n t) ∙ number_turned m n e))
    by_head i false t = ap (λ x. cond (o.call == m) (Some o.job) x) i

pub record IsFound (n : ℕ) (o : OutCall) (out : List OutCall) : Type 0 where
  pub number : o.call ≡ n
  pub job : job_at n out ≡ Some o.job

pub found_is : (n : ℕ) (o : OutCall) (out : List OutCall) → out_at n out ≡ Some o → IsFound n o out
found_is n o [] h = absurd (cc)
found_is n o (x ∷ rest) h = by_head (λ t. found_is n o rest t) (x.call == n) refl h
  where
    or_first_one : OutCall → Option OutCall → OutCall
    or_first_one d None = d
    or_first_one d (Some y) = y

    by_head : (out_at n rest ≡ Some o → IsFound n o rest) → (b : Bool) → (x.call == n) ≡ b → cond b (Some x) (out_at n rest) ≡ Some o → IsFound n o (x ∷ rest)
    by_head i true t h =
        let e : x ≡ o = ap (or_first_one x) h in
        record { number = ap (λ (y : OutCall). y.call) (sym e) ∙ same_number x.call n t; job = ap (λ b. cond b (Some x.job) (job_at n rest)) t ∙ ap (λ (y : OutCall). Some y.job) e }
    by_head i false t h =
        let f = i h in
        record { number = f.number; job = ap (λ b. cond b (Some x.job) (job_at n rest)) t ∙ f.job }

-- the one of a number is the only one
pub only_found : (n : ℕ) (p : OutJob → Bool) (j : OutJob) (out : List OutCall) → once (numbers_of out) ≡ true → job_at n out ≡ Some j → p j ≡ false → list_any (λ o. (o.call == n) && p o.job) out ≡ false
only_found n p j [] u h e = refl
only_found n p j (o ∷ rest) u h e = by_head (λ t. only_found n p j rest (and_second (not (has_number (numbers_of rest) o.call)) (once (numbers_of rest)) u) t e) (o.call == n) refl h
  where
    some_job : OutJob → Option OutJob → OutJob
    some_job d None = d
    some_job d (Some i) = i

    none : (xs : List OutCall) → has_number (numbers_of xs) n ≡ false → list_any (λ o. (o.call == n) && p o.job) xs ≡ false
    none [] t = refl
    none (x ∷ xs) t =
        or_none ((x.call == n) && p x.job) (list_any (λ o. (o.call == n) && p o.job) xs) (ap (λ b. b && p x.job) (or_first (x.call == n) (has_number (numbers_of xs) n) t)) (none xs (or_second (x.call == n) (has_number (numbers_of xs) n) t))

    by_head : (job_at n rest ≡ Some j → list_any (λ x. (x.call == n) && p x.job) rest ≡ false) → (b : Bool) → (o.call == n) ≡ b → cond b (Some o.job) (job_at n rest) ≡ Some j → (b && p o.job) || list_any (λ x. (x.call == n) && p x.job) rest ≡ false
    by_head i true t h =
        or_none (p o.job) (list_any (λ x. (x.call == n) && p x.job) rest) (ap p (ap (some_job o.job) h) ∙ e)
        (none rest (ap (has_number (numbers_of rest)) (sym (same_number o.call n t)) ∙ not_true (has_number (numbers_of rest) o.call) (and_first (not (has_number (numbers_of rest) o.call)) (once (numbers_of rest)) u)))
    by_head i false t h = i h

-- the next number is new
pub not_given : (calls : ℕ) (out : List OutCall) → list_all (λ n. nat_le n calls) (numbers_of out) ≡ true → has_number (numbers_of out) (calls + 1) ≡ false
not_given calls [] h = refl
not_given calls (o ∷ rest) h =
    or_none (o.call == calls + 1) (has_number (numbers_of rest) (calls + 1)) (below o.call calls (and_first (nat_le o.call calls) (list_all (λ n. nat_le n calls) (numbers_of rest)) h)) (not_given calls rest (and_second (nat_le o.call calls) (list_all (λ n. nat_le n calls) (numbers_of rest)) h))
  where
    below : (a b : ℕ) → nat_le a b ≡ true → (a == b + 1) ≡ false
    below a b t = grind (arith, nat_tests)

pub no_job : (n : ℕ) (out : List OutCall) → has_number (numbers_of out) n ≡ false → job_at n out ≡ None
no_job n [] h = refl
no_job n (o ∷ rest) h = ap (λ b. cond b (Some o.job) (job_at n rest)) (or_first (o.call == n) (has_number (numbers_of rest) n) h) ∙ no_job n rest (or_second (o.call == n) (has_number (numbers_of rest) n) h)

pub is_new : (calls : ℕ) (out : List OutCall) (waiting : List WaitCall) → NumbersOk calls out waiting → job_at (calls + 1) out ≡ None
is_new calls out waiting h = no_job (calls + 1) out (not_given calls out h.given)

-- nor is it a write's
pub is_new_wait : (calls : ℕ) (out : List OutCall) (waiting : List WaitCall) → NumbersOk calls out waiting → job_of (calls + 1) waiting ≡ None
is_new_wait calls out waiting h = none waiting (ap (λ ns. has_number ns (calls + 1)) h.waits ∙ fewer out (not_given calls out h.given))
  where
    none : (xs : List WaitCall) → has_number (calls_of xs) (calls + 1) ≡ false → job_of (calls + 1) xs ≡ None
    none [] t = refl
    none (x ∷ xs) t = ap (λ b. cond b (Some x.job) (job_of (calls + 1) xs)) (or_first (x.call == calls + 1) (has_number (calls_of xs) (calls + 1)) t) ∙ none xs (or_second (x.call == calls + 1) (has_number (calls_of xs) (calls + 1)) t)

    fewer : (xs : List OutCall) → has_number (numbers_of xs) (calls + 1) ≡ false → has_number (wait_numbers xs) (calls + 1) ≡ false
    fewer [] t = refl
    fewer (x ∷ xs) t = by_wait (fewer xs (or_second (x.call == calls + 1) (has_number (numbers_of xs) (calls + 1)) t)) (is_wait x.job)
      where
        by_wait : has_number (wait_numbers xs) (calls + 1) ≡ false → (b : Bool) → has_number (map (λ (o : OutCall). o.call) (cond b (x ∷ filter (λ (o : OutCall). is_wait o.job) xs) (filter (λ (o : OutCall). is_wait o.job) xs))) (calls + 1) ≡ false
        by_wait i true = or_none (x.call == calls + 1) (has_number (wait_numbers xs) (calls + 1)) (or_first (x.call == calls + 1) (has_number (numbers_of xs) (calls + 1)) t) i
        by_wait i false = i

-- Sendings.

pub out_grown : (p : OutJob → Bool) (x : OutCall) (out : List OutCall) (s : Sending) → is_out_to p out s ≡ true → is_out_to p (out ++ x ∷ []) s ≡ true
out_grown p x out (sending.Due since) h = refl
out_grown p x out (sending.Out n) h = job_grown p n x out h

pub out_left : (p : OutJob → Bool) (n : ℕ) (out : List OutCall) (s : Sending) → is_out_as n s ≡ false → is_out_to p out s ≡ true → is_out_to p (without_out n out) s ≡ true
out_left p n out (sending.Due since) e h = refl
out_left p n out (sending.Out m) e h = ap (passes p) (job_without m n out e) ∙ h

-- a call that is for something else isn't its
pub not_its : (p : OutJob → Bool) (n : ℕ) (j : OutJob) (out : List OutCall) (s : Sending) → job_at n out ≡ Some j → p j ≡ false → is_out_to p out s ≡ true → is_out_as n s ≡ false
not_its p n j out (sending.Due since) f e h = refl
not_its p n j out (sending.Out m) f e h = by_value (m == n) refl
  where
    by_value : (b : Bool) → (m == n) ≡ b → (m == n) ≡ false
    by_value true t = absurd (let u = sym h ∙ ap (λ i. passes p (job_at i out)) (same_number m n t) ∙ ap (passes p) f ∙ e in cc)
    by_value false t = t

pub out_other : (p : OutJob → Bool) (n : ℕ) (j : OutJob) (out : List OutCall) (s : Sending) → job_at n out ≡ Some j → p j ≡ false → is_out_to p out s ≡ true → is_out_to p (without_out n out) s ≡ true
out_other p n j out s f e h = out_left p n out s (not_its p n j out s f e h) h

-- The numbers.

all_given : (calls more : ℕ) (ns : List ℕ) → calls ≤ more → list_all (λ n. nat_le n calls) ns ≡ true → list_all (λ n. nat_le n more) ns ≡ true
all_given calls more ns l h = all_kept (λ n. nat_le n calls) (λ n. nat_le n more) (λ n t. grind (arith, nat_tests)) ns h

wait_pushed : (x : OutCall) (out : List OutCall) → wait_numbers (out ++ x ∷ []) ≡ wait_numbers out ++ cond (is_wait x.job) (x.call ∷ []) []
wait_pushed x [] = by_wait (is_wait x.job)
  where
    by_wait : (b : Bool) → map (λ (o : OutCall). o.call) (cond b (x ∷ []) []) ≡ cond b (x.call ∷ []) []
    by_wait true = refl
    by_wait false = refl
wait_pushed x (o ∷ rest) = by_wait (wait_pushed x rest) (is_wait o.job)
  where
    by_wait : wait_numbers (rest ++ x ∷ []) ≡ wait_numbers rest ++ cond (is_wait x.job) (x.call ∷ []) [] → (b : Bool) → map (λ (o : OutCall). o.call) (cond b (o ∷ filter (λ (o : OutCall). is_wait o.job) (rest ++ x ∷ [])) (filter (λ (o : OutCall). is_wait o.job) (rest ++ x ∷ []))) ≡ map (λ (o : OutCall). o.call) (cond b (o ∷ filter (λ (o : OutCall). is_wait o.job) rest) (filter (λ (o : OutCall). is_wait o.job) rest)) ++ cond (is_wait x.job) (x.call ∷ []) []
    by_wait i true = ap (λ l. o.call ∷ l) i
    by_wait i false = i

-- one is sent, and stands with the writes' where it is one of theirs
pub numbers_sent : (calls : ℕ) (x : OutCall) (out : List OutCall) (waiting then : List WaitCall) → x.call ≡ calls + 1 → calls_of then ≡ calls_of waiting ++ cond (is_wait x.job) (x.call ∷ []) [] → NumbersOk calls out waiting → NumbersOk (calls + 1) (out ++ x ∷ []) then
numbers_sent calls x out waiting then e w h = record {
  once = ap once (map_pushed (λ (o : OutCall). o.call) x out) ∙ once_pushed x.call (numbers_of out) h.once (ap (has_number (numbers_of out)) e ∙ not_given calls out h.given);
  given = ap (list_all (λ n. nat_le n (calls + 1))) (map_pushed (λ (o : OutCall). o.call) x out) ∙ all_pushed (λ n. nat_le n (calls + 1)) x.call (numbers_of out) (all_given calls (calls + 1) (numbers_of out) (grind arith) h.given) (last x.call (calls + 1) e);
  waits = w ∙ ap (λ l. l ++ cond (is_wait x.job) (x.call ∷ []) []) h.waits ∙ sym (wait_pushed x out);
}
  where
    last : (a b : ℕ) → a ≡ b → nat_le a b ≡ true
    last a b t = grind (arith, nat_tests)

once_without : (n : ℕ) (waiting : List WaitCall) → once (calls_of waiting) ≡ true → calls_of (without_call n waiting) ≡ but n (calls_of waiting)
once_without n [] h = refl
once_without n (x ∷ xs) h = by_head (once_without n xs (and_second (not (has_number (calls_of xs) x.call)) (once (calls_of xs)) h)) (x.call == n) refl
  where
    new : has_number (calls_of xs) x.call ≡ false
    new = not_true (has_number (calls_of xs) x.call) (and_first (not (has_number (calls_of xs) x.call)) (once (calls_of xs)) h)

    by_head : calls_of (without_call n xs) ≡ but n (calls_of xs) → (b : Bool) → (x.call == n) ≡ b → calls_of (cond b xs (x ∷ without_call n xs)) ≡ cond (not b) (x.call ∷ but n (calls_of xs)) (but n (calls_of xs))
    by_head i true t = sym (but_none n (calls_of xs) (ap (has_number (calls_of xs)) (sym (same_number x.call n t)) ∙ new))
    by_head i false t = ap (λ l. x.call ∷ l) i

waits_without : (n : ℕ) (out : List OutCall) → wait_numbers (without_out n out) ≡ but n (wait_numbers out)
waits_without n out = ap (map (λ (o : OutCall). o.call)) (filtered_again (λ (o : OutCall). is_wait o.job) (λ (o : OutCall). not (o.call == n)) out ∙ turned out) ∙ sym (but_numbers (λ (o : OutCall). o.call) n (λ (o : OutCall). is_wait o.job) out)
  where
    turned : (xs : List OutCall) → filter (λ (o : OutCall). not (o.call == n) && is_wait o.job) xs ≡ filter (λ (o : OutCall). is_wait o.job && not (o.call == n)) xs
    turned [] = refl
    turned (x ∷ xs) =
        ap (λ b. cond b (x ∷ filter (λ (o : OutCall). not (o.call == n) && is_wait o.job) xs) (filter (λ (o : OutCall). not (o.call == n) && is_wait o.job) xs)) (and_turned (not (x.call == n)) (is_wait x.job))
        ∙ ap (λ l. cond (is_wait x.job && not (x.call == n)) (x ∷ l) l) (turned xs)

numbers_left : (calls n : ℕ) (out : List OutCall) (waiting then : List WaitCall) → calls_of then ≡ wait_numbers (without_out n out) → NumbersOk calls out waiting → NumbersOk calls (without_out n out) then
numbers_left calls n out waiting then w h = record { once = once_filtered (λ (o : OutCall). o.call) (λ (o : OutCall). not (o.call == n)) out h.once; given = fewer out h.given; waits = w }
  where
    fewer : (xs : List OutCall) → list_all (λ m. nat_le m calls) (numbers_of xs) ≡ true → list_all (λ m. nat_le m calls) (numbers_of (without_out n xs)) ≡ true
    fewer [] t = refl
    fewer (x ∷ xs) t = by_head (fewer xs (and_second (nat_le x.call calls) (list_all (λ m. nat_le m calls) (numbers_of xs)) t)) (not (x.call == n))
      where
        by_head : list_all (λ m. nat_le m calls) (numbers_of (without_out n xs)) ≡ true → (b : Bool) → list_all (λ m. nat_le m calls) (numbers_of (cond b (x ∷ without_out n xs) (without_out n xs))) ≡ true
        by_head i true = and_both (nat_le x.call calls) (list_all (λ m. nat_le m calls) (numbers_of (without_out n xs))) (and_first (nat_le x.call calls) (list_all (λ m. nat_le m calls) (numbers_of xs)) t) i
        by_head i false = i

-- a call of a write ends
pub numbers_wait : (calls n : ℕ) (out : List OutCall) (waiting : List WaitCall) → NumbersOk calls out waiting → NumbersOk calls (without_out n out) (without_call n waiting)
numbers_wait calls n out waiting h =
    numbers_left calls n out waiting (without_call n waiting) (once_without n waiting (ap once h.waits ∙ once_filtered (λ (o : OutCall). o.call) (λ (o : OutCall). is_wait o.job) out h.once) ∙ ap (but n) h.waits ∙ sym (waits_without n out)) h

-- or another one
pub numbers_other : (calls n : ℕ) (j : OutJob) (out : List OutCall) (waiting : List WaitCall) → job_at n out ≡ Some j → is_wait j ≡ false → NumbersOk calls out waiting → NumbersOk calls (without_out n out) waiting
numbers_other calls n j out waiting f e h = numbers_left calls n out waiting waiting (h.waits ∙ sym (but_none n (wait_numbers out) (none out (only_found n is_wait j out h.once f e))) ∙ sym (waits_without n out)) h
  where
    none : (xs : List OutCall) → list_any (λ o. (o.call == n) && is_wait o.job) xs ≡ false → has_number (wait_numbers xs) n ≡ false
    none [] t = refl
    none (x ∷ xs) t = by_wait (none xs (or_second ((x.call == n) && is_wait x.job) (list_any (λ o. (o.call == n) && is_wait o.job) xs) t)) (is_wait x.job) refl
      where
        by_wait : has_number (wait_numbers xs) n ≡ false → (b : Bool) → is_wait x.job ≡ b → has_number (map (λ (o : OutCall). o.call) (cond b (x ∷ filter (λ (o : OutCall). is_wait o.job) xs) (filter (λ (o : OutCall). is_wait o.job) xs))) n ≡ false
        by_wait rest true w = or_none (x.call == n) (has_number (wait_numbers xs) n) (sym (and_true (x.call == n)) ∙ ap (λ b. (x.call == n) && b) (sym w) ∙ or_first ((x.call == n) && is_wait x.job) (list_any (λ o. (o.call == n) && is_wait o.job) xs) t) rest
        by_wait rest false w = rest
