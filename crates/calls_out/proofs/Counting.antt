-- What is counted by lease, where a call comes or goes.
use Rattle.std.proofs.Common.{◌≡◌, ℕ, zero, suc, ◌+◌, ◌-◌, ◌<◌, ◌≤◌, Bool, true, false, cond, ◌==◌, ◌||◌, nat_le, IsTrue, [], ◌∷◌, ◌++◌, get_or, set, length, None, Some, is_some, refl, sym, ◌∙◌, ap, subst, add-one, arith}
use Rattle.std.specs.List.{insert, remove}
use Rattle.std.specs.Option.{option_map}
use Rattle.std.proofs.lemmas.Bool.Decides.{nat_tests}
use Rattle.numbered_rows.specs.Numbered.{Numbered, same_number, at, with_at, is_in_order}
use Rattle.numbered_rows.specs.Places.{IsPlace, IsGap}
use Rattle.numbered_rows.proofs.NumberedLaws.{to_T, at-with_at, in_order-with_at}
use Rattle.numbered_rows.proofs.Places.{at-gap, put-gap, without-place, without-gap, changed-place, found-place, in_order-changed}
use Rattle.numbered_rows.proofs.Rows.{one_number}
use Rattle.core_model.specs.declared.out_call.OutCall.{OutCall}
use Rattle.core_model.specs.declared.out_call.OutJob.{OutJob}
use Rattle.core_model.specs.declared.out_call.OutJob.TheVariants as job
use Rattle.core_model.specs.Groups.{is_group_of, is_out_for}
use Rattle.calls_out.specs.Counts.{one_more, one_less, with_more, with_fewer, job_added, job_taken, count_of, some_count, Counted}
use Rattle.calls_out.proofs.Named.{calls}

-- The edits of the counts.

pub in_order-set : (es : Numbered ℕ) (k i n : ℕ) (r : ℕ × ℕ) → IsTrue (is_in_order es) → IsPlace es k i → r ≡ get_or es i r → IsTrue (is_in_order (set es i (r.0, n)))
in_order-set es k i n r s p e =
    subst (λ (rs : Numbered ℕ). IsTrue (is_in_order rs)) (sym (changed-place es k i (λ m. n) r p e)) (in_order-changed es k (λ m. n) s)

pub in_order-insert : (es : Numbered ℕ) (k i n : ℕ) → IsTrue (is_in_order es) → IsGap es k i → IsTrue (is_in_order (insert es i (k, n)))
in_order-insert es k i n s g =
    subst (λ (rs : Numbered ℕ). IsTrue (is_in_order rs)) (put-gap es k n i g) (in_order-with_at es k (Some n) s)

pub in_order-remove : (es : Numbered ℕ) (k i : ℕ) → IsTrue (is_in_order es) → IsPlace es k i → IsTrue (is_in_order (remove es i))
in_order-remove es k i s p =
    subst (λ (rs : Numbered ℕ). IsTrue (is_in_order rs)) (without-place es k i (to_T _ s) p) (in_order-with_at es k None s)

pub more_place : (es : Numbered ℕ) (k i n : ℕ) (r t : ℕ × ℕ) → IsPlace es k i → r ≡ get_or es i r → t ≡ get_or es i t → n ≡ r.1 + 1 → set es i (t.0, n) ≡ with_more k es
more_place es k i n r t p e f g =
    let here : at es k ≡ Some r.1 = sym (found-place es k i r p e) in
    changed-place es k i (λ m. n) t p f ∙ ap (λ o. with_at es k (option_map (λ m. n) o)) here ∙ ap (λ m. with_at es k (Some m)) g ∙ sym (ap (λ o. with_at es k (Some (one_more o))) here)

pub more_gap : (es : Numbered ℕ) (k i : ℕ) → IsTrue (is_in_order es) → IsGap es k i → insert es i (k, 1) ≡ with_more k es
more_gap es k i s g =
    sym (put-gap es k 1 i g) ∙ sym (ap (λ o. with_at es k (Some (one_more o))) (at-gap es k i (to_T _ s) g))

pub last_place : (es : Numbered ℕ) (k i : ℕ) (r : ℕ × ℕ) → IsTrue (is_in_order es) → IsPlace es k i → r ≡ get_or es i r → r.1 ≤ 1 → remove es i ≡ with_fewer k es
last_place es k i r s p e u =
    let l : nat_le r.1 1 ≡ true = grind (arith, nat_tests) in
    let here : at es k ≡ Some r.1 = sym (found-place es k i r p e) in
    sym (ap (λ o. with_at es k (one_less o)) here ∙ ap (λ b. with_at es k (cond b None (Some (r.1 - 1)))) l ∙ without-place es k i (to_T _ s) p)

pub fewer_place : (es : Numbered ℕ) (k i : ℕ) (r t : ℕ × ℕ) → IsPlace es k i → r ≡ get_or es i r → t ≡ get_or es i t → 1 < r.1 → set es i (t.0, r.1 - 1) ≡ with_fewer k es
fewer_place es k i r t p e f u =
    let l : nat_le r.1 1 ≡ false = grind (arith, nat_tests) in
    let here : at es k ≡ Some r.1 = sym (found-place es k i r p e) in
    changed-place es k i (λ n. r.1 - 1) t p f ∙ ap (λ o. with_at es k (option_map (λ n. r.1 - 1) o)) here ∙ sym (ap (λ o. with_at es k (one_less o)) here ∙ ap (λ b. with_at es k (cond b None (Some (r.1 - 1)))) l)

pub none_fewer : (es : Numbered ℕ) (k i : ℕ) → IsTrue (is_in_order es) → IsGap es k i → es ≡ with_fewer k es
none_fewer es k i s g =
    sym (ap (λ o. with_at es k (one_less o)) (at-gap es k i (to_T _ s) g) ∙ without-gap es k i (to_T _ s) g)

-- One call comes or goes.

same_test : (m n : ℕ) → (m == n) ≡ same_number m n
same_test m n = grind (arith, nat_tests)

count-append : (lease call : ℕ) (out : OutCall) (rows : Numbered OutCall) → count_of lease (rows ++ (call, out) ∷ []) ≡ cond (is_group_of lease out.job) (suc (count_of lease rows)) (count_of lease rows)
count-append lease call out [] = refl
count-append lease call out (r ∷ rows) =
    ap (λ n. cond (is_group_of lease r.1.job) (suc n) n) (count-append lease call out rows) ∙ one (is_group_of lease r.1.job) (is_group_of lease out.job) (count_of lease rows)
  where
    one : (b c : Bool) (n : ℕ) → cond b (suc (cond c (suc n) n)) (cond c (suc n) n) ≡ cond c (suc (cond b (suc n) n)) (cond b (suc n) n)
    one true true n = refl
    one true false n = refl
    one false true n = refl
    one false false n = refl

count-remove : (lease : ℕ) (rows : Numbered OutCall) (i : ℕ) (r : ℕ × OutCall) → i < length rows → r ≡ get_or rows i r → count_of lease rows ≡ cond (is_group_of lease r.1.job) (suc (count_of lease (remove rows i))) (count_of lease (remove rows i))
count-remove lease [] i r l e = absurd (omega arith)
count-remove lease (x ∷ rows) zero r l e =
    ap (λ (y : ℕ × OutCall). cond (is_group_of lease y.1.job) (suc (count_of lease rows)) (count_of lease rows)) (sym e)
count-remove lease (x ∷ rows) (suc i) r l e =
    ap (λ n. cond (is_group_of lease x.1.job) (suc n) n) (count-remove lease rows i r (omega arith) e) ∙ one (is_group_of lease x.1.job) (is_group_of lease r.1.job) (count_of lease (remove rows i))
  where
    one : (b c : Bool) (n : ℕ) → cond b (suc (cond c (suc n) n)) (cond c (suc n) n) ≡ cond c (suc (cond b (suc n) n)) (cond b (suc n) n)
    one true true n = refl
    one true false n = refl
    one false true n = refl
    one false false n = refl

one_more_is : (n : ℕ) → Some (one_more (some_count n)) ≡ some_count (suc n)
one_more_is zero = refl
one_more_is (suc n) = ap Some (add-one (suc n))

small : (n : ℕ) → nat_le (suc (suc n)) 1 ≡ false
small n = grind (arith, nat_tests)

one_off : (n : ℕ) → suc (suc n) - 1 ≡ suc n
one_off n = omega arith

one_less_is : (n : ℕ) → one_less (some_count (suc n)) ≡ some_count n
one_less_is zero = refl
one_less_is (suc n) = ap (λ b. cond b None (Some (suc (suc n) - 1))) (small n) ∙ ap Some (one_off n)

added_lease : (rows : Numbered OutCall) (counts : Numbered ℕ) (l lease : ℕ) → Counted rows counts → at (with_more l counts) lease ≡ some_count (cond (l == lease) (suc (count_of lease rows)) (count_of lease rows))
added_lease rows counts l lease h =
    at-with_at counts l lease (Some (one_more (at counts l))) ∙ one (same_number l lease) refl ∙ sym (ap (λ b. some_count (cond b (suc (count_of lease rows)) (count_of lease rows))) (same_test l lease))
  where
    one : (b : Bool) → same_number l lease ≡ b → cond b (Some (one_more (at counts l))) (at counts lease) ≡ some_count (cond b (suc (count_of lease rows)) (count_of lease rows))
    one true e =
        ap (λ o. Some (one_more o)) (h l) ∙ one_more_is (count_of l rows) ∙ ap (λ (k : ℕ). some_count (suc (count_of k rows))) (one_number l lease e)
    one false e = h lease

pub counted-append : (rows : Numbered OutCall) (counts : Numbered ℕ) (call : ℕ) (out : OutCall) → Counted rows counts → Counted (rows ++ (call, out) ∷ []) (job_added out.job counts)
counted-append rows counts call out h = λ lease. of_job out.job lease ∙ sym (ap some_count (count-append lease call out rows))
  where
    of_job : (j : OutJob) (lease : ℕ) → at (job_added j counts) lease ≡ some_count (cond (is_group_of lease j) (suc (count_of lease rows)) (count_of lease rows))
    of_job (job.Grant l) lease = h lease
    of_job (job.Keep l) lease = h lease
    of_job (job.Acquire k) lease = h lease
    of_job job.Wait lease = h lease
    of_job (job.Ask k) lease = h lease
    of_job (job.Group l) lease = added_lease rows counts l lease h

taken_lease : (rows rest : Numbered OutCall) (counts : Numbered ℕ) (l lease : ℕ) → Counted rows counts → ((k : ℕ) → count_of k rows ≡ cond (l == k) (suc (count_of k rest)) (count_of k rest)) → at (with_fewer l counts) lease ≡ some_count (count_of lease rest)
taken_lease rows rest counts l lease h g =
    at-with_at counts l lease (one_less (at counts l)) ∙ one (same_number l lease) refl
  where
    here : (k : ℕ) (b : Bool) → same_number l k ≡ b → at counts k ≡ some_count (cond b (suc (count_of k rest)) (count_of k rest))
    here k b e = h k ∙ ap some_count (g k ∙ ap (λ c. cond c (suc (count_of k rest)) (count_of k rest)) (same_test l k ∙ e))

    one : (b : Bool) → same_number l lease ≡ b → cond b (one_less (at counts l)) (at counts lease) ≡ some_count (count_of lease rest)
    one true e =
        let n : l ≡ lease = one_number l lease e in
        ap (λ (k : ℕ). one_less (at counts k)) n ∙ ap one_less (here lease true e) ∙ one_less_is (count_of lease rest)
    one false e = here lease false e

pub counted-remove : (rows : Numbered OutCall) (counts : Numbered ℕ) (i : ℕ) (r : ℕ × OutCall) → i < length rows → r ≡ get_or rows i r → Counted rows counts → Counted (remove rows i) (job_taken r.1.job counts)
counted-remove rows counts i r l e h =
    λ lease. of_job r.1.job (λ k. count-remove k rows i r l e) lease
  where
    of_job : (j : OutJob) → ((k : ℕ) → count_of k rows ≡ cond (is_group_of k j) (suc (count_of k (remove rows i))) (count_of k (remove rows i))) → (lease : ℕ) → at (job_taken j counts) lease ≡ some_count (count_of lease (remove rows i))
    of_job (job.Grant n) g lease = h lease ∙ ap some_count (g lease)
    of_job (job.Keep n) g lease = h lease ∙ ap some_count (g lease)
    of_job (job.Acquire k) g lease = h lease ∙ ap some_count (g lease)
    of_job job.Wait g lease = h lease ∙ ap some_count (g lease)
    of_job (job.Ask k) g lease = h lease ∙ ap some_count (g lease)
    of_job (job.Group n) g lease = taken_lease rows (remove rows i) counts n lease h g

-- What the counts tell.

some_is : (lease : ℕ) (rows : Numbered OutCall) → is_some (some_count (count_of lease rows)) ≡ is_out_for lease (calls rows)
some_is lease [] = refl
some_is lease (r ∷ rows) = one (is_group_of lease r.1.job) (some_is lease rows)
  where
    one : (b : Bool) → is_some (some_count (count_of lease rows)) ≡ is_out_for lease (calls rows) → is_some (some_count (cond b (suc (count_of lease rows)) (count_of lease rows))) ≡ b || is_out_for lease (calls rows)
    one true h = refl
    one false h = h

pub group_is : (lease : ℕ) (rows : Numbered OutCall) (counts : Numbered ℕ) → Counted rows counts → is_some (at counts lease) ≡ is_out_for lease (calls rows)
group_is lease rows counts h = ap is_some (h lease) ∙ some_is lease rows
