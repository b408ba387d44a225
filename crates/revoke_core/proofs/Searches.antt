-- What the place of the first that is looked for says of the list.
use Rattle.std.proofs.Common.{◌≡◌, ℕ, zero, suc, ◌<◌, Bool, true, false, cond, ◌==◌, List, [], ◌∷◌, length, take, get_or, set, Option, None, Some, refl, ◌∙◌, ap, arith}
use Rattle.std.specs.List.{list_any, remove}
use Rattle.std.proofs.lemmas.Bool.Decides.{nat_tests}
use Rattle.etcd_types.proofs.Bools.{or_first, or_second}
use Rattle.wait_model.specs.declared.wait.WaitCall.{WaitCall}
use Rattle.wait_model.specs.declared.wait.WaitJob.{WaitJob}
use Rattle.wait_model.specs.declared.write.Write.{Write}
use Rattle.wait_model.specs.declared.write.WriteStage.{WriteStage}
use Rattle.wait_model.specs.Stages.{staged}
use Rattle.wait_model.specs.Writes.{first_by, without_first, with_first, job_of, without_call}
use Rattle.revoke_core.specs.Steps.{IsFirst, is_call, IsCall}

pub cond_true : {A : Type 0} (b : Bool) (x y : A) → b ≡ true → cond b x y ≡ x
cond_true true x y e = refl
cond_true false x y e = absurd (cc)

pub cond_false : {A : Type 0} (b : Bool) (x y : A) → b ≡ false → cond b x y ≡ y
cond_false true x y e = absurd (cc)
cond_false false x y e = refl

-- Writes.

pub first_place : (p : Write → Bool) (ws : List Write) (i : ℕ) (d : Write) → i < length ws → list_any p (take i ws) ≡ false → p (get_or ws i d) ≡ true → IsFirst p ws i
first_place p [] i d l n t = absurd (omega arith)
first_place p (w ∷ ws) zero d l n t = t
first_place p (w ∷ ws) (suc i) d l n t = (or_first (p w) (list_any p (take i ws)) n, first_place p ws i d (omega arith) (or_second (p w) (list_any p (take i ws)) n) t)

pub none_place : (p : Write → Bool) (ws : List Write) → list_any p ws ≡ false → first_by p ws ≡ None
none_place p [] n = refl
none_place p (w ∷ ws) n = cond_false (p w) (Some w) (first_by p ws) (or_first (p w) (list_any p ws) n) ∙ none_place p ws (or_second (p w) (list_any p ws) n)

pub found_first : (p : Write → Bool) (ws : List Write) (i : ℕ) (d : Write) → IsFirst p ws i → first_by p ws ≡ Some (get_or ws i d)
found_first p [] i d f = absurd f
found_first p (w ∷ ws) zero d f = cond_true (p w) (Some w) (first_by p ws) f
found_first p (w ∷ ws) (suc i) d f = cond_false (p w) (Some w) (first_by p ws) f.0 ∙ found_first p ws i d f.1

pub removed_first : (p : Write → Bool) (ws : List Write) (i : ℕ) → IsFirst p ws i → without_first p ws ≡ remove ws i
removed_first p [] i f = absurd f
removed_first p (w ∷ ws) zero f = cond_true (p w) ws (w ∷ without_first p ws) f
removed_first p (w ∷ ws) (suc i) f = cond_false (p w) ws (w ∷ without_first p ws) f.0 ∙ ap (λ (vs : List Write). w ∷ vs) (removed_first p ws i f.1)

pub staged_first : (p : Write → Bool) (stage : WriteStage) (ws : List Write) (i : ℕ) (d : Write) → IsFirst p ws i → with_first p stage ws ≡ set ws i (staged (get_or ws i d) stage)
staged_first p stage [] i d f = absurd f
staged_first p stage (w ∷ ws) zero d f = cond_true (p w) (staged w stage ∷ ws) (w ∷ with_first p stage ws) f
staged_first p stage (w ∷ ws) (suc i) d f =
    cond_false (p w) (staged w stage ∷ ws) (w ∷ with_first p stage ws) f.0 ∙ ap (λ (vs : List Write). w ∷ vs) (staged_first p stage ws i d f.1)

none_head : (b : Bool) (w : Write) (o : Option Write) → cond b (Some w) o ≡ None → (b ≡ false) × (o ≡ None)
none_head true w o e = absurd (cc)
none_head false w o e = (refl, e)

pub none_removed : (p : Write → Bool) (ws : List Write) → first_by p ws ≡ None → without_first p ws ≡ ws
none_removed p [] e = refl
none_removed p (w ∷ ws) e =
    let h = none_head (p w) w (first_by p ws) e in
    cond_false (p w) ws (w ∷ without_first p ws) h.0 ∙ ap (λ (vs : List Write). w ∷ vs) (none_removed p ws h.1)

-- Calls.

pub equal_numbers : (n m : ℕ) → n ≡ m → (n == m) ≡ true
equal_numbers n m e = grind (arith, nat_tests)

pub first_call : (call : ℕ) (cs : List WaitCall) (i : ℕ) (d : WaitCall) → i < length cs → list_any (is_call call) (take i cs) ≡ false → is_call call (get_or cs i d) ≡ true → IsCall call cs i
first_call call [] i d l n t = absurd (omega arith)
first_call call (c ∷ cs) zero d l n t = t
first_call call (c ∷ cs) (suc i) d l n t = (or_first (is_call call c) (list_any (is_call call) (take i cs)) n, first_call call cs i d (omega arith) (or_second (is_call call c) (list_any (is_call call) (take i cs)) n) t)

pub none_call : (call : ℕ) (cs : List WaitCall) → list_any (is_call call) cs ≡ false → job_of call cs ≡ None
none_call call [] n = refl
none_call call (c ∷ cs) n =
    cond_false (is_call call c) (Some c.job) (job_of call cs) (or_first (is_call call c) (list_any (is_call call) cs) n) ∙ none_call call cs (or_second (is_call call c) (list_any (is_call call) cs) n)

pub found_call : (call : ℕ) (cs : List WaitCall) (i : ℕ) (d : WaitCall) → IsCall call cs i → job_of call cs ≡ Some (get_or cs i d).job
found_call call [] i d f = absurd f
found_call call (c ∷ cs) zero d f = cond_true (is_call call c) (Some c.job) (job_of call cs) f
found_call call (c ∷ cs) (suc i) d f = cond_false (is_call call c) (Some c.job) (job_of call cs) f.0 ∙ found_call call cs i d f.1

pub removed_call : (call : ℕ) (cs : List WaitCall) (i : ℕ) → IsCall call cs i → without_call call cs ≡ remove cs i
removed_call call [] i f = absurd f
removed_call call (c ∷ cs) zero f = cond_true (is_call call c) cs (c ∷ without_call call cs) f
removed_call call (c ∷ cs) (suc i) f =
    cond_false (is_call call c) cs (c ∷ without_call call cs) f.0 ∙ ap (λ (ds : List WaitCall). c ∷ ds) (removed_call call cs i f.1)

none_head_call : (b : Bool) (j : WaitJob) (o : Option WaitJob) → cond b (Some j) o ≡ None → (b ≡ false) × (o ≡ None)
none_head_call true j o e = absurd (cc)
none_head_call false j o e = (refl, e)

pub none_removed_call : (call : ℕ) (cs : List WaitCall) → job_of call cs ≡ None → without_call call cs ≡ cs
none_removed_call call [] e = refl
none_removed_call call (c ∷ cs) e =
    let h = none_head_call (is_call call c) c.job (job_of call cs) e in
    cond_false (is_call call c) cs (c ∷ without_call call cs) h.0 ∙ ap (λ (ds : List WaitCall). c ∷ ds) (none_removed_call call cs h.1)
