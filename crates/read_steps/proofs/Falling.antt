-- Due acquires that fall with the requests that they are for.
use Rattle.std.proofs.Common.{◌≡◌, ℕ, Bool, true, false, ◌&&◌, List, None, refl, sym, ◌∙◌, ap, subst}
use Rattle.etcd_types.specs.Keys.{same}
use Rattle.etcd_types.proofs.Bools.{and_first, and_second}
use Rattle.etcd_types.proofs.KeyOrder.{same-equal}
use Rattle.proxy_model.specs.Keyed.{Keyed, at, with_at}
use Rattle.wait_model.specs.Edits.{without}
use Rattle.read_model.specs.declared.acquire.Acquire.{Acquire}
use Rattle.read_model.specs.declared.asked.Asked.{Asked}
use Rattle.read_model.specs.Acquires.{is_acquiring}
use Rattle.read_model.specs.PlainRead.{ask_key}
use Rattle.read_model.specs.SessionEnd.{is_due_acquire}
use Rattle.read_steps.specs.Over.{falls_with}
use Rattle.read_steps.proofs.Without.{without_same, without_none}

both : (b c : Bool) → b ≡ true → c ≡ true → b && c ≡ true
both true true e f = refl
both true false e f = f
both false c e f = e

neither : (b : Bool) → b && false ≡ false
neither true = refl
neither false = refl

-- the request acquires, and its key's acquire is due: that falls
own_falls : (a : Asked) (acquires : Keyed Acquire) → is_acquiring a.stage ≡ true → is_due_acquire (at acquires (ask_key a)) ≡ true → (k : List ℕ) → same (ask_key a) k ≡ falls_with a acquires k
own_falls a acquires s d k =
    elim (same (ask_key a) k) as (λ b. same (ask_key a) k ≡ b → b ≡ (is_acquiring a.stage && b) && is_due_acquire (at acquires k)) [
      | true ↦ λ t. sym (both (is_acquiring a.stage && true) (is_due_acquire (at acquires k)) (both (is_acquiring a.stage) true s refl) (subst (λ (j : List ℕ). is_due_acquire (at acquires j) ≡ true) (same-equal (ask_key a) k t) d))
      | false ↦ λ t. sym (ap (λ b. b && is_due_acquire (at acquires k)) (neither (is_acquiring a.stage)))
    ] refl

pub due_falls : {A : Type 0} (a : Asked) (acquires : Keyed Acquire) (es : Keyed A) (k : List ℕ) → k ≡ ask_key a → is_acquiring a.stage && is_due_acquire (at acquires (ask_key a)) ≡ true → with_at es k None ≡ without (falls_with a acquires) es
due_falls a acquires es k e t =
    ap (λ (j : List ℕ). with_at es j None) e
    ∙ without_same (same (ask_key a)) (falls_with a acquires) es (own_falls a acquires (and_first (is_acquiring a.stage) (is_due_acquire (at acquires (ask_key a))) t) (and_second (is_acquiring a.stage) (is_due_acquire (at acquires (ask_key a))) t))

-- it acquires nothing, or what is not due
pub none_falls : {A : Type 0} (a : Asked) (acquires : Keyed Acquire) (es : Keyed A) → is_acquiring a.stage && is_due_acquire (at acquires (ask_key a)) ≡ false → es ≡ without (falls_with a acquires) es
none_falls a acquires es n = sym (without_none (falls_with a acquires) es none)
  where
    of_tests : (b c d : Bool) (k : List ℕ) → (c ≡ true → ask_key a ≡ k) → b && is_due_acquire (at acquires (ask_key a)) ≡ false → (b && c) && is_due_acquire (at acquires k) ≡ false
    of_tests true true d k e f = subst (λ (j : List ℕ). is_due_acquire (at acquires j) ≡ false) (e refl) f
    of_tests true false d k e f = refl
    of_tests false c d k e f = refl

    none : (k : List ℕ) → falls_with a acquires k ≡ false
    none k = of_tests (is_acquiring a.stage) (same (ask_key a) k) true k (λ t. same-equal (ask_key a) k t) n
