-- What is put where nothing stood and taken out again leaves all as it was.
use Rattle.std.proofs.Common.{◌≡◌, ℕ, Bool, true, false, cond, IsTrue, List, Some, None, refl, sym, ◌∙◌, ap, subst}
use Rattle.etcd_types.specs.Keys.{same}
use Rattle.etcd_types.proofs.KeyOrder.{same-equal}
use Rattle.proxy_model.specs.Keyed.{Keyed}
use Rattle.proxy_model.specs.Keyed as keyed
use Rattle.proxy_model.proofs.KeyedLaws as keyed_laws

pub undone : (es : Keyed ℕ) (k : List ℕ) (n : ℕ) → IsTrue (keyed.is_in_order es) → keyed.at es k ≡ None → keyed.with_at (keyed.with_at es k (Some n)) k None ≡ es
undone es k n s e =
    keyed_laws.same_keyed (keyed.with_at (keyed.with_at es k (Some n)) k None) es (keyed_laws.in_order-with_at (keyed.with_at es k (Some n)) k None (keyed_laws.in_order-with_at es k (Some n) s)) s (λ j.
    keyed_laws.at-with_at (keyed.with_at es k (Some n)) k j None ∙ ap (λ o. cond (same k j) None o) (keyed_laws.at-with_at es k j (Some n)) ∙ one j (same k j) refl)
  where
    one : (j : List ℕ) (b : Bool) → same k j ≡ b → cond b None (cond b (Some n) (keyed.at es j)) ≡ keyed.at es j
    one j true t = sym (subst (λ (i : List ℕ). keyed.at es i ≡ None) (same-equal k j t) e)
    one j false t = refl
