-- A key in one of some ranges, looked for range by range.
use Rattle.std.proofs.Common.{◌≡◌, Bool, true, false, ◌||◌, List, [], ◌∷◌, refl, sym, ◌∙◌, ap}
use Rattle.std.specs.List.{list_any}
use Rattle.etcd_types.specs.declared.key_range.KeyRange.{KeyRange}
use Rattle.etcd_types.specs.Ranges.{contains}
use Rattle.proxy_model.specs.Keyed.{Keyed}
use Rattle.wait_model.specs.Covers.{covered}

none_any : {X : Type 0} (xs : List X) → false ≡ list_any (λ x. false) xs
none_any [] = refl
none_any (x ∷ xs) = none_any xs

paired : (a b c d : Bool) → (a || b) || (c || d) ≡ (a || c) || (b || d)
paired true b c d = refl
paired false true true d = refl
paired false true false d = refl
paired false false c d = refl

either_any : {X : Type 0} (p q : X → Bool) (xs : List X) → list_any (λ x. p x || q x) xs ≡ list_any p xs || list_any q xs
either_any p q [] = refl
either_any p q (x ∷ xs) =
    ap (λ b. (p x || q x) || b) (either_any p q xs) ∙ paired (p x) (q x) (list_any p xs) (list_any q xs)

pub any_turned : {A : Type 0} (rs : List KeyRange) (es : Keyed A) → list_any (λ r. list_any (λ e. contains r e.0) es) rs ≡ list_any (λ e. covered rs e.0) es
any_turned [] es = none_any es
any_turned (r ∷ rs) es =
    ap (λ b. list_any (λ e. contains r e.0) es || b) (any_turned rs es) ∙ sym (either_any (λ e. contains r e.0) (λ e. covered rs e.0) es)
