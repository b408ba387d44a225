-- The first field that isn't served, operation by operation.
use Rattle.std.proofs.Common.{◌≡◌, ◌<◌, ℕ, zero, suc, ◌+◌, true, false, List, [], ◌∷◌, length, drop, slice_index_or, Option, None, Some, is_some, refl, sym, ◌∙◌, ap, arith}
use Rattle.etcd_types.specs.declared.operation.Op.{Op}
use Rattle.proxy_model.specs.RequestRefusals.{first_of, unserved_op, unserved_ops}

only_one : {A : Type 0} (o : Option A) → first_of (o ∷ []) ≡ o
only_one None = refl
only_one (Some x) = refl

is_first : {A : Type 0} (o rest : Option A) → is_some o ≡ true → first_of (o ∷ rest ∷ []) ≡ o
is_first None rest e = absurd (cc)
is_first (Some x) rest e = refl

is_not : {A : Type 0} (o rest : Option A) → is_some o ≡ false → first_of (o ∷ rest ∷ []) ≡ rest
is_not None rest e = only_one rest
is_not (Some x) rest e = absurd (cc)

from_next : (ops : List Op) (i : ℕ) (o : Op) → i < length ops → o ≡ slice_index_or ops i o
    → unserved_ops (drop i ops) ≡ first_of (unserved_op o ∷ unserved_ops (drop (suc i) ops) ∷ [])
from_next [] i o within is = absurd (omega (arith, within))
from_next (x ∷ ops) zero o within is = ap (λ (y : Op). first_of (unserved_op y ∷ unserved_ops ops ∷ [])) (sym is)
from_next (x ∷ ops) (suc i) o within is = from_next ops i o (omega (arith, within)) is

from_here : (ops : List Op) (i : ℕ) (o : Op) → i < length ops → o ≡ slice_index_or ops i o
    → unserved_ops (drop i ops) ≡ first_of (unserved_op o ∷ unserved_ops (drop (i + 1) ops) ∷ [])
from_here ops i o within is =
    from_next ops i o within is ∙ ap (λ n. first_of (unserved_op o ∷ unserved_ops (drop n ops) ∷ [])) one_more
  where
    one_more : suc i ≡ i + 1
    one_more = omega arith

-- the operation at this place has one
pub found : (ops : List Op) (i : ℕ) (o : Op) → i < length ops → o ≡ slice_index_or ops i o → is_some (unserved_op o) ≡ true
    → unserved_ops (drop i ops) ≡ unserved_op o
found ops i o within is e = from_here ops i o within is ∙ is_first (unserved_op o) (unserved_ops (drop (i + 1) ops)) e

-- it has none
pub passed : (ops : List Op) (i : ℕ) (o : Op) → i < length ops → o ≡ slice_index_or ops i o → is_some (unserved_op o) ≡ false
    → unserved_ops (drop i ops) ≡ unserved_ops (drop (i + 1) ops)
passed ops i o within is e = from_here ops i o within is ∙ is_not (unserved_op o) (unserved_ops (drop (i + 1) ops)) e

-- none is left
pub none_left : (ops : List Op) (i : ℕ) → length ops ≡ i → unserved_ops (drop i ops) ≡ None
none_left [] zero e = refl
none_left [] (suc i) e = refl
none_left (x ∷ ops) zero e = absurd (omega (arith, e))
none_left (x ∷ ops) (suc i) e = none_left ops i (omega (arith, e))
