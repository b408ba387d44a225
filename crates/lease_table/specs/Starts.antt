-- Where a range begins among rows in order: at the first key that isn't below the range's lowest.
use Rattle.std.specs.Prelude.{◌≡◌, ℕ, zero, suc, Bool, true, false, List, [], ◌∷◌}
use Rattle.etcd_types.specs.declared.key_range.KeyRange.{KeyRange}
use Rattle.etcd_types.specs.Keys.{up_to}
use Rattle.etcd_types.specs.Ranges.{contains}
use Rattle.proxy_model.specs.Keyed.{Keyed}

abbrev pub IsStart : {A : Type 0} → List ℕ → Keyed A → ℕ → Type 0
IsStart k [] zero = Unit {0}
IsStart k [] (suc i) = ⊥
IsStart k (e ∷ es) zero = up_to k e.0 ≡ true
IsStart k (e ∷ es) (suc i) = (up_to k e.0 ≡ false) × IsStart k es i

-- there is a row at this place, and its key is in the range
abbrev pub is_in : {A : Type 0} → KeyRange → Keyed A → ℕ → Bool
is_in r [] i = false
is_in r (e ∷ es) zero = contains r e.0
is_in r (e ∷ es) (suc i) = is_in r es i
