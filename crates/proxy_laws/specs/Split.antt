-- How a range delete goes round the leasing range.
use Rattle.std.specs.Prelude.{◌≡◌, ℕ, ◌+◌, Bool, false, not, ◌&&◌, if◌then◌else◌, List, [], ◌∷◌}
use Rattle.etcd_types.specs.declared.key_range.KeyRange.{KeyRange}
use Rattle.etcd_types.specs.Keys.{is_empty}
use Rattle.etcd_types.specs.Ranges.{is_one, contains}
use Rattle.proxy_model.specs.Prefixes.{leasing_range}
use Rattle.proxy_model.specs.SeveralKeys.{parts}

abbrev pub one_if : Bool → ℕ
one_if b = if b then 1 else 0

-- in how many of the ranges the key lies
abbrev pub times : List KeyRange → List ℕ → ℕ
times [] k = 0
times (r ∷ rs) k = one_if (contains r k) + times rs k

-- a key lies in one part where it is in the range and not in the leasing range, and else in none
abbrev pub PartsGoRound : Type 0
PartsGoRound =
    (p k : List ℕ) (r : KeyRange) → is_empty p ≡ false → is_empty k ≡ false → is_one r ≡ false
    → times (parts p r) k ≡ one_if (contains r k && not (contains (leasing_range p) k))
