-- Where a key is in a list that is in order, or where it would go: after all smaller keys.
use Rattle.std.specs.Prelude.{◌≡◌, ℕ, zero, suc, Bool, ◌||◌, List, [], ◌∷◌}
use Rattle.etcd_types.specs.declared.key_range.KeyRange.{KeyRange}
use Rattle.std.specs.Ordering.{nat_cmp}
use Rattle.std.specs.declared.cmp.Ordering.TheVariants.{Less, Equal, Greater}
use Rattle.std.specs.Cmp.Lexicographic.{slice_cmp}
use Rattle.proxy_model.specs.Keyed.{Keyed}
use Rattle.wait_model.specs.Covers.{covered}

-- the key is the i-th, behind smaller ones
abbrev pub IsPlace : {A : Type 0} → Keyed A → List ℕ → ℕ → Type 0
IsPlace [] k i = ⊥
IsPlace (e ∷ es) k zero = slice_cmp nat_cmp k e.0 ≡ Equal
IsPlace (e ∷ es) k (suc i) = (slice_cmp nat_cmp k e.0 ≡ Greater) × IsPlace es k i

-- i keys are smaller, and the next one is greater
abbrev pub IsGap : {A : Type 0} → Keyed A → List ℕ → ℕ → Type 0
IsGap [] k zero = Unit {0}
IsGap [] k (suc i) = ⊥
IsGap (e ∷ es) k zero = slice_cmp nat_cmp k e.0 ≡ Less
IsGap (e ∷ es) k (suc i) = (slice_cmp nat_cmp k e.0 ≡ Greater) × IsGap es k i

-- a row's flag, raised where its key is in one of the ranges
abbrev pub raised_in : List KeyRange → List ℕ × Bool → List ℕ × Bool
raised_in rs row = (row.0, covered rs row.0 || row.1)
