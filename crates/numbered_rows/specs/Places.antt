-- Where a number is in a list that is in order, or where it would go: after all smaller ones.
use Rattle.std.specs.Prelude.{◌≡◌, ℕ, zero, suc, [], ◌∷◌}
use Rattle.std.specs.Ordering.{nat_cmp}
use Rattle.std.specs.declared.cmp.Ordering.TheVariants.{Less, Equal, Greater}
use Rattle.numbered_rows.specs.Numbered.{Numbered}

-- the number is the i-th, behind smaller ones
abbrev pub IsPlace : {A : Type 0} → Numbered A → ℕ → ℕ → Type 0
IsPlace [] k i = ⊥
IsPlace (e ∷ es) k zero = nat_cmp k e.0 ≡ Equal
IsPlace (e ∷ es) k (suc i) = (nat_cmp k e.0 ≡ Greater) × IsPlace es k i

-- i numbers are smaller, and the next one is greater
abbrev pub IsGap : {A : Type 0} → Numbered A → ℕ → ℕ → Type 0
IsGap [] k zero = Unit {0}
IsGap [] k (suc i) = ⊥
IsGap (e ∷ es) k zero = nat_cmp k e.0 ≡ Less
IsGap (e ∷ es) k (suc i) = (nat_cmp k e.0 ≡ Greater) × IsGap es k i
