-- Rows by key in the order of the keys, and beside them for how many more there is room.
use Rattle.std.specs.Prelude.{ℕ, zero, suc, [], ◌∷◌, refl}
use Rattle.std.specs.Coded.{Coded, code_by, coded×, coded_list, coded_ℕ}
use Rattle.proxy_model.specs.Keyed.{Keyed}

pub record Roomy (A : Type 0) : Type 0 where
  pub rows : Keyed A
  pub spare : ℕ

abbrev pub no_rows : {A : Type 0} → Roomy A
no_rows = record { rows = []; spare = 0 }

-- such rows are stored as the pair of both
abbrev pub roomy_code : {A : Type 0} → Coded A → Coded (Roomy A)
roomy_code {A} code =
    code_by (Keyed A × ℕ) (coded× (coded_list (coded× (coded_list coded_ℕ) code)) coded_ℕ) (λ r. (r.rows, r.spare)) (λ p. record { rows = p.0; spare = p.1 }) (λ _. refl)

-- the row at the place, changed
abbrev pub changed_in : {A : Type 0} → Keyed A → ℕ → (A → A) → Keyed A
changed_in [] i f = []
changed_in (e ∷ es) zero f = (e.0, f e.1) ∷ es
changed_in (e ∷ es) (suc i) f = e ∷ changed_in es i f
