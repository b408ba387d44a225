-- The history of a hub: entries in a row, the places of a pass's own entries, and which histories a machine allows.
use Rattle.std.specs.Prelude.{◌≡◌, ℕ, ◌+◌, ◌≤◌, ◌^◌, List, [], ◌∷◌, ◌++◌, length, cond, eqb, Result, slice_get}
use Rattle.std.specs.List.{filter_map}
use Rattle.turn_hub.specs.declared.history.Entry.{Entry}

abbrev pub entry_of : {E O F : Type 0} → E → ℕ → Result O F → Entry E O F
entry_of event now answer = record { event = event; now = now; answer = answer }

-- the whole begins with the front
abbrev pub Begins : {A : Type 0} → List A → List A → Type 0
Begins {A} front whole = (rest : List A) × (whole ≡ front ++ rest)

-- how often the place k stands among these places
abbrev pub times : ℕ → List ℕ → ℕ
times k [] = 0
times k (place ∷ places) = cond (eqb place k) (1 + times k places) (times k places)

-- the entries at these places, in this order
abbrev pub entries_at : {A : Type 0} → List A → List ℕ → List A
entries_at log places = filter_map (λ k. slice_get log k) places

-- The own places are distinct and lie in what was seen, which is within the limit of steps
pub record Stands {A : Type 0} (seen : List A) (own : List ℕ) (base : ℕ) : Type 0 where
  pub once : (k : ℕ) → times k own ≤ 1
  pub within : (k : ℕ) → length seen ≤ k → times k own ≡ 0
  pub room : length seen + base ≤ 2 ^ 62

module _ {M E O F : Type 0} (steps : M → E → ℕ → Result O F → M → Type 0) where
  -- the machine takes these entries in this order, from `before` to `after`
  abbrev pub Runs : M → List (Entry E O F) → M → Type 0
  Runs before [] after = before ≡ after
  Runs before (e ∷ es) after = (next : M) × steps before e.event e.now e.answer next × Runs next es after
