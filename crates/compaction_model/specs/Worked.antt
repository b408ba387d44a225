-- Worked compactions: how many versions are kept of a small history.
use Rattle.std.specs.Prelude.{◌≡◌, ℕ, ◌+◌, List, [], ◌∷◌, length}
use Rattle.store_model.specs.declared.history.KeyChange.{KeyChange}
use Rattle.store_model.specs.declared.history.KeyChange.TheVariants.{Put, Delete}
use Rattle.store_model.specs.History.{History}
use Rattle.compaction_model.specs.Versions.{kept_versions}

abbrev pub put_of : ℕ → List KeyChange
put_of k = Put (k ∷ []) (120 ∷ []) 0 ∷ []

abbrev pub deletion_of : ℕ → List KeyChange
deletion_of k = Delete (k ∷ []) ∷ []

-- `a` is put at 2 and 3, `b` put at 4 and deleted at 5
abbrev pub two_keys : History
two_keys = put_of 97 ∷ put_of 97 ∷ put_of 98 ∷ deletion_of 98 ∷ []

-- and `c` is put at 6
abbrev pub three_keys : History
three_keys = put_of 97 ∷ put_of 97 ∷ put_of 98 ∷ deletion_of 98 ∷ put_of 99 ∷ []

abbrev pub count_kept : History → ℕ → ℕ
count_kept h c = length (kept_versions h c (97 ∷ [])) + length (kept_versions h c (98 ∷ [])) + length (kept_versions h c (99 ∷ []))

-- without a compaction all versions are there
abbrev pub KeepsAll : Type 0
KeepsAll = count_kept two_keys 0 ≡ 4

-- a put at the compaction leaves none below it, and else the last put below it is kept
abbrev pub KeepsLastPut : Type 0
KeepsLastPut = (count_kept two_keys 3 ≡ 3) × (count_kept two_keys 4 ≡ 3)

-- a deletion is kept at the compaction, and not below it
abbrev pub DropsDeletions : Type 0
DropsDeletions = (count_kept two_keys 5 ≡ 2) × (count_kept three_keys 6 ≡ 2)
