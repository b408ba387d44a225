-- What stands at a mark and behind it, in a list in the order of the marks.
use Rattle.std.specs.Prelude.{ℕ, if◌then◌else◌, List, [], ◌∷◌}
use Rattle.etcd_types.specs.Keys.{before}
use Rattle.proxy_model.specs.Keyed.{Keyed}

abbrev pub rows_from : {A : Type 0} → List ℕ → Keyed A → Keyed A
rows_from k [] = []
rows_from k (e ∷ es) = if before e.0 k then rows_from k es else e ∷ es
