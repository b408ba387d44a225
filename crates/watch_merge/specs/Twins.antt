-- Whether a merge changes anything.
use Rattle.std.specs.Prelude.{Bool, not, ◌==◌, List}
use Rattle.std.specs.List.{list_any}
use Rattle.etcd_types.specs.declared.key_range.KeyRange.{KeyRange}
use Rattle.watch_model.specs.State.{Stream}
use Rattle.watch_model.specs.Merging.{kept_by}

-- another one keeps its members
abbrev pub is_twin : KeyRange → List Stream → Stream → Bool
is_twin range ss s = not (kept_by range ss s == s.number)

abbrev pub has_twins : KeyRange → List Stream → Bool
has_twins range ss = list_any (is_twin range ss) ss
