-- The versions of a key in a history, and those that a store keeps after a compaction (etcd API reference, `CompactionRequest`).
-- A version holds what its change left, not the change: so it tells the revision that created the record, and how often it was
-- put, also where the puts before it are gone.
use Rattle.std.specs.Prelude.{ℕ, ◌+◌, ◌==◌, Bool, nat_lt, nat_le, if◌then◌else◌, List, [], ◌∷◌, ◌++◌, filter, Option, None, Some}
use Rattle.etcd_types.specs.declared.record.Kv.{Kv}
use Rattle.etcd_types.specs.Keys.{same}
use Rattle.store_model.specs.declared.history.KeyChange.{KeyChange}
use Rattle.store_model.specs.History.{History, changed_key}
use Rattle.store_model.specs.Records.{after_change, after_changes}
use Rattle.compaction_model.specs.declared.version.Version.{Version}

-- the versions that the changes of one revision make of a key, where `old` is its record before them
abbrev pub versions_in : ℕ → List ℕ → List KeyChange → Option Kv → List Version
versions_in revision k [] old = []
versions_in revision k (c ∷ cs) old =
    if same (changed_key c) k then record { revision = revision; left = after_change revision k c old } ∷ versions_in revision k cs (after_change revision k c old)
    else versions_in revision k cs old

-- those of revisions of which the first has this number
abbrev pub versions_from : ℕ → List ℕ → History → Option Kv → List Version
versions_from revision k [] old = []
versions_from revision k (cs ∷ h) old =
    versions_in revision k cs old ++ versions_from (revision + 1) k h (after_changes revision k cs old)

abbrev pub versions : History → List ℕ → List Version
versions h k = versions_from 2 k h None

-- what the last version left
abbrev pub last_left : List Version → Option Kv → Option Kv
last_left [] old = old
last_left (v ∷ vs) old = last_left vs v.left

abbrev pub is_up_to : ℕ → Version → Bool
is_up_to revision v = nat_le v.revision revision

abbrev pub up_to : ℕ → List Version → List Version
up_to revision vs = filter (is_up_to revision) vs

abbrev pub is_from : ℕ → Version → Bool
is_from revision v = nat_le revision v.revision

abbrev pub from_on : ℕ → List Version → List Version
from_on revision vs = filter (is_from revision) vs

-- a deletion isn't held
abbrev pub held_left : Version → Option Kv → Option Version
held_left v None = None
held_left v (Some kv) = Some v

abbrev pub held_of : Version → Option Version
held_of v = held_left v v.left

abbrev pub held_list : Option Version → List Version
held_list None = []
held_list (Some v) = v ∷ []

-- of versions with rising revisions those from the compaction on, and before them the last put below it where none is at it
abbrev pub kept_with : ℕ → Option Version → List Version → List Version
kept_with c held [] = held_list held
kept_with c held (v ∷ vs) =
    if nat_lt v.revision c then kept_with c (held_of v) vs
    else if v.revision == c then v ∷ vs
    else held_list held ++ v ∷ vs

abbrev pub kept : ℕ → List Version → List Version
kept c vs = kept_with c None vs

-- the kept versions of a key in a history that was compacted there
abbrev pub kept_versions : History → ℕ → List ℕ → List Version
kept_versions h c k = kept c (versions h k)
