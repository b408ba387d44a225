-- The record of a key: absent at first, it takes each change of the key in order, and no other key is looked at.
use Rattle.std.specs.Prelude.{ℕ, ◌+◌, if◌then◌else◌, List, [], ◌∷◌, Option, None, Some}
use Rattle.etcd_types.specs.declared.record.Kv.{Kv}
use Rattle.etcd_types.specs.Keys.{same}
use Rattle.etcd_types.specs.Records.{after_put}
use Rattle.store_model.specs.declared.history.KeyChange.{KeyChange}
use Rattle.store_model.specs.declared.history.KeyChange.TheVariants.{Put, Delete}
use Rattle.store_model.specs.History.{History, up_to_revision}

abbrev pub after_change : ℕ → List ℕ → KeyChange → Option Kv → Option Kv
after_change revision k (Put key value lease) old = if same key k then Some (after_put old k value lease revision) else old
after_change revision k (Delete key) old = if same key k then None else old

-- after all changes of one revision
abbrev pub after_changes : ℕ → List ℕ → List KeyChange → Option Kv → Option Kv
after_changes revision k [] old = old
after_changes revision k (c ∷ cs) old = after_changes revision k cs (after_change revision k c old)

-- after revisions, of which the first has this number
abbrev pub after_revisions : ℕ → List ℕ → History → Option Kv → Option Kv
after_revisions revision k [] old = old
after_revisions revision k (cs ∷ h) old = after_revisions (revision + 1) k h (after_changes revision k cs old)

-- the record that a history leaves
abbrev pub record_now : History → List ℕ → Option Kv
record_now h k = after_revisions 2 k h None

abbrev pub record_at : History → ℕ → List ℕ → Option Kv
record_at h revision k = record_now (up_to_revision h revision) k
