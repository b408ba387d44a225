-- The numbers of a record, by etcd's data model: revision 1 is the empty store, so the first record is made at 2; a record is made
-- before it is changed, and its version counts its puts from 1.
use Rattle.std.specs.Prelude.{◌≡◌, ℕ, ◌≤◌, List, Some}
use Rattle.etcd_types.specs.declared.record.Kv.{Kv}
use Rattle.store_model.specs.History.{History, newest}
use Rattle.store_model.specs.Records.{record_now}

-- a record that a history up to this revision can leave
pub record IsMade (latest : ℕ) (kv : Kv) : Type 0 where
  pub created : 2 ≤ kv.create
  pub modified : kv.create ≤ kv.modified
  pub past : kv.modified ≤ latest
  pub version : 1 ≤ kv.version

-- every record is, whatever the history
abbrev pub RecordsAreMade : Type 0
RecordsAreMade = (h : History) (k : List ℕ) (kv : Kv) → record_now h k ≡ Some kv → IsMade (newest h) kv
