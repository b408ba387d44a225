-- What the entries show of a range is what the history leaves of it, where the entries of its keys read as the history does.
use Rattle.std.specs.Prelude.{◌≡◌, IsTrue, ℕ, List, [], None, Option}
use Rattle.etcd_types.specs.declared.record.Kv.{Kv}
use Rattle.etcd_types.specs.declared.key_range.KeyRange.{KeyRange}
use Rattle.etcd_types.specs.Ranges.{contains}
use Rattle.store_model.specs.History.{History}
use Rattle.store_model.specs.Records.{record_now}
use Rattle.store_model.specs.Ranges.{records_now}
use Rattle.compaction_model.specs.declared.version.Version.{Version}
use Rattle.store_index.specs.Maps.{Entries, AreOrdered, versions_of, shown_by}

abbrev pub ListingsAreRanges : Type 0
ListingsAreRanges =
    (es : Entries) (read : List Version → Option Kv) (h : History) (range : KeyRange)
    → AreOrdered es → read [] ≡ None → ((k : List ℕ) → IsTrue (contains range k) → read (versions_of es k) ≡ record_now h k)
    → shown_by read range es ≡ records_now h range
