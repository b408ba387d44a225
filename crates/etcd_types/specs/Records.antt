-- A key's record, by etcd's data model (`mvccpb.KeyValue`).
use Rattle.std.specs.Prelude.{ℕ, ◌+◌, min, List, Option, None, Some}
use Rattle.etcd_types.specs.declared.record.Kv.{Kv}

-- The record after a put. A put of an absent key begins a life: both revisions are the new one, and the version is 1. A put
-- of a present key keeps the revision that created it. The version counts the puts of a life, up to the last number of 64 bits.
abbrev pub after_put : Option Kv → List ℕ → List ℕ → ℕ → ℕ → Kv
after_put None k v l revision =
    record { key = k; value = v; create = revision; modified = revision; version = 1; lease = l }
after_put (Some old) k v l revision =
    record {
      key = k;
      value = v;
      create = old.create;
      modified = revision;
      version = min (old.version + 1) 0xffff_ffff_ffff_ffff;
      lease = l;
    }
