-- The compares and operations of which a proxy's own transactions consist.
use Rattle.std.specs.Prelude.{ℕ, Bool, false, List, []}
use Rattle.etcd_types.specs.declared.key_range.KeyRange.{KeyRange}
use Rattle.etcd_types.specs.declared.operation.Sort.{Sort}
use Rattle.etcd_types.specs.declared.operation.RangeAsk.{RangeAsk}
use Rattle.etcd_types.specs.declared.operation.Compare.{Compare}
use Rattle.etcd_types.specs.declared.operation.Target.{Target}
use Rattle.etcd_types.specs.declared.operation.Target.TheVariants as target
use Rattle.etcd_types.specs.declared.operation.Relation.TheVariants as relation
use Rattle.etcd_types.specs.declared.operation.Op.{Op}
use Rattle.etcd_types.specs.declared.operation.Op.TheVariants as op

abbrev pub unsorted : Sort
unsorted = record { order = 0; target = 0; min_mod = 0; max_mod = 0; min_create = 0; max_create = 0 }

-- all records of a range, as they are now
abbrev pub range_ask : KeyRange → RangeAsk
range_ask r =
    record { range = r; revision = 0; limit = 0; serializable = false; keys_only = false; count_only = false; sort = unsorted }

abbrev pub read_op : KeyRange → Op
read_op r = op.Range (range_ask r)

abbrev pub equals : Target → KeyRange → ℕ → Compare
equals t r number = record { range = r; target = t; relation = relation.Equal; number = number; value = [] }

-- each key of the range was created at this revision; at 0, there is none
abbrev pub created_at : KeyRange → ℕ → Compare
created_at r revision = equals target.Create r revision

abbrev pub put_op : List ℕ → List ℕ → ℕ → Bool → Op
put_op k v lease ignore_lease =
    op.Put (record { key = k; value = v; lease = lease; prev_kv = false; ignore_lease = ignore_lease })

abbrev pub delete_op : KeyRange → Op
delete_op r = op.Delete (record { range = r; prev_kv = false })
