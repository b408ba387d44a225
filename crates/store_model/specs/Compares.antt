-- When a transaction's compares hold, by the etcd API reference (`Compare`).
use Rattle.std.specs.Prelude.{Bool, false, not, List, [], ◌∷◌}
use Rattle.std.specs.List.{list_all}
use Rattle.std.specs.Ordering.{nat_cmp, is_eq, is_gt, is_lt}
use Rattle.std.specs.Cmp.Lexicographic.{slice_cmp}
use Rattle.std.specs.declared.cmp.Ordering.{Ordering}
use Rattle.etcd_types.specs.declared.record.Kv.{Kv}
use Rattle.etcd_types.specs.declared.operation.Compare.{Compare}
use Rattle.etcd_types.specs.declared.operation.Target.{Target}
use Rattle.etcd_types.specs.declared.operation.Target.TheVariants as target
use Rattle.etcd_types.specs.declared.operation.Relation.{Relation}
use Rattle.etcd_types.specs.declared.operation.Relation.TheVariants as relation
use Rattle.store_model.specs.History.{History}
use Rattle.store_model.specs.Ranges.{records_now}

abbrev pub relation_holds : Relation → Ordering → Bool
relation_holds relation.Equal o = is_eq o
relation_holds relation.Greater o = is_gt o
relation_holds relation.Less o = is_lt o
relation_holds relation.NotEqual o = not (is_eq o)

-- how a part of the record stands to the operand; values are compared by their bytes
abbrev pub part_cmp : Target → Compare → Kv → Ordering
part_cmp target.Version c kv = nat_cmp kv.version c.number
part_cmp target.Create c kv = nat_cmp kv.create c.number
part_cmp target.Modified c kv = nat_cmp kv.modified c.number
part_cmp target.Value c kv = slice_cmp nat_cmp kv.value c.value
part_cmp target.Lease c kv = nat_cmp kv.lease c.number

abbrev pub record_holds : Compare → Kv → Bool
record_holds c kv = relation_holds c.relation (part_cmp c.target c kv)

-- where no key is in the range, numbers count as 0, and there is no value that could hold
abbrev pub absent_holds : Target → Compare → Bool
absent_holds target.Version c = relation_holds c.relation (nat_cmp 0 c.number)
absent_holds target.Create c = relation_holds c.relation (nat_cmp 0 c.number)
absent_holds target.Modified c = relation_holds c.relation (nat_cmp 0 c.number)
absent_holds target.Value c = false
absent_holds target.Lease c = relation_holds c.relation (nat_cmp 0 c.number)

-- of every key in the range
abbrev pub holds_of : Compare → List Kv → Bool
holds_of c [] = absent_holds c.target c
holds_of c (kv ∷ kvs) = list_all (record_holds c) (kv ∷ kvs)

abbrev pub compare_holds : History → Compare → Bool
compare_holds h c = holds_of c (records_now h c.range)

abbrev pub all_hold : History → List Compare → Bool
all_hold h cs = list_all (compare_holds h) cs
