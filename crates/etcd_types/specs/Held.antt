-- The bytes that a string holds, wherever they lie.
use Rattle.std.specs.Prelude.{List, ℕ}
use Rattle.etcd_types.specs.declared.bytes.Held.{Held}
use Rattle.etcd_types.specs.declared.bytes.Held.TheVariants.{Short, Long}

abbrev pub held_bytes : Held → List ℕ
held_bytes (Short short) = short
held_bytes (Long long) = long.items
