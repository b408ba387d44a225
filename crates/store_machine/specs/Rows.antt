-- The deadlines that are kept, and the room for one more.
use Rattle.std.specs.Prelude.{◌+◌, ◌≤◌, List, vec_len}
use Rattle.std.specs.Vec.{vec_capacity}
use Rattle.shop_model.specs.declared.deadline.Deadline.{Deadline}
use Rattle.store_machine.specs.declared.deadlines.Deadlines.{Deadlines}

abbrev pub rows : Deadlines → List Deadline
rows d = d.items.items

abbrev pub HasSpare : Deadlines → Type 0
HasSpare d = vec_len d.items + 1 ≤ vec_capacity d.items
