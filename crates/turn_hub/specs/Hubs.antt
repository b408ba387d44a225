-- What holds of a hub's table.
use Rattle.std.specs.Prelude.{◌≡◌}
use Rattle.atomic_table.specs.Seated.{TableId}

-- it has the count, the turn and the slot
pub record IsBuilt (table : TableId) : Type 0 where
  pub words : table.words ≡ 2
  pub slots : table.slots ≡ 1
