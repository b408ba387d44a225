-- What clauses see of a hub and of a pass.
use Rattle.std.specs.Prelude.{ℕ, List}
use Rattle.atomic_table.specs.Seated.{TableId}
use Rattle.turn_hub.specs.declared.view.Opening.{Opening}
use Rattle.turn_hub.specs.History.{entries_at}

-- Which hub it is, and what it was opened with
pub record Home (K : Type 0) : Type 0 where
  pub table : TableId
  pub opened : K

-- The hub that a pass is of, the beginning of the hub's history that it has seen, and the places of its own entries
pub record Known (K N : Type 0) : Type 0 where
  pub hub : Home K
  pub seen : List N
  pub own : List ℕ

-- the state that a hub's machine was opened with
abbrev pub opening_of : {M : Type 0} → Home (Opening M) → M
opening_of hub = hub.opened.machine.value

-- how many steps count as made before the hub's first one
abbrev pub base_of : {M : Type 0} → Home (Opening M) → ℕ
base_of hub = hub.opened.base

-- a pass's own entries, in the order of its calls
abbrev pub made : {K N : Type 0} → Known K N → List N
made k = entries_at k.seen k.own
