-- Rows that lie in slots, and the order of their keys as a list of slots.
use Rattle.std.specs.Prelude.{◌≡◌, ℕ, zero, suc, ◌+◌, ◌^◌, ◌<◌, ◌≤◌, IsTrue, List, [], ◌∷◌, map, length, slice_index_or}
use Rattle.std.specs.declared.cmp.Ordering.{Ordering}
use Rattle.std.specs.declared.cmp.Ordering.TheVariants.{Less}
use Rattle.std.specs.Ordering.{nat_cmp}
use Rattle.std.specs.Cmp.Lexicographic.{slice_cmp}
use Rattle.std.specs.List.{All}
use Rattle.proxy_model.specs.Keyed.{Keyed, is_in_order}

-- the rows in this order of slots; each slot has a row, so which one stands for others doesn't matter
abbrev pub gathered : {A : Type 0} → Keyed A → List ℕ → Keyed A
gathered [] order = []
gathered (row ∷ rows) order = map (λ slot. slice_index_or (row ∷ rows) slot row) order

-- The slot has its place in the order.
pub record IsAmong (order : List ℕ) (slot : ℕ) : Type 0 where
  pub place : ℕ
  pub within : place < length order
  pub there : slice_index_or order place 0 ≡ slot

pub record IsKept {A : Type 0} (rows : Keyed A) (order : List ℕ) : Type 0 where
  pub in_order : IsTrue (is_in_order (gathered rows order))
  -- each slot of the order has a row
  pub within : All (λ slot. slot < length rows) order
  -- each row has a place in the order
  pub placed : (slot : ℕ) → slot < length rows → IsAmong order slot

-- The rows are kept, there is room in both vectors, and a slot's number fits 32 bits.
pub record IsRoomy {A : Type 0} (rows : Keyed A) (order : List ℕ) (rows_len rows_room order_len order_room spare : ℕ) : Type 0 where
  pub kept : IsKept rows order
  pub rows_fit : rows_len + spare ≤ rows_room
  pub order_fits : order_len + spare ≤ order_room
  pub same_length : order_len ≡ rows_len
  pub most : rows_len + spare < 2 ^ 32

-- how the key of the row in this slot stands to the key
abbrev pub order_at : {A : Type 0} → Keyed A → List ℕ → ℕ → Ordering
order_at [] k slot = Less
order_at (row ∷ rows) k zero = slice_cmp nat_cmp row.0 k
order_at (row ∷ rows) k (suc slot) = order_at rows k slot
