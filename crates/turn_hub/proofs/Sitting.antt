-- A seat goes on sitting at its table.
use Rattle.std.proofs.Common.{◌≡◌, ℕ, ◌∙◌}
use Rattle.atomic_table.specs.Seated.{TableId}
use Rattle.turn_hub.specs.declared.view.View.{View}
use Rattle.turn_hub.specs.Seats.{Sits}

module _ {M E O F : Type 0} where
  pub sits_on : (table : TableId) (opening : M) (base : ℕ) (place after : TableId) (v w : View M E O F) → Sits table opening base place v → after ≡ place → w.opening ≡ v.opening → w.base ≡ v.base
      → Sits table opening base after w
  sits_on table opening base place after v w s p o b = record { words = s.words; slots = s.slots; at_table = p ∙ s.at_table; opens = o ∙ s.opens; counts = b ∙ s.counts }
