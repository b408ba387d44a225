-- Where items tell the calls, in the order of their numbers.
use Rattle.std.specs.Prelude.{◌≡◌, ◌<◌, ℕ, List, [], ◌∷◌, ◌++◌, length, slice_get, Option, Some}
use Rattle.script_text.specs.declared.item.Item.{Item}
use Rattle.script_text.specs.declared.item.Item.TheVariants as item
use Rattle.world_model.specs.Answers.{seen}
use Rattle.audit_lives.specs.Finds.{call_in, told_by}

pub record Order (places : List ℕ) (items : List Item) : Type 0 where
  pub found : (n : ℕ) → told_by call_in items (slice_get places n) ≡ slice_get (seen items).calls n
  pub many : length places ≡ length (seen items).calls
  pub within : (n place : ℕ) → slice_get places n ≡ Some place → place < length items

-- the places behind an item of this place: a world begins anew, and a call is the next
abbrev pub places_behind : List ℕ → ℕ → Item → List ℕ
places_behind places place (item.World members namespace leasing) = []
places_behind places place (item.Sent p call member ticket q) = places ++ place ∷ []
places_behind places place _ = places
