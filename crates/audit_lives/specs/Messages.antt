-- Where items tell the messages of each stream, by their numbers in it, from 0.
use Rattle.std.specs.Prelude.{◌≡◌, ◌<◌, ℕ, if◌then◌else◌, List, length, slice_get, Option, None, Some}
use Rattle.first_places.specs.Places.{is_pair, place_at}
use Rattle.script_text.specs.declared.item.Item.{Item}
use Rattle.world_model.specs.Lives.{pushed_into}
use Rattle.audit_lives.specs.Finds.{told_by}
use Rattle.audit_lives.specs.Given.{pushed_in}

pub record Messages (kept : List ((ℕ × ℕ) × ℕ)) (items : List Item) : Type 0 where
  pub found : (stream n : ℕ) → told_by (pushed_in stream) items (place_at kept stream n) ≡ slice_get (pushed_into stream items) n
  pub within : (a b n : ℕ) → place_at kept a b ≡ Some n → n < length items

-- a stream with the number of its next message
abbrev pub next_key : Option ℕ → (ℕ → ℕ) → Option (ℕ × ℕ)
next_key None count = None
next_key (Some stream) count = Some (stream, count stream)

-- this place is kept for the pair, where there is one
abbrev pub Sets : Option (ℕ × ℕ) → ℕ → List ((ℕ × ℕ) × ℕ) → List ((ℕ × ℕ) × ℕ) → Type 0
Sets pair place old new = (a b : ℕ) → place_at new a b ≡ (if is_pair pair a b then Some place else place_at old a b)
