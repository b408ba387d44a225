-- Which bytes are the texts of a list of items: a line each, of which the last one may be without its line feed.
use Rattle.std.specs.Prelude.{◌≡◌, ◌⊎◌, ℕ, true, if◌then◌else◌, List, [], ◌∷◌, ◌++◌, map}
use Rattle.std.specs.List.{list_all}
use Rattle.script_text.specs.declared.item.Item.{Item}
use Rattle.script_text.specs.Items.{item_text, is_item}
use Rattle.replay_model.specs.Script.{begun_line, whole_lines}
use Rattle.etcd_types.specs.Keys.{is_empty}
use Rattle.audit_model.specs.Audited.{Audited, audited}
use Rattle.audit_model.specs.Broken.{Meets}
use Rattle.audit_model.specs.declared.ending.AuditEnding.TheVariants.{Open, PastLimit}

-- the lines of the bytes, without their line feeds
abbrev pub lines_of : List ℕ → List (List ℕ)
lines_of bytes = if is_empty (begun_line bytes) then whole_lines bytes else whole_lines bytes ++ begun_line bytes ∷ []

-- each line is the text of an item, in order, and each item has a text
pub record AreTextsOf (bytes : List ℕ) (items : List Item) : Type 0 where
  pub lines : lines_of bytes ≡ map item_text items
  pub texts : list_all is_item items ≡ true

-- the items are those of the bytes, and keep the rules
pub record Kept (bytes : List ℕ) : Type 0 where
  pub texts : AreTextsOf bytes (audited bytes).items
  pub meets : Meets (audited bytes).items

-- where no line is refused, the bytes are the texts of items that keep the rules
abbrev pub WhatIsTakenKeepsTheRules : Type 0
WhatIsTakenKeepsTheRules = (bytes : List ℕ) → (audited bytes).ending ≡ Open → Kept bytes

-- these items are taken, or a line passes a limit
abbrev pub TakesOr : Audited → List Item → Type 0
TakesOr a items = ((a.ending ≡ Open) × (a.items ≡ items)) ⊎ (a.ending ≡ PastLimit)

-- of the texts of items that keep the rules no line is refused, but where one passes a limit
abbrev pub WhatKeepsTheRulesIsTaken : Type 0
WhatKeepsTheRulesIsTaken = (bytes : List ℕ) (items : List Item) → AreTextsOf bytes items → Meets items → TakesOr (audited bytes) items
