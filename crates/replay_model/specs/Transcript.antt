-- A transcript as bytes.
use Rattle.std.specs.Prelude.{ℕ, List, [], ◌∷◌, ◌++◌, flat_map}
use Rattle.script_text.specs.declared.item.Item.{Item}
use Rattle.script_text.specs.Items.{item_text}
use Rattle.replay_model.specs.Script.{line_feed}

-- each item's text on a line of its own
abbrev pub transcript_text : List Item → List ℕ
transcript_text items = flat_map (λ item. item_text item ++ line_feed ∷ []) items
