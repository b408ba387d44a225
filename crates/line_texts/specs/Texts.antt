-- The text of a transcript is cut by line feeds into the texts of its items.
use Rattle.std.specs.Prelude.{◌≡◌, true, List, [], map}
use Rattle.std.specs.List.{list_all}
use Rattle.replay_model.specs.Script.{whole_lines, begun_line}
use Rattle.replay_model.specs.Transcript.{transcript_text}
use Rattle.script_text.specs.declared.item.Item.{Item}
use Rattle.script_text.specs.Items.{item_text, is_item}

pub record AreCutSo (items : List Item) : Type 0 where
  pub whole : whole_lines (transcript_text items) ≡ map item_text items
  pub begun : begun_line (transcript_text items) ≡ []

-- where each item has a text
abbrev pub TranscriptsAreCut : Type 0
TranscriptsAreCut = (items : List Item) → list_all is_item items ≡ true → AreCutSo items
