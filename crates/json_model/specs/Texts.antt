-- JSON texts (RFC 8259). A text that isn't UTF-8 is no JSON; of members of one name the last counts.
use Rattle.std.specs.Prelude.{ℕ, ◌-◌, ◌==◌, if◌then◌else◌, List, length, take, slice_index, Option, None, option_and_then}
use Rattle.std.specs.Str.{is_utf8}
use Rattle.serde_json.specs.Data.{Data, Members}
use Rattle.serde_json.specs.Find.{as_object}
use Rattle.serde_json.specs.Read.{read}

abbrev pub json_of : List ℕ → Option Data
json_of text = if is_utf8 text then read text else None

unfoldable pub object_of : List ℕ → Option Members
object_of text = option_and_then as_object (json_of text)

abbrev pub without_line_feed : List ℕ → List ℕ
without_line_feed text = if slice_index text (length text - 1) == 10 then take (length text - 1) text else text

-- the object of a line, which may have its line feed
abbrev pub line_object : List ℕ → Option Members
line_object line = object_of (without_line_feed line)
