-- Words of bytes that are their own bytes: none of them is escaped.
use Rattle.std.specs.Prelude.{Bool, not, ◌&&◌, ◌==◌, length}
use Rattle.std.specs.List.{list_all}
use Rattle.text_model.specs.Forms.{Word}
use Rattle.text_model.specs.Words.{is_plain}

abbrev pub is_plain_word : Word → Bool
is_plain_word word = not (length word == 0) && list_all is_plain word
