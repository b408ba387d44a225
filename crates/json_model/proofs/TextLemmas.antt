-- What reading a text gave, and the value that it is.
use Rattle.std.proofs.Common.{◌≡◌, List, ℕ, Bool, true, false, cond, Some, None, refl}
use Rattle.std.specs.Prelude.{IsUtf8}
use Rattle.std.specs.Str.{is_utf8}
use Rattle.std.proofs.lemmas.Str.{is_utf8-from_IsUtf8, IsUtf8-from_is_utf8}
use Rattle.serde_json.specs.Data.{Data}
use Rattle.serde_json.specs.Read.{read}
use Rattle.json_model.specs.Texts.{json_of}

pub json_is : (text : List ℕ) (d : Data) → IsUtf8 text → read text ≡ Some d → json_of text ≡ Some d
json_is text d utf8 e = rw (is_utf8-from_IsUtf8 text utf8) e

none_where : (text : List ℕ) (b : Bool) → is_utf8 text ≡ b → (IsUtf8 text → read text ≡ None) → cond b (read text) None ≡ None
none_where text true e h = h (IsUtf8-from_is_utf8 text e)
none_where text false e h = refl

pub json_none : (text : List ℕ) → (IsUtf8 text → read text ≡ None) → json_of text ≡ None
json_none text h = none_where text (is_utf8 text) refl h
