-- Bytes as base64 (RFC 4648): in the standard alphabet or the URL-safe one, with all padding or none.
use Rattle.std.specs.Prelude.{◌≡◌, ◌⊎◌, ℕ, List, Option, Some, None, Result, Ok, Err}
use Rattle.base64.specs.declared.engine.general_purpose.GeneralPurpose.{GeneralPurpose}
use Rattle.base64.specs.Engines.{standard, standard_no_pad, url_safe, url_safe_no_pad}
use Rattle.base64.specs.GeneralPurpose.{encode_of, decode_of}

abbrev pub ok_of : {A E : Type 0} → Result A E → Option A
ok_of (Ok x) = Some x
ok_of (Err e) = None

abbrev pub or_else : {A : Type 0} → Option A → Option A → Option A
or_else None other = other
or_else (Some x) other = Some x

abbrev pub decoded_by : GeneralPurpose → List ℕ → Option (List ℕ)
decoded_by engine text = ok_of (decode_of engine text)

-- the bytes by the first of the four forms that has this text
abbrev pub decoded : List ℕ → Option (List ℕ)
decoded text =
    or_else (decoded_by standard text) (or_else (decoded_by standard_no_pad text) (or_else (decoded_by url_safe text) (decoded_by url_safe_no_pad text)))

-- the text is one of the four encodings of these bytes
abbrev pub IsBase64 : List ℕ → List ℕ → Type 0
IsBase64 text b = (text ≡ encode_of standard b) ⊎ (text ≡ encode_of standard_no_pad b) ⊎ (text ≡ encode_of url_safe b) ⊎ (text ≡ encode_of url_safe_no_pad b)
