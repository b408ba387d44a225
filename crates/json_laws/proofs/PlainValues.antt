-- What is written for a value of each kind is plain: no fraction, and text in UTF-8.
use Rattle.std.proofs.Common.{◌≡◌, ℕ, zero, suc, ◌<◌, ◌^◌, ℤ, pos, negsuc, Bool, true, false, List, [], ◌∷◌, decimal, refl, arith}
use Rattle.std.specs.Prelude.{⊤, IsUtf8}
use Rattle.std.specs.List.{list_all, AllByRecursion}
use Rattle.std.proofs.lemmas.Bool.{and_parts}
use Rattle.std.proofs.lemmas.Fmt.{IsAscii-decimal}
use Rattle.std.proofs.lemmas.Str.{IsUtf8-from_ascii, IsUtf8-append}
use Rattle.json.proofs.Printed.Utf8.{are_ascii, IsUtf8-are_ascii}
use Rattle.base64.specs.Engines.{standard}
use Rattle.base64.specs.GeneralPurpose.{encode_of}
use Rattle.base64.proofs.EngineFacts.{IsAscii-encode_of}
use Rattle.serde_json.specs.Data.{Data, Items, no_items, item}
use Rattle.json_model.specs.Fits.{IsNumber}
use Rattle.json_model.specs.FitReplies.{IsSigned}
use Rattle.json_model.specs.Written.{Field, number_value, signed_value, bytes_value, flag_value, list_value, items_of}
use Rattle.json_model.proofs.WrittenTexts.{IsPlain, ArePlain, IsPlainField, ArePlainFields}

-- ---- the kinds

pub wide : (n : ℕ) → n < 2 ^ 63 → n < 2 ^ 64
wide n h = omega arith

pub wide_suc : (n : ℕ) → n < 2 ^ 63 → suc n < 2 ^ 64
wide_suc n h = omega arith

pub plain_wide : (n : ℕ) → n < 2 ^ 64 → IsPlainField (number_value n)
plain_wide zero h = tt
plain_wide (suc n) h = IsUtf8-from_ascii (decimal (suc n)) (IsAscii-decimal (suc n) h)

pub plain_number : (n : ℕ) → IsNumber n → IsPlainField (number_value n)
plain_number n h = plain_wide n (wide n h)

pub plain_signed : (z : ℤ) → IsSigned z → IsPlainField (signed_value z)
plain_signed (pos zero) h = tt
plain_signed (pos (suc n)) h = IsUtf8-from_ascii (decimal (suc n)) (IsAscii-decimal (suc n) (wide (suc n) h))
plain_signed (negsuc n) h = IsUtf8-append (45 ∷ []) (decimal (suc n)) (IsUtf8-are_ascii (45 ∷ []) refl) (IsUtf8-from_ascii (decimal (suc n)) (IsAscii-decimal (suc n) (wide_suc n h)))

pub plain_text : (b : List ℕ) → IsUtf8 (encode_of standard b)
plain_text b = IsUtf8-from_ascii (encode_of standard b) (IsAscii-encode_of standard b)

pub plain_bytes : (b : List ℕ) → IsPlainField (bytes_value b)
plain_bytes [] = tt
plain_bytes (x ∷ b) = plain_text (x ∷ b)

pub plain_flag : (b : Bool) → IsPlainField (flag_value b)
plain_flag true = tt
plain_flag false = tt

pub plain_list : (ds : Items) → ArePlain ds → IsPlainField (list_value ds)
plain_list no_items h = tt
plain_list (item d ds) h = h

pub plain_items : {A : Type 0} (P : A → Type 0) (write : A → Data) → ((x : A) → P x → IsPlain (write x)) → (xs : List A) → AllByRecursion P xs → ArePlain (items_of write xs)
plain_items P write one [] h = tt
plain_items P write one (x ∷ xs) h = (one x h.0, plain_items P write one xs h.1)

-- ---- objects by their fields

abbrev pub ArePlainValues : List Field → Type 0
ArePlainValues [] = ⊤
ArePlainValues (f ∷ fs) = IsPlainField f.1 × ArePlainValues fs

pub plain_by : (fs : List Field) → list_all (λ f. are_ascii f.0) fs ≡ true → ArePlainValues fs → ArePlainFields fs
plain_by [] e h = tt
plain_by (f ∷ fs) e h = let p = and_parts (are_ascii f.0) _ e in (IsUtf8-are_ascii f.0 p.0, h.0, plain_by fs p.1 h.1)
