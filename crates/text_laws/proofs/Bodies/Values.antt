-- What is written for a value of each kind has bytes for its strings.
use Rattle.std.proofs.Common.{◌≡◌, ℕ, zero, suc, ◌+◌, ◌<◌, ◌^◌, ◌==◌, ℤ, pos, negsuc, Bool, true, false, List, [], ◌∷◌, ◌++◌, length, take, drop, decimal, arith}
use Rattle.std.specs.Str.Lossy.{utf8_valid_len, utf8_lossy_within, utf8_lossy, utf8_invalid_len, after_first_chunk, replacement_bytes}
use Rattle.std.proofs.lemmas.Bool.{leb-true}
use Rattle.std.proofs.lemmas.Fmt.{IsAscii-decimal}
use Rattle.base64.specs.Engines.{standard}
use Rattle.base64.specs.GeneralPurpose.{encode_of}
use Rattle.base64.proofs.EngineFacts.{IsAscii-encode_of}
use Rattle.serde_json.specs.Data.{Data, Items, no_items, item}
use Rattle.text_model.specs.Words.{max_number}
use Rattle.message_text.specs.Answers.{is_ttl}
use Rattle.json_model.specs.Written.{number_value, signed_value, bytes_value, flag_value, list_value, text_of, items_of}
use Rattle.text_laws.specs.Values.Fits.{AllOf, IsByte, Bytes, Number}
use Rattle.text_laws.proofs.Values.Alls.{either, all_append, all_take, all_drop}
use Rattle.text_laws.proofs.Bodies.Texts.{ascii_bytes, ByteData, ByteItems, ByteField}

decimal_bytes : (n : ℕ) → n < 2 ^ 64 → Bytes (decimal n)
decimal_bytes n h = ascii_bytes (decimal n) (IsAscii-decimal n h)

pub number_bytes : (n : ℕ) → Number n → ByteField (number_value n)
number_bytes zero h = tt
number_bytes (suc n) h = decimal_bytes (suc n) (omega (arith, h))

pub text_of_bytes : (b : List ℕ) → ByteData (text_of b)
text_of_bytes b = ascii_bytes (encode_of standard b) (IsAscii-encode_of standard b)

pub bytes_bytes : (b : List ℕ) → ByteField (bytes_value b)
bytes_bytes [] = tt
bytes_bytes (x ∷ b) = text_of_bytes (x ∷ b)

pub flag_bytes : (b : Bool) → ByteField (flag_value b)
flag_bytes true = tt
flag_bytes false = tt

pub list_bytes : (ds : Items) → ByteItems ds → ByteField (list_value ds)
list_bytes no_items h = tt
list_bytes (item d ds) h = h

pub items_bytes : {A : Type 0} (P : A → Type 0) (write : A → Data) → ((x : A) → P x → ByteData (write x)) → (xs : List A) → AllOf P xs → ByteItems (items_of write xs)
items_bytes P write one [] h = tt
items_bytes P write one (x ∷ xs) h = (one x h.0, items_bytes P write one xs h.1)

-- ---- text that isn't UTF-8 is replaced by bytes

replaced : Bytes replacement_bytes
replaced = (omega arith, (omega arith, (omega arith, tt)))

lossy_within_bytes : (k : ℕ) (bs : List ℕ) → Bytes bs → Bytes (utf8_lossy_within k bs)
lossy_within_bytes zero bs h = h
lossy_within_bytes (suc k) bs h =
    let n = utf8_valid_len bs in
    either Bytes (n == length bs) bs (take n bs ++ (replacement_bytes ++ utf8_lossy_within k (after_first_chunk bs))) h
    (all_append IsByte (take n bs) (replacement_bytes ++ utf8_lossy_within k (after_first_chunk bs)) (all_take IsByte n bs h)
    (all_append IsByte replacement_bytes (utf8_lossy_within k (after_first_chunk bs)) replaced
    (lossy_within_bytes k (after_first_chunk bs) (all_drop IsByte (n + utf8_invalid_len (drop n bs)) bs h))))

pub lossy_bytes : (bs : List ℕ) → Bytes bs → Bytes (utf8_lossy bs)
unfolding utf8_lossy
lossy_bytes bs h = lossy_within_bytes (length bs) bs h

-- ---- times to live

small : (n : ℕ) → n == 0 ≡ true → suc n < 2 ^ 64
small n e = grind (arith, e)

pub signed_bytes : (z : ℤ) → is_ttl z ≡ true → ByteField (signed_value z)
signed_bytes (pos zero) e = tt
signed_bytes (pos (suc n)) e = let l = leb-true (suc n) max_number e in decimal_bytes (suc n) (omega (arith, l))
signed_bytes (negsuc n) e = (omega arith, decimal_bytes (suc n) (small n e))
