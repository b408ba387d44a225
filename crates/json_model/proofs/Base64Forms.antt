-- The four forms of base64 are read, and nothing else is.
use Rattle.std.proofs.Common.{◌≡◌, ◌⊎◌, inl, inr, ℕ, List, Option, Some, None, Result, Ok, Err, refl, ap, ◌∙◌}
use Rattle.base64.specs.declared.engine.general_purpose.GeneralPurpose.{GeneralPurpose}
use Rattle.base64.specs.Engines.{standard, standard_no_pad, url_safe, url_safe_no_pad}
use Rattle.base64.specs.GeneralPurpose.{encode_of, IsBytes, IsStrict, IsConsistent}
use Rattle.base64.proofs.EngineFacts.{decode_of-encode_of, decode_of_strict}
use Rattle.json_model.specs.Base64.{ok_of, or_else, decoded_by, decoded, IsBase64}

was_ok : {E : Type 0} (r : Result (List ℕ) E) (b : List ℕ) → ok_of r ≡ Some b → r ≡ Ok b
was_ok (Ok x) b e = cc
was_ok (Err f) b e = absurd (cc)

one_of : (a o : Option (List ℕ)) (b : List ℕ) → or_else a o ≡ Some b → (a ≡ Some b) ⊎ (o ≡ Some b)
one_of None o b e = inr e
one_of (Some x) o b e = inl e

spelled : (e : GeneralPurpose) (text b : List ℕ) → IsStrict e → IsBytes text → decoded_by e text ≡ Some b → text ≡ encode_of e b
spelled e text b strict bytes h = decode_of_strict e text b strict bytes (was_ok _ b h)

pub only_base64 : (text b : List ℕ) → IsBytes text → decoded text ≡ Some b → IsBase64 text b
only_base64 text b bytes h =
    elim (one_of (decoded_by standard text) _ b h) [
      | inl p ↦ inl (spelled standard text b (refl, refl) bytes p)
      | inr h ↦ elim (one_of (decoded_by standard_no_pad text) _ b h) [
        | inl p ↦ inr (inl (spelled standard_no_pad text b (refl, refl) bytes p))
        | inr h ↦ elim (one_of (decoded_by url_safe text) _ b h) [
          | inl p ↦ inr (inr (inl (spelled url_safe text b (refl, refl) bytes p)))
          | inr p ↦ inr (inr (inr (spelled url_safe_no_pad text b (refl, refl) bytes p)))
        ]
      ]
    ]

abbrev IsRead : Option (List ℕ) → Type 0
IsRead o = (c : List ℕ) × (o ≡ Some c)

read_first : (a o : Option (List ℕ)) → IsRead a → IsRead (or_else a o)
read_first None o (c, e) = absurd (cc)
read_first (Some x) o r = (x, refl)

read_later : (a o : Option (List ℕ)) → IsRead o → IsRead (or_else a o)
read_later None o r = r
read_later (Some x) o r = (x, refl)

read_by : (e : GeneralPurpose) (text b : List ℕ) → IsConsistent e → IsBytes b → text ≡ encode_of e b → IsRead (decoded_by e text)
read_by e text b fits bytes is = (b, ap (decoded_by e) is ∙ ap ok_of (decode_of-encode_of e b fits bytes))

pub base64_again : (text b : List ℕ) → IsBytes b → IsBase64 text b → (c : List ℕ) × (decoded text ≡ Some c)
base64_again text b bytes (inl is) = read_first (decoded_by standard text) _ (read_by standard text b refl bytes is)
base64_again text b bytes (inr (inl is)) =
    read_later (decoded_by standard text) _ (read_first (decoded_by standard_no_pad text) _ (read_by standard_no_pad text b refl bytes is))
base64_again text b bytes (inr (inr (inl is))) =
    read_later (decoded_by standard text) _ (read_later (decoded_by standard_no_pad text) _ (read_first (decoded_by url_safe text) _ (read_by url_safe text b refl bytes is)))
base64_again text b bytes (inr (inr (inr is))) =
    read_later (decoded_by standard text) _ (read_later (decoded_by standard_no_pad text) _ (read_later (decoded_by url_safe text) _ (read_by url_safe_no_pad text b refl bytes is)))
