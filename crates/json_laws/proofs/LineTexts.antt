-- A text with its line feed, and one that has none, is read as the text.
use Rattle.std.proofs.Common.{◌≡◌, ℕ, ◌+◌, ◌-◌, ◌==◌, Bool, true, false, List, [], ◌∷◌, ◌++◌, length, take, refl, sym, ap, ◌∙◌, arith}
use Rattle.std.specs.Prelude.{slice_index}
use Rattle.std.proofs.Math.Seq.{get_or-append_seam, take-append_seam}
use Rattle.std.proofs.lemmas.List.{length-append, append_assoc}
use Rattle.json.specs.Print.{quoted}
use Rattle.serde_json.specs.Data.{object, Members, no_members, member}
use Rattle.serde_json.specs.Written.{compact_text, members_text, comma_if}
use Rattle.json_model.specs.Texts.{without_line_feed}

-- ---- the last byte of a text

minus_one : (n : ℕ) → (n + 1) - 1 ≡ n
minus_one n = omega arith

last_length : (t : List ℕ) (b : ℕ) → length (t ++ b ∷ []) - 1 ≡ length t
last_length t b = ap (λ (n : ℕ). n - 1) (length-append t (b ∷ [])) ∙ minus_one (length t)

last_byte : (t : List ℕ) (b : ℕ) → slice_index (t ++ b ∷ []) (length (t ++ b ∷ []) - 1) ≡ b
last_byte t b = ap (λ (n : ℕ). slice_index (t ++ b ∷ []) n) (last_length t b) ∙ get_or-append_seam t b [] 0

pub without_feed : (t : List ℕ) → without_line_feed (t ++ 10 ∷ []) ≡ t
without_feed t = rw (last_byte t 10) (ap (λ (n : ℕ). take n (t ++ 10 ∷ [])) (last_length t 10) ∙ take-append_seam t (10 ∷ []))

without_other : (t : List ℕ) (b : ℕ) → (b == 10) ≡ false → without_line_feed (t ++ b ∷ []) ≡ t ++ b ∷ []
without_other t b e = rw (last_byte t b, e) refl

-- ---- an object's text ends with its brace

abbrev EndsIn : ℕ → List ℕ → Type 0
EndsIn b text = (t : List ℕ) × (text ≡ t ++ b ∷ [])

ends_after : (b : ℕ) (s text : List ℕ) → EndsIn b text → EndsIn b (s ++ text)
ends_after b s text e = (s ++ e.0, ap (λ (t : List ℕ). s ++ t) e.1 ∙ sym (append_assoc s e.0 (b ∷ [])))

members_end : (later : Bool) (ms : Members) → EndsIn 125 (members_text later ms)
members_end later no_members = ([], refl)
members_end later (member k d ms) =
    ends_after 125 (comma_if later) _ (ends_after 125 (quoted k) _ (ends_after 125 (58 ∷ []) _ (ends_after 125 (compact_text d) _ (members_end true ms))))

object_end : (ms : Members) → EndsIn 125 (compact_text (object ms))
object_end ms = ends_after 125 (123 ∷ []) _ (members_end false ms)

pub object_line : (ms : Members) → without_line_feed (compact_text (object ms)) ≡ compact_text (object ms)
object_line ms =
    let e = object_end ms in
    ap without_line_feed e.1 ∙ without_other e.0 125 refl ∙ sym e.1
