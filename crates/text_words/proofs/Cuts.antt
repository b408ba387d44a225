-- Where the first word of a text ends, and how many words it has.
use Rattle.std.proofs.Common.{◌≡◌, ℕ, ◌+◌, ◌<◌, false, List, [], ◌∷◌, length, take, drop, Option, Some, None, MatchOption, refl, sym, ◌∙◌, arith, All, subst, inl, inr}
use Rattle.std.specs.Prelude.{◌==◌, count_by}
use Rattle.std.specs.List.{position, position_or_len}
use Rattle.std.proofs.lemmas.List.Splits.{slice_split_none, slice_split_first, length-slice_split}
use Rattle.std.proofs.lemmas.List.Elements.{All-from_get_or}
use Rattle.std.proofs.lemmas.List.Sums.{fails_before_first}
use Rattle.std.proofs.lemmas.Bool.{cases_lt, lt-ltb, le-ltb}
use Rattle.text_model.specs.Texts.{words}

pub counted : (c : ℕ) (bytes : List ℕ) → length (words c bytes) ≡ count_by (λ b. b == c) bytes + 1
counted c bytes = length-slice_split (λ b. b == c) bytes

abbrev pub Cut : ℕ → List ℕ → Option ℕ → Type 0
Cut c bytes r =
    MatchOption r (words c bytes ≡ bytes ∷ []) (λ end. (end < length bytes) × (words c bytes ≡ take end bytes ∷ words c (drop (end + 1) bytes)))

pub cut_at : (c : ℕ) (bytes : List ℕ) (r : Option ℕ) → r ≡ position (λ b. b == c) bytes → Cut c bytes r
cut_at c bytes r e =
    let Of : Option ℕ → Type 0 = λ o. Cut c bytes o in
    elim (cases_lt (position_or_len (λ b. b == c) bytes) (length bytes)) [
      | inl lt ↦
          let found : r ≡ Some (position_or_len (λ b. b == c) bytes) = e ∙ rw (lt-ltb _ _ lt) refl in
          subst Of (sym found) (lt, slice_split_first (λ b. b == c) bytes 0 lt)
      | inr le ↦
          let missing : r ≡ None = e ∙ rw (le-ltb _ _ le) refl in
          let none : All (λ b. (b == c) ≡ false) bytes = All-from_get_or (λ b. (b == c) ≡ false) bytes 0 (λ k within. fails_before_first (λ b. b == c) bytes k 0 (omega arith)) in
          subst Of (sym missing) (slice_split_none (λ b. b == c) bytes none)
    ]
