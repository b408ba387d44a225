-- Names in a text, and lowerCamelCase.
use Rattle.std.proofs.Common.{◌≡◌, ℕ, false, ◌==◌, List, [], ◌∷◌, length, refl}
use Rattle.std.specs.List.{slice_split}
use Rattle.json_model.specs.Names.{words}

pub words_some : (text : List ℕ) → (length text == 0) ≡ false → slice_split (λ b. b == 32) text ≡ words text
words_some [] e = absurd (cc)
words_some (b ∷ bs) e = refl
