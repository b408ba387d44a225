-- The word of flags is a dash where none is set, and else their letters.
use Rattle.std.proofs.Common.{◌≡◌, ℕ, Bool, true, false, List, [], ◌∷◌, refl}
use Rattle.std.specs.List.{list_any}
use Rattle.text_model.specs.Words.{letters, flags_word}

pub none_set : (flags : List (ℕ × Bool)) → list_any (λ flag. flag.1) flags ≡ false → flags_word flags ≡ 45 ∷ []
none_set [] e = refl
none_set ((letter, true) ∷ rest) e = absurd (cc)
none_set ((letter, false) ∷ rest) e = none_set rest e

pub some_set : (flags : List (ℕ × Bool)) → list_any (λ flag. flag.1) flags ≡ true → flags_word flags ≡ letters flags
some_set [] e = absurd (cc)
some_set ((letter, true) ∷ rest) e = refl
some_set ((letter, false) ∷ rest) e = some_set rest e

pub ruleset worded = (none_set, some_set)
