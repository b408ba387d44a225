-- A line that goes on is still one line.
use Rattle.std.proofs.Common.{◌≡◌, ◌==◌, ℕ, not, true, List, ◌++◌, refl, ◌∙◌}
use Rattle.std.proofs.lemmas.List.Folds.{list_all-append}
use Rattle.etcd_proxy.specs.Start.{is_one}

pub still_one : (line more : List ℕ) → is_one line ≡ true → is_one more ≡ true → is_one (line ++ more) ≡ true
still_one line more p q = list_all-append (λ (b : ℕ). not (b == 10)) line more ∙ rw (p, q) refl
