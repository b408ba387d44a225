-- A row that went in and goes again leaves all as before.
use Rattle.std.proofs.Common.{◌≡◌, ℕ, zero, suc, ◌≤◌, List, [], ◌∷◌, length, refl, ap, arith}
use Rattle.std.specs.List.{insert, remove}

pub put_and_taken : {X : Type 0} (xs : List X) (i : ℕ) (x : X) → i ≤ length xs → remove (insert xs i x) i ≡ xs
put_and_taken xs zero x l = refl
put_and_taken [] (suc i) x l = absurd (omega arith)
put_and_taken (y ∷ ys) (suc i) x l = ap (λ (rest : List _). y ∷ rest) (put_and_taken ys i x (omega arith))
