-- A piece that was written behind a text, of which the beginning alone counts.
use Rattle.std.proofs.Common.{◌≡◌, ℕ, ◌+◌, ◌≤◌, List, ◌++◌, length, take, arith, sym, ap, ◌∙◌}
use Rattle.std.proofs.lemmas.List.{take-take, take_at, length-take, length-append}
use Rattle.std.proofs.Math.Seq.{take-append-add}

pub front_written : (text before piece front rest : List ℕ) (u n k : ℕ) → length before ≡ u → length front ≡ k → k ≤ n
    → take (u + length piece) text ≡ before ++ piece → piece ≡ take n (front ++ rest) → take (u + k) text ≡ before ++ front
front_written text before piece front rest u n k lb lf le written is =
    let size : length piece ≡ length (take n (front ++ rest)) = ap length is in
    let long : k ≤ length piece = omega (arith, length-take n (front ++ rest), length-append front rest) in
    sym (take-take (u + k) (u + length piece) text (omega arith)) ∙ ap (take (u + k)) written
    ∙ ap (λ (m : ℕ). take (m + k) (before ++ piece)) (sym lb) ∙ take-append-add before piece k
    ∙ ap (λ (t : List ℕ). before ++ t) (ap (take k) is ∙ take-take k n (front ++ rest) le ∙ take_at front rest k lf)
