-- What a read of bytes in memory gives.
use Rattle.std.proofs.Common.{◌≡◌, ◌≤◌, ◌<◌, ℕ, List, [], ◌++◌, sym, ap, ◌∙◌, take, drop, length, ◌+◌, ◌-◌, arith, min, length-take, length-drop, length-append}
use Rattle.std.proofs.lemmas.List.{take-append-drop, take_rest, take_at, drop-drop}
use Rattle.std.proofs.Math.ListN.{drop_of_length-le}

-- what was read, and then what is left
pub gave_front : (bytes room filled : List ℕ) (at count : ℕ)
    → filled ≡ take count (take (length bytes - at) (drop at bytes)) → at + count ≤ length bytes
    → drop at bytes ≡ take count (filled ++ drop count room) ++ drop (at + count) bytes
gave_front bytes room filled at count is within =
    let rest = drop at bytes in
    let front : filled ≡ take count rest = is ∙ ap (take count) (take_rest bytes at) in
    let size : length filled ≡ count = ap length front ∙ omega (arith, length-take {A = ℕ}, length-drop {A = ℕ}) in
    sym (take-append-drop count rest)
    ∙ (λ i. front_of front size i ++ drop-drop count at bytes i)
  where
    front_of : filled ≡ take count (drop at bytes) → length filled ≡ count → take count (drop at bytes) ≡ take count (filled ++ drop count room)
    front_of front size = sym (take_at filled (drop count room) count size ∙ front)

-- nothing is read into a room only where nothing is left
pub gave_nothing : (bytes filled room : List ℕ) (at count less piece : ℕ)
    → less ≡ min (length (take (length bytes - at) (drop at bytes))) (length room) → count ≡ min less piece → 0 < piece
    → length filled ≡ count
    → count ≡ 0 → 0 < length (filled ++ drop count room) → drop (at + count) bytes ≡ []
gave_nothing bytes filled room at count less piece is_less is_count positive size none some =
    drop_of_length-le bytes (omega (arith, length-take {A = ℕ}, length-drop {A = ℕ}, length-append {A = ℕ}))
