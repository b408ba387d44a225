-- A range of a list that grows or shrinks.
use Rattle.std.proofs.Common.{◌≡◌, ℕ, ◌+◌, ◌-◌, ◌≤◌, List, ◌++◌, take, drop, slice_range, sym, ap, ◌∙◌, arith}
use Rattle.std.proofs.lemmas.List.{drop-take, drop-drop}
use Rattle.std.proofs.Math.Seq.{take-add}

-- a range that begins later
pub range_later : (xs : List ℕ) (start end count : ℕ) → start + count ≤ end
    → slice_range xs (start + count) end ≡ drop count (slice_range xs start end)
range_later xs start end count h =
    let rest = end - (start + count) in
    let parts : end - start ≡ count + rest = omega arith in
    ap (take rest) (sym (drop-drop count start xs)) ∙ sym (drop-take count rest (drop start xs))
    ∙ ap (λ (n : ℕ). drop count (take n (drop start xs))) (sym parts)

-- a range within a front that stays is the same
range_same : (xs ys : List ℕ) (start count end : ℕ) → start + count ≡ end → take end xs ≡ take end ys
    → take count (drop start xs) ≡ take count (drop start ys)
range_same xs ys start count end is same =
    sym (drop-take start count xs) ∙ ap (λ (n : ℕ). drop start (take n xs)) is ∙ ap (drop start) same
    ∙ ap (λ (n : ℕ). drop start (take n ys)) (sym is) ∙ drop-take start count ys

-- the same of the whole range
pub range_kept : (xs ys : List ℕ) (start end : ℕ) → start ≤ end → take end xs ≡ take end ys
    → slice_range xs start end ≡ slice_range ys start end
range_kept xs ys start end h same = range_same xs ys start (end - start) end (omega arith) same

-- a range with so many more elements behind a front that stays
pub range_more : (xs ys : List ℕ) (start end count : ℕ) → start ≤ end → take end xs ≡ take end ys
    → slice_range xs start (end + count) ≡ slice_range ys start end ++ take count (drop end xs)
range_more xs ys start end count h same =
    let first = end - start in
    let parts : (end + count) - start ≡ first + count = omega arith in
    let at : start + first ≡ end = omega arith in
    ap (λ (n : ℕ). take n (drop start xs)) parts ∙ take-add first count (drop start xs)
    ∙ (λ i. range_same xs ys start first end at same i ++ take count ((drop-drop first start xs ∙ ap (λ (n : ℕ). drop n xs) at) i))
