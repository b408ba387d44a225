-- The parts of a list that is kept in one piece, as one is added behind, as the last ones are taken away, and as the first ones are dropped.
use Rattle.std.proofs.Common.{◌≡◌, ℕ, zero, suc, add-one, ◌+◌, ◌-◌, ◌≤◌, ◌<◌, List, [], ◌∷◌, ◌++◌, length, take, drop, get_or, slice_range, slice_index_or, min, nat_lt, Bool, true, false, refl, sym, ◌∙◌, ap, subst, arith}
use Rattle.std.proofs.lemmas.List.{length-append, length-drop, drop-drop, drop-take, take-append-le, drop-append-le, take_all, take_more, length-take-le, drop_all, get_or-drop}
use Rattle.std.proofs.lemmas.Bool.Decides.{nat_tests}
use Rattle.store_index.specs.Parts.{parts, last_end, RunTo}

pub length-parts : {A : Type 0} (s : ℕ) (es : List ℕ) (xs : List A) → length (parts s es xs) ≡ length es
length-parts s [] xs = refl
length-parts s (e ∷ es) xs = let n = length-parts e es (drop (e - s) xs) in omega (arith, n)

pub ends_here : (s : ℕ) (es : List ℕ) (n : ℕ) → RunTo s es n → last_end s es ≡ n
ends_here s [] n r = r
ends_here s (e ∷ es) n r = ends_here e es n r.1

pub begins_before : (s : ℕ) (es : List ℕ) (n : ℕ) → RunTo s es n → s ≤ n
begins_before s [] n r = omega (arith, r)
begins_before s (e ∷ es) n r = let first = r.0 in let rest = begins_before e es n r.1 in omega (arith, first, rest)

pub last_end-push : (s : ℕ) (es : List ℕ) (e : ℕ) → last_end s (es ++ e ∷ []) ≡ e
last_end-push s [] e = refl
last_end-push s (f ∷ es) e = last_end-push f es e

-- one more behind

pub RunTo-push : (s : ℕ) (es : List ℕ) (n m : ℕ) → RunTo s es n → n ≤ m → RunTo s (es ++ m ∷ []) m
RunTo-push s [] n m r le = (omega (arith, r, le), refl)
RunTo-push s (e ∷ es) n m r le = (r.0, RunTo-push e es n m r.1 le)

pub parts-push : {A : Type 0} (s : ℕ) (es : List ℕ) (n m : ℕ) (xs ys : List A) → RunTo s es n → s + length xs ≡ n → m ≡ n + length ys
    → parts s (es ++ m ∷ []) (xs ++ ys) ≡ parts s es xs ++ ys ∷ []
parts-push {A} s [] n m [] ys r h k = ap (λ (zs : List A). zs ∷ []) (take_all (m - s) ys (omega (arith, r, k)))
parts-push s [] n m (x ∷ xs) ys r h k = absurd (omega (arith, r, h))
parts-push {A} s (e ∷ es) n m xs ys r h k =
    let first : s ≤ e = r.0 in
    let rest : e ≤ n = begins_before e es n r.1 in
    let within : e - s ≤ length xs = omega (arith, first, rest, h) in
    let here : e + length (drop (e - s) xs) ≡ n = omega (arith, first, rest, h, length-drop (e - s) xs) in
    λ i. take-append-le (e - s) xs ys within i
    ∷ (ap (parts e (es ++ m ∷ [])) (drop-append-le (e - s) xs ys within) ∙ parts-push e es n m (drop (e - s) xs) ys r.1 here k) i

-- the first ones alone

pub RunTo-take : (k s : ℕ) (es : List ℕ) (n : ℕ) → RunTo s es n → RunTo s (take k es) (last_end s (take k es))
RunTo-take zero s es n r = refl
RunTo-take (suc k) s [] n r = refl
RunTo-take (suc k) s (e ∷ es) n r = (r.0, RunTo-take k e es n r.1)

pub begins_before-take : (k s : ℕ) (es : List ℕ) (n : ℕ) → RunTo s es n → s ≤ last_end s (take k es)
begins_before-take k s es n r = begins_before s (take k es) (last_end s (take k es)) (RunTo-take k s es n r)

take_short : {A : Type 0} (a b : ℕ) (xs : List A) → a ≤ b → take a (take b xs) ≡ take a xs
take_short zero b xs le = refl
take_short (suc a) zero xs le = absurd (omega (arith, le))
take_short (suc a) (suc b) [] le = refl
take_short {A} (suc a) (suc b) (x ∷ xs) le = ap (λ (ys : List A). x ∷ ys) (take_short a b xs (omega (arith, le)))

pub parts-take : {A : Type 0} (k s : ℕ) (es : List ℕ) (n : ℕ) (xs : List A) → RunTo s es n
    → parts s (take k es) (take (last_end s (take k es) - s) xs) ≡ take k (parts s es xs)
parts-take zero s es n xs r = refl
parts-take (suc k) s [] n xs r = refl
parts-take {A} (suc k) s (e ∷ es) n xs r =
    let m : ℕ = last_end e (take k es) in
    let first : s ≤ e = r.0 in
    let later : e ≤ m = begins_before-take k e es n r.1 in
    let short : e - s ≤ m - s = omega (arith, first, later) in
    let split : m - s ≡ e - s + (m - e) = omega (arith, first, later) in
    let rest : drop (e - s) (take (m - s) xs) ≡ take (m - e) (drop (e - s) xs) =
    ap (λ j. drop (e - s) (take j xs)) split ∙ drop-take (e - s) (m - e) xs in
    λ i. take_short (e - s) (m - s) xs short i ∷ (ap (parts e (take k es)) rest ∙ parts-take k e es n (drop (e - s) xs) r.1) i

-- without the first ones

pub RunTo-drop : (k s : ℕ) (es : List ℕ) (n : ℕ) → RunTo s es n → RunTo (last_end s (take k es)) (drop k es) n
RunTo-drop zero s es n r = r
RunTo-drop (suc k) s [] n r = r
RunTo-drop (suc k) s (e ∷ es) n r = RunTo-drop k e es n r.1

pub ends_before-drop : (k s : ℕ) (es : List ℕ) (n : ℕ) → RunTo s es n → last_end s (take k es) ≤ n
ends_before-drop k s es n r = begins_before (last_end s (take k es)) (drop k es) n (RunTo-drop k s es n r)

pub parts-drop : {A : Type 0} (k s : ℕ) (es : List ℕ) (n : ℕ) (xs : List A) → RunTo s es n
    → parts (last_end s (take k es)) (drop k es) (drop (last_end s (take k es) - s) xs) ≡ drop k (parts s es xs)
parts-drop zero s es n xs r = let none : s - s ≡ 0 = omega arith in ap (λ j. parts s es (drop j xs)) none
parts-drop (suc k) s [] n xs r = refl
parts-drop (suc k) s (e ∷ es) n xs r =
    let m : ℕ = last_end e (take k es) in
    let first : s ≤ e = r.0 in
    let later : e ≤ m = begins_before-take k e es n r.1 in
    let split : m - s ≡ e - s + (m - e) = omega (arith, first, later) in
    ap (parts m (drop k es)) (ap (λ j. drop j xs) split ∙ sym (drop-drop (m - e) (e - s) xs)) ∙ parts-drop k e es n (drop (e - s) xs) r.1

-- one of them

pub parts-get : {A : Type 0} (i s : ℕ) (es : List ℕ) (n : ℕ) (xs : List A) → RunTo s es n → i < length es
    → get_or (parts s es xs) i [] ≡ slice_range xs (last_end s (take i es) - s) (last_end s (take (suc i) es) - s)
parts-get i s [] n xs r lt = absurd (omega (arith, lt))
parts-get zero s (e ∷ es) n xs r lt =
    let none : s - s ≡ 0 = omega arith in
    let same : e - s ≡ e - s - (s - s) = omega arith in
    ap (λ j. take j xs) same ∙ ap (λ j. take (e - s - (s - s)) (drop j xs)) (sym none)
parts-get (suc i) s (e ∷ es) n xs r lt =
    let from : ℕ = last_end e (take i es) in
    let to : ℕ = last_end e (take (suc i) es) in
    let first : s ≤ e = r.0 in
    let later : e ≤ from = begins_before-take i e es n r.1 in
    let latest : e ≤ to = begins_before-take (suc i) e es n r.1 in
    let split : from - s ≡ e - s + (from - e) = omega (arith, first, later) in
    let long : to - e - (from - e) ≡ to - s - (from - s) = omega (arith, first, later, latest) in
    parts-get i e es n (drop (e - s) xs) r.1 (omega (arith, lt))
    ∙ ap (take (to - e - (from - e))) (drop-drop (from - e) (e - s) xs ∙ ap (λ j. drop j xs) (sym split))
    ∙ ap (λ j. take j (drop (from - s) xs)) long

-- where so many of the first parts end

pub after_none : (s : ℕ) (es : List ℕ) (k : ℕ) → k ≡ 0 → s ≡ last_end s (take k es)
after_none s es k e = ap (λ n. last_end s (take n es)) (sym e)

pub after_some : (s : ℕ) (es : List ℕ) (k : ℕ) → k < length es → slice_index_or es k 0 ≡ last_end s (take (k + 1) es)
after_some s es k within =
    sym (ap (last_end s) (take_more es k 0 within) ∙ last_end-push s (take k es) (get_or es k 0))

-- where one part ends, the next one ends no sooner
ends_rise : (k s : ℕ) (es : List ℕ) (n : ℕ) → RunTo s es n → last_end s (take k es) ≤ last_end s (take (suc k) es)
ends_rise zero s [] n r = omega arith
ends_rise zero s (e ∷ es) n r = r.0
ends_rise (suc k) s [] n r = omega arith
ends_rise (suc k) s (e ∷ es) n r = ends_rise k e es n r.1

-- the same for a piece with its ends, once they were changed

abbrev pub Piece : {A : Type 0} → ℕ × List ℕ → List A → Type 0
Piece e xs = RunTo e.0 e.1 (e.0 + length xs)

abbrev pub parts_of : {A : Type 0} → ℕ × List ℕ → List A → List (List A)
parts_of e xs = parts e.0 e.1 xs

pub piece_pushed : {A : Type 0} (e f : ℕ × List ℕ) (k : ℕ) (xs ys zs : List A) → Piece e xs → f ≡ (e.0, e.1 ++ (last_end e.0 e.1 + k) ∷ []) → zs ≡ xs ++ ys
    → k ≡ length ys → Piece f zs
piece_pushed {A} e f k xs ys zs r is longer long =
    let last : last_end e.0 e.1 ≡ e.0 + length xs = ends_here e.0 e.1 (e.0 + length xs) r in
    let all : length zs ≡ length (xs ++ ys) = ap (λ (l : List A). length l) longer in
    let here : last_end e.0 e.1 + k ≡ e.0 + length zs = omega (arith, last, all, length-append xs ys, long) in
    let within : e.0 + length xs ≤ last_end e.0 e.1 + k = omega (arith, last) in
    let Claim : ℕ × List ℕ → Type 0 = λ g. RunTo g.0 g.1 (g.0 + length zs) in
    subst Claim (sym is)
    (subst (λ j. RunTo e.0 (e.1 ++ (last_end e.0 e.1 + k) ∷ []) j) here (RunTo-push e.0 e.1 (e.0 + length xs) (last_end e.0 e.1 + k) r within))

pub parts_pushed : {A : Type 0} (e f : ℕ × List ℕ) (k : ℕ) (xs ys zs : List A) → Piece e xs → f ≡ (e.0, e.1 ++ (last_end e.0 e.1 + k) ∷ []) → zs ≡ xs ++ ys
    → k ≡ length ys → parts_of f zs ≡ parts_of e xs ++ ys ∷ []
parts_pushed {A} e f k xs ys zs r is longer long =
    let last : last_end e.0 e.1 ≡ e.0 + length xs = ends_here e.0 e.1 (e.0 + length xs) r in
    let here : last_end e.0 e.1 + k ≡ e.0 + length xs + length ys = omega (arith, last, long) in
    ap (λ (g : ℕ × List ℕ). parts_of g zs) is
    ∙ ap (parts e.0 (e.1 ++ (last_end e.0 e.1 + k) ∷ [])) longer
    ∙ parts-push e.0 e.1 (e.0 + length xs) (last_end e.0 e.1 + k) xs ys r refl here

pub piece_cut : {A : Type 0} (e f : ℕ × List ℕ) (k : ℕ) (xs zs : List A) → Piece e xs → f ≡ (e.0, take k e.1) → zs ≡ take (last_end e.0 (take k e.1) - e.0) xs → Piece f zs
piece_cut {A} e f k xs zs r is short =
    let m : ℕ = last_end e.0 (take k e.1) in
    let low : e.0 ≤ m = begins_before-take k e.0 e.1 (e.0 + length xs) r in
    let high : m ≤ e.0 + length xs = ends_before-drop k e.0 e.1 (e.0 + length xs) r in
    let within : m - e.0 ≤ length xs = omega (arith, low, high) in
    let long : length zs ≡ m - e.0 = ap (λ (l : List A). length l) short ∙ length-take-le (m - e.0) xs within in
    let here : m ≡ e.0 + length zs = omega (arith, low, long) in
    let Claim : ℕ × List ℕ → Type 0 = λ g. RunTo g.0 g.1 (g.0 + length zs) in
    subst Claim (sym is) (subst (λ j. RunTo e.0 (take k e.1) j) here (RunTo-take k e.0 e.1 (e.0 + length xs) r))

pub parts_cut : {A : Type 0} (e f : ℕ × List ℕ) (k : ℕ) (xs zs : List A) → Piece e xs → f ≡ (e.0, take k e.1) → zs ≡ take (last_end e.0 (take k e.1) - e.0) xs
    → parts_of f zs ≡ take k (parts_of e xs)
parts_cut {A} e f k xs zs r is short =
    ap (λ (g : ℕ × List ℕ). parts_of g zs) is ∙ ap (parts e.0 (take k e.1)) short ∙ parts-take k e.0 e.1 (e.0 + length xs) xs r

pub piece_dropped : {A : Type 0} (e f : ℕ × List ℕ) (k : ℕ) (xs zs : List A) → Piece e xs → f ≡ (last_end e.0 (take k e.1), drop k e.1)
    → zs ≡ drop (last_end e.0 (take k e.1) - e.0) xs → Piece f zs
piece_dropped {A} e f k xs zs r is short =
    let m : ℕ = last_end e.0 (take k e.1) in
    let low : e.0 ≤ m = begins_before-take k e.0 e.1 (e.0 + length xs) r in
    let high : m ≤ e.0 + length xs = ends_before-drop k e.0 e.1 (e.0 + length xs) r in
    let long : length zs ≡ length xs - (m - e.0) = ap (λ (l : List A). length l) short ∙ length-drop (m - e.0) xs in
    let here : e.0 + length xs ≡ m + length zs = omega (arith, low, high, long) in
    let Claim : ℕ × List ℕ → Type 0 = λ g. RunTo g.0 g.1 (g.0 + length zs) in
    subst Claim (sym is) (subst (λ j. RunTo m (drop k e.1) j) here (RunTo-drop k e.0 e.1 (e.0 + length xs) r))

pub parts_dropped : {A : Type 0} (e f : ℕ × List ℕ) (k : ℕ) (xs zs : List A) → Piece e xs → f ≡ (last_end e.0 (take k e.1), drop k e.1)
    → zs ≡ drop (last_end e.0 (take k e.1) - e.0) xs → parts_of f zs ≡ drop k (parts_of e xs)
parts_dropped {A} e f k xs zs r is short =
    ap (λ (g : ℕ × List ℕ). parts_of g zs) is ∙ ap (parts (last_end e.0 (take k e.1)) (drop k e.1)) short ∙ parts-drop k e.0 e.1 (e.0 + length xs) xs r

-- where a part stands in the piece
pub part_within : {A : Type 0} (e : ℕ × List ℕ) (k : ℕ) (xs : List A) → Piece e xs
    → (last_end e.0 (take k e.1) - e.0 ≤ last_end e.0 (take (k + 1) e.1) - e.0) × (last_end e.0 (take k e.1) - e.0 ≤ length xs)
part_within e k xs r =
    let rise = ends_rise k e.0 e.1 (e.0 + length xs) r in
    let next : last_end e.0 (take (k + 1) e.1) ≡ last_end e.0 (take (suc k) e.1) = ap (λ j. last_end e.0 (take j e.1)) (add-one k) in
    let high = ends_before-drop k e.0 e.1 (e.0 + length xs) r in
    (omega (arith, rise, next), omega (arith, high))

-- and which it is
pub part_at : {A : Type 0} (e : ℕ × List ℕ) (k : ℕ) (xs : List A) → Piece e xs → k < length e.1
    → slice_range xs (last_end e.0 (take k e.1) - e.0) (last_end e.0 (take (k + 1) e.1) - e.0) ≡ get_or (parts_of e xs) k []
part_at e k xs r lt =
    ap (λ j. slice_range xs (last_end e.0 (take k e.1) - e.0) (last_end e.0 (take j e.1) - e.0)) (add-one k)
    ∙ sym (parts-get k e.0 e.1 (e.0 + length xs) xs r lt)

-- as many as there are can be dropped
pub drop_min : {A : Type 0} (n : ℕ) (xs : List A) → drop (min n (length xs)) xs ≡ drop n xs
drop_min n xs = by_test (nat_lt n (length xs)) refl
  where
    by_test : (b : Bool) → nat_lt n (length xs) ≡ b → drop (min n (length xs)) xs ≡ drop n xs
    by_test true t = let few : min n (length xs) ≡ n = grind (arith, nat_tests) in ap (λ j. drop j xs) few
    by_test false t =
        let all : length xs ≤ n = grind (arith, nat_tests) in
        let whole : length xs ≤ min n (length xs) = omega (arith, all) in
        drop_all (min n (length xs)) xs whole ∙ sym (drop_all n xs all)

-- a range with the item behind it
pub range_more : {A : Type 0} (xs : List A) (from to : ℕ) (d : A) → from ≤ to → to < length xs → slice_range xs from (to + 1) ≡ slice_range xs from to ++ get_or xs to d ∷ []
range_more {A} xs from to d le lt =
    let within : to - from < length (drop from xs) = omega (arith, le, lt, length-drop from xs) in
    let next : to + 1 - from ≡ to - from + 1 = omega (arith, le) in
    let back : from + (to - from) ≡ to = omega (arith, le) in
    ap (λ j. take j (drop from xs)) next
    ∙ take_more (drop from xs) (to - from) d within
    ∙ ap (λ (x : A). take (to - from) (drop from xs) ++ x ∷ []) (get_or-drop from xs (to - from) d ∙ ap (λ j. get_or xs j d) back)
