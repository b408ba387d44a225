-- What a turn of a part by one place, and a write, do to rows.
use Rattle.std.proofs.Common.{◌≡◌, ℕ, zero, suc, ◌+◌, ◌-◌, ◌<◌, ◌≤◌, List, [], ◌∷◌, ◌++◌, length, take, drop, set, refl, sym, ◌∙◌, ap, subst, arith}
use Rattle.std.proofs.lemmas.List.{length-append, length-drop, length-take-le, take-append-drop, take_all, take_at, drop_all, append-nil, drop_at, drop-drop}
use Rattle.std.specs.List.{insert, remove}

-- The rows, where ys stand in place of those k from the a-th on.

abbrev pub parted : {X : Type 0} → ℕ → ℕ → List X → List X → List X
parted a k xs ys = take a xs ++ (ys ++ drop k (drop a xs))

abbrev pub turned_left : {X : Type 0} → List X → List X
turned_left ys = drop 1 ys ++ take 1 ys

abbrev pub turned_right : {X : Type 0} → List X → List X
turned_right ys = drop (length ys - 1) ys ++ take (length ys - 1) ys

-- To the left: the first of the part comes behind the others, and another one takes its place.

left_here : {X : Type 0} (k : ℕ) (xs : List X) (x : X) → k < length xs → set (parted 0 (suc k) xs (turned_left (take (suc k) xs))) k x ≡ insert (remove xs 0) k x
left_here k [] x h = absurd (omega arith)
left_here k (y ∷ ys) x h = behind k ys (omega arith)
  where
    behind : (k : ℕ) (ys : List _) → k ≤ length ys → set ((take k ys ++ y ∷ []) ++ drop k ys) k x ≡ insert ys k x
    behind zero ys l = refl
    behind (suc k) [] l = absurd (omega arith)
    behind (suc k) (z ∷ zs) l = ap (λ (rest : List _). z ∷ rest) (behind k zs (omega arith))

pub moved_left : {X : Type 0} (from to k : ℕ) (xs : List X) (x : X) → to ≡ from + k → to < length xs → set (parted from (suc k) xs (turned_left (take (suc k) (drop from xs)))) to x ≡ insert (remove xs from) to x
moved_left from to k [] x e h = absurd (omega arith)
moved_left zero to k (y ∷ ys) x e h =
    let here : to ≡ k = omega arith in
    let Claim : ℕ → Type 0 = λ n. set (parted 0 (suc k) (y ∷ ys) (turned_left (take (suc k) (y ∷ ys)))) n x ≡ insert (remove (y ∷ ys) 0) n x in
    subst Claim (sym here) (left_here k (y ∷ ys) x (omega arith))
moved_left (suc from) zero k (y ∷ ys) x e h = absurd (omega arith)
moved_left (suc from) (suc to) k (y ∷ ys) x e h = ap (λ (rest : List _). y ∷ rest) (moved_left from to k ys x (omega arith) (omega arith))

-- To the right: the last of the part comes before the others.

last_of : {X : Type 0} (k : ℕ) (xs : List X) (d : X) → k < length xs → record { last : (y : X) × (drop k (take (suc k) xs) ≡ y ∷ []); rest : take k (take (suc k) xs) ≡ take k xs; len : length (take (suc k) xs) ≡ suc k }
last_of k [] d h = absurd (omega arith)
last_of zero (y ∷ ys) d h = record { last = (y, refl); rest = refl; len = refl }
last_of (suc k) (y ∷ ys) d h =
    let next = last_of k ys d (omega arith) in
    record { last = next.last; rest = ap (λ (rest : List _). y ∷ rest) next.rest; len = ap suc next.len }

turned_is : {X : Type 0} (k : ℕ) (xs : List X) (d : X) → k < length xs → (y : X) × (turned_right (take (suc k) xs) ≡ y ∷ take k xs)
turned_is k xs d h =
    let part = last_of k xs d h in
    let len = part.len in
    let one : length (take (suc k) xs) - 1 ≡ k = omega (arith, len) in
    let ys = take (suc k) xs in
    (part.last.0, ap (λ n. drop n ys ++ take n ys) one ∙ ap (λ (l : List _). l ++ take k ys) part.last.1 ∙ ap (λ (l : List _). part.last.0 ∷ l) part.rest)

pub to_front : {X : Type 0} (k : ℕ) (xs : List X) (d : X) → k < length xs → drop 1 (parted 0 (suc k) xs (turned_right (take (suc k) xs))) ≡ remove xs k
to_front k xs d h =
    let turned = turned_is k xs d h in
    ap (λ (l : List _). drop 1 (l ++ drop (suc k) xs)) turned.1

pub moved_right : {X : Type 0} (to from k : ℕ) (xs : List X) (x : X) → from ≡ to + k → from < length xs → set (parted to (suc k) xs (turned_right (take (suc k) (drop to xs)))) to x ≡ insert (remove xs from) to x
moved_right to from k [] x e h = absurd (omega arith)
moved_right zero from k (y ∷ ys) x e h =
    let here : from ≡ k = omega arith in
    let turned = turned_is k (y ∷ ys) x (omega arith) in
    let Claim : ℕ → Type 0 = λ n. set (parted 0 (suc k) (y ∷ ys) (turned_right (take (suc k) (y ∷ ys)))) 0 x ≡ insert (remove (y ∷ ys) n) 0 x in
    subst Claim (sym here) (ap (λ (l : List _). set (l ++ drop k ys) 0 x) turned.1)
moved_right (suc to) zero k (y ∷ ys) x e h = absurd (omega arith)
moved_right (suc to) (suc from) k (y ∷ ys) x e h = ap (λ (rest : List _). y ∷ rest) (moved_right to from k ys x (omega arith) (omega arith))

pub left_to : {X : Type 0} (from to : ℕ) (xs ys zs : List X) (x : X) → from ≤ to → to < length xs → ys ≡ turned_left (take (to + 1 - from) (drop from xs)) → zs ≡ parted from (to + 1 - from) xs ys → set zs to x ≡ insert (remove xs from) to x
left_to from to xs ys zs x l h e f =
    let k = to - from in
    let long : to + 1 - from ≡ suc k = omega arith in
    let there : to ≡ from + k = omega arith in
    let Claim : ℕ → Type 0 = λ m. set (parted from m xs (turned_left (take m (drop from xs)))) to x ≡ insert (remove xs from) to x in
    ap (λ (l : List _). set l to x) (f ∙ ap (λ (l : List _). parted from (to + 1 - from) xs l) e) ∙
    subst Claim (sym long) (moved_left from to k xs x there h)

pub right_to : {X : Type 0} (from to : ℕ) (xs ys zs : List X) (x : X) → to ≤ from → from < length xs → ys ≡ turned_right (take (from + 1 - to) (drop to xs)) → zs ≡ parted to (from + 1 - to) xs ys → set zs to x ≡ insert (remove xs from) to x
right_to from to xs ys zs x l h e f =
    let k = from - to in
    let long : from + 1 - to ≡ suc k = omega arith in
    let there : from ≡ to + k = omega arith in
    let Claim : ℕ → Type 0 = λ m. set (parted to m xs (turned_right (take m (drop to xs)))) to x ≡ insert (remove xs from) to x in
    ap (λ (l : List _). set l to x) (f ∙ ap (λ (l : List _). parted to (from + 1 - to) xs l) e) ∙
    subst Claim (sym long) (moved_right to from k xs x there h)

pub first_now : {X : Type 0} (p m : ℕ) (xs ys : List X) → p < length xs → m ≡ p + 1 → ys ≡ turned_right (take m xs) → drop 1 (ys ++ drop m xs) ≡ remove xs p
first_now p m [] ys h e f = absurd (omega arith)
first_now p m (x ∷ xs) ys h e f =
    let one : m ≡ suc p = omega arith in
    let Claim : ℕ → Type 0 = λ n. drop 1 (turned_right (take n (x ∷ xs)) ++ drop n (x ∷ xs)) ≡ remove (x ∷ xs) p in
    ap (λ (l : List _). drop 1 (l ++ drop m (x ∷ xs))) f ∙ subst Claim (sym one) (to_front p (x ∷ xs) x h)

-- Behind what is left over: rows are put in and taken out there.

drop_one : {X : Type 0} (n : ℕ) (xs : List X) → drop 1 (drop n xs) ≡ drop (suc n) xs
drop_one zero xs = refl
drop_one (suc n) [] = refl
drop_one (suc n) (y ∷ ys) = drop_one n ys

behind : {X : Type 0} (n k : ℕ) (xs ys : List X) → n ≤ length xs → length xs ≤ n + k → drop n (parted n k xs ys) ≡ ys
behind n k xs ys l m =
    let long = length-drop n xs in
    drop_at (take n xs) (ys ++ drop k (drop n xs)) n (length-take-le n xs l) ∙ ap (λ (t : List _). ys ++ t) (drop_all k (drop n xs) (omega arith)) ∙ append-nil ys

pub put_before : {X : Type 0} (o n p : ℕ) (xs ys es : List X) (x : X) → o ≡ suc n → o ≤ length xs → drop o xs ≡ es → ys ≡ insert (remove (take (length xs - n) (drop n xs)) 0) p x → drop n (parted n (length xs - n) xs ys) ≡ insert es p x
put_before o n p xs ys es x s l e f =
    let long = length-drop n xs in
    let rest : remove (take (length xs - n) (drop n xs)) 0 ≡ es = ap (λ (t : List _). drop 1 t) (take_all (length xs - n) (drop n xs) (omega arith)) ∙ drop_one n xs ∙ ap (λ m. drop m xs) (sym s) ∙ e in
    behind n (length xs - n) xs ys (omega arith) (omega arith) ∙ f ∙ ap (λ (t : List _). insert t p x) rest

pub taken_before : {X : Type 0} (o p : ℕ) (xs ys es : List X) → o ≤ length xs → drop o xs ≡ es → drop 1 ys ≡ remove (take (length xs - o) (drop o xs)) p → drop (o + 1) (parted o (length xs - o) xs ys) ≡ remove es p
taken_before o p xs ys es l e f =
    let long = length-drop o xs in
    sym (drop-drop 1 o (parted o (length xs - o) xs ys)) ∙ ap (λ (t : List _). drop 1 t) (behind o (length xs - o) xs ys l (omega arith)) ∙ f ∙
    ap (λ (t : List _). remove t p) (take_all (length xs - o) (drop o xs) (omega arith) ∙ e)

put_there : {X : Type 0} (o to p : ℕ) (xs : List X) (x : X) → to ≡ o + p → o ≤ length xs → drop o (insert xs to x) ≡ insert (drop o xs) p x
put_there zero to p xs x e l = let here : to ≡ p = omega arith in ap (λ n. insert xs n x) here
put_there (suc o) to p [] x e l = absurd (omega arith)
put_there (suc o) zero p (y ∷ ys) x e l = absurd (omega arith)
put_there (suc o) (suc to) p (y ∷ ys) x e l = put_there o to p ys x (omega arith) (omega arith)

pub put_behind : {X : Type 0} (o p : ℕ) (xs zs es : List X) (x : X) → o ≤ length xs → drop o xs ≡ es → zs ≡ insert xs (o + p) x → drop o zs ≡ insert es p x
put_behind o p xs zs es x l e f =
    ap (λ (t : List _). drop o t) f ∙ put_there o (o + p) p xs x refl l ∙ ap (λ (t : List _). insert t p x) e

taken_there : {X : Type 0} (o from p : ℕ) (xs : List X) → from ≡ o + p → o ≤ length xs → drop o (remove xs from) ≡ remove (drop o xs) p
taken_there zero from p xs e l = let here : from ≡ p = omega arith in ap (λ n. remove xs n) here
taken_there (suc o) from p [] e l = absurd (omega arith)
taken_there (suc o) zero p (y ∷ ys) e l = absurd (omega arith)
taken_there (suc o) (suc from) p (y ∷ ys) e l = taken_there o from p ys (omega arith) (omega arith)

pub taken_behind : {X : Type 0} (o p : ℕ) (xs zs es : List X) → o ≤ length xs → drop o xs ≡ es → zs ≡ remove xs (o + p) → drop o zs ≡ remove es p
taken_behind o p xs zs es l e f =
    ap (λ (t : List _). drop o t) f ∙ taken_there o (o + p) p xs refl l ∙ ap (λ (t : List _). remove t p) e

-- The part is as long as before, and so are all rows: a vector takes them back as they are.

pub put_length : {X : Type 0} (n p : ℕ) (xs ys : List X) (x : X) → n < length xs → ys ≡ insert (remove (take (length xs - n) (drop n xs)) 0) p x → length ys ≡ length (take (length xs - n) (drop n xs))
put_length n p xs ys x l f =
    let long = length-drop n xs in
    let all = ap length (take_all (length xs - n) (drop n xs) (omega arith)) in
    let rest = drop 1 (take (length xs - n) (drop n xs)) in
    let shorter = length-drop 1 (take (length xs - n) (drop n xs)) in
    let whole = ap length f in
    let parts = length-append (take p rest) (x ∷ drop p rest) in
    let both = length-append (take p rest) (drop p rest) in
    let same = ap length (take-append-drop p rest) in
    omega arith

pub same_length : {X : Type 0} (n k : ℕ) (xs ys : List X) → length ys ≡ length (take k (drop n xs)) → length (parted n k xs ys) ≡ length xs
same_length n k xs ys e =
    let rest = drop n xs in
    let all = length-append (take n xs) (ys ++ drop k rest) in
    let behind = length-append ys (drop k rest) in
    let part = length-append (take k rest) (drop k rest) in
    let whole = ap length (take-append-drop k rest) in
    let both = length-append (take n xs) rest in
    let same = ap length (take-append-drop n xs) in
    omega arith

pub taken_back : {X : Type 0} (m n : ℕ) (ws zs : List X) → length ws ≡ m → drop n (take m (ws ++ drop (length ws) zs)) ≡ drop n ws
taken_back m n ws zs e = ap (λ (t : List _). drop n t) (take_at ws (drop (length ws) zs) m e)
