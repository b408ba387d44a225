-- Values unwrapped one after another: as far as they came they are those of the front, and the first foreign key ends it.
use Rattle.std.proofs.Common.{◌≡◌, ℕ, ◌+◌, ◌<◌, suc, List, [], ◌∷◌, ◌++◌, length, get_or, take, drop, Ok, Err, refl, sym, ◌∙◌, ap, subst, drop-cons}
use Rattle.std.proofs.lemmas.List.{take_more, take-append-drop}
use Rattle.namespace_keys.specs.declared.fault.KeyFault.{KeyFault}
use Rattle.namespace_keys.specs.declared.fault.KeyFault.TheVariants.{ForeignKey, NoMemory}
use Rattle.proxy_model.specs.Unwrapped.{Unwrapped, ◌>>=◌, each}
use Rattle.namespace_keys.specs.Returned.{Fails}

bound : {A B : Type 0} (r : Unwrapped A) (f : A → Unwrapped B) (z : B) → (r >>= f) ≡ Ok z → (y : A) × (r ≡ Ok y) × (f y ≡ Ok z)
bound (Ok y) f z e = (y, refl, e)
bound (Err k) f z e = absurd (cc)

one_more : {A : Type 0} (f : A → Unwrapped A) (xs ys : List A) (x y : A) → each f xs ≡ Ok ys → f x ≡ Ok y → each f (xs ++ x ∷ []) ≡ Ok (ys ++ y ∷ [])
one_more f [] ys x y e h =
    ap (λ r. r >>= λ v. Ok (v ∷ [])) h ∙ ap (λ r. r >>= λ vs. Ok (vs ++ y ∷ [])) e
one_more f (first ∷ xs) ys x y e h =
    let a = bound (f first) (λ v. each f xs >>= λ vs. Ok (v ∷ vs)) ys e in
    let b = bound (each f xs) (λ vs. Ok (a.0 ∷ vs)) ys a.2 in
    ap (λ r. r >>= λ v. each f (xs ++ x ∷ []) >>= λ vs. Ok (v ∷ vs)) a.1
    ∙ ap (λ r. r >>= λ vs. Ok (a.0 ∷ vs)) (one_more f xs b.0 x y b.1 h)
    ∙ ap (λ r. r >>= λ vs. Ok (vs ++ y ∷ [])) b.2

stops : {A : Type 0} (f : A → Unwrapped A) (xs ys rest : List A) (x : A) (k : List ℕ) → each f xs ≡ Ok ys → f x ≡ Err k → each f (xs ++ x ∷ rest) ≡ Err k
stops f [] ys rest x k e h = ap (λ r. r >>= λ v. each f rest >>= λ vs. Ok (v ∷ vs)) h
stops f (first ∷ xs) ys rest x k e h =
    let a = bound (f first) (λ v. each f xs >>= λ vs. Ok (v ∷ vs)) ys e in
    let b = bound (each f xs) (λ vs. Ok (a.0 ∷ vs)) ys a.2 in
    ap (λ r. r >>= λ v. each f (xs ++ x ∷ rest) >>= λ vs. Ok (v ∷ vs)) a.1
    ∙ ap (λ r. r >>= λ vs. Ok (a.0 ∷ vs)) (stops f xs b.0 rest x k b.1 h)

more_at : {A : Type 0} (f : A → Unwrapped A) (xs ys : List A) (i : ℕ) (x y : A) → i < length xs → x ≡ get_or xs i x
    → each f (take i xs) ≡ Ok ys → f x ≡ Ok y → each f (take (i + 1) xs) ≡ Ok (ys ++ y ∷ [])
more_at {A} f xs ys i x y l is e h =
    ap (each f) (take_more xs i x l ∙ ap (λ (v : A). take i xs ++ v ∷ []) (sym is)) ∙ one_more f (take i xs) ys x y e h

stops_at : {A : Type 0} (f : A → Unwrapped A) (xs ys : List A) (i : ℕ) (x : A) (k : List ℕ) → i < length xs → x ≡ get_or xs i x
    → each f (take i xs) ≡ Ok ys → f x ≡ Err k → each f xs ≡ Err k
stops_at {A} f xs ys i x k l is e h =
    let cut : xs ≡ take i xs ++ x ∷ drop (suc i) xs =
    sym (take-append-drop i xs) ∙ ap (λ (vs : List A). take i xs ++ vs) (drop-cons xs i x l ∙ ap (λ (v : A). v ∷ drop (suc i) xs) (sym is)) in
    ap (each f) cut ∙ stops f (take i xs) ys (drop (suc i) xs) x k e h

-- a loop goes over the items, which are the members of the list

pub each_more : {A : Type 0} (f : A → Unwrapped A) (xs items ys : List A) (i : ℕ) (x y : A) → items ≡ xs → i < length items → x ≡ get_or items i x
    → each f (take i xs) ≡ Ok ys → f x ≡ Ok y → each f (take (i + 1) xs) ≡ Ok (ys ++ y ∷ [])
each_more {A} f xs items ys i x y s l is e h =
    more_at f xs ys i x y (subst (λ (v : List A). i < length v) s l) (subst (λ (v : List A). x ≡ get_or v i x) s is) e h

-- the fault of one is the fault of all
pub each_fails : {A : Type 0} (f : A → Unwrapped A) (xs items ys : List A) (i : ℕ) (x : A) (fault : KeyFault) → items ≡ xs → i < length items → x ≡ get_or items i x
    → each f (take i xs) ≡ Ok ys → Fails fault (f x) → Fails fault (each f xs)
each_fails {A} f xs items ys i x (ForeignKey k) s l is e h =
    stops_at f xs ys i x k (subst (λ (v : List A). i < length v) s l) (subst (λ (v : List A). x ≡ get_or v i x) s is) e h
each_fails f xs items ys i x NoMemory s l is e h = tt
