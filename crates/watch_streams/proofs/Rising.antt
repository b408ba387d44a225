-- Rows whose digests don't fall: where those below a limit end, and a row that is put behind those of its digest.
use Rattle.std.proofs.Common.{◌≡◌, ℕ, zero, suc, ◌+◌, ◌<◌, ◌≤◌, Bool, true, false, not, cond, ◌&&◌, ◌==◌, nat_lt, nat_le, List, [], ◌∷◌, ◌++◌, map, filter, get_or, length, drop, refl, ap, sym, subst, ◌∙◌, append-nil, arith}
use Rattle.std.proofs.lemmas.Bool.Decides.{nat_tests}
use Rattle.std.specs.List.{insert}
use Rattle.watch_streams.specs.declared.rows.Row.{Row}
use Rattle.watch_streams.specs.Rows.{before, rising, with_row, is_other_row, without_row, is_under, under}

pub rest_rising : (low : ℕ) (r : Row) (rs : List Row) → rising low (r ∷ rs) ≡ true → (low ≤ r.digest) × (rising r.digest rs ≡ true)
rest_rising low r rs h = (let l : low ≤ r.digest = grind (arith, nat_tests) in l, let m : rising r.digest rs ≡ true = grind (arith, nat_tests) in m)

joined_rising : (low : ℕ) (r : Row) (rs : List Row) → low ≤ r.digest → rising r.digest rs ≡ true → rising low (r ∷ rs) ≡ true
joined_rising low r rs l h = grind (arith, nat_tests)

lower : (low least : ℕ) (rs : List Row) → low ≤ least → rising least rs ≡ true → rising low rs ≡ true
lower low least [] l h = refl
lower low least (r ∷ rs) l h = let p = rest_rising least r rs h in let m = p.0 in joined_rising low r rs (omega (arith, l, m)) p.1

later : (low i : ℕ) (rs : List Row) (d : Row) → rising low rs ≡ true → i < length rs → low ≤ (get_or rs i d).digest
later low i [] d h l = absurd (omega arith)
later low zero (r ∷ rs) d h l = (rest_rising low r rs h).0
later low (suc i) (r ∷ rs) d h l = let p = rest_rising low r rs h in let m = p.0 in let n = later r.digest i rs d p.1 (omega arith) in omega (arith, m, n)

climbs : (low i j : ℕ) (rs : List Row) (d : Row) → rising low rs ≡ true → i ≤ j → j < length rs → (get_or rs i d).digest ≤ (get_or rs j d).digest
climbs low i j [] d h l m = absurd (omega arith)
climbs low zero zero (r ∷ rs) d h l m = omega arith
climbs low zero (suc j) (r ∷ rs) d h l m = later r.digest j rs d (rest_rising low r rs h).1 (omega arith)
climbs low (suc i) zero (r ∷ rs) d h l m = absurd (omega arith)
climbs low (suc i) (suc j) (r ∷ rs) d h l m = climbs r.digest i j rs d (rest_rising low r rs h).1 (omega arith) (omega arith)

pub sooner_below : (t i j : ℕ) (rs : List Row) (d : Row) → rising 0 rs ≡ true → i ≤ j → j < length rs → nat_lt (get_or rs j d).digest t ≡ true → nat_lt (get_or rs i d).digest t ≡ true
sooner_below t i j rs d h l m e = less (get_or rs i d).digest (get_or rs j d).digest (climbs 0 i j rs d h l m) e
  where
    less : (a b : ℕ) → a ≤ b → nat_lt b t ≡ true → nat_lt a t ≡ true
    less a b l e = grind (arith, nat_tests)

pub before_is : (t i : ℕ) (rs : List Row) → i ≤ length rs → ((k : ℕ) (d : Row) → k < i → nat_lt (get_or rs k d).digest t ≡ true) → ((k : ℕ) (d : Row) → i ≤ k → k < length rs → nat_lt (get_or rs k d).digest t ≡ false) → i ≡ before t rs
before_is t i [] l a b = omega (arith, l)
before_is t zero (r ∷ rs) l a b = sym (ap (λ c. cond c (suc (before t rs)) 0) (b 0 r (omega arith) (omega arith)))
before_is t (suc i) (r ∷ rs) l a b =
    ap (λ (n : ℕ). suc n) (before_is t i rs (omega (arith, l)) (λ k d m. a (suc k) d (omega (arith, m))) (λ k d m n. b (suc k) d (omega (arith, m)) (omega (arith, n))))
    ∙ sym (ap (λ c. cond c (suc (before t rs)) 0) (a 0 r (omega arith)))

pub inserted : (row : Row) (rs : List Row) → insert rs (before (row.digest + 1) rs) row ≡ with_row row rs
inserted row [] = refl
inserted row (r ∷ rs) =
    elim (nat_lt r.digest (row.digest + 1)) as (λ b. insert (r ∷ rs) (cond b (suc (before (row.digest + 1) rs)) 0) row ≡ cond b (r ∷ with_row row rs) (row ∷ r ∷ rs)) [
      | true ↦ ap (λ (l : List Row). r ∷ l) (inserted row rs)
      | false ↦ refl
    ]

-- The digests still don't fall.

pub with_row_rises : (low : ℕ) (row : Row) (rs : List Row) → low ≤ row.digest → rising low rs ≡ true → rising low (with_row row rs) ≡ true
with_row_rises low row [] l h = joined_rising low row [] l refl
with_row_rises low row (r ∷ rs) l h =
    let p = rest_rising low r rs h in
    elim (nat_lt r.digest (row.digest + 1)) as (λ b. nat_lt r.digest (row.digest + 1) ≡ b → rising low (cond b (r ∷ with_row row rs) (row ∷ r ∷ rs)) ≡ true) [
      | true ↦ λ e. joined_rising low r (with_row row rs) p.0 (with_row_rises r.digest row rs (let m : r.digest ≤ row.digest = grind (arith, nat_tests) in m) p.1)
      | false ↦ λ e. joined_rising low row (r ∷ rs) l (joined_rising row.digest r rs (let m : row.digest ≤ r.digest = grind (arith, nat_tests) in m) p.1)
    ] refl

pub without_row_rises : (n low : ℕ) (rs : List Row) → rising low rs ≡ true → rising low (without_row n rs) ≡ true
without_row_rises n low [] h = refl
without_row_rises n low (r ∷ rs) h =
    let p = rest_rising low r rs h in
    let far = without_row_rises n r.digest rs p.1 in
    elim (r.number == n) as (λ b. rising low (cond (not b) (r ∷ without_row n rs) (without_row n rs)) ≡ true) [
      | true ↦ lower low r.digest (without_row n rs) p.0 far
      | false ↦ joined_rising low r (without_row n rs) p.0 far
    ]

-- What stands under a digest.

other_above : (a d : ℕ) → d < a → (a == d) ≡ false
other_above a d l = grind (arith, nat_tests)

pub none_under : (d low : ℕ) (rs : List Row) → rising low rs ≡ true → d < low → under d rs ≡ []
none_under d low [] h l = refl
none_under d low (r ∷ rs) h l =
    let p = rest_rising low r rs h in
    let m = p.0 in
    ap (λ b. cond b (r ∷ under d rs) (under d rs)) (other_above r.digest d (omega (arith, l, m))) ∙ none_under d r.digest rs p.1 (omega (arith, l, m))

-- in front of rows with greater digests
under_front : (d : ℕ) (row : Row) (rs : List Row) → rising (row.digest + 1) rs ≡ true → under d (row ∷ rs) ≡ under d rs ++ under d (row ∷ [])
under_front d row rs h =
    elim (row.digest == d) as (λ b. (row.digest == d) ≡ b → cond b (row ∷ under d rs) (under d rs) ≡ under d rs ++ cond b (row ∷ []) []) [
      | true ↦ λ e.
          let none : under d rs ≡ [] = none_under d (row.digest + 1) rs h (let m : d < row.digest + 1 = grind (arith, nat_tests) in m) in
          ap (λ (l : List Row). row ∷ l) none ∙ sym (ap (λ (l : List Row). l ++ row ∷ []) none)
      | false ↦ λ e. sym (append-nil (under d rs))
    ] refl

pub under_with_row : (d low : ℕ) (row : Row) (rs : List Row) → rising low rs ≡ true → under d (with_row row rs) ≡ under d rs ++ under d (row ∷ [])
under_with_row d low row [] h = refl
under_with_row d low row (r ∷ rs) h =
    let p = rest_rising low r rs h in
    elim (nat_lt r.digest (row.digest + 1)) as (λ b. nat_lt r.digest (row.digest + 1) ≡ b → under d (cond b (r ∷ with_row row rs) (row ∷ r ∷ rs)) ≡ under d (r ∷ rs) ++ under d (row ∷ [])) [
      | true ↦ λ e. elim (r.digest == d) as (λ c. cond c (r ∷ under d (with_row row rs)) (under d (with_row row rs)) ≡ cond c (r ∷ under d rs) (under d rs) ++ under d (row ∷ [])) [
        | true ↦ ap (λ (l : List Row). r ∷ l) (under_with_row d r.digest row rs p.1)
        | false ↦ under_with_row d r.digest row rs p.1
      ]
      | false ↦ λ e. under_front d row (r ∷ rs) (joined_rising (row.digest + 1) r rs (let m : row.digest + 1 ≤ r.digest = grind (arith, nat_tests) in m) p.1)
    ] refl

pub under_without : (d n : ℕ) (rs : List Row) → under d (without_row n rs) ≡ without_row n (under d rs)
under_without d n [] = refl
under_without d n (r ∷ rs) = by (under_without d n rs) (r.number == n) refl (r.digest == d) refl
  where
    by : under d (without_row n rs) ≡ without_row n (under d rs) → (b : Bool) → (r.number == n) ≡ b → (c : Bool) → (r.digest == d) ≡ c
        → under d (cond (not b) (r ∷ without_row n rs) (without_row n rs)) ≡ without_row n (cond c (r ∷ under d rs) (under d rs))
    by ih true q true w = ih ∙ sym (ap (λ b. cond (not b) (r ∷ without_row n (under d rs)) (without_row n (under d rs))) q)
    by ih true q false w = ih
    by ih false q true w =
        ap (λ c. cond c (r ∷ under d (without_row n rs)) (under d (without_row n rs))) w ∙ ap (λ (l : List Row). r ∷ l) ih
        ∙ sym (ap (λ b. cond (not b) (r ∷ without_row n (under d rs)) (without_row n (under d rs))) q)
    by ih false q false w = ap (λ c. cond c (r ∷ under d (without_row n rs)) (under d (without_row n rs))) w ∙ ih
