-- A count that is kept for a pair, and those that stay.
use Rattle.std.proofs.Common.{◌≡◌, ℕ, ◌<◌, ◌≤◌, ◌+◌, Bool, true, false, cond, nat_le, List, Option, None, Some, refl, sym, ◌∙◌, ap, subst, arith}
use Rattle.std.proofs.lemmas.Bool.{le-leb, leb-true}
use Rattle.first_places.specs.Counts.{AreBefore, Puts, count_at, count_from, counted_at}
use Rattle.first_places.specs.Places.{is_pair}
use Rattle.first_places.proofs.Kept.{first_same, second_same}

-- what is kept for the pair that is told
here : (w n a b : ℕ) (start : ℕ → ℕ) (kept : List ((ℕ × ℕ) × (ℕ × ℕ))) → is_pair (Some (w, n)) a b ≡ true → count_at kept start a b ≡ count_at kept start w n
here w n a b start kept e i = count_at kept start (sym (first_same w n a b e) i) (sym (second_same w n a b e) i)

nothing : (b : Bool) → ◌≡◌ {A = ℕ} (cond b 0 0) 0
nothing true = refl
nothing false = refl

pub cleared : (w n place : ℕ) (start : ℕ → ℕ) (old new : List ((ℕ × ℕ) × (ℕ × ℕ))) → Puts w n place 0 old new
    → (a b : ℕ) → count_at new start a b ≡ cond (is_pair (Some (w, n)) a b) 0 (count_at old start a b)
cleared w n place start old new put a b = ap (count_from (start a)) (put a b) ∙ by (is_pair (Some (w, n)) a b)
  where
    by : (t : Bool) → count_from (start a) (cond t (Some (place, 0)) (counted_at old a b)) ≡ cond t 0 (count_at old start a b)
    by true = nothing (nat_le (start a) place)
    by false = refl

pub was_clear : (w n : ℕ) (start : ℕ → ℕ) (kept : List ((ℕ × ℕ) × (ℕ × ℕ))) → count_at kept start w n ≡ 0
    → (a b : ℕ) → count_at kept start a b ≡ cond (is_pair (Some (w, n)) a b) 0 (count_at kept start a b)
was_clear w n start kept z a b = by (is_pair (Some (w, n)) a b) refl
  where
    by : (t : Bool) → is_pair (Some (w, n)) a b ≡ t → count_at kept start a b ≡ cond t 0 (count_at kept start a b)
    by true e = here w n a b start kept e ∙ z
    by false e = refl

pub raised : (w n place count : ℕ) (start : ℕ → ℕ) (old new : List ((ℕ × ℕ) × (ℕ × ℕ))) → count ≡ count_at old start w n → Puts w n place (count + 1) old new → start w ≤ place
    → (a b : ℕ) → count_at new start a b ≡ cond (is_pair (Some (w, n)) a b) (count_at old start a b + 1) (count_at old start a b)
raised w n place count start old new is put l a b = ap (count_from (start a)) (put a b) ∙ by (is_pair (Some (w, n)) a b) refl
  where
    by : (t : Bool) → is_pair (Some (w, n)) a b ≡ t → count_from (start a) (cond t (Some (place, count + 1)) (counted_at old a b)) ≡ cond t (count_at old start a b + 1) (count_at old start a b)
    by true e =
        let low : start a ≤ place = subst (λ (m : ℕ). start m ≤ place) (first_same w n a b e) l in
        ap (λ (t : Bool). cond t (count + 1) 0) (le-leb (start a) place low) ∙ ap (λ (m : ℕ). m + 1) (is ∙ sym (here w n a b start old e))
    by false e = refl

-- ---- places

entry_of : (w n place count a b at told : ℕ) (old new : List ((ℕ × ℕ) × (ℕ × ℕ))) → Puts w n place count old new → AreBefore (place + 1) old → counted_at new a b ≡ Some (at, told) → at < place + 1
entry_of w n place count a b at told old new put f e = by (is_pair (Some (w, n)) a b) (sym (put a b) ∙ e)
  where
    first : Option (ℕ × ℕ) → ℕ
    first None = at
    first (Some entry) = entry.0

    by : (t : Bool) → cond t (Some (place, count)) (counted_at old a b) ≡ Some (at, told) → at < place + 1
    by true h =
        let same : place ≡ at = ap first h in
        omega (arith, same)
    by false h = f a b at told h

pub put_before : (w n place count : ℕ) (old new : List ((ℕ × ℕ) × (ℕ × ℕ))) → Puts w n place count old new → AreBefore (place + 1) old → AreBefore (place + 1) new
put_before w n place count old new put f a b at told e = entry_of w n place count a b at told old new put f e

pub still_before : (place : ℕ) (kept : List ((ℕ × ℕ) × (ℕ × ℕ))) → AreBefore place kept → AreBefore (place + 1) kept
still_before place kept f a b at told e =
    let l : at < place = f a b at told e in
    omega (arith, l)

-- behind a start that is later than all of them, nothing is counted
pub none_since : (bound : ℕ) (start : ℕ → ℕ) (kept : List ((ℕ × ℕ) × (ℕ × ℕ))) (a b : ℕ) → AreBefore bound kept → bound ≤ start a → count_at kept start a b ≡ 0
none_since bound start kept a b f l = by (counted_at kept a b) refl
  where
    by : (o : Option (ℕ × ℕ)) → counted_at kept a b ≡ o → count_from (start a) o ≡ 0
    by None e = refl
    by (Some entry) e = ap (λ (t : Bool). cond t entry.1 0) (late (nat_le (start a) entry.0) refl)
      where
        late : (t : Bool) → nat_le (start a) entry.0 ≡ t → nat_le (start a) entry.0 ≡ false
        late false h = h
        late true h =
            let low : start a ≤ entry.0 = leb-true (start a) entry.0 h in
            let high : entry.0 < bound = f a b entry.0 entry.1 e in
            absurd (omega (arith, low, high, l))

-- from another start that is the same for the first number
pub same_since : (start next : ℕ → ℕ) (kept : List ((ℕ × ℕ) × (ℕ × ℕ))) (a b : ℕ) → next a ≡ start a → count_at kept next a b ≡ count_at kept start a b
same_since start next kept a b e = ap (λ (s : ℕ). count_from s (counted_at kept a b)) e
