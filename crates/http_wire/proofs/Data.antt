-- A body's bytes are taken some at a time as they are all at once.
use Rattle.std.proofs.Common.{◌≡◌, ℕ, zero, suc, ◌-◌, ◌<◌, ◌≤◌, Bool, true, false, nat_lt, if◌then◌else◌, refl, List, [], ◌∷◌, length, take, drop, sym, ap, ◌∙◌, subst, arith, Option, Some, None, Ok, Err, length-drop}
use Rattle.std.proofs.Math.Nat.{sub-zero}
use Rattle.std.proofs.lemmas.Bool.{ltb-false, ltb-true, le-ltb, lt-ltb}
use Rattle.std.proofs.lemmas.List.{take-append-drop}
use Rattle.http_wire.specs.declared.fault.WireFault.TheVariants.{BodyTooLong, EndedEarly}
use Rattle.http_wire.specs.declared.message.Framing.TheVariants.{Length, Chunks, ToEnd}
use Rattle.http_wire.specs.declared.body.Next.TheVariants as next
use Rattle.http_wire.specs.Bodies.{Ended, Broken, only, after, exceeds, lessened, counted, chunked, InData, content}
use Rattle.http_wire.specs.Steps.{going, Readied}
use Rattle.http_wire.proofs.Sizes.{broken_only}

-- ---- limits

pub exceeds_none : (most : Option ℕ) → exceeds most 0 ≡ false
exceeds_none None = refl
exceeds_none (Some m) = le-ltb m 0 (omega arith)

exceeds_less : (most : Option ℕ) (m n : ℕ) → n ≤ m → exceeds most m ≡ false → exceeds (lessened most n) (m - n) ≡ false
exceeds_less None m n h e = refl
exceeds_less (Some k) m n h e = le-ltb (k - n) (m - n) (omega (arith, ltb-false k m e))

lessened_twice : (most : Option ℕ) (m n : ℕ) → n ≤ m → lessened (lessened most n) (m - n) ≡ lessened most m
lessened_twice None m n h = refl
lessened_twice (Some k) m n h = let same : (k - n) - (m - n) ≡ k - m = omega arith in rw same refl

pub lessened_none : (most : Option ℕ) → lessened most 0 ≡ most
lessened_none None = refl
lessened_none (Some k) = rw sub-zero refl

exceeds_same : (most : Option ℕ) (m n : ℕ) → n ≤ m → exceeds most n ≡ false → exceeds most m ≡ exceeds (lessened most n) (m - n)
exceeds_same None m n h e = refl
exceeds_same (Some k) m n h e = by_test (nat_lt k m) refl
  where
    by_test : (t : Bool) → nat_lt k m ≡ t → nat_lt k m ≡ nat_lt (k - n) (m - n)
    by_test true f = f ∙ sym (lt-ltb (k - n) (m - n) (omega (arith, ltb-true k m f, ltb-false k n e)))
    by_test false f = f ∙ sym (le-ltb (k - n) (m - n) (omega (arith, ltb-false k m f, ltb-false k n e)))

-- ---- bytes

counted_take : (n m : ℕ) (all : List ℕ) → n ≤ m → n ≤ length all → counted m all ≡ after (take n all) (counted (m - n) (drop n all))
counted_take zero m all h k = rw sub-zero refl
counted_take (suc n) zero all h k = absurd (omega arith)
counted_take (suc n) (suc m) [] h k = absurd (omega arith)
counted_take (suc n) (suc m) (b ∷ bs) h k =
    let fewer : suc m - suc n ≡ m - n = omega arith in
    rw fewer (ap (after (b ∷ [])) (counted_take n m bs (omega arith) (omega arith)))

data_take : (most : Option ℕ) (n m : ℕ) (all : List ℕ) → n ≤ m → n ≤ length all
    → chunked most (InData m) all ≡ after (take n all) (chunked most (InData (m - n)) (drop n all))
data_take most zero m all h k = rw sub-zero refl
data_take most (suc n) zero all h k = absurd (omega arith)
data_take most (suc n) (suc m) [] h k = absurd (omega arith)
data_take most (suc n) (suc m) (b ∷ bs) h k =
    let fewer : suc m - suc n ≡ m - n = omega arith in
    rw fewer (ap (after (b ∷ [])) (data_take most n m bs (omega arith) (omega arith)))

-- ---- what is taken of each kind

takes_counted : (most : Option ℕ) (m n : ℕ) (all : List ℕ) → exceeds most m ≡ false → n ≤ m → n ≤ length all
    → content most (Length m) all ≡ after (take n all) (content (lessened most n) (Length (m - n)) (drop n all))
takes_counted most m n all e h k = rw (e, exceeds_less most m n h e) (counted_take n m all h k)

takes_chunk : (most : Option ℕ) (m n : ℕ) (all : List ℕ) → exceeds most m ≡ false → n ≤ m → n ≤ length all
    → content most (Chunks (suc m) false) all ≡ after (take n all) (content (lessened most n) (Chunks (suc (m - n)) false) (drop n all))
takes_chunk most m n all e h k =
    rw (e, exceeds_less most m n h e, lessened_twice most m n h) (data_take (lessened most m) n m all h k)

takes_end : (most : Option ℕ) (n : ℕ) (all : List ℕ) → exceeds most n ≡ false → n ≤ length all
    → content most ToEnd all ≡ after (take n all) (content (lessened most n) ToEnd (drop n all))
takes_end most n all e h =
    let same : exceeds most (length all) ≡ exceeds (lessened most n) (length (drop n all)) =
    exceeds_same most (length all) n h e ∙ ap (exceeds (lessened most n)) (sym (length-drop n all)) in
    λ i. record { bytes = sym (take-append-drop n all) i; end = if same i then Broken BodyTooLong else Ended [] }

-- ---- what is ready

pub readied_none : (all : List ℕ) → Readied (next.Counted 0) all (Ok 0)
readied_none all = λ most. rw (exceeds_none most) refl

pub readied_done : (all : List ℕ) → Readied next.Done all (Ok 0)
readied_done all = λ most. refl

pub readied_end : (all : List ℕ) → all ≡ [] → Readied next.ToEnd all (Ok 0)
readied_end all e = λ most. subst (λ (l : List ℕ). going most next.ToEnd l ≡ only (Ended l)) (sym e) (rw (exceeds_none most) refl)

pub readied_counted : (m n : ℕ) (all : List ℕ) → 0 < n → n ≤ m → n ≤ length all → Readied (next.Counted m) all (Ok n)
readied_counted m zero all some h k = absurd (omega arith)
readied_counted m (suc n) all some h k = (k, λ most e count few _. takes_counted most m count all e (omega arith) (omega arith))

pub readied_chunk : (m n : ℕ) (all : List ℕ) → 0 < n → n ≤ m → n ≤ length all → Readied (next.Chunk m) all (Ok n)
readied_chunk m zero all some h k = absurd (omega arith)
readied_chunk m (suc n) all some h k = (k, λ most e count few _. takes_chunk most m count all e (omega arith) (omega arith))

pub readied_to_end : (n : ℕ) (all : List ℕ) → 0 < n → n ≤ length all → Readied next.ToEnd all (Ok n)
readied_to_end zero all some k = absurd (omega arith)
readied_to_end (suc n) all some k = (k, λ most _ count few e. takes_end most count all e (omega arith))

pub cut_counted : (m : ℕ) (all : List ℕ) → 0 < m → all ≡ [] → Readied (next.Counted m) all (Err EndedEarly)
cut_counted zero all some none = absurd (omega arith)
cut_counted (suc m) all some none = λ most e. broken_only (going most (next.Counted (suc m)) all) EndedEarly
    (rw (e, none) refl)

pub cut_chunk : (m : ℕ) (all : List ℕ) → 0 < m → all ≡ [] → Readied (next.Chunk m) all (Err EndedEarly)
cut_chunk m all some none = λ most e. broken_only (going most (next.Chunk m) all) EndedEarly
    (rw (e, none) refl)
