-- A size line is read byte by byte as it is read whole.
use Rattle.std.proofs.Common.{◌≡◌, ℕ, suc, ◌+◌, ◌<◌, ◌≤◌, Bool, true, false, nat_lt, nat_le, ◌==◌, if◌then◌else◌, refl, List, [], ◌∷◌, ◌++◌, length, take, drop, ap, ◌∙◌, arith, zero-add, append_assoc, length-append, Option, Some, None}
use Rattle.std.proofs.lemmas.Bool.{eqb-true, eqb-false, le-ltb, lt-ltb, le-leb, lt-leb}
use Rattle.httparse.specs.Ascii.{line_feed}
use Rattle.http_wire.specs.declared.fault.WireFault.TheVariants.{BadChunk, EndedEarly}
use Rattle.http_wire.specs.declared.limits.TheConstants.{HEAD_LIMIT}
use Rattle.http_wire.specs.declared.scan.Ending.{Ending}
use Rattle.http_wire.specs.declared.scan.Ending.TheVariants.{At, Over, Cut}
use Rattle.http_wire.specs.Ends.{later, line_length, bounded, line_end}
use Rattle.http_wire.specs.Sizes.{size_of}
use Rattle.http_wire.specs.Bodies.{Content, Broken, only, lessened, chunked, InLine, InData, sized}

-- the end of a line of which so many bytes came before
bounded_from : ℕ → List ℕ → Option ℕ → Ending
bounded_from k all (Some n) = if nat_le (k + n) HEAD_LIMIT then At n else Over
bounded_from k all None = if nat_lt HEAD_LIMIT (k + length all) then Over else Cut

-- what follows the line, of which this came before
lined : Option ℕ → List ℕ → List ℕ → Ending → Content
lined most line all (At n) = sized most (size_of (line ++ take n all)) (drop n all) (λ k. chunked (lessened most k) (InData k) (drop n all))
lined most line all Over = only (Broken BadChunk)
lined most line all Cut = only (Broken EndedEarly)

-- the limit is reached, so a further byte is one too many
full_over : (k : ℕ) (bs : List ℕ) (b : ℕ) (o : Option ℕ) → k ≡ HEAD_LIMIT → bounded_from k (b ∷ bs) (later 1 o) ≡ Over
unfolding bounded_from
full_over k bs b (Some n) e = let over : HEAD_LIMIT < k + (1 + n) = omega arith in rw (lt-leb (k + (1 + n)) HEAD_LIMIT over) refl
full_over k bs b None e = let over : HEAD_LIMIT < k + suc (length bs) = omega arith in rw (lt-ltb HEAD_LIMIT (k + suc (length bs)) over) refl

-- the end is the same, with one byte before it or one more
same_end : (most : Option ℕ) (line bs : List ℕ) (b n : ℕ) → lined most (line ++ b ∷ []) bs (At n) ≡ lined most line (b ∷ bs) (At (1 + n))
unfolding lined
same_end most line bs b n =
    let next : 1 + n ≡ suc n = omega arith in
    rw (next, append_assoc line (b ∷ []) (take n bs)) refl

-- a byte goes over from what follows to what came before
one_further : (most : Option ℕ) (line bs : List ℕ) (b : ℕ) (o : Option ℕ)
    → lined most (line ++ b ∷ []) bs (bounded_from (length (line ++ b ∷ [])) bs o) ≡ lined most line (b ∷ bs) (bounded_from (length line) (b ∷ bs) (later 1 o))
unfolding bounded_from lined
one_further most line bs b (Some n) =
    let size : length (line ++ b ∷ []) + n ≡ length line + (1 + n) = omega (arith, length-append line (b ∷ [])) in
    rw size (by_test (nat_le (length line + (1 + n)) HEAD_LIMIT))
  where
    by_test : (t : Bool) → lined most (line ++ b ∷ []) bs (if t then At n else Over) ≡ lined most line (b ∷ bs) (if t then At (1 + n) else Over)
    by_test true = same_end most line bs b n
    by_test false = refl
one_further most line bs b None =
    let size : length (line ++ b ∷ []) + length bs ≡ length line + suc (length bs) = omega (arith, length-append line (b ∷ [])) in
    rw size (by_test (nat_lt HEAD_LIMIT (length line + suc (length bs))))
  where
    by_test : (t : Bool) → lined most (line ++ b ∷ []) bs (if t then Over else Cut) ≡ lined most line (b ∷ bs) (if t then Over else Cut)
    by_test true = refl
    by_test false = refl

chunked_from : (most : Option ℕ) (line all : List ℕ) → length line ≤ HEAD_LIMIT
    → chunked most (InLine line) all ≡ lined most line all (bounded_from (length line) all (line_length all))
unfolding bounded_from lined
chunked_from most line [] within =
    let below : length line + 0 ≤ HEAD_LIMIT = omega arith in
    rw (le-ltb HEAD_LIMIT (length line + 0) below) refl
chunked_from most line (b ∷ bs) within = by_test (length line == HEAD_LIMIT) refl (b == line_feed) refl (λ h. chunked_from most (line ++ b ∷ []) bs h)
  where
    by_test : (t : Bool) → (length line == HEAD_LIMIT) ≡ t → (u : Bool) → (b == line_feed) ≡ u
        → (length (line ++ b ∷ []) ≤ HEAD_LIMIT → chunked most (InLine (line ++ b ∷ [])) bs ≡ lined most (line ++ b ∷ []) bs (bounded_from (length (line ++ b ∷ [])) bs (line_length bs)))
        → chunked most (InLine line) (b ∷ bs) ≡ lined most line (b ∷ bs) (bounded_from (length line) (b ∷ bs) (line_length (b ∷ bs)))
    by_test true e true f more =
        let over : HEAD_LIMIT < length line + 1 = omega (arith, eqb-true (length line) HEAD_LIMIT e) in
        rw (e, chunked, f, lt-leb (length line + 1) HEAD_LIMIT over) refl
    by_test true e false f more = rw (e, chunked, f, full_over (length line) bs b (line_length bs) (eqb-true (length line) HEAD_LIMIT e)) refl
    by_test false e true f more =
        let inside : length line + 1 ≤ HEAD_LIMIT = omega (arith, eqb-false (length line) HEAD_LIMIT e) in
        rw (e, chunked, f, le-leb (length line + 1) HEAD_LIMIT inside) refl
    by_test false e false f more =
        let inside : length (line ++ b ∷ []) ≤ HEAD_LIMIT = omega (arith, length-append line (b ∷ []), eqb-false (length line) HEAD_LIMIT e) in
        rw (e, chunked, f) (more inside ∙ one_further most line bs b (line_length bs))

-- ---- a whole size line

from_none : (all : List ℕ) (o : Option ℕ) → bounded_from 0 all o ≡ bounded all o
unfolding bounded_from
from_none all (Some n) = rw (zero-add n) refl
from_none all None = rw (zero-add (length all)) refl

whole_line : (most : Option ℕ) (all : List ℕ) → chunked most (InLine []) all ≡ lined most [] all (line_end all)
whole_line most all = chunked_from most [] all (omega arith) ∙ ap (lined most [] all) (from_none all (line_length all))

pub line_at : (most : Option ℕ) (all : List ℕ) (n : ℕ) → line_end all ≡ At n
    → chunked most (InLine []) all ≡ sized most (size_of (take n all)) (drop n all) (λ k. chunked (lessened most k) (InData k) (drop n all))
unfolding lined
line_at most all n e = whole_line most all ∙ ap (lined most [] all) e

pub line_over : (most : Option ℕ) (all : List ℕ) → line_end all ≡ Over → chunked most (InLine []) all ≡ only (Broken BadChunk)
unfolding lined
line_over most all e = whole_line most all ∙ ap (lined most [] all) e

pub line_cut : (most : Option ℕ) (all : List ℕ) → line_end all ≡ Cut → chunked most (InLine []) all ≡ only (Broken EndedEarly)
unfolding lined
line_cut most all e = whole_line most all ∙ ap (lined most [] all) e
