-- The first line feed ends a line.
use Rattle.std.proofs.Common.{◌≡◌, ℕ, suc, ◌+◌, ◌<◌, Bool, true, false, not, ◌==◌, IsTrue, refl, List, [], ◌∷◌, ◌++◌, length, take, get_or, sym, ap, ◌∙◌, arith, Some, None}
use Rattle.std.proofs.lemmas.Bool.{eqb-true}
use Rattle.std.proofs.lemmas.List.{take_more, length-take, get_or-take}
use Rattle.std.specs.List.{list_any}
use Rattle.memchr.specs.Find.{IsFirstByte, is_byte}
use Rattle.httparse.specs.Ascii.{line_feed}
use Rattle.http_wire.specs.Bodies.{is_unfinished, IsLine}

no_feed : (bs : List ℕ) → ((k : ℕ) → k < length bs → (get_or bs k 0 == line_feed) ≡ true → ⊥) → list_any (λ b. b == line_feed) bs ≡ false
no_feed [] none = refl
no_feed (b ∷ bs) none = by_test (b == line_feed) refl (no_feed bs (λ k h. none (suc k) (omega arith)))
  where
    by_test : (t : Bool) → (b == line_feed) ≡ t → list_any (λ b. b == line_feed) bs ≡ false → list_any (λ b. b == line_feed) (b ∷ bs) ≡ false
    by_test true e more = absurd (none 0 (omega arith) e)
    by_test false e more = rw e more

pub unfinished : (bs : List ℕ) → IsFirstByte (is_byte line_feed) bs None → IsTrue (is_unfinished bs)
unfinished bs none = ap not (no_feed bs (λ k h e. none k (omega arith) h e))

-- no line feed stands before the first one
pub front_unfinished : (bs : List ℕ) (k : ℕ) → IsFirstByte (is_byte line_feed) bs (Some k) → IsTrue (is_unfinished (take k bs))
front_unfinished bs k found = ap not (no_feed (take k bs) (λ j h e.
    let below : j < k = omega (arith, h, length-take k bs) in
    found.0.before j (omega arith) below (ap (λ (b : ℕ). b == line_feed) (sym (get_or-take k bs j 0 below)) ∙ e)))

pub first_line : (bs : List ℕ) (k : ℕ) → IsFirstByte (is_byte line_feed) bs (Some k) → (k < length bs) × IsLine (take (k + 1) bs)
first_line bs k found =
    let inside : k < length bs = found.0.high in
    let byte : get_or bs k 0 ≡ line_feed = eqb-true (get_or bs k 0) line_feed found.1 in
    (inside, (take k bs, take_more bs k 0 inside ∙ ap (λ (b : ℕ). take k bs ++ b ∷ []) byte, front_unfinished bs k found))
