-- How a scan goes on behind bytes without a line feed, and behind a line feed.
use Rattle.std.proofs.Common.{◌≡◌, ℕ, suc, ◌+◌, ◌<◌, Bool, true, false, not, ◌||◌, ◌==◌, if◌then◌else◌, IsTrue, refl, List, [], ◌∷◌, ◌++◌, length, take, drop, get_or, sym, ap, ◌∙◌, arith, append_assoc, Option, None, Some}
use Rattle.std.proofs.lemmas.Bool.{false≢true, eqb-true}
use Rattle.std.proofs.lemmas.List.{take-append-drop, length-take, drop_more, drop-drop}
use Rattle.std.specs.List.{list_any}
use Rattle.memchr.specs.Find.{IsFirstByte, is_byte}
use Rattle.httparse.specs.Ascii.{line_feed, carriage_return}
use Rattle.http_wire.specs.declared.scan.Place.{Place}
use Rattle.http_wire.specs.declared.scan.Place.TheVariants.{Line, Inside, Start, Return}
use Rattle.http_wire.specs.declared.scan.Feed.TheVariants.{Last, Ended}
use Rattle.http_wire.specs.Bodies.{is_unfinished}
use Rattle.http_wire.specs.Ends.{first_of, then_feed, empty_line, later, line_length, head_length, trailer_length}
use Rattle.http_wire.specs.Places.{feed_length, length_from, IsBehind, Feeds}

-- ---- counts

pub later_none : (o : Option ℕ) → o ≡ later 0 o
later_none None = refl
later_none (Some n) = let e : n ≡ 0 + n = omega arith in ap (λ (m : ℕ). Some m) e

pub later_later : (m n : ℕ) (o : Option ℕ) → later m (later n o) ≡ later (m + n) o
later_later m n None = refl
later_later m n (Some k) = let e : m + (n + k) ≡ (m + n) + k = omega arith in ap (λ (j : ℕ). Some j) e

later_next : (n : ℕ) (o : Option ℕ) → later 1 (later n o) ≡ later (suc n) o
later_next n o = let e : 1 + n ≡ suc n = omega arith in later_later 1 n o ∙ ap (λ (m : ℕ). later m o) e

-- ---- bytes without a line feed

abbrev has_feed : List ℕ → Bool
has_feed bytes = list_any (λ b. b == line_feed) bytes

both_no : (t u : Bool) → t || u ≡ false → (t ≡ false) × (u ≡ false)
both_no false u e = (refl, e)
both_no true u e = absurd (false≢true (sym e))

none_there : (bytes : List ℕ) → IsTrue (is_unfinished bytes) → has_feed bytes ≡ false
none_there bytes is = by_test (has_feed bytes) is
  where
    by_test : (t : Bool) → not t ≡ true → t ≡ false
    by_test true e = absurd (false≢true e)
    by_test false e = refl

line_over : (bytes rest : List ℕ) → has_feed bytes ≡ false → line_length (bytes ++ rest) ≡ later (length bytes) (line_length rest)
line_over [] rest none = later_none (line_length rest)
line_over (b ∷ bs) rest none =
    let parts = both_no (b == line_feed) (has_feed bs) none in
    let more = line_over bs rest parts.1 in
    rw (parts.0, more) (later_next (length bs) (line_length rest))

head_over : (bytes rest : List ℕ) → has_feed bytes ≡ false → head_length (bytes ++ rest) ≡ later (length bytes) (head_length rest)
head_over [] rest none = later_none (head_length rest)
head_over (b ∷ bs) rest none =
    let parts = both_no (b == line_feed) (has_feed bs) none in
    let more = head_over bs rest parts.1 in
    rw (parts.0, more) (later_next (length bs) (head_length rest))

-- behind a carriage return and further bytes no line feed ends an empty line
no_empty : (b : ℕ) (bs rest : List ℕ) → has_feed (b ∷ bs) ≡ false → (b ∷ bs ≡ carriage_return ∷ [] → ⊥) → empty_line (b ∷ bs ++ rest) ≡ None
no_empty b bs rest none other =
    let parts = both_no (b == line_feed) (has_feed bs) none in
    rw parts.0 (by_test (b == carriage_return) refl bs parts.1 other)
  where
    by_test : (t : Bool) → (b == carriage_return) ≡ t → (cs : List ℕ) → has_feed cs ≡ false → (b ∷ cs ≡ carriage_return ∷ [] → ⊥)
        → (if t then then_feed (cs ++ rest) else None) ≡ None
    by_test false e cs free other_one = refl
    by_test true e [] free other_one = absurd (other_one (ap (λ (c : ℕ). c ∷ []) (eqb-true b carriage_return e)))
    by_test true e (c ∷ cs) free other_one = let next = both_no (c == line_feed) (has_feed cs) free in rw next.0 refl

start_over : (bytes rest : List ℕ) → has_feed bytes ≡ false → (bytes ≡ [] → ⊥) → (bytes ≡ carriage_return ∷ [] → ⊥)
    → trailer_length (bytes ++ rest) ≡ later (length bytes) (head_length rest)
start_over [] rest none some other = absurd (some refl)
start_over (b ∷ bs) rest none some other =
    let empty = no_empty b bs rest none other in
    let more = head_over (b ∷ bs) rest none in
    ap (λ (o : Option ℕ). first_of o (head_length (b ∷ bs ++ rest))) empty ∙ more

return_over : (bytes rest : List ℕ) → has_feed bytes ≡ false → (bytes ≡ [] → ⊥)
    → first_of (feed_length (bytes ++ rest)) (head_length (bytes ++ rest)) ≡ later (length bytes) (head_length rest)
return_over [] rest none some = absurd (some refl)
return_over (b ∷ bs) rest none some =
    let parts = both_no (b == line_feed) (has_feed bs) none in
    let feed : feed_length (b ∷ bs ++ rest) ≡ None = rw parts.0 refl in
    let more = head_over (b ∷ bs) rest none in
    ap (λ (o : Option ℕ). first_of o (head_length (b ∷ bs ++ rest))) feed ∙ more

pub some_there : (bytes : List ℕ) (empty : Bool) → empty ≡ (length bytes == 0) → empty ≡ false → bytes ≡ [] → ⊥
some_there bytes empty is there none = false≢true (sym there ∙ is ∙ ap (λ (l : List ℕ). length l == 0) none)

-- ---- the place behind them

pub behind_none : (place : Place) → IsBehind [] place place
behind_none place rest = later_none (length_from place rest)

pub behind_line : (bytes : List ℕ) → IsTrue (is_unfinished bytes) → IsBehind bytes Line Line
behind_line bytes is rest = line_over bytes rest (none_there bytes is)

pub behind_return : IsBehind (carriage_return ∷ []) Start Return
behind_return [] = refl
behind_return (b ∷ bs) = by_test (b == line_feed) refl
  where
    by_test : (t : Bool) → (b == line_feed) ≡ t → length_from Start (carriage_return ∷ b ∷ bs) ≡ later 1 (length_from Return (b ∷ bs))
    by_test true e = rw e refl
    by_test false e = rw e refl

pub behind_start : (bytes : List ℕ) → IsTrue (is_unfinished bytes) → (bytes ≡ [] → ⊥) → (bytes ≡ carriage_return ∷ [] → ⊥)
    → IsBehind bytes Start Inside
behind_start bytes is some other rest = start_over bytes rest (none_there bytes is) some other

pub behind_inside : (bytes : List ℕ) (place : Place) → IsTrue (is_unfinished bytes) → (bytes ≡ [] → ⊥)
    → (place ≡ Line → ⊥) → (place ≡ Start → ⊥) → IsBehind bytes place Inside
behind_inside bytes Line is some first second rest = absurd (first refl)
behind_inside bytes Inside is some first second rest = head_over bytes rest (none_there bytes is)
behind_inside bytes Start is some first second rest = absurd (second refl)
behind_inside bytes Return is some first second rest = return_over bytes rest (none_there bytes is) some

-- ---- the line feed

-- the bytes are those before the line feed, it, and what follows
parts_at : (bytes rest : List ℕ) (k : ℕ) → k < length bytes → get_or bytes k 0 ≡ line_feed
    → bytes ++ rest ≡ take k bytes ++ line_feed ∷ (drop (k + 1) bytes ++ rest)
parts_at bytes rest k inside is =
    ap (λ (l : List ℕ). l ++ rest) (sym (take-append-drop k bytes))
    ∙ append_assoc (take k bytes) (drop k bytes) rest
    ∙ ap (λ (l : List ℕ). take k bytes ++ (l ++ rest)) (drop_more bytes k 0 inside)
    ∙ ap (λ (b : ℕ). take k bytes ++ b ∷ (drop (k + 1) bytes ++ rest)) is

-- where the line feed leads to, it is led to by all the bytes
over_feed : (place next : Place) (bytes rest : List ℕ) (k : ℕ) → IsFirstByte (is_byte line_feed) bytes (Some k) → IsBehind (take k bytes) place next
    → length_from place (bytes ++ rest) ≡ later k (length_from next (line_feed ∷ (drop (k + 1) bytes ++ rest)))
over_feed place next bytes rest k found is =
    let size : length (take k bytes) ≡ k = omega (arith, length-take k bytes, found.0.high) in
    let tail = line_feed ∷ (drop (k + 1) bytes ++ rest) in
    ap (length_from place) (parts_at bytes rest k found.0.high (eqb-true (get_or bytes k 0) line_feed found.1))
    ∙ is tail ∙ ap (λ (n : ℕ). later n (length_from next tail)) size

pub goes_on : (place : Place) (bytes : List ℕ) (k : ℕ) → IsFirstByte (is_byte line_feed) bytes (Some k) → IsBehind (take k bytes) place Inside
    → Feeds place bytes (Ended (k + 1))
goes_on place bytes k found is = (
  omega arith,
  omega (arith, found.0.high),
  λ rest. over_feed place Inside bytes rest k found is ∙ later_later k 1 (length_from Start (drop (k + 1) bytes ++ rest)),
)

-- in front of a line feed, each place but one within a line of a head is at the end
pub ends_there : (place : Place) → (place ≡ Inside → ⊥) → (rest : List ℕ) → length_from place (line_feed ∷ rest) ≡ Some 1
ends_there Line other rest = refl
ends_there Inside other rest = absurd (other refl)
ends_there Start other rest = refl
ends_there Return other rest = refl

pub is_last : (place next : Place) (bytes : List ℕ) (k : ℕ) → IsFirstByte (is_byte line_feed) bytes (Some k) → IsBehind (take k bytes) place next
    → ((rest : List ℕ) → length_from next (line_feed ∷ rest) ≡ Some 1) → Feeds place bytes (Last (k + 1))
is_last place next bytes k found is ends = (
  omega (arith, found.0.high),
  λ rest. over_feed place next bytes rest k found is ∙ ap (later k) (ends (drop (k + 1) bytes ++ rest)),
)

-- ---- one line after the other

pub seen_more : (first place : Place) (bytes : List ℕ) (seen n : ℕ)
    → ((rest : List ℕ) → length_from first (bytes ++ rest) ≡ later seen (length_from place (drop seen bytes ++ rest)))
    → Feeds place (drop seen bytes) (Ended n) → (rest : List ℕ)
    → length_from first (bytes ++ rest) ≡ later (seen + n) (length_from Start (drop (seen + n) bytes ++ rest))
seen_more first place bytes seen n before feed rest =
    before rest ∙ ap (later seen) (feed.2 rest) ∙ later_later seen n (length_from Start (drop n (drop seen bytes) ++ rest))
    ∙ ap (λ (l : List ℕ). later (seen + n) (length_from Start (l ++ rest))) (drop-drop n seen bytes)
