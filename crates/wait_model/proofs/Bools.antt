-- Tests joined, over plain variables, so that no definition of a test is in reach.
use Rattle.std.proofs.Common.{◌≡◌, Bool, true, false, ◌||◌, refl}

pub or_rest : (a b : Bool) → a ≡ false → a || b ≡ true → b ≡ true
or_rest true b s t = absurd (cc)
or_rest false b s t = t

pub or_cases : (a b c : Bool) → a || b ≡ true → (a ≡ true → c ≡ true) → (b ≡ true → c ≡ true) → c ≡ true
or_cases true b c e f g = f refl
or_cases false b c e f g = g e

-- what isn't true is false
pub unless : (a b : Bool) → (a ≡ true → b ≡ true) → b ≡ false → a ≡ false
unless true b f e = absurd (let t = f refl in cc)
unless false b f e = refl
