-- What a bound of the times of asking tells.
use Rattle.std.proofs.Common.{◌≡◌, ℕ, ◌<◌, ◌-◌, Bool, true, false, not, ◌&&◌, ◌||◌, nat_le, List, [], ◌∷◌, refl, arith}
use Rattle.std.proofs.lemmas.Bool.Decides.{nat_tests}
use Rattle.read_model.specs.declared.asked.Asked.{Asked}
use Rattle.core_model.specs.ClockWork.{is_replied, times_out}
use Rattle.known_asks.specs.Asks.{is_since, all_since, none_times_out}

both : (b c : Bool) → b ≡ true → c ≡ true → (b && c) ≡ true
both true true e f = refl
both true false e f = f
both false c e f = e

pub first : (b c : Bool) → (b && c) ≡ true → b ≡ true
first true c e = refl
first false c e = e

pub second : (b c : Bool) → (b && c) ≡ true → c ≡ true
second true c e = e
second false c e = absurd (cc)

-- where the bound is within the time, none times out
pub none_is_late : (now oldest : ℕ) (xs : List Asked) → now - oldest < 5000 → all_since oldest xs ≡ true → none_times_out now xs ≡ true
none_is_late now oldest [] l e = refl
none_is_late now oldest (a ∷ xs) l e =
    both (not (times_out now a)) (none_times_out now xs) (one (is_replied a.stage) (first (is_since oldest a) (all_since oldest xs) e)) (none_is_late now oldest xs l (second (is_since oldest a) (all_since oldest xs) e))
  where
    one : (b : Bool) → (b || nat_le oldest a.asked) ≡ true → not (not b && nat_le 5000 (now - a.asked)) ≡ true
    one true f = refl
    one false f = grind (arith, nat_tests)
