-- Who times out first, and a bound of the times of asking.
use Rattle.std.proofs.Common.{◌≡◌, ℕ, ◌-◌, ◌<◌, ◌==◌, Bool, true, false, not, cond, ◌&&◌, nat_le, List, [], ◌∷◌, Option, Some, None, refl, sym, ◌∙◌, ap, arith}
use Rattle.std.specs.List.{list_all}
use Rattle.std.specs.Option.{option_map}
use Rattle.std.proofs.lemmas.Bool.Decides.{nat_tests}
use Rattle.etcd_types.proofs.Bools.{and_first, and_second, and_both}
use Rattle.read_model.specs.declared.asked.Asked.{Asked}
use Rattle.read_model.specs.declared.asked.Stage.TheVariants as stage
use Rattle.read_model.specs.declared.asked.Verdict.TheVariants as verdict
use Rattle.read_model.specs.PlainRead.{in_stage}
use Rattle.core_model.specs.ClockWork.{is_replied, times_out, timed_out_ask}
use Rattle.core_model.specs.Lookups.{ask_at, has_ticket}
use Rattle.known_asks.specs.Asks.{none_times_out}
use Rattle.ask_tables.specs.RowMarks.{row_mark, by_time}
use Rattle.known_asks.specs.OneByOne.{Settles}
use Rattle.known_asks.specs.Times.{IsOldest, IsOldestOf, IsLateOf, is_late}
use Rattle.known_asks.proofs.Since.{none_is_late}

-- what times out has a reply then, and times out no more
pub times_out-Settles : (now : ℕ) → Settles (times_out now) (timed_out_ask now)
times_out-Settles now = record {
  stays = λ a e. ap (λ b. cond b (in_stage (stage.Replied verdict.TimedOut) a) a) e;
  done = λ a. one a (times_out now a) refl;
}
  where
    one : (a : Asked) (b : Bool) → times_out now a ≡ b → times_out now (cond b (in_stage (stage.Replied verdict.TimedOut) a) a) ≡ false
    one a true e = refl
    one a false e = e

all_have : (now : ℕ) (xs : List Asked) → list_all (λ a. is_replied a.stage) xs ≡ true → none_times_out now xs ≡ true
all_have now [] h = refl
all_have now (a ∷ xs) h =
    and_both (not (times_out now a)) (none_times_out now xs) (one (is_replied a.stage) (and_first (is_replied a.stage) (list_all (λ b. is_replied b.stage) xs) h)) (all_have now xs (and_second (is_replied a.stage) (list_all (λ b. is_replied b.stage) xs) h))
  where
    one : (b : Bool) → b ≡ true → not (not b && nat_le 5000 (now - a.asked)) ≡ true
    one true e = refl
    one false e = absurd (cc)

in_time : (b : Bool) (now asked : ℕ) → b ≡ false → not b && nat_le 5000 (now - asked) ≡ false → now - asked < 5000
in_time true now asked e f = absurd (cc)
in_time false now asked e f = grind (arith, nat_tests)

pub late_is : (now : ℕ) (r : Asked) (xs : List Asked) → IsOldest r xs → IsLateOf (cond (times_out now r) (Some r.ticket) None) now xs
late_is now r xs h = one (times_out now r) refl
  where
    one : (b : Bool) → times_out now r ≡ b → IsLateOf (cond b (Some r.ticket) None) now xs
    one true e = ap (λ (o : Option Asked). option_map (times_out now) o) h.there ∙ ap Some e
    one false e = none_is_late now r.asked xs (in_time (is_replied r.stage) now r.asked h.waits e) h.first

pub none_is_late_then : (now : ℕ) (xs : List Asked) → IsOldestOf None xs → IsLateOf None now xs
none_is_late_then now xs h = all_have now xs h

-- The first mark tells whether one does.

pub late_mark : (now : ℕ) (r : Asked) (n : ℕ) → is_late (row_mark by_time n r) now ≡ times_out now r
late_mark now r n = one (is_replied r.stage)
  where
    one : (b : Bool) → ((cond {A = ℕ × ℕ} b (1, 0) (0, r.asked)).0 == 0) && nat_le 5000 (now - (cond {A = ℕ × ℕ} b (1, 0) (0, r.asked)).1) ≡ not b && nat_le 5000 (now - r.asked)
    one true = refl
    one false = refl

one_is_late : (now t : ℕ) (r : Asked) (xs : List Asked) → ask_at t xs ≡ Some r → times_out now r ≡ true → none_times_out now xs ≡ false
one_is_late now t r [] h e = absurd (cc)
one_is_late now t r (a ∷ xs) h e = one (has_ticket t a) h (one_is_late now t r xs)
  where
    neither : (b : Bool) → b && false ≡ false
    neither true = refl
    neither false = refl

    one : (b : Bool) → cond b (Some a) (ask_at t xs) ≡ Some r → (ask_at t xs ≡ Some r → times_out now r ≡ true → none_times_out now xs ≡ false) → not (times_out now a) && none_times_out now xs ≡ false
    one true g k = let is : a ≡ r = cc in ap (λ (x : Asked). not (times_out now x) && none_times_out now xs) is ∙ ap (λ b. not b && none_times_out now xs) e
    one false g k = ap (λ b. not (times_out now a) && b) (k g e) ∙ neither (not (times_out now a))

pub first_tells : (now : ℕ) (r : Asked) (xs : List Asked) → IsOldestOf (cond (is_replied r.stage) None (Some r)) xs → times_out now r ≡ not (none_times_out now xs)
first_tells now r xs h = of_reply (is_replied r.stage) refl h
  where
    of_time : is_replied r.stage ≡ false → IsOldest r xs → (b : Bool) → times_out now r ≡ b → times_out now r ≡ not (none_times_out now xs)
    of_time f k true e = e ∙ sym (ap not (one_is_late now r.ticket r xs k.there e))
    of_time f k false e = e ∙ sym (ap not (none_is_late now r.asked xs (in_time (is_replied r.stage) now r.asked f e) k.first))

    of_reply : (b : Bool) → is_replied r.stage ≡ b → IsOldestOf (cond b None (Some r)) xs → times_out now r ≡ not (none_times_out now xs)
    of_reply true f k = ap (λ b. not b && nat_le 5000 (now - r.asked)) f ∙ sym (ap not (all_have now xs k))
    of_reply false f k = of_time f k (times_out now r) refl
