-- Turns, settling and rounds of a generated script, with what they cost.
use Rattle.std.proofs.Common.{◌≡◌, ℕ, zero, suc, ◌+◌, ◌*◌, ◌/◌, ◌%◌, ◌≤◌, ◌^◌, ◌==◌, Bool, true, false, cond, List, length, sym, ap, subst, arith}
use Rattle.script_text.specs.declared.line.Line.TheVariants as line
use Rattle.world_model.specs.Generated.{Making, add, of_world, sends, pushes, all_pushes, turn, settles_if, settles, settle, drawn, key, a_read, a_put, a_deletion, chosen, asking, on_time, on_times, asks_once, round}
use Rattle.world_model.specs.Places.{place_at}
use Rattle.world_model.specs.Questions.{streams}
use Rattle.generated_laws.specs.Laws.{PushesTaken, AllPushesTaken, TurnTaken, SettlesIf, SettlesTaken, SettleTaken, OnTimeTaken, OnTimesTaken, AskTaken, RoundTaken, RoundsTaken}
use Rattle.generated_laws.proofs.Asking.{IsNoWatch}
use Rattle.generated_laws.proofs.Ending.{IsEarly}
use Rattle.generated_laws.proofs.Lines.{clock_tick, ask_line}
use Rattle.generated_laws.proofs.Making.{Good, good_more, the_place, line_good, both_good, sends_good, pushes_good}
use Rattle.generated_laws.proofs.Stepping.{IsSmall}
use Rattle.generated_laws.specs.Worlds.{IsProxy}

-- ---- what a turn may cost

-- so many turns, and other lines, were made
abbrev pub GoodAt : ℕ → ℕ → ℕ → Making → Type 0
GoodAt next clock t m = Good next (1_000_000_000 * t) clock (192 * t) m

-- of so many at most
abbrev pub IsBrief : ℕ → Type 0
IsBrief t = t ≤ 1_400_000

pub record Goes (next clock t : ℕ) (taken : Type 0) (m : Making) : Type 0 where
  pub takes : taken
  pub good : GoodAt next clock t m

pub later : (next clock t u : ℕ) (m : Making) → t ≤ u → GoodAt next clock t m → GoodAt next clock u m
later next clock t u m h g = good_more next (1_000_000_000 * t) (1_000_000_000 * u) clock clock (192 * t) (192 * u) m (omega (arith, h)) (omega (arith)) (omega (arith, h)) g

pub later_clock : (next clock after t : ℕ) (m : Making) → clock ≤ after → GoodAt next clock t m → GoodAt next after t m
later_clock next clock after t m h g = good_more next (1_000_000_000 * t) (1_000_000_000 * t) clock after (192 * t) (192 * t) m (omega (arith)) h (omega (arith)) g

first_proxy : IsProxy 1
first_proxy = (omega (arith), omega (arith))

second_proxy : IsProxy 2
second_proxy = (omega (arith), omega (arith))

third_proxy : IsProxy 3
third_proxy = (omega (arith), omega (arith))

-- ---- turns

all_pushed : (next most clock many more : ℕ) (m : Making) → IsSmall (most + 3 * many) → most + 3 * many ≤ more → Good next most clock many m → AllPushesTaken m × Good next more clock many (all_pushes m)
all_pushed next most clock many more m s h g =
    let count : of_world 0 streams m.world ≡ length g.world.streams = ap (of_world 0 streams) g.made in
    let n = g.streams in
    let t = pushes_good (length g.world.streams) next most clock many 1 m (omega (arith, s, n)) g in
    let u = good_more next (most + 3 * length g.world.streams) more clock clock many many (pushes (length g.world.streams) 1 m) (omega (arith, n, h)) (omega (arith)) (omega (arith)) t.good in
    (subst (λ (i : ℕ). PushesTaken i 1 m) (sym count) t.takes, subst (λ (i : ℕ). Good next more clock many (pushes i 1 m)) (sym count) u)

pub turn_good : (next clock t : ℕ) (m : Making) → IsEarly clock → IsBrief (t + 1) → GoodAt next clock t m → Goes next clock (t + 1) (TurnTaken m) (turn m)
turn_good next clock t m early b g =
    let most = 1_000_000_000 * t in
    let many = 192 * t in
    let one = sends_good 64 next most clock many 1 m (omega (arith, b)) early first_proxy g in
    let two = sends_good 64 next (most + 4 * 64) clock (many + 64) 2 (sends 64 1 m) (omega (arith, b)) early second_proxy one.good in
    let three = sends_good 64 next (most + 4 * 64 + 4 * 64) clock (many + 64 + 64) 3 (sends 64 2 (sends 64 1 m)) (omega (arith, b)) early third_proxy two.good in
    let all = all_pushed next (most + 4 * 64 + 4 * 64 + 4 * 64) clock (many + 64 + 64 + 64) (1_000_000_000 * (t + 1)) (sends 64 3 (sends 64 2 (sends 64 1 m))) (omega (arith, b)) (omega (arith, b)) three.good in
    record {
      takes = (one.takes, two.takes, three.takes, all.0);
      good = good_more next (1_000_000_000 * (t + 1)) (1_000_000_000 * (t + 1)) clock clock (many + 64 + 64 + 64) (192 * (t + 1)) (turn m) (omega (arith)) (omega (arith)) (omega (arith)) all.1;
    }

pub settles_good : (n next clock t : ℕ) (m : Making) → IsEarly clock → IsBrief (t + n) → GoodAt next clock t m → Goes next clock (t + n) (SettlesTaken n m) (settles n m)
settles_good zero next clock t m early b g = record { takes = tt; good = later next clock t (t + 0) m (omega (arith)) g }
settles_good (suc n) next clock t m early b g =
    let u = turn_good next clock t m early (omega (arith, b)) g in
    by u (λ k. settles_good n next clock (t + 1) (turn m) early (omega (arith, b)) k) (length (turn m).lines == length m.lines)
  where
    by : Goes next clock (t + 1) (TurnTaken m) (turn m) → (GoodAt next clock (t + 1) (turn m) → Goes next clock (t + 1 + n) (SettlesTaken n (turn m)) (settles n (turn m))) → (b : Bool)
        → Goes next clock (t + suc n) (TurnTaken m × SettlesIf b (SettlesTaken n) (turn m)) (settles_if b (settles n) (turn m))
    by u more true = record { takes = (u.takes, tt); good = later next clock (t + 1) (t + suc n) (turn m) (omega (arith)) u.good }
    by u more false = let k = more u.good in record { takes = (u.takes, k.takes); good = later next clock (t + 1 + n) (t + suc n) (settles n (turn m)) (omega (arith)) k.good }

pub settle_good : (next clock t : ℕ) (m : Making) → IsEarly clock → IsBrief (t + 64) → GoodAt next clock t m → Goes next clock (t + 64) (SettleTaken m) (settle m)
settle_good next clock t m early b g = settles_good 64 next clock t m early b g

-- ---- clocks that are set

on_time_good : (number next t p : ℕ) (m : Making) → IsBrief (t + 1) → IsProxy p → GoodAt next (200 * number) t m → Goes next (200 * number) (t + 1) (OnTimeTaken number p m) (on_time number p m)
on_time_good number next t p m b i g =
    let at = the_place p (place_at g.world p) (g.runs.there p i) in
    let k = clock_tick next (1_000_000_000 * t) (200 * number) (200 * number) p g.world at.0 (omega (arith, b)) (omega (arith)) g.runs at.1 in
    let n = k.streams in
    let h = g.streams in
    let u = both_good next (1_000_000_000 * t + 3) (200 * number) (192 * (t + 1)) m (line.Clock p (200 * number)) (line.Tick p) g.world g.made k (omega (arith, n, h)) in
    record { takes = u.takes; good = good_more next (1_000_000_000 * t + 3) (1_000_000_000 * (t + 1)) (200 * number) (200 * number) (192 * (t + 1)) (192 * (t + 1)) (on_time number p m) (omega (arith)) (omega (arith)) (omega (arith)) u.good }

on_times_good : (due : Bool) (number next t : ℕ) (m : Making) → IsBrief (t + 3) → GoodAt next (200 * number) t m → Goes next (200 * number) (t + 3) (OnTimesTaken due number m) (on_times due number m)
on_times_good false number next t m b g = record { takes = tt; good = later next (200 * number) t (t + 3) m (omega (arith)) g }
on_times_good true number next t m b g =
    let one = on_time_good number next t 1 m (omega (arith, b)) first_proxy g in
    let two = on_time_good number next (t + 1) 2 (on_time number 1 m) (omega (arith, b)) second_proxy one.good in
    let three = on_time_good number next (t + 1 + 1) 3 (on_time number 2 (on_time number 1 m)) (omega (arith, b)) third_proxy two.good in
    record { takes = (one.takes, two.takes, three.takes); good = later next (200 * number) (t + 1 + 1 + 1) (t + 3) (on_time number 3 (on_time number 2 (on_time number 1 m))) (omega (arith)) three.good }

-- ---- a request

by_test : {A : Type 0} (P : A → Type 0) (b : Bool) (x y : A) → P x → P y → P (cond b x y)
by_test P true x y f g = f
by_test P false x y f g = g

chosen_asks : (choice : ℕ) (k : List ℕ) (number : ℕ) → IsNoWatch (chosen choice k number)
chosen_asks choice k number = by_test IsNoWatch (choice == 2) (a_put k number) (cond (choice == 3) (a_deletion k) (a_read k)) tt (by_test IsNoWatch (choice == 3) (a_deletion k) (a_read k) tt tt)

some_proxy : (x : ℕ) → IsProxy (1 + x % 3)
some_proxy x = (omega (arith), omega (arith))

abbrev in_state : (next most clock many state : ℕ) (m : Making) → Good next most clock many m → Good next most clock many (record m { state = state })
in_state next most clock many state m g = record { world = g.world; made = g.made; runs = g.runs; streams = g.streams }

asks_good : (state number t : ℕ) (m : Making) → IsEarly (200 * number) → IsBrief (t + 65) → GoodAt number (200 * number) t m → Goes (number + 1) (200 * number) (t + 65) (AskTaken state number m) (asks_once state number m)
asks_good state number t m early b g =
    let x = state / 2 ^ 33 in
    let p = 1 + x % 3 in
    let n = record m { state = state } in
    let h = in_state number (1_000_000_000 * t) (200 * number) (192 * t) state m g in
    let at = the_place p (place_at g.world p) (g.runs.there p (some_proxy x)) in
    let k = ask_line number (1_000_000_000 * t) (200 * number) p (chosen ((x / 24) % 4) (key x) number) g.world at.0 (omega (arith, b)) (chosen_asks ((x / 24) % 4) (key x) number) g.runs at.1 in
    let u = line_good (number + 1) (1_000_000_000 * t + 3) (200 * number) (192 * t) n (asking x number) g.world h.made g.streams k in
    let v = good_more (number + 1) (1_000_000_000 * t + 3) (1_000_000_000 * (t + 1)) (200 * number) (200 * number) (192 * t + 1) (192 * (t + 1)) (add (asking x number) n) (omega (arith)) (omega (arith)) (omega (arith)) u.good in
    let w = settle_good (number + 1) (200 * number) (t + 1) (add (asking x number) n) early (omega (arith, b)) v in
    record { takes = (u.takes, w.takes); good = later (number + 1) (200 * number) (t + 1 + 64) (t + 65) (settle (add (asking x number) n)) (omega (arith)) w.good }

-- ---- rounds

round_good : (number t : ℕ) (m : Making) → IsEarly (200 * number) → IsBrief (t + 68) → GoodAt number (200 * number) t m → Goes (number + 1) (200 * number) (t + 68) (RoundTaken number m) (round number m)
round_good number t m early b g =
    let one = on_times_good (number % 10 == 0) number number t m (omega (arith, b)) g in
    let two = asks_good (drawn m.state) number (t + 3) (on_times (number % 10 == 0) number m) early (omega (arith, b)) one.good in
    record { takes = (one.takes, two.takes); good = later (number + 1) (200 * number) (t + 3 + 65) (t + 68) (round number m) (omega (arith)) two.good }

pub rounds_good : (n number t : ℕ) (m : Making) → number + n ≤ 20_001 → IsBrief (t + 68 * n) → GoodAt number (200 * number) t m → RoundsTaken n number m
rounds_good zero number t m h b g = tt
rounds_good (suc n) number t m h b g =
    let one = round_good number t m (omega (arith, h)) (omega (arith, b)) g in
    (one.takes, rounds_good n (number + 1) (t + 68) (round number m) (omega (arith, h)) (omega (arith, b)) (later_clock (number + 1) (200 * number) (200 * (number + 1)) (t + 68) (round number m) (omega (arith)) one.good))
