-- The opening of a generated script is taken, and so is all of it.
use Rattle.std.proofs.Common.{◌≡◌, ℕ, ◌+◌, ◌*◌, ◌-◌, ◌≤◌, ◌==◌, Bool, true, false, cond, List, [], length, slice_get, codes, None, Some, is_some, refl, sym, ◌∙◌, ap, subst, arith}
use Rattle.std.proofs.lemmas.Bool.Decides.{nat_tests}
use Rattle.script_text.specs.declared.line.Line.TheVariants as line
use Rattle.store_model.specs.History.{newest}
use Rattle.world_model.specs.Generated.{Making, add, settle, opening, add_all}
use Rattle.world_model.specs.Places.{nth, place_at, with_place}
use Rattle.world_model.specs.Starts.{new_place}
use Rattle.world_model.specs.State.{Place, OpenedStream, World, starting_world}
use Rattle.held_laws.proofs.Worlds.{equal, one_place, placed_itself, placed_other}
use Rattle.generated_laws.specs.Laws.{Takes, unmade, NoGeneratedLineIsRefused}
use Rattle.generated_laws.proofs.Lines.{tick_line}
use Rattle.generated_laws.proofs.Making.{good_more, the_place, line_good}
use Rattle.generated_laws.proofs.Turns.{GoodAt, IsBrief, Goes, later_clock, settle_good, rounds_good}
use Rattle.generated_laws.proofs.Worlds.{but_one, more_running}
use Rattle.generated_laws.specs.Worlds.{IsProxy, PlaceStands, Running}

-- ---- proxies start

-- a world whose proxies were started, and nothing else
record Fresh (w : World) : Type 0 where
  places : (p : ℕ) (x : Place) → place_at w p ≡ Some x → PlaceStands 1 1 0 [] x
  streams : w.streams ≡ []
  watches : w.store.watches ≡ []
  short : newest w.store.history ≤ 1
  namespace : w.namespace ≡ []

abbrev start : World → ℕ → World
start w p = record (with_place w p (new_place w 0 1)) { lines = w.lines + 1 }

new_stands : (w : World) → w.namespace ≡ [] → PlaceStands 1 1 0 [] (new_place w 0 1)
new_stands w e = record {
  rests = record {
    core = record { asks = record { once = refl; below = refl }; out = refl; streams = refl; watches = refl; steps = omega (arith); given = omega (arith); namespace = e; fresh = tt };
    reads = omega (arith);
    tickets = λ t l. refl;
  };
  on_time = record { session = refl; asks = refl; writes = refl };
}

start_fresh : (w : World) (p : ℕ) → Fresh w → Fresh (start w p)
start_fresh w p h = record { places = λ q x e. by q x e (q == p) refl; streams = h.streams; watches = h.watches; short = h.short; namespace = h.namespace }
  where
    z : Place
    z = new_place w 0 1

    by : (q : ℕ) (x : Place) → place_at (with_place w p z) q ≡ Some x → (b : Bool) → (q == p) ≡ b → PlaceStands 1 1 0 [] x
    by q x e true n = subst (PlaceStands 1 1 0 []) (one_place z x (sym (placed_itself w w p z) ∙ ap (place_at (with_place w p z)) (sym (equal q p n)) ∙ e)) (new_stands w h.namespace)
    by q x e false n = h.places q x (sym (placed_other w w p q z refl n) ∙ e)

abbrev first_world : World
first_world = starting_world 2 [] (codes "L/")

nobody : (p : ℕ) (x : Place) → place_at first_world p ≡ Some x → ⊥
nobody p x e = cc

first_fresh : Fresh first_world
first_fresh = record { places = λ p x e. absurd (nobody p x e); streams = refl; watches = refl; short = omega (arith); namespace = refl }

abbrev started : World
started = start (start (start first_world 1) 2) 3

started_fresh : Fresh started
started_fresh = start_fresh (start (start first_world 1) 2) 3 (start_fresh (start first_world 1) 2 (start_fresh first_world 1 first_fresh))

here : (w : World) (p : ℕ) → is_some (place_at (start w p) p) ≡ true
here w p = ap is_some (placed_itself w w p (new_place w 0 1))

there : (w : World) (p q : ℕ) → (q == p) ≡ false → is_some (place_at w q) ≡ true → is_some (place_at (start w p) q) ≡ true
there w p q n h = ap is_some (placed_other w w p q (new_place w 0 1) refl n) ∙ h

last_of_three : (p : ℕ) → IsProxy p → (p == 3) ≡ false → (p == 2) ≡ false → p ≡ 1
last_of_three p i e f = let a = i.0 in let b = i.1 in grind (arith, nat_tests, a, b)

all_there : (p : ℕ) → IsProxy p → is_some (place_at started p) ≡ true
all_there p i = third (p == 3) refl
  where
    two : World
    two = start (start first_world 1) 2

    first : p ≡ 1 → is_some (place_at (start first_world 1) p) ≡ true
    first e = subst (λ (q : ℕ). is_some (place_at (start first_world 1) q) ≡ true) (sym e) (here first_world 1)

    second : (b : Bool) → (p == 2) ≡ b → (p == 3) ≡ false → is_some (place_at two p) ≡ true
    second true e n = subst (λ (q : ℕ). is_some (place_at two q) ≡ true) (sym (equal p 2 e)) (here (start first_world 1) 2)
    second false e n = there (start first_world 1) 2 p e (first (last_of_three p i n e))

    third : (b : Bool) → (p == 3) ≡ b → is_some (place_at started p) ≡ true
    third true e = subst (λ (q : ℕ). is_some (place_at started q) ≡ true) (sym (equal p 3 e)) (here two 3)
    third false e = there two 3 p e (second (p == 2) refl e)

no_nth : (xs : List OpenedStream) (number : ℕ) (s : OpenedStream) → xs ≡ [] → nth xs number ≡ Some s → ⊥
no_nth xs number s e f = by (number == 0) (sym (ap (λ (ys : List OpenedStream). nth ys number) e) ∙ f)
  where
    by : (b : Bool) → cond b None (slice_get [] (number - 1)) ≡ Some s → ⊥
    by true g = cc
    by false g = cc

started_runs : Running 1 1 0 started
started_runs = record {
  places = started_fresh.places;
  there = all_there;
  streams = λ number s e. absurd (no_nth started.streams number s started_fresh.streams e);
  one = λ n q s t e. absurd (no_nth started.streams n s started_fresh.streams e);
  many = ap length started_fresh.watches ∙ sym (ap length started_fresh.streams);
  short = started_fresh.short;
}

-- ---- they tick

tick_good : (t p : ℕ) (m : Making) → IsBrief (t + 1) → IsProxy p → GoodAt 1 0 t m → Goes 1 0 (t + 1) (Takes m (line.Tick p)) (add (line.Tick p) m)
tick_good t p m b i g =
    let at = the_place p (place_at g.world p) (g.runs.there p i) in
    let k = tick_line 1 (1_000_000_000 * t) 0 p g.world at.0 (omega (arith, b)) (but_one p 1 (1_000_000_000 * t) 0 g.world g.runs) at.1 (g.runs.places p at.0 at.1).rests in
    let u = line_good 1 (1_000_000_000 * t + 3) 0 (192 * t) m (line.Tick p) g.world g.made g.streams k in
    record { takes = u.takes; good = good_more 1 (1_000_000_000 * t + 3) (1_000_000_000 * (t + 1)) 0 0 (192 * t + 1) (192 * (t + 1)) (add (line.Tick p) m) (omega (arith)) (omega (arith)) (omega (arith)) u.good }

abbrev AllTick : Making → Type 0
AllTick m = Takes m (line.Tick 1) × Takes (add (line.Tick 1) m) (line.Tick 2) × Takes (add (line.Tick 2) (add (line.Tick 1) m)) (line.Tick 3)

ticks_good : (m : Making) → GoodAt 1 0 1 m → Goes 1 0 4 (AllTick m) (add (line.Tick 3) (add (line.Tick 2) (add (line.Tick 1) m)))
ticks_good m g =
    let one = tick_good 1 1 m (omega (arith)) (omega (arith), omega (arith)) g in
    let two = tick_good 2 2 (add (line.Tick 1) m) (omega (arith)) (omega (arith), omega (arith)) one.good in
    let three = tick_good 3 3 (add (line.Tick 2) (add (line.Tick 1) m)) (omega (arith)) (omega (arith), omega (arith)) two.good in
    record { takes = (one.takes, two.takes, three.takes); good = three.good }

-- ---- the opening, and what comes behind it

starts_from : ℕ → Making
starts_from n = add (line.Start 3) (add (line.Start 2) (add (line.Start 1) (add (line.World 2 [] (codes "L/")) (unmade n))))

starts_good : (n : ℕ) → GoodAt 1 0 1 (starts_from n)
unfolding starts_from
starts_good n = record { world = started; made = refl; runs = more_running 1 1 (1_000_000_000 * 1) 0 0 started (omega (arith)) (omega (arith)) started_runs; streams = omega (arith) }

pub none_is_refused : NoGeneratedLineIsRefused
unfolding starts_from
none_is_refused n h =
    let t = ticks_good (starts_from n) (starts_good n) in
    let s = settle_good 1 0 4 (add_all opening (unmade n)) (omega (arith)) (omega (arith)) t.good in
    record {
      begun = (refl, (refl, (refl, (refl, (t.takes.0, (t.takes.1, (t.takes.2, tt)))))));
      settled = s.takes;
      rounds = rounds_good n 1 68 (settle (add_all opening (unmade n))) (omega (arith, h)) (omega (arith, h)) (later_clock 1 0 (200 * 1) 68 (settle (add_all opening (unmade n))) (omega (arith)) s.good);
    }
