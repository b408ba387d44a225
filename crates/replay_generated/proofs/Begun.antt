-- The opening of a script, and the script whole.
use Rattle.std.proofs.Common.{◌≡◌, ℕ, ◌+◌, List, [], ◌∷◌, codes, None, refl, ◌∙◌, ap, subst}
use Rattle.replay_counts.specs.declared.tally.Tally.{Tally}
use Rattle.replay_counts.specs.Tallies.{no_tally, noted_all}
use Rattle.replay_generated.specs.Made.{Made, IsOf, Makes, makes, all_started, begun, script}
use Rattle.replay_world.specs.World.{Parts, Stands}
use Rattle.script_text.specs.declared.item.Item.{Item}
use Rattle.script_text.specs.declared.item.Item.TheVariants as item
use Rattle.script_text.specs.declared.line.Line.TheVariants as line
use Rattle.world_model.specs.Generated.{Making, add, add_all, opening, rounds, settle}
use Rattle.world_model.specs.State.{starting_world}

pub begun_so : (new : Parts) (tally : Tally) (items : List Item) (number : ℕ) → Stands new (starting_world 2 [] (codes "L/")) → items ≡ item.World 2 [] (codes "L/") ∷ [] → tally ≡ noted_all no_tally items → IsOf (record { world = new; tally = tally; state = number }) (begun number)
unfolding begun
begun_so new tally items number s e t = record {
  world = starting_world 2 [] (codes "L/");
  made = refl;
  stands = s;
  tally = t ∙ ap (λ (xs : List Item). noted_all no_tally xs) e;
  state = refl;
  lines = ap (λ (n : ℕ). n + 1) s.lines;
}

-- its opening, and then its rounds
opening_is : (m : Making) → all_started (add (line.World 2 [] (codes "L/")) m) ≡ add_all opening m
opening_is m = refl

pub script_is : (number : ℕ) → rounds number 1 (settle (all_started (begun number))) ≡ script number
unfolding script begun
script_is number =
    ap (λ (m : Making). rounds number 1 (settle m)) (opening_is (record { lines = []; items = []; world = None; state = number }))

pub whole_so : {w x y z : Made} (number : ℕ) → IsOf w (begun number) → Makes all_started w x → Makes settle x y → Makes (rounds number 1) y z → IsOf z (script number)
whole_so {w} {x} {y} {z} number h (makes f) (makes g) (makes k) =
    subst (λ (m : Making). IsOf z m) (script_is number) (k _ (g _ (f _ h)))
