-- Writes that rest: a pass over them changes nothing, whatever stands in the lease table and of acquires.
use Rattle.std.specs.Prelude.{◌≡◌, Bool, true, false, not, ◌&&◌, ◌||◌, IsTrue, ℕ, List, [], ◌∷◌, take, drop, Option, None, Some}
use Rattle.std.specs.List.{list_any}
use Rattle.wait_model.specs.declared.write.Write.{Write}
use Rattle.wait_model.specs.Covers.{shares}
use Rattle.wait_model.specs.DueOrder.{first_place}
use Rattle.wait_model.specs.Fits.{are_proper}
use Rattle.wait_model.specs.Stages.{is_waiting, is_found_over}
use Rattle.revoke_core.specs.declared.rests.Left.{Left}

-- it waits for no owner that is over, and where it waits for its turn an earlier one shares a key with it
abbrev pub rests : List Write → Write → Bool
rests earlier w = not (is_found_over w.stage) && (not (is_waiting w.stage) || list_any (shares w) earlier)

-- the earlier ones have the last one first
abbrev pub all_rest : List Write → List Write → Bool
all_rest earlier [] = true
all_rest earlier (w ∷ ws) = rests earlier w && all_rest (w ∷ earlier) ws

abbrev pub first_rests : List Write → List Write → Bool
first_rests earlier [] = true
first_rests earlier (w ∷ ws) = rests earlier w

-- the i-th rests
abbrev pub is_at_rest : List Write → ℕ → Bool
is_at_rest ws i = first_rests (take i ws) (drop i ws)

-- what was found of the writes holds of these
pub record IsLeft (l : Left) (ws : List Write) : Type 0 where
  pub rests : l.rest ≡ all_rest [] ws
  pub first : l.first ≡ first_place ws

abbrev pub IsKnown : Option Left → List Write → Type 0
IsKnown None ws = Unit {0}
IsKnown (Some l) ws = IsLeft l ws

abbrev pub known_rest : Option Left → Bool
known_rest None = false
known_rest (Some l) = l.rest

-- Each write is proper, and what is known of them is so.
pub record IsKept (ws : List Write) (known : Option Left) : Type 0 where
  pub proper : IsTrue (are_proper ws)
  pub left : IsKnown known ws
