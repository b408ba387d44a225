-- What holds of each world at its first line and is kept by each line that is taken holds of every world.
use Rattle.std.proofs.Common.{◌≡◌, ℕ, ◌+◌, List, [], ◌∷◌, Option, None, Some, Result, Ok, Err, refl, subst}
use Rattle.script_text.specs.declared.item.Item.{Item}
use Rattle.script_text.specs.declared.line.Line.{Line}
use Rattle.script_text.specs.declared.line.Line.TheVariants as line
use Rattle.world_model.specs.declared.fault.LineRefusal.{LineRefusal}
use Rattle.world_model.specs.State.{World, starting_world}
use Rattle.world_model.specs.Transcript.{Taken, done, counted_as, begun, taken, and_then, world_from, world_behind}
use Rattle.world_laws.proofs.Effects.{Effect, effect}

-- it holds at the start, and each line keeps it, the count of lines aside
pub record IsKept (P : World → Type 0) : Type 0 where
  pub begins : (members : ℕ) (namespace leasing : List ℕ) → P (starting_world members namespace leasing)
  pub goes_on : (w after : World) (items : List Item) → Effect w after items → P w → P after
  pub counts : (w : World) (n : ℕ) → P w → P (record w { lines = n })

abbrev TakenSo : (World → Type 0) → Taken → Type 0
TakenSo P (Ok gained) = P gained.0
TakenSo P (Err why) = Unit {0}

abbrev AllSo : (World → Type 0) → Result (Option World) LineRefusal → Type 0
AllSo P (Ok None) = Unit {0}
AllSo P (Ok (Some w)) = P w
AllSo P (Err why) = Unit {0}

taken_by : (P : World → Type 0) (k : IsKept P) (w : World) (l : Line) (r : Result (List Item) LineRefusal) → (done w l).gained ≡ r → P w → TakenSo P (counted_as (done w l).world r)
taken_by P k w l (Ok items) e h = k.counts (done w l).world ((done w l).world.lines + 1) (k.goes_on w (done w l).world items (effect w l items e) h)
taken_by P k w l (Err why) e h = tt

begun_so : (P : World → Type 0) (k : IsKept P) (l : Line) → TakenSo P (begun l)
begun_so P k (line.World members namespace leasing) = k.begins members namespace leasing
begun_so P k _ = tt

behind_by : (P : World → Type 0) (lines : List Line) (t : Taken) → TakenSo P t → ((w : World) → P w → AllSo P (world_from (Some w) lines)) → AllSo P (and_then t (λ after. world_from (Some after) lines))
behind_by P lines (Ok gained) g h = h gained.0 g
behind_by P lines (Err why) g h = tt

lines_so : (P : World → Type 0) (k : IsKept P) (w : World) (lines : List Line) → P w → AllSo P (world_from (Some w) lines)
lines_so P k w [] h = h
lines_so P k w (l ∷ lines) h = behind_by P lines (taken w l) (taken_by P k w l (done w l).gained refl h) (λ u g. lines_so P k u lines g)

all_so : (P : World → Type 0) (k : IsKept P) (lines : List Line) → AllSo P (world_behind lines)
all_so P k [] = tt
all_so P k (l ∷ lines) = behind_by P lines (begun l) (begun_so P k l) (λ u g. lines_so P k u lines g)

pub every_world : (P : World → Type 0) → IsKept P → (lines : List Line) (w : World) → world_behind lines ≡ Ok (Some w) → P w
every_world P k lines w e = subst (AllSo P) e (all_so P k lines)
