-- What holds of each of a list, looked up, changed and divided; and that a store has room before each line.
use Rattle.std.proofs.Common.{ℕ, zero, suc, List, [], ◌∷◌, ◌++◌, set, slice_get}
use Rattle.script_text.specs.declared.line.Line.{Line}
use Rattle.text_laws.specs.Stores.Stores.{HasRoom}
use Rattle.text_laws.specs.Values.Fits.{If}
use Rattle.world_model.specs.State.{World}
use Rattle.text_laws.specs.Items.Texts.{Each}
use Rattle.text_laws.specs.Scripts.Room.{RoomFrom}

pub get_each : {A : Type 0} (P : A → Type 0) (xs : List A) (i : ℕ) → Each P xs → If P (slice_get xs i)
get_each P [] i h = tt
get_each P (x ∷ xs) zero h = h.0
get_each P (x ∷ xs) (suc i) h = get_each P xs i h.1

pub set_each : {A : Type 0} (P : A → Type 0) (xs : List A) (i : ℕ) (y : A) → P y → Each P xs → Each P (set xs i y)
set_each P [] i y n h = tt
set_each P (x ∷ xs) zero y n h = (n, h.1)
set_each P (x ∷ xs) (suc i) y n h = (h.0, set_each P xs i y n h.1)

pub each_first : {A : Type 0} (P : A → Type 0) (xs ys : List A) → Each P (xs ++ ys) → Each P xs
each_first P [] ys h = tt
each_first P (x ∷ xs) ys h = (h.0, each_first P xs ys h.1)

pub each_second : {A : Type 0} (P : A → Type 0) (xs ys : List A) → Each P (xs ++ ys) → Each P ys
each_second P [] ys h = h
each_second P (x ∷ xs) ys h = each_second P xs ys h.1

pub has_room : (most : ℕ) (w : World) (lines : List Line) → RoomFrom most w lines → HasRoom most w.store
has_room most w [] r = r
has_room most w (l ∷ lines) r = r.0
