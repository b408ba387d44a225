-- Which entries have a rescind that is to be sent: how many have one, and where the first of them stands.
use Rattle.std.specs.Prelude.{◌≡◌, ℕ, suc, ◌+◌, ◌-◌, ◌<◌, ◌^◌, ◌==◌, nat_lt, Bool, IsTrue, if◌then◌else◌, [], ◌∷◌, drop, length}
use Rattle.proxy_model.specs.declared.lease.Entry.{Entry}
use Rattle.proxy_model.specs.Keyed.{Keyed, is_in_order}
use Rattle.wait_model.specs.Phases.{is_rescind_due}

abbrev pub one_if : Bool → ℕ
one_if b = if b then 1 else 0

abbrev pub due_count : Keyed Entry → ℕ
due_count [] = 0
due_count (e ∷ es) = one_if (is_rescind_due e.1) + due_count es

-- behind all, where none has one
abbrev pub first_due : Keyed Entry → ℕ
first_due [] = 0
first_due (e ∷ es) = if is_rescind_due e.1 then 0 else suc (first_due es)

-- the first one from this place on
abbrev pub first_due_from : Keyed Entry → ℕ → ℕ
first_due_from es i = i + first_due (drop i es)

-- The rows rise by key, and it is known how many rescinds are due and where the first of them is.
pub record IsKept (rows : Keyed Entry) (due first : ℕ) : Type 0 where
  pub in_order : IsTrue (is_in_order rows)
  pub counted : due ≡ due_count rows
  pub found : first ≡ first_due rows

-- They are kept, and their number and the room beside them fit 32 bits.
pub record IsRoomy (rows : Keyed Entry) (spare due first : ℕ) : Type 0 where
  pub kept : IsKept rows due first
  pub most : length rows + spare < 2 ^ 32

-- Where the first one stands after a change of one row, by whether that row has a rescind that is to be sent.

abbrev pub first_of_changed : Keyed Entry → ℕ → ℕ → Bool → ℕ
first_of_changed es first i is =
    if is then (if nat_lt i first then i else first) else (if i == first then first_due_from es i else first)

abbrev pub first_of_added : ℕ → ℕ → Bool → ℕ
first_of_added first i is = if nat_lt first i then first else (if is then i else suc first)

abbrev pub first_of_removed : Keyed Entry → ℕ → ℕ → ℕ
first_of_removed es first i = if nat_lt i first then first - 1 else (if i == first then first_due_from es i else first)
