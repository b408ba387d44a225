-- A proxy's session has a number.
use Rattle.std.specs.Prelude.{◌≡◌, ◌≢◌, ℕ, Option, None, Some}
use Rattle.core_model.specs.State.{Seat}

abbrev pub HasNumber : Option Seat → Type 0
HasNumber None = Unit {0}
HasNumber (Some s) = s.session.number ≢ 0
