-- What stays of a turn, whatever it steps: it stays at home, it steps no more where it stepped no more before, and what it made stays allowed.
use Rattle.std.specs.Prelude.{◌≡◌, Bool, IsTrue}

pub record Stays {T H : Type 0} (home_of : T → H) (worn_of : T → Bool) (allowed_of : T → Type 0) (old new : T) : Type 0 where
  pub home : home_of new ≡ home_of old
  pub late : IsTrue (worn_of old) → IsTrue (worn_of new)
  pub allowed : allowed_of old → allowed_of new
