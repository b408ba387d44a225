-- A proxy that has nothing left to do by its clock: what follows from the clock's reading was done at it.
use Rattle.std.specs.Prelude.{◌≡◌, ℕ, Bool, true, false, not}
use Rattle.std.specs.List.{list_all}
use Rattle.read_model.specs.declared.asked.Asked.{Asked}
use Rattle.core_model.specs.ClockWork.{times_out}
use Rattle.core_model.specs.Fits.{goes_on}
use Rattle.core_model.specs.Sessions.{seat_is_over}
use Rattle.core_model.specs.State.{Core}

abbrev pub is_in_time : ℕ → Asked → Bool
is_in_time now a = not (times_out now a)

-- at this reading
pub record IsOnTime (now : ℕ) (c : Core) : Type 0 where
  -- its session hasn't passed its deadline
  pub session : seat_is_over c.seat now ≡ false
  -- no request waits for longer than requests may
  pub asks : list_all (is_in_time now) c.asks ≡ true
  -- no write waits for owners that are all gone
  pub writes : list_all goes_on c.own.waits.writes ≡ true
