-- The leasing prefix stays, also by the clock's work alone.
use Rattle.std.proofs.Common.{◌≡◌, ℕ, None, map, refl, ◌∙◌}
use Rattle.core_model.specs.ClockWork.{begun, clock_work, times_out, timed_out_ask}
use Rattle.core_model.specs.Lookups.{moment, reads_of}
use Rattle.core_model.specs.Sessions.{seat_is_over, without_session, deadline_passed}
use Rattle.core_model.specs.State.{Core}
use Rattle.core_laws.proofs.Steps.Comes.{by_test}
use Rattle.core_laws.proofs.Steps.Prefixes.{session_over_same, taken_off_same}

pub clock_prefix : (now : ℕ) (c : Core) → (clock_work now c).own.waits.prefix ≡ c.own.waits.prefix
unfolding clock_work
clock_prefix now c =
    let d = deadline_passed now (begun c) in
    taken_off_same (moment d now) (times_out now) (map (timed_out_ask now) d.asks) (reads_of d)
    ∙ by_test (λ (x : Core). x.own.waits.prefix ≡ c.own.waits.prefix) (seat_is_over c.seat now) (without_session now (begun c)) (begun c)
    (λ t. session_over_same (moment (record (begun c) { seat = None }) now) (reads_of (record (begun c) { seat = None }))) (λ t. refl)
