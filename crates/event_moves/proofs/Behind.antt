-- What holds of a proxy whose clock work is done.
use Rattle.std.proofs.Common.{◌≡◌, ◌≢◌, ℕ, true, false, Option, None, Some, refl, sym, ◌∙◌, ap}
use Rattle.proxy_model.specs.RequestRefusals.{is_session}
use Rattle.core_model.specs.ClockWork.{begun, clock_work}
use Rattle.core_model.specs.Fits.{CoreOk}
use Rattle.core_model.specs.Sessions.{without_session, seat_is_over}
use Rattle.core_model.specs.State.{Seat, Core}
use Rattle.core_laws.proofs.Steps.Comes.{by_test}
use Rattle.core_laws.proofs.Steps.Middle.{clock_whole}
use Rattle.core_laws.proofs.Steps.Whole.{of_ok, is_ok}
use Rattle.core_fits.specs.Fits.{SeatIsNumbered, CoreFits}
use Rattle.core_fits.proofs.CallsBeside.{clock_beside}
use Rattle.core_fits.proofs.Seats.{SeatFits}
use Rattle.owner_fits.specs.Laws.{OwnersFit}
use Rattle.owner_fits.proofs.Ending.{clock_fits}
use Rattle.core_moves.specs.Terms.{HasNumber}

pub record IsBehind (now : ℕ) (c : Core) : Type 0 where
  pub ok : CoreOk c
  pub seat : SeatFits c.seat c.out
  pub owners : OwnersFit c
  pub live : seat_is_over c.seat now ≡ false

-- a session doesn't outlive its deadline
clock_live : (now : ℕ) (c : Core) → seat_is_over (clock_work now c).seat now ≡ false
unfolding clock_work
clock_live now c = by_test (λ (d : Core). seat_is_over d.seat now ≡ false) (seat_is_over c.seat now) (without_session now (begun c)) (begun c) (λ t. refl) (λ t. t)

pub clock_behind : (now : ℕ) (c : Core) → CoreOk c → CoreFits c → OwnersFit c → IsBehind now (clock_work now c)
clock_behind now c k f g =
    let m = (of_ok c k).mid in
    let x = clock_fits false now c m (record { acquires = g.acquires; entries = g.entries; names = λ b. absurd (cc) }) in
    record {
      ok = is_ok (clock_work now c) (clock_whole 0 now c m);
      seat = (clock_beside c.own.waits.prefix now c ((f.seat_job, f.numbered), (f.range, f.header))).0;
      owners = record { acquires = x.acquires; entries = x.entries };
      live = clock_live now c;
    }

-- a session's number isn't 0
pub not_zero : (n : ℕ) → is_session n ≡ true → n ≢ 0
not_zero n t z = absurd (let x : is_session 0 ≡ true = ap is_session (sym z) ∙ t in cc)

pub has_number : (s : Option Seat) → SeatIsNumbered s → HasNumber s
has_number None n = tt
has_number (Some s) n = not_zero s.session.number n
