-- A proxy at its start.
use Rattle.std.proofs.Common.{refl}
use Rattle.core_laws.specs.Steps.Laws.{StartFits}

pub start_fits : StartFits
start_fits settings =
    record {
      reads = record {
        ground = record {
          keys = λ k. record { only = refl; ok = record { apart = λ t. absurd (cc); free = λ t. refl; writer = λ t. absurd (cc) } };
          marks = λ k. refl;
          owned = λ n k. refl;
        };
        asks = refl;
      };
      settled = tt;
      unfinished = refl;
      agrees = record {
        writes = record { proper = refl; ranges = tt; out = refl; sends_once = λ call. refl; asks_once = λ call. refl };
        asks = record { once = refl; writes = refl; calls_once = λ call. refl };
        awaited = λ k. refl;
        out = record { seat = refl; acquires = λ k. refl; asks = refl };
        numbers = record { once = refl; given = refl; waits = refl };
        groups = record { one = λ lease. refl; stand = refl };
        seated = refl;
      };
      given_steps = refl;
    }
