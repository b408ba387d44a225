-- Below the low place the numbers are taken in a row, and at the high one they no longer are.
use Rattle.std.proofs.Common.{◌≡◌, ◌≤◌, ◌+◌, ◌-◌, ◌==◌, ℕ, false, Some, length}
use Rattle.std.specs.List.{slice_get}
use Rattle.store_model.specs.declared.lease.Lease.{Lease}
use Rattle.store_world.proofs.leases.first_gap.Given as goal

abbrev pub invariant-loop-low : goal.invariant-loop-low
invariant-loop-low l = record {
  order : l.low ≤ l.high;
  within : l.high ≤ length l.leases;
  taken : (n : ℕ) (v : Lease) → l.low ≡ n + 1 → slice_get l.leases n ≡ Some v → v.number ≡ l.low;
  free : (v : Lease) → slice_get l.leases l.high ≡ Some v → (v.number == l.high + 1) ≡ false;
}

abbrev pub decreases-loop-low : goal.decreases-loop-low
decreases-loop-low l = l.high - l.low
