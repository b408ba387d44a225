-- The copies so far are the front of the list.
use Rattle.std.proofs.Common.{◌≡◌, take}
use Rattle.etcd_types.proofs.answer.copy_leases.Given as goal

abbrev pub invariant-loop-lease : goal.invariant-loop-lease
invariant-loop-lease l = l.copies ≡ take l.lease-index l.leases
