-- The copies so far are the front of the list.
use Rattle.std.proofs.Common.{◌≡◌, take}
use Rattle.etcd_types.proofs.answer.+body_copy.Given as goal

abbrev pub invariant-copy_bodies-loop-body : goal.invariant-copy_bodies-loop-body
invariant-copy_bodies-loop-body l = l.copies ≡ take l.body-index l.bodies
