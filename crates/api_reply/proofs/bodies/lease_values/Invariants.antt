-- The values so far, and those that are left to write, are all.
use Rattle.std.proofs.Common.{◌≡◌, drop}
use Rattle.json_model.specs.Written.{items_of}
use Rattle.json_model.specs.WrittenReplies.{lease_value}
use Rattle.json_model.proofs.ItemsSoFar.{onto}
use Rattle.api_reply.proofs.bodies.lease_values.Given as goal

abbrev pub invariant-loop-lease : goal.invariant-loop-lease
invariant-loop-lease l = onto l.values.items (items_of lease_value (drop l.lease-index l.lease-items)) ≡ items_of lease_value l.leases
