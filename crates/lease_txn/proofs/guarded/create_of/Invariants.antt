-- None of the keys so far is the one looked for.
use Rattle.std.proofs.Common.{◌≡◌, drop}
use Rattle.proxy_model.specs.Guarded.{create_or}
use Rattle.lease_txn.proofs.guarded.create_of.Given as goal

abbrev pub invariant-loop-own : goal.invariant-loop-own
invariant-loop-own l = create_or l.other (drop l.own-index l.owned) l.key ≡ create_or l.other l.owned l.key
