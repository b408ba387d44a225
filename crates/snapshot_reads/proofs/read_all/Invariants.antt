-- The bodies of the reads so far.
use Rattle.std.proofs.Common.{◌≡◌, map, take}
use Rattle.proxy_model.specs.Snapshot.{snapshot_body}
use Rattle.snapshot_reads.proofs.read_all.Given as goal

abbrev pub invariant-loop-op : goal.invariant-loop-op
invariant-loop-op g l = l.bodies ≡ map (snapshot_body (g.R.Records.records l.records)) (take l.op-index l.op-items)
