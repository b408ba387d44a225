-- Those so far passed, so what is left decides.
use Rattle.std.proofs.Common.{◌≡◌, drop}
use Rattle.std.specs.List.{list_all}
use Rattle.proxy_model.specs.Snapshot.{is_read_held}
use Rattle.snapshot_reads.proofs.reads_held.Given as goal

abbrev pub invariant-loop-op : goal.invariant-loop-op
invariant-loop-op g l =
    let held = g.R.Records.records l.records in
    list_all (is_read_held held) (drop l.op-index l.op-items) ≡ list_all (is_read_held held) l.op-items
