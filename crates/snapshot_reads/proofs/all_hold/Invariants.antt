-- Those so far passed, so what is left decides.
use Rattle.std.proofs.Common.{◌≡◌, drop}
use Rattle.std.specs.List.{list_all}
use Rattle.proxy_model.specs.Snapshot.{snapshot_holds}
use Rattle.snapshot_reads.proofs.all_hold.Given as goal

abbrev pub invariant-loop-compare : goal.invariant-loop-compare
invariant-loop-compare g l =
    let held = g.R.Records.records l.records in
    list_all (snapshot_holds held) (drop l.compare-index l.compare-items) ≡ list_all (snapshot_holds held) l.compare-items
