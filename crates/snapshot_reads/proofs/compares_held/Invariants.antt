-- Those so far passed, so what is left decides.
use Rattle.std.proofs.Common.{◌≡◌, drop}
use Rattle.std.specs.List.{list_all}
use Rattle.proxy_model.specs.Snapshot.{is_compare_held}
use Rattle.snapshot_reads.proofs.compares_held.Given as goal

abbrev pub invariant-loop-compare : goal.invariant-loop-compare
invariant-loop-compare g l =
    let held = g.R.Records.records l.records in
    list_all (is_compare_held held) (drop l.compare-index l.compare-items) ≡ list_all (is_compare_held held) l.compare-items
