-- What is left decides.
use Rattle.std.proofs.Common.{◌≡◌, drop}
use Rattle.store_model.specs.History.{History, with_revision}
use Rattle.store_model.specs.Compares.{all_hold}
use Rattle.store_index.specs.Index.{HoldsKept}
use Rattle.store_reads.proofs.compares.all_hold.Given as goal

abbrev pub invariant-loop-compare : goal.invariant-loop-compare
invariant-loop-compare l =
    (h : History) → HoldsKept l.index h
    → all_hold (with_revision h l.made) (drop l.compare-index l.compares) ≡ all_hold (with_revision h l.made) l.compares
