use Rattle.std.proofs.Common.{◌≡◌, ◌-◌, ◌++◌, map, take, drop, length}
use Rattle.watch_model.specs.Merging.{merged_stream}
use Rattle.watch_merge.proofs.merging.close_others.Given as goal

abbrev pub invariant-loop-left : goal.invariant-loop-left
invariant-loop-left l =
    let ss = l.initial.streams.items in
    let at = length ss - l.left in
    l.streams.items ≡ take at ss ++ map (merged_stream l.range ss l.step) (drop at ss)
