use Rattle.std.proofs.Common.{◌<◌, map, length, ap, ◌∙◌, arith}
use Rattle.std.proofs.lemmas.List.Edits.{map_over_more}
use Rattle.watch_queue.specs.Watching.{shown}
use Rattle.watch_queue.specs.Leaving.{prepared_left}
use Rattle.watch_queue.proofs.Fates.{half_shown, set_shown}
use Rattle.watch_queue.proofs.Leavers.{left_kept}
use Rattle.watch_queue.proofs.leaving.ready_all.Goals as goal

pub loop-at-preserved : goal.loop-at-preserved
loop-at-preserved c =
    let g = prepared_left c.args.cancellation in
    let l : c.loop-at.at < length c.args.watches.now.items = let a = c.loop-at-test.true in let b = c.len-at-end.ensures in let d = c.args.watches.now.ok.0 in omega (arith, a, b, d) in
    rw (c.in_ok-ready_one.ensures.ok) (map_over_more g c.args.watches.now.items c.loop-at.watches.items c.loop-at.at c.index_mut.result.now l c.loop-at.invariant c.index_mut.ensures.value)

pub returns-in_err-ready_one-clause-shown : goal.returns-in_err-ready_one-clause-shown
returns-in_err-ready_one-clause-shown c =
    let g = prepared_left c.args.cancellation in
    set_shown c.loop-at.watches.items c.loop-at.at c.ready_one.new.watch c.index_mut.result.now c.index_mut.ensures.value c.ready_one.ensures.shown
    ∙ ap (map shown) c.loop-at.invariant ∙ half_shown g (left_kept c.args.cancellation) c.loop-at.at c.args.watches.now.items

pub returns-clause-shown : goal.returns-clause-shown
returns-clause-shown c =
    let g = prepared_left c.args.cancellation in
    ap (map shown) c.loop-at.invariant ∙ half_shown g (left_kept c.args.cancellation) c.loop-at.at c.args.watches.now.items
