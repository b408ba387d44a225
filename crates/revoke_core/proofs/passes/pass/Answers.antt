-- One turn more, and at the end the whole pass.
use Rattle.std.proofs.Common.{◌≡◌, ◌<◌, ◌+◌, List, length, subst, arith}
use Rattle.wait_model.specs.Passes.{turn_if}
use Rattle.wait_model.specs.declared.write.Write.{Write}
use Rattle.revoke_core.specs.Keeping.{StaysAlike}
use Rattle.revoke_core.proofs.Passing.{passing_begins, passing_more, passing_moved, passing_ends}
use Rattle.revoke_core.proofs.passes.pass.Goals as goal

pub loop-at-init : goal.loop-at-init
loop-at-init c = passing_begins _ _ _ _

pub loop-at-preserved : goal.loop-at-preserved
loop-at-preserved c =
    let es = c.loop-at.table.entries in
    let ss = c.loop-at.spoiled in
    let ws = c.loop-at.writes.items in
    let w = c.index_mut.result.now in
    let b = c.stays-still.result in
    let t = turn_if c.args.step b es ss w in
    let n : length ws ≡ length c.args.writes.now.items = c.loop-at.invariant.len in
    let o = c.args.writes.now.ok in
    let e = c.len-at-end.ensures in
    let f = c.loop-at-test.true in
    let l : c.loop-at.at < length ws = omega arith in
    let g = subst (λ (xs : List Write). StaysAlike b xs c.loop-at.at es ss) c.deref.ensures.value c.stays-still.ensures in
    passing_moved c.args.step c.args.table.now.entries c.args.spoiled.now c.args.writes.now.items c.loop-at.at (c.loop-at.at + 1) t.entries c.take_turn.new.table.entries t.spoiled c.take_turn.new.spoiled ws t.write c.take_turn.new.write c.take_turn.ensures.entries c.take_turn.ensures.spoiled c.take_turn.ensures.write (passing_more c.args.step c.args.table.now.entries c.args.spoiled.now c.args.writes.now.items c.loop-at.at es ss ws w b c.loop-at.invariant l c.index_mut.ensures.value (g c.args.step w c.index_mut.ensures.value))

pub returns-clause-writes : goal.returns-clause-writes
returns-clause-writes c =
    let n = c.loop-at.invariant.len in
    let o = c.args.writes.now.ok in
    let e = c.len-at-end.ensures in
    let f = c.loop-at-test.false in (passing_ends _ _ _ _ c.loop-at.at _ _ _ c.loop-at.invariant (omega arith)).writes

pub returns-clause-spoiled : goal.returns-clause-spoiled
returns-clause-spoiled c =
    let n = c.loop-at.invariant.len in
    let o = c.args.writes.now.ok in
    let e = c.len-at-end.ensures in
    let f = c.loop-at-test.false in (passing_ends _ _ _ _ c.loop-at.at _ _ _ c.loop-at.invariant (omega arith)).spoiled

pub returns-clause-entries : goal.returns-clause-entries
returns-clause-entries c =
    let n = c.loop-at.invariant.len in
    let o = c.args.writes.now.ok in
    let e = c.len-at-end.ensures in
    let f = c.loop-at-test.false in (passing_ends _ _ _ _ c.loop-at.at _ _ _ c.loop-at.invariant (omega arith)).entries
