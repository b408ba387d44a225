use Rattle.std.proofs.Common.{◌≡◌, ◌<◌, ◌-◌, ◌+◌, ◌∙◌, ap, length, arith, false}
use Rattle.watch_model.specs.declared.stream.StreamPhase.TheVariants as phase
use Rattle.watch_model.specs.State.{Stream}
use Rattle.watch_model.specs.Merging.{merged_stream}
use Rattle.watch_merge.proofs.Closing.{one_closed, length_half}
use Rattle.watch_merge.proofs.merging.close_others.Goals as goal

pub loop-left-preserved : goal.loop-left-preserved
loop-left-preserved c =
    let ss = c.args.streams.now.items in
    let xs = c.loop-left.streams.items in
    let g = merged_stream c.args.range.now ss c.args.step in
    let left = c.loop-left.left in
    let all : c.len.result ≡ length ss = c.len.ensures ∙ c.loop-left.streams.ok.0 ∙ ap length c.loop-left.invariant ∙ length_half g (length ss - left) ss in
    let t : left < length ss = let a = c.loop-left-test.true in let b = c.len-left-end.ensures in let d = c.args.streams.now.ok.0 in omega (arith, a, b, d) in
    let d : Stream = record { number = 0; phase = phase.Begun; stream = record { range = c.args.range.now; next = 0; created = false } } in
    c.close_at.ensures d ∙ one_closed c.args.range.now c.args.step (c.len.result - 1 - left) (length ss - left) (length ss - (left + 1)) ss xs d (omega (arith, all, t)) (omega (arith, all, t)) (omega (arith, all, t)) c.loop-left.invariant
