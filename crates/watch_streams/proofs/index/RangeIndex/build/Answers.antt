use Rattle.std.proofs.Common.{◌++◌, ◌∷◌, [], ap, refl, sym, subst, take, List, ◌∙◌}
use Rattle.std.proofs.lemmas.List.{take_more}
use Rattle.watch_model.specs.State.{Stream}
use Rattle.watch_streams.specs.Rows.{Backed}
use Rattle.watch_streams.proofs.index.RangeIndex.build.Goals as goal

pub loop-stream-preserved : goal.loop-stream-preserved
loop-stream-preserved c =
    let ss = c.args.streams.now in
    let i = c.loop-stream.stream-index in
    let s = c.stream-item.result in
    let more = take_more ss i s c.loop-stream-test.true ∙ ap (λ (t : Stream). take i ss ++ t ∷ []) (sym c.stream-item.is) in
    subst (λ (us : List Stream). Backed c.opened.new.self us) (sym more) (c.opened.ensures (take i ss) s refl (sym c.reopen.ensures.range) c.loop-stream.invariant)
