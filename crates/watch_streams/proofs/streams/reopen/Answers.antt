use Rattle.std.proofs.Common.{ap, ◌∙◌, ◌++◌, ◌∷◌, [], List}
use Rattle.std.specs.List.{remove}
use Rattle.proxy_model.specs.Upstream.{cut}
use Rattle.watch_model.specs.State.{Stream}
use Rattle.watch_model.specs.declared.stream.StreamPhase.TheVariants as phase
use Rattle.watch_streams.proofs.Places.{reopened_is}
use Rattle.watch_streams.proofs.streams.reopen.Goals as goal

pub returns : goal.returns
returns c =
    let ss = c.args.streams.now.items in
    let d = c.remove-stream.result in
    let pushed = rw c.unwrap.ensures at c.push.ensures.items in
    let new : Stream = record { number = c.args.number; phase = phase.Due c.args.step; stream = c.cut.new.self } in
    pushed ∙ ap (λ (t : List Stream). t ++ new ∷ []) c.remove-stream.ensures.items
    ∙ (λ i. remove ss c.args.at ++ record { number = c.args.number; phase = phase.Due c.args.step; stream = (c.cut.ensures ∙ ap (λ (s : Stream). cut s.stream) c.remove-stream.ensures.value) i } ∷ [])
    ∙ reopened_is c.args.at c.args.number c.args.step ss d c.requires
