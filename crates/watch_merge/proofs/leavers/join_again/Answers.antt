use Rattle.std.proofs.Common.{◌≡◌, List, None, Option, ap, sym, ◌∙◌}
use Rattle.std.specs.Option.{option_copied}
use Rattle.watch_model.specs.State.{Stream}
use Rattle.watch_model.specs.Joining.{stream_to_join, seated_at}
use Rattle.watch_queue.specs.Watching.{shown}
use Rattle.watch_merge.proofs.leavers.join_again.Goals as goal

pub returns-in-None-clause-seated : goal.returns-in-None-clause-seated
returns-in-None-clause-seated c =
    let w = c.args.watch.now in
    let at : stream_to_join c.args.streams.now.items w.ask.range w.next c.args.last.revision ≡ None =
    sym (ap (λ (ss : List Stream). stream_to_join ss w.ask.range w.next c.args.last.revision) c.deref.ensures.value) ∙ sym c.stream_to_join.ensures ∙ ap option_copied c.in-None.is in
    ap (λ (o : Option Stream). seated_at c.args.streams.now.items c.args.given c.args.step c.args.last (shown w) o) at ∙ c.open_again.ensures.opened c.args.last
