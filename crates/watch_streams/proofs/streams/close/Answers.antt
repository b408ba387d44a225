use Rattle.std.proofs.Common.{ap, List, subst, sym, ◌∙◌}
use Rattle.watch_model.specs.State.{Stream}
use Rattle.watch_model.specs.Lookups.{stream_at}
use Rattle.watch_model.specs.Splitting.{closed}
use Rattle.watch_streams.specs.Places.{IsAt}
use Rattle.watch_streams.proofs.Changing.{put_is, with_none}
use Rattle.watch_streams.proofs.streams.close.Goals as goal

pub returns-in-Some : goal.returns-in-Some
returns-in-Some c =
    let ss = c.args.streams.now.items in
    let p = subst (λ (t : List Stream). IsAt c.args.number t c.in-Some.at) c.deref.ensures.value c.in-Some.ensures.found in
    put_is c.args.number c.requires.high c.in-Some.at (closed c.args.step) ss c.index_mut.result.now c.close_one.new.stream c.requires.numbers p c.index_mut.ensures.value c.close_one.ensures

pub returns-in_default : goal.returns-in_default
returns-in_default c = with_none c.args.number (closed c.args.step) c.args.streams.now.items (sym (ap (stream_at c.args.number) c.deref.ensures.value) ∙ c.in_default.ensures.none)
