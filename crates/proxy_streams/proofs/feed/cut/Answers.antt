-- The stream is cut, or no more steps are made.
use Rattle.std.proofs.Common.{Ok, Err, refl, sym, ◌∙◌}
use Rattle.server_model.proofs.Follows.{was_cut, was_worn}
use Rattle.proxy_streams.proofs.feed.cut.Goals as goal

pub returns-in-Ok-clause-cut : goal.returns-in-Ok-clause-cut
returns-in-Ok-clause-cut g c = was_cut _ c.args.stream _ _ _ c.args.end (Ok c.in-Ok.field-0) c.in-Ok.ensures.made refl

pub returns-then-is_worn-clause-cut : goal.returns-then-is_worn-clause-cut
returns-then-is_worn-clause-cut g c =
    was_worn _ c.args.stream _ _ _ c.args.end (Err c.in-Err.fault) c.in-Err.ensures.made c.in-Err.ensures.worn (sym c.is_worn.ensures ∙ c.if-is_worn.true)

pub returns-else-is_worn-clause-cut : goal.returns-else-is_worn-clause-cut
returns-else-is_worn-clause-cut g c =
    was_cut _ c.args.stream _ _ _ c.args.end (Err c.in-Err.fault) c.in-Err.ensures.made (sym c.is_worn.ensures ∙ c.if-is_worn.false)
