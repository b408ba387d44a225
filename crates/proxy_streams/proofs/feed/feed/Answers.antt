-- A message was fed, or couldn't be.
use Rattle.std.proofs.Common.{sym, ◌∙◌}
use Rattle.server_model.proofs.Follows.{was_fed, cut_for_memory, refused_as}
use Rattle.proxy_streams.proofs.feed.feed.Goals as goal

pub returns-in-Ok-clause-feeds : goal.returns-in-Ok-clause-feeds
returns-in-Ok-clause-feeds g c = was_fed c.args.stream _ c.args.item _ _ c.in-Ok.field-0 c.in-Ok.ensures.fits c.in-Ok.ensures.made

pub returns-then-is_for_memory-clause-feeds : goal.returns-then-is_for_memory-clause-feeds
returns-then-is_for_memory-clause-feeds g c =
    cut_for_memory _ c.args.stream _ c.args.item _ _ _ c.in-Err.fault c.cut.result (sym c.is_for_memory.ensures ∙ c.if-is_for_memory.true) c.in-Err.ensures.made c.cut.ensures.cut

pub returns-else-is_for_memory-clause-feeds : goal.returns-else-is_for_memory-clause-feeds
returns-else-is_for_memory-clause-feeds g c =
    refused_as _ c.args.stream _ c.args.item _ _ c.in-Err.fault c.end_of.result c.end_of.ensures (sym c.is_for_memory.ensures ∙ c.if-is_for_memory.false) c.in-Err.ensures.fits
    c.in-Err.ensures.worn c.in-Err.ensures.made
