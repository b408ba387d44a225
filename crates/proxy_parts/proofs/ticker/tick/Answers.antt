-- The step was made, or no more are made.
use Rattle.server_model.proofs.Ticks.{was_ticked, not_ticked}
use Rattle.proxy_parts.proofs.ticker.tick.Goals as goal

pub returns-in-Ok-clause-ticked : goal.returns-in-Ok-clause-ticked
returns-in-Ok-clause-ticked g c = was_ticked _ c.word-drawn.result _ c.in-Ok.field-0 _ _ _ _ c.word-drawn.ensures c.in-Ok.ensures.made c.in-Ok.ensures.fits

pub returns-clause-ticked : goal.returns-clause-ticked
returns-clause-ticked g c = not_ticked _ c.word-drawn.result _ c.in-Err.fault _ _ _ _ c.word-drawn.ensures c.in-Err.ensures.made c.in-Err.ensures.fits c.in-Err.ensures.worn
