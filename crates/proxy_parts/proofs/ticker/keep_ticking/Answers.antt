-- One tick more, and the last one.
use Rattle.std.proofs.Common.{refl, ◌∙◌}
use Rattle.server_model.proofs.Ticks.{none_ticked, ticked_more, ticked_last}
use Rattle.proxy_parts.proofs.ticker.keep_ticking.Goals as goal

pub ticks-init : goal.ticks-init
ticks-init g c = record { home = refl; allowed = λ a. a; ticks = none_ticked _ _ }

pub ticks-preserved : goal.ticks-preserved
ticks-preserved g c = record {
  home = c.in-Ok.ensures.home ∙ c.ticks.invariant.home;
  allowed = λ a. c.in-Ok.ensures.allowed (c.ticks.invariant.allowed a);
  ticks = ticked_more _ _ _ _ _ _ _ c.ticks.invariant.ticks c.in-Ok.ensures.ticked;
}

pub returns-in-Err-clause-ticking : goal.returns-in-Err-clause-ticking
returns-in-Err-clause-ticking g c = ticked_last _ _ _ _ _ _ _ c.in-Err.field-0 c.ticks.invariant.ticks c.in-Err.ensures.ticked
