-- Each tick so far was noted.
use Rattle.std.proofs.Common.{◌≡◌}
use Rattle.server_model.specs.Ticking.{SoFar}
use Rattle.proxy_parts.proofs.ticker.keep_ticking.Given as goal

abbrev pub invariant-ticks : goal.invariant-ticks
invariant-ticks g l = record {
  home : g.T.Turn.home l.turn ≡ g.T.Turn.home l.fn.turn;
  allowed : g.T.Turn.allowed l.fn.turn → g.T.Turn.allowed l.turn;
  ticks : SoFar (g.T.Turn.made l.fn.turn) (g.T.Turn.made l.turn) (g.D.Draw.given l.fn.draw) (g.D.Draw.given l.draw);
}
