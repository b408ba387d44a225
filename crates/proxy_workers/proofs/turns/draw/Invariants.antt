-- Nothing was due so far.
use Rattle.std.proofs.Common.{◌≡◌, IsTrue}
use Rattle.server_model.specs.Working.{IsIdle}
use Rattle.proxy_workers.proofs.turns.draw.Given as goal

abbrev pub invariant-looks : goal.invariant-looks
invariant-looks g l = record {
  home : g.T.Turn.home l.turn ≡ g.T.Turn.home l.fn.turn;
  late : IsTrue (g.T.Turn.worn l.fn.turn) → IsTrue (g.T.Turn.worn l.turn);
  allowed : g.T.Turn.allowed l.fn.turn → g.T.Turn.allowed l.turn;
  idle : IsIdle g.T.Turn.rests (g.T.Turn.made l.fn.turn) (g.T.Turn.made l.turn);
}
