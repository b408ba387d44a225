-- All messages that came so far were fed.
use Rattle.std.proofs.Common.{None, IsTrue, ◌≡◌, ◌≤◌}
use Rattle.http_wire.specs.Connections.{bytes_ahead}
use Rattle.server_model.specs.Following.{Fed}
use Rattle.proxy_streams.proofs.follow.follow_on.Given as goal

abbrev pub invariant-messages : goal.invariant-messages
invariant-messages g l = record {
  sound : l.wire.fault ≡ None;
  reads : g.S.Source.faults l.fn.source ≤ g.S.Source.faults l.source;
  home : g.T.Turn.home l.turn ≡ g.T.Turn.home l.fn.turn;
  late : IsTrue (g.T.Turn.worn l.fn.turn) → IsTrue (g.T.Turn.worn l.turn);
  allowed : g.T.Turn.allowed l.fn.turn → g.T.Turn.allowed l.turn;
  fed : Fed l.most l.stream (g.S.Source.left l.fn.source) (bytes_ahead (g.S.Source.left l.source) l.wire) l.framing (g.T.Turn.made l.fn.turn) (g.T.Turn.made l.turn);
}
