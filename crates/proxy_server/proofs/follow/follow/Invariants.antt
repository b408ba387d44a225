-- More is to come behind each take so far, and all that they say is written.
use Rattle.std.proofs.Common.{[], ◌≡◌, ◌≤◌}
use Rattle.std.specs.Io.KnownBytes.{Keeps}
use Rattle.server_model.specs.Numbers.{Asked}
use Rattle.server_model.specs.Exchanges.{Partly}
use Rattle.proxy_server.specs.Kept.{IsSame, IsUnnumbered}
use Rattle.proxy_server.proofs.follow.follow.Given as goal

abbrev pub invariant-takes : goal.invariant-takes
invariant-takes g l = record {
  home : g.T.Turn.home l.talk.turn.now ≡ g.T.Turn.home l.fn.talk.turn.now;
  reads : g.S.Source.faults l.fn.talk.source.now ≤ g.S.Source.faults l.talk.source.now;
  writes : g.K.Sink.faults l.fn.talk.sink.now ≤ g.K.Sink.faults l.talk.sink.now;
  ahead : Keeps (g.S.Source.left l.fn.talk.source.now) (g.S.Source.left l.talk.source.now);
  quiet : Asked (g.T.Turn.made l.fn.talk.turn.now) (g.T.Turn.made l.talk.turn.now) [];
  allowed : g.T.Turn.allowed l.fn.talk.turn.now → g.T.Turn.allowed l.talk.turn.now;
  partly : Partly l.form g.T.Turn.rests l.ticket l.begun (g.T.Turn.made l.fn.talk.turn.now) (g.T.Turn.made l.talk.turn.now) (g.K.Sink.written l.fn.talk.sink.now) (g.K.Sink.written l.talk.sink.now);
  same : IsSame l.fn.talk l.talk;
  unnumbered : IsUnnumbered l.fn.talk l.talk;
}
