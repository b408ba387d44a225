-- All requests that were read so far were answered whole.
use Rattle.std.proofs.Common.{None, ◌≡◌, ◌≤◌}
use Rattle.http_wire.specs.Connections.{bytes_ahead}
use Rattle.server_model.specs.Dialog.{Has}
use Rattle.server_model.specs.Numbers.{Numbered}
use Rattle.proxy_server.specs.Kept.{IsSame}
use Rattle.proxy_server.proofs.serve.converse.Given as goal

abbrev pub invariant-requests : goal.invariant-requests
invariant-requests g l = record {
  sound : l.wire.fault ≡ None;
  reads : g.S.Source.faults l.fn.talk.source.now ≤ g.S.Source.faults l.talk.source.now;
  writes : g.K.Sink.faults l.fn.talk.sink.now ≤ g.K.Sink.faults l.talk.sink.now;
  home : g.T.Turn.home l.talk.turn.now ≡ g.T.Turn.home l.fn.talk.turn.now;
  allowed : g.T.Turn.allowed l.fn.talk.turn.now → g.T.Turn.allowed l.talk.turn.now;
  known : g.A.Answers.known l.answers ≡ g.A.Answers.known l.fn.answers;
  limit : l.talk.tickets.end ≡ l.fn.talk.tickets.end;
  numbered : Numbered l.fn.talk.tickets.end l.fn.talk.tickets.next l.talk.tickets.next (g.D.Draw.given l.fn.talk.draw.now) (g.D.Draw.given l.talk.draw.now) (g.T.Turn.made l.fn.talk.turn.now) (g.T.Turn.made l.talk.turn.now);
  has : Has l.form (g.A.Answers.gives (g.A.Answers.known l.fn.answers)) g.T.Turn.rests (g.S.Source.left l.fn.talk.source.now) (bytes_ahead (g.S.Source.left l.talk.source.now) l.wire) (g.T.Turn.made l.fn.talk.turn.now) (g.T.Turn.made l.talk.turn.now) (g.K.Sink.written l.fn.talk.sink.now) (g.K.Sink.written l.talk.sink.now);
  same : IsSame l.fn.talk l.talk;
}
