-- The request was asked with tickets that were in use, or wasn't asked.
use Rattle.std.proofs.Common.{◌≡◌, ◌≤◌, ◌-◌}
use Rattle.std.specs.Io.KnownBytes.{Keeps}
use Rattle.http_talk.specs.Requests.{asked_of}
use Rattle.json_model.specs.declared.extra.Reading.TheVariants.{Client}
use Rattle.server_model.specs.Numbers.{Numbered}
use Rattle.server_model.specs.Exchanges.{Tried}
use Rattle.proxy_server.specs.Kept.{IsSame}
use Rattle.proxy_server.proofs.exchange.answer.Given as goal

abbrev pub invariant-tries : goal.invariant-tries
invariant-tries g l = record {
  home : g.T.Turn.home l.talk.turn.now ≡ g.T.Turn.home l.fn.talk.turn.now;
  allowed : g.T.Turn.allowed l.fn.talk.turn.now → g.T.Turn.allowed l.talk.turn.now;
  known : g.A.Answers.known l.answers ≡ g.A.Answers.known l.fn.answers;
  limit : l.talk.tickets.end ≡ l.fn.talk.tickets.end;
  reads : g.S.Source.faults l.fn.talk.source.now ≤ g.S.Source.faults l.talk.source.now;
  writes : g.K.Sink.faults l.fn.talk.sink.now ≤ g.K.Sink.faults l.talk.sink.now;
  ahead : Keeps (g.S.Source.left l.fn.talk.source.now) (g.S.Source.left l.talk.source.now);
  numbered : Numbered l.fn.talk.tickets.end l.fn.talk.tickets.next l.talk.tickets.next (g.D.Draw.given l.fn.talk.draw.now) (g.D.Draw.given l.talk.draw.now) (g.T.Turn.made l.fn.talk.turn.now) (g.T.Turn.made l.talk.turn.now);
  tried : Tried g.T.Turn.rests (asked_of Client l.received.head l.received.body) (g.T.Turn.made l.fn.talk.turn.now) (g.T.Turn.made l.talk.turn.now) (g.K.Sink.written l.fn.talk.sink.now) (g.K.Sink.written l.talk.sink.now);
  same : IsSame l.fn.talk l.talk;
}

abbrev pub decreases-tries : goal.decreases-tries
decreases-tries g l = l.talk.tickets.end - l.talk.tickets.next
