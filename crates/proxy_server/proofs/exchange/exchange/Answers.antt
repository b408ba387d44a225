-- The exchange goes on, closes, or breaks off.
use Rattle.server_model.proofs.Exchanges.{broken_off, exchanged, closed, unasked, bytes_kept, ahead_kept}
use Rattle.http_talk.specs.Requests.{IsRequest}
use Rattle.server_model.specs.declared.ends.SessionEnd.TheVariants.{Closed}
use Rattle.server_model.proofs.Numbers.{none_last, has_tickets, all_numbered}
use Rattle.proxy_server.proofs.exchange.exchange.Goals as goal

pub returns-in-Err-clause-turned : goal.returns-in-Err-clause-turned
returns-in-Err-clause-turned g c = unasked c.args.form (g.A.Answers.gives (g.A.Answers.known c.args.answers.now)) g.T.Turn.rests _ _ _ _ _ c.in-Err.end c.in-Err.ensures.gets

pub returns-in-Some-clause-turned : goal.returns-in-Some-clause-turned
returns-in-Some-clause-turned g c =
    broken_off c.args.form (g.A.Answers.gives (g.A.Answers.known c.args.answers.now)) g.T.Turn.rests _ _ _ _ _ _ _ _ c.in-Ok.received.head c.in-Ok.received.body c.in-Some.end c.in-Ok.ensures.gets.0 c.in-Ok.ensures.gets.1 c.in-Some.ensures.breaking c.in-Some.ensures.replies

pub returns-then-received-clause-turned : goal.returns-then-received-clause-turned
returns-then-received-clause-turned g c =
    closed c.args.form (g.A.Answers.gives (g.A.Answers.known c.args.answers.now)) g.T.Turn.rests _ _ _ _ _ _ _ _ c.in-Ok.received.head c.in-Ok.received.body c.in-Ok.ensures.gets.0 c.in-Ok.ensures.gets.1 c.in-None.ensures.replies c.if-received.true

pub returns-clause-turned : goal.returns-clause-turned
returns-clause-turned g c =
    exchanged c.args.form (g.A.Answers.gives (g.A.Answers.known c.args.answers.now)) g.T.Turn.rests _ _ _ _ _ _ _ _ c.in-Ok.received.head c.in-Ok.received.body
    (ahead_kept (IsRequest c.in-Ok.received.head c.in-Ok.received.body) _ _ _ c.in-Ok.ensures.gets.0 (bytes_kept _ _ c.receive.new.wire c.in-None.ensures.ahead))
    c.in-Ok.ensures.gets.1 c.in-None.ensures.replies c.if-received.false

pub returns-in-Err-clause-numbered : goal.returns-in-Err-clause-numbered
returns-in-Err-clause-numbered g c = none_last c.in-Err.end _ _ _ _ (has_tickets c.in-Err.end _ _ c.in-Err.ensures.other)

pub returns-then-received-clause-numbered : goal.returns-then-received-clause-numbered
returns-then-received-clause-numbered g c = all_numbered Closed _ _ _ _ _ _ _ tt c.in-None.ensures.numbered
