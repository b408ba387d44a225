-- What the object gave was written, or the refusal where it gave nothing.
use Rattle.std.proofs.Common.{None, Some}
use Rattle.server_model.proofs.Exchanges.{was_given, not_given, was_refused, not_refused, gave}
use Rattle.proxy_server.proofs.direct.answer_directly.Goals as goal

pub returns-in-Ok-clause-directly : goal.returns-in-Ok-clause-directly
returns-in-Ok-clause-directly g c =
    was_given c.args.form (g.A.Answers.gives (g.A.Answers.known c.args.answers.now) c.args.received.now.head c.args.received.now.body) c.args.received.now.head.method c.args.refused.now c.in-Ok-Some.ready _ _ (gave (g.A.Answers.gives (g.A.Answers.known c.args.answers.now) c.args.received.now.head) _ _ _ (Some c.in-Ok-Some.ready) c.as_slice.ensures c.in-Ok-Some.field-0-is c.in-Ok-Some.ensures.gives) c.in-Ok.ensures.written

pub returns-in-Ok-Some-clause-directly : goal.returns-in-Ok-Some-clause-directly
returns-in-Ok-Some-clause-directly g c =
    not_given c.args.form (g.A.Answers.gives (g.A.Answers.known c.args.answers.now) c.args.received.now.head c.args.received.now.body) c.args.received.now.head.method c.args.refused.now c.in-Ok-Some.ready _ _ c.in-Err-write_ready.fault c.end_by.result (gave (g.A.Answers.gives (g.A.Answers.known c.args.answers.now) c.args.received.now.head) _ _ _ (Some c.in-Ok-Some.ready) c.as_slice.ensures c.in-Ok-Some.field-0-is c.in-Ok-Some.ensures.gives)
    (c.end_by.ensures.untold c.in-Err-write_ready.ensures.fault) c.in-Err-write_ready.ensures.written

pub returns-in-Ok-refuse_request-clause-directly : goal.returns-in-Ok-refuse_request-clause-directly
returns-in-Ok-refuse_request-clause-directly g c =
    was_refused c.args.form (g.A.Answers.gives (g.A.Answers.known c.args.answers.now) c.args.received.now.head c.args.received.now.body) c.args.received.now.head.method c.args.refused.now _ _ (gave (g.A.Answers.gives (g.A.Answers.known c.args.answers.now) c.args.received.now.head) _ _ _ None c.as_slice.ensures c.in-Ok-None.field-0-is c.in-Ok-None.ensures.gives) c.in-Ok-refuse_request.ensures.written

pub returns-in-Ok-None-clause-directly : goal.returns-in-Ok-None-clause-directly
returns-in-Ok-None-clause-directly g c =
    not_refused c.args.form (g.A.Answers.gives (g.A.Answers.known c.args.answers.now) c.args.received.now.head c.args.received.now.body) c.args.received.now.head.method c.args.refused.now _ _ c.in-Err-refuse_request.fault c.end_by-in-Err-refuse_request.result (gave (g.A.Answers.gives (g.A.Answers.known c.args.answers.now) c.args.received.now.head) _ _ _ None c.as_slice.ensures c.in-Ok-None.field-0-is c.in-Ok-None.ensures.gives)
    (c.end_by-in-Err-refuse_request.ensures.untold c.in-Err-refuse_request.ensures.fault) c.in-Err-refuse_request.ensures.written
