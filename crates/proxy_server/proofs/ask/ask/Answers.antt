-- Each kind of an Ask.
use Rattle.std.proofs.Common.{Err, inl, sym, ◌∙◌}
use Rattle.core_model.specs.declared.event.Outcome.TheVariants.{Replied, Waiting}
use Rattle.server_model.specs.declared.progress.Stop.TheVariants as stop
use Rattle.server_model.proofs.Asks.{made_as, stopped_as, replied_at_once, reply_unsaid, waits_whole, waits_unsaid, gave_up, ticket_in_use, not_asked}
use Rattle.server_model.proofs.Numbers.{asked_ok, asked_quiet, not_one, used_one}
use Rattle.proxy_server.proofs.Kept.{asks_unwritten}
use Rattle.proxy_server.proofs.ask.ask.Goals as goal

pub returns-in-Ok-clause-asks : goal.returns-in-Ok-clause-asks
returns-in-Ok-clause-asks g c =
    replied_at_once c.args.form g.T.Turn.rests c.args.ticket c.args.word _ c.args.request _ _ _ _ c.in-Ok-Replied.answer (made_as _ _ _ _ _ (Replied c.in-Ok-Replied.answer) c.in-Ok-Replied.field-0-is c.in-Ok-Replied.ensures.made) c.in-Ok.ensures.written

pub returns-in-Ok-clause-one : goal.returns-in-Ok-clause-one
returns-in-Ok-clause-one g c = asked_ok _ _ c.args.ticket c.args.word _ c.args.request _ c.in-Ok-Replied.ensures.made

pub returns-in-Ok-Replied-clause-asks : goal.returns-in-Ok-Replied-clause-asks
returns-in-Ok-Replied-clause-asks g c =
    reply_unsaid c.args.form g.T.Turn.rests _ c.args.ticket c.args.word _ c.args.request _ _ _ _ c.in-Ok-Replied.answer c.end_by.result (made_as _ _ _ _ _ (Replied c.in-Ok-Replied.answer) c.in-Ok-Replied.field-0-is c.in-Ok-Replied.ensures.made) (c.end_by.ensures.untold c.in-Err-tell.ensures.fault) c.in-Err-tell.ensures.written

pub returns-in-Ok-follow-clause-asks : goal.returns-in-Ok-follow-clause-asks
returns-in-Ok-follow-clause-asks g c =
    waits_whole c.args.form g.T.Turn.rests c.args.ticket c.args.word _ c.args.request _ _ _ _ _ (made_as _ _ _ _ _ Waiting c.in-Ok-Waiting.field-0-is c.in-Ok-Waiting.ensures.made) c.in-Ok-follow.ensures.follows

pub returns-in-Ok-follow-clause-one : goal.returns-in-Ok-follow-clause-one
returns-in-Ok-follow-clause-one g c = asked_quiet _ _ _ c.args.ticket c.args.word (asked_ok _ _ c.args.ticket c.args.word _ c.args.request _ c.in-Ok-Waiting.ensures.made) c.in-Ok-follow.ensures.quiet

pub returns-in-Err-Unanswered-clause-asks : goal.returns-in-Err-Unanswered-clause-asks
returns-in-Err-Unanswered-clause-asks g c =
    asks_unwritten g.K.Sink.written c.args.form g.T.Turn.rests _ c.args.request _ _ _ _ _ (Err c.leave.result) c.leave.ensures.elsewhere.1
    (gave_up c.args.form g.T.Turn.rests _ _ c.args.ticket c.args.word _ c.args.request _ _ _ _ _ _ c.in-Err-Unanswered.end c.leave.result c.leave.ensures.late (made_as _ _ _ _ _ Waiting c.in-Ok-Waiting.field-0-is c.in-Ok-Waiting.ensures.made)
    (stopped_as c.args.form g.T.Turn.rests _ c.args.ticket _ _ _ _ _ (stop.Unanswered c.in-Err-Unanswered.end) c.in-Err-Unanswered.field-0-is c.in-Err-Unanswered.ensures.follows) c.leave.ensures.left)

pub returns-in-Err-Unanswered-clause-one : goal.returns-in-Err-Unanswered-clause-one
returns-in-Err-Unanswered-clause-one g c =
    inl (asked_quiet _ _ _ c.args.ticket c.args.word (asked_quiet _ _ _ c.args.ticket c.args.word (asked_ok _ _ c.args.ticket c.args.word _ c.args.request _ c.in-Ok-Waiting.ensures.made) c.in-Err-Unanswered.ensures.quiet) c.leave.ensures.quiet)

pub returns-in-Ok-Waiting-clause-asks : goal.returns-in-Ok-Waiting-clause-asks
returns-in-Ok-Waiting-clause-asks g c =
    waits_unsaid c.args.form g.T.Turn.rests _ c.args.ticket c.args.word _ c.args.request _ _ _ _ _ c.in-Err-Answered.end (made_as _ _ _ _ _ Waiting c.in-Ok-Waiting.field-0-is c.in-Ok-Waiting.ensures.made)
    (stopped_as c.args.form g.T.Turn.rests _ c.args.ticket _ _ _ _ _ (stop.Answered c.in-Err-Answered.end) c.in-Err-Answered.field-0-is c.in-Err-Answered.ensures.follows)

pub returns-in-Ok-Waiting-clause-one : goal.returns-in-Ok-Waiting-clause-one
returns-in-Ok-Waiting-clause-one g c =
    inl (asked_quiet _ _ _ c.args.ticket c.args.word (asked_ok _ _ c.args.ticket c.args.word _ c.args.request _ c.in-Ok-Waiting.ensures.made) c.in-Err-Answered.ensures.quiet)

pub returns-then-is_in_use-clause-asks : goal.returns-then-is_in_use-clause-asks
returns-then-is_in_use-clause-asks g c =
    ticket_in_use c.args.form g.T.Turn.rests c.args.ticket c.args.word _ c.args.request _ _ _ c.in-Err.fault (sym c.is_in_use.ensures ∙ c.if-is_in_use.true) c.in-Err.ensures.made c.in-Err.ensures.fits

pub returns-then-is_in_use-clause-one : goal.returns-then-is_in_use-clause-one
returns-then-is_in_use-clause-one g c =
    used_one _ _ c.args.ticket c.args.word _ c.args.request c.in-Err.fault (sym c.is_in_use.ensures ∙ c.if-is_in_use.true) c.in-Err.ensures.made

pub returns-clause-asks : goal.returns-clause-asks
returns-clause-asks g c =
    not_asked c.args.form g.T.Turn.rests _ c.args.ticket c.args.word _ c.args.request _ _ _ c.in-Err.fault c.end_of.result c.end_of.ensures.is (sym c.is_in_use.ensures ∙ c.if-is_in_use.false) c.in-Err.ensures.worn c.in-Err.ensures.made c.in-Err.ensures.fits

pub returns-clause-one : goal.returns-clause-one
returns-clause-one g c = not_one _ _ c.args.ticket c.args.word _ c.args.request c.in-Err.fault c.end_of.result c.end_of.ensures.is c.in-Err.ensures.made
