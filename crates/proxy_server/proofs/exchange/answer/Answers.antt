-- Each try, and each end of the tries.
use Rattle.std.proofs.Common.{refl, ◌∙◌, sym, arith, Ok, None, Some}
use Rattle.server_model.specs.declared.ends.SessionEnd.TheVariants.{NoMemory}
use Rattle.server_model.specs.declared.progress.Attempt.TheVariants as attempt
use Rattle.http_talk.specs.Requests.{asked_of}
use Rattle.json_model.specs.declared.extra.Reading.TheVariants.{Client}
use Rattle.server_model.proofs.Exchanges.{none_tried, tried_as, one_more_try, was_told, not_told, was_direct, not_direct, directly_as, not_decoded, keeps_then}
use Rattle.server_model.proofs.Asks.{asked_as}
use Rattle.server_model.proofs.Numbers.{numbered_none, numbered_more, numbered_end, all_numbered}
use Rattle.http_talk.proofs.Said.{keeps_itself}
use Rattle.proxy_server.proofs.Causes.{rose_before}
use Rattle.proxy_server.proofs.Kept.{same_itself}
use Rattle.proxy_server.proofs.exchange.answer.Goals as goal

pub tries-init : goal.tries-init
tries-init g c = record {
  home = refl;
  same = same_itself _;
  known = refl;
  allowed = λ a. a;
  limit = refl;
  reads = omega arith;
  writes = omega arith;
  ahead = keeps_itself _;
  numbered = numbered_none _ _ _ _;
  tried = none_tried g.T.Turn.rests (asked_of Client c.args.received.now.head c.args.received.now.body) _ _;
}

pub tries-preserved : goal.tries-preserved
tries-preserved g c =
    let wanted = asked_of Client c.args.received.now.head c.args.received.now.body in
    let is = sym c.in-Ok-Ok.field-0-is ∙ c.in-Ok-Ok.ensures in
    record {
      home = c.in-Ok-InUse.ensures.kept.home ∙ c.tries.invariant.home;
      same = record {
        turn = c.in-Ok-InUse.ensures.kept.same.turn ∙ c.tries.invariant.same.turn;
        clock = c.in-Ok-InUse.ensures.kept.same.clock ∙ c.tries.invariant.same.clock;
        source = c.in-Ok-InUse.ensures.kept.same.source ∙ c.tries.invariant.same.source;
        sink = c.in-Ok-InUse.ensures.kept.same.sink ∙ c.tries.invariant.same.sink;
        draw = c.in-Ok-InUse.ensures.kept.same.draw ∙ c.tries.invariant.same.draw;
      };
      allowed = λ a. c.in-Ok-InUse.ensures.kept.allowed (c.tries.invariant.allowed a);
      known = c.tries.invariant.known;
      limit = c.in-Ok-InUse.ensures.kept.limit ∙ c.tries.invariant.limit;
      reads = omega arith;
      writes = omega arith;
      ahead = keeps_then _ _ _ c.tries.invariant.ahead c.in-Ok-InUse.ensures.ahead;
      numbered = numbered_more _ _ _ _ _ _ _ _ _ _ _ c.tries.invariant.limit c.tries.invariant.numbered c.in-Ok-InUse.ensures.numbered;
      tried = tried_as g.T.Turn.rests (Ok c.in-Ok-Ok.request) wanted _ _ _ _ is
          (one_more_try c.args.form g.T.Turn.rests c.in-Ok-Ok.request _ _ _ _ _ _ (tried_as g.T.Turn.rests wanted (Ok c.in-Ok-Ok.request) _ _ _ _ (sym is) c.tries.invariant.tried)
          (asked_as c.args.form g.T.Turn.rests c.in-Ok-Ok.request _ _ _ _ _ attempt.InUse c.in-Ok-InUse.field-0-is c.in-Ok-InUse.ensures.asks));
    }

pub returns-in-Ok-Whole-clause-replies : goal.returns-in-Ok-Whole-clause-replies
returns-in-Ok-Whole-clause-replies g c =
    was_told c.args.form g.T.Turn.rests _ (g.A.Answers.gives (g.A.Answers.known c.args.answers.now) c.args.received.now.head c.args.received.now.body) c.args.received.now.head.method (asked_of Client c.args.received.now.head c.args.received.now.body) c.in-Ok-Ok.request _ _ _ _ _ _ (sym c.in-Ok-Ok.ensures ∙ c.in-Ok-Ok.field-0-is) c.tries.invariant.tried
    (asked_as c.args.form g.T.Turn.rests c.in-Ok-Ok.request _ _ _ _ _ attempt.Whole c.in-Ok-Whole.field-0-is c.in-Ok-Whole.ensures.asks)

pub returns-in-Ok-Whole-clause-numbered : goal.returns-in-Ok-Whole-clause-numbered
returns-in-Ok-Whole-clause-numbered g c =
    numbered_more _ _ _ _ _ _ _ _ _ _ _ c.tries.invariant.limit c.tries.invariant.numbered c.in-Ok-Whole.ensures.numbered

pub returns-in-Ok-Whole-clause-ahead : goal.returns-in-Ok-Whole-clause-ahead
returns-in-Ok-Whole-clause-ahead g c = keeps_then _ _ _ c.tries.invariant.ahead c.in-Ok-Whole.ensures.ahead

pub returns-in-Err-respond-clause-replies : goal.returns-in-Err-respond-clause-replies
returns-in-Err-respond-clause-replies g c =
    not_told c.args.form g.T.Turn.rests _ (g.A.Answers.gives (g.A.Answers.known c.args.answers.now) c.args.received.now.head c.args.received.now.body) c.args.received.now.head.method (asked_of Client c.args.received.now.head c.args.received.now.body) c.in-Ok-Ok.request _ _ _ _ _ _ c.in-Err-respond.end (sym c.in-Ok-Ok.ensures ∙ c.in-Ok-Ok.field-0-is)
    c.tries.invariant.tried c.in-Err-respond.ensures.asks

pub returns-in-Err-respond-clause-numbered : goal.returns-in-Err-respond-clause-numbered
returns-in-Err-respond-clause-numbered g c =
    numbered_end c.in-Err-respond.end _ _ _ _ _ _ _ _ _ _ c.tries.invariant.limit c.tries.invariant.numbered c.in-Err-respond.ensures.numbered

pub returns-in-Err-respond-clause-ahead : goal.returns-in-Err-respond-clause-ahead
returns-in-Err-respond-clause-ahead g c = keeps_then _ _ _ c.tries.invariant.ahead c.in-Err-respond.ensures.ahead

pub returns-in-None-clause-replies : goal.returns-in-None-clause-replies
returns-in-None-clause-replies g c =
    was_direct c.args.form g.T.Turn.rests _ (g.A.Answers.gives (g.A.Answers.known c.args.answers.now) c.args.received.now.head c.args.received.now.body) c.args.received.now.head.method (asked_of Client c.args.received.now.head c.args.received.now.body) c.in-Ok-Err.refused _ _ _ _ _ (sym c.in-Ok-Err.ensures ∙ c.in-Ok-Err.field-0-is) c.tries.invariant.tried
    (directly_as c.args.form (λ k. g.A.Answers.gives k c.args.received.now.head c.args.received.now.body) c.args.received.now.head.method c.in-Ok-Err.refused _ _ None _ _ c.tries.invariant.known c.in-None.ensures.directly)

pub returns-in-Some-clause-replies : goal.returns-in-Some-clause-replies
returns-in-Some-clause-replies g c =
    not_direct c.args.form g.T.Turn.rests _ (g.A.Answers.gives (g.A.Answers.known c.args.answers.now) c.args.received.now.head c.args.received.now.body) c.args.received.now.head.method (asked_of Client c.args.received.now.head c.args.received.now.body) c.in-Ok-Err.refused _ _ _ _ _ c.in-Some.end (sym c.in-Ok-Err.ensures ∙ c.in-Ok-Err.field-0-is) c.tries.invariant.tried
    (directly_as c.args.form (λ k. g.A.Answers.gives k c.args.received.now.head c.args.received.now.body) c.args.received.now.head.method c.in-Ok-Err.refused _ _ (Some c.in-Some.end) _ _ c.tries.invariant.known c.in-Some.ensures.directly)

pub returns-in-Some-clause-causes : goal.returns-in-Some-clause-causes
returns-in-Some-clause-causes g c = record {
  read_cause = λ e. absurd (c.in-Some.ensures.reading e);
  write_cause = λ e. rose_before _ _ _ c.tries.invariant.writes (c.in-Some.ensures.cause e);
}

pub returns-in-Some-clause-numbered : goal.returns-in-Some-clause-numbered
returns-in-Some-clause-numbered g c = all_numbered c.in-Some.end _ _ _ _ _ _ _ c.in-Some.ensures.other c.tries.invariant.numbered

pub returns-in-Err-clause-replies : goal.returns-in-Err-clause-replies
returns-in-Err-clause-replies g c = not_decoded c.args.form g.T.Turn.rests _ (g.A.Answers.gives (g.A.Answers.known c.args.answers.now) c.args.received.now.head c.args.received.now.body) c.args.received.now.head.method (asked_of Client c.args.received.now.head c.args.received.now.body) _ _ _ _ c.tries.invariant.tried

pub returns-in-Err-clause-numbered : goal.returns-in-Err-clause-numbered
returns-in-Err-clause-numbered g c = all_numbered NoMemory _ _ _ _ _ _ _ tt c.tries.invariant.numbered
