-- Each end of the takes, and each take behind which more is to come.
use Rattle.std.proofs.Common.{[], refl, ◌∙◌, arith}
use Rattle.server_model.specs.declared.progress.Taken.TheVariants as taken
use Rattle.server_model.proofs.Asks.{taken_as, nothing_yet, nothing_taken, part_taken, last_taken, stopped_then, rest_failed, client_went}
use Rattle.server_model.proofs.Numbers.{asked_none, asked_then, quiet_rest}
use Rattle.server_model.proofs.Exchanges.{keeps_then}
use Rattle.http_talk.proofs.Said.{keeps_itself}
use Rattle.proxy_server.proofs.Kept.{keeps_unread, same_itself}
use Rattle.proxy_server.proofs.follow.follow.Goals as goal

pub takes-init : goal.takes-init
takes-init g c = record {
  home = refl;
  same = same_itself _;
  unnumbered = (refl, refl);
  reads = omega arith;
  writes = omega arith;
  ahead = keeps_itself _;
  quiet = asked_none _;
  allowed = λ a. a;
  partly = nothing_yet c.args.form g.T.Turn.rests c.args.ticket _ _;
}

pub returns-in-Err-clause-follows : goal.returns-in-Err-clause-follows
returns-in-Err-clause-follows g c =
    rest_failed c.args.form g.T.Turn.rests _ c.args.ticket c.takes.begun _ _ _ _ _ c.in-Err.fault c.end_of.result c.end_of.ensures.is c.takes.invariant.partly c.rest.ensures.made c.in-Err.ensures.fault c.in-Err.ensures.worn

pub returns-in-Err-clause-quiet : goal.returns-in-Err-clause-quiet
returns-in-Err-clause-quiet g c = quiet_rest g.T.Turn.rests _ _ _ c.takes.invariant.quiet c.rest.ensures.made

pub returns-in-Err-check-clause-follows : goal.returns-in-Err-check-clause-follows
returns-in-Err-check-clause-follows g c =
    client_went c.args.form g.T.Turn.rests _ c.args.ticket c.takes.begun _ _ _ _
    (nothing_taken c.args.form g.T.Turn.rests c.args.ticket c.takes.begun _ _ _ _ _ _ _ c.takes.invariant.partly c.rest.ensures.made
    (taken_as c.args.form g.T.Turn.rests c.args.ticket c.takes.begun _ _ _ _ _ taken.Nothing c.in-Ok-Nothing.field-0-is c.in-Ok-Nothing.ensures.takes))

pub returns-in-Err-check-clause-quiet : goal.returns-in-Err-check-clause-quiet
returns-in-Err-check-clause-quiet g c = asked_then _ _ _ [] [] (quiet_rest g.T.Turn.rests _ _ _ c.takes.invariant.quiet c.rest.ensures.made) c.in-Ok-Nothing.ensures.quiet

pub returns-in-Ok-Last-clause-follows : goal.returns-in-Ok-Last-clause-follows
returns-in-Ok-Last-clause-follows g c =
    last_taken c.args.form g.T.Turn.rests c.args.ticket c.takes.begun _ _ _ _ _ _ _ c.takes.invariant.partly c.rest.ensures.made
    (taken_as c.args.form g.T.Turn.rests c.args.ticket c.takes.begun _ _ _ _ _ taken.Last c.in-Ok-Last.field-0-is c.in-Ok-Last.ensures.takes)

pub returns-in-Ok-Last-clause-quiet : goal.returns-in-Ok-Last-clause-quiet
returns-in-Ok-Last-clause-quiet g c = asked_then _ _ _ [] [] (quiet_rest g.T.Turn.rests _ _ _ c.takes.invariant.quiet c.rest.ensures.made) c.in-Ok-Last.ensures.quiet

pub returns-in-Err-take-clause-follows : goal.returns-in-Err-take-clause-follows
returns-in-Err-take-clause-follows g c =
    stopped_then c.args.form g.T.Turn.rests _ c.args.ticket c.takes.begun _ _ _ _ _ _ _ c.in-Err-take.why c.takes.invariant.partly c.rest.ensures.made c.in-Err-take.ensures.takes

pub returns-in-Err-take-clause-quiet : goal.returns-in-Err-take-clause-quiet
returns-in-Err-take-clause-quiet g c = asked_then _ _ _ [] [] (quiet_rest g.T.Turn.rests _ _ _ c.takes.invariant.quiet c.rest.ensures.made) c.in-Err-take.ensures.quiet

pub takes-preserved-in-Ok-check : goal.takes-preserved-in-Ok-check
takes-preserved-in-Ok-check g c = record {
  home = c.in-Ok-Nothing.ensures.kept.home ∙ c.rest.ensures.home ∙ c.takes.invariant.home;
  same = record {
    turn = c.in-Ok-Nothing.ensures.kept.same.turn ∙ c.takes.invariant.same.turn;
    clock = c.in-Ok-Nothing.ensures.kept.same.clock ∙ c.takes.invariant.same.clock;
    source = c.in-Ok-Nothing.ensures.kept.same.source ∙ c.takes.invariant.same.source;
    sink = c.in-Ok-Nothing.ensures.kept.same.sink ∙ c.takes.invariant.same.sink;
    draw = c.in-Ok-Nothing.ensures.kept.same.draw ∙ c.takes.invariant.same.draw;
  };
  unnumbered = (c.in-Ok-Nothing.ensures.unnumbered.0 ∙ c.takes.invariant.unnumbered.0, c.in-Ok-Nothing.ensures.unnumbered.1 ∙ c.takes.invariant.unnumbered.1);
  reads = omega arith;
  writes = omega arith;
  ahead = keeps_then _ _ _ (keeps_unread g.S.Source.left _ _ _ c.in-Ok-Nothing.ensures.unread c.takes.invariant.ahead) c.check.ensures.bytes;
  quiet = asked_then _ _ _ [] [] (quiet_rest g.T.Turn.rests _ _ _ c.takes.invariant.quiet c.rest.ensures.made) c.in-Ok-Nothing.ensures.quiet;
  allowed = λ a. c.in-Ok-Nothing.ensures.kept.allowed (c.rest.ensures.allowed (c.takes.invariant.allowed a));
  partly = nothing_taken c.args.form g.T.Turn.rests c.args.ticket c.takes.begun _ _ _ _ _ _ _ c.takes.invariant.partly c.rest.ensures.made
      (taken_as c.args.form g.T.Turn.rests c.args.ticket c.takes.begun _ _ _ _ _ taken.Nothing c.in-Ok-Nothing.field-0-is c.in-Ok-Nothing.ensures.takes);
}

pub takes-preserved : goal.takes-preserved
takes-preserved g c = record {
  home = c.in-Ok-Part.ensures.kept.home ∙ c.rest.ensures.home ∙ c.takes.invariant.home;
  same = record {
    turn = c.in-Ok-Part.ensures.kept.same.turn ∙ c.takes.invariant.same.turn;
    clock = c.in-Ok-Part.ensures.kept.same.clock ∙ c.takes.invariant.same.clock;
    source = c.in-Ok-Part.ensures.kept.same.source ∙ c.takes.invariant.same.source;
    sink = c.in-Ok-Part.ensures.kept.same.sink ∙ c.takes.invariant.same.sink;
    draw = c.in-Ok-Part.ensures.kept.same.draw ∙ c.takes.invariant.same.draw;
  };
  unnumbered = (c.in-Ok-Part.ensures.unnumbered.0 ∙ c.takes.invariant.unnumbered.0, c.in-Ok-Part.ensures.unnumbered.1 ∙ c.takes.invariant.unnumbered.1);
  reads = omega arith;
  writes = omega arith;
  ahead = keeps_unread g.S.Source.left _ _ _ c.in-Ok-Part.ensures.unread c.takes.invariant.ahead;
  quiet = asked_then _ _ _ [] [] (quiet_rest g.T.Turn.rests _ _ _ c.takes.invariant.quiet c.rest.ensures.made) c.in-Ok-Part.ensures.quiet;
  allowed = λ a. c.in-Ok-Part.ensures.kept.allowed (c.rest.ensures.allowed (c.takes.invariant.allowed a));
  partly = part_taken c.args.form g.T.Turn.rests c.args.ticket c.takes.begun _ _ _ _ _ _ _ c.takes.invariant.partly c.rest.ensures.made
      (taken_as c.args.form g.T.Turn.rests c.args.ticket c.takes.begun _ _ _ _ _ taken.Part c.in-Ok-Part.field-0-is c.in-Ok-Part.ensures.takes);
}
