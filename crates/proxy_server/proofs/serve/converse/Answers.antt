-- The exchanges, one after the other.
use Rattle.std.proofs.Common.{None, Some, refl, ◌∙◌, arith, inr}
use Rattle.server_model.specs.declared.ends.SessionEnd.TheVariants.{NoMemory}
use Rattle.server_model.proofs.Numbers.{none_last, has_tickets, numbered_none, numbered_more, numbered_end}
use Rattle.server_model.proofs.Serves.{at_start, goes_on, ends, no_wire, turned_as}
use Rattle.server_model.proofs.Complete.{completes}
use Rattle.proxy_server.proofs.Causes.{rose_before}
use Rattle.proxy_server.proofs.Kept.{same_itself}
use Rattle.proxy_server.proofs.serve.converse.Goals as goal

pub returns-in_default-clause-numbered : goal.returns-in_default-clause-numbered
returns-in_default-clause-numbered g c = none_last NoMemory _ _ _ _ (has_tickets NoMemory _ _ tt)

pub returns-in_default-clause-dialog : goal.returns-in_default-clause-dialog
returns-in_default-clause-dialog g c = no_wire c.args.form (g.A.Answers.gives (g.A.Answers.known c.args.answers.now)) g.T.Turn.rests _ _ _ _

pub requests-init : goal.requests-init
requests-init g c = record {
  sound = c.in-Ok.ensures.fault;
  home = refl;
  same = same_itself _;
  known = refl;
  allowed = λ a. a;
  limit = refl;
  reads = omega arith;
  writes = omega arith;
  numbered = numbered_none _ _ _ _;
  has = at_start c.args.form (g.A.Answers.gives (g.A.Answers.known c.args.answers.now)) g.T.Turn.rests (g.S.Source.left c.args.talk.now.source.now) c.in-Ok.wire _ _ c.in-Ok.ensures.held;
}

pub requests-preserved : goal.requests-preserved
requests-preserved g c = record {
  sound = c.in-None-exchange.ensures.sound;
  home = c.in-None-exchange.ensures.kept.home ∙ c.requests.invariant.home;
  same = record {
    turn = c.in-None-exchange.ensures.kept.same.turn ∙ c.requests.invariant.same.turn;
    clock = c.in-None-exchange.ensures.kept.same.clock ∙ c.requests.invariant.same.clock;
    source = c.in-None-exchange.ensures.kept.same.source ∙ c.requests.invariant.same.source;
    sink = c.in-None-exchange.ensures.kept.same.sink ∙ c.requests.invariant.same.sink;
    draw = c.in-None-exchange.ensures.kept.same.draw ∙ c.requests.invariant.same.draw;
  };
  allowed = λ a. c.in-None-exchange.ensures.kept.allowed (c.requests.invariant.allowed a);
  known = c.in-None-exchange.ensures.known ∙ c.requests.invariant.known;
  limit = c.in-None-exchange.ensures.kept.limit ∙ c.requests.invariant.limit;
  reads = omega arith;
  writes = omega arith;
  numbered = numbered_more _ _ _ _ _ _ _ _ _ _ _ c.requests.invariant.limit c.requests.invariant.numbered c.in-None-exchange.ensures.numbered;
  has = goes_on c.args.form (g.A.Answers.gives (g.A.Answers.known c.args.answers.now)) g.T.Turn.rests _ _ _ _ _ _ _ _ _ c.requests.invariant.has
      (turned_as c.args.form g.A.Answers.gives g.T.Turn.rests (Unit {0}) _ _ _ _ _ _ None _ _ c.requests.invariant.known c.in-None-exchange.ensures.turned);
}

pub returns-in-Some-exchange-clause-numbered : goal.returns-in-Some-exchange-clause-numbered
returns-in-Some-exchange-clause-numbered g c =
    numbered_end c.in-Some-exchange.end _ _ _ _ _ _ _ _ _ _ c.requests.invariant.limit c.requests.invariant.numbered c.in-Some-exchange.ensures.numbered

pub returns-in-Some-exchange-clause-dialog : goal.returns-in-Some-exchange-clause-dialog
returns-in-Some-exchange-clause-dialog g c =
    ends c.args.form (g.A.Answers.gives (g.A.Answers.known c.args.answers.now)) g.T.Turn.rests _ _ _ _ _ _ _ _ _ c.in-Some-exchange.end c.requests.invariant.has
    (turned_as c.args.form g.A.Answers.gives g.T.Turn.rests _ _ None _ _ _ _ (Some c.in-Some-exchange.end) _ _ c.requests.invariant.known c.in-Some-exchange.ensures.turned)

pub returns-in_default-clause-complete : goal.returns-in_default-clause-complete
returns-in_default-clause-complete g c h = inr refl

pub returns-in-Some-exchange-clause-complete : goal.returns-in-Some-exchange-clause-complete
returns-in-Some-exchange-clause-complete g c =
    completes c.args.form (g.A.Answers.gives (g.A.Answers.known c.args.answers.now)) g.T.Turn.rests _ _ _ _ _ _ _ _ c.in-Some-exchange.end _ _ _ _ _ _
    (ends c.args.form (g.A.Answers.gives (g.A.Answers.known c.args.answers.now)) g.T.Turn.rests _ _ _ _ _ _ _ _ _ c.in-Some-exchange.end c.requests.invariant.has
    (turned_as c.args.form g.A.Answers.gives g.T.Turn.rests _ _ None _ _ _ _ (Some c.in-Some-exchange.end) _ _ c.requests.invariant.known c.in-Some-exchange.ensures.turned))
    (numbered_end c.in-Some-exchange.end _ _ _ _ _ _ _ _ _ _ c.requests.invariant.limit c.requests.invariant.numbered c.in-Some-exchange.ensures.numbered)
    (λ e. rose_before _ _ _ c.requests.invariant.reads (c.in-Some-exchange.ensures.causes.read_cause e))
    (λ e. rose_before _ _ _ c.requests.invariant.writes (c.in-Some-exchange.ensures.causes.write_cause e))
