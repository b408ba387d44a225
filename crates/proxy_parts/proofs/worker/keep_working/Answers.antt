-- Once more, and the last end.
use Rattle.std.proofs.Common.{refl, ◌∙◌}
use Rattle.server_model.specs.declared.ends.WorkEnd.TheVariants as how
use Rattle.server_model.specs.Rounds.{Rounds}
use Rattle.server_model.proofs.Rounded.{rounded, spent, worked_at}
use Rattle.proxy_parts.specs.declared.worker.TheConstants.{TURNS}
use Rattle.proxy_parts.proofs.worker.keep_working.Goals as goal

pub rounds-init : goal.rounds-init
rounds-init g c = record { home = refl; allowed = λ a. a; rounds = Rounds.none _ }

pub rounds-preserved-in-Turns : goal.rounds-preserved-in-Turns
rounds-preserved-in-Turns g c = record {
  home = c.in-Turns.ensures.stays.home ∙ c.rounds.invariant.home;
  allowed = λ a. c.in-Turns.ensures.stays.allowed (c.rounds.invariant.allowed a);
  rounds = rounded c.args.hosts.now _ g.T.Turn.rests _ _ TURNS _ _ _ how.Turns c.in-Turns.ensures.stays.late c.rounds.invariant.rounds
      (worked_at g.T.Seats.place_home c.args.hosts.now g.T.Turn.rests _ TURNS _ _ _ _ how.Turns c.rounds.invariant.home c.in-Turns.ensures.worked) tt;
}

pub rounds-preserved : goal.rounds-preserved
rounds-preserved g c = record {
  home = c.in-NoMemory.ensures.stays.home ∙ c.rounds.invariant.home;
  allowed = λ a. c.in-NoMemory.ensures.stays.allowed (c.rounds.invariant.allowed a);
  rounds = rounded c.args.hosts.now _ g.T.Turn.rests _ _ TURNS _ _ _ how.NoMemory c.in-NoMemory.ensures.stays.late c.rounds.invariant.rounds
      (worked_at g.T.Seats.place_home c.args.hosts.now g.T.Turn.rests _ TURNS _ _ _ _ how.NoMemory c.rounds.invariant.home c.in-NoMemory.ensures.worked) tt;
}

pub returns-in-Worn-clause-spent : goal.returns-in-Worn-clause-spent
returns-in-Worn-clause-spent g c =
    spent c.args.hosts.now _ g.T.Turn.rests _ _ TURNS _ _ _ c.in-Worn.ensures.stays.late c.rounds.invariant.rounds
    (worked_at g.T.Seats.place_home c.args.hosts.now g.T.Turn.rests _ TURNS _ _ _ _ how.Worn c.rounds.invariant.home c.in-Worn.ensures.worked)
