-- Something is due, or nothing is, or no more is drawn.
use Rattle.std.proofs.Common.{refl, None, Some, ◌∙◌}
use Rattle.core_model.specs.declared.event.Outcome.TheVariants.{Job as Due}
use Rattle.server_model.proofs.Works.{made_as, not_idle_yet, was_drawn, not_drawn, idled, no_rest, ends_as}
use Rattle.proxy_workers.proofs.turns.draw.Goals as goal

pub looks-init : goal.looks-init
looks-init g c = record { home = refl; late = λ w. w; allowed = λ a. a; idle = not_idle_yet g.T.Turn.rests _ }

pub returns-in-Some-due_in-clause-drawn : goal.returns-in-Some-due_in-clause-drawn
returns-in-Some-due_in-clause-drawn g c =
    was_drawn g.T.Turn.rests _ _ _ _ _ c.in-Some-due_in.job c.looks.invariant.idle (made_as _ _ _ c.in-Ok.outcome (Due (Some c.in-Some-due_in.job)) c.in-Some-due_in.ensures c.in-Ok.ensures.made)

pub returns-in-Err-clause-drawn : goal.returns-in-Err-clause-drawn
returns-in-Err-clause-drawn g c =
    ends_as g.T.Turn.rests _ _ _ c.ended_by.result _ c.ended_by.ensures
    (not_drawn g.T.Turn.rests _ _ _ _ _ c.in-Err.fault c.looks.invariant.idle c.in-Err.ensures.fits c.in-Err.ensures.made c.in-Err.ensures.worn)

pub returns-in-Err-rest-clause-drawn : goal.returns-in-Err-rest-clause-drawn
returns-in-Err-rest-clause-drawn g c =
    ends_as g.T.Turn.rests _ _ _ c.ended_by-in-Err-rest.result _ c.ended_by-in-Err-rest.ensures
    (no_rest g.T.Turn.rests _ _ _ _ _ _ c.in-Err-rest.fault c.looks.invariant.idle (made_as _ _ _ c.in-Ok.outcome (Due None) c.in-None-due_in.ensures c.in-Ok.ensures.made) c.in-Err-rest.ensures.made
    c.in-Err-rest.ensures.fault c.in-Err-rest.ensures.worn)

pub looks-preserved : goal.looks-preserved
looks-preserved g c = record {
  home = c.in-Ok-rest.ensures.home ∙ c.in-Ok.ensures.home ∙ c.looks.invariant.home;
  late = λ w. c.in-Ok-rest.ensures.late (c.in-Ok.ensures.late (c.looks.invariant.late w));
  allowed = λ a. c.in-Ok-rest.ensures.allowed (c.in-Ok.ensures.allowed (c.looks.invariant.allowed a));
  idle = idled g.T.Turn.rests _ _ _ _ _ c.looks.invariant.idle (made_as _ _ _ c.in-Ok.outcome (Due None) c.in-None-due_in.ensures c.in-Ok.ensures.made) c.in-Ok-rest.ensures.made;
}
