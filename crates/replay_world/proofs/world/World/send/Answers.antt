-- What is due first is done at its proxy, as it stands after its step.
use Rattle.std.proofs.Common.{Option, Some, ◌∙◌, ap}
use Rattle.core_model.specs.declared.event.Job.{Job}
use Rattle.replay_places.specs.Places.{job_or_nothing}
use Rattle.replay_world.proofs.SendLines.{worked_stands, worked_there}
use Rattle.replay_world.proofs.Turns.{gives_same, seen_so}
use Rattle.world_model.specs.Places.{with_place}
use Rattle.replay_world.proofs.world.World.send.Goals as goal

pub send_call-requires : goal.send_call-requires
send_call-requires g c = worked_there _ _ c.args.proxy _ c.in_ok-call.ensures.job

pub open_request-requires : goal.open_request-requires
open_request-requires g c = worked_there _ _ c.args.proxy _ c.in_ok-call.ensures.job

pub close_stream-requires : goal.close_stream-requires
close_stream-requires g c = worked_there _ _ c.args.proxy _ c.in_ok-call.ensures.job

pub returns-in-Some-Call-clause-step : goal.returns-in-Some-Call-clause-step
returns-in-Some-Call-clause-step g c w s =
    let job = c.in_ok-call.ensures.job w (seen_so _ _ w c.self.view_is s).places in
    gives_same _ _ _ _ (job.2 ∙ ap (λ (o : Option Job). job_or_nothing w c.args.proxy job.0 o) (c.in-Some-Call.is ∙ ap Some c.in-Some-Call.field-0-is)) (c.send_call.ensures.step w job.0 (worked_stands _ _ w c.args.proxy job.0 _ c.self.view_is s job.1))

pub returns-in-Some-Begin-clause-step : goal.returns-in-Some-Begin-clause-step
returns-in-Some-Begin-clause-step g c w s =
    let job = c.in_ok-call.ensures.job w (seen_so _ _ w c.self.view_is s).places in
    gives_same _ _ _ _ (job.2 ∙ ap (λ (o : Option Job). job_or_nothing w c.args.proxy job.0 o) (c.in-Some-Begin.is ∙ ap Some c.in-Some-Begin.field-0-is)) (c.open_request.ensures.step w job.0 (worked_stands _ _ w c.args.proxy job.0 _ c.self.view_is s job.1))

pub returns-in-Some-Close-clause-step : goal.returns-in-Some-Close-clause-step
returns-in-Some-Close-clause-step g c w s =
    let job = c.in_ok-call.ensures.job w (seen_so _ _ w c.self.view_is s).places in
    gives_same _ _ _ _ (job.2 ∙ ap (λ (o : Option Job). job_or_nothing w c.args.proxy job.0 o) (c.in-Some-Close.is ∙ ap Some c.in-Some-Close.field-0-is)) (c.close_stream.ensures.step w job.0 (worked_stands _ _ w c.args.proxy job.0 _ c.self.view_is s job.1))

pub returns-in-None-clause-step : goal.returns-in-None-clause-step
returns-in-None-clause-step g c w s n =
    let job = c.in_ok-call.ensures.job w (seen_so _ _ w c.self.view_is s).places in
    record {
      after = with_place w c.args.proxy job.0;
      so = job.2 ∙ ap (λ (o : Option Job). job_or_nothing w c.args.proxy job.0 o) c.in-None.is;
      stands = worked_stands _ _ w c.args.proxy job.0 _ c.self.view_is s job.1;
    }
