-- The machine's step is the line's, and its fault is told as the line's.
use Rattle.std.proofs.Common.{◌≡◌, ◌≢◌, sym, subst}
use Rattle.replay_places.proofs.PlaceSteps.{step_taken, step_faulted}
use Rattle.world_model.specs.declared.fault.WorldFault.{WorldFault}
use Rattle.world_model.specs.declared.fault.WorldFault.TheVariants as fault
use Rattle.world_model.specs.Places.{with_place}
use Rattle.world_model.specs.Steps.{refuses, steps}
use Rattle.replay_places.proofs.place.Place.make_step.Goals as goal

pub returns-in-Ok-clause-step : goal.returns-in-Ok-clause-step
returns-in-Ok-clause-step g c w next =
    step_taken w c.args.proxy c.args.self.now c.args.event c.args.otherwise next c.step.new.self c.in-Ok.outcome c.in-Ok.ensures

pub returns-in-Err-clause-fault : goal.returns-in-Err-clause-fault
returns-in-Err-clause-fault g c n w next =
    let Claim : WorldFault → Type 0 = λ y. y ≢ fault.NoMemory → steps w c.args.proxy c.args.self.now c.args.event c.args.otherwise next ≡ refuses (with_place w c.args.proxy c.step.new.self) y in
    subst Claim (sym c.fault_of.ensures) (step_faulted w c.args.proxy c.args.self.now c.args.event c.args.otherwise next c.step.new.self c.in-Err.fault c.in-Err.ensures) n
