use Rattle.namespace_laws.proofs.Images.StepNaming.{starts_named, steps_stay_named, jobs_go_under}
use Rattle.namespace_laws.proofs.laws_of_images.calls_name_their_keys.Goals as goal

pub returns : goal.returns
returns c = record { starts = starts_named; steps = steps_stay_named; jobs = jobs_go_under }
