-- What an `Alone` tells of its steps.
use Rattle.std.specs.Prelude.{◌≡◌, Bool, true, false, List, Option, None, Some, map}
use Rattle.turn_hub.specs.History.{entry_of}
use Rattle.core_model.specs.declared.event.CoreEvent.{CoreEvent}
use Rattle.serve_trial.specs.declared.alone.Noted.{Noted}
use Rattle.serve_trial.specs.declared.alone.Alone.{Alone}
use Rattle.server_model.specs.Steps.{Step, is_own}

-- its rest steps on anything but Ask, Take and Leave
abbrev pub IsWork : CoreEvent → Type 0
IsWork event = is_own event ≡ false

abbrev pub step_of : Noted → Step
step_of n = entry_of n.event.value n.now n.answer.value

abbrev pub steps_told : Bool → List Noted → Option (List Step)
steps_told true noted = Some (map step_of noted)
steps_told false noted = None

abbrev pub told : Alone → Option (List Step)
told a = steps_told a.tells a.steps.items
