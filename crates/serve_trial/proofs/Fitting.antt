-- What the small core answers fits what it is asked.
use Rattle.std.proofs.Common.{ℕ, List, [], ◌∷◌, Option, Result, Ok, Err, refl}
use Rattle.etcd_types.specs.declared.request.Request.{Request}
use Rattle.core_model.specs.declared.event.CoreEvent.TheVariants.{Ask, Take, Work}
use Rattle.core_model.specs.declared.event.Outcome.{Outcome}
use Rattle.core_model.specs.declared.event.Outcome.TheVariants as outcome
use Rattle.core_model.specs.declared.event.StepFault.TheVariants as step
use Rattle.server_model.specs.declared.fault.TurnFault.{TurnFault}
use Rattle.server_model.specs.declared.fault.TurnFault.TheVariants as turn
use Rattle.server_model.specs.Steps.{Step, FitsOutcome, Fits, IsOfRest, MadeBy, Rested}
use Rattle.turn_hub.specs.History.{entry_of}
use Rattle.serve_trial.specs.Alone.{IsWork}
use Rattle.serve_trial.specs.Outcomes.{IsAsked, IsTaken}

pub ask_fits : (ticket word : ℕ) (request : Request) (o : Outcome) → IsAsked o → FitsOutcome (Ask ticket request word) o
ask_fits ticket word request (outcome.Replied answer) a = tt
ask_fits ticket word request outcome.Waiting a = tt
ask_fits ticket word request outcome.Pending a = absurd a
ask_fits ticket word request (outcome.Item item) a = absurd a
ask_fits ticket word request outcome.Noted a = absurd a
ask_fits ticket word request (outcome.Job job) a = absurd a

pub take_fits : (ticket : ℕ) (o : Outcome) → IsTaken o → FitsOutcome (Take ticket) o
take_fits ticket (outcome.Replied answer) a = tt
take_fits ticket outcome.Pending a = tt
take_fits ticket (outcome.Item item) a = tt
take_fits ticket outcome.Waiting a = absurd a
take_fits ticket outcome.Noted a = absurd a
take_fits ticket (outcome.Job job) a = absurd a

pub rest_fault : (fault : TurnFault) → Fits Work (Err fault) → IsOfRest fault
rest_fault turn.Worn f = tt
rest_fault (turn.Core step.Worn) f = tt
rest_fault (turn.Core step.NoMemory) f = tt
rest_fault (turn.Core (step.TicketUsed ticket)) f = absurd f
rest_fault (turn.Core (step.NoSuchTicket ticket)) f = absurd f
rest_fault (turn.Core (step.NoSuchCall call)) f = absurd f
rest_fault (turn.Core (step.NoSuchStream stream)) f = absurd f

-- a step on what is due is a rest
pub work_rested : (a b : Option (List Step)) (now : ℕ) (result : Result Outcome TurnFault) → MadeBy a b Work now result → Rested IsWork a b
work_rested a b now (Ok outcome) m = record { steps = entry_of Work now (Ok outcome) ∷ []; adds = m; others = (refl, tt); none_own = (refl, tt) }
work_rested a b now (Err turn.Worn) m = record { steps = []; adds = m; others = tt; none_own = tt }
work_rested a b now (Err (turn.Core fault)) m = record { steps = entry_of Work now (Err fault) ∷ []; adds = m; others = (refl, tt); none_own = (refl, tt) }
