-- The list of unanswered writes, changed at the first that passes a test; and the list of the calls that are out.
use Rattle.std.specs.Prelude.{ℕ, Bool, false, ◌==◌, if◌then◌else◌, List, [], ◌∷◌, Option, None, Some}
use Rattle.std.specs.List.{list_any}
use Rattle.wait_model.specs.declared.sending.Sending.{Sending}
use Rattle.wait_model.specs.declared.sending.Sending.TheVariants as sending
use Rattle.wait_model.specs.declared.write.Write.{Write}
use Rattle.wait_model.specs.declared.found.Found.{Found}
use Rattle.wait_model.specs.declared.found.Asking.{Asking}
use Rattle.wait_model.specs.declared.found.Asking.TheVariants as asking
use Rattle.wait_model.specs.declared.write.WriteStage.{WriteStage}
use Rattle.wait_model.specs.declared.write.WriteStage.TheVariants.{Waiting, Sends, Finds}
use Rattle.wait_model.specs.declared.wait.WaitCall.{WaitCall}
use Rattle.wait_model.specs.declared.wait.WaitJob.{WaitJob}
use Rattle.wait_model.specs.Stages.{staged}

abbrev pub first_by : (Write → Bool) → List Write → Option Write
first_by p [] = None
first_by p (w ∷ ws) = if p w then Some w else first_by p ws

-- without the first that passes
abbrev pub without_first : (Write → Bool) → List Write → List Write
without_first p [] = []
without_first p (w ∷ ws) = if p w then ws else w ∷ without_first p ws

-- with the first that passes in another stage
abbrev pub with_first : (Write → Bool) → WriteStage → List Write → List Write
with_first p stage [] = []
with_first p stage (w ∷ ws) = if p w then staged w stage ∷ ws else w ∷ with_first p stage ws

abbrev pub is_out_as : ℕ → Sending → Bool
is_out_as call (sending.Due since) = false
is_out_as call (sending.Out n) = n == call

abbrev pub asking_as : ℕ → Asking → Bool
asking_as call (asking.Due since) = false
asking_as call (asking.Out n) = n == call
asking_as call asking.Done = false

abbrev pub is_asked_as : ℕ → Found → Bool
is_asked_as call f = asking_as call f.revoke

abbrev pub stage_sends : ℕ → WriteStage → Bool
stage_sends call Waiting = false
stage_sends call (Sends owner s) = is_out_as call s
stage_sends call (Finds found) = false

-- the write whose own call this is
abbrev pub sends : ℕ → Write → Bool
sends call w = stage_sends call w.stage

abbrev pub stage_asks : ℕ → WriteStage → Bool
stage_asks call Waiting = false
stage_asks call (Sends owner s) = false
stage_asks call (Finds found) = list_any (is_asked_as call) found

-- the write for which this revoke call asks
abbrev pub asks : ℕ → Write → Bool
asks call w = stage_asks call w.stage

abbrev pub has_ticket : ℕ → Write → Bool
has_ticket ticket w = w.ticket == ticket

-- Calls that are out.

abbrev pub job_of : ℕ → List WaitCall → Option WaitJob
job_of call [] = None
job_of call (c ∷ cs) = if c.call == call then Some c.job else job_of call cs

abbrev pub without_call : ℕ → List WaitCall → List WaitCall
without_call call [] = []
without_call call (c ∷ cs) = if c.call == call then cs else c ∷ without_call call cs
