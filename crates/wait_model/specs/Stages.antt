-- The stages of a write: it waits, its own call is due or out, or it waits for the owners that its call found.
use Rattle.std.specs.Prelude.{ℕ, Bool, true, false, not, ◌&&◌, if◌then◌else◌}
use Rattle.std.specs.List.{list_all}
use Rattle.wait_model.specs.declared.sending.Sending.TheVariants as sending
use Rattle.wait_model.specs.declared.write.Write.{Write}
use Rattle.wait_model.specs.declared.write.WriteStage.{WriteStage}
use Rattle.wait_model.specs.declared.write.WriteStage.TheVariants.{Waiting, Sends, Finds}
use Rattle.wait_model.specs.declared.found.Found.{Found}
use Rattle.wait_model.specs.declared.found.Asking.{Asking}
use Rattle.wait_model.specs.declared.found.Asking.TheVariants as asking

abbrev pub staged : Write → WriteStage → Write
staged w stage = record w { stage = stage }

-- its own call is due, since this step
abbrev pub gone_on : ℕ → Bool → Write → Write
gone_on step owner w = staged w (Sends owner (sending.Due step))

abbrev pub is_waiting : WriteStage → Bool
is_waiting Waiting = true
is_waiting (Sends owner s) = false
is_waiting (Finds found) = false

-- its call compares entries of this proxy
abbrev pub is_owner : WriteStage → Bool
is_owner Waiting = false
is_owner (Sends owner s) = owner
is_owner (Finds found) = false

-- its own call is due
abbrev pub is_due : WriteStage → Bool
is_due Waiting = false
is_due (Sends owner (sending.Due since)) = true
is_due (Sends owner (sending.Out call)) = false
is_due (Finds found) = false

abbrev pub is_asked_out : Asking → Bool
is_asked_out (asking.Due since) = false
is_asked_out (asking.Out call) = true
is_asked_out asking.Done = false

-- what was found is gone, and no revoke call of it is out
abbrev pub is_over : Found → Bool
is_over f = f.gone && not (is_asked_out f.revoke)

abbrev pub is_found_over : WriteStage → Bool
is_found_over Waiting = false
is_found_over (Sends owner s) = false
is_found_over (Finds found) = list_all is_over found

-- a write all of whose found owners are over waits again
abbrev pub stage_on : WriteStage → WriteStage
stage_on stage = if is_found_over stage then Waiting else stage
