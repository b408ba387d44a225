-- The end of a session, for entries and writes: all entries go. A due owner write of one key becomes a guest write in its place,
-- a due owner transaction is decided again; what is out goes on.
use Rattle.std.specs.Prelude.{Bool, true, false, if◌then◌else◌, [], map}
use Rattle.wait_model.specs.declared.sending.Sending.{Sending}
use Rattle.wait_model.specs.declared.sending.Sending.TheVariants as sending
use Rattle.wait_model.specs.declared.write.Write.{Write}
use Rattle.wait_model.specs.declared.write.WriteStage.{WriteStage}
use Rattle.wait_model.specs.declared.write.WriteStage.TheVariants.{Waiting, Sends, Finds}
use Rattle.wait_model.specs.State.{Ownership}
use Rattle.wait_model.specs.Covers.{is_single}
use Rattle.wait_model.specs.Stages.{staged}

abbrev pub due_again : Bool → Sending → WriteStage
due_again single (sending.Due since) = if single then Sends false (sending.Due since) else Waiting
due_again single (sending.Out call) = Sends true (sending.Out call)

abbrev pub stage_ended : Bool → WriteStage → WriteStage
stage_ended single Waiting = Waiting
stage_ended single (Sends owner s) = if owner then due_again single s else Sends owner s
stage_ended single (Finds found) = Finds found

abbrev pub write_ended : Write → Write
write_ended w = staged w (stage_ended (is_single w.request) w.stage)

abbrev pub session_ended : Ownership → Ownership
session_ended own = record { entries = []; waits = record own.waits { writes = map write_ended own.waits.writes } }
