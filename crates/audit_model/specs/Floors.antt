-- Session floors, as the items report them: a session isn't expired before the clock of the proxy that sent its grant reads its floor.
use Rattle.std.specs.Prelude.{ℕ, nat_lt, if◌then◌else◌, List, [], ◌∷◌, ◌++◌, Option, None, Some}
use Rattle.etcd_types.specs.declared.answer.Answer.{Answer}
use Rattle.script_text.specs.declared.item.Item.{Item}
use Rattle.script_text.specs.declared.item.Item.TheVariants as item
use Rattle.world_model.specs.declared.floor.Floor.{Floor}
use Rattle.world_model.specs.declared.sent_call.SentCall.{SentCall}
use Rattle.world_model.specs.Floors.{floors_after}
use Rattle.world_model.specs.Lives.{clock_of}
use Rattle.world_model.specs.Places.{kept_at}
use Rattle.world_model.specs.State.{Numbered}
use Rattle.audit_model.specs.declared.fault.AuditFault.{AuditFault}
use Rattle.audit_model.specs.declared.fault.AuditFault.TheVariants as fault
use Rattle.audit_model.specs.Calls.{sent_as}

abbrev pub floors_of : Option SentCall → Answer → Numbered Floor → Numbered Floor
floors_of None answer floors = floors
floors_of (Some call) answer floors = floors_after call answer floors

-- by one item, behind those before it
abbrev pub floors_by : List Item → Item → Numbered Floor → Numbered Floor
floors_by before (item.Executed call answer) floors = floors_of (sent_as call before) answer floors
floors_by before _ floors = floors

abbrev pub floors_from : List Item → Numbered Floor → List Item → Numbered Floor
floors_from before floors [] = floors
floors_from before floors (i ∷ items) = floors_from (before ++ i ∷ []) (floors_by before i floors) items

abbrev pub reported_floors : List Item → Numbered Floor
reported_floors items = floors_from [] [] items

abbrev pub too_early_at : ℕ → ℕ → Option AuditFault
too_early_at clock floor = if nat_lt clock floor then Some (fault.Early clock floor) else None

abbrev pub too_early_by : List Item → Option Floor → Option AuditFault
too_early_by before None = None
too_early_by before (Some f) = too_early_at (clock_of f.proxy before) f.floor

-- the fault of a session that expires too early
abbrev pub too_early : List Item → Item → Option AuditFault
too_early before (item.Expired lease) = too_early_by before (kept_at (reported_floors before) lease)
too_early before _ = None
