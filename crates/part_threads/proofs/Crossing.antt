-- A place on its way may cross threads, since a proxy may.
use denote.RattleType.{RattleType}
use denote.Enum.Declared as enum
use denote.Param.Send.{IsSend, IsSync, plain_send, plain_sync, struct_send, struct_sync, enum_send, recorded_send, recorded_sync}
use denote.Struct.Declared as struct
use Rattle.std.proofs.Crossing.{crosses}
use Rattle.atomic_table.specs.declared.shared.TableRule.{Ghosts}
use Rattle.turn_hub.proofs.hub.HubOf.TheSendSync as hub
use Rattle.turn_hub.proofs.pass.PassOf.TheSendSync as pass
use Rattle.part_threads.proofs.carried.CarriedOf.TheSendSync as carried
use Rattle.turn_hub.specs.contracts.rule.TurnsTableRuleStowedEventOutcomeFaultViewEventOutcomeFaultOpening.TheImpl as turns
use Rattle.turn_hub.specs.contracts.pass.RestsRestingStowedViewSnapshotOpeningOpeningEntry.TheImpl as rests
use Rattle.part_threads.specs.contracts.carried.HubCoreAdmitsPassCore.TheImpl as admits
use Rattle.proxy_core.specs.contracts.proxy.CoreMachine.TheImpl as machine
use Rattle.part_threads.specs.contracts.carried.CarriedOf as carried-of
use Rattle.part_threads.specs.contracts.lookout.Lookout as lookout
use Rattle.turn_hub.specs.contracts.hub.HubOf as hub-of
use Rattle.turn_hub.specs.contracts.view.Stowed as stowed
use Rattle.turn_hub.specs.contracts.view.Note as note
use Rattle.turn_hub.specs.contracts.view.View as view
use Rattle.turn_hub.specs.contracts.view.Opening as opening
use Rattle.turn_hub.specs.contracts.rule.Turns as turning
use Rattle.turn_hub.specs.contracts.pass.PassOf as pass-of
use Rattle.turn_hub.specs.contracts.pass.Rests as resting
use Rattle.turn_hub.specs.contracts.history.Entry as entry
use Rattle.std.specs.contracts.result.Result as result
use Rattle.std.specs.contracts.snapshot.Snapshot as snapshot
use Rattle.proxy_core.specs.contracts.proxy.Core as core
use Rattle.core_model.specs.contracts.event.CoreEvent as event
use Rattle.core_model.specs.contracts.event.Outcome as outcome
use Rattle.core_model.specs.contracts.event.StepFault as fault
use Rattle.part_threads.proofs.Sent.{core_send}

-- ---- what lies in a hub and is kept of one, as far as its machine may cross threads
snapshot_send : (R : RattleType) → IsSend (snapshot.the_row R)
snapshot_send R = search crosses depth 1

snapshot_sync : (R : RattleType) → IsSync (snapshot.the_row R)
snapshot_sync R = search crosses depth 1

opening_send : (M : RattleType) → IsSend (opening.the_row M)
opening_send M =
    let T = opening.the_type M in
    recorded_send (struct.field T).row T.D T.to T.to_one (struct_send (struct.shape T) (snapshot_send M, (plain_send _ _ _ _ _, tt)))

opening_sync : (M : RattleType) → IsSync (opening.the_row M)
opening_sync M =
    let T = opening.the_type M in
    recorded_sync (struct.field T).row T.D T.to T.to_one (struct_sync (struct.shape T) (snapshot_sync M, (plain_sync _ _ _ _ _, tt)))

stowed_send : (M E O F : RattleType) → IsSend M → IsSend (stowed.the_row M E O F)
stowed_send M E O F m =
    let T = stowed.the_type M E O F in
    let noted : IsSend (note.the_field M E O F).row =
    struct_send (struct.shape (note.the_type M E O F)) (snapshot_send M, (snapshot_send E, (plain_send _ _ _ _ _, (snapshot_send (result.the_row O F), tt)))) in
    recorded_send (enum.field T).row T.D T.to T.to_one (enum_send (enum.shape T) ((m, tt), (tt, ((noted, tt), tt))))

-- ---- what a hub of proxies and its passes are made of

abbrev stowed-row : RattleType
stowed-row = stowed.the_row core.the_row event.the_row outcome.the_row fault.the_row

abbrev view-row : RattleType
view-row = view.the_row core.the_row event.the_row outcome.the_row fault.the_row

abbrev opening-row : RattleType
opening-row = opening.the_row core.the_row

abbrev entry-row : RattleType
entry-row = entry.the_row event.the_row outcome.the_row fault.the_row

abbrev hub-ghosts : Ghosts (turning.the_row core.the_row).Denot (stowed-row).Denot (view-row).Denot (opening-row).Denot
hub-ghosts = turns.ghosts core.the_row event.the_row outcome.the_row fault.the_row machine.ghosts turns.no_dict turns.no_dict turns.no_dict turns.no_dict turns.no_dict

abbrev hub-row : RattleType
hub-row = hub-of.the_row stowed-row view-row opening-row (turning.the_row core.the_row) hub-ghosts

abbrev pass-row : RattleType
pass-row = pass-of.the_row stowed-row view-row (snapshot.the_row opening-row) opening-row entry-row resting.the_row (rests.ghosts core.the_row event.the_row outcome.the_row fault.the_row)

abbrev pub carried-row : RattleType
carried-row = carried-of.the_row hub-row pass-row admits.ghosts

-- ---- a hub, its passes and a place
slot_send : IsSend stowed-row
slot_send = stowed_send core.the_row event.the_row outcome.the_row fault.the_row core_send

hub_send : IsSend hub-row
hub_send = hub.the_send stowed-row view-row opening-row (turning.the_row core.the_row) hub-ghosts slot_send (opening_send core.the_row)

hub_sync : IsSync hub-row
hub_sync = hub.the_sync stowed-row view-row opening-row (turning.the_row core.the_row) hub-ghosts slot_send (opening_sync core.the_row)

pass_send : IsSend pass-row
pass_send = pass.the_send stowed-row view-row (snapshot.the_row opening-row) opening-row entry-row resting.the_row
    (rests.ghosts core.the_row event.the_row outcome.the_row fault.the_row) slot_send (snapshot_send opening-row)

pub carried_send : IsSend carried-row
carried_send = search (carried.the_send, hub_send, hub_sync, pass_send) depth 4

carried_field : IsSend (carried-of.the_field hub-row pass-row admits.ghosts).row
carried_field = search (carried.the_field_send, hub_send, hub_sync, pass_send) depth 4

-- so may who looks at a machine
pub lookout_send : IsSend lookout.the_row
lookout_send =
    let T = lookout.the_type in
    recorded_send (struct.field T).row T.D T.to T.to_one (struct_send (struct.shape T) (carried_field, tt))
