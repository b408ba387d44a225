-- A place on its way may cross threads.
use denote.Param.Send.{sendable}
use Rattle.std.proofs.Crossing.{crosses}
use Rattle.part_threads.proofs.Crossing.{carried_send}
use Rattle.part_threads.proofs.threaded.starting.Goals as goal

pub begin_making-requires-send-P : goal.begin_making-requires-send-P
begin_making-requires-send-P g c κs within = search (sendable, crosses, carried_send) depth 20
