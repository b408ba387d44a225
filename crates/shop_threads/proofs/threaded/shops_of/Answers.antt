-- A place on its way may cross threads.
use denote.Param.Send.{sendable}
use Rattle.std.proofs.Crossing.{crosses}
use Rattle.shop_threads.proofs.Crossing.{carried_send}
use Rattle.shop_threads.proofs.threaded.shops_of.Goals as goal

pub begin_making-requires-send-P : goal.begin_making-requires-send-P
begin_making-requires-send-P g c κs within = search (sendable, crosses, carried_send) depth 20
