-- What starts followers may cross threads, as what it is made of may.
use denote.Param.Send.{sendable}
use Rattle.std.proofs.Crossing.{crosses}
use Rattle.part_threads.proofs.threaded.Threaded.TheSendSync as threaded
use Rattle.thread_makers.proofs.nothing.Nothing.TheSendSync as nothing
use Rattle.part_threads.proofs.Crossing.{carried_send}
use Rattle.part_threads.proofs.threaded.spawner_of.Goals as goal

pub starting-requires-2-send-F : goal.starting-requires-2-send-F
starting-requires-2-send-F g c κs within = search (sendable, crosses, threaded.the_send, nothing.the_send, carried_send) depth 20
