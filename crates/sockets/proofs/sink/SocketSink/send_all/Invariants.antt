-- No write of the loop is counted as a failure.
use Rattle.std.proofs.Common.{◌≡◌}
use Rattle.sockets.proofs.sink.SocketSink.send_all.Given as goal

abbrev pub invariant-loop : goal.invariant-loop
invariant-loop g l = l.self.faults ≡ l.fn.self.faults
