-- A piece has at most 4,096 bytes.
use Rattle.std.proofs.Common.{◌≤◌, ◌*◌}
use Rattle.sockets.proofs.connection.linger.Given as goal

abbrev pub invariant-loop : goal.invariant-loop
invariant-loop g l = l.came ≤ l.counter * 4096
