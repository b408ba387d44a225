use Rattle.std.proofs.Common.{◌≡◌, ◌<◌, drop}
use Rattle.watch_streams.specs.Rows.{mixed}
use Rattle.watch_streams.proofs.rows.mixed.Given as goal

abbrev pub invariant-loop-byte : goal.invariant-loop-byte
invariant-loop-byte l = record {
  value : mixed l.value (drop l.byte-index l.bytes) ≡ mixed l.from l.bytes;
  bound : l.value < 4294967291;
}
