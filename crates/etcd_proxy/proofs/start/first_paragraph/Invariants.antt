-- It is one line so far.
use Rattle.std.proofs.Common.{◌≡◌, true}
use Rattle.etcd_proxy.specs.Start.{is_one}
use Rattle.etcd_proxy.proofs.start.first_paragraph.Given as goal

abbrev pub invariant-loop-byte : goal.invariant-loop-byte
invariant-loop-byte l = is_one l.line.items ≡ true
