-- How long a call of each kind is waited for, in milliseconds (docs/OPERATIONS.md, limits).
use Rattle.std.specs.Prelude.{ℕ}
use Rattle.outside.specs.declared.link.CallKind.{CallKind}
use Rattle.outside.specs.declared.link.CallKind.TheVariants as kind
use Rattle.socket_limits.specs.declared.limits.LinkLimits.{LinkLimits}

abbrev pub limit_for : LinkLimits → CallKind → ℕ
limit_for limits kind.Reads = limits.read
limit_for limits kind.Scans = limits.scan
limit_for limits kind.Writes = limits.write
limit_for limits (kind.Session lease) = limits.read
limit_for limits (kind.Watches stream) = limits.read
limit_for limits kind.Asks = limits.ask
