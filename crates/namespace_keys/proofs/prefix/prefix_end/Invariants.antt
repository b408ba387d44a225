-- What was left out at the end is all FF.
use Rattle.std.proofs.Common.{◌≡◌, length}
use Rattle.proxy_model.specs.Prefixes.{raised}
use Rattle.namespace_keys.proofs.prefix.prefix_end.Given as goal

abbrev pub invariant-loop-last : goal.invariant-loop-last
invariant-loop-last l = raised l.rest ≡ raised l.initial.rest

abbrev pub decreases-loop-last : goal.decreases-loop-last
decreases-loop-last l = length l.rest
