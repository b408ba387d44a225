-- Those wrapped so far are those of the front.
use Rattle.std.proofs.Common.{◌≡◌, map, take}
use Rattle.proxy_model.specs.Wrapped.{compare_under}
use Rattle.namespace_keys.proofs.wrap.wrap_compares.Given as goal

abbrev pub invariant-loop-compare : goal.invariant-loop-compare
invariant-loop-compare l = l.wrapped ≡ map (compare_under l.prefix) (take l.compare-index l.compares)
