-- The keys kept so far are those of the front.
use Rattle.std.proofs.Common.{◌≡◌, take}
use Rattle.proxy_model.specs.Unwrapped.{own_keys}
use Rattle.namespace_keys.proofs.unwrap.own_keys.Given as goal

abbrev pub invariant-loop-key : goal.invariant-loop-key
invariant-loop-key l = l.own ≡ own_keys l.prefix (take l.key-index l.keys)
