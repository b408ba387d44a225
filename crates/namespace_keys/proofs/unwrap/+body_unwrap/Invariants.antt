-- Those unwrapped so far are those of the front.
use Rattle.std.proofs.Common.{◌≡◌, take, Ok}
use Rattle.proxy_model.specs.Unwrapped.{each, body_without}
use Rattle.namespace_keys.proofs.unwrap.+body_unwrap.Given as goal

abbrev pub invariant-unwrap_bodies-loop-body : goal.invariant-unwrap_bodies-loop-body
invariant-unwrap_bodies-loop-body l = each (body_without l.prefix) (take l.body-index l.bodies) ≡ Ok l.unwrapped
