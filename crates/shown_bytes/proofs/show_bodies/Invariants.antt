-- Up to here.
use Rattle.std.proofs.Common.{◌≡◌, true, take}
use Rattle.std.specs.List.{list_all}
use Rattle.proxy_model.specs.Prefixes.{are_bytes}
use Rattle.proxy_model.specs.Readings.{records_of}
use Rattle.shown_bytes.proofs.show_bodies.Given as goal

abbrev pub invariant-loop-body : goal.invariant-loop-body
invariant-loop-body l = list_all (λ b. list_all (λ kv. are_bytes kv.key) (records_of b)) (take l.body-index l.bodies) ≡ true
