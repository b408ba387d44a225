-- Of all bodies' records.
use Rattle.proxy_model.specs.Prefixes.{are_bytes}
use Rattle.proxy_model.specs.Readings.{records_of}
use Rattle.shown_bytes.proofs.ShownBytes.{all_of_parts}
use Rattle.shown_bytes.proofs.show_bodies.Goals as goal

pub returns : goal.returns
returns c = all_of_parts (λ kv. are_bytes kv.key) records_of c.args.bodies.now c.loop-body.body-index c.loop-body-test.false c.loop-body.invariant
