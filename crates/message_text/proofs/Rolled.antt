-- An operation or a body from its layer.
use Rattle.etcd_types.specs.declared.operation.Op.TheVariants.{rolls-Range, rolls-Put, rolls-Delete, rolls-Txn}
use Rattle.etcd_types.specs.declared.answer.Body.TheVariants as bodies

pub ruleset rolled = (rolls-Range, rolls-Put, rolls-Delete, rolls-Txn)

pub ruleset rolled_bodies = (bodies.rolls-Range, bodies.rolls-Put, bodies.rolls-Delete, bodies.rolls-Txn, bodies.rolls-Compact, bodies.rolls-Grant, bodies.rolls-Revoke, bodies.rolls-KeepAlive, bodies.rolls-TimeToLive, bodies.rolls-Leases)
