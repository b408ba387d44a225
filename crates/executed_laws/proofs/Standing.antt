-- Keepalives stand once at each proxy, whose parts agree.
use Rattle.prefix_laws.proofs.Places.{each_agrees}
use Rattle.executed_laws.specs.Standing.{KeepalivesStandOnce}

pub keepalives_once : KeepalivesStandOnce
keepalives_once lines w p x s e at = (each_agrees lines w p x s e at).agrees.groups
