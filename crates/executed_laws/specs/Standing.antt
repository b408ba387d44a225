-- Keepalives at each proxy behind each prefix of a script: of each lease one is out at most, and none is due beside it. The premise is that
-- what the answers show is made of bytes.
use Rattle.core_model.specs.Fits.{GroupsOk}
use Rattle.prefix_laws.specs.Prefixes.{OfEachProxy}

-- those that are due of a lease go out as one call
abbrev pub KeepalivesStandOnce : Type 0
KeepalivesStandOnce = OfEachProxy (λ items p x. GroupsOk x.core.out x.core.asks)
