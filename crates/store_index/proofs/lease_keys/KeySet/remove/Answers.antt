use Rattle.std.proofs.Common.{◌∙◌, ap}
use Rattle.store_index.specs.Leases.{has_key}
use Rattle.store_index.proofs.LeaseLemmas.{differs}
use Rattle.store_index.proofs.lease_keys.KeySet.remove.Goals as goal

pub returns : goal.returns
returns c = λ k never. c.remove.ensures.updates.2 k (differs c.args.key.now k never) ∙ ap (has_key k) c.self.view_is
