use Rattle.store_index.proofs.LeaseLemmas.{compacted_covered}
use Rattle.store_index.proofs.leased.LeasedVersions.compact.Goals as goal

pub invariant_of-self : goal.invariant_of-self
invariant_of-self c =
    compacted_covered c.args.revision c.self.inside.versions c.compact.new.self c.self.inside.leases c.compact.ensures.versions c.self.invariant
