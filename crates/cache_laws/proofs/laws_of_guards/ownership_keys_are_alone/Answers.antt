use Rattle.cache_laws.proofs.Guards.OwnershipProofs.{writes_put_owned, owners_put_owned, reads_put_owned, found_owners_are_named}
use Rattle.cache_laws.proofs.laws_of_guards.ownership_keys_are_alone.Goals as goal

pub returns : goal.returns
returns c = record { writes = writes_put_owned; owners = owners_put_owned; reads = reads_put_owned; found = found_owners_are_named }
