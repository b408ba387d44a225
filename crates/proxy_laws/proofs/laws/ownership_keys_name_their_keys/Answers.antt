use Rattle.proxy_model.proofs.PrefixEnds.{ranges_stay}
use Rattle.proxy_laws.proofs.Owners.{owners_are_named}
use Rattle.proxy_laws.proofs.laws.ownership_keys_name_their_keys.Goals as goal

pub returns : goal.returns
returns c = record { ranges = ranges_stay; owners = owners_are_named }
