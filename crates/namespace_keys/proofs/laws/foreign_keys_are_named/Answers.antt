use Rattle.namespace_keys.proofs.Refused.{replies_are_refused_by_name, items_are_refused_by_name, foreign_lease_keys_are_left_out}
use Rattle.namespace_keys.proofs.laws.foreign_keys_are_named.Goals as goal

pub returns : goal.returns
returns c = record { replies = replies_are_refused_by_name; items = items_are_refused_by_name; leases = foreign_lease_keys_are_left_out }
