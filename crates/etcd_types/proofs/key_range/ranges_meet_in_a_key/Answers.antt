use Rattle.etcd_types.proofs.Overlaps.{overlap_in_a_key}
use Rattle.etcd_types.proofs.key_range.ranges_meet_in_a_key.Goals as goal

pub returns : goal.returns
returns c = overlap_in_a_key
