-- How far a cluster's history was, as headers of replies say. A reply that needs the agreement of the cluster never has a lower revision
-- than one that had come before it was asked for (etcd API guarantees: strict serializability).
use Rattle.std.specs.Prelude.{Bool, not, ◌||◌, ◌==◌, nat_lt, if◌then◌else◌}
use Rattle.member_asks.specs.declared.standing.Standing.{Standing}

-- the later one is of another history: of another cluster, or of a lower revision
abbrev pub is_another : Standing → Standing → Bool
is_another before after = not (after.cluster == before.cluster) || nat_lt after.revision before.revision

-- the one of the greater revision
abbrev pub newer : Standing → Standing → Standing
newer before after = if nat_lt after.revision before.revision then before else after
