-- What the changes passed attach is there, and nothing was taken away.
use Rattle.std.proofs.Common.{◌≡◌, true, take}
use Rattle.std.specs.List.{list_all}
use Rattle.store_index.specs.Leases.{is_put_linked, Stay}
use Rattle.store_index.proofs.lease_keys.LeaseKeys.link_all.Given as goal

abbrev pub invariant-loop-change : goal.invariant-loop-change
invariant-loop-change l = record {
  linked : list_all (is_put_linked l.self) (take l.change-index l.changes) ≡ true;
  stay : Stay l.fn.self l.self;
}
