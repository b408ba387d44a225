-- Each lease has one deadline, and each deadline its lease: both stand in the order of the leases' numbers.
use Rattle.std.specs.Prelude.{◌≡◌, List, map}
use Rattle.store_model.specs.declared.lease.Lease.{Lease}
use Rattle.store_model.specs.Leases.{lease_number}
use Rattle.shop_model.specs.declared.deadline.Deadline.{Deadline}
use Rattle.shop_model.specs.Deadlines.{deadline_number}
use Rattle.shop_model.specs.Shop.{Shop}

abbrev pub AreTimed : List Lease → List Deadline → Type 0
AreTimed leases ds = map deadline_number ds ≡ map lease_number leases

abbrev pub IsTimed : Shop → Type 0
IsTimed s = AreTimed s.store.leases s.deadlines
