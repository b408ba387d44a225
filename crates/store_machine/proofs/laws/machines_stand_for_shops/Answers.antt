use Rattle.store_machine.proofs.Machines.{stand_for_shops}
use Rattle.store_machine.proofs.laws.machines_stand_for_shops.Goals as goal

pub returns : goal.returns
returns c = stand_for_shops
