-- The leases of the front have ended.
use Rattle.std.proofs.Common.{take}
use Rattle.shop_model.specs.Shop.{Shop, all_ended}
use Rattle.store_machine.specs.Holding.{Holds, HasRoom}
use Rattle.store_machine.proofs.kept.Kept.end_due.Given as goal

abbrev pub invariant-loop-number : goal.invariant-loop-number
invariant-loop-number l = record {
  ended : (s : Shop) → Holds l.initial.self s → Holds l.self (all_ended (take l.number-index l.number-items) s);
  room : HasRoom l.self.store;
}
