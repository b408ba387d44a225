-- It represents the empty shop.
use Rattle.std.proofs.Common.{refl, sym, subst}
use Rattle.shop_model.specs.Shop.{first_shop}
use Rattle.store_machine.specs.declared.kept.Kept.{Kept}
use Rattle.store_machine.specs.Holding.{Holds}
use Rattle.store_machine.proofs.machine.StoreMachine.new.Goals as goal

pub returns : goal.returns
returns c = record { holds = subst (λ (k : Kept). Holds k first_shop) (sym c.in_ok-kept-2.ensures.ok) c.in_ok-kept.ensures; timed = refl }
