-- What the hub was opened with is the machine that stands for the empty shop.
use Rattle.std.proofs.Common.{sym, ◌∙◌, subst}
use Rattle.turn_hub.specs.Known.{opening_of}
use Rattle.shop_model.specs.Shop.{first_shop}
use Rattle.store_machine.specs.Standing.{Stands}
use Rattle.store_machine.specs.declared.machine.StoreMachine.{StoreMachine as Opened}
use Rattle.shop_service.proofs.server.first_place.Goals as goal

pub returns : goal.returns
returns c =
    subst (λ (m : Opened). Stands m first_shop) (sym ((λ i. opening_of (c.in_ok-hub.ensures.pass.0 i)) ∙ c.in_ok-hub.ensures.opened.0)) c.in_ok-machine.ensures
