-- What stays the same of a place, whatever steps are made: its hub.
use Rattle.std.specs.Prelude.{[]}
use Rattle.turn_hub.specs.Known.{Known}
use Rattle.turn_hub.specs.declared.view.Opening.{Opening}
use Rattle.shop_dialog.specs.Steps.{Step}
use Rattle.store_machine.specs.declared.machine.StoreMachine.{StoreMachine}
use Rattle.store_serve.specs.declared.place.StorePlace.{StorePlace}

abbrev pub Home : Type 0
Home = Known (Opening StoreMachine) Step

abbrev pub home_of : StorePlace → Home
home_of place = record place.pass { seen = []; own = [] }
