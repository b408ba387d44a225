use Rattle.shop_laws.proofs.Watches.{opens_watch, keeps_watch, finds_watch}
use Rattle.shop_laws.proofs.opened_watches_stay.Goals as goal

pub returns : goal.returns
returns c = record { opens = opens_watch; keeps = keeps_watch; finds = finds_watch }
