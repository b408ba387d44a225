use Rattle.waiting_laws.proofs.Requests.{requests_wait}
use Rattle.waiting_laws.proofs.Watches.{watches_wait}
use Rattle.waiting_laws.proofs.none_is_idle.Goals as goal

pub returns : goal.returns
returns c = record { requests = requests_wait; watches = watches_wait }
