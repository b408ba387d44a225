use Rattle.store_laws.proofs.Events.WatchProofs.{tell_each_once, tell_all, tell_up_to_next}
use Rattle.store_laws.proofs.laws_of_events.watches_tell_each_event_once.Goals as goal

pub returns : goal.returns
returns c = record { once = tell_each_once; next = tell_up_to_next; all = tell_all }
