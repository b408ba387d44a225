use Rattle.cache_laws.proofs.Guards.AloneProofs.{writes_put_alone, owners_put_alone, reads_put_alone, ends_put_alone}
use Rattle.cache_laws.proofs.Guards.EventProofs.{owner_events_tell}
use Rattle.cache_laws.proofs.laws_of_guards.puts_of_ownership_keys_are_alone.Goals as goal

pub returns : goal.returns
returns c = record { writes = writes_put_alone; owners = owners_put_alone; reads = reads_put_alone; ends = ends_put_alone; told = owner_events_tell }
