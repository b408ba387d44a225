use Rattle.cache_laws.proofs.Store.CachedProofs.{held_records_are_true, cached_reads_are_true, cached_snapshots_are_true}
use Rattle.cache_laws.proofs.laws_of_store.cached_answers_are_true.Goals as goal

pub returns : goal.returns
returns c = record { records = held_records_are_true; reads = cached_reads_are_true; snapshots = cached_snapshots_are_true }
