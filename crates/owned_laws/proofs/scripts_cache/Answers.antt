use Rattle.owned_laws.proofs.Whole.{each_script_caches, each_script_answers_snapshots}
use Rattle.owned_laws.proofs.scripts_cache.Goals as goal

pub returns : goal.returns
returns c = record { reads = each_script_caches; snapshots = each_script_answers_snapshots }
