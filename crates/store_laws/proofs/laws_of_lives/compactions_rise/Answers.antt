use Rattle.store_laws.proofs.Lives.CompactionProofs.{compactions_are_exact, compactions_rise, others_dont_compact}
use Rattle.store_laws.proofs.laws_of_lives.compactions_rise.Goals as goal

pub returns : goal.returns
returns c = record { exact = compactions_are_exact; rise = compactions_rise; others = others_dont_compact }
