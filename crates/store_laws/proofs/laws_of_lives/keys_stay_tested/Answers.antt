use Rattle.store_laws.proofs.Lives.TestedProofs.{keys_stay_tested, expiries_keep_tested}
use Rattle.store_laws.proofs.laws_of_lives.keys_stay_tested.Goals as goal

pub returns : goal.returns
returns c = record { requests = keys_stay_tested; expiries = expiries_keep_tested }
