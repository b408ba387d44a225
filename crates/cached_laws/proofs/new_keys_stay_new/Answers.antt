use Rattle.cached_laws.proofs.Steps.{starts_untouched, new_keys_stay_new}
use Rattle.cached_laws.proofs.new_keys_stay_new.Goals as goal

pub returns : goal.returns
returns c = record { starts = starts_untouched; stay = new_keys_stay_new }
