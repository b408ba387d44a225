use Rattle.text_laws.proofs.Stores.Others.{starts_fit, expiries_fit, applies_fit, openings_fit}
use Rattle.text_laws.proofs.laws_of_stores.stores_stay_fit.Goals as goal

pub returns : goal.returns
returns c = record { starts = starts_fit; expiries = expiries_fit; applies = applies_fit; openings = openings_fit }
