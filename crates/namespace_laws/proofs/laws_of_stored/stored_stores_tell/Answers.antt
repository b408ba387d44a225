use Rattle.namespace_laws.proofs.Stored.Watches.{starts_are_stored, openings_are_stored, pushes_are_stored, progress_is_stored, applies_are_stored}
use Rattle.namespace_laws.proofs.Stored.Back.{items_unwrap}
use Rattle.namespace_laws.proofs.laws_of_stored.stored_stores_tell.Goals as goal

pub returns : goal.returns
returns c = record { starts = starts_are_stored; openings = openings_are_stored; pushes = pushes_are_stored; progress = progress_is_stored; applies = applies_are_stored; unwrapped = items_unwrap }
