use Rattle.namespace_keys.proofs.Ranges.{wrapped_keys_are_asked, asked_keys_are_wrapped}
use Rattle.namespace_keys.proofs.laws.wrapped_ranges_have_their_keys.Goals as goal

pub returns : goal.returns
returns c = record { asked = wrapped_keys_are_asked; all = asked_keys_are_wrapped }
