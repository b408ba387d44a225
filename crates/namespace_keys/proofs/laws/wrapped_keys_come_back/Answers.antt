use Rattle.namespace_keys.proofs.Keys.{wrapped_keys_are_unwrapped, unwrapped_keys_were_wrapped}
use Rattle.namespace_keys.proofs.laws.wrapped_keys_come_back.Goals as goal

pub returns : goal.returns
returns c = record { back = wrapped_keys_are_unwrapped; only = unwrapped_keys_were_wrapped }
