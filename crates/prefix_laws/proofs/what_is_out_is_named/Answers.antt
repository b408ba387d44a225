use Rattle.prefix_laws.proofs.Places.{out_is_named}
use Rattle.prefix_laws.proofs.what_is_out_is_named.Goals as goal

pub returns : goal.returns
returns c = out_is_named
