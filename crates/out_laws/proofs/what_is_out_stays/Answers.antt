use Rattle.out_laws.proofs.Outs.{out_stays}
use Rattle.out_laws.proofs.what_is_out_stays.Goals as goal

pub returns : goal.returns
returns c = out_stays
