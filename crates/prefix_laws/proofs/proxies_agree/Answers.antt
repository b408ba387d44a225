use Rattle.prefix_laws.proofs.Places.{each_agrees, each_fits}
use Rattle.prefix_laws.proofs.proxies_agree.Goals as goal

pub returns : goal.returns
returns c = record { agree = each_agrees; fit = each_fits }
