-- Nothing is counted.
use Rattle.std.proofs.Common.{refl}
use Rattle.audit_lives.proofs.Summing.{sums_none}
use Rattle.audit_lives.proofs.sums.Sums.new.Goals as goal

pub returns : goal.returns
returns c = λ start. sums_none _ start refl refl c.new.ensures
