-- Each number is the one that is kept.
use Rattle.audit_lives.proofs.index.Index.summary.Goals as goal

pub returns : goal.returns
returns c = λ items t i. record { items = t.count i; unsent = t.sums.unsent i; watches = t.sums.watches i }
