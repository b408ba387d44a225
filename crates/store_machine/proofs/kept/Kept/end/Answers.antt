-- The lease has expired, and its deadline is gone.
use Rattle.store_machine.proofs.Parts.{lease_end}
use Rattle.store_machine.proofs.kept.Kept.end.Goals as goal

pub returns-clause-ok : goal.returns-clause-ok
returns-clause-ok c = λ s h.
    lease_end c.args.self.now c.expire.new.store c.remove.new.self c.args.number s c.in_ok-expire.ensures.ok c.remove.ensures h
