-- No items tell nothing.
use Rattle.audit_lives.proofs.Telling.{lives_none}
use Rattle.audit_lives.proofs.lives_told.LivesTold.new.Goals as goal

pub returns : goal.returns
returns c = lives_none _ c.new.ensures c.new-2.ensures c.new-3.ensures c.new-4.ensures c.new-5.ensures c.new-6.ensures c.new-7.ensures c.new-8.ensures
