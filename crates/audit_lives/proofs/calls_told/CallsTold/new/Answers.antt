-- No items tell nothing.
use Rattle.std.proofs.Common.{refl}
use Rattle.audit_lives.proofs.Telling.{calls_none}
use Rattle.audit_lives.proofs.calls_told.CallsTold.new.Goals as goal

pub returns : goal.returns
returns c = calls_none _ c.new.ensures c.new-2.ensures c.new-3.ensures c.new-4.ensures refl c.new-5.ensures
