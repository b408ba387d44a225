-- No items tell nothing.
use Rattle.std.proofs.Common.{refl}
use Rattle.audit_lives.proofs.Telling.{streams_none}
use Rattle.audit_lives.proofs.streams_told.StreamsTold.new.Goals as goal

pub returns : goal.returns
returns c = streams_none _ c.new.ensures c.new-2.ensures c.new-3.ensures c.new-4.ensures c.new-5.ensures refl c.new-6.ensures c.new-7.ensures c.new-8.ensures
