-- The request is a write; what is read of the reply.
use Rattle.proxy_model.specs.Guarded.{written}
use Rattle.revoke_calls.proofs.ProperWrite.{proper-write, read-write}
use Rattle.revoke_core.specs.Readings.{done_read}
use Rattle.revoke_core.proofs.ReadParts.{mapped_err}
use Rattle.revoke_core.proofs.answers.read_done.Goals as goal

pub read_write-requires : goal.read_write-requires
read_write-requires c = read-write c.args.write.now.request (proper-write c.args.write.now c.requires)

pub returns-in-Err : goal.returns-in-Err
returns-in-Err c = mapped_err c.in-Err.fault (done_read c.args.write.now c.args.table.now.entries) (written c.args.prefix.now c.args.write.now.request c.args.reply) c.in-Err.ensures
