use Rattle.std.proofs.Common.{length}
use Rattle.watch_queue.proofs.Values.{take-values}
use Rattle.watch_queue.proofs.rings.push_all.Goals as goal

pub returns-in-Err-clause-err : goal.returns-in-Err-clause-err
returns-in-Err-clause-err c =
    rw (c.truncate_back.ensures, c.len-before.ensures.len, take-values (length c.args.events.now.items) c.push_chosen.new.events.items) c.in-Err.ensures.err
