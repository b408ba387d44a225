-- What is made for the job that was found.
use Rattle.std.proofs.Common.{◌∙◌}
use Rattle.proxy_core.proofs.Works.{is_made}
use Rattle.proxy_core.proofs.work.due.Goals as goal

pub returns : goal.returns
returns c = c.in_ok-made_for.ensures ∙ is_made c.args.machine.now.core c.in_ok-write.write c.in-Some.job c.in-Some.ensures c.in_ok-write.ensures
