-- Memory was wanting.
use Rattle.std.proofs.Common.{false, refl}
use Rattle.etcd_proxy.proofs.ending.generate.Goals as goal

pub returns-in-Err-clause-generates : goal.returns-in-Err-clause-generates
returns-in-Err-clause-generates g c = record {
  made = false;
  summary = record { asked = 0; replied = 0; unsent = 0; revision = 0 };
  tells = λ e. absurd (cc);
  prints = λ e. absurd (cc);
  wants = λ e. (refl, refl, c.tell.ensures);
}
