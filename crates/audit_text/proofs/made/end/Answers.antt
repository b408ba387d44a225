-- It is the fault, or there is none.
use Rattle.std.proofs.Common.{sym, ◌∙◌}
use Rattle.audit_text.proofs.Clients.{fault_is}
use Rattle.audit_text.proofs.made.end.Goals as goal

pub returns-in-Some : goal.returns-in-Some
returns-in-Some c = record {
  taken = tt;
  fault = λ items g. fault_is c.in-Some.fault _ (sym (c.too_early.ensures items g) ∙ c.in-Some.is);
}

pub returns-in-None : goal.returns-in-None
returns-in-None c = record {
  taken = λ items g. sym (c.too_early.ensures items g) ∙ c.in-None.is;
  fault = tt;
}
