-- By an induction over the items.
use Rattle.audit_laws.proofs.Splits.{meets_at, meets_all}
use Rattle.audit_laws.proofs.laws.each_item_keeps_the_rules.Goals as goal

pub returns : goal.returns
returns c = record { only = meets_at; all = meets_all }
