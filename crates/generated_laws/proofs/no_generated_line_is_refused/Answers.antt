use Rattle.generated_laws.proofs.Begun.{none_is_refused}
use Rattle.generated_laws.proofs.no_generated_line_is_refused.Goals as goal

pub returns : goal.returns
returns c = none_is_refused
