-- The texts of the refusals that verdicts stand for.
use Rattle.std.specs.Prelude.{ℕ, List, []}
use Rattle.proxy_model.specs.PassingOn.{call_lost}
use Rattle.read_model.specs.declared.asked.Verdict.{Verdict}
use Rattle.read_model.specs.declared.asked.Verdict.TheVariants as verdict
use Rattle.core_model.specs.Verdicts.{timed_out, no_greater_revision}

abbrev pub text_of : Verdict → List ℕ
text_of (verdict.Said a) = []
text_of verdict.TimedOut = timed_out.text
text_of verdict.Lost = call_lost.text
text_of verdict.Stale = no_greater_revision.text
