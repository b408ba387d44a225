use Rattle.core_laws.proofs.PlainReads.Releases.{released_ok}
use Rattle.core_laws.proofs.laws_of_reads.release_stands.Goals as goal

pub returns : goal.returns
returns c = released_ok
