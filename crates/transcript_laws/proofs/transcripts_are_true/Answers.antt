use Rattle.transcript_laws.proofs.Truth.{transcripts_are_true}
use Rattle.transcript_laws.proofs.transcripts_are_true.Goals as goal

pub returns : goal.returns
returns c = transcripts_are_true
