use Rattle.line_texts.proofs.Feeds.{transcripts_cut}
use Rattle.line_texts.proofs.transcripts_are_cut.Goals as goal

pub returns : goal.returns
returns c = transcripts_cut
