use Rattle.replay_model.specs.Progress.{progress, finished}
use Rattle.replay_model.proofs.Transcripts.{progress_has, finished_has, items_are}
use Rattle.replay_model.proofs.laws.a_script_has_a_transcript.Goals as goal

pub returns : goal.returns
returns c = λ bytes. record {
  whole = items_are (progress bytes) (progress_has bytes);
  all = items_are (finished bytes) (finished_has bytes);
}
