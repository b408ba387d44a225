use Rattle.text_laws.proofs.Scripts.Growth.{stores_stay_small, small_scripts_speak}
use Rattle.text_laws.proofs.laws_of_scripts.small_scripts_speak_in_texts.Goals as goal

pub returns : goal.returns
returns c = record { small = stores_stay_small; spoken = small_scripts_speak }
