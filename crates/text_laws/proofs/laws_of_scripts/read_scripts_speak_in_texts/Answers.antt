use Rattle.text_laws.proofs.Scripts.Asked.{asked_fit, scripts_speak}
use Rattle.text_laws.proofs.laws_of_scripts.read_scripts_speak_in_texts.Goals as goal

pub returns : goal.returns
returns c = record { asked = asked_fit; spoken = scripts_speak }
