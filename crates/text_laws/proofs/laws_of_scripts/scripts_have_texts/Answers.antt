use Rattle.text_laws.proofs.Scripts.FewChanges.{few_changes}
use Rattle.text_laws.proofs.Scripts.Scripts.{posts_are_short, scripts_have_texts}
use Rattle.text_laws.proofs.laws_of_scripts.scripts_have_texts.Goals as goal

pub returns : goal.returns
returns c = record { posts = posts_are_short; changes = few_changes; items = scripts_have_texts }
