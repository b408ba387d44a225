use Rattle.text_laws.proofs.Items.Scripts.{texts_as_made}
use Rattle.text_laws.proofs.Items.ReadLines.{scripts_have_texts}
use Rattle.text_laws.proofs.laws_of_items.items_have_texts_as_made.Goals as goal

pub returns : goal.returns
returns c = record { lines = texts_as_made; scripts = scripts_have_texts }
