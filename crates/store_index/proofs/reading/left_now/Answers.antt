use Rattle.std.proofs.Common.{◌∙◌, sym}
use Rattle.store_index.proofs.ReadLemmas.{last_there}
use Rattle.store_index.proofs.reading.left_now.Goals as goal

pub returns-in-Some : goal.returns-in-Some
returns-in-Some c = c.as_ref.ensures.value ∙ sym (last_there c.args.versions.now c.in-Some.version.now (sym c.in-Some.ensures.value))
