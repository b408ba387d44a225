use Rattle.std.proofs.Common.{◌∙◌, ℕ, List, ap₂, sym, slice_get, lit<}
use Rattle.std.proofs.lemmas.Iterator.Consumers.{nth_from_yields_List}
use Rattle.std.proofs.lemmas.Iterator.Splits.{YieldsList-from_str_split}
use Rattle.json_fields.proofs.NameLemmas.{words_some}
use Rattle.json_fields.proofs.names.name_at.Goals as goal

pub returns : goal.returns
returns c =
    nth_from_yields_List c.nth.result c.nth.new.self c.from.result c.nth.ensures.ran
    (YieldsList-from_str_split 32 c.args.table.now (lit< tt) c.split.ensures.text c.split.ensures.has_more c.split.ensures.pattern)
    ∙ ap₂ (λ (ws : List (List ℕ)) (n : ℕ). slice_get ws n) (words_some c.args.table.now (sym c.is_empty.ensures ∙ c.if-is_empty.false)) c.from.ensures
