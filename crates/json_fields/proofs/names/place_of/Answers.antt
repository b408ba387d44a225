use Rattle.std.proofs.Common.{◌==◌, ◌∙◌, ap, sym, rules, position}
use Rattle.std.specs.Str.{bytes_eq}
use Rattle.std.proofs.lemmas.Iterator.Search.{position_from_yields_List}
use Rattle.std.proofs.lemmas.Iterator.Splits.{YieldsList-from_slice_split}
use borrow.Author.Tests.{tests}
use Rattle.json_fields.proofs.NameLemmas.{words_some}
use Rattle.json_fields.proofs.names.place_of.Goals as goal

pub returns : goal.returns
returns c =
    position_from_yields_List (λ name. bytes_eq c.args.text.now name) _ _ c.position.result c.position.ensures.ran
    (YieldsList-from_slice_split _ (λ b. b == 32) c.args.table.now c.split.ensures.rest c.split.ensures.done c.split.ensures.closure (λ x b q k. search (rules, tests)))
    (λ x b q k. search (rules, tests))
    ∙ ap (position (λ name. bytes_eq c.args.text.now name)) (words_some c.args.table.now (sym c.is_empty.ensures ∙ c.if-is_empty.false))
