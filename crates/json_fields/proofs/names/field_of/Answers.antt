use Rattle.std.proofs.Common.{◌==◌, ◌∙◌, ap, sym, find, rules}
use Rattle.std.proofs.lemmas.Iterator.Search.{find_from_yields_List}
use Rattle.std.proofs.lemmas.Iterator.Splits.{YieldsList-from_slice_split}
use borrow.Author.Tests.{tests}
use Rattle.json_model.specs.Names.{is_spelling}
use Rattle.json_fields.proofs.NameLemmas.{words_some}
use Rattle.json_fields.proofs.names.field_of.Goals as goal

pub returns : goal.returns
returns c =
    find_from_yields_List (λ name. is_spelling c.args.key.now name) _ _ c.find.result c.find.ensures.ran
    (YieldsList-from_slice_split _ (λ b. b == 32) c.args.names.now c.split.ensures.rest c.split.ensures.done c.split.ensures.closure (λ x b q k. search (rules, tests)))
    (λ x b q k. search (rules, tests))
    ∙ ap (find (λ name. is_spelling c.args.key.now name)) (words_some c.args.names.now (sym c.is_empty.ensures ∙ c.if-is_empty.false))
