use Rattle.std.proofs.Common.{◌∙◌, ap, sym, drop, option_and_then, eqb-true}
use Rattle.json_model.specs.Numbers.{is_canonical, unless_zero}
use Rattle.json_model.proofs.Decimals.{negated}
use Rattle.json_fields.proofs.numbers.negative.Goals as goal

pub returns : goal.returns
returns c =
    c.unless_zero.ensures ∙ ap (option_and_then unless_zero) c.ok.ensures.value
    ∙ negated c.args.text.now c.parse.result c.parse.ensures.value.0 (eqb-true _ _ c.requires)
    (sym (ap is_canonical (c.without_first.ensures ∙ ap (drop 1) c.as_bytes.ensures.value)) ∙ sym c.is_canonical.ensures ∙ c.if-not-is_canonical.false)
