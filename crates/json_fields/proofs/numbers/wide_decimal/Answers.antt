use Rattle.std.proofs.Common.{◌∙◌, ap, sym}
use Rattle.json_model.specs.Numbers.{is_canonical}
use Rattle.json_model.proofs.Decimals.{parsed}
use Rattle.json_fields.proofs.numbers.wide_decimal.Goals as goal

pub returns : goal.returns
returns c =
    c.ok.ensures.value
    ∙ parsed c.args.text.now c.parse.result c.parse.ensures.value.0 (sym (ap is_canonical c.as_bytes.ensures.value) ∙ sym c.is_canonical.ensures ∙ c.if-not-is_canonical.false)
