use Rattle.std.proofs.Common.{arith, sym}
use Rattle.text_words.proofs.Numbers.{number_found}
use Rattle.text_words.proofs.read_words.number_of.Goals as goal

pub returns-then-is_decimal-clause-value : goal.returns-then-is_decimal-clause-value
returns-then-is_decimal-clause-value c =
    number_found c.args.word.now c.args.low c.args.high c.guessed_number-number.result (omega (arith, c.ranges.high.fits)) c.if-low-number.true c.if-number-high.true (sym c.if-is_decimal.ensures)
