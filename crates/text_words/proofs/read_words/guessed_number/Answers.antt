use Rattle.std.proofs.Common.{◌∙◌, arith}
use Rattle.text_words.proofs.Numbers.{next_digit, kept_whole, all_digits}
use Rattle.text_words.proofs.read_words.guessed_number.Goals as goal

pub loop-byte-preserved : goal.loop-byte-preserved
loop-byte-preserved c = λ n lt e.
    let d = next_digit c.args.word.now c.loop-byte.byte-index n (omega arith) lt e in
    kept_whole _ _ _ _ _ (c.loop-byte.invariant n lt e) c.from-digit.ensures d.digit d.value d.small

pub returns : goal.returns
returns c = λ n lt e. c.loop-byte.invariant n lt e ∙ all_digits c.args.word.now c.loop-byte.byte-index n (omega arith) lt e
