use Rattle.std.proofs.Common.{List, ℕ, Some, sym, ap, ◌∙◌}
use Rattle.text_words.proofs.BytesWords.{plain_word, tilde_word}
use Rattle.text_words.proofs.read_words.bytes_of.Goals as goal

pub returns-then-is_tilde : goal.returns-then-is_tilde
returns-then-is_tilde c =
    ap (λ (b : List ℕ). Some b) c.new.ensures ∙ sym (tilde_word c.args.word.now (sym c.is_tilde.ensures ∙ c.if-is_tilde.true))

pub returns-then-is_plain_word : goal.returns-then-is_plain_word
returns-then-is_plain_word c =
    ap (λ (b : List ℕ). Some b) c.in_ok-from_slice.ensures ∙ sym (plain_word c.args.word.now (sym c.is_plain_word.ensures ∙ c.if-is_plain_word.true))
