-- Of a word that spells a number, the digits so far.
use Rattle.std.proofs.Common.{◌≡◌, ◌<◌, ◌^◌, ℕ, take, decimal}
use Rattle.std.specs.Str.Parse.{digits_value}
use Rattle.text_words.proofs.read_words.guessed_number.Given as goal

abbrev pub invariant-loop-byte : goal.invariant-loop-byte
invariant-loop-byte l = (n : ℕ) → n < 2 ^ 64 → l.word ≡ decimal n → l.number ≡ digits_value 10 (take l.byte-index l.word)
