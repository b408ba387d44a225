-- What is written so far and the letters that are left are together all the letters.
use Rattle.std.proofs.Common.{◌≡◌, ◌++◌, true, nat_lt, string_bytes, drop}
use Rattle.std.specs.List.{list_all}
use Rattle.text_model.specs.Words.{letters}
use Rattle.text_words.proofs.flags.push_letters.Given as goal

abbrev pub invariant-loop-letter : goal.invariant-loop-letter
invariant-loop-letter l = record {
  written : string_bytes l.out ++ letters (drop l.letter-index l.flags) ≡ string_bytes l.initial.out ++ letters l.flags;
  ascii : list_all (λ flag. nat_lt flag.0 128) (drop l.letter-index l.flags) ≡ true;
}
