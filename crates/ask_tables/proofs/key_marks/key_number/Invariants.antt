-- What is left of the key leads to its number.
use Rattle.std.proofs.Common.{◌≡◌, drop}
use Rattle.ask_tables.specs.KeyMarks.{number_from, key_number}
use Rattle.ask_tables.proofs.key_marks.key_number.Given as goal

abbrev pub invariant-loop-byte : goal.invariant-loop-byte
invariant-loop-byte l = number_from l.number (drop l.byte-index l.key) ≡ key_number l.key
