-- Marks that end with the ticket: by what a request waits for, and by a number that is made of the key at which a read waits. Two keys
-- may have one number; then the reads of both are looked at.
use Rattle.std.specs.Prelude.{ℕ, ◌+◌, ◌*◌, ◌%◌, ◌^◌, if◌then◌else◌, List, [], ◌∷◌}
use Rattle.read_model.specs.declared.asked.Asked.{Asked}
use Rattle.read_model.specs.PlainRead.{ask_key}
use Rattle.ask_tables.specs.Marks.{stage_rank, stage_number}
use Rattle.ask_tables.specs.Waiting.{waits_at_key}

abbrev pub mixed : ℕ → ℕ → ℕ
mixed number byte = (number * 1099511628211 + byte) % 2 ^ 64

abbrev pub number_from : ℕ → List ℕ → ℕ
number_from number [] = number
number_from number (byte ∷ key) = number_from (mixed number byte) key

abbrev pub key_number : List ℕ → ℕ
key_number key = number_from 14695981039346656037 key

abbrev pub by_key : Asked → ℕ × ℕ
by_key a = if waits_at_key a.stage then (0, key_number (ask_key a)) else (1, 0)

abbrev pub by_wait : Asked → ℕ × ℕ
by_wait a = (stage_rank a.stage, stage_number a.stage)

abbrev pub ticket_mark : (Asked → ℕ × ℕ) → Asked → List ℕ
ticket_mark f a = (f a).0 ∷ (f a).1 ∷ a.ticket ∷ []
