-- What a function that reads words returns.
use Rattle.std.specs.Prelude.{◌≡◌, ℕ, Result, Ok, Err}
use Rattle.text_words.specs.declared.fault.ReadError.{ReadError}
use Rattle.text_words.specs.declared.fault.ReadError.TheVariants.{NoMemory, Wrong}

-- the error is want of memory, or the one that reading gives
abbrev pub Fails : {Y : Type 0} → ReadError → Result Y ℕ → Type 0
Fails NoMemory read = Unit {0}
Fails (Wrong left) read = read ≡ Err left

-- what was returned, seen by `view`, is what reading gives, unless memory ran out
abbrev pub Gives : {X Y : Type 0} → (X → Y) → Result X ReadError → Result Y ℕ → Type 0
Gives view (Ok x) read = read ≡ Ok (view x)
Gives view (Err e) read = Fails e read

-- the error is about a word
abbrev pub IsWrong : ReadError → Type 0
IsWrong NoMemory = ⊥
IsWrong (Wrong left) = Unit {0}
