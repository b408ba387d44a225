-- What reading a line or an item returns.
use Rattle.std.specs.Prelude.{◌≡◌, ℕ, Result, Ok, Err}
use Rattle.script_text.specs.declared.fault.LineFault.{LineFault}
use Rattle.script_text.specs.declared.fault.LineFault.TheVariants.{BadLine, NoMemory}

-- the fault is want of memory, or names this line and the place that reading gives
abbrev pub Faults : {Y : Type 0} → ℕ → LineFault → Result Y ℕ → Type 0
Faults number (BadLine n place) read = (n ≡ number) × (read ≡ Err place)
Faults number NoMemory read = Unit {0}

-- what was returned for the line with this number is what reading gives, unless memory ran out
abbrev pub Reads : {Y : Type 0} → ℕ → Result Y LineFault → Result Y ℕ → Type 0
Reads number (Ok x) read = read ≡ Ok x
Reads number (Err e) read = Faults number e read
