-- What a reader answers.
use Rattle.std.specs.Prelude.{◌≡◌, Option, None, Some, Result, Ok, Err}
use Rattle.lease_txn.specs.declared.not_shape.NotShape.{NotShape}
use Rattle.lease_txn.specs.declared.not_shape.NotShape.TheVariants.{Shape, NoMemory}

-- what is to be read; `Shape` exactly where there is nothing to be read; or memory was wanting
abbrev pub Reads : {A : Type 0} → Result A NotShape → Option A → Type 0
Reads (Ok x) read = read ≡ Some x
Reads (Err Shape) read = read ≡ None
Reads (Err NoMemory) read = Unit {0}
