-- A chain of steps that may be a fault, and what a body gave of its first step.
use Rattle.std.proofs.Common.{List, ◌++◌, Result, Ok, ap}
use Rattle.json_model.specs.declared.fault.FieldFault.{FieldFault}
use Rattle.json_model.specs.declared.fault.FieldFault.TheVariants as fields
use Rattle.json_model.specs.Faults.{◌>>=◌, FieldFails}

-- the first fault is the chain's
pub fails_first : {A B : Type 0} (e : FieldFault) (r : Result A FieldFault) (f : A → Result B FieldFault) → FieldFails e r → FieldFails e (r >>= f)
fails_first (fields.WrongKind n) r f h = ap (λ s. s >>= f) h
fails_first (fields.BadNumber n) r f h = ap (λ s. s >>= f) h
fails_first (fields.BadBase64 n) r f h = ap (λ s. s >>= f) h
fails_first (fields.UnknownField n) r f h = ap (λ s. s >>= f) h
fails_first (fields.TwiceNamed n) r f h = ap (λ s. s >>= f) h
fails_first (fields.BadEnum n) r f h = ap (λ s. s >>= f) h
fails_first fields.NoMemory r f h = tt

-- what was read so far stands before what is left to read
abbrev pub with_front : {A : Type 0} → List A → Result (List A) FieldFault → Result (List A) FieldFault
with_front front read = read >>= λ xs. Ok (front ++ xs)
